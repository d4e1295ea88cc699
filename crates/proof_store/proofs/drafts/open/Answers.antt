-- The scope that was added is written on.
use Rattle.std.proofs.Common.{arith, ◌<◌, ◌-◌, ◌^◌, suc}
use Rattle.rule_model.specs.Scopes.{next_scope}
use Rattle.proof_store.specs.Drafts.{proof_of}
use Rattle.proof_store.proofs.ScopeWriting.{open_writes}
use Rattle.proof_store.proofs.drafts.open.Goals as goal

pub returns-clause-writes : goal.returns-clause-writes
returns-clause-writes c =
    let d = c.args.draft.now in
    let few : suc (next_scope (proof_of d)) < 2 ^ 32 - 1 = omega (arith, c.requires.few) in
    rw (c.in_ok-push.ensures.pushed, c.len-number.ensures) (open_writes d c.args.id.now c.args.bindings.now c.requires.draft c.requires.may few)
