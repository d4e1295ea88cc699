-- The command that was added closes the scope, and the scope around it is written on.
use Rattle.std.proofs.Common.{rules, arith, ◌≡◌, ◌<◌, ◌-◌, ◌^◌, suc}
use Rattle.rule_model.specs.Scopes.{next_index}
use Rattle.proof_store.specs.Drafts.{proof_of}
use Rattle.proof_store.proofs.ScopeWriting.{owner_of, owner_is, opened_here, close_writes}
use Rattle.proof_store.proofs.drafts.close.Goals as goal

pub returns-clause-writes : goal.returns-clause-writes
returns-clause-writes c =
    let d = c.args.draft.now in
    let h = c.requires.draft in
    let parent = owner_is d h (opened_here d c.args.step.id.now h c.requires.open_anchor) in
    let owner : c.unwrap_or-owner.result ≡ owner_of (proof_of d).nesting = search (rules, parent, c.parent.ensures, c.unwrap_or-owner.ensures) in
    let few : suc (next_index (proof_of d)) < 2 ^ 32 - 1 = omega (arith, c.requires.few) in
    rw (c.in_ok-index.ensures.added, owner) (close_writes d c.args.step h c.requires.open_anchor c.requires.may few)
