-- The command that was added closes nothing.
use Rattle.std.proofs.Common.{arith, ◌<◌, ◌-◌, ◌^◌, suc, Result, Ok, Err, OnOk}
use Rattle.rule_model.specs.Scopes.{next_index}
use Rattle.proof_store.specs.Drafts.{proof_of}
use Rattle.proof_store.proofs.WritingLemmas.{stand_writes}
use Rattle.proof_store.proofs.drafts.stand.Goals as goal

where_ok : {T E P Q : Type 0} (r : Result T E) → (P → Q) → OnOk r P → OnOk r Q
where_ok (Ok x) f p = f p
where_ok (Err e) f p = tt

pub returns-clause-writes : goal.returns-clause-writes
returns-clause-writes c =
    let d = c.args.draft.now in
    let few : suc (next_index (proof_of d)) < 2 ^ 32 - 1 = omega (arith, c.requires.few) in
    let writes = stand_writes d c.args.step c.requires.draft c.requires.shut c.requires.may few in
    where_ok c.add.result (λ e. rw e writes) c.add.ensures.added
