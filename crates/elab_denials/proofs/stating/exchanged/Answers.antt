use Rattle.std.proofs.Common.{refl}
use Rattle.elab_denials.proofs.Results.{handed_on}
use Rattle.elab_denials.proofs.StateLemmas.{exchangeable_given, exchangeable_made, exchangeable_turned}
use Rattle.elab_denials.proofs.WorkLemmas.{went_then, work_later}
use Rattle.elab_denials.proofs.stating.exchanged.Goals as goal

pub equality-requires : goal.equality-requires
equality-requires c = record {
  made = rw c.sides-a.ensures (exchangeable_turned c.args.at.now c.args.terms.now c.args.terms.now
      (record { pool = refl; pass = record { places = refl; shares = refl; grows = λ r t k. k; sees = λ r a b k. k } }) c.args.whole c.args.sides c.requires.exchangeable);
}

pub symmetric-requires-clause-work : goal.symmetric-requires-clause-work
symmetric-requires-clause-work c =
    let p = c.args.at.now in
    let keeps = c.in_ok-turned.ensures.went.keeps in
    work_later c.forms_stay.ensures p c.args.terms.now c.equality.new.terms c.args.work.now keeps
    (c.blocks_stay.ensures.block p c.args.terms.now c.equality.new.terms c.args.work.now.block keeps c.requires.work.block) c.requires.work

pub symmetric-requires-clause-turned : goal.symmetric-requires-clause-turned
symmetric-requires-clause-turned c =
    let h = c.requires.exchangeable in
    exchangeable_given c.args.at.now c.args.terms.now c.equality.new.terms c.in_ok-turned.ensures.went.keeps c.args.whole c.args.sides h c.in_ok-turned.turned
    (c.in_ok-turned.ensures.refers h.two h.one (rw c.sides-a.ensures h.two_refers) (rw c.sides-a.ensures h.one_refers))

pub symmetric-requires-clause-made : goal.symmetric-requires-clause-made
symmetric-requires-clause-made c =
    let h = c.requires.exchangeable in
    exchangeable_made c.args.at.now c.args.terms.now c.equality.new.terms c.in_ok-turned.ensures.went.keeps c.args.whole c.args.sides h c.in_ok-turned.turned
    (c.in_ok-turned.ensures.refers h.two h.one (rw c.sides-a.ensures h.two_refers) (rw c.sides-a.ensures h.one_refers))

pub returns-in_err-link-clause-went : goal.returns-in_err-link-clause-went
returns-in_err-link-clause-went c =
    went_then c.args.at.now c.args.terms.now c.equality.new.terms c.symmetric.new.terms c.in_ok-turned.ensures.went c.in_err-link.ensures.went

pub returns-in_err-link-clause-full : goal.returns-in_err-link-clause-full
returns-in_err-link-clause-full c = handed_on c.from_residual-in_err-link.result _ _ c.from_residual-in_err-link.ensures.1 c.in_err-link.ensures.full

pub returns-clause-turned : goal.returns-clause-turned
returns-clause-turned c t u l r =
    Rattle.elab_denials.proofs.WorkLemmas.later c.args.at.now c.equality.new.terms c.symmetric.new.terms c.in_ok-link.ensures.went.keeps c.in_ok-turned.turned _
    (c.in_ok-turned.ensures.refers u t (rw c.sides-a.ensures r) (rw c.sides-a.ensures l))

pub returns-clause-went : goal.returns-clause-went
returns-clause-went c =
    went_then c.args.at.now c.args.terms.now c.equality.new.terms c.symmetric.new.terms c.in_ok-turned.ensures.went c.in_ok-link.ensures.went
