-- By what the id is found to be.
use Rattle.std.proofs.Common.{◌∙◌, ◌+◌, sym, ap, subst, refl, arith}
use Rattle.std.proofs.lemmas.Option.{slice_get_within}
use Rattle.alethe_reader.specs.Judging.{is_named}
use Rattle.alethe_reader.specs.Standing.{IsStandingOf}
use Rattle.alethe_reader.proofs.WrittenStays.{unused_now, used_here}
use Rattle.alethe_reader.proofs.StandingSteps.{stands_here, stands_nowhere, stands_closing}
use Rattle.alethe_reader.proofs.standing.standing_at.Goals as goal

pub returns-in_default : goal.returns-in_default
returns-in_default c s v p symbol w =
    subst (λ t. IsStandingOf c.args.session.now.ids.used p (is_named c.args.id) t) (sym c.standing_here.ensures)
    (stands_here s v c.args.session.now p (is_named c.args.id) w c.len.result c.len.ensures symbol (unused_now c.args.session.now.ids.used c.args.id.name.now c.args.found c.requires c.in_default.is))

pub closing-requires : goal.closing-requires
closing-requires c =
    let (front, split, place) = c.in-Some-closed_by.ensures.some in
    let w = slice_get_within c.args.session.now.ids.used c.in-Some.found.place _ (used_here c.args.session.now.ids.used c.args.id.name.now c.args.found c.in-Some.found c.requires c.in-Some.is).here in
    omega (arith, place, w, c.len-in-Some-closed_by.ensures)

pub returns-in-Some-closed_by : goal.returns-in-Some-closed_by
returns-in-Some-closed_by c s v p symbol w =
    let (front, split, place) = c.in-Some-closed_by.ensures.some in
    subst (λ t. IsStandingOf c.args.session.now.ids.used p (is_named c.args.id) t) (sym c.closing.ensures)
    (stands_closing s v c.args.session.now p (is_named c.args.id) w c.in-Some.found (used_here c.args.session.now.ids.used c.args.id.name.now c.args.found c.in-Some.found c.requires c.in-Some.is) front c.in-Some-closed_by.anchor (sym c.deref.ensures.value ∙ split) place
    (c.in-Some-closed_by.anchor.ids + 1) c.len-in-Some-closed_by.result refl c.len-in-Some-closed_by.ensures)

pub returns-in-None : goal.returns-in-None
returns-in-None c s v p symbol w =
    stands_nowhere s v c.args.session.now p (is_named c.args.id) w c.in-Some.found (used_here c.args.session.now.ids.used c.args.id.name.now c.args.found c.in-Some.found c.requires c.in-Some.is)
    (λ front a e. c.in-None.ensures.none front a (c.deref.ensures.value ∙ e))
    c.refused.result (c.refused.ensures ∙ ap (λ k. record { cause = k; at = c.args.id.place }) c.cause_of.ensures)
