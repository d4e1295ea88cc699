use Rattle.std.proofs.Common.{inl, inr, ℕ, List, refl, sym, subst}
use Rattle.judged_texts.specs.declared.judgement.Judgement.{Judgement}
use Rattle.output_laws.specs.Again.{strictly, hole_rules, named_rules, SaysSo, SaySame}
use Rattle.output_laws.proofs.laws.elaborations_say_the_same.Goals as goal

both_say : (status : ℕ) (rules : List (List ℕ)) (first second : Judgement) → SaysSo status rules first → SaysSo status rules second → SaySame first second
both_say status rules first second (inl full) h = inl full
both_say status rules first second (inr is) h =
    inr (subst (λ n. SaysSo n (named_rules first) second) (sym is.0) (subst (λ names. SaysSo status names second) (sym is.1) h))

pub returns : goal.returns
returns c = λ problem options proof status bytes out apart bits others first second kept low h k.
    let rules = hole_rules out.checked in
    let say = c.checks_say_one_thing.ensures in
    both_say status rules first second
    (say problem options proof out.verdict rules status bits first (record { checked = out.checked; holes = refl }) out.is_status h)
    (say problem (strictly options) bytes out.verdict rules status others second
    (c.elaborations_are_valid_strictly.ensures.kept problem options proof status bytes out apart kept low) out.is_status k)
