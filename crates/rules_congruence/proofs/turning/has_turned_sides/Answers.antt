use Rattle.rule_model.specs.Clausal.{as_it_stands}
use Rattle.rules_congruence.proofs.PartLemmas.{left_is_term, right_is_term}
use Rattle.rules_congruence.proofs.TurningLemmas.{turned_sides_by}
use Rattle.rules_congruence.proofs.turning.has_turned_sides.Goals as goal
use Rattle.term_parts.proofs.PartLemmas.{false_is}

pub returns-in_default-clause-turned : goal.returns-in_default-clause-turned
returns-in_default-clause-turned c t refers =
    false_is (λ h. c.in_default.ensures.other t h.one h.other refers h.is)

pub are_turned-requires-clause-old : goal.are_turned-requires-clause-old
are_turned-requires-clause-old c =
    rw c.sides_of.ensures.same (left_is_term c.args.symbols.now c.args.terms.now as_it_stands c.args.r c.in-Some.sides c.requires c.in-Some.ensures.sides)

pub are_turned-requires-clause-new : goal.are_turned-requires-clause-new
are_turned-requires-clause-new c =
    rw c.sides_of.ensures.same (right_is_term c.args.symbols.now c.args.terms.now as_it_stands c.args.r c.in-Some.sides c.requires c.in-Some.ensures.sides)

pub returns-clause-turned : goal.returns-clause-turned
returns-clause-turned c t refers =
    turned_sides_by c.args.symbols.now c.args.terms.now c.in-Some.sides c.are_turned.result t (c.in-Some.ensures.sides t refers)
    (rw c.sides_of.ensures.same at c.are_turned.ensures.turned)
