use Rattle.std.proofs.Common.{List, []}
use Rattle.std.proofs.lemmas.List.Elements.{All-head}
use Rattle.term_model.specs.Terms.{Term}
use Rattle.term_pool.specs.Views.{IsTerm, RefersTo, ReferToAll}
use Rattle.rule_model.specs.Clausal.{as_it_stands}
use Rattle.term_parts.specs.Parts.{AreSidesOf}
use Rattle.term_parts.proofs.Options.{if_some, if_none}
use Rattle.rules_congruence.specs.Sides.{IsUnitOf}
use Rattle.rules_congruence.proofs.GivenLemmas.{unit_of, no_unit_of, not_one_literal}
use Rattle.rules_congruence.proofs.sides.unit_sides.Goals as goal

pub returns-in_default-clause-other : goal.returns-in_default-clause-other
returns-in_default-clause-other c clause refers =
    not_one_literal c.args.symbols.now c.args.terms.now c.args.clause.now clause c.in_default.ensures.other refers

pub sides_of-requires : goal.sides_of-requires
sides_of-requires c =
    All-head (IsTerm c.args.symbols.now c.args.terms.now) c.in-Some.literal [] (rw c.in-Some.ensures.one at c.requires)

pub returns-clause-unit : goal.returns-clause-unit
returns-clause-unit c =
    if_some (λ p. (t : Term) → RefersTo c.args.symbols.now c.args.terms.now c.in-Some.literal t → AreSidesOf c.args.symbols.now c.args.terms.now as_it_stands p t)
    (λ p. (clause : List Term) → ReferToAll c.args.symbols.now c.args.terms.now c.args.clause.now clause → IsUnitOf c.args.symbols.now c.args.terms.now p clause)
    c.sides_of.result
    (λ p sides clause refers. unit_of c.args.symbols.now c.args.terms.now c.args.clause.now c.in-Some.literal p clause c.in-Some.ensures.one sides refers)
    c.sides_of.ensures.sides

pub returns-clause-other : goal.returns-clause-other
returns-clause-other c =
    if_none c.sides_of.result
    (λ other clause refers. no_unit_of c.args.symbols.now c.args.terms.now c.args.clause.now c.in-Some.literal clause c.in-Some.ensures.one other refers)
    c.sides_of.ensures.other
