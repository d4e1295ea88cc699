-- Private. What each rule of the family asks of the clauses of a step.
use Rattle.std.specs.Prelude.{List}
use Rattle.rule_model.specs.declared.rules.Mode.{Mode}
use Rattle.rule_model.specs.declared.rules.Rule.{Rule}
use Rattle.rule_model.specs.Clausal.{as_it_stands}
use Rattle.rule_model.specs.Congruence.{TurnsRound, IsReflexive, IsSymmetric, Equates, Denies, IsWay, AreCongruent, HangTogether}
use Rattle.rule_model.specs.Congruence.{HangTogetherDenied, GivesPredicates}
use Rattle.term_model.specs.Terms.{Term, not_of}
use Rattle.rules_congruence.specs.declared.uses.Uses.{Uses}

-- how cong uses its premises, and eq_congruent the equalities that its clause denies
abbrev pub uses_of : Mode → Uses
uses_of Mode.Check = Uses.Any
uses_of Mode.Strict = Uses.Differing

abbrev pub denied_uses_of : Mode → Uses
denied_uses_of Mode.Check = Uses.Any
denied_uses_of Mode.Strict = Uses.Each

-- the condition of the rule, by the mode, the premises' clauses and the clause
abbrev pub MeetsEquality : Mode → Rule → List (List Term) → List Term → Type 0
MeetsEquality mode Rule.Symm premises clause = TurnsRound as_it_stands premises clause
MeetsEquality mode Rule.NotSymm premises clause = TurnsRound not_of premises clause
MeetsEquality mode Rule.Trans premises clause = Equates (IsWay mode) premises clause
MeetsEquality mode Rule.Cong premises clause = Equates (AreCongruent (HangTogether mode)) premises clause
MeetsEquality mode Rule.EqReflexive premises clause = IsReflexive premises clause
MeetsEquality mode Rule.EqSymmetric premises clause = IsSymmetric premises clause
MeetsEquality mode Rule.EqTransitive premises clause = Denies (Equates (IsWay mode)) premises clause
MeetsEquality mode Rule.EqCongruent premises clause = Denies (Equates (AreCongruent (HangTogetherDenied mode))) premises clause
MeetsEquality mode Rule.EqCongruentPred premises clause = Denies (GivesPredicates mode) premises clause
MeetsEquality mode rule premises clause = ⊥
