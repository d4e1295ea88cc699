-- What a rule of the family asks of a step, by its clauses.
use Rattle.std.proofs.Common.{◌≡◌, ◌≢◌, ◌↔◌, List, Bool, IsTrue, refl}
use Rattle.rule_model.specs.declared.kinds.Family.{Family}
use Rattle.rule_model.specs.declared.kinds.Kind.{Kind}
use Rattle.rule_model.specs.declared.rules.Mode.{Mode}
use Rattle.rule_model.specs.declared.rules.Rule.{Rule}
use Rattle.rule_model.specs.Conditions.{MeetsRule, Met}
use Rattle.rule_model.specs.Congruence.{Equates, Denies, AreCongruent, HangTogether, HangTogetherDenied, GivesPredicates}
use Rattle.rule_model.specs.Judged.{Judged}
use Rattle.rule_model.specs.RuleNames.{kind_of}
use Rattle.term_model.specs.Terms.{Term}
use Rattle.rules_congruence.specs.Predicates.{GivesPredicate}
use Rattle.rules_congruence.specs.Uses.{Together}
use Rattle.rules_congruence.specs.Rules.{uses_of, denied_uses_of, MeetsEquality}

-- a rule of the family asks what its case asks
rule_meets : (rule : Rule) (j : Judged) → kind_of rule ≡ Kind.Judged Family.Congruence → MeetsRule rule j ↔ MeetsEquality j.mode rule j.premises j.clause
rule_meets Rule.Symm j is = (λ h. h, λ h. h)
rule_meets Rule.NotSymm j is = (λ h. h, λ h. h)
rule_meets Rule.Trans j is = (λ h. h, λ h. h)
rule_meets Rule.Cong j is = (λ h. h, λ h. h)
rule_meets Rule.EqReflexive j is = (λ h. h, λ h. h)
rule_meets Rule.EqSymmetric j is = (λ h. h, λ h. h)
rule_meets Rule.EqTransitive j is = (λ h. h, λ h. h)
rule_meets Rule.EqCongruent j is = (λ h. h, λ h. h)
rule_meets Rule.EqCongruentPred j is = (λ h. h, λ h. h)
rule_meets _ j is = absurd cc

pub asks : (j : Judged) → kind_of j.rule ≡ Kind.Judged Family.Congruence → Met j ↔ MeetsEquality j.mode j.rule j.premises j.clause
asks j is = rule_meets j.rule j is

-- no rule of the family is left
pub none_left : (rule : Rule) → kind_of rule ≡ Kind.Judged Family.Congruence → rule ≢ Rule.Symm → rule ≢ Rule.NotSymm → rule ≢ Rule.EqReflexive →
    rule ≢ Rule.EqSymmetric → rule ≢ Rule.Trans → rule ≢ Rule.EqTransitive → rule ≢ Rule.Cong → rule ≢ Rule.EqCongruent →
    rule ≢ Rule.EqCongruentPred → ⊥
none_left Rule.Symm is a b c d e f g h i = a refl
none_left Rule.NotSymm is a b c d e f g h i = b refl
none_left Rule.EqReflexive is a b c d e f g h i = c refl
none_left Rule.EqSymmetric is a b c d e f g h i = d refl
none_left Rule.Trans is a b c d e f g h i = e refl
none_left Rule.EqTransitive is a b c d e f g h i = f refl
none_left Rule.Cong is a b c d e f g h i = g refl
none_left Rule.EqCongruent is a b c d e f g h i = h refl
none_left Rule.EqCongruentPred is a b c d e f g h i = i refl
none_left _ is a b c d e f g h i = absurd cc

-- how equalities are used, by the mode
pub cong_by : (mode : Mode) (b : Bool) (ps : List (List Term)) (ts : List Term) → IsTrue b ↔ Equates (AreCongruent (Together (uses_of mode))) ps ts → IsTrue b ↔ Equates (AreCongruent (HangTogether mode)) ps ts
cong_by Mode.Check b ps ts h = h
cong_by Mode.Strict b ps ts h = h

pub eq_congruent_by : (mode : Mode) (b : Bool) (ps : List (List Term)) (ts : List Term) → IsTrue b ↔ Denies (Equates (AreCongruent (Together (denied_uses_of mode)))) ps ts → IsTrue b ↔ Denies (Equates (AreCongruent (HangTogetherDenied mode))) ps ts
eq_congruent_by Mode.Check b ps ts h = h
eq_congruent_by Mode.Strict b ps ts h = h

pub eq_congruent_pred_by : (mode : Mode) (b : Bool) (ps : List (List Term)) (ts : List Term) → IsTrue b ↔ Denies (GivesPredicate (denied_uses_of mode)) ps ts → IsTrue b ↔ Denies (GivesPredicates mode) ps ts
eq_congruent_pred_by Mode.Check b ps ts h = h
eq_congruent_pred_by Mode.Strict b ps ts h = h
