-- Private. What eq_congruent_pred asks behind the equalities that it denies.
use Rattle.std.specs.Prelude.{◌⊎◌, List}
use Rattle.term_model.specs.Terms.{Term}
use Rattle.rule_model.specs.Congruence.{AreCongruent, AreCongruentTruths, Equates, Implies, IsImplied}
use Rattle.rules_congruence.specs.declared.uses.Uses.{Uses}
use Rattle.rules_congruence.specs.Uses.{Together}

-- one predicate is denied and the other stands: in this order, and where the equalities are used in any order also in the
-- other one
abbrev pub GivesOther : Uses → List (List Term) → List Term → Type 0
GivesOther Uses.Any premises clause =
    Implies (AreCongruent (Together Uses.Any)) premises clause ⊎ IsImplied (AreCongruent (Together Uses.Any)) premises clause
GivesOther Uses.Differing premises clause = Implies (AreCongruent (Together Uses.Differing)) premises clause
GivesOther Uses.Each premises clause = Implies (AreCongruent (Together Uses.Each)) premises clause

-- two predicates are equated, or one gives the other
abbrev pub GivesPredicate : Uses → List (List Term) → List Term → Type 0
GivesPredicate uses premises clause =
    Equates (AreCongruentTruths (Together uses)) premises clause ⊎ GivesOther uses premises clause
