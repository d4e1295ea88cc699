-- Public. The rules whose condition a step may meet by its clause alone, and the first of them that a clause meets (Alethe specification,
-- "List of rules").
use Rattle.std.specs.Prelude.{◌≡◌, ◌<◌, ℕ, Bool, true, false, List, [], filter, length, Option, Some, None, slice_get}
use Rattle.term_model.specs.Terms.{Term}
use Rattle.rule_model.specs.declared.rules.Mode.{Mode}
use Rattle.rule_model.specs.declared.rules.Rule.{Rule}
use Rattle.rule_model.specs.Conditions.{Met, IsTooWide}
use Rattle.rule_model.specs.Judged.{Judged}
use Rattle.rule_model.specs.RuleNames.{known_rules}

-- Whether a step without premises may meet the rule's condition by its clause, without coefficients and outside of all anchors: not a rule
-- that leaves a hole, takes premises, closes a scope or needs coefficients, and not resolution or refl.
abbrev pub is_lone : Rule → Bool
is_lone Rule.Assume = false
is_lone Rule.Unknown = false
is_lone Rule.Hole = false
is_lone Rule.LiaGeneric = false
is_lone Rule.RareRewrite = false
is_lone Rule.AllSimplify = false
is_lone Rule.True = true
is_lone Rule.False = true
is_lone Rule.NotNot = true
is_lone Rule.AndPos = true
is_lone Rule.AndNeg = true
is_lone Rule.OrPos = true
is_lone Rule.OrNeg = true
is_lone Rule.XorPos1 = true
is_lone Rule.XorPos2 = true
is_lone Rule.XorNeg1 = true
is_lone Rule.XorNeg2 = true
is_lone Rule.ImpliesPos = true
is_lone Rule.ImpliesNeg1 = true
is_lone Rule.ImpliesNeg2 = true
is_lone Rule.EquivPos1 = true
is_lone Rule.EquivPos2 = true
is_lone Rule.EquivNeg1 = true
is_lone Rule.EquivNeg2 = true
is_lone Rule.ItePos1 = true
is_lone Rule.ItePos2 = true
is_lone Rule.IteNeg1 = true
is_lone Rule.IteNeg2 = true
is_lone Rule.And = false
is_lone Rule.Or = false
is_lone Rule.NotOr = false
is_lone Rule.NotAnd = false
is_lone Rule.Xor1 = false
is_lone Rule.Xor2 = false
is_lone Rule.NotXor1 = false
is_lone Rule.NotXor2 = false
is_lone Rule.Implies = false
is_lone Rule.NotImplies1 = false
is_lone Rule.NotImplies2 = false
is_lone Rule.Equiv1 = false
is_lone Rule.Equiv2 = false
is_lone Rule.NotEquiv1 = false
is_lone Rule.NotEquiv2 = false
is_lone Rule.Ite1 = false
is_lone Rule.Ite2 = false
is_lone Rule.NotIte1 = false
is_lone Rule.NotIte2 = false
is_lone Rule.Contraction = false
is_lone Rule.Reordering = false
is_lone Rule.Weakening = false
is_lone Rule.Tautology = false
is_lone Rule.Resolution = false
is_lone Rule.ThResolution = false
is_lone Rule.Refl = false
is_lone Rule.Symm = false
is_lone Rule.NotSymm = false
is_lone Rule.Trans = true
is_lone Rule.Cong = true
is_lone Rule.EqReflexive = true
is_lone Rule.EqSymmetric = true
is_lone Rule.EqTransitive = true
is_lone Rule.EqCongruent = true
is_lone Rule.EqCongruentPred = true
is_lone Rule.Subproof = false
is_lone Rule.Let = false
is_lone Rule.ConnectiveDef = true
is_lone Rule.IteIntro = true
is_lone Rule.DistinctElim = true
is_lone Rule.NotSimplify = true
is_lone Rule.ImpliesSimplify = true
is_lone Rule.EquivSimplify = true
is_lone Rule.BoolSimplify = true
is_lone Rule.IteSimplify = true
is_lone Rule.EqSimplify = true
is_lone Rule.CompSimplify = true
is_lone Rule.AndSimplify = true
is_lone Rule.OrSimplify = true
is_lone Rule.LaGeneric = false
is_lone Rule.LaDisequality = true
is_lone Rule.LaTotality = true
is_lone Rule.LaRwEq = true
is_lone Rule.SumSimplify = true
is_lone Rule.ProdSimplify = true
is_lone Rule.MinusSimplify = true
is_lone Rule.UnaryMinusSimplify = true

-- these rules, in the order of the known ones
abbrev pub lone_rules : List Rule
lone_rules = filter is_lone known_rules

-- a step of check mode that concludes the clause by the rule from nothing
abbrev pub lone_step : Rule → List Term → Judged
lone_step rule clause = record {
  mode = Mode.Check;
  rule = rule;
  clause = clause;
  premises = [];
  pivots = [];
  ratios = None;
  anchors = [];
}

-- it meets the rule's condition, and its numbers are not too wide
pub record IsMetAlone (clause : List Term) (rule : Rule) : Type 0 where
  pub met : Met (lone_step rule clause)
  pub narrow : ¬ IsTooWide (lone_step rule clause)

-- none of the first n rules of a list is met by the clause
abbrev pub AreUnmetTo : List Term → List Rule → ℕ → Type 0
AreUnmetTo clause rules n = (k : ℕ) (rule : Rule) → k < n → slice_get rules k ≡ Some rule → ¬ IsMetAlone clause rule

-- the rule at this place is the first of a list that the clause meets
pub record IsFirstAt (clause : List Term) (rules : List Rule) (rule : Rule) (place : ℕ) : Type 0 where
  pub there : slice_get rules place ≡ Some rule
  pub met : IsMetAlone clause rule
  pub first : AreUnmetTo clause rules place

-- what is found of a list: the first rule that the clause meets, or that it meets none
abbrev pub IsFound : List Term → List Rule → Option Rule → Type 0
IsFound clause rules (Some rule) = (place : ℕ) × IsFirstAt clause rules rule place
IsFound clause rules None = AreUnmetTo clause rules (length rules)

-- the first of the rules that a clause meets alone, or that there is none
abbrev pub IsLoneRuleOf : List Term → Option Rule → Type 0
IsLoneRuleOf clause found = IsFound clause lone_rules found
