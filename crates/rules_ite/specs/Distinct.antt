-- Private. What `distinct` of terms of one sort stands for.
use Rattle.std.specs.Prelude.{◌≡◌, ◌⊎◌, List, All}
use Rattle.term_model.specs.declared.symbols.Op.{Op}
use Rattle.term_model.specs.declared.symbols.Sort.{Sort}
use Rattle.term_model.specs.Sorts.{IsOf}
use Rattle.term_model.specs.Terms.{Term, operation, terms_of}
use Rattle.rule_model.specs.Ite.{AreInequalities, IsOfTwo, IsOfTruths, IsOfOthers}

-- all terms are of one sort
pub record AreOfOneSort (ts : List Term) : Type 0 where
  pub sort : Sort
  pub each : All (λ t. IsOf t sort) ts

-- the term is the conjunction of the inequalities of each two of some terms
pub record IsConjunction (ts : List Term) (t : Term) : Type 0 where
  pub literals : List Term
  pub each : AreInequalities ts literals
  pub is : t ≡ operation Op.And (terms_of literals)

abbrev pub IsOfDistinct : List Term → Term → Type 0
IsOfDistinct ts t = IsOfTwo ts t ⊎ (IsOfTruths ts t ⊎ IsOfOthers ts t)

-- the first term is a `distinct`, and the second what it stands for
pub record Eliminates (t u : Term) : Type 0 where
  pub ts : List Term
  pub is : t ≡ operation Op.Distinct (terms_of ts)
  pub stands_for : IsOfDistinct ts u
