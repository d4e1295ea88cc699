-- Public. The rules over `ite`, and the rules that say what a connective stands for (Alethe specification, "List of rules"):
-- connective_def, ite_intro and distinct_elim. Both modes ask the same.
use Rattle.std.specs.Prelude.{◌≡◌, ◌≢◌, ◌≤◌, ◌⊎◌, List, [], ◌∷◌, ◌++◌, length, All, Any}
use Rattle.std.specs.List.{AllZip}
use Rattle.term_model.specs.declared.symbols.Op.{Op}
use Rattle.term_model.specs.declared.symbols.Sort.{Sort}
use Rattle.term_model.specs.Flips.{equality, EqualUpToFlips}
use Rattle.term_model.specs.Sorts.{IsOf}
use Rattle.term_model.specs.Terms.{Term, operation, no_terms, terms_of, not_of}
use Rattle.rule_model.specs.Patterns.{a, b, c, no, conj, disj, xor, implies, ite}
use Rattle.rule_model.specs.Rewriting.{RewriteRow, ◌⇝◌, over_truths, Rewrites}

-- connective_def: what `xor`, the equality of two terms of Bool and `ite` over terms of Bool stand for
abbrev pub connective_definitions : List RewriteRow
connective_definitions =
    (xor a b ⇝ disj (conj (no a) b) (conj a (no b)))
    ∷ over_truths a b (conj (implies a b) (implies b a))
    ∷ (ite c a b ⇝ conj (implies c a) (implies (no c) b))
    ∷ []

pub record MeetsConnectiveDef (premises : List (List Term)) (clause : List Term) : Type 0 where
  pub left : Term
  pub right : Term
  pub none : premises ≡ []
  pub literal : clause ≡ equality left right ∷ []
  pub defined : Any (λ row. Rewrites row left right) connective_definitions

abbrev pub choice : Term → Term → Term → Term
choice condition t u = operation Op.Ite (terms_of (condition ∷ t ∷ u ∷ []))

-- what holds of every `ite`: up to flips, `(ite c (= m t) (= m u))` where m is `(ite c t u)`
pub record IsFactOfChoice (fact : Term) : Type 0 where
  pub condition : Term
  pub t : Term
  pub u : Term
  pub says :
      EqualUpToFlips fact (choice condition (equality (choice condition t u) t) (equality (choice condition t u) u))

-- ite_intro: a term, up to flips, beside some of these facts
pub record MeetsIteIntro (premises : List (List Term)) (clause : List Term) : Type 0 where
  pub left : Term
  pub first : Term
  pub facts : List Term
  pub none : premises ≡ []
  pub literal : clause ≡ equality left (operation Op.And (terms_of (first ∷ facts))) ∷ []
  pub same : EqualUpToFlips left first
  pub say : All IsFactOfChoice facts

-- `(not (= t u))` or `(not (= u t))`
abbrev pub IsInequality : Term → Term → Term → Type 0
IsInequality t u literal = (literal ≡ not_of (equality t u)) ⊎ (literal ≡ not_of (equality u t))

-- those of each two terms of a list: of the first with each later one, then of the second, and so on
abbrev pub AreInequalities : List Term → List Term → Type 0
AreInequalities [] literals = literals ≡ []
AreInequalities (t ∷ ts) literals =
    (here : List Term) × (later : List Term) × (literals ≡ here ++ later) × AllZip (IsInequality t) ts here × AreInequalities ts later

-- what `distinct` of two terms, of more of Bool, and of more of another sort stands for
abbrev pub IsOfTwo : List Term → Term → Type 0
IsOfTwo ts result = (t : Term) × (u : Term) × (ts ≡ t ∷ u ∷ []) × IsInequality t u result

pub record IsOfTruths (ts : List Term) (result : Term) : Type 0 where
  pub many : 3 ≤ length ts
  pub truths : All (λ t. IsOf t Sort.Bool) ts
  pub is : result ≡ operation Op.False no_terms

pub record IsOfOthers (ts : List Term) (result : Term) : Type 0 where
  pub sort : Sort
  pub literals : List Term
  pub many : 3 ≤ length ts
  pub other : sort ≢ Sort.Bool
  pub sorted : All (λ t. IsOf t sort) ts
  pub each : AreInequalities ts literals
  pub is : result ≡ operation Op.And (terms_of literals)

-- distinct_elim
pub record MeetsDistinctElim (premises : List (List Term)) (clause : List Term) : Type 0 where
  pub ts : List Term
  pub result : Term
  pub none : premises ≡ []
  pub literal : clause ≡ equality (operation Op.Distinct (terms_of ts)) result ∷ []
  pub stands_for : IsOfTwo ts result ⊎ (IsOfTruths ts result ⊎ IsOfOthers ts result)
