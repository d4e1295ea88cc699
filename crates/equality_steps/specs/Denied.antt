-- Public. The clauses of the rules of equality without premises: equalities that are denied, and what they give.
use Rattle.std.specs.Prelude.{◌≢◌, ℕ, List, [], ◌∷◌, ◌++◌, zip, All}
use Rattle.std.specs.List.{AllZip}
use Rattle.term_model.specs.declared.symbols.Sort.{Sort}
use Rattle.term_model.specs.Flips.{equality}
use Rattle.term_model.specs.Terms.{Term, not_of}
use Rattle.term_pool.specs.Views.{TermsView, RefersTo, ReferToAll}
use Rattle.rule_model.specs.Congruence.{Head, applied, denials}
use Rattle.equality_steps.specs.declared.site.Site.{Site}
use Rattle.equality_steps.specs.Sites.{AreSides, IsSideAt, IsLiteralAt}

-- the pairs of neighbors in a list that begins with this term, and its last term
abbrev pub neighbors : Term → List Term → List (Term × Term)
neighbors t [] = []
neighbors t (u ∷ us) = (t, u) ∷ neighbors u us

abbrev pub last_from : Term → List Term → Term
last_from t [] = t
last_from t (u ∷ us) = last_from u us

-- `(not (= t0 t1))` `(not (= t1 t2))` .. `(= t0 tn)`
abbrev pub way_clause : Term → List Term → List Term
way_clause t us = denials (neighbors t us) ++ equality t (last_from t us) ∷ []

-- the references stand for two terms or more, of one sort, which may stand there
pub record AreWay (p : Site) (v : TermsView) (refs : List ℕ) : Type 0 where
  pub sort : Sort
  pub first : Term
  pub others : List Term
  pub refer : ReferToAll p.symbols.now v refs (first ∷ others)
  pub some : others ≢ []
  pub first_fits : IsSideAt p sort first
  pub fit : All (IsSideAt p sort) others

-- `(not (= t1 u1))` .. `(not (= tn un))` `(= left right)`
abbrev pub congruent_clause : Head → List Term → List Term → List Term
congruent_clause head ts us = denials (zip ts us) ++ equality (applied head ts) (applied head us) ∷ []

-- the same with `(not left)` `right` at the end
abbrev pub implied_clause : Head → List Term → List Term → List Term
implied_clause head ts us = denials (zip ts us) ++ not_of (applied head ts) ∷ applied head us ∷ []

-- The references stand for applications of one head to as many arguments, one or more, that may stand there, and so do the arguments
-- at each place.
pub record AreApplied (p : Site) (v : TermsView) (a b : ℕ) : Type 0 where
  pub head : Head
  pub ts : List Term
  pub us : List Term
  pub some : ts ≢ []
  pub left_refers : RefersTo p.symbols.now v a (applied head ts)
  pub right_refers : RefersTo p.symbols.now v b (applied head us)
  pub sides : AreSides p (applied head ts) (applied head us)
  pub arguments : AllZip (AreSides p) ts us

-- the same of applications that are of Bool
pub record ArePredicates (p : Site) (v : TermsView) (a b : ℕ) : Type 0 where
  pub applied_are : AreApplied p v a b
  pub left : IsLiteralAt p (applied applied_are.head applied_are.ts)
  pub right : IsLiteralAt p (applied applied_are.head applied_are.us)
