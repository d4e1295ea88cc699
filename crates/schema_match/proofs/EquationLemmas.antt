-- Steps that state one equality.
use Rattle.std.proofs.Common.{◌≡◌, ◌≢◌, ℕ, List, [], ◌∷◌, length, refl, sym, ◌∙◌, ap, subst}
use Rattle.std.specs.Borrow.{Bor}
use Rattle.sym_table.specs.Table.{Table}
use Rattle.term_model.specs.Flips.{equality}
use Rattle.term_model.specs.Terms.{Term}
use Rattle.term_model.proofs.Lists.{same_one}
use Rattle.term_parts.specs.Parts.{AreSidesOf}
use Rattle.term_pool.specs.Views.{TermsView, RefersTo, ReferToAll}
use Rattle.rule_model.specs.Clausal.{as_it_stands}
use Rattle.schema_match.specs.Equations.{StatesEquality}
use Rattle.term_parts.specs.Judging.{ReferToClauses}
use Rattle.schema_match.proofs.PremiseLemmas.{no_premises, some_premises}

-- a step that states an equality
module _ (s : Table) (v : TermsView) (premises : List (Bor (List ℕ))) (clause : List ℕ) (ps : List (List Term)) (ts : List Term) (premises_are : ReferToClauses s v premises ps) (clause_is : ReferToAll s v clause ts) where
  pub with_premises : length premises ≢ 0 → (u w : Term) → ps ≡ [] → ts ≢ equality u w ∷ []
  with_premises some u w none e = some_premises s v premises ps some premises_are none

  pub with_literals : ((r : ℕ) → clause ≢ r ∷ []) → (u w : Term) → ps ≡ [] → ts ≢ equality u w ∷ []
  with_literals other u w none e = go clause other (subst (ReferToAll s v clause) e clause_is)
    where
      go : (rs : List ℕ) → ((r : ℕ) → rs ≢ r ∷ []) → ReferToAll s v rs (equality u w ∷ []) → ⊥
      go [] other h = h
      go (r ∷ []) other h = other r refl
      go (r ∷ q ∷ rs) other h = h.1

  module _ (r : ℕ) (is : clause ≡ r ∷ []) where
    one_literal : (x : Term) × (ts ≡ x ∷ []) × RefersTo s v r x
    one_literal = go ts (subst (λ rs. ReferToAll s v rs ts) is clause_is)
      where
        go : (xs : List Term) → ReferToAll s v (r ∷ []) xs → (x : Term) × (xs ≡ x ∷ []) × RefersTo s v r x
        go [] h = absurd h
        go (x ∷ []) h = (x, refl, h.0)
        go (x ∷ y ∷ xs) h = absurd h.1

    pub no_equation : ((t u w : Term) → RefersTo s v r t → t ≢ equality u w) → (u w : Term) → ps ≡ [] → ts ≢ equality u w ∷ []
    no_equation other u w none e =
        other one_literal.0 u w one_literal.2 (same_one one_literal.0 (equality u w) (sym one_literal.1 ∙ e))

    pub equation_is : (p : ℕ × ℕ) → length premises ≡ 0 → ((t : Term) → RefersTo s v r t → AreSidesOf s v as_it_stands p t) → StatesEquality s v p ps ts
    equation_is p empty sides =
        let h = sides one_literal.0 one_literal.2 in
        record {
          left = h.left;
          right = h.right;
          left_refers = h.left_refers;
          right_refers = h.right_refers;
          none = no_premises s v premises ps empty premises_are;
          literal = one_literal.1 ∙ ap (λ x. x ∷ []) h.is;
        }
