-- Cited by crates above. The premises of a step as lists of references.
use Rattle.std.proofs.Common.{◌≡◌, ◌≢◌, ◌∷◌, [], List, ℕ, length, All, refl, ap, subst}
use Rattle.std.proofs.lemmas.List.Elements.{All-head}
use Rattle.std.specs.Borrow.{Bor}
use Rattle.sym_table.specs.Table.{Table}
use Rattle.term_model.specs.Terms.{Term}
use Rattle.term_pool.specs.Views.{TermsView, RefersTo, ReferToAll, IsTerm}
use Rattle.schema_match.specs.Premises.{IsOneUnit, IsNoUnit}
use Rattle.term_parts.specs.Judging.{ReferToClauses}

-- the premises' references and clauses
module _ (s : Table) (v : TermsView) where
  pub no_premises : (premises : List (Bor (List ℕ))) (ps : List (List Term)) → length premises ≡ 0 → ReferToClauses s v premises ps → ps ≡ []
  no_premises [] [] e h = refl
  no_premises [] (p ∷ ps) e h = absurd h
  no_premises (q ∷ premises) ps e h = absurd cc

  pub some_premises : (premises : List (Bor (List ℕ))) (ps : List (List Term)) → length premises ≢ 0 → ReferToClauses s v premises ps → ps ≢ []
  some_premises [] ps some h e = some refl
  some_premises (q ∷ premises) [] some h e = h
  some_premises (q ∷ premises) (p ∷ ps) some h e = cc

  inner : (q : List ℕ) (r : ℕ) (p : List Term) → q ≡ r ∷ [] → ReferToAll s v q p → (t : Term) × (p ≡ t ∷ []) × RefersTo s v r t
  inner q r [] e h = absurd (subst (λ rs. ReferToAll s v rs []) e h)
  inner q r (t ∷ []) e h = (t, refl, (subst (λ rs. ReferToAll s v rs (t ∷ [])) e h).0)
  inner q r (t ∷ u ∷ p) e h = absurd (subst (λ rs. ReferToAll s v rs (t ∷ u ∷ p)) e h).1

  pub unit_term : (premises : List (Bor (List ℕ))) (r : ℕ) (ps : List (List Term)) → IsOneUnit premises r → ReferToClauses s v premises ps → (t : Term) × (ps ≡ (t ∷ []) ∷ []) × RefersTo s v r t
  unit_term [] r ps e h = absurd cc
  unit_term (q ∷ []) r [] e h = absurd h
  unit_term (q ∷ []) r (p ∷ []) e h = go (inner q.now r p (first_is e) h.0)
    where
      first_is : q.now ∷ [] ≡ (r ∷ []) ∷ [] → q.now ≡ r ∷ []
      first_is e = cc

      go : ((t : Term) × (p ≡ t ∷ []) × RefersTo s v r t) → (t : Term) × (p ∷ [] ≡ (t ∷ []) ∷ []) × RefersTo s v r t
      go (t, same, refers) = (t, ap (λ x. x ∷ []) same, refers)
  unit_term (q ∷ []) r (p ∷ x ∷ ps) e h = absurd h.1
  unit_term (q ∷ x ∷ premises) r ps e h = absurd cc

  pub unit_is_term : (premises : List (Bor (List ℕ))) (r : ℕ) → IsOneUnit premises r → All (λ p. All (IsTerm s v) p.now) premises → IsTerm s v r
  unit_is_term [] r e h = absurd cc
  unit_is_term (q ∷ []) r e h = All-head (IsTerm s v) r [] (subst (All (IsTerm s v)) (first_is e) (All-head (λ p. All (IsTerm s v) p.now) q [] h))
    where
      first_is : q.now ∷ [] ≡ (r ∷ []) ∷ [] → q.now ≡ r ∷ []
      first_is e = cc
  unit_is_term (q ∷ x ∷ premises) r e h = absurd cc

  pub no_unit : (premises : List (Bor (List ℕ))) (ps : List (List Term)) (t : Term) → IsNoUnit premises → ReferToClauses s v premises ps → ps ≢ (t ∷ []) ∷ []
  no_unit [] ps t none h e = absurd (let no_clause = no_premises [] ps refl h in cc)
  no_unit (q ∷ premises) [] t none h e = h
  no_unit (q ∷ []) (p ∷ ps) t none h e = one_literal q.now p (first_clause e) h.0 (λ r same. none r (ap (λ x. x ∷ []) same))
    where
      first_clause : p ∷ ps ≡ (t ∷ []) ∷ [] → p ≡ t ∷ []
      first_clause e = cc

      one_literal : (rs : List ℕ) (p : List Term) → p ≡ t ∷ [] → ReferToAll s v rs p → ((r : ℕ) → rs ≢ r ∷ []) → ⊥
      one_literal [] p e h none = absurd (subst (ReferToAll s v []) e h)
      one_literal (r ∷ []) p e h none = none r refl
      one_literal (r ∷ x ∷ rs) p e h none = absurd (subst (ReferToAll s v (r ∷ x ∷ rs)) e h).1
  no_unit (q ∷ x ∷ premises) (p ∷ []) t none h e = h.1
  no_unit (q ∷ x ∷ premises) (p ∷ y ∷ ps) t none h e = absurd cc
