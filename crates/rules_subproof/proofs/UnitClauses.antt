-- Clauses that are one equality.
use Rattle.std.proofs.Common.{◌≡◌, ◌≢◌, ◌↔◌, ℕ, List, [], ◌∷◌, length, slice_index_or, sym, ◌∙◌, ap, arith}
use Rattle.std.specs.List.{AllZip}
use Rattle.sym_table.specs.Table.{Table}
use Rattle.term_model.specs.Flips.{equality}
use Rattle.term_model.specs.Terms.{Term}
use Rattle.term_pool.specs.Views.{TermsView, RefersTo}
use Rattle.rule_model.specs.Clausal.{as_it_stands}
use Rattle.rule_model.proofs.ArgumentLists.{same_sides}
use Rattle.term_parts.specs.Parts.{AreSidesOf}
use Rattle.rules_subproof.specs.Lets.{IsUnitOf}
use Rattle.term_model.proofs.Zips.{zip_length}
use Rattle.rules_subproof.proofs.Zips.{zip_one}

only_one : (rs : List ℕ) (l : ℕ) → length rs ≡ 1 → l ≡ slice_index_or rs 0 l → rs ≡ l ∷ []
only_one [] l one is = absurd (omega arith)
only_one (r ∷ []) l one is = ap (λ x. x ∷ []) (sym is)
only_one (r ∷ q ∷ rs) l one is = absurd (omega arith)

module _ (s : Table) (v : TermsView) where
  pub many_are_no_unit : (rs : List ℕ) (ts : List Term) (t u : Term) → ¬ (length rs ≡ 1) → AllZip (RefersTo s v) rs ts → ts ≢ equality t u ∷ []
  many_are_no_unit rs ts t u many zip e =
      many (let n = zip_length (RefersTo s v) rs ts zip in let m : length ts ≡ 1 = ap length e in omega arith)

  pub unit_of : (rs : List ℕ) (l : ℕ) (p : ℕ × ℕ) → length rs ≡ 1 → l ≡ slice_index_or rs 0 l → ((t : Term) → RefersTo s v l t → AreSidesOf s v as_it_stands p t) → (ts : List Term) → AllZip (RefersTo s v) rs ts → IsUnitOf s v p ts
  unit_of rs l p one is sides ts zip =
      let only = zip_one s v l rs ts (only_one rs l one is) zip in
      let are = sides only.0 only.2 in
      record {
        left = are.left;
        right = are.right;
        left_refers = are.left_refers;
        right_refers = are.right_refers;
        is = only.1 ∙ ap (λ t. t ∷ []) are.is;
      }

  pub no_unit : (rs : List ℕ) (l : ℕ) → length rs ≡ 1 → l ≡ slice_index_or rs 0 l → ((t u w : Term) → RefersTo s v l t → t ≢ equality u w) → (ts : List Term) (t u : Term) → AllZip (RefersTo s v) rs ts → ts ≢ equality t u ∷ []
  no_unit rs l one is other ts t u zip e =
      let only = zip_one s v l rs ts (only_one rs l one is) zip in
      other only.0 t u only.2 (heads (sym only.1 ∙ e))
    where
      heads : {x y : Term} → x ∷ [] ≡ y ∷ [] → x ≡ y
      heads f = cc

  -- two references are the sides exactly where they stand for the two terms
  module _ (equal : (p q : ℕ) (t u : Term) → RefersTo s v p t → RefersTo s v q u → (p ≡ q) ↔ (t ≡ u)) (p : ℕ × ℕ) (left right : ℕ) (t u : Term) (ts : List Term) (unit : IsUnitOf s v p ts) (l : RefersTo s v left t) (r : RefersTo s v right u) where
    pub first_same : ts ≡ equality t u ∷ [] → p.0 ≡ left
    first_same e = (equal p.0 left unit.left t unit.left_refers l).1 (same_sides _ _ _ _ (sym unit.is ∙ e)).0

    pub second_same : ts ≡ equality t u ∷ [] → p.1 ≡ right
    second_same e = (equal p.1 right unit.right u unit.right_refers r).1 (same_sides _ _ _ _ (sym unit.is ∙ e)).1

    pub both_same : p.0 ≡ left → p.1 ≡ right → ts ≡ equality t u ∷ []
    both_same e f =
        let a = (equal p.0 left unit.left t unit.left_refers l).0 e in
        let b = (equal p.1 right unit.right u unit.right_refers r).0 f in
        unit.is ∙ (ap (λ x. equality x unit.right ∷ []) a ∙ ap (λ y. equality t y ∷ []) b)
