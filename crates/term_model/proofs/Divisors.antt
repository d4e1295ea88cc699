-- What `div` and `mod` are applied to.
use Rattle.std.proofs.Common.{◌≡◌, ◌≢◌, ℕ, zero, suc, List, [], ◌∷◌, Bool, true, false, not, ◌==◌, ◌⊎◌, ◌↔◌, Some, inl, inr, refl, ap, ◌∙◌, arith}
use Rattle.std.proofs.lemmas.Bool.Decides.{nat_tests}
use Rattle.term_model.specs.declared.symbols.Sort.{Sort}
use Rattle.term_model.specs.declared.symbols.Op.{Op}
use Rattle.term_model.specs.Terms.{Term, numeral, variable, operation, call, let_in, Terms, no_terms, term, terms_of}
use Rattle.term_model.specs.Sorts.{is_divisor, has_divisor, divides, application_sort, operation_sort, IsOf, AreOf}
use Rattle.term_model.proofs.Arities.{division_sort}
use Rattle.term_model.proofs.Sorting.{operation_divides, operation_application, application_operation}

not_zero : (n : ℕ) → not (n == 0) ≡ true → n ≢ 0
not_zero zero e = cc
not_zero (suc n) e = λ f. omega arith

is_not_zero : (n : ℕ) → n ≢ 0 → not (n == 0) ≡ true
is_not_zero zero h = absurd (h refl)
is_not_zero (suc n) h = grind (arith, nat_tests)

divisor_is : (t : Term) → is_divisor t ≡ true → (n : ℕ) × (n ≢ 0) × ((t ≡ numeral n) ⊎ (t ≡ operation Op.Minus (terms_of (numeral n ∷ []))))
divisor_is (numeral n) e = (n, not_zero n e, inl refl)
divisor_is (operation Op.Minus (term (numeral n) no_terms)) e = (n, not_zero n e, inr refl)
divisor_is _ e = absurd cc

is_a_divisor : (t : Term) → ((n : ℕ) × (n ≢ 0) × ((t ≡ numeral n) ⊎ (t ≡ operation Op.Minus (terms_of (numeral n ∷ []))))) → is_divisor t ≡ true
is_a_divisor t (n, some, inl e) = ap is_divisor e ∙ is_not_zero n some
is_a_divisor t (n, some, inr e) = ap is_divisor e ∙ is_not_zero n some

pub divisor_decides : (t : Term) → (is_divisor t ≡ true) ↔ ((n : ℕ) × (n ≢ 0) × ((t ≡ numeral n) ⊎ (t ≡ operation Op.Minus (terms_of (numeral n ∷ [])))))
divisor_decides t = (divisor_is t, is_a_divisor t)

pub divided_terms : (op : Op) (ts : Terms) (s : Sort) → (op ≡ Op.Div) ⊎ (op ≡ Op.Mod) → IsOf (operation op ts) s
    → (t : Term) × (u : Term) × (ts ≡ terms_of (t ∷ u ∷ [])) × IsOf t Sort.Int × (is_divisor u ≡ true)
divided_terms op ts s which h =
    go ts h.sorts h.arguments ((division_sort op h.sorts s which).0 (operation_application op ts h.sorts s h.is)).0
    (two op ts which (operation_divides op ts h.sorts s h.is))
  where
    two : (op : Op) (ts : Terms) → (op ≡ Op.Div) ⊎ (op ≡ Op.Mod) → divides op ts ≡ true → has_divisor ts ≡ true
    two op ts (inl e) f = let g : divides Op.Div ts ≡ true = rw e at f in g
    two op ts (inr e) f = let g : divides Op.Mod ts ≡ true = rw e at f in g

    from : (ts : Terms) → AreOf ts (Sort.Int ∷ Sort.Int ∷ []) → has_divisor ts ≡ true
        → (t : Term) × (u : Term) × (ts ≡ terms_of (t ∷ u ∷ [])) × IsOf t Sort.Int × (is_divisor u ≡ true)
    from no_terms are d = absurd are
    from (term t no_terms) are d = absurd are.1
    from (term t (term u no_terms)) are d = (t, u, refl, are.0, d)
    from (term t (term u (term v ts))) are d = absurd are.1.1

    go : (ts : Terms) (ss : List Sort) → AreOf ts ss → ss ≡ (Sort.Int ∷ Sort.Int ∷ []) → has_divisor ts ≡ true
        → (t : Term) × (u : Term) × (ts ≡ terms_of (t ∷ u ∷ [])) × IsOf t Sort.Int × (is_divisor u ≡ true)
    go ts ss are e = let k : AreOf ts (Sort.Int ∷ Sort.Int ∷ []) = rw e at are in from ts k

pub other_operations : (op : Op) (ts : Terms) (ss : List Sort) → op ≢ Op.Div → op ≢ Op.Mod → operation_sort op ts ss ≡ application_sort op ss
other_operations Op.Div ts ss h g = absurd (h refl)
other_operations Op.Mod ts ss h g = absurd (g refl)
other_operations _ ts ss h g = refl

pub operation_sorts : (op : Op) (ts : Terms) (ss : List Sort) (s : Sort)
    → (operation_sort op ts ss ≡ Some s) ↔ ((divides op ts ≡ true) × (application_sort op ss ≡ Some s))
operation_sorts op ts ss s =
    (λ e. (operation_divides op ts ss s e, operation_application op ts ss s e), λ h. application_operation op ts ss s h.0 h.1)
