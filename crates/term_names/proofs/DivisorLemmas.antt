-- What is divided by, by the number of a constant and by the second of the terms.
use Rattle.std.proofs.Common.{◌≡◌, ℕ, ℤ, pos, neg_ℤ, List, [], ◌∷◌, Bool, true, false, not, ◌==◌, int_eq, FitsSigned, to_z, of_z, length, ◌<◌, Some, None, refl, sym, ap, ◌∙◌, arith}
use Rattle.std.proofs.lemmas.Bool.{eqb-true}
use Rattle.std.proofs.lemmas.Bool.Decides.{nat_tests, Decides-int_eq}
use Rattle.std.proofs.lemmas.Int.{ints, to_z-of_z}
use mir.Syntax.{w128}
use Rattle.sym_table.specs.Table.{Table}
use Rattle.term_model.specs.declared.symbols.Op.{Op}
use Rattle.term_model.specs.Sorts.{is_divisor, has_divisor}
use Rattle.term_model.specs.Terms.{Term, Terms, numeral, operation, no_terms, term, list_of}
use Rattle.rule_model.specs.Constants.{constant_of}
use Rattle.term_pool.specs.Views.{TermsView, ReferToAll}

-- a word is zero where its number is
pub zero_word : (z : ℤ) → FitsSigned w128 z → (of_z w128 z == 0) ≡ int_eq z (pos 0)
zero_word z fits = go (of_z w128 z == 0) (int_eq z (pos 0)) refl refl
  where
    go : (b d : Bool) → (of_z w128 z == 0) ≡ b → int_eq z (pos 0) ≡ d → b ≡ d
    go true true e f = refl
    go false false e f = refl
    go true false e f =
        let zero : of_z w128 z ≡ 0 = eqb-true _ _ e in
        let same : z ≡ pos 0 = sym (to_z-of_z w128 z fits) ∙ ap (to_z w128) zero in
        absurd (let g : int_eq (pos 0) (pos 0) ≡ false = rw same at f in cc)
    go false true e f =
        let same : z ≡ pos 0 = (Decides-int_eq z (pos 0)).0 f in
        absurd (let g : (of_z w128 (pos 0) == 0) ≡ false = rw same at e in cc)

some_number : (n : ℕ) (z : ℤ) → z ≡ pos n → not (int_eq z (pos 0)) ≡ not (n == 0)
some_number n z e = grind (arith, ints, nat_tests)

turned_number : (n : ℕ) (z : ℤ) → z ≡ neg_ℤ (pos n) → not (int_eq z (pos 0)) ≡ not (n == 0)
turned_number n z e = grind (arith, ints, nat_tests)

pub constant_divides : (t : Term) (z : ℤ) → Some z ≡ constant_of t → not (int_eq z (pos 0)) ≡ is_divisor t
constant_divides (numeral n) z e = some_number n z cc
constant_divides (operation Op.Minus (term (numeral n) no_terms)) z e = turned_number n z cc
constant_divides _ z e = absurd cc

pub no_constant : (t : Term) → None ≡ constant_of t → false ≡ is_divisor t
no_constant (numeral n) e = absurd cc
no_constant (operation Op.Minus (term (numeral n) no_terms)) e = absurd cc
no_constant _ e = refl

-- where there are fewer than two terms
pub none_divided : (us : Terms) (rs : List ℕ) (s : Table) (v : TermsView) (ts : List Term) → list_of us ≡ ts → ReferToAll s v rs ts → length rs < 2 → false ≡ has_divisor us
none_divided no_terms rs s v ts e all few = refl
none_divided (term a no_terms) rs s v ts e all few = refl
none_divided (term a (term b us)) (r ∷ q ∷ rs) s v ts e all few = absurd (omega arith)
none_divided (term a (term b us)) (r ∷ []) s v ts e all few = absurd (let k : ReferToAll s v (r ∷ []) (a ∷ b ∷ list_of us) = rw (← e) at all in k.1)
none_divided (term a (term b us)) [] s v ts e all few = absurd (let k : ReferToAll s v [] (a ∷ b ∷ list_of us) = rw (← e) at all in k)
