-- The laws of equality up to flips.
use Rattle.std.proofs.Common.{◌≡◌, refl, ap, Bool, true, false, ◌&&◌, List, Some}
use Rattle.std.proofs.lemmas.Cmp.{int_eq_equiv}
use Rattle.term_model.specs.declared.symbols.Op.{Op}
use Rattle.term_model.specs.declared.symbols.Sort.{Sort}
use Rattle.term_model.specs.Sorts.{is_divisor, has_divisor, divides, operation_sort}
use Rattle.term_model.specs.Terms.{Term, Terms, Bindings, numeral, operation, let_in, no_terms, term}
use Rattle.term_model.specs.Values.{Value, truth, whole, value_eq}
use Rattle.term_model.specs.Operators.{meaning}
use Rattle.term_model.specs.Interpretations.{Interpretation, first_row}
use Rattle.term_model.specs.Meaning.{Valuation, value, values}
use Rattle.term_model.specs.Flips.{EqualUpToFlips, same, operations, calls, flipped, AllEqualUpToFlips, none, each}
use Rattle.term_model.proofs.Sorting.{operation_again}

mutual
  pub flips_turned : (t u : Term) → EqualUpToFlips t u → EqualUpToFlips u t
  flips_turned _ _ (same t) = same t
  flips_turned _ _ (operations op ts us h) = operations op us ts (all_turned ts us h)
  flips_turned _ _ (calls f ts us h) = calls f us ts (all_turned ts us h)
  flips_turned _ _ (flipped a b c d h k) = flipped c d a b (flips_turned b c k) (flips_turned a d h)

  all_turned : (ts us : Terms) → AllEqualUpToFlips ts us → AllEqualUpToFlips us ts
  all_turned _ _ none = none
  all_turned _ _ (each t u ts us h hs) = each u t us ts (flips_turned t u h) (all_turned ts us hs)

pub value_turned : (v w : Value) → value_eq v w ≡ value_eq w v
value_turned (truth true) (truth true) = refl
value_turned (truth true) (truth false) = refl
value_turned (truth false) (truth true) = refl
value_turned (truth false) (truth false) = refl
value_turned (truth true) (whole y) = refl
value_turned (truth false) (whole y) = refl
value_turned (whole x) (truth true) = refl
value_turned (whole x) (truth false) = refl
value_turned (whole x) (whole y) = int_eq_equiv.symm x y

mutual
  pub flips_value : (I : Interpretation) (r : Valuation) (t u : Term) → EqualUpToFlips t u → value I r t ≡ value I r u
  flips_value I r _ _ (same t) = refl
  flips_value I r _ _ (operations op ts us h) = ap (meaning op) (flips_values I r ts us h)
  flips_value I r _ _ (calls f ts us h) =
      ap (first_row (I.table f).rows (I.table f).default) (flips_values I r ts us h)
  flips_value I r _ _ (flipped a b c d h k) =
      let first = flips_value I r a d h in
      let second = flips_value I r b c k in
      rw (first, second) (ap (λ (x : Bool). truth (x && true)) (value_turned (value I r d) (value I r c)))

  pub flips_values : (I : Interpretation) (r : Valuation) (ts us : Terms) → AllEqualUpToFlips ts us → values I r ts ≡ values I r us
  flips_values I r _ _ none = refl
  flips_values I r _ _ (each t u ts us h hs) =
      let first = flips_value I r t u h in let rest = flips_values I r ts us hs in rw (first, rest) refl

-- A divisor has no equality, so flips keep it.
two_terms : (t u : Term) (ts : Terms) → is_divisor (operation Op.Minus (term t (term u ts))) ≡ true → ⊥
two_terms (numeral n) u ts e = absurd cc
two_terms _ u ts e = absurd cc

minus_flipped : (ts us : Terms) → AllEqualUpToFlips ts us → is_divisor (operation Op.Minus ts) ≡ true → is_divisor (operation Op.Minus us) ≡ true
minus_flipped _ _ none e = absurd cc
minus_flipped _ _ (each t _ _ _ h (each u _ ts _ k ks)) e = absurd (two_terms t u ts e)
minus_flipped _ _ (each _ _ _ _ (same (numeral n)) none) e = e
minus_flipped _ _ (each _ _ _ _ (same _) none) e = absurd cc
minus_flipped _ _ (each _ _ _ _ (operations op ts us h) none) e = absurd cc
minus_flipped _ _ (each _ _ _ _ (calls f ts us h) none) e = absurd cc
minus_flipped _ _ (each _ _ _ _ (flipped a b c d h k) none) e = absurd cc

divisor_flipped : (t u : Term) → EqualUpToFlips t u → is_divisor t ≡ true → is_divisor u ≡ true
divisor_flipped _ _ (same t) e = e
divisor_flipped _ _ (operations Op.Minus ts us h) e = minus_flipped ts us h e
divisor_flipped _ _ (operations op ts us h) e = absurd cc
divisor_flipped _ _ (calls f ts us h) e = absurd cc
divisor_flipped _ _ (flipped a b c d h k) e = absurd cc

has_divisor_flipped : (ts us : Terms) → AllEqualUpToFlips ts us → has_divisor ts ≡ true → has_divisor us ≡ true
has_divisor_flipped _ _ none e = absurd cc
has_divisor_flipped _ _ (each _ _ _ _ h none) e = absurd cc
has_divisor_flipped _ _ (each _ _ _ _ h (each t u _ _ k ks)) e = divisor_flipped t u k e

divides_flipped : (op : Op) (ts us : Terms) → AllEqualUpToFlips ts us → divides op ts ≡ true → divides op us ≡ true
divides_flipped Op.Div ts us h e = has_divisor_flipped ts us h e
divides_flipped Op.Mod ts us h e = has_divisor_flipped ts us h e
divides_flipped _ ts us h e = refl

-- Cited by crates above.
pub operation_flipped : (op : Op) (ts us : Terms) (ss : List Sort) (s : Sort) → AllEqualUpToFlips ts us → operation_sort op ts ss ≡ Some s
    → operation_sort op us ss ≡ Some s
operation_flipped op ts us ss s h = operation_again op ts us ss s (divides_flipped op ts us h)

pub let_alone : (bs : Bindings) (t u : Term) → EqualUpToFlips (let_in bs t) u → u ≡ let_in bs t
let_alone bs t _ (same _) = refl
