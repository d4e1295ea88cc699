-- Lists of coefficients: the numbers that stand with terms, and whether they are within their limit.
use Rattle.std.proofs.Common.{◌≡◌, ◌≢◌, ◌⊎◌, inl, inr, ◌≤◌, ◌<◌, ◌==◌, ℕ, zero, suc, ◌+◌, ℤ, pos, ◌+ℤ◌, ◌-ℤ◌, unsigned_abs, Bool, true, false, if◌then◌else◌, List, [], ◌∷◌, length, get_or, map, drop, Option, None, Some, All, Contains, refl, sym, ap, subst, ◌∙◌, arith}
use Rattle.std.proofs.lemmas.Bool.{eqb-true, eq-eqb}
use Rattle.std.proofs.lemmas.Int.{ints}
use Rattle.std.proofs.lemmas.List.Elements.{All-head, All-tail, All-cons, All-nil, All-contains, All-map}
use Rattle.term_model.proofs.Lists.{contains_none, contains_cases}
use Rattle.sym_table.specs.Table.{Table}
use Rattle.term_model.specs.Terms.{Term}
use Rattle.term_pool.specs.Views.{TermsView, RefersTo, IsTerm}
use Rattle.rule_model.specs.Arith.{Comparison, coefficient_in, limit}
use Rattle.rule_model.specs.LinearForms.{constant}
use Rattle.rule_model.specs.Weights.{weight}
use Rattle.linear_forms.specs.declared.nodes.Coefficient.{Coefficient}
use Rattle.linear_forms.specs.declared.forms.Numbers.{Numbers}
use Rattle.linear_forms.specs.Coefficients.{sum_at, sizes_of, AreOfDifferentTerms}
use Rattle.linear_forms.specs.Forms.{IsReferred, ListsCoefficients, IsDifference, IsDifferenceForm}
use Rattle.lia_rows.specs.Combinations.{coefficient_of, IsSmall}
use Rattle.lia_rows.specs.Forms.{term_of, IsNarrow, IsSmallForm, IsTooLarge}
use Rattle.lia_rows.specs.Rows.{Row}

abbrev pub IsOther : ℕ → Coefficient → Type 0
IsOther r c = c.term ≢ r

-- the number of the first item, where it is of the term and where it is not
at_head : (c : Coefficient) (cs : List Coefficient) (r : ℕ) → c.term ≡ r → sum_at (c ∷ cs) r ≡ c.number +ℤ sum_at cs r
at_head c cs r e = go (c.term == r) (eq-eqb c.term r e)
  where
    go : (b : Bool) → b ≡ true → (if b then c.number else pos 0) +ℤ sum_at cs r ≡ c.number +ℤ sum_at cs r
    go true e = refl
    go false e = absurd cc

past_head : (c : Coefficient) (cs : List Coefficient) (r : ℕ) → c.term ≢ r → sum_at (c ∷ cs) r ≡ sum_at cs r
past_head c cs r other = go (c.term == r) refl
  where
    go : (b : Bool) → (c.term == r) ≡ b → (if b then c.number else pos 0) +ℤ sum_at cs r ≡ sum_at cs r
    go true e = absurd (other (eqb-true c.term r e))
    go false e = omega (arith, ints)

pub no_number : (cs : List Coefficient) (r : ℕ) → All (IsOther r) cs → sum_at cs r ≡ pos 0
no_number [] r all = refl
no_number (c ∷ cs) r all = past_head c cs r (All-head (IsOther r) c cs all) ∙ no_number cs r (All-tail (IsOther r) c cs all)

-- whether the first item is of the term
head_cases : (c : Coefficient) (r : ℕ) → (c.term ≡ r) ⊎ (c.term ≢ r)
head_cases c r = go (c.term == r) refl
  where
    go : (b : Bool) → (c.term == r) ≡ b → (c.term ≡ r) ⊎ (c.term ≢ r)
    go true e = inl (eqb-true c.term r e)
    go false e = inr (λ f. let t = eq-eqb c.term r f in absurd cc)

-- where no term stands twice, the number that stands with the term of an item is its own
first_number : (c : Coefficient) (cs : List Coefficient) (r : ℕ) → AreOfDifferentTerms (c ∷ cs) → c.term ≡ r → sum_at (c ∷ cs) r ≡ c.number
first_number c cs r apart e =
    let none : sum_at cs r ≡ pos 0 = subst (λ q. sum_at cs q ≡ pos 0) e (no_number cs c.term apart.0) in
    at_head c cs r e ∙ omega (arith, ints, none)

pub own_number : (cs : List Coefficient) (k : ℕ) (d : Coefficient) → AreOfDifferentTerms cs → k < length cs → sum_at cs (term_of (get_or cs k d)) ≡ (get_or cs k d).number
own_number [] k d apart below = absurd (omega (arith, below))
own_number (c ∷ cs) zero d apart below = first_number c cs c.term apart refl
own_number (c ∷ cs) (suc k) d apart below =
    past_head c cs (term_of (get_or cs k d)) (λ e. apart.0 k d (omega (arith, below)) (sym e)) ∙ own_number cs k d apart.1 (omega (arith, below))

-- the number of a term is as narrow as the items
pub narrow_number : (cs : List Coefficient) (r : ℕ) → AreOfDifferentTerms cs → All IsNarrow cs → unsigned_abs (sum_at cs r) ≤ 64
narrow_number [] r apart all = omega arith
narrow_number (c ∷ cs) r apart all =
    go (head_cases c r) (narrow_number cs r apart.1 (All-tail IsNarrow c cs all))
  where
    go : (c.term ≡ r) ⊎ (c.term ≢ r) → unsigned_abs (sum_at cs r) ≤ 64 → unsigned_abs (sum_at (c ∷ cs) r) ≤ 64
    go (inl e) rest = subst (λ z. unsigned_abs z ≤ 64) (sym (first_number c cs r apart e)) (All-head IsNarrow c cs all)
    go (inr other) rest = subst (λ z. unsigned_abs z ≤ 64) (sym (past_head c cs r other)) rest

-- the number of a term that stands there is not 0
abbrev IsSome : Coefficient → Type 0
IsSome c = c.number ≢ pos 0

pub some_number : (cs : List Coefficient) (r : ℕ) → AreOfDifferentTerms cs → All (λ (c : Coefficient). c.number ≢ pos 0) cs → Contains (map term_of cs) r → sum_at cs r ≢ pos 0
some_number [] r apart all there = absurd (contains_none r there)
some_number (c ∷ cs) r apart all there =
    go (contains_cases c.term r (map term_of cs) there) (head_cases c r) (some_number cs r apart.1 (All-tail IsSome c cs all))
  where
    go : (c.term ≡ r) ⊎ Contains (map term_of cs) r → (c.term ≡ r) ⊎ (c.term ≢ r) → (Contains (map term_of cs) r → sum_at cs r ≢ pos 0) → sum_at (c ∷ cs) r ≢ pos 0
    go here (inl e) rest f = All-head IsSome c cs all (sym (first_number c cs r apart e) ∙ f)
    go (inl e) (inr other) rest f = absurd (other e)
    go (inr later) (inr other) rest f = rest later (sym (past_head c cs r other) ∙ f)

pub no_item : (cs : List Coefficient) (r : ℕ) → ¬ Contains (map term_of cs) r → All (IsOther r) cs
no_item cs r none k d below e = none (at cs k below e)
  where
    at : (xs : List Coefficient) (i : ℕ) → i < length xs → (get_or xs i d).term ≡ r → Contains (map term_of xs) r
    at [] i l f = absurd (omega (arith, l))
    at (x ∷ xs) zero l f = (0, omega arith, f)
    at (x ∷ xs) (suc i) l f = let later = at xs i (omega (arith, l)) f in (suc later.0, (let h = later.1 in omega (arith, h)), later.2)

module _ (s : Table) (v : TermsView) (c : Comparison) where
  -- coefficients are within their limit exactly where the numbers of the list are
  pub all_within : (cs : List Coefficient) → ListsCoefficients s v cs (coefficient_in c) → All IsNarrow cs → (u : Term) → unsigned_abs (coefficient_in c u) ≤ 64
  all_within cs lists narrow u = go (lists.covered u)
    where
      go : (coefficient_in c u ≡ pos 0) ⊎ IsReferred s v u → unsigned_abs (coefficient_in c u) ≤ 64
      go (inl e) = subst (λ z. unsigned_abs z ≤ 64) (sym e) (omega arith)
      go (inr is) = subst (λ z. unsigned_abs z ≤ 64) (sym (lists.right is.reference u is.refers)) (narrow_number cs is.reference lists.apart narrow)

  pub within_all : (cs : List Coefficient) → ListsCoefficients s v cs (coefficient_in c) → ((u : Term) → unsigned_abs (coefficient_in c u) ≤ 64) → All IsNarrow cs
  within_all cs lists all k d below =
      let is = lists.terms k d below in
      let same : coefficient_in c is.means ≡ (get_or cs k d).number =
      lists.right (term_of (get_or cs k d)) is.means is.refers ∙ own_number cs k d lists.apart below in
      subst (λ z. unsigned_abs z ≤ 64) same (all is.means)

  -- a form whose numbers are over their limits
  pub too_heavy : 262144 ≤ weight c.first + weight c.second → IsTooLarge c
  too_heavy over row same small =
      let light = small.light in
      let here : 262144 ≤ weight row.comparison.first + weight row.comparison.second = subst (λ (x : Comparison). 262144 ≤ weight x.first + weight x.second) (sym same) over in
      absurd (omega (arith, light, here))

  pub too_wide : (cs : List Coefficient) → ListsCoefficients s v cs (coefficient_in c) → ¬ All IsNarrow cs → IsTooLarge c
  too_wide cs lists other row same small =
      other (within_all cs lists (subst (λ (x : Comparison). (u : Term) → unsigned_abs (coefficient_in x u) ≤ 64) same small.coefficients))

  pub small_form : (n : Numbers) (m : ℤ) (cs : List Coefficient) → IsDifferenceForm s v c.first c.second n cs → m ≡ n.constant → n.weight < 262144 → All IsNarrow cs
      → IsSmallForm s v c m cs
  small_form n m cs form same light narrow =
      let sizes = form.light in
      let weight_is = form.weight_is in
      record {
        constant_is = same ∙ form.constant_is;
        coefficients = form.coefficients;
        narrow = narrow;
        light = omega (arith, light, weight_is);
        low = subst (λ z. unsigned_abs z < 262144) (sym same) (omega (arith, sizes, light));
      }

  -- a term of the form has a coefficient other than 0
  pub term_used : (cs : List Coefficient) → ListsCoefficients s v cs (coefficient_in c) → (r : ℕ) → Contains (map term_of cs) r
      → (t : Term) × RefersTo s v r t × (coefficient_in c t ≢ pos 0)
  term_used cs lists r there =
      let is = All-contains (IsTerm s v) (map term_of cs) r (All-map (IsTerm s v) term_of cs lists.terms) there in
      (is.means, is.refers, λ e. some_number cs r lists.apart lists.others there (sym (lists.right r is.means is.refers) ∙ e))

  pub term_unused : (cs : List Coefficient) → ListsCoefficients s v cs (coefficient_in c) → (r : ℕ) (t : Term) → RefersTo s v r t → ¬ Contains (map term_of cs) r
      → coefficient_in c t ≡ pos 0
  term_unused cs lists r t refers none = lists.right r t refers ∙ no_number cs r (no_item cs r none)

  -- ---- what is found
  module _ (o : Option Numbers) (before now : List Coefficient) (none : before ≡ []) (found : IsDifference s v c.first c.second o (drop (length before) now)) where
    abbrev difference : IsDifference s v c.first c.second o now
    difference = subst (λ cs. IsDifference s v c.first c.second o (drop (length cs) now)) none found

    pub not_found : o ≡ None → IsTooLarge c
    not_found e =
        let over : limit ≤ weight c.first + weight c.second = subst (λ x. IsDifference s v c.first c.second x now) e difference in
        too_heavy (omega (arith, over))

    module _ (n : Numbers) (is : o ≡ Some n) where
      abbrev form : IsDifferenceForm s v c.first c.second n now
      form = subst (λ x. IsDifference s v c.first c.second x now) is difference

      pub found_heavy : 262144 ≤ n.weight → IsTooLarge c
      found_heavy over = let weight_is = form.weight_is in too_heavy (omega (arith, over, weight_is))

      pub found_wide : ¬ All IsNarrow now → IsTooLarge c
      found_wide other = too_wide now form.coefficients other

      pub found_small : (m : ℤ) → m ≡ n.constant → n.weight < 262144 → All IsNarrow now → IsSmallForm s v c m now
      found_small m same light narrow = small_form n m now form same light narrow
