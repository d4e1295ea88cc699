-- Clauses that begin with negations.
use Rattle.std.proofs.Common.{◌≡◌, ◌<◌, ◌≤◌, ◌++◌, ℕ, zero, suc, List, [], ◌∷◌, map, flat_map, length, slice_index_or, refl, sym, ◌∙◌, ap, arith}
use Rattle.std.specs.List.{AllByRecursion}
use Rattle.term_model.specs.Terms.{Term, not_of}
use Rattle.rules_subproof.specs.Prefixes.{HasPrefix}

module _ (f : ℕ → List Term) where
  -- each has a clause of one literal
  abbrev pub AreUnits : List ℕ → Type 0
  AreUnits ds = AllByRecursion (λ d. (u : Term) × (f d ≡ u ∷ [])) ds

  abbrev pub negated : List ℕ → List Term
  negated ds = map not_of (flat_map f ds)

  pub negated_count : (ds : List ℕ) → AreUnits ds → length (negated ds) ≡ length ds
  negated_count [] h = refl
  negated_count (d ∷ ds) h = ap (λ us. length (map not_of (us ++ flat_map f ds))) h.0.1 ∙ ap suc (negated_count ds h.1)

  -- the literal at a place is the negation of the term there
  abbrev pub Matches : List ℕ → List Term → ℕ → Type 0
  Matches ds ls k = (u : Term) → f (slice_index_or ds k 0) ≡ u ∷ [] → slice_index_or ls k (not_of u) ≡ not_of u

  heads : {x y : Term} {xs ys : List Term} → x ∷ xs ≡ y ∷ ys → x ≡ y
  heads e = cc

  pub prefix_of : (ds : List ℕ) (ls : List Term) → AreUnits ds → length ds ≤ length ls → ((k : ℕ) → k < length ds → Matches ds ls k) → HasPrefix (negated ds) ls
  prefix_of [] ls units few each = record { rest = ls; is = refl }
  prefix_of (d ∷ ds) [] units few each = absurd (omega arith)
  prefix_of (d ∷ ds) (l ∷ ls) units few each =
      let later = prefix_of ds ls units.1 (omega arith) (λ k below. each (suc k) (omega arith)) in
      let first : l ≡ not_of units.0.0 = each 0 (omega arith) units.0.0 units.0.1 in
      record {
        rest = later.rest;
        is = ap (λ ms. l ∷ ms) later.is ∙ (ap (λ m. m ∷ (negated ds ++ later.rest)) first ∙ ap (λ us. map not_of (us ++ flat_map f ds) ++ later.rest) (sym units.0.1));
      }

  split : (d : ℕ) (ds : List ℕ) (u l : Term) (ls : List Term) → f d ≡ u ∷ [] → HasPrefix (negated (d ∷ ds)) (l ∷ ls) → (l ≡ not_of u) × HasPrefix (negated ds) ls
  split d ds u l ls e prefix =
      let whole : l ∷ ls ≡ not_of u ∷ (negated ds ++ prefix.rest) = prefix.is ∙ ap (λ us. map not_of (us ++ flat_map f ds) ++ prefix.rest) e in
      (heads whole, record { rest = prefix.rest; is = tails whole })
    where
      tails : {x y : Term} {xs ys : List Term} → x ∷ xs ≡ y ∷ ys → xs ≡ ys
      tails e = cc

  pub of_prefix : (ds : List ℕ) (ls : List Term) → AreUnits ds → HasPrefix (negated ds) ls → (k : ℕ) → k < length ds → Matches ds ls k
  of_prefix [] ls units prefix k below = absurd (omega arith)
  of_prefix (d ∷ ds) [] units prefix k below = absurd (none (prefix.is ∙ ap (λ us. map not_of (us ++ flat_map f ds) ++ prefix.rest) units.0.1))
    where
      none : {x : Term} {xs : List Term} → [] ≡ x ∷ xs → ⊥
      none e = cc
  of_prefix (d ∷ ds) (l ∷ ls) units prefix zero below = λ u e. (split d ds u l ls e prefix).0
  of_prefix (d ∷ ds) (l ∷ ls) units prefix (suc k) below = of_prefix ds ls units.1 (split d ds units.0.0 l ls units.0.1 prefix).1 k (omega arith)

  pub prefix_fits : (ds : List ℕ) (ls : List Term) → AreUnits ds → HasPrefix (negated ds) ls → length ds ≤ length ls
  prefix_fits [] ls units prefix = omega arith
  prefix_fits (d ∷ ds) [] units prefix = absurd (none (prefix.is ∙ ap (λ us. map not_of (us ++ flat_map f ds) ++ prefix.rest) units.0.1))
    where
      none : {x : Term} {xs : List Term} → [] ≡ x ∷ xs → ⊥
      none e = cc
  prefix_fits (d ∷ ds) (l ∷ ls) units prefix =
      let ih = prefix_fits ds ls units.1 (split d ds units.0.0 l ls units.0.1 prefix).1 in omega arith
