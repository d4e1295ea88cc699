-- What is left of all occurrences once they are sorted and rid of repeats.
use Rattle.std.proofs.Common.{◌≡◌, ℕ, ◌+◌, ◌<◌, ◌≤◌, Bool, true, false, nat_eq, List, [], ◌∷◌, length, get_or, sym, subst, arith, All, Contains}
use Rattle.std.specs.List.{dedup, Any}
use Rattle.std.specs.List.Sorted.{IsPermutation, IsNonDecreasingBy, IsSorted, IsStrictlySortedBy}
use Rattle.std.specs.Ordering.{nat_cmp, on, eq_by_cmp, is_lt}
use Rattle.std.proofs.Common.{Less}
use Rattle.std.proofs.lemmas.Bool.{eqb-true}
use Rattle.std.proofs.lemmas.Bool.Decides.{nat_tests}
use Rattle.std.proofs.lemmas.Cmp.{on_total, nat_cmp_total, on_equiv, nat_eq_equiv}
use Rattle.std.proofs.lemmas.List.Elements.{All-get_or, All-from_recursion, All-weaker}
use Rattle.std.proofs.lemmas.List.Filters.{All-dedup}
use Rattle.std.proofs.lemmas.List.Kept.{Any-dedup, AllPairs-cons, IsStrictlySortedBy-dedup}
use Rattle.std.proofs.lemmas.List.Sorted.{Contains-permutation, All-permutation}
use Rattle.rules_resolution.specs.Literal.{Lit}
use Rattle.rules_resolution.specs.declared.occurrence.Occurrence.{Occurrence}
use Rattle.rules_resolution.specs.Occurrence.{literal_in, rank_of}
use Rattle.rules_resolution.specs.Table.{all_occurrences, StandsIn, IsRising, IsOccurrenceTable}
use Rattle.rules_resolution.proofs.Ranks.{rank_of-injective}
use Rattle.rules_resolution.proofs.Tables.{all_occurrences-sound, all_occurrences-premise, all_occurrences-goal}

abbrev pub same_rank : Occurrence → Occurrence → Bool
same_rank = on rank_of nat_eq

ties : (x y : Occurrence) → same_rank x y ≡ eq_by_cmp (on rank_of nat_cmp) x y
ties x y = number (rank_of x) (rank_of y)
  where
    number : (m n : ℕ) → nat_eq m n ≡ eq_by_cmp nat_cmp m n
    number m n = grind (arith, nat_tests)

rising_from_strict : (xs : List Occurrence) → IsStrictlySortedBy (on rank_of nat_cmp) xs → IsRising xs
unfolding IsStrictlySortedBy
rising_from_strict [] s = λ i j d h g. absurd (omega (arith, g))
rising_from_strict (x ∷ xs) s =
    AllPairs-cons (λ a b. rank_of a < rank_of b) x xs
    (All-weaker (λ y. on rank_of nat_cmp x y ≡ _) (λ y. rank_of x < rank_of y) (λ y e. less (rank_of x) (rank_of y) e) xs (All-from_recursion _ xs s.0))
    (rising_from_strict xs s.1)
  where
    less : (m n : ℕ) → nat_cmp m n ≡ Less → m < n
    less m n e = grind (arith, nat_tests)

sorted_by_rank : (xs : List Occurrence) → IsNonDecreasingBy rank_of xs → IsSorted (on rank_of nat_cmp) xs
sorted_by_rank xs up k d _ h = adjacent (rank_of (get_or xs (k + 1) d)) (rank_of (get_or xs k d)) (up k (k + 1) d (omega arith) h)
  where
    adjacent : (m n : ℕ) → n ≤ m → is_lt (nat_cmp m n) ≡ false
    adjacent m n h = grind (arith, nat_tests)

module _ (premises : List (List Lit)) (goal : List Lit) (found sorted : List Occurrence) (few : length premises < 4294967296) (is_all : found ≡ all_occurrences premises goal) (moved : IsPermutation found sorted) where
  kept_sound : All (StandsIn premises) (dedup same_rank sorted)
  kept_sound =
      All-dedup same_rank (StandsIn premises) sorted
      (All-permutation (StandsIn premises) found sorted moved (rw is_all (all_occurrences-sound premises goal)))

  -- an occurrence that was found has one of the same rank that is kept
  kept : (x : Occurrence) → x.premise < 4294967296 → Contains (all_occurrences premises goal) x → Any (λ o. (o.premise ≡ x.premise) × (literal_in o ≡ literal_in x)) (dedup same_rank sorted)
  kept x small c =
      let some = Any-dedup (on_equiv rank_of nat_eq_equiv) sorted x (Contains-permutation found sorted x moved (rw is_all c)) in
      (some.0, some.1, some.2, some.3, same some.0 some.1 some.2 some.3 some.4)
    where
      same : (k : ℕ) (y : Occurrence) → k < length (dedup same_rank sorted) → get_or (dedup same_rank sorted) k y ≡ y → same_rank x y ≡ true → (y.premise ≡ x.premise) × (literal_in y ≡ literal_in x)
      same k y h e r =
          let stands : StandsIn premises y = subst (StandsIn premises) e (All-get_or (StandsIn premises) (dedup same_rank sorted) k y h kept_sound) in
          let both = rank_of-injective x y small (let l = stands.premise in omega arith) (eqb-true (rank_of x) (rank_of y) r) in
          (sym both.1, sym both.0)

  pub table_from_sorted : IsNonDecreasingBy rank_of sorted → IsOccurrenceTable premises goal (dedup same_rank sorted)
  table_from_sorted up =
      record {
        rising = rising_from_strict (dedup same_rank sorted) (IsStrictlySortedBy-dedup (on_total rank_of nat_cmp_total) ties sorted (sorted_by_rank sorted up));
        sound = kept_sound;
        premises_in = λ p k a s h g e. kept (record { atom = a; negative = s; premise = p; place = k }) (omega (arith, h, few)) (all_occurrences-premise premises goal p k a s h g e);
        goal_in = λ k a s h e.
            (let some = kept (record { atom = a; negative = s; premise = length premises; place = 0 }) few (all_occurrences-goal premises goal k a s h e) in
            (some.0, some.1, some.2, some.3, some.4.1));
      }
