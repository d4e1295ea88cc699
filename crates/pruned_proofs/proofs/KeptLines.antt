-- Cited by crates above. The lines of what is left: those of the commands that are kept, each where it stands now.
use Rattle.std.proofs.Common.{◌≡◌, ◌<◌, ◌≤◌, ◌-◌, ◌+◌, ◌⊎◌, inl, inr, ℕ, zero, suc, Bool, true, false, List, [], ◌∷◌, ◌++◌, map, length, slice_get, Some, refl, sym, ◌∙◌, ap, subst, arith, if◌then◌else◌}
use Rattle.std.specs.Option.{option_map}
use Rattle.std.proofs.lemmas.List.{length-append, append-nil}
use Rattle.std.proofs.lemmas.Option.{slice_get-map}
use Rattle.rule_model.specs.Commands.{assume, step, closing, Line, lines_in}
use Rattle.rule_model.specs.Proofs.{ProofItems, no_items, with_assume, with_step, with_subproof}
use Rattle.rule_model.specs.Scopes.{Nesting, outermost, inside, at, inner, commands_in, first_index}
use Rattle.rule_model.proofs.Numbers.{lines_in_count}
use Rattle.pruned_proofs.specs.Reached.{is_kept}
use Rattle.pruned_proofs.specs.Pruned.{new_index, kept_items, pruned}
use Rattle.pruned_proofs.specs.KeptScopes.{kept_nesting, kept_line}
use Rattle.pruned_proofs.proofs.Counting.{kept_or_not, after_kept, after_dropped, none_between, kept_less, old_index, up}
use Rattle.pruned_proofs.proofs.Nested.{AreNested, IsNestedAround, map_joined}

-- those items of a list that are kept, where the first has this index
abbrev pub picked : {X : Type 0} → List Bool → ℕ → List X → List X
picked marks first [] = []
picked marks first (x ∷ xs) =
    if is_kept marks first then x ∷ picked marks (suc first) xs else picked marks (suc first) xs

module _ {X : Type 0} (marks : List Bool) where
  pub picked_joined : (first : ℕ) (xs ys : List X) → picked marks first (xs ++ ys) ≡ picked marks first xs ++ picked marks (first + length xs) ys
  picked_joined first [] ys = let same : first + 0 ≡ first = omega arith in rw same refl
  picked_joined first (x ∷ xs) ys = go (is_kept marks first) (picked_joined (suc first) xs ys)
    where
      same : suc first + length xs ≡ first + length (x ∷ xs)
      same = omega arith

      go : (b : Bool) → picked marks (suc first) (xs ++ ys) ≡ picked marks (suc first) xs ++ picked marks (suc first + length xs) ys
          → (if b then x ∷ picked marks (suc first) (xs ++ ys) else picked marks (suc first) (xs ++ ys))
          ≡ (if b then x ∷ picked marks (suc first) xs else picked marks (suc first) xs) ++ picked marks (first + length (x ∷ xs)) ys
      go true ih = ap (λ l. x ∷ l) (ih ∙ ap (λ n. picked marks (suc first) xs ++ picked marks n ys) same)
      go false ih = ih ∙ ap (λ n. picked marks (suc first) xs ++ picked marks n ys) same

  pub picked_none : (first : ℕ) (xs : List X) → ((j : ℕ) → first ≤ j → j < first + length xs → is_kept marks j ≡ false) → picked marks first xs ≡ []
  picked_none first [] none = refl
  picked_none first (x ∷ xs) none =
      rw (none first (omega arith) (omega arith)) (picked_none (suc first) xs (λ j more less. none j (omega arith) (omega arith)))

  pub picked_last : (first n : ℕ) (xs : List X) (x : X) → length xs ≡ n → is_kept marks (first + n) ≡ true → picked marks first (xs ++ x ∷ []) ≡ picked marks first xs ++ x ∷ []
  picked_last first n xs x count e =
      picked_joined first xs (x ∷ []) ∙ ap (λ l. picked marks first xs ++ l) (one (first + length xs) (subst (λ k. is_kept marks (first + k) ≡ true) (sym count) e))
    where
      one : (k : ℕ) → is_kept marks k ≡ true → picked marks k (x ∷ []) ≡ x ∷ []
      one k e = rw e refl

  pub dropped_last : (first n : ℕ) (xs : List X) (x : X) → length xs ≡ n → is_kept marks (first + n) ≡ false → picked marks first (xs ++ x ∷ []) ≡ picked marks first xs
  dropped_last first n xs x count e =
      picked_joined first xs (x ∷ []) ∙ (ap (λ l. picked marks first xs ++ l) (one (first + length xs) (subst (λ k. is_kept marks (first + k) ≡ false) (sym count) e)) ∙ append-nil (picked marks first xs))
    where
      one : (k : ℕ) → is_kept marks k ≡ false → picked marks k (x ∷ []) ≡ []
      one k e = rw e refl

  -- an item that is kept, at its new place
  pub picked_there : (first n : ℕ) (xs : List X) (x : X) (m : ℕ) → slice_get xs n ≡ Some x → is_kept marks (first + n) ≡ true
      → m + new_index marks first ≡ new_index marks (first + n) → slice_get (picked marks first xs) m ≡ Some x
  picked_there first n [] x m there e index = absurd (cc)
  picked_there first zero (y ∷ xs) x m there e index =
      let here : first + 0 ≡ first = omega arith in
      let at_first = subst (λ k. is_kept marks k ≡ true) here e in
      let same = ap (new_index marks) here in
      let none : m ≡ 0 = omega arith in rw (none, at_first) there
  picked_there first (suc n) (y ∷ xs) x m there e index =
      let next : first + suc n ≡ suc first + n = omega arith in
      go (kept_or_not (is_kept marks first)) (λ k. picked_there (suc first) n xs x k there (subst (λ j. is_kept marks j ≡ true) next e)) (ap (new_index marks) next)
    where
      go : (is_kept marks first ≡ true) ⊎ (is_kept marks first ≡ false)
          → ((k : ℕ) → k + new_index marks (suc first) ≡ new_index marks (suc first + n) → slice_get (picked marks (suc first) xs) k ≡ Some x)
          → new_index marks (first + suc n) ≡ new_index marks (suc first + n) → slice_get (picked marks first (y ∷ xs)) m ≡ Some x
      go (inl k) ih same =
          let s = after_kept marks first k in
          let more = up marks (suc first) (suc first + n) (omega arith) in
          let back : m ≡ suc (m - 1) = omega arith in
          rw (k, back) (ih (m - 1) (omega arith))
      go (inr k) ih same = let s = after_dropped marks first k in rw k (ih m (omega arith))

module _ {V T : Type 0} (marks : List Bool) where
  one_more : (first : ℕ) (items : ProofItems V T) → is_kept marks (first + commands_in items) ≡ true → new_index marks (first + suc (commands_in items)) ≡ suc (new_index marks (first + commands_in items))
  one_more first items e =
      let next : first + suc (commands_in items) ≡ suc (first + commands_in items) = omega arith in
      ap (new_index marks) next ∙ after_kept marks (first + commands_in items) e

  none_more : (first : ℕ) (items : ProofItems V T) → is_kept marks (first + commands_in items) ≡ false → new_index marks (first + suc (commands_in items)) ≡ new_index marks (first + commands_in items)
  none_more first items e =
      let next : first + suc (commands_in items) ≡ suc (first + commands_in items) = omega arith in
      ap (new_index marks) next ∙ after_dropped marks (first + commands_in items) e

  -- so many commands are left
  pub items_count : (nesting : Nesting V T) (items : ProofItems V T) → AreNested marks nesting items
      → new_index marks (first_index nesting + commands_in items) ≡ new_index marks (first_index nesting) + commands_in (kept_items marks (first_index nesting) items)
  items_count nesting no_items nested =
      let same : first_index nesting + 0 ≡ first_index nesting = omega arith in
      let index = ap (new_index marks) same in omega arith
  items_count nesting (with_assume items id t) nested = go (kept_or_not (is_kept marks (first_index nesting + commands_in items))) (items_count nesting items nested)
    where
      go : (is_kept marks (first_index nesting + commands_in items) ≡ true) ⊎ (is_kept marks (first_index nesting + commands_in items) ≡ false)
          → new_index marks (first_index nesting + commands_in items) ≡ new_index marks (first_index nesting) + commands_in (kept_items marks (first_index nesting) items)
          → new_index marks (first_index nesting + suc (commands_in items)) ≡ new_index marks (first_index nesting) + commands_in (kept_items marks (first_index nesting) (with_assume items id t))
      go (inl e) ih = let s = one_more (first_index nesting) items e in rw e (omega arith)
      go (inr e) ih = let s = none_more (first_index nesting) items e in rw e (omega arith)
  items_count nesting (with_step items s) nested = go (kept_or_not (is_kept marks (first_index nesting + commands_in items))) (items_count nesting items nested.0)
    where
      go : (is_kept marks (first_index nesting + commands_in items) ≡ true) ⊎ (is_kept marks (first_index nesting + commands_in items) ≡ false)
          → new_index marks (first_index nesting + commands_in items) ≡ new_index marks (first_index nesting) + commands_in (kept_items marks (first_index nesting) items)
          → new_index marks (first_index nesting + suc (commands_in items)) ≡ new_index marks (first_index nesting) + commands_in (kept_items marks (first_index nesting) (with_step items s))
      go (inl e) ih = let s = one_more (first_index nesting) items e in rw e (omega arith)
      go (inr e) ih = let s = none_more (first_index nesting) items e in rw e (omega arith)
  items_count nesting (with_subproof items bindings proof s) nested =
      go (kept_or_not (is_kept marks c)) (items_count nesting items nested.0) (items_count (inner nesting items bindings s) proof nested.1)
    where
      c : ℕ
      c = first_index nesting + commands_in items + commands_in proof

      end : first_index nesting + suc (commands_in items + commands_in proof) ≡ suc (first_index nesting + commands_in items + commands_in proof)
      end = omega arith

      go : (is_kept marks (first_index nesting + commands_in items + commands_in proof) ≡ true) ⊎ (is_kept marks (first_index nesting + commands_in items + commands_in proof) ≡ false)
          → new_index marks (first_index nesting + commands_in items) ≡ new_index marks (first_index nesting) + commands_in (kept_items marks (first_index nesting) items)
          → new_index marks (first_index nesting + commands_in items + commands_in proof) ≡ new_index marks (first_index nesting + commands_in items) + commands_in (kept_items marks (first_index nesting + commands_in items) proof)
          → new_index marks (first_index nesting + suc (commands_in items + commands_in proof)) ≡ new_index marks (first_index nesting) + commands_in (kept_items marks (first_index nesting) (with_subproof items bindings proof s))
      go (inl e) outer deeper =
          let s = ap (new_index marks) end ∙ after_kept marks (first_index nesting + commands_in items + commands_in proof) e in rw e (omega arith)
      go (inr e) outer deeper =
          let s = ap (new_index marks) end ∙ after_dropped marks (first_index nesting + commands_in items + commands_in proof) e in
          let none = none_between marks (first_index nesting + commands_in items) (first_index nesting + commands_in items + commands_in proof) (omega arith) (nested.3 e) in
          rw e (omega arith)

  pub first_kept : (nesting : Nesting V T) → IsNestedAround marks nesting → first_index (kept_nesting marks nesting) ≡ new_index marks (first_index nesting)
  first_kept outermost nested = refl
  first_kept (inside around before anchor) nested =
      let ih = first_kept around nested.0 in let count = items_count around before nested.1 in omega arith

  -- one more command behind the items of a scope
  one_behind : (nesting : Nesting V T) (items : ProofItems V T) (l : Line V T) → is_kept marks (first_index nesting + commands_in items) ≡ true
      → (ls : List (Line V T)) → ls ≡ map (kept_line marks) (picked marks (first_index nesting) (lines_in nesting items))
      → ls ++ kept_line marks l ∷ [] ≡ map (kept_line marks) (picked marks (first_index nesting) (lines_in nesting items ++ l ∷ []))
  one_behind nesting items l e ls ih =
      (λ i. ih i ++ kept_line marks l ∷ [])
      ∙ (sym (map_joined (kept_line marks) (picked marks (first_index nesting) (lines_in nesting items)) (l ∷ []))
      ∙ ap (map (kept_line marks)) (sym (picked_last marks (first_index nesting) (commands_in items) (lines_in nesting items) l (lines_in_count nesting items) e)))

  none_behind : (nesting : Nesting V T) (items : ProofItems V T) (l : Line V T) → is_kept marks (first_index nesting + commands_in items) ≡ false
      → (ls : List (Line V T)) → ls ≡ map (kept_line marks) (picked marks (first_index nesting) (lines_in nesting items))
      → ls ≡ map (kept_line marks) (picked marks (first_index nesting) (lines_in nesting items ++ l ∷ []))
  none_behind nesting items l e ls ih =
      ih ∙ ap (map (kept_line marks)) (sym (dropped_last marks (first_index nesting) (commands_in items) (lines_in nesting items) l (lines_in_count nesting items) e))

  -- the lines of what is left
  pub lines_kept : (nesting : Nesting V T) (items : ProofItems V T) → AreNested marks nesting items
      → lines_in (kept_nesting marks nesting) (kept_items marks (first_index nesting) items) ≡ map (kept_line marks) (picked marks (first_index nesting) (lines_in nesting items))
  lines_kept nesting no_items nested = refl
  lines_kept nesting (with_assume items id t) nested = go (kept_or_not (is_kept marks (first_index nesting + commands_in items))) (lines_kept nesting items nested)
    where
      go : (is_kept marks (first_index nesting + commands_in items) ≡ true) ⊎ (is_kept marks (first_index nesting + commands_in items) ≡ false)
          → lines_in (kept_nesting marks nesting) (kept_items marks (first_index nesting) items) ≡ map (kept_line marks) (picked marks (first_index nesting) (lines_in nesting items))
          → lines_in (kept_nesting marks nesting) (kept_items marks (first_index nesting) (with_assume items id t))
          ≡ map (kept_line marks) (picked marks (first_index nesting) (lines_in nesting items ++ record { scope = at nesting items; command = assume id t } ∷ []))
      go (inl e) ih = rw e (one_behind nesting items _ e _ ih)
      go (inr e) ih = rw e (none_behind nesting items _ e _ ih)
  lines_kept nesting (with_step items s) nested = go (kept_or_not (is_kept marks (first_index nesting + commands_in items))) (lines_kept nesting items nested.0)
    where
      go : (is_kept marks (first_index nesting + commands_in items) ≡ true) ⊎ (is_kept marks (first_index nesting + commands_in items) ≡ false)
          → lines_in (kept_nesting marks nesting) (kept_items marks (first_index nesting) items) ≡ map (kept_line marks) (picked marks (first_index nesting) (lines_in nesting items))
          → lines_in (kept_nesting marks nesting) (kept_items marks (first_index nesting) (with_step items s))
          ≡ map (kept_line marks) (picked marks (first_index nesting) (lines_in nesting items ++ record { scope = at nesting items; command = step s } ∷ []))
      go (inl e) ih = rw e (one_behind nesting items _ e _ ih)
      go (inr e) ih = rw e (none_behind nesting items _ e _ ih)
  lines_kept nesting (with_subproof items bindings proof s) nested =
      go (kept_or_not (is_kept marks (first_index nesting + commands_in items + commands_in proof))) (lines_kept nesting items nested.0) (lines_kept (inner nesting items bindings s) proof nested.1)
    where
      both_count : length (lines_in nesting items ++ lines_in (inner nesting items bindings s) proof) ≡ commands_in items + commands_in proof
      both_count =
          let joined = length-append (lines_in nesting items) (lines_in (inner nesting items bindings s) proof) in
          let outer = lines_in_count nesting items in
          let deeper = lines_in_count (inner nesting items bindings s) proof in omega arith

      sum : first_index nesting + commands_in items + commands_in proof ≡ first_index nesting + (commands_in items + commands_in proof)
      sum = omega arith

      apart : picked marks (first_index nesting) (lines_in nesting items ++ lines_in (inner nesting items bindings s) proof)
          ≡ picked marks (first_index nesting) (lines_in nesting items) ++ picked marks (first_index nesting + commands_in items) (lines_in (inner nesting items bindings s) proof)
      apart =
          picked_joined marks (first_index nesting) (lines_in nesting items) (lines_in (inner nesting items bindings s) proof)
          ∙ ap (λ n. picked marks (first_index nesting) (lines_in nesting items) ++ picked marks (first_index nesting + n) (lines_in (inner nesting items bindings s) proof)) (lines_in_count nesting items)

      go : (is_kept marks (first_index nesting + commands_in items + commands_in proof) ≡ true) ⊎ (is_kept marks (first_index nesting + commands_in items + commands_in proof) ≡ false)
          → lines_in (kept_nesting marks nesting) (kept_items marks (first_index nesting) items) ≡ map (kept_line marks) (picked marks (first_index nesting) (lines_in nesting items))
          → lines_in (kept_nesting marks (inner nesting items bindings s)) (kept_items marks (first_index nesting + commands_in items) proof) ≡ map (kept_line marks) (picked marks (first_index nesting + commands_in items) (lines_in (inner nesting items bindings s) proof))
          → lines_in (kept_nesting marks nesting) (kept_items marks (first_index nesting) (with_subproof items bindings proof s))
          ≡ map (kept_line marks) (picked marks (first_index nesting) ((lines_in nesting items ++ lines_in (inner nesting items bindings s) proof) ++ record { scope = at (inner nesting items bindings s) proof; command = closing s } ∷ []))
      go (inl e) outer deeper =
          let last : Line V T = record { scope = at (inner nesting items bindings s) proof; command = closing s } in
          let A = picked marks (first_index nesting) (lines_in nesting items) in
          let B = picked marks (first_index nesting + commands_in items) (lines_in (inner nesting items bindings s) proof) in
          let there = picked_last marks (first_index nesting) (commands_in items + commands_in proof) (lines_in nesting items ++ lines_in (inner nesting items bindings s) proof) last both_count
          (subst (λ k. is_kept marks k ≡ true) sum e) in
          let right : map (kept_line marks) (picked marks (first_index nesting) ((lines_in nesting items ++ lines_in (inner nesting items bindings s) proof) ++ last ∷ []))
          ≡ (map (kept_line marks) A ++ map (kept_line marks) B) ++ kept_line marks last ∷ [] =
          ap (map (kept_line marks)) there
          ∙ (map_joined (kept_line marks) (picked marks (first_index nesting) (lines_in nesting items ++ lines_in (inner nesting items bindings s) proof)) (last ∷ [])
          ∙ ap (λ l. l ++ kept_line marks last ∷ []) (ap (map (kept_line marks)) apart ∙ map_joined (kept_line marks) A B)) in
          rw e ((λ i. (outer i ++ deeper i) ++ kept_line marks last ∷ []) ∙ sym right)
      go (inr e) outer deeper =
          let last : Line V T = record { scope = at (inner nesting items bindings s) proof; command = closing s } in
          let count = lines_in_count (inner nesting items bindings s) proof in
          let there = dropped_last marks (first_index nesting) (commands_in items + commands_in proof) (lines_in nesting items ++ lines_in (inner nesting items bindings s) proof) last both_count
          (subst (λ k. is_kept marks k ≡ false) sum e) in
          let none = picked_none marks (first_index nesting + commands_in items) (lines_in (inner nesting items bindings s) proof)
          (λ j more less. nested.3 e j more (omega arith)) in
          rw e (outer ∙ ap (map (kept_line marks)) (sym (there ∙ (apart ∙ (ap (λ l. picked marks (first_index nesting) (lines_in nesting items) ++ l) none ∙ append-nil (picked marks (first_index nesting) (lines_in nesting items)))))))

  module _ (proof : ProofItems V T) (nested : AreNested marks outermost proof) where
    -- a command that is kept has its line at its new index
    pub new_line : (i : ℕ) (l : Line V T) → slice_get (lines_in outermost proof) i ≡ Some l → is_kept marks i ≡ true
        → slice_get (lines_in outermost (pruned marks proof)) (new_index marks i) ≡ Some (kept_line marks l)
    new_line i l here e =
        let start : 0 + i ≡ i = omega arith in
        let index = ap (new_index marks) start in
        let there = picked_there marks 0 i (lines_in outermost proof) l (new_index marks i) here (subst (λ k. is_kept marks k ≡ true) (sym start) e) (omega arith) in
        subst (λ ls. slice_get ls (new_index marks i) ≡ Some (kept_line marks l)) (sym (lines_kept outermost proof nested))
        (slice_get-map (kept_line marks) (picked marks 0 (lines_in outermost proof)) (new_index marks i) ∙ ap (option_map (kept_line marks)) there)

    -- so many commands are left, and each of them was kept
    pub new_count : commands_in (pruned marks proof) ≡ new_index marks (commands_in proof)
    new_count =
        let count = items_count outermost proof nested in
        let start : 0 + commands_in proof ≡ commands_in proof = omega arith in
        let index = ap (new_index marks) start in omega arith

    pub new_below : (i : ℕ) → i < commands_in proof → is_kept marks i ≡ true → new_index marks i < commands_in (pruned marks proof)
    new_below i less e = let count = new_count in let below = kept_less marks i (commands_in proof) less e in omega arith

    pub old_of : (j : ℕ) → j < commands_in (pruned marks proof) → (i : ℕ) × (i < commands_in proof) × (is_kept marks i ≡ true) × (new_index marks i ≡ j)
    old_of j less = let count = new_count in old_index marks (commands_in proof) j (omega arith)
