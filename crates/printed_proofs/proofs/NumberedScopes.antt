-- What is seen, and what is free, in a scope whose ids are numbered.
use Rattle.std.proofs.Common.{◌≡◌, ◌⊎◌, inl, inr, ℕ, ◌+◌, ◌<◌, ◌≤◌, ◌^◌, suc, Bool, true, false, List, [], ◌∷◌, ◌++◌, map, Contains}
use Rattle.std.proofs.Common.{find, bytes_eq, ◌==◌, eqb-true, refl, sym, ap, ◌∙◌, subst, arith}
use Rattle.std.proofs.lemmas.Bool.{or_parts}
use Rattle.std.proofs.lemmas.Bool.Decides.{nat_tests}
use Rattle.std.specs.List.{AllByRecursion, AllZip}
use Rattle.std.proofs.lemmas.List.{map-append}
use Rattle.term_model.proofs.Lists.{all_at_end, all_joined, contains_cases, contains_none}
use Rattle.rule_model.specs.Proofs.{Step, ProofItems, no_items, with_assume, with_step, with_subproof}
use Rattle.rule_model.specs.Scopes.{Anchor, Nesting, outermost, inside, inner, Scope, first_index, commands_in, next_index}
use Rattle.rule_model.specs.Visibility.{Sight, direct, seen_around, seen, visible, visible_ids, open_ids, assumes_in, direct_assumes}
use Rattle.rule_model.specs.Writing.{is_open_id}
use Rattle.problem_text.specs.Words.{is_among}
use Rattle.term_model.specs.Terms.{Var, Term}
use Rattle.alethe_text.specs.PrintedCommands.{IsIdFree, IsSeenAs}
use Rattle.printed_proofs.specs.Numbered.{printed_id, numbered, numbered_nesting, numbered_scope, CloseEach, AreBehind}
use Rattle.printed_proofs.proofs.PrintedIds.{id_same, id_other}

-- the commands of these ids
abbrev IsNumbered : ℕ → Sight → Type 0
IsNumbered end c = (c.id ≡ printed_id c.index) × (c.index < end)

abbrev AreNumbered : ℕ → List Sight → Type 0
AreNumbered end sights = AllByRecursion (IsNumbered end) sights

later : (end more : ℕ) (sights : List Sight) → end ≤ more → AreNumbered end sights → AreNumbered more sights
later end more [] l h = tt
later end more (c ∷ cs) l h = let first = h.0.1 in ((h.0.0, omega (arith, l, first)), later end more cs l h.1)

numbered_count : {V T : Type 0} (nesting : Nesting V T) (items : ProofItems V T) → commands_in (numbered nesting items) ≡ commands_in items
numbered_count nesting no_items = refl
numbered_count nesting (with_assume items id t) = ap (λ n. suc n) (numbered_count nesting items)
numbered_count nesting (with_step items s) = ap (λ n. suc n) (numbered_count nesting items)
numbered_count nesting (with_subproof items bindings proof s) =
    let a = numbered_count nesting items in
    let b = numbered_count (inner nesting items bindings s) proof in
    rw (a, b) refl

numbered_first : {V T : Type 0} (closings : List ℕ) (nesting : Nesting V T) → first_index (numbered_nesting closings nesting) ≡ first_index nesting
numbered_first closings outermost = refl
numbered_first [] (inside around before anchor) =
    let a = numbered_first [] around in
    let b = numbered_count around before in
    rw (a, b) refl
numbered_first (k ∷ closings) (inside around before anchor) =
    let a = numbered_first closings around in
    let b = numbered_count around before in
    rw (a, b) refl

one_seen : (place index end : ℕ) → place ≡ index → index < end → IsNumbered end (record { index = place; id = printed_id index })
one_seen place index end e l = (ap printed_id (sym e), omega (arith, e, l))

-- indices of sights, one more
indices_more : (xs ys : List Sight) (x y : Sight) → map (λ c. c.index) xs ≡ map (λ c. c.index) ys → x.index ≡ y.index
    → map (λ c. c.index) (xs ++ x ∷ []) ≡ map (λ c. c.index) (ys ++ y ∷ [])
indices_more xs ys x y e f =
    map-append (λ c. c.index) xs (x ∷ []) ∙ (ap (λ l. l ++ x.index ∷ []) e ∙ (ap (λ k. map (λ c. c.index) ys ++ k ∷ []) f
    ∙ sym (map-append (λ c. c.index) ys (y ∷ []))))

module _ {V T : Type 0} (closings : List ℕ) where
  -- where a command stands behind items
  places_same : (nesting : Nesting V T) (items : ProofItems V T)
      → first_index (numbered_nesting closings nesting) + commands_in (numbered nesting items) ≡ first_index nesting + commands_in items
  places_same nesting items =
      let a = numbered_first closings nesting in
      let b = numbered_count nesting items in
      rw (a, b) refl

  direct_numbered : (nesting : Nesting V T) (items : ProofItems V T)
      → AreNumbered (first_index nesting + commands_in items) (direct (numbered_nesting closings nesting) (numbered nesting items))
  direct_numbered nesting no_items = tt
  direct_numbered nesting (with_assume items id t) =
      let here : ℕ = first_index nesting + commands_in items in
      let end : ℕ = first_index nesting + suc (commands_in items) in
      all_at_end (IsNumbered end) (direct (numbered_nesting closings nesting) (numbered nesting items)) _
      (later here end _ (omega arith) (direct_numbered nesting items)) (one_seen _ here end (places_same nesting items) (omega arith))
  direct_numbered nesting (with_step items s) =
      let here : ℕ = first_index nesting + commands_in items in
      let end : ℕ = first_index nesting + suc (commands_in items) in
      all_at_end (IsNumbered end) (direct (numbered_nesting closings nesting) (numbered nesting items)) _
      (later here end _ (omega arith) (direct_numbered nesting items)) (one_seen _ here end (places_same nesting items) (omega arith))
  direct_numbered nesting (with_subproof items bindings proof s) =
      let last : ℕ = first_index nesting + (commands_in items + commands_in proof) in
      let same : first_index (numbered_nesting closings nesting)
      + (commands_in (numbered nesting items) + commands_in (numbered (inner nesting items bindings s) proof)) ≡ last =
      (let a = numbered_first closings nesting in
      let b = numbered_count nesting items in
      let c = numbered_count (inner nesting items bindings s) proof in
      rw (a, b, c) refl) in
      let end : ℕ = first_index nesting + suc (commands_in items + commands_in proof) in
      all_at_end (IsNumbered end) (direct (numbered_nesting closings nesting) (numbered nesting items)) _
      (later (first_index nesting + commands_in items) end _ (omega arith) (direct_numbered nesting items))
      (one_seen _ last end same (omega arith))

  last_same : (nesting : Nesting V T) (items : ProofItems V T) (bindings : List (V × T)) (proof : ProofItems V T) (s : Step T)
      → first_index (numbered_nesting closings nesting)
      + (commands_in (numbered nesting items) + commands_in (numbered (inner nesting items bindings s) proof))
      ≡ first_index nesting + (commands_in items + commands_in proof)
  last_same nesting items bindings proof s =
      let a = numbered_first closings nesting in
      let b = numbered_count nesting items in
      let c = numbered_count (inner nesting items bindings s) proof in
      rw (a, b, c) refl

  direct_indices : (nesting : Nesting V T) (items : ProofItems V T)
      → map (λ c. c.index) (direct (numbered_nesting closings nesting) (numbered nesting items)) ≡ map (λ c. c.index) (direct nesting items)
  direct_indices nesting no_items = refl
  direct_indices nesting (with_assume items id t) =
      indices_more (direct (numbered_nesting closings nesting) (numbered nesting items)) (direct nesting items) _ _ (direct_indices nesting items)
      (places_same nesting items)
  direct_indices nesting (with_step items s) =
      indices_more (direct (numbered_nesting closings nesting) (numbered nesting items)) (direct nesting items) _ _ (direct_indices nesting items)
      (places_same nesting items)
  direct_indices nesting (with_subproof items bindings proof s) =
      indices_more (direct (numbered_nesting closings nesting) (numbered nesting items)) (direct nesting items) _ _ (direct_indices nesting items)
      (last_same nesting items bindings proof s)

  -- the assumes that stand directly in a scope
  pub assumes_numbered : (nesting : Nesting V T) (items : ProofItems V T)
      → AreNumbered (first_index nesting + commands_in items) (direct_assumes (numbered_nesting closings nesting) (numbered nesting items))
  assumes_numbered nesting no_items = tt
  assumes_numbered nesting (with_assume items id t) =
      let here : ℕ = first_index nesting + commands_in items in
      let end : ℕ = first_index nesting + suc (commands_in items) in
      all_at_end (IsNumbered end) (direct_assumes (numbered_nesting closings nesting) (numbered nesting items)) _
      (later here end _ (omega arith) (assumes_numbered nesting items)) (one_seen _ here end (places_same nesting items) (omega arith))
  assumes_numbered nesting (with_step items s) =
      later (first_index nesting + commands_in items) (first_index nesting + suc (commands_in items)) _ (omega arith) (assumes_numbered nesting items)
  assumes_numbered nesting (with_subproof items bindings proof s) =
      later (first_index nesting + commands_in items) (first_index nesting + suc (commands_in items + commands_in proof)) _ (omega arith)
      (assumes_numbered nesting items)

  pub assumes_indices : (nesting : Nesting V T) (items : ProofItems V T)
      → map (λ c. c.index) (direct_assumes (numbered_nesting closings nesting) (numbered nesting items)) ≡ assumes_in nesting items
  assumes_indices nesting no_items = refl
  assumes_indices nesting (with_assume items id t) =
      indices_more (direct_assumes (numbered_nesting closings nesting) (numbered nesting items)) (direct_assumes nesting items) _ _
      (assumes_indices nesting items) (places_same nesting items)
  assumes_indices nesting (with_step items s) = assumes_indices nesting items
  assumes_indices nesting (with_subproof items bindings proof s) = assumes_indices nesting items

-- around a scope
around_numbered : {V T : Type 0} (closings : List ℕ) (nesting : Nesting V T) → CloseEach closings nesting
    → AreNumbered (first_index nesting) (seen_around (numbered_nesting closings nesting))
around_numbered [] outermost each = tt
around_numbered (k ∷ closings) outermost each = absurd each
around_numbered [] (inside around before anchor) each = absurd each
around_numbered (k ∷ closings) (inside around before anchor) each =
    let end : ℕ = first_index around + commands_in before in
    all_joined (IsNumbered end) (seen_around (numbered_nesting closings around)) (direct (numbered_nesting closings around) (numbered around before))
    (later (first_index around) end _ (omega arith) (around_numbered closings around each)) (direct_numbered closings around before)

around_indices : {V T : Type 0} (closings : List ℕ) (nesting : Nesting V T) → CloseEach closings nesting
    → map (λ c. c.index) (seen_around (numbered_nesting closings nesting)) ≡ map (λ c. c.index) (seen_around nesting)
around_indices [] outermost each = refl
around_indices (k ∷ closings) outermost each = absurd each
around_indices [] (inside around before anchor) each = absurd each
around_indices (k ∷ closings) (inside around before anchor) each =
    let n = numbered_nesting closings around in
    map-append (λ c. c.index) (seen_around n) (direct n (numbered around before))
    ∙ (ap (λ l. l ++ map (λ c. c.index) (direct n (numbered around before))) (around_indices closings around each)
    ∙ (ap (λ l. map (λ c. c.index) (seen_around around) ++ l) (direct_indices closings around before)
    ∙ sym (map-append (λ c. c.index) (seen_around around) (direct around before))))

module _ {V T : Type 0} (closings : List ℕ) (nesting : Nesting V T) (items : ProofItems V T) (each : CloseEach closings nesting) where
  abbrev seen_there : List Sight
  seen_there = seen (numbered_nesting closings nesting) (numbered nesting items)

  pub seen_numbered : AllByRecursion (λ c. (c.id ≡ printed_id c.index) × (c.index < first_index nesting + commands_in items)) seen_there
  seen_numbered =
      let end : ℕ = first_index nesting + commands_in items in
      all_joined (IsNumbered end) (seen_around (numbered_nesting closings nesting)) (direct (numbered_nesting closings nesting) (numbered nesting items))
      (later (first_index nesting) end _ (omega arith) (around_numbered closings nesting each)) (direct_numbered closings nesting items)

  pub seen_indices : map (λ c. c.index) seen_there ≡ visible nesting items
  seen_indices =
      let n = numbered_nesting closings nesting in
      map-append (λ c. c.index) (seen_around n) (direct n (numbered nesting items))
      ∙ (ap (λ l. l ++ map (λ c. c.index) (direct n (numbered nesting items))) (around_indices closings nesting each)
      ∙ (ap (λ l. map (λ c. c.index) (seen_around nesting) ++ l) (direct_indices closings nesting items)
      ∙ sym (map-append (λ c. c.index) (seen_around nesting) (direct nesting items))))

-- each of them is found by its id
pub index_within : (sights : List Sight) (end j : ℕ) → AreNumbered end sights → Contains (map (λ c. c.index) sights) j → j < end
index_within [] end j numbered there = absurd (contains_none j there)
index_within (c ∷ cs) end j numbered there =
    go (contains_cases c.index j (map (λ c. c.index) cs) there) (λ rest. index_within cs end j numbered.1 rest)
  where
    go : (c.index ≡ j) ⊎ Contains (map (λ c. c.index) cs) j → (Contains (map (λ c. c.index) cs) j → j < end) → j < end
    go (inl same) others = subst (λ k. k < end) same numbered.0.1
    go (inr rest) others = others rest

same_or_not : (a b : ℕ) → (a ≡ b) ⊎ (a ≡ b → ⊥)
same_or_not a b = go (a == b) refl
  where
    go : (test : Bool) → (a == b) ≡ test → (a ≡ b) ⊎ (a ≡ b → ⊥)
    go true e = inl (eqb-true a b e)
    go false e = inr (λ same. let f : (a == a) ≡ false = ap (λ c. a == c) same ∙ e in absurd (grind (arith, nat_tests, f)))

pub found_by : (sights : List Sight) (end j : ℕ) → end ≤ 2 ^ 32 → AllByRecursion (λ c. (c.id ≡ printed_id c.index) × (c.index < end)) sights
    → Contains (map (λ c. c.index) sights) j → IsSeenAs sights (printed_id j) j
found_by [] end j few numbered there = absurd (contains_none j there)
found_by (c ∷ cs) end j few numbered there =
    go (same_or_not c.index j) (contains_cases c.index j (map (λ c. c.index) cs) there) (λ rest. found_by cs end j few numbered.1 rest)
  where
    low : j < 2 ^ 32
    low = let l = index_within (c ∷ cs) end j numbered there in omega (arith, l, few)

    here : bytes_eq c.id (printed_id j) ≡ bytes_eq (printed_id c.index) (printed_id j)
    here = ap (λ id. bytes_eq id (printed_id j)) numbered.0.0

    go : (c.index ≡ j) ⊎ (c.index ≡ j → ⊥) → (c.index ≡ j) ⊎ Contains (map (λ c. c.index) cs) j
        → (Contains (map (λ c. c.index) cs) j → IsSeenAs cs (printed_id j) j) → IsSeenAs (c ∷ cs) (printed_id j) j
    go (inl same) either others =
        let e : bytes_eq c.id (printed_id j) ≡ true = here ∙ (ap (λ k. bytes_eq (printed_id k) (printed_id j)) same ∙ id_same j) in
        (c, rw e refl, same)
    go (inr differs) (inl same) others = absurd (differs same)
    go (inr differs) (inr rest) others =
        let small = numbered.0.1 in
        let e : bytes_eq c.id (printed_id j) ≡ false = here ∙ id_other c.index j (omega (arith, small, few)) low differs in
        let found = others rest in
        let skipped : find (λ c. bytes_eq c.id (printed_id j)) (c ∷ cs) ≡ find (λ c. bytes_eq c.id (printed_id j)) cs = rw e refl in
        (found.0, skipped ∙ found.1, found.2)

pub all_found : (sights : List Sight) (end : ℕ) (js : List ℕ) → end ≤ 2 ^ 32
    → AllByRecursion (λ c. (c.id ≡ printed_id c.index) × (c.index < end)) sights
    → AllByRecursion (λ j. Contains (map (λ c. c.index) sights) j) js → AllZip (IsSeenAs sights) (map printed_id js) js
all_found sights end [] few numbered there = tt
all_found sights end (j ∷ js) few numbered there =
    (found_by sights end j few numbered there.0, all_found sights end js few numbered there.1)

-- the id of a command that is still to come is free
unseen : (sights : List Sight) (end i : ℕ) → i < 2 ^ 32 → end ≤ i → AreNumbered end sights
    → is_among (map (λ c. c.id) sights) (printed_id i) ≡ false
unseen [] end i few behind numbered = refl
unseen (c ∷ cs) end i few behind numbered =
    let small = numbered.0.1 in
    let own = numbered.0.0 in
    let differs : i ≡ c.index → ⊥ = λ same. omega (arith, same, small, behind) in
    let e : bytes_eq (printed_id i) c.id ≡ false =
    ap (λ id. bytes_eq (printed_id i) id) own ∙ id_other i c.index few (omega (arith, small, behind, few)) differs in
    let rest = unseen cs end i few behind numbered.1 in
    rw (e, rest) refl

among_more : (names : List (List ℕ)) (name other : List ℕ) → is_among names name ≡ false → bytes_eq name other ≡ false
    → is_among (names ++ other ∷ []) name ≡ false
among_more [] name other e f = rw f refl
among_more (n ∷ names) name other e f =
    let parts = or_parts (bytes_eq name n) (is_among names name) e in
    let a = parts.0 in
    let b = among_more names name other parts.1 f in
    rw (a, b) refl

not_open : {V T : Type 0} (closings : List ℕ) (nesting : Nesting V T) (i : ℕ) → i < 2 ^ 32 → CloseEach closings nesting → AreBehind i closings
    → is_among (open_ids (numbered_nesting closings nesting)) (printed_id i) ≡ false
not_open [] outermost i few each behind = refl
not_open (k ∷ closings) outermost i few each behind = absurd each
not_open [] (inside around before anchor) i few each behind = absurd each
not_open (k ∷ closings) (inside around before anchor) i few each behind =
    let l = behind.0.0 in
    among_more (open_ids (numbered_nesting closings around)) (printed_id i) (printed_id k) (not_open closings around i few each behind.1)
    (id_other i k few behind.0.1 (λ same. omega (arith, same, l)))

pub id_is_free : (closings : List ℕ) (scope : Scope Var Term) (i : ℕ) → next_index scope ≤ i → i < 2 ^ 32 → CloseEach closings scope.nesting
    → AreBehind i closings → IsIdFree (printed_id i) (numbered_scope closings scope)
id_is_free closings scope i next few each behind = record {
  not_open = not_open closings scope.nesting i few each behind;
  unseen = unseen _ (next_index scope) i few next (seen_numbered closings scope.nesting scope.items each);
}

pub not_closing : {V T : Type 0} (closings : List ℕ) (nesting : Nesting V T) (i : ℕ) → i < 2 ^ 32 → CloseEach closings nesting
    → AreBehind i closings → is_open_id (numbered_nesting closings nesting) (printed_id i) ≡ false
not_closing [] outermost i few each behind = refl
not_closing (k ∷ closings) outermost i few each behind = absurd each
not_closing [] (inside around before anchor) i few each behind = absurd each
not_closing (k ∷ closings) (inside around before anchor) i few each behind =
    let l = behind.0.0 in id_other i k few behind.0.1 (λ same. omega (arith, same, l))
