-- Cited by crates above. What can be seen where a command that is kept stands: of what could be seen before, what is kept.
use Rattle.std.proofs.Common.{◌≡◌, ◌+◌, ◌⊎◌, inl, inr, ℕ, Bool, true, false, List, [], ◌∷◌, ◌++◌, map, Contains, refl, sym, ◌∙◌, ap, subst, arith, if◌then◌else◌}
use Rattle.std.proofs.lemmas.List.{append-nil}
use Rattle.term_model.proofs.Lists.{contains_none, contains_cases, contains_head, contains_later}
use Rattle.rule_model.specs.Judged.{open_anchors}
use Rattle.rule_model.specs.Proofs.{Step, ProofItems, no_items, with_assume, with_step, with_subproof}
use Rattle.rule_model.specs.Scopes.{Nesting, outermost, inside, inner, commands_in, first_index}
use Rattle.rule_model.specs.Visibility.{Sight, sight, direct, direct_assumes, assumes_in, seen_around, seen, visible, visible_ids, open_ids, open_bindings}
use Rattle.pruned_proofs.specs.Reached.{is_kept}
use Rattle.pruned_proofs.specs.Pruned.{new_index, kept_items}
use Rattle.pruned_proofs.specs.KeptScopes.{kept_nesting}
use Rattle.pruned_proofs.proofs.Counting.{kept_or_not, not_both}
use Rattle.pruned_proofs.proofs.KeptLines.{items_count, first_kept}
use Rattle.pruned_proofs.proofs.Nested.{AreNested, IsNestedAround}

abbrev pub kept_sights : List Bool → List Sight → List Sight
kept_sights marks [] = []
kept_sights marks (s ∷ ss) =
    if is_kept marks s.index then sight (new_index marks s.index) s.id ∷ kept_sights marks ss else kept_sights marks ss

module _ (marks : List Bool) where
  sights_joined : (xs ys : List Sight) → kept_sights marks (xs ++ ys) ≡ kept_sights marks xs ++ kept_sights marks ys
  sights_joined [] ys = refl
  sights_joined (x ∷ xs) ys = go (is_kept marks x.index) (sights_joined xs ys)
    where
      go : (b : Bool) → kept_sights marks (xs ++ ys) ≡ kept_sights marks xs ++ kept_sights marks ys
          → (if b then sight (new_index marks x.index) x.id ∷ kept_sights marks (xs ++ ys) else kept_sights marks (xs ++ ys))
          ≡ (if b then sight (new_index marks x.index) x.id ∷ kept_sights marks xs else kept_sights marks xs) ++ kept_sights marks ys
      go true ih = ap (λ l. sight (new_index marks x.index) x.id ∷ l) ih
      go false ih = ih

  -- one sight more
  sight_kept : (ss ds : List Sight) (index m : ℕ) (id : List ℕ) → is_kept marks index ≡ true → m ≡ new_index marks index → ds ≡ kept_sights marks ss
      → ds ++ sight m id ∷ [] ≡ kept_sights marks (ss ++ sight index id ∷ [])
  sight_kept ss ds index m id e same ih =
      (λ i. ih i ++ sight (same i) id ∷ [])
      ∙ sym (sights_joined ss (sight index id ∷ []) ∙ ap (λ l. kept_sights marks ss ++ l) (one e))
    where
      one : is_kept marks index ≡ true → kept_sights marks (sight index id ∷ []) ≡ sight (new_index marks index) id ∷ []
      one e = rw e refl

  sight_dropped : (ss ds : List Sight) (index : ℕ) (id : List ℕ) → is_kept marks index ≡ false → ds ≡ kept_sights marks ss
      → ds ≡ kept_sights marks (ss ++ sight index id ∷ [])
  sight_dropped ss ds index id e ih =
      ih ∙ sym (sights_joined ss (sight index id ∷ []) ∙ (ap (λ l. kept_sights marks ss ++ l) (one e) ∙ append-nil (kept_sights marks ss)))
    where
      one : is_kept marks index ≡ false → kept_sights marks (sight index id ∷ []) ≡ []
      one e = rw e refl

  -- a kept sight has its new index, and no id is new
  pub index_kept : (ss : List Sight) (p : ℕ) → Contains (map (λ s. s.index) ss) p → is_kept marks p ≡ true → Contains (map (λ s. s.index) (kept_sights marks ss)) (new_index marks p)
  index_kept [] p has e = absurd (contains_none p has)
  index_kept (s ∷ ss) p has e =
      go (kept_or_not (is_kept marks s.index)) (contains_cases s.index p (map (λ s. s.index) ss) has) (λ more. index_kept ss p more e)
    where
      go : (is_kept marks s.index ≡ true) ⊎ (is_kept marks s.index ≡ false) → (s.index ≡ p) ⊎ Contains (map (λ s. s.index) ss) p
          → (Contains (map (λ s. s.index) ss) p → Contains (map (λ s. s.index) (kept_sights marks ss)) (new_index marks p))
          → Contains (map (λ s. s.index) (kept_sights marks (s ∷ ss))) (new_index marks p)
      go (inl k) (inl same) ih =
          rw k (subst (λ q. Contains (new_index marks s.index ∷ map (λ s. s.index) (kept_sights marks ss)) (new_index marks q)) same (contains_head (new_index marks s.index) _))
      go (inl k) (inr more) ih = rw k (contains_later (new_index marks s.index) (new_index marks p) _ (ih more))
      go (inr k) (inl same) ih = absurd (not_both (subst (λ q. is_kept marks q ≡ true) (sym same) e) k)
      go (inr k) (inr more) ih = rw k (ih more)

  pub ids_before : (ss : List Sight) (id : List ℕ) → Contains (map (λ s. s.id) (kept_sights marks ss)) id → Contains (map (λ s. s.id) ss) id
  ids_before [] id has = absurd (contains_none id has)
  ids_before (s ∷ ss) id has = go (is_kept marks s.index) (ids_before ss id) has
    where
      go : (b : Bool) → (Contains (map (λ s. s.id) (kept_sights marks ss)) id → Contains (map (λ s. s.id) ss) id)
          → Contains (map (λ s. s.id) (if b then sight (new_index marks s.index) s.id ∷ kept_sights marks ss else kept_sights marks ss)) id → Contains (map (λ s. s.id) (s ∷ ss)) id
      go true ih has =
          elim (contains_cases s.id id (map (λ s. s.id) (kept_sights marks ss)) has) [
            | inl same ↦ subst (λ x. Contains (x ∷ map (λ s. s.id) ss) id) (sym same) (contains_head id _)
            | inr more ↦ contains_later s.id id _ (ih more)
          ]
      go false ih has = contains_later s.id id _ (ih has)

  module _ {V T : Type 0} where
    abbrev Index : Nesting V T → ProofItems V T → Type 0
    Index nesting items =
        first_index (kept_nesting marks nesting) + commands_in (kept_items marks (first_index nesting) items) ≡ new_index marks (first_index nesting + commands_in items)

    index_now : (nesting : Nesting V T) (items : ProofItems V T) → IsNestedAround marks nesting → AreNested marks nesting items → Index nesting items
    index_now nesting items around nested =
        let first = first_kept marks nesting around in let count = items_count marks nesting items nested in omega arith

    -- the index of the step that closes a scope, and its new index
    closing_sum : (nesting : Nesting V T) (items proof : ProofItems V T) → first_index nesting + commands_in items + commands_in proof ≡ first_index nesting + (commands_in items + commands_in proof)
    closing_sum nesting items proof = omega arith

    pub closing_index : (nesting : Nesting V T) (items : ProofItems V T) (bindings : List (V × T)) (proof : ProofItems V T) (s : Step T) → IsNestedAround marks nesting → AreNested marks nesting items
        → AreNested marks (inner nesting items bindings s) proof
        → first_index (kept_nesting marks nesting) + (commands_in (kept_items marks (first_index nesting) items) + commands_in (kept_items marks (first_index nesting + commands_in items) proof))
        ≡ new_index marks (first_index nesting + (commands_in items + commands_in proof))
    closing_index nesting items bindings proof s around nested deeper =
        let outer = index_now nesting items around nested in
        let count = items_count marks (inner nesting items bindings s) proof deeper in
        let same = ap (new_index marks) (closing_sum nesting items proof) in omega arith

    pub direct_kept : (nesting : Nesting V T) (items : ProofItems V T) → IsNestedAround marks nesting → AreNested marks nesting items
        → direct (kept_nesting marks nesting) (kept_items marks (first_index nesting) items) ≡ kept_sights marks (direct nesting items)
    direct_kept nesting no_items around nested = refl
    direct_kept nesting (with_assume items id t) around nested =
        go (kept_or_not (is_kept marks (first_index nesting + commands_in items))) (index_now nesting items around nested) (direct_kept nesting items around nested)
      where
        go : (is_kept marks (first_index nesting + commands_in items) ≡ true) ⊎ (is_kept marks (first_index nesting + commands_in items) ≡ false) → Index nesting items
            → direct (kept_nesting marks nesting) (kept_items marks (first_index nesting) items) ≡ kept_sights marks (direct nesting items)
            → direct (kept_nesting marks nesting) (kept_items marks (first_index nesting) (with_assume items id t)) ≡ kept_sights marks (direct nesting items ++ sight (first_index nesting + commands_in items) id ∷ [])
        go (inl e) index ih = rw e (sight_kept (direct nesting items) _ _ _ id e index ih)
        go (inr e) index ih = rw e (sight_dropped (direct nesting items) _ _ id e ih)
    direct_kept nesting (with_step items s) around nested =
        go (kept_or_not (is_kept marks (first_index nesting + commands_in items))) (index_now nesting items around nested.0) (direct_kept nesting items around nested.0)
      where
        go : (is_kept marks (first_index nesting + commands_in items) ≡ true) ⊎ (is_kept marks (first_index nesting + commands_in items) ≡ false) → Index nesting items
            → direct (kept_nesting marks nesting) (kept_items marks (first_index nesting) items) ≡ kept_sights marks (direct nesting items)
            → direct (kept_nesting marks nesting) (kept_items marks (first_index nesting) (with_step items s)) ≡ kept_sights marks (direct nesting items ++ sight (first_index nesting + commands_in items) s.id ∷ [])
        go (inl e) index ih = rw e (sight_kept (direct nesting items) _ _ _ s.id e index ih)
        go (inr e) index ih = rw e (sight_dropped (direct nesting items) _ _ s.id e ih)
    direct_kept nesting (with_subproof items bindings proof s) around nested =
        go (kept_or_not (is_kept marks (first_index nesting + commands_in items + commands_in proof))) (closing_index nesting items bindings proof s around nested.0 nested.1) (direct_kept nesting items around nested.0)
      where
        go : (is_kept marks (first_index nesting + commands_in items + commands_in proof) ≡ true) ⊎ (is_kept marks (first_index nesting + commands_in items + commands_in proof) ≡ false)
            → first_index (kept_nesting marks nesting) + (commands_in (kept_items marks (first_index nesting) items) + commands_in (kept_items marks (first_index nesting + commands_in items) proof))
            ≡ new_index marks (first_index nesting + (commands_in items + commands_in proof))
            → direct (kept_nesting marks nesting) (kept_items marks (first_index nesting) items) ≡ kept_sights marks (direct nesting items)
            → direct (kept_nesting marks nesting) (kept_items marks (first_index nesting) (with_subproof items bindings proof s))
            ≡ kept_sights marks (direct nesting items ++ sight (first_index nesting + (commands_in items + commands_in proof)) s.id ∷ [])
        go (inl e) index ih = rw e (sight_kept (direct nesting items) _ _ _ s.id (subst (λ k. is_kept marks k ≡ true) (closing_sum nesting items proof) e) index ih)
        go (inr e) index ih = rw e (sight_dropped (direct nesting items) _ _ s.id (subst (λ k. is_kept marks k ≡ false) (closing_sum nesting items proof) e) ih)

    pub direct_assumes_kept : (nesting : Nesting V T) (items : ProofItems V T) → IsNestedAround marks nesting → AreNested marks nesting items
        → direct_assumes (kept_nesting marks nesting) (kept_items marks (first_index nesting) items) ≡ kept_sights marks (direct_assumes nesting items)
    direct_assumes_kept nesting no_items around nested = refl
    direct_assumes_kept nesting (with_assume items id t) around nested =
        go (kept_or_not (is_kept marks (first_index nesting + commands_in items))) (index_now nesting items around nested) (direct_assumes_kept nesting items around nested)
      where
        go : (is_kept marks (first_index nesting + commands_in items) ≡ true) ⊎ (is_kept marks (first_index nesting + commands_in items) ≡ false) → Index nesting items
            → direct_assumes (kept_nesting marks nesting) (kept_items marks (first_index nesting) items) ≡ kept_sights marks (direct_assumes nesting items)
            → direct_assumes (kept_nesting marks nesting) (kept_items marks (first_index nesting) (with_assume items id t))
            ≡ kept_sights marks (direct_assumes nesting items ++ sight (first_index nesting + commands_in items) id ∷ [])
        go (inl e) index ih = rw e (sight_kept (direct_assumes nesting items) _ _ _ id e index ih)
        go (inr e) index ih = rw e (sight_dropped (direct_assumes nesting items) _ _ id e ih)
    direct_assumes_kept nesting (with_step items s) around nested =
        go (kept_or_not (is_kept marks (first_index nesting + commands_in items))) (direct_assumes_kept nesting items around nested.0)
      where
        go : (is_kept marks (first_index nesting + commands_in items) ≡ true) ⊎ (is_kept marks (first_index nesting + commands_in items) ≡ false)
            → direct_assumes (kept_nesting marks nesting) (kept_items marks (first_index nesting) items) ≡ kept_sights marks (direct_assumes nesting items)
            → direct_assumes (kept_nesting marks nesting) (kept_items marks (first_index nesting) (with_step items s)) ≡ kept_sights marks (direct_assumes nesting items)
        go (inl e) ih = rw e ih
        go (inr e) ih = rw e ih
    direct_assumes_kept nesting (with_subproof items bindings proof s) around nested =
        go (kept_or_not (is_kept marks (first_index nesting + commands_in items + commands_in proof))) (direct_assumes_kept nesting items around nested.0)
      where
        go : (is_kept marks (first_index nesting + commands_in items + commands_in proof) ≡ true) ⊎ (is_kept marks (first_index nesting + commands_in items + commands_in proof) ≡ false)
            → direct_assumes (kept_nesting marks nesting) (kept_items marks (first_index nesting) items) ≡ kept_sights marks (direct_assumes nesting items)
            → direct_assumes (kept_nesting marks nesting) (kept_items marks (first_index nesting) (with_subproof items bindings proof s)) ≡ kept_sights marks (direct_assumes nesting items)
        go (inl e) ih = rw e ih
        go (inr e) ih = rw e ih

    pub seen_around_kept : (nesting : Nesting V T) → IsNestedAround marks nesting → seen_around (kept_nesting marks nesting) ≡ kept_sights marks (seen_around nesting)
    seen_around_kept outermost nested = refl
    seen_around_kept (inside around before anchor) nested =
        let outer = seen_around_kept around nested.0 in
        let here = direct_kept around before nested.0 nested.1 in
        (λ i. outer i ++ here i) ∙ sym (sights_joined (seen_around around) (direct around before))

    module _ (nesting : Nesting V T) (items : ProofItems V T) (around : IsNestedAround marks nesting) (nested : AreNested marks nesting items) where
      pub seen_kept : seen (kept_nesting marks nesting) (kept_items marks (first_index nesting) items) ≡ kept_sights marks (seen nesting items)
      seen_kept =
          let outer = seen_around_kept nesting around in
          let here = direct_kept nesting items around nested in
          (λ i. outer i ++ here i) ∙ sym (sights_joined (seen_around nesting) (direct nesting items))

      pub visible_kept : (p : ℕ) → Contains (visible nesting items) p → is_kept marks p ≡ true → Contains (visible (kept_nesting marks nesting) (kept_items marks (first_index nesting) items)) (new_index marks p)
      visible_kept p has e =
          subst (λ ss. Contains (map (λ s. s.index) ss) (new_index marks p)) (sym seen_kept) (index_kept (seen nesting items) p has e)

      pub assume_kept : (p : ℕ) → Contains (assumes_in nesting items) p → is_kept marks p ≡ true → Contains (assumes_in (kept_nesting marks nesting) (kept_items marks (first_index nesting) items)) (new_index marks p)
      assume_kept p has e =
          subst (λ ss. Contains (map (λ s. s.index) ss) (new_index marks p)) (sym (direct_assumes_kept nesting items around nested)) (index_kept (direct_assumes nesting items) p has e)

      pub id_before : (id : List ℕ) → Contains (visible_ids (kept_nesting marks nesting) (kept_items marks (first_index nesting) items)) id → Contains (visible_ids nesting items) id
      id_before id has = ids_before (seen nesting items) id (subst (λ ss. Contains (map (λ s. s.id) ss) id) seen_kept has)

    -- the anchors that are open are the same
    pub open_ids_kept : (nesting : Nesting V T) → open_ids (kept_nesting marks nesting) ≡ open_ids nesting
    open_ids_kept outermost = refl
    open_ids_kept (inside around before anchor) = ap (λ ids. ids ++ anchor.id ∷ []) (open_ids_kept around)

    pub open_bindings_kept : (nesting : Nesting V T) → open_bindings (kept_nesting marks nesting) ≡ open_bindings nesting
    open_bindings_kept outermost = refl
    open_bindings_kept (inside around before anchor) = ap (λ bs. bs ++ anchor.bindings) (open_bindings_kept around)

    pub open_anchors_kept : (nesting : Nesting V T) → open_anchors (kept_nesting marks nesting) ≡ open_anchors nesting
    open_anchors_kept outermost = refl
    open_anchors_kept (inside around before anchor) = ap (λ outer. anchor.bindings ∷ outer) (open_anchors_kept around)
