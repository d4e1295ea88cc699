-- The ids in use are those of the visible commands and of the open anchors.
use Rattle.std.proofs.Common.{◌≡◌, ◌≢◌, ◌<◌, ◌≤◌, ◌+◌, ◌-◌, ℕ, zero, suc, List, [], ◌∷◌, ◌++◌, map, length, take, slice_index_or, Contains, Bool, true, false, ◌||◌, Option, Some, None, option_map, cond, find, slice_get, refl, sym, ◌∙◌, ap, subst, arith}
use Rattle.std.specs.Str.{bytes_eq}
use Rattle.std.proofs.Math.Seq.{take-append_seam}
use Rattle.std.proofs.lemmas.List.{append_assoc, append-nil, map-append}
use Rattle.std.proofs.lemmas.Option.{slice_get-map}
use Rattle.std.proofs.lemmas.Slice.Eq.{bytes_eq-Decides}
use Rattle.sym_table.proofs.Lists.{slice_get-right}
use Rattle.rule_model.specs.Proofs.{Step as ProofStep, ProofItems, no_items, with_assume, with_step, with_subproof}
use Rattle.rule_model.specs.Scopes.{Anchor as ProofAnchor, Nesting, outermost, inside, Scope, at, first_index, scope_number, commands_in, next_index, next_scope}
use Rattle.rule_model.specs.Visibility.{Sight, sight, direct, seen_around, seen, open_ids, direct_assumes}
use Rattle.rule_model.specs.RuleNames.{IsSymbolName}
use Rattle.rule_model.specs.WellFormed.{IsNewId}
use Rattle.rule_model.specs.Writing.{add_assume, add_step, open_anchor, close_scope}
use Rattle.problem_text.specs.Words.{is_among}
use Rattle.alethe_text.proofs.Lists.{not_among}
use Rattle.alethe_reader.specs.declared.ids.Role.{Role}
use Rattle.alethe_reader.specs.declared.ids.Role.TheVariants.{Assume, Step, Anchor}
use Rattle.alethe_reader.specs.declared.ids.Found.{Found}
use Rattle.alethe_reader.specs.Ids.{Used, IsUnused, IsUsedAt}
use Rattle.alethe_reader.specs.IdsInUse.{in_use, own_ids, ids_around, ids_in, sight_at, hidden}
use Rattle.alethe_reader.specs.IdSights.{sight_of, sights_of, anchor_id_of, anchor_ids_of, hide}

pub sights_append : (us vs : List Used) → sights_of (us ++ vs) ≡ sights_of us ++ sights_of vs
sights_append [] vs = refl
sights_append (u ∷ us) vs = ap (λ l. sight_of u.role u ++ l) (sights_append us vs) ∙ sym (append_assoc (sight_of u.role u) (sights_of us) (sights_of vs))

pub anchors_append : (us vs : List Used) → anchor_ids_of (us ++ vs) ≡ anchor_ids_of us ++ anchor_ids_of vs
anchors_append [] vs = refl
anchors_append (u ∷ us) vs = ap (λ l. anchor_id_of u.role u ++ l) (anchors_append us vs) ∙ sym (append_assoc (anchor_id_of u.role u) (anchor_ids_of us) (anchor_ids_of vs))

module _ {V T : Type 0} where
  own_sights : (nesting : Nesting V T) (items : ProofItems V T) → sights_of (own_ids nesting items) ≡ direct nesting items
  own_sights nesting no_items = refl
  own_sights nesting (with_assume items id t) =
      sights_append (own_ids nesting items) (in_use id Assume (first_index nesting + commands_in items) ∷ [])
      ∙ ap (λ l. l ++ sight (first_index nesting + commands_in items) id ∷ []) (own_sights nesting items)
  own_sights nesting (with_step items s) =
      sights_append (own_ids nesting items) (in_use s.id Step (first_index nesting + commands_in items) ∷ [])
      ∙ ap (λ l. l ++ sight (first_index nesting + commands_in items) s.id ∷ []) (own_sights nesting items)
  own_sights nesting (with_subproof items bindings proof s) =
      sights_append (own_ids nesting items) (in_use s.id Step (first_index nesting + (commands_in items + commands_in proof)) ∷ [])
      ∙ ap (λ l. l ++ sight (first_index nesting + (commands_in items + commands_in proof)) s.id ∷ []) (own_sights nesting items)

  own_anchors : (nesting : Nesting V T) (items : ProofItems V T) → anchor_ids_of (own_ids nesting items) ≡ []
  own_anchors nesting no_items = refl
  own_anchors nesting (with_assume items id t) =
      anchors_append (own_ids nesting items) (in_use id Assume (first_index nesting + commands_in items) ∷ []) ∙ ap (λ l. l ++ []) (own_anchors nesting items)
  own_anchors nesting (with_step items s) =
      anchors_append (own_ids nesting items) (in_use s.id Step (first_index nesting + commands_in items) ∷ []) ∙ ap (λ l. l ++ []) (own_anchors nesting items)
  own_anchors nesting (with_subproof items bindings proof s) =
      anchors_append (own_ids nesting items) (in_use s.id Step (first_index nesting + (commands_in items + commands_in proof)) ∷ []) ∙ ap (λ l. l ++ []) (own_anchors nesting items)

  around_sights : (nesting : Nesting V T) → sights_of (ids_around nesting) ≡ seen_around nesting
  around_sights outermost = refl
  around_sights (inside around before anchor) =
      sights_append (ids_around around ++ own_ids around before) (in_use anchor.id Anchor (scope_number (inside around before anchor)) ∷ [])
      ∙ (append_nil (sights_of (ids_around around ++ own_ids around before))
      ∙ (sights_append (ids_around around) (own_ids around before)
      ∙ both (around_sights around) (own_sights around before)))
    where
      append_nil : (l : List Sight) → l ++ [] ≡ l
      append_nil [] = refl
      append_nil (x ∷ l) = ap (λ l. x ∷ l) (append_nil l)

      both : {a b c d : List Sight} → a ≡ b → c ≡ d → a ++ c ≡ b ++ d
      both e f = cc

  around_anchors : (nesting : Nesting V T) → anchor_ids_of (ids_around nesting) ≡ open_ids nesting
  around_anchors outermost = refl
  around_anchors (inside around before anchor) =
      anchors_append (ids_around around ++ own_ids around before) (in_use anchor.id Anchor (scope_number (inside around before anchor)) ∷ [])
      ∙ ap (λ l. l ++ anchor.id ∷ []) (anchors_append (ids_around around) (own_ids around before)
      ∙ (ap (λ l. anchor_ids_of (ids_around around) ++ l) (own_anchors around before)
      ∙ (append_nil (anchor_ids_of (ids_around around)) ∙ around_anchors around)))
    where
      append_nil : (l : List (List ℕ)) → l ++ [] ≡ l
      append_nil [] = refl
      append_nil (x ∷ l) = ap (λ l. x ∷ l) (append_nil l)

  -- what is seen in a scope, and the anchors that are open there, by the ids in use
  pub sights_seen : (scope : Scope V T) → sights_of (ids_in scope) ≡ seen scope.nesting scope.items
  sights_seen scope =
      sights_append (ids_around scope.nesting) (own_ids scope.nesting scope.items) ∙ both (around_sights scope.nesting) (own_sights scope.nesting scope.items)
    where
      both : {a b c d : List Sight} → a ≡ b → c ≡ d → a ++ c ≡ b ++ d
      both e f = cc

  pub anchors_open : (scope : Scope V T) → anchor_ids_of (ids_in scope) ≡ open_ids scope.nesting
  anchors_open scope =
      anchors_append (ids_around scope.nesting) (own_ids scope.nesting scope.items)
      ∙ (ap (λ l. anchor_ids_of (ids_around scope.nesting) ++ l) (own_anchors scope.nesting scope.items)
      ∙ (append_nil (anchor_ids_of (ids_around scope.nesting)) ∙ around_anchors scope.nesting))
    where
      append_nil : (l : List (List ℕ)) → l ++ [] ≡ l
      append_nil [] = refl
      append_nil (x ∷ l) = ap (λ l. x ∷ l) (append_nil l)

-- an id that is not in use is that of no visible command and of no open anchor
differs : (a b : List ℕ) → a ≢ b → bytes_eq a b ≡ false
differs a b h = go (bytes_eq a b) refl
  where
    go : (c : Bool) → bytes_eq a b ≡ c → c ≡ false
    go true e = absurd (h ((bytes_eq-Decides a b).0 e))
    go false e = refl

unused_rest : (u : Used) (us : List Used) (id : List ℕ) → IsUnused (u ∷ us) id → IsUnused us id
unused_rest u us id h = λ k v e. h (suc k) v e

pub unseen : (us : List Used) (id : List ℕ) → IsUnused us id → find (λ c. bytes_eq c.id id) (sights_of us) ≡ None
unseen [] id h = refl
unseen (u ∷ us) id h = go u.role (unseen us id (unused_rest u us id h))
  where
    go : (role : Role) → find (λ c. bytes_eq c.id id) (sights_of us) ≡ None → find (λ c. bytes_eq c.id id) (sight_of role u ++ sights_of us) ≡ None
    go Assume e = ap (λ b. cond b (Some (sight u.number u.id)) (find (λ c. bytes_eq c.id id) (sights_of us))) (differs u.id id (h 0 u refl)) ∙ e
    go Step e = ap (λ b. cond b (Some (sight u.number u.id)) (find (λ c. bytes_eq c.id id) (sights_of us))) (differs u.id id (h 0 u refl)) ∙ e
    go Anchor e = e

pub not_open : (us : List Used) (id : List ℕ) → IsUnused us id → is_among (anchor_ids_of us) id ≡ false
not_open [] id h = refl
not_open (u ∷ us) id h = go u.role (not_open us id (unused_rest u us id h))
  where
    go : (role : Role) → is_among (anchor_ids_of us) id ≡ false → is_among (anchor_id_of role u ++ anchor_ids_of us) id ≡ false
    go Assume e = e
    go Step e = e
    go Anchor e = ap (λ b. b || is_among (anchor_ids_of us) id) (differs id u.id (λ f. h 0 u refl (sym f))) ∙ e

-- The id stands at this place, with this role, and at no other.
record IsAt (us : List Used) (id : List ℕ) (role : Role) (number place : ℕ) : Type 0 where
  pub here : slice_get us place ≡ Some (in_use id role number)
  pub alone : (k : ℕ) (u : Used) → slice_get us k ≡ Some u → u.id ≡ id → k ≡ place

at_seen : (us : List Used) (id : List ℕ) (role : Role) (number place : ℕ) → IsAt us id role number place → find (λ c. bytes_eq c.id id) (sights_of us) ≡ sight_at role number id
at_seen [] id role number place h = absurd (let e = h.here in cc)
at_seen (u ∷ us) id role number zero h = subst (λ v. find (λ c. bytes_eq c.id id) (sights_of (v ∷ us)) ≡ sight_at role number id) (sym first) (go role)
  where
    first : u ≡ in_use id role number
    first = let e = h.here in cc

    others : IsUnused us id
    others k v e f = let g = h.alone (suc k) v e f in absurd (cc)

    same : bytes_eq id id ≡ true
    same = (bytes_eq-Decides id id).1 refl

    go : (role : Role) → find (λ c. bytes_eq c.id id) (sight_of role (in_use id role number) ++ sights_of us) ≡ sight_at role number id
    go Assume = ap (λ b. cond b (Some (sight number id)) (find (λ c. bytes_eq c.id id) (sights_of us))) same
    go Step = ap (λ b. cond b (Some (sight number id)) (find (λ c. bytes_eq c.id id) (sights_of us))) same
    go Anchor = unseen us id others
at_seen (u ∷ us) id role number (suc place) h = go u.role (at_seen us id role number place rest)
  where
    rest : IsAt us id role number place
    rest = record { here = h.here; alone = λ k v e f. (let g = h.alone (suc k) v e f in cc) }

    other : u.id ≢ id
    other e = let g = h.alone 0 u refl e in absurd (cc)

    go : (r : Role) → find (λ c. bytes_eq c.id id) (sights_of us) ≡ sight_at role number id → find (λ c. bytes_eq c.id id) (sight_of r u ++ sights_of us) ≡ sight_at role number id
    go Assume e = ap (λ b. cond b (Some (sight u.number u.id)) (find (λ c. bytes_eq c.id id) (sights_of us))) (differs u.id id other) ∙ e
    go Step e = ap (λ b. cond b (Some (sight u.number u.id)) (find (λ c. bytes_eq c.id id) (sights_of us))) (differs u.id id other) ∙ e
    go Anchor e = e

pub found_seen : (us : List Used) (id : List ℕ) (f : Found) → IsUsedAt us id f → find (λ c. bytes_eq c.id id) (sights_of us) ≡ sight_at f.role f.number id
found_seen us id f h = at_seen us id f.role f.number f.place (record { here = h.here; alone = h.alone })

-- An id in use as one of which only assumes are commands.
record StandsHidden (us : List Used) (k : ℕ) (v : Used) : Type 0 where
  pub u : Used
  pub there : slice_get us k ≡ Some u
  pub same : hide u ≡ v

stands_hidden : (us : List Used) (k : ℕ) (v : Used) → slice_get (map hide us) k ≡ Some v → StandsHidden us k v
stands_hidden us k v e = go (slice_get us k) refl (sym (slice_get-map hide us k) ∙ e)
  where
    inner : (u : Used) → Some (hide u) ≡ Some v → hide u ≡ v
    inner u e = cc

    go : (o : Option Used) → slice_get us k ≡ o → option_map hide o ≡ Some v → StandsHidden us k v
    go None f g = absurd (cc)
    go (Some u) f g = record { u = u; there = f; same = inner u g }

unused_hidden : (us : List Used) (id : List ℕ) → IsUnused us id → IsUnused (map hide us) id
unused_hidden us id h k v e same =
    let s = stands_hidden us k v e in h k s.u s.there (ap (λ (u : Used). u.id) s.same ∙ same)

at_hidden : (us : List Used) (id : List ℕ) (role : Role) (number place : ℕ) → IsAt us id role number place → IsAt (map hide us) id (hidden role) number place
at_hidden us id role number place h = record {
  here = slice_get-map hide us place ∙ ap (option_map hide) h.here;
  alone = λ k v e same. (let s = stands_hidden us k v e in h.alone k s.u s.there (ap (λ (u : Used). u.id) s.same ∙ same));
}

module _ {V T : Type 0} where
  own_assumes : (nesting : Nesting V T) (items : ProofItems V T) → sights_of (map hide (own_ids nesting items)) ≡ direct_assumes nesting items
  own_assumes nesting no_items = refl
  own_assumes nesting (with_assume items id t) =
      ap sights_of (map-append hide (own_ids nesting items) (in_use id Assume (first_index nesting + commands_in items) ∷ []))
      ∙ (sights_append (map hide (own_ids nesting items)) (in_use id Assume (first_index nesting + commands_in items) ∷ [])
      ∙ ap (λ l. l ++ sight (first_index nesting + commands_in items) id ∷ []) (own_assumes nesting items))
  own_assumes nesting (with_step items s) =
      ap sights_of (map-append hide (own_ids nesting items) (in_use s.id Step (first_index nesting + commands_in items) ∷ []))
      ∙ (sights_append (map hide (own_ids nesting items)) (in_use s.id Anchor (first_index nesting + commands_in items) ∷ [])
      ∙ (append-nil (sights_of (map hide (own_ids nesting items))) ∙ own_assumes nesting items))
  own_assumes nesting (with_subproof items bindings proof s) =
      ap sights_of (map-append hide (own_ids nesting items) (in_use s.id Step (first_index nesting + (commands_in items + commands_in proof)) ∷ []))
      ∙ (sights_append (map hide (own_ids nesting items)) (in_use s.id Anchor (first_index nesting + (commands_in items + commands_in proof)) ∷ [])
      ∙ (append-nil (sights_of (map hide (own_ids nesting items))) ∙ own_assumes nesting items))

  own_unused : (scope : Scope V T) (id : List ℕ) → IsUnused (own_ids scope.nesting scope.items) id → find (λ c. bytes_eq c.id id) (direct_assumes scope.nesting scope.items) ≡ None
  own_unused scope id h =
      subst (λ cs. find (λ c. bytes_eq c.id id) cs ≡ None) (own_assumes scope.nesting scope.items)
      (unseen (map hide (own_ids scope.nesting scope.items)) id (unused_hidden (own_ids scope.nesting scope.items) id h))

  -- an id that is not in use is that of no assume in the scope, and so is one that was in use where the scope was opened
  pub none_discharged : (scope : Scope V T) (id : List ℕ) → IsUnused (ids_in scope) id → find (λ c. bytes_eq c.id id) (direct_assumes scope.nesting scope.items) ≡ None
  none_discharged scope id h =
      own_unused scope id (λ k u e. h (length (ids_around scope.nesting) + k) u (slice_get-right (ids_around scope.nesting) (own_ids scope.nesting scope.items) k ∙ e))

  pub outer_discharged : (scope : Scope V T) (id : List ℕ) (f : Found) → IsUsedAt (ids_in scope) id f → f.place < length (ids_around scope.nesting) → find (λ c. bytes_eq c.id id) (direct_assumes scope.nesting scope.items) ≡ None
  outer_discharged scope id f h before =
      own_unused scope id (λ k u e same.
      let place = h.alone (length (ids_around scope.nesting) + k) u (slice_get-right (ids_around scope.nesting) (own_ids scope.nesting scope.items) k ∙ e) same in
      absurd (omega (arith, before, place)))

  -- one that was put in use in the scope is that of the assume with its number, where it is that of an assume
  pub own_discharged : (scope : Scope V T) (id : List ℕ) (f : Found) → IsUsedAt (ids_in scope) id f → length (ids_around scope.nesting) ≤ f.place → find (λ c. bytes_eq c.id id) (direct_assumes scope.nesting scope.items) ≡ sight_at (hidden f.role) f.number id
  own_discharged scope id f h inside_it =
      let n = length (ids_around scope.nesting) in
      let own = own_ids scope.nesting scope.items in
      let place : n + (f.place - n) ≡ f.place = omega (arith, inside_it) in
      let here : slice_get own (f.place - n) ≡ Some (in_use id f.role f.number) = sym (slice_get-right (ids_around scope.nesting) own (f.place - n)) ∙ (ap (slice_get (ids_in scope)) place ∙ h.here) in
      let there : IsAt own id f.role f.number (f.place - n) = record {
        here = here;
        alone = λ k u e same. (let p = h.alone (n + k) u (slice_get-right (ids_around scope.nesting) own k ∙ e) same in omega (arith, p));
      } in
      subst (λ cs. find (λ c. bytes_eq c.id id) cs ≡ sight_at (hidden f.role) f.number id) (own_assumes scope.nesting scope.items)
      (at_seen (map hide own) id (hidden f.role) f.number (f.place - n) (at_hidden own id f.role f.number (f.place - n) there))

-- how the ids in use follow the proof that is written
module _ {V T : Type 0} where
  pub ids_assume : (scope : Scope V T) (id : List ℕ) (t : T) → ids_in (add_assume scope id t) ≡ ids_in scope ++ in_use id Assume (next_index scope) ∷ []
  ids_assume scope id t = sym (append_assoc (ids_around scope.nesting) (own_ids scope.nesting scope.items) (in_use id Assume (next_index scope) ∷ []))

  pub ids_step : (scope : Scope V T) (s : ProofStep T) → ids_in (add_step scope s) ≡ ids_in scope ++ in_use s.id Step (next_index scope) ∷ []
  ids_step scope s = sym (append_assoc (ids_around scope.nesting) (own_ids scope.nesting scope.items) (in_use s.id Step (next_index scope) ∷ []))

  pub ids_open : (scope : Scope V T) (anchor : ProofAnchor V T) → ids_in (open_anchor scope anchor) ≡ ids_in scope ++ in_use anchor.id Anchor (next_scope scope) ∷ []
  ids_open scope anchor = append-nil (ids_in scope ++ in_use anchor.id Anchor (next_scope scope) ∷ [])

  -- A scope is left: what was in use where its anchor stands is in use again.
  pub ids_close : (around : Nesting V T) (before : ProofItems V T) (anchor : ProofAnchor V T) (items : ProofItems V T) (s : ProofStep T) →
      ids_in (close_scope (inside around before anchor) items s)
      ≡ take (length (ids_in (at around before))) (ids_in (at (inside around before anchor) items)) ++ in_use s.id Step (next_index (at (inside around before anchor) items)) ∷ []
  ids_close around before anchor items s =
      let xs = ids_in (at around before) in
      let last = in_use anchor.id Anchor (scope_number (inside around before anchor)) ∷ [] in
      let index : first_index around + (commands_in before + commands_in items) ≡ next_index (at (inside around before anchor) items) = omega arith in
      let whole : ids_in (at (inside around before anchor) items) ≡ xs ++ (last ++ own_ids (inside around before anchor) items) = append_assoc xs last (own_ids (inside around before anchor) items) in
      sym (append_assoc (ids_around around) (own_ids around before) (in_use s.id Step (first_index around + (commands_in before + commands_in items)) ∷ []))
      ∙ (ap (λ n. xs ++ in_use s.id Step n ∷ []) index
      ∙ ap (λ l. l ++ in_use s.id Step (next_index (at (inside around before anchor) items)) ∷ []) (sym (ap (take (length xs)) whole ∙ take-append_seam xs (last ++ own_ids (inside around before anchor) items))))

-- what is not among names is none of them, and the other way round for sights
not_seen : (sights : List Sight) (id : List ℕ) → find (λ c. bytes_eq c.id id) sights ≡ None → ¬ Contains (map (λ c. c.id) sights) id
not_seen [] id e (k, h, f) = absurd (omega (arith, h))
not_seen (c ∷ sights) id e (k, h, f) = go (bytes_eq c.id id) refl (λ none has. not_seen sights id none has) k h f e
  where
    go : (b : Bool) → bytes_eq c.id id ≡ b → (find (λ c. bytes_eq c.id id) sights ≡ None → ¬ Contains (map (λ c. c.id) sights) id) → (k : ℕ) → k < length (map (λ c. c.id) (c ∷ sights)) → slice_index_or (map (λ c. c.id) (c ∷ sights)) k id ≡ id → cond b (Some c) (find (λ c. bytes_eq c.id id) sights) ≡ None → ⊥
    go true g ih k h f e = absurd (cc)
    go false g ih zero h f e = absurd (let same = (bytes_eq-Decides c.id id).1 f in cc)
    go false g ih (suc k) h f e = ih e (k, omega (arith, h), f)

-- an id that is not in use is new
pub unused_new : {V T : Type 0} (scope : Scope V T) (id : List ℕ) → IsSymbolName id → IsUnused (ids_in scope) id → IsNewId scope.nesting scope.items id
unused_new scope id symbol h = record {
  symbol = symbol;
  unseen = not_seen (seen scope.nesting scope.items) id (subst (λ cs. find (λ c. bytes_eq c.id id) cs ≡ None) (sights_seen scope) (unseen (ids_in scope) id h));
  not_open = not_among (open_ids scope.nesting) id (subst (λ ids. is_among ids id ≡ false) (anchors_open scope) (not_open (ids_in scope) id h));
}
