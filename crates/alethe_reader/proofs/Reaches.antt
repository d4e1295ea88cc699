-- The commands that a step may name, by the ids in use.
use Rattle.std.proofs.Common.{◌≡◌, ℕ, ◌+◌, ◌≤◌, ◌<◌, List, [], ◌∷◌, ◌++◌, length, Bool, true, false, ◌&&◌, if◌then◌else◌, Option, Some, None, find, refl, sym, ◌∙◌, subst, arith}
use Rattle.std.specs.Prelude.{bytes_eq, nat_le, nat_lt}
use Rattle.std.proofs.lemmas.Bool.{ltb-true, ltb-false, lt-ltb, le-ltb, leb-true, leb-false, le-leb}
use Rattle.std.proofs.lemmas.List.{append_assoc, length-append}
use Rattle.std.proofs.lemmas.Option.{slice_get_within}
use Rattle.sym_table.proofs.Lists.{slice_get-kept}
use Rattle.term_model.specs.Terms.{Var, Term}
use Rattle.rule_model.specs.Proofs.{ProofItems}
use Rattle.rule_model.specs.Scopes.{Anchor, Nesting, inside, Scope, at, scope_number}
use Rattle.rule_model.specs.Visibility.{Sight, sight, seen, direct_assumes}
use Rattle.alethe_reader.specs.declared.ids.Found.{Found}
use Rattle.alethe_reader.specs.declared.ids.Role.{Role}
use Rattle.alethe_reader.specs.declared.ids.Role.TheVariants as role
use Rattle.alethe_reader.specs.Ids.{Used, IsUnused, IsUsedAt}
use Rattle.alethe_reader.specs.IdsInUse.{in_use, own_ids, ids_around, ids_in, sight_at, hidden}
use Rattle.alethe_reader.specs.Reach.{takes, IsReach}
use Rattle.alethe_reader.proofs.IdsInUse.{found_seen, unseen, sights_seen, own_discharged, outer_discharged, none_discharged}

-- what is picked, by three tests
abbrev picked : Bool → Bool → Bool → Sight → Option Sight
picked a b c x = if (a && b) && c then Some x else None

picks : (number : ℕ) (id : List ℕ) (a b : Bool) (r : Role) → a ≡ true → b ≡ true → sight_at r number id ≡ picked a b (takes true r) (sight number id)
picks number id true true role.Assume e f = refl
picks number id true true role.Step e f = refl
picks number id true true role.Anchor e f = refl
picks number id true false r e f = absurd (cc)
picks number id false b r e f = absurd (cc)

picks_assumes : (number : ℕ) (id : List ℕ) (a b : Bool) (r : Role) → a ≡ true → b ≡ true → sight_at (hidden r) number id ≡ picked a b (takes false r) (sight number id)
picks_assumes number id true true role.Assume e f = refl
picks_assumes number id true true role.Step e f = refl
picks_assumes number id true true role.Anchor e f = refl
picks_assumes number id true false r e f = absurd (cc)
picks_assumes number id false b r e f = absurd (cc)

drops_end : (a b c : Bool) (x : Sight) → b ≡ false → None ≡ picked a b c x
drops_end true false c x e = refl
drops_end false false c x e = refl
drops_end a true c x e = absurd (cc)

drops_first : (a b c : Bool) (x : Sight) → a ≡ false → None ≡ picked a b c x
drops_first false b c x e = refl
drops_first true b c x e = absurd (cc)

-- nothing is within reach
pub reaches_none : (used : List Used) (steps : Bool) → IsReach used (record { first = 0; end = 0; takes_steps = steps }) []
reaches_none used steps = record {
  seen = λ id f h. drops_end (nat_le 0 f.place) (nat_lt f.place 0) (takes steps f.role) (sight f.number id) (le-ltb f.place 0 (omega arith));
  unseen = λ id h. refl;
}

-- all that is seen
pub reaches_all : (scope : Scope Var Term) (len : ℕ) → len ≡ length (ids_in scope) → IsReach (ids_in scope) (record { first = 0; end = len; takes_steps = true }) (seen scope.nesting scope.items)
reaches_all scope len e = record {
  seen = λ id f h.
      subst (λ cs. find (λ c. bytes_eq c.id id) cs ≡ sight_at f.role f.number id) (sights_seen scope) (found_seen (ids_in scope) id f h)
      ∙ picks f.number id (nat_le 0 f.place) (nat_lt f.place len) f.role (le-leb 0 f.place (omega arith))
      (lt-ltb f.place len (let w = slice_get_within (ids_in scope) f.place _ h.here in omega (arith, w, e)));
  unseen = λ id h. subst (λ cs. find (λ c. bytes_eq c.id id) cs ≡ None) (sights_seen scope) (unseen (ids_in scope) id h);
}

used_front : (xs ys : List Used) (id : List ℕ) (f : Found) → IsUsedAt (xs ++ ys) id f → f.place < length xs → IsUsedAt xs id f
used_front xs ys id f h below = record {
  here = sym (slice_get-kept xs ys f.place below) ∙ h.here;
  alone = λ k u e same. h.alone k u (slice_get-kept xs ys k (slice_get_within xs k u e) ∙ e) same;
}

unused_front : (xs ys : List Used) (id : List ℕ) (f : Found) → IsUsedAt (xs ++ ys) id f → length xs ≤ f.place → IsUnused xs id
unused_front xs ys id f h past k u e same =
    let w = slice_get_within xs k u e in
    let place = h.alone k u (slice_get-kept xs ys k w ∙ e) same in
    omega (arith, w, past, place)

none_front : (xs ys : List Used) (id : List ℕ) → IsUnused (xs ++ ys) id → IsUnused xs id
none_front xs ys id h k u e same = h k u (slice_get-kept xs ys k (slice_get_within xs k u e) ∙ e) same

module _ (around : Nesting Var Term) (before : ProofItems Var Term) (anchor : Anchor Var Term) (items : ProofItems Var Term) where
  abbrev outer : List Used
  outer = ids_in (at around before)

  abbrev others : List Used
  others = in_use anchor.id role.Anchor (scope_number (inside around before anchor)) ∷ own_ids (inside around before anchor) items

  pub splits : ids_in (at (inside around before anchor) items) ≡ outer ++ others
  splits = append_assoc outer (in_use anchor.id role.Anchor (scope_number (inside around before anchor)) ∷ []) (own_ids (inside around before anchor) items)

  pub opened : length (ids_around (inside around before anchor)) ≡ length outer + 1
  opened = length-append outer (in_use anchor.id role.Anchor (scope_number (inside around before anchor)) ∷ [])

  -- what is seen where the anchor stands
  pub reaches_outer : (start : ℕ) → start ≡ length outer → IsReach (ids_in (at (inside around before anchor) items)) (record { first = 0; end = start; takes_steps = true }) (seen around before)
  reaches_outer start e = subst (λ us. IsReach us (record { first = 0; end = start; takes_steps = true }) (seen around before)) (sym splits) (record {
    seen = λ id f h. go id f h (nat_lt f.place start) refl;
    unseen = λ id h. subst (λ cs. find (λ c. bytes_eq c.id id) cs ≡ None) (sights_seen (at around before)) (unseen outer id (none_front outer others id h));
  })
    where
      go : (id : List ℕ) (f : Found) → IsUsedAt (outer ++ others) id f → (b : Bool) → nat_lt f.place start ≡ b
          → find (λ c. bytes_eq c.id id) (seen around before) ≡ picked (nat_le 0 f.place) b (takes true f.role) (sight f.number id)
      go id f h true t =
          let below = ltb-true f.place start t in
          subst (λ cs. find (λ c. bytes_eq c.id id) cs ≡ sight_at f.role f.number id) (sights_seen (at around before)) (found_seen outer id f (used_front outer others id f h (omega (arith, below, e))))
          ∙ picks f.number id (nat_le 0 f.place) true f.role (le-leb 0 f.place (omega arith)) refl
      go id f h false t =
          subst (λ cs. find (λ c. bytes_eq c.id id) cs ≡ None) (sights_seen (at around before)) (unseen outer id (unused_front outer others id f h (past (nat_lt f.place start) t)))
          ∙ drops_end (nat_le 0 f.place) false (takes true f.role) (sight f.number id) refl
        where
          past : (b : Bool) → nat_lt f.place start ≡ false → length outer ≤ f.place
          past b t = omega (arith, e, ltb-false f.place start t)

  -- the assumes of the scope that is closed
  pub reaches_assumes : (first len : ℕ) → first ≡ length outer + 1 → len ≡ length (ids_in (at (inside around before anchor) items))
      → IsReach (ids_in (at (inside around before anchor) items)) (record { first = first; end = len; takes_steps = false }) (direct_assumes (inside around before anchor) items)
  reaches_assumes first len e l = record {
    seen = λ id f h. go id f h (nat_le first f.place) refl;
    unseen = λ id h. none_discharged (at (inside around before anchor) items) id h;
  }
    where
      go : (id : List ℕ) (f : Found) → IsUsedAt (ids_in (at (inside around before anchor) items)) id f → (b : Bool) → nat_le first f.place ≡ b
          → find (λ c. bytes_eq c.id id) (direct_assumes (inside around before anchor) items) ≡ picked b (nat_lt f.place len) (takes false f.role) (sight f.number id)
      go id f h true t =
          own_discharged (at (inside around before anchor) items) id f h (let w = leb-true first f.place t in omega (arith, w, e, opened))
          ∙ picks_assumes f.number id true (nat_lt f.place len) f.role refl (lt-ltb f.place len (let w = slice_get_within _ f.place _ h.here in omega (arith, w, l)))
      go id f h false t =
          outer_discharged (at (inside around before anchor) items) id f h (omega (arith, e, opened, leb-false first f.place t))
          ∙ drops_first false (nat_lt f.place len) (takes false f.role) (sight f.number id) refl
