-- An id is judged by the ids that are in use.
use Rattle.std.proofs.Common.{◌≡◌, ◌≢◌, ℕ, zero, suc, List, [], ◌∷◌, ◌++◌, map, Bool, true, false, not, ◌||◌, Option, Some, None, Ok, Err, cond, find, slice_get, refl, sym, ◌∙◌, ap, subst}
use Rattle.std.specs.Prelude.{⊤, is_some}
use Rattle.std.specs.Str.{bytes_eq}
use Rattle.std.proofs.lemmas.Slice.Eq.{bytes_eq-Decides}
use Rattle.sexpr.specs.declared.causes.Cause.{Cause}
use Rattle.sexpr.specs.declared.causes.Cause.TheVariants.{Repeated}
use Rattle.term_model.specs.Terms.{Var, Term}
use Rattle.rule_model.specs.Scopes.{Scope}
use Rattle.rule_model.specs.Visibility.{Sight, seen, visible_ids, open_ids}
use Rattle.text_items.specs.ItemShapes.{Name}
use Rattle.problem_text.specs.Outcomes.{Outcome, given}
use Rattle.problem_text.specs.Words.{is_among}
use Rattle.alethe_text.specs.Ids.{id_judged}
use Rattle.alethe_text.specs.States.{ProofState, ◌>>=◌, demand}
use Rattle.alethe_reader.specs.declared.ids.Found.{Found}
use Rattle.alethe_reader.specs.declared.ids.Role.{Role}
use Rattle.alethe_reader.specs.declared.ids.Role.TheVariants.{Assume, Step, Anchor}
use Rattle.alethe_reader.specs.Ids.{Used, IsUnused, IsUsedAt}
use Rattle.alethe_reader.specs.IdsInUse.{in_use, ids_in, sight_at}
use Rattle.alethe_reader.specs.IdSights.{anchor_id_of, anchor_ids_of}
use Rattle.alethe_reader.specs.Judging.{cause_of}
use Rattle.alethe_reader.proofs.IdsInUse.{found_seen, unseen, not_open, sights_seen, anchors_open}
use Rattle.alethe_commands.proofs.CommandsByNodes.{turned}

-- the role is that of an anchor, or of a command
abbrev pub is_anchor : Role → Bool
is_anchor Assume = false
is_anchor Step = false
is_anchor Anchor = true

same_bytes : (a : List ℕ) → bytes_eq a a ≡ true
same_bytes a = (bytes_eq-Decides a a).1 refl

other_bytes : (a b : List ℕ) → a ≢ b → bytes_eq a b ≡ false
other_bytes a b h = go (bytes_eq a b) refl
  where
    go : (c : Bool) → bytes_eq a b ≡ c → c ≡ false
    go true e = absurd (h ((bytes_eq-Decides a b).0 e))
    go false e = refl

-- the id is that of an open anchor exactly where it stands with the role of one
open_at : (us : List Used) (id : List ℕ) (role : Role) (number place : ℕ) → slice_get us place ≡ Some (in_use id role number) → ((k : ℕ) (u : Used) → slice_get us k ≡ Some u → u.id ≡ id → k ≡ place)
    → is_among (anchor_ids_of us) id ≡ is_anchor role
open_at [] id role number place here alone = absurd (cc)
open_at (u ∷ us) id role number zero here alone = subst (λ v. is_among (anchor_ids_of (v ∷ us)) id ≡ is_anchor role) (sym first) (go role)
  where
    first : u ≡ in_use id role number
    first = cc

    rest : is_among (anchor_ids_of us) id ≡ false
    rest = not_open us id (λ k v e f. (let g = alone (suc k) v e f in absurd (cc)))

    go : (role : Role) → is_among (anchor_id_of role (in_use id role number) ++ anchor_ids_of us) id ≡ is_anchor role
    go Assume = rest
    go Step = rest
    go Anchor = ap (λ b. b || is_among (anchor_ids_of us) id) (same_bytes id)
open_at (u ∷ us) id role number (suc place) here alone = go u.role (open_at us id role number place here (λ k v e f. (let g = alone (suc k) v e f in cc)))
  where
    other : id ≢ u.id
    other e = let g = alone 0 u refl (sym e) in absurd (cc)

    go : (r : Role) → is_among (anchor_ids_of us) id ≡ is_anchor role → is_among (anchor_id_of r u ++ anchor_ids_of us) id ≡ is_anchor role
    go Assume e = e
    go Step e = e
    go Anchor e = ap (λ b. b || is_among (anchor_ids_of us) id) (other_bytes id u.id other) ∙ e

-- what is found among sights has an id that is among theirs
found_among : (sights : List Sight) (id : List ℕ) (o : Option Sight) → find (λ c. bytes_eq c.id id) sights ≡ o → is_among (map (λ c. c.id) sights) id ≡ is_some o
found_among [] id o e = subst (λ o. false ≡ is_some o) e refl
found_among (c ∷ sights) id o e = go (bytes_eq c.id id) refl e (found_among sights id)
  where
    go : (b : Bool) → bytes_eq c.id id ≡ b → cond b (Some c) (find (λ c. bytes_eq c.id id) sights) ≡ o → ((o : Option Sight) → find (λ c. bytes_eq c.id id) sights ≡ o → is_among (map (λ c. c.id) sights) id ≡ is_some o)
        → is_among (map (λ c. c.id) (c ∷ sights)) id ≡ is_some o
    go true f g ih = ap (λ b. b || is_among (map (λ c. c.id) sights) id) (turned id c.id ∙ f) ∙ ap is_some g
    go false f g ih = ap (λ b. b || is_among (map (λ c. c.id) sights) id) (turned id c.id ∙ f) ∙ ih o g

module _ (scope : Scope Var Term) (id : List ℕ) where
  pub unused_open : IsUnused (ids_in scope) id → is_among (open_ids scope.nesting) id ≡ false
  unused_open h = subst (λ ids. is_among ids id ≡ false) (anchors_open scope) (not_open (ids_in scope) id h)

  pub unused_visible : IsUnused (ids_in scope) id → is_among (visible_ids scope.nesting scope.items) id ≡ false
  unused_visible h = found_among (seen scope.nesting scope.items) id None (subst (λ cs. find (λ c. bytes_eq c.id id) cs ≡ None) (sights_seen scope) (unseen (ids_in scope) id h))

  module _ (f : Found) (h : IsUsedAt (ids_in scope) id f) where
    pub used_open : is_among (open_ids scope.nesting) id ≡ is_anchor f.role
    used_open = subst (λ ids. is_among ids id ≡ is_anchor f.role) (anchors_open scope) (open_at (ids_in scope) id f.role f.number f.place h.here h.alone)

    used_visible : is_among (visible_ids scope.nesting scope.items) id ≡ is_some (sight_at f.role f.number id)
    used_visible = found_among (seen scope.nesting scope.items) id (sight_at f.role f.number id) (subst (λ cs. find (λ c. bytes_eq c.id id) cs ≡ sight_at f.role f.number id) (sights_seen scope) (found_seen (ids_in scope) id f h))

    pub visible_step : is_anchor f.role ≡ false → is_among (visible_ids scope.nesting scope.items) id ≡ true
    visible_step e = used_visible ∙ go f.role e
      where
        go : (role : Role) → is_anchor role ≡ false → is_some (sight_at role f.number id) ≡ true
        go Assume e = refl
        go Step e = refl
        go Anchor e = absurd (cc)

-- what a judgement comes to
abbrev judged_so : Bool → Bool → Cause → Name → ProofState → Outcome ProofState ⊤
judged_so opened visible of_anchor n p = (demand (not opened) of_anchor n.place >>= λ _. demand (not visible) Repeated n.place) p

module _ (of_anchor : Cause) (n : Name) (p : ProofState) where
  pub judged_new : IsUnused (ids_in p.scope) n.name → id_judged of_anchor n p ≡ given (Ok tt) p
  unfolding ◌>>=◌
  judged_new h = ap (λ b. judged_so b (is_among (visible_ids p.scope.nesting p.scope.items) n.name) of_anchor n p) (unused_open p.scope n.name h) ∙ ap (λ b. judged_so false b of_anchor n p) (unused_visible p.scope n.name h)

  pub judged_used : (f : Found) → IsUsedAt (ids_in p.scope) n.name f → id_judged of_anchor n p ≡ given (Err (record { cause = cause_of of_anchor f.role; at = n.place })) p
  unfolding ◌>>=◌
  judged_used f h = ap (λ b. judged_so b (is_among (visible_ids p.scope.nesting p.scope.items) n.name) of_anchor n p) (used_open p.scope n.name f h) ∙ go f.role (visible_step p.scope n.name f h)
    where
      go : (role : Role) → (is_anchor role ≡ false → is_among (visible_ids p.scope.nesting p.scope.items) n.name ≡ true)
          → judged_so (is_anchor role) (is_among (visible_ids p.scope.nesting p.scope.items) n.name) of_anchor n p ≡ given (Err (record { cause = cause_of of_anchor role; at = n.place })) p
      go Assume k = ap (λ b. judged_so false b of_anchor n p) (k refl)
      go Step k = ap (λ b. judged_so false b of_anchor n p) (k refl)
      go Anchor k = refl
