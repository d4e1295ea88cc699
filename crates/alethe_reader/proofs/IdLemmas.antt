-- Ids in use by the numbers of their names.
use Rattle.std.proofs.Common.{◌≡◌, ◌≢◌, inl, inr, ℕ, zero, suc, ◌+◌, ◌<◌, List, [], ◌∷◌, ◌++◌, length, take, set, position, slice_get, slice_index_or, get_or, Option, Some, None, option_map, refl, sym, ◌∙◌, ap, subst, arith}
use Rattle.std.specs.Str.{bytes_eq}
use Rattle.std.proofs.lemmas.List.{length-set, length_push, get_or_append_left, get_or-set_same, get_or-set_other}
use Rattle.std.proofs.lemmas.Option.{slice_get-map, slice_get_within, slice_get-get_or, get_or_from_slice_get}
use Rattle.term_names.specs.NameNumbers.{IsNumbered}
use Rattle.name_set.specs.Names.{StandOnce}
use Rattle.name_set.proofs.Positions.{slice_get-push_cases}
use Rattle.sym_table.proofs.Places.{position-there}
use Rattle.term_model.proofs.Lists.{slice_get-left}
use Rattle.rule_model.proofs.Standing.{slice_get_taken}
use Rattle.alethe_reader.specs.declared.ids.Held.{Held}
use Rattle.alethe_reader.specs.declared.ids.Found.{Found}
use Rattle.alethe_reader.specs.Ids.{Used, IsUnused, IsUsedAt, IsIdFound}
use Rattle.alethe_reader.specs.HeldIds.{used_by, used, IsLatest, IsHeldOf}

-- what stands at a place of the ids in use
record StandsAt (names : List (List ℕ)) (held : List Held) (k : ℕ) (u : Used) : Type 0 where
  pub h : Held
  pub there : slice_get held k ≡ Some h
  pub same : used_by names h ≡ u

stands_at : (names : List (List ℕ)) (held : List Held) (k : ℕ) (u : Used) → slice_get (used names held) k ≡ Some u → StandsAt names held k u
stands_at names held k u e = go (slice_get held k) refl (sym (slice_get-map (used_by names) held k) ∙ e)
  where
    go : (o : Option Held) → slice_get held k ≡ o → option_map (used_by names) o ≡ Some u → StandsAt names held k u
    go None f g = absurd (cc)
    go (Some h) f g = record { h = h; there = f; same = inside g }
      where
        inside : Some (used_by names h) ≡ Some u → used_by names h ≡ u
        inside g = cc

-- the id's number is that of the name
number_of_match : (names : List (List ℕ)) (h : Held) (id : List ℕ) → StandOnce names → h.name < length names → slice_index_or names h.name [] ≡ id → position (bytes_eq id) names ≡ Some h.name
number_of_match names h id apart within e = apart h.name id (slice_get-get_or names h.name [] within ∙ ap Some e)

-- what is read at a place
pub read_at : {X : Type 0} (xs : List X) (k : ℕ) (x : X) → k < length xs → x ≡ get_or xs k x → slice_get xs k ≡ Some x
read_at xs k x within e = slice_get-get_or xs k x within ∙ ap Some (sym e)

module _ (names : List (List ℕ)) (latest : List ℕ) (held : List Held) (id : List ℕ) (apart : StandOnce names) (inv : IsLatest names latest held) where
  pub no_name : position (bytes_eq id) names ≡ None → IsUnused (used names held) id
  no_name none k u e same =
      let s = stands_at names held k u e in
      let number = number_of_match names s.h id apart (inv.within k s.h s.there) (ap (λ (u : Used). u.id) s.same ∙ same) in
      absurd (cc)

  -- an id in use of this name stands where the name was in use last
  latest_place : (n k : ℕ) (u : Used) → position (bytes_eq id) names ≡ Some n → slice_get (used names held) k ≡ Some u → u.id ≡ id → (h : Held) × (slice_get held k ≡ Some h) × (h.name ≡ n) × (slice_get latest n ≡ Some k)
  latest_place n k u numbered e same =
      let s = stands_at names held k u e in
      let number = number_of_match names s.h id apart (inv.within k s.h s.there) (ap (λ (u : Used). u.id) s.same ∙ same) in
      let equal : s.h.name ≡ n = one (sym number ∙ numbered) in
      (s.h, s.there, equal, subst (λ m. slice_get latest m ≡ Some k) equal (inv.places k s.h s.there))
    where
      one : {A : Type 0} {a b : A} → Some a ≡ Some b → a ≡ b
      one e = cc

  pub latest_read : (n place : ℕ) → position (bytes_eq id) names ≡ Some n → place ≡ get_or latest n place → slice_get latest n ≡ Some place
  latest_read n place numbered e =
      read_at latest n place (subst (λ m. n < m) inv.one_each (slice_get_within names n id (position-there names id n numbered))) e

  same_name : (f : Found) (n : ℕ) (h : Held) → position (bytes_eq id) names ≡ Some n → slice_get latest n ≡ Some f.place → slice_get held f.place ≡ Some h → h.name ≡ n → f.role ≡ h.role → f.number ≡ h.number → IsUsedAt (used names held) id f
  same_name f n h numbered at there equal role number = record {
    here = slice_get-map (used_by names) held f.place ∙ (ap (option_map (used_by names)) there ∙ ap Some whole);
    alone = λ k u e same.
        let l = latest_place n k u numbered e same in
        let both : Some k ≡ Some f.place = sym l.3 ∙ at in
        cc;
  }
    where
      name : slice_index_or names h.name [] ≡ id
      name = ap (λ m. slice_index_or names m []) equal ∙ get_or_from_slice_get names n id [] (position-there names id n numbered)

      whole : used_by names h ≡ record { id = id; role = f.role; number = f.number }
      whole = let e = name in let g = role in let i = number in cc

  -- the id is in use where its name is that of what stands at the place at which the name was in use last
  pub held_found : (n place : ℕ) (o : Option Found) → position (bytes_eq id) names ≡ Some n → slice_get latest n ≡ Some place → IsHeldOf held place n o → IsIdFound (used names held) id o
  held_found n place None numbered at none = λ k u e same.
      let l = latest_place n k u numbered e same in
      let equal : Some k ≡ Some place = sym l.3 ∙ at in
      let eq : k ≡ place = cc in
      absurd (none l.0 (subst (λ j. slice_get held j ≡ Some l.0) eq l.1) l.2)
  held_found n place (Some f) numbered at h =
      same_name f n (record { name = n; role = f.role; number = f.number }) numbered (at ∙ ap Some (sym h.0)) (ap (slice_get held) h.0 ∙ h.1) refl refl refl

pub latest_taken : (names : List (List ℕ)) (latest : List ℕ) (held : List Held) (n : ℕ) → IsLatest names latest held → IsLatest names latest (take n held)
latest_taken names latest held n h = record {
  one_each = h.one_each;
  within = λ k x e. h.within k x (slice_get_taken n held k x e);
  places = λ k x e. h.places k x (slice_get_taken n held k x e);
}

pub latest_numbered : (names more : List (List ℕ)) (latest more_latest : List ℕ) (held : List Held) (id : List ℕ) (n : ℕ) → IsNumbered names more latest more_latest id n → IsLatest names latest held → IsLatest more more_latest held
latest_numbered names more latest more_latest held id n new h = elim new.others [ inl a ↦ same a.0 a.1 | inr a ↦ longer a.0 a.1 ]
  where
    same : more ≡ names → more_latest ≡ latest → IsLatest more more_latest held
    same a b = rw (a, b) h

    longer : more ≡ names ++ id ∷ [] → more_latest ≡ latest ++ 0 ∷ [] → IsLatest more more_latest held
    longer a b = rw (a, b) (record {
      one_each = length_push names id ∙ ap (λ m. m + 1) h.one_each ∙ sym (length_push latest 0);
      within = λ k x e. (let l = h.within k x e in omega (arith, l, length_push names id));
      places = λ k x e. slice_get-left latest (0 ∷ []) x.name k (h.places k x e);
    })

used_wider : (names : List (List ℕ)) (id : List ℕ) (held : List Held) → ((k : ℕ) (h : Held) → slice_get held k ≡ Some h → h.name < length names) → used (names ++ id ∷ []) held ≡ used names held
used_wider names id [] h = refl
used_wider names id (x ∷ held) h =
    let first : used_by (names ++ id ∷ []) x ≡ used_by names x = ap (λ name. record { id = name; role = x.role; number = x.number }) (get_or_append_left names (id ∷ []) [] x.name (h 0 x refl)) in
    let rest = used_wider names id held (λ k y e. h (suc k) y e) in
    cc

pub used_numbered : (names more : List (List ℕ)) (latest more_latest : List ℕ) (held : List Held) (id : List ℕ) (n : ℕ) → IsNumbered names more latest more_latest id n → IsLatest names latest held → used more held ≡ used names held
used_numbered names more latest more_latest held id n new h = elim new.others [
  | inl a ↦ ap (λ ns. used ns held) a.0
  | inr a ↦ ap (λ ns. used ns held) a.0 ∙ used_wider names id held h.within
]

slice_get_set_same : (xs : List ℕ) (n v : ℕ) → n < length xs → slice_get (set xs n v) n ≡ Some v
slice_get_set_same [] n v h = absurd (omega (arith, h))
slice_get_set_same (x ∷ xs) zero v h = refl
slice_get_set_same (x ∷ xs) (suc n) v h = slice_get_set_same xs n v (omega (arith, h))

slice_get_set_other : (xs : List ℕ) (n m v : ℕ) → n ≢ m → slice_get (set xs n v) m ≡ slice_get xs m
slice_get_set_other [] n m v h = refl
slice_get_set_other (x ∷ xs) zero zero v h = absurd (h refl)
slice_get_set_other (x ∷ xs) zero (suc m) v h = refl
slice_get_set_other (x ∷ xs) (suc n) zero v h = refl
slice_get_set_other (x ∷ xs) (suc n) (suc m) v h = slice_get_set_other xs n m v (λ e. h (ap suc e))

-- An id that was not in use is put in use behind all others.
pub latest_pushed : (names : List (List ℕ)) (latest : List ℕ) (held : List Held) (h : Held) (id : List ℕ) → IsLatest names latest held → slice_get names h.name ≡ Some id → IsUnused (used names held) id → IsLatest names (set latest h.name (length held)) (held ++ h ∷ [])
latest_pushed names latest held h id inv numbered unused = record {
  one_each = inv.one_each ∙ sym (length-set latest h.name (length held));
  within = λ k x e. elim (slice_get-push_cases held h k x e) [ inl a ↦ inv.within k x a | inr a ↦ subst (λ (y : Held). y.name < length names) a.1 named ];
  places = λ k x e. elim (slice_get-push_cases held h k x e) [
    | inl a ↦ slice_get_set_other latest h.name x.name (length held) (λ same. differs k x a same) ∙ inv.places k x a
    | inr a ↦ subst (λ (y : Held). slice_get (set latest h.name (length held)) y.name ≡ Some k) a.1 (slice_get_set_same latest h.name (length held) (subst (λ n. h.name < n) inv.one_each named) ∙ ap Some (sym a.0))
  ];
}
  where
    named : h.name < length names
    named = slice_get_within names h.name id numbered

    differs : (k : ℕ) (x : Held) → slice_get held k ≡ Some x → h.name ≡ x.name → ⊥
    differs k x a same =
        unused k (used_by names x) (slice_get-map (used_by names) held k ∙ ap (option_map (used_by names)) a)
        (ap (λ n. slice_index_or names n []) (sym same) ∙ get_or_from_slice_get names h.name id [] numbered)

pub used_pushed : (names : List (List ℕ)) (held : List Held) (h : Held) (id : List ℕ) → slice_get names h.name ≡ Some id → used names (held ++ h ∷ []) ≡ used names held ++ record { id = id; role = h.role; number = h.number } ∷ []
used_pushed names held h id numbered =
    Rattle.std.proofs.lemmas.List.map-append (used_by names) held (h ∷ [])
    ∙ ap (λ name. used names held ++ record { id = name; role = h.role; number = h.number } ∷ []) (get_or_from_slice_get names h.name id [] numbered)
