-- Cited by crates above. The variables of a scope by the numbers of their names.
use Rattle.std.proofs.Common.{◌≡◌, inl, inr, ◌≢◌, ℕ, ◌+◌, ◌-◌, ◌<◌, ◌≤◌, eqb, zero, suc, Bool, true, false, cond, List, [], ◌∷◌, ◌++◌, length, reverse, find, position, slice_get, get_or, set, Option, Some, None, option_map, refl, sym, ◌∙◌, ap, arith, add-one}
use Rattle.std.specs.Str.{bytes_eq}
use Rattle.std.proofs.lemmas.Bool.Decides.{eqb_tells}
use Rattle.std.proofs.lemmas.List.{length-reverse, reverse-append, reverse-reverse, length-set, length_push, get_or_at, get_or_append_left, get_or-set_same, get_or-set_other}
use Rattle.std.proofs.lemmas.List.Quantifiers.{position-Some}
use Rattle.std.proofs.lemmas.Option.{slice_get-get_or, slice_get_read, get_or_from_slice_get}
use Rattle.std.proofs.lemmas.Slice.Eq.{bytes_eq-Decides}
use Rattle.term_names.specs.declared.names.Held.{Held}
use Rattle.name_set.specs.Names.{StandOnce}
use Rattle.sym_table.proofs.Lists.{slice_get-kept}
use Rattle.term_names.specs.Scope.{Scoped, bound_of}
use Rattle.term_names.specs.Held.{scoped_held, scoped, innermost_held, AreHeld, IsHeldLinked}
use Rattle.term_names.specs.NameNumbers.{IsNumbered}

-- whether the variable's name has the number
abbrev pub has_number : ℕ → Held → Bool
has_number k h = eqb h.name k

-- the variable at a place that is counted from 1
abbrev pub place_in : List Held → ℕ → Option Held
place_in held zero = None
place_in held (suc p) = slice_get held p

pub innermost-within : (k : ℕ) (held : List Held) → innermost_held k held ≤ length held
innermost-within k [] = omega arith
innermost-within k (h ∷ held) = go (eqb h.name k) (innermost-within k held)
  where
    go : (b : Bool) → innermost_held k held ≤ length held → cond b (length held + 1) (innermost_held k held) ≤ suc (length held)
    go true e = omega arith
    go false e = omega arith

pub slice_get-last : {X : Type 0} (xs : List X) (x : X) (k : ℕ) → length xs ≡ k → slice_get (xs ++ x ∷ []) k ≡ Some x
slice_get-last xs x k e =
    slice_get-get_or (xs ++ x ∷ []) k x (omega (arith, length_push xs x)) ∙ ap Some (get_or_at xs x [] x k e)

place_in-kept : (held : List Held) (h : Held) (m : ℕ) → m ≤ length held → place_in (held ++ h ∷ []) m ≡ place_in held m
place_in-kept held h zero l = refl
place_in-kept held h (suc p) l = slice_get-kept held (h ∷ []) p (omega arith)

-- `innermost` is where the innermost variable of the name stands
pub find-innermost : (k : ℕ) (held : List Held) → find (has_number k) held ≡ place_in (reverse held) (innermost_held k held)
find-innermost k [] = refl
find-innermost k (h ∷ held) =
    go (eqb h.name k) (find-innermost k held) ∙ ap (λ hs. place_in hs (innermost_held k (h ∷ held))) (sym (reverse-append (h ∷ []) held))
  where
    go : (b : Bool) → find (has_number k) held ≡ place_in (reverse held) (innermost_held k held) → cond b (Some h) (find (has_number k) held) ≡ place_in (reverse held ++ h ∷ []) (cond b (length held + 1) (innermost_held k held))
    go true e = rw add-one (sym (slice_get-last (reverse held) h (length held) (length-reverse held)))
    go false e = e ∙ sym (place_in-kept (reverse held) h (innermost_held k held) (omega (arith, innermost-within k held, length-reverse held)))

-- the name at a place is found there
own_place : (names : List (List ℕ)) (k : ℕ) (name : List ℕ) → StandOnce names → k < length names → bytes_eq (get_or names k []) name ≡ true → position (bytes_eq name) names ≡ Some k
own_place names k name apart l e =
    apart k name (slice_get-get_or names k [] l ∙ ap Some ((bytes_eq-Decides (get_or names k []) name).0 e))

-- a name is that of number k where its own number is k
same_test : (names : List (List ℕ)) (k j : ℕ) (name : List ℕ) → StandOnce names → position (bytes_eq name) names ≡ Some k → j < length names → bytes_eq (get_or names j []) name ≡ eqb j k
same_test names k j name apart e l = elim (eqb_tells j k) [ inl h ↦ same h.1 ∙ sym h.0 | inr h ↦ other (bytes_eq (get_or names j []) name) refl h.1 ∙ sym h.0 ]
  where
    same : j ≡ k → bytes_eq (get_or names j []) name ≡ true
    same g =
        let at = position-Some (bytes_eq name) names k [] e in
        let found = (bytes_eq-Decides name (get_or names k [])).0 at.1 in
        (bytes_eq-Decides (get_or names j []) name).1 (ap (λ i. get_or names i []) g ∙ sym found)

    other : (b : Bool) → bytes_eq (get_or names j []) name ≡ b → j ≢ k → b ≡ false
    other true f apart' =
        let here = own_place names j name apart l f in
        absurd (apart' (cc))
    other false f apart' = refl

no_test : (names : List (List ℕ)) (j : ℕ) (name : List ℕ) → StandOnce names → position (bytes_eq name) names ≡ None → j < length names → bytes_eq (get_or names j []) name ≡ false
no_test names j name apart e l = go (bytes_eq (get_or names j []) name) refl
  where
    go : (b : Bool) → bytes_eq (get_or names j []) name ≡ b → b ≡ false
    go true f =
        let here = own_place names j name apart l f in
        cc
    go false f = refl

abbrev pub is_named : List ℕ → Scoped → Bool
is_named name e = bytes_eq e.name name

-- to look for a name is to look for its number
pub find-scoped : (names : List (List ℕ)) (k : ℕ) (name : List ℕ) (held : List Held) → StandOnce names → position (bytes_eq name) names ≡ Some k → AreHeld (length names) held → find (is_named name) (scoped names held) ≡ option_map (scoped_held names) (find (has_number k) held)
find-scoped names k name [] apart e h = refl
find-scoped names k name (x ∷ held) apart e h =
    ap (λ b. cond b (Some (scoped_held names x)) (find (is_named name) (scoped names held))) (same_test names k x.name name apart e h.0)
    ∙ go (eqb x.name k) (find-scoped names k name held apart e h.2)
  where
    go : (b : Bool) → find (is_named name) (scoped names held) ≡ option_map (scoped_held names) (find (has_number k) held) → cond b (Some (scoped_held names x)) (find (is_named name) (scoped names held)) ≡ option_map (scoped_held names) (cond b (Some x) (find (has_number k) held))
    go true f = refl
    go false f = f

-- a name without a number is that of no variable
pub find-no_number : (names : List (List ℕ)) (name : List ℕ) (held : List Held) → StandOnce names → position (bytes_eq name) names ≡ None → AreHeld (length names) held → find (is_named name) (scoped names held) ≡ None
find-no_number names name [] apart e h = refl
find-no_number names name (x ∷ held) apart e h =
    ap (λ b. cond b (Some (scoped_held names x)) (find (is_named name) (scoped names held))) (no_test names x.name name apart e h.0)
    ∙ find-no_number names name held apart e h.2

AreHeld-more : (m n : ℕ) (held : List Held) → m ≤ n → AreHeld m held → AreHeld n held
AreHeld-more m n [] l h = tt
AreHeld-more m n (x ∷ held) l h = ((let f = h.0 in omega arith), h.1, AreHeld-more m n held l h.2)

innermost-none : (n k : ℕ) (held : List Held) → AreHeld n held → n ≤ k → innermost_held k held ≡ 0
innermost-none n k [] h l = refl
innermost-none n k (x ∷ held) h l = elim (eqb_tells x.name k) [
  | inl a ↦ (let f = h.0 in let g = a.1 in absurd (omega arith))
  | inr a ↦ ap (λ b. cond b (length held + 1) (innermost_held k held)) a.0 ∙ innermost-none n k held h.2 l
]

-- what is there stays linked where a name gets a number
pub IsLinked-numbered : (names more : List (List ℕ)) (firsts more_firsts : List ℕ) (held : List Held) (name : List ℕ) (k : ℕ) → IsNumbered names more firsts more_firsts name k → IsHeldLinked names firsts held → IsHeldLinked more more_firsts held
IsLinked-numbered names more firsts more_firsts held name k n h = elim n.others [ inl a ↦ same a.0 a.1 | inr a ↦ longer a.0 a.1 ]
  where
    same : more ≡ names → more_firsts ≡ firsts → IsHeldLinked more more_firsts held
    same a b = rw (a, b) h

    longer : more ≡ names ++ name ∷ [] → more_firsts ≡ firsts ++ 0 ∷ [] → IsHeldLinked more more_firsts held
    longer a b = rw (a, b) (record {
      one_each = length_push names name ∙ ap (λ m. m + 1) h.one_each ∙ sym (length_push firsts 0);
      outer = AreHeld-more (length names) (length (names ++ name ∷ [])) held (omega (arith, length_push names name)) h.outer;
      tops = tops;
    })
      where
        tops : (j : ℕ) → j < length (names ++ name ∷ []) → get_or (firsts ++ 0 ∷ []) j 0 ≡ innermost_held j held
        tops j l = elim (eqb_tells j (length names)) [
          | inl e ↦
              let at = e.1 in
              get_or_at firsts 0 [] 0 j (sym h.one_each ∙ sym at) ∙ sym (innermost-none (length names) j held h.outer (omega arith))
          | inr e ↦
              let apart = e.1 in
              let within : j < length names = omega (arith, length_push names name) in
              let one_each = h.one_each in
              get_or_append_left firsts (0 ∷ []) 0 j (omega arith) ∙ h.tops j within
        ]

pub scoped-more : (names : List (List ℕ)) (name : List ℕ) (held : List Held) → AreHeld (length names) held → scoped (names ++ name ∷ []) held ≡ scoped names held
scoped-more names name [] h = refl
scoped-more names name (x ∷ held) h =
    let first = get_or_append_left names (name ∷ []) [] x.name h.0 in
    let rest = scoped-more names name held h.2 in
    cc

-- the scope after a push: its variable, and those that were there
pub scoped-numbered : (names more : List (List ℕ)) (firsts more_firsts : List ℕ) (held : List Held) (name : List ℕ) (k : ℕ) (h : Held) → IsNumbered names more firsts more_firsts name k → h.name ≡ k → AreHeld (length names) held → scoped more (h ∷ held) ≡ record { name = name; bound = h.bound } ∷ scoped names held
scoped-numbered names more firsts more_firsts held name k h n e are =
    let first : get_or more h.name [] ≡ name = ap (λ i. get_or more i []) e ∙ get_or_from_slice_get more k name [] n.number in
    let rest : scoped more held ≡ scoped names held = elim n.others [ inl a ↦ ap (λ ns. scoped ns held) a.0 | inr a ↦ ap (λ ns. scoped ns held) a.0 ∙ scoped-more names name held are ] in
    cc

module _ (names : List (List ℕ)) (firsts : List ℕ) (held : List Held) (h : Held) where
  pub IsLinked-push : IsHeldLinked names firsts held → h.name < length names → h.outer ≡ get_or firsts h.name 0 → IsHeldLinked names (set firsts h.name (length held + 1)) (h ∷ held)
  IsLinked-push l within outer = record {
    one_each = l.one_each ∙ sym (length-set firsts h.name (length held + 1));
    outer = (within, outer ∙ l.tops h.name within, l.outer);
    tops = λ j below. elim (eqb_tells h.name j) [
      | inl a ↦
          let one_each = l.one_each in
          ap (λ i. get_or (set firsts h.name (length held + 1)) i 0) (sym a.1)
          ∙ get_or-set_same firsts h.name (length held + 1) 0 (omega arith)
          ∙ sym (ap (λ b. cond b (length held + 1) (innermost_held j held)) a.0)
      | inr a ↦
          get_or-set_other firsts h.name j (length held + 1) 0 (λ e. a.1 (sym e))
          ∙ l.tops j below
          ∙ sym (ap (λ b. cond b (length held + 1) (innermost_held j held)) a.0)
    ];
  }

-- the place that is kept for a name
module _ (names : List (List ℕ)) (firsts : List ℕ) (items : List Held) (k place : ℕ) (l : IsHeldLinked names firsts (reverse items)) (within : k < length names) (read : slice_get firsts k ≡ Some place) where
  pub place-innermost : place ≡ innermost_held k (reverse items)
  place-innermost = sym (get_or_from_slice_get firsts k place 0 read) ∙ l.tops k within

  pub place-within : place ≤ length items
  place-within = omega (arith, innermost-within k (reverse items), length-reverse items, place-innermost)

  -- the variable that is found
  pub find-place : (name : List ℕ) → StandOnce names → position (bytes_eq name) names ≡ Some k → bound_of (scoped names (reverse items)) name ≡ option_map (λ h. h.bound) (place_in items place)
  find-place name apart number =
      ap (option_map (λ (e : Scoped). e.bound)) (find-scoped names k name (reverse items) apart number l.outer ∙ ap (option_map (scoped_held names)) found)
      ∙ go (place_in items place)
    where
      found : find (has_number k) (reverse items) ≡ place_in items place
      found =
          find-innermost k (reverse items)
          ∙ ap (λ hs. place_in hs (innermost_held k (reverse items))) (reverse-reverse items)
          ∙ ap (place_in items) (sym place-innermost)

      go : (o : Option Held) → option_map (λ (e : Scoped). e.bound) (option_map (scoped_held names) o) ≡ option_map (λ (h : Held). h.bound) o
      go None = refl
      go (Some h) = refl

-- a name without a number is that of no variable
pub bound-nowhere : (names : List (List ℕ)) (firsts : List ℕ) (items : List Held) (name : List ℕ) → IsHeldLinked names firsts (reverse items) → StandOnce names → position (bytes_eq name) names ≡ None → bound_of (scoped names (reverse items)) name ≡ None
bound-nowhere names firsts items name l apart none = ap (option_map (λ (e : Scoped). e.bound)) (find-no_number names name (reverse items) apart none l.outer)

-- the place before one that is counted from 1
pub place_in-before : (items : List Held) (place : ℕ) (h : Held) → place ≢ 0 → place ≤ length items → h ≡ get_or items (place - 1) h → place_in items place ≡ Some h
place_in-before items zero h positive within read = absurd (positive refl)
place_in-before items (suc p) h positive within read =
    slice_get_read items (length items) p h refl (omega arith) (read ∙ ap (λ i. get_or items i h) (let e : suc p - 1 ≡ p = omega arith in e))
