-- What is left of the items that were added, as the table changes.
use Rattle.std.proofs.Common.{◌≡◌, ◌≢◌, ◌<◌, ◌+◌, inl, inr, ℕ, suc, Bool, true, false, if◌then◌else◌, Option, Some, None, List, []}
use Rattle.std.proofs.Common.{◌∷◌, ◌++◌, length, refl, sym, ◌∙◌, ap, subst, Contains, IsTrue, is_some, take, get_or, zero, ◌↔◌, arith}
use Rattle.std.proofs.lemmas.List.{append-nil, append_assoc, length-append, take_more}
use Rattle.std.proofs.lemmas.Bool.{true≢false, eqb-true, eq-eqb}
use Rattle.std.proofs.lemmas.Bool.Decides.{eqb_tells}
use Rattle.std.proofs.lemmas.List.Elements.{Contains-append_left, Contains-push, Contains-push_cases}
use Rattle.term_model.proofs.Lists.{contains_none, contains_cases}
use Rattle.rule_model.specs.Resolution.{LeavesWithout, IsFirstsOf}
use Rattle.clause_chain.proofs.Joining.{kept_without}
use Rattle.clause_chain.specs.Adding.{StandsBefore}
use Rattle.clause_chain.specs.Places.{is_here, left_from, ArePlaces}
use Rattle.clause_chain.specs.declared.signed_term.SignedTerm.{SignedTerm}
use Rattle.clause_chain.proofs.Keys.{signed_tells}

-- what the table says of an item that is here
pub here_says : (o : Option ℕ) (k : ℕ) → is_here o k ≡ true → o ≡ Some k
here_says (Some n) k h = ap (λ (m : ℕ). Some m) (eqb-true n k h)
here_says None k h = absurd (true≢false (sym h))

not_here : (o : Option ℕ) (k n : ℕ) → o ≡ Some n → k < n → is_here o k ≡ false
not_here o k n e below =
    rw e (elim (eqb_tells n k) [ inl same ↦ absurd (omega (arith, same.1, below)) | inr other ↦ other.0 ])

-- what is left, the last one more
pub left_last : (places : SignedTerm → Option ℕ) (k : ℕ) (xs : List SignedTerm) (x : SignedTerm)
    → left_from places k (xs ++ x ∷ []) ≡ left_from places k xs ++ (if is_here (places x) (k + length xs) then x ∷ [] else [])
left_last places k [] x = go (is_here (places x) k) refl
  where
    go : (b : Bool) → is_here (places x) k ≡ b → left_from places k (x ∷ []) ≡ (if is_here (places x) (k + 0) then x ∷ [] else [])
    go true h = let e : k + 0 ≡ k = omega arith in rw (e, h) refl
    go false h = let e : k + 0 ≡ k = omega arith in rw (e, h) refl
left_last places k (y ∷ xs) x = go (later (left_last places (k + 1) xs x)) (is_here (places y) k) refl
  where
    later : left_from places (k + 1) (xs ++ x ∷ []) ≡ left_from places (k + 1) xs ++ (if is_here (places x) (k + 1 + length xs) then x ∷ [] else [])
        → left_from places (k + 1) (xs ++ x ∷ []) ≡ left_from places (k + 1) xs ++ (if is_here (places x) (k + suc (length xs)) then x ∷ [] else [])
    later rest = let e : k + suc (length xs) ≡ k + 1 + length xs = omega arith in rw e rest

    go : left_from places (k + 1) (xs ++ x ∷ []) ≡ left_from places (k + 1) xs ++ (if is_here (places x) (k + suc (length xs)) then x ∷ [] else [])
        → (b : Bool) → is_here (places y) k ≡ b → left_from places k (y ∷ xs ++ x ∷ []) ≡ left_from places k (y ∷ xs) ++
        (if is_here (places x) (k + suc (length xs)) then x ∷ [] else [])
    go rest true h = rw h (ap (λ l. y ∷ l) rest)
    go rest false h = rw h rest

-- what is left has its place in the table, from the first place on
left_has : (places : SignedTerm → Option ℕ) (k : ℕ) (xs : List SignedTerm) (x : SignedTerm) → Contains (left_from places k xs) x → (n : ℕ) × (places x ≡ Some n)
left_has places k [] x c = absurd (contains_none x c)
left_has places k (y ∷ xs) x c = go (left_has places (k + 1) xs x) (is_here (places y) k) refl
  where
    go : (Contains (left_from places (k + 1) xs) x → (n : ℕ) × (places x ≡ Some n)) → (b : Bool) → is_here (places y) k ≡ b → (n : ℕ) × (places x ≡ Some n)
    go rest true h =
        elim (contains_cases y x (left_from places (k + 1) xs) (rw h at c)) [
          | inl same ↦ (k, rw (← same) (here_says (places y) k h))
          | inr later ↦ rest later
        ]
    go rest false h = rest (rw h at c)

pub has_place : (places : SignedTerm → Option ℕ) (xs : List SignedTerm) (x : SignedTerm) → Contains (left_from places 0 xs) x → places x ≡ None → ⊥
has_place places xs x c none = let found = left_has places 0 xs x c in let e = found.1 in cc

-- tables that say the same leave the same
left_same : (before after : SignedTerm → Option ℕ) (k : ℕ) (xs : List SignedTerm)
    → ((x : SignedTerm) (n : ℕ) → n < k + length xs → is_here (after x) n ≡ is_here (before x) n) → left_from after k xs ≡ left_from before k xs
left_same before after k [] same = refl
left_same before after k (y ∷ xs) same =
    rw (same y k (omega arith), left_same before after (k + 1) xs (λ x n below. same x n (omega (arith, below)))) refl

-- an item that the table lacked gets the next place
module _ (before after : SignedTerm → Option ℕ) (added : List SignedTerm) (x : SignedTerm) (places : ArePlaces before added) (new : before x ≡ None)
    (here : after x ≡ Some (length added)) (others : (y : SignedTerm) → y ≢ x → after y ≡ before y) where
  same_below : (y : SignedTerm) (n : ℕ) → n < 0 + length added → is_here (after y) n ≡ is_here (before y) n
  same_below y n below =
      elim (signed_tells y x) [
        | inl same ↦ rw (same.1, new) (not_here (after x) n (length added) here (omega (arith, below)))
        | inr other ↦ rw (others y other.1) refl
      ]

  pub left_pushed : left_from after 0 (added ++ x ∷ []) ≡ left_from before 0 added ++ x ∷ []
  left_pushed =
      let start : 0 + length added ≡ length added = omega arith in
      left_last after 0 added x ∙ rw (here, start, eq-eqb (length added) (length added) refl, left_same before after 0 added same_below) refl

  pub pushed_places : ArePlaces after (added ++ x ∷ [])
  pushed_places = record { within = within; there = there }
    where
      longer : length (added ++ x ∷ []) ≡ length added + 1
      longer = length-append added (x ∷ [])

      within : (y : SignedTerm) (n : ℕ) → after y ≡ Some n → n < length (added ++ x ∷ [])
      within y n e =
          elim (signed_tells y x) [
            | inl same ↦ let f = rw same.1 at e in let g : n ≡ length added = cc in rw longer (omega (arith, g))
            | inr other ↦ let f = places.within y n (sym (others y other.1) ∙ e) in rw longer (omega (arith, f))
          ]

      there : (y : SignedTerm) (n : ℕ) → after y ≡ Some n → Contains (left_from after 0 (added ++ x ∷ [])) y
      there y n e =
          rw left_pushed (elim (signed_tells y x) [
            | inl same ↦ rw same.1 (Contains-push (left_from before 0 added) x)
            | inr other ↦ Contains-append_left (left_from before 0 added) (x ∷ []) y (places.there y n (sym (others y other.1) ∙ e))
          ])

-- an item that was added and that the table never got: nothing is left of it
pub left_unplaced : (places : SignedTerm → Option ℕ) (added : List SignedTerm) (x : SignedTerm) → places x ≡ None
    → left_from places 0 (added ++ x ∷ []) ≡ left_from places 0 added
left_unplaced places added x none = left_last places 0 added x ∙ rw none (append-nil (left_from places 0 added))

pub unplaced_places : (places : SignedTerm → Option ℕ) (added : List SignedTerm) (x : SignedTerm) → ArePlaces places added → places x ≡ None
    → ArePlaces places (added ++ x ∷ [])
unplaced_places places added x are none = record {
  within = λ y n e. let f = are.within y n e in let longer : length (added ++ x ∷ []) ≡ length added + 1 = length-append added (x ∷ []) in rw longer
      (omega (arith, f));
  there = λ y n e. rw (left_unplaced places added x none) (are.there y n e);
}

-- an item that is taken from the table
module _ (before after : SignedTerm → Option ℕ) (x : SignedTerm) (gone : after x ≡ None) (others : (y : SignedTerm) → y ≢ x → after y ≡ before y) where
  pub left_taken : (k : ℕ) (xs : List SignedTerm) → LeavesWithout x (left_from before k xs) (left_from after k xs)
  left_taken k [] = refl
  left_taken k (y ∷ xs) =
      elim (signed_tells y x) [
        | inl same ↦ taken (left_taken (k + 1) xs) same.1 (is_here (before y) k) refl
        | inr other ↦ kept (left_taken (k + 1) xs) other.1 (is_here (before y) k) refl
      ]
    where
      taken : LeavesWithout x (left_from before (k + 1) xs) (left_from after (k + 1) xs) → y ≡ x → (b : Bool) → is_here (before y) k ≡ b
          → LeavesWithout x (left_from before k (y ∷ xs)) (left_from after k (y ∷ xs))
      taken rest same true h = rw (h, same, gone) (inl (refl, rest))
      taken rest same false h = rw (h, same, gone) rest

      kept : LeavesWithout x (left_from before (k + 1) xs) (left_from after (k + 1) xs) → y ≢ x → (b : Bool) → is_here (before y) k ≡ b
          → LeavesWithout x (left_from before k (y ∷ xs)) (left_from after k (y ∷ xs))
      kept rest other true h = rw (others y other, h) (inr (other, (left_from after (k + 1) xs, refl, rest)))
      kept rest other false h = rw (others y other, h) rest

  pub taken_places : (added : List SignedTerm) → ArePlaces before added → ArePlaces after added
  taken_places added are = record {
    within = λ y n e. are.within y n (sym (others y (stays y n e)) ∙ e);
    there = λ y n e.
        elim (kept_without x (left_from before 0 added) (left_from after 0 added) y (left_taken 0 added) (are.there y n (sym (others y (stays y n e)) ∙ e))) [
          | inl same ↦ absurd (stays y n e same)
          | inr left ↦ left
        ];
  }
    where
      stays : (y : SignedTerm) (n : ℕ) → after y ≡ Some n → y ≢ x
      stays y n e same = let f = rw same at e in cc

-- what was seen has its place in the table before a place
abbrev AreSeen : (SignedTerm → Option ℕ) → ℕ → List SignedTerm → Type 0
AreSeen places k seen = (x : SignedTerm) → Contains seen x → (n : ℕ) × (places x ≡ Some n) × (n < k)

-- what is left stands before other items as it is: it has no repeats
left_alone : (places : SignedTerm → Option ℕ) (k : ℕ) (xs seen tail more : List SignedTerm) → AreSeen places k seen
    → IsFirstsOf (seen ++ left_from places k xs) tail more → IsFirstsOf seen (left_from places k xs ++ tail) (left_from places k xs ++ more)
left_alone places k [] seen tail more are firsts = subst (λ l. IsFirstsOf l tail more) (append-nil seen) firsts
left_alone places k (y ∷ xs) seen tail more are firsts =
    go (λ before seen_before rest. left_alone places (k + 1) xs before tail more seen_before rest) (is_here (places y) k) refl
  where
    later : AreSeen places (k + 1) seen
    later x c = let s = are x c in (s.0, s.1, omega (arith, s.2))

    with_this : is_here (places y) k ≡ true → AreSeen places (k + 1) (seen ++ y ∷ [])
    with_this h x c =
        elim (Contains-push_cases seen y x c) [
          | inl before ↦ later x before
          | inr same ↦ (k, rw (← same) (here_says (places y) k h), omega arith)
        ]

    fresh : is_here (places y) k ≡ true → Contains seen y → ⊥
    fresh h c =
        let s = are y c in let e = here_says (places y) k h in let f = s.1 in let g : s.0 ≡ k = cc in omega (arith, g, s.2)

    go : ((before : List SignedTerm) → AreSeen places (k + 1) before → IsFirstsOf (before ++ left_from places (k + 1) xs) tail more
        → IsFirstsOf before (left_from places (k + 1) xs ++ tail) (left_from places (k + 1) xs ++ more))
        → (b : Bool) → is_here (places y) k ≡ b → IsFirstsOf seen (left_from places k (y ∷ xs) ++ tail) (left_from places k (y ∷ xs) ++ more)
    go rest true h =
        rw h (inr (
          fresh h,
          (
            left_from places (k + 1) xs ++ more,
            refl,
            rest (seen ++ y ∷ []) (with_this h) (rw (append_assoc seen (y ∷ []) (left_from places (k + 1) xs)) (rw h at firsts)),
          ),
        ))
    go rest false h = rw h (rest seen later (rw h at firsts))

pub stands_before : (places : SignedTerm → Option ℕ) (added : List SignedTerm) → StandsBefore (left_from places 0 added)
stands_before places added tail more firsts =
    left_alone places 0 added [] tail more (λ x c. absurd (contains_none x c)) firsts

-- what the table says of what is left
pub has_tells : (places : SignedTerm → Option ℕ) (added : List SignedTerm) (x : SignedTerm) (b : Bool) → ArePlaces places added
    → b ≡ is_some (places x) → IsTrue b ↔ Contains (left_from places 0 added) x
has_tells places added x b are told = go (places x) refl
  where
    go : (o : Option ℕ) → places x ≡ o → IsTrue b ↔ Contains (left_from places 0 added) x
    go (Some n) e = let f : b ≡ true = rw (told, e) refl in rw f (λ yes. are.there x n e, λ c. refl)
    go None e = let f : b ≡ false = rw (told, e) refl in rw f (λ wrong. absurd (true≢false (sym wrong)), λ c. absurd (has_place places added x c e))

pub lacks_place : (places : SignedTerm → Option ℕ) (added : List SignedTerm) (x : SignedTerm) → ArePlaces places added
    → (Contains (left_from places 0 added) x → ⊥) → places x ≡ None
lacks_place places added x are lacks = go (places x) refl
  where
    go : (o : Option ℕ) → places x ≡ o → places x ≡ None
    go (Some n) e = absurd (lacks (are.there x n e))
    go None e = e

pub missing : (places : SignedTerm → Option ℕ) (added now : List SignedTerm) (x : SignedTerm) (b : Bool) → ArePlaces places added
    → left_from places 0 added ≡ now → (IsTrue b ↔ Contains now x) → b ≡ false → places x ≡ None
missing places added now x b are view tells off =
    lacks_place places added x are (λ has. true≢false (sym (tells.1 (rw view at has)) ∙ off))

-- how long the first items are
length_take_below : (xs : List SignedTerm) (k : ℕ) → k < length xs → length (take k xs) ≡ k
length_take_below [] k h = absurd (omega (arith, h))
length_take_below (x ∷ xs) zero h = refl
length_take_below (x ∷ xs) (suc k) h = ap suc (length_take_below xs k (omega (arith, h)))

-- one more of those that were added, as a list is written
pub written_left : (places : SignedTerm → Option ℕ) (k : ℕ) (added : List SignedTerm) (d : SignedTerm) → k < length added
    → is_here (places (get_or added k d)) k ≡ true → left_from places 0 (take (k + 1) added) ≡ left_from places 0 (take k added) ++ get_or added k d ∷ []
written_left places k added d below here =
    let start : 0 + k ≡ k = omega arith in
    rw (take_more added k d below, left_last places 0 (take k added) (get_or added k d), length_take_below added k below, start, here) refl

pub written_gone : (places : SignedTerm → Option ℕ) (k : ℕ) (added : List SignedTerm) (d : SignedTerm) → k < length added
    → is_here (places (get_or added k d)) k ≡ false → left_from places 0 (take (k + 1) added) ≡ left_from places 0 (take k added)
written_gone places k added d below gone =
    let start : 0 + k ≡ k = omega arith in
    rw (take_more added k d below, left_last places 0 (take k added) (get_or added k d), length_take_below added k below, start, gone)
    (append-nil (left_from places 0 (take k added)))
