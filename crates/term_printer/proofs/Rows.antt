-- The rows of a table of names: one more, and one that changes.
use Rattle.std.proofs.Common.{◌≡◌, ◌≢◌, ℕ, zero, suc, ◌+◌, ◌-◌, ◌<◌, ◌^◌, nat_eq, nat_lt, Bool, true, false, Option, Some, None}
use Rattle.std.proofs.Common.{List, [], ◌∷◌, ◌++◌, length, set, refl, sym, ap, ◌∙◌, arith, ⊎_elim, get_or-set_same, get_or-set_other}
use Rattle.std.specs.Map.{update}
use Rattle.std.specs.Prelude.{slice_get, slice_index_or, if◌then◌else◌}
use Rattle.std.proofs.lemmas.Bool.{cases_eq}
use Rattle.std.proofs.lemmas.Bool.Decides.{nat_tests}
use Rattle.std.proofs.lemmas.Map.{update_here, update_apart}
use Rattle.term_printer.specs.Names.{place_of, entry_of, given_entry}
use Rattle.term_printer.specs.declared.names.Entry.{Entry}
use Rattle.term_printer.specs.declared.names.Row.{Row}

-- no two references have one place
one_place : (q r : ℕ) → place_of q ≡ place_of r → q ≡ r
one_place q r e = go (nat_lt q (2 ^ 30)) (nat_lt q (2 ^ 31)) (nat_lt r (2 ^ 30)) (nat_lt r (2 ^ 31)) refl refl refl refl e
  where
    go : (a b c d : Bool) → nat_lt q (2 ^ 30) ≡ a → nat_lt q (2 ^ 31) ≡ b → nat_lt r (2 ^ 30) ≡ c → nat_lt r (2 ^ 31) ≡ d
        → (if a then q + 2 ^ 30 else (if b then q - 2 ^ 30 else q)) ≡ (if c then r + 2 ^ 30 else (if d then r - 2 ^ 30 else r)) → q ≡ r
    go true b true d qa qb rc rd e = grind (arith, nat_tests)
    go true b false true qa qb rc rd e = grind (arith, nat_tests)
    go true b false false qa qb rc rd e = grind (arith, nat_tests)
    go false true true d qa qb rc rd e = grind (arith, nat_tests)
    go false true false true qa qb rc rd e = grind (arith, nat_tests)
    go false true false false qa qb rc rd e = grind (arith, nat_tests)
    go false false true d qa qb rc rd e = grind (arith, nat_tests)
    go false false false true qa qb rc rd e = grind (arith, nat_tests)
    go false false false false qa qb rc rd e = e

-- the entry that a row is of
of_itself : (row : Row) (r : ℕ) → row.term ≡ r → entry_of r (Some row) ≡ Some row.entry
of_itself row r e = go (nat_eq row.term r) refl
  where
    go : (test : Bool) → nat_eq row.term r ≡ test → entry_of r (Some row) ≡ Some row.entry
    go true f = rw f refl
    go false f = absurd (grind (arith, nat_tests))

of_another : (row : Row) (q : ℕ) → row.term ≢ q → entry_of q (Some row) ≡ None
of_another row q other = go (nat_eq row.term q) refl
  where
    go : (test : Bool) → nat_eq row.term q ≡ test → entry_of q (Some row) ≡ None
    go true f = absurd (other (grind (arith, nat_tests)))
    go false f = rw f refl

-- one row more
added_here : (rows : List Row) (row : Row) (r : ℕ) → row.term ≡ r → entry_of r (slice_get (rows ++ row ∷ []) (length rows)) ≡ Some row.entry
added_here [] row r is = of_itself row r is
added_here (x ∷ xs) row r is = added_here xs row r is

added_apart : (rows : List Row) (row : Row) (q k : ℕ) → row.term ≢ q → entry_of q (slice_get (rows ++ row ∷ []) k) ≡ entry_of q (slice_get rows k)
added_apart [] row q zero other = of_another row q other
added_apart [] row q (suc k) other = refl
added_apart (x ∷ xs) row q zero other = refl
added_apart (x ∷ xs) row q (suc k) other = added_apart xs row q k other

-- another row in the place of one
changed_here : (rows : List Row) (k : ℕ) (old row : Row) (r : ℕ) → slice_get rows k ≡ Some old → row.term ≡ r
    → entry_of r (slice_get (set rows k row) k) ≡ Some row.entry
changed_here [] k old row r there is = absurd (let f : None ≡ Some old = there in cc)
changed_here (x ∷ xs) zero old row r there is = of_itself row r is
changed_here (x ∷ xs) (suc k) old row r there is = changed_here xs k old row r there is

changed_apart : (rows : List Row) (k : ℕ) (old row : Row) (q j : ℕ) → slice_get rows k ≡ Some old → old.term ≢ q → row.term ≢ q
    → entry_of q (slice_get (set rows k row) j) ≡ entry_of q (slice_get rows j)
changed_apart [] k old row q j there was is = refl
changed_apart (x ∷ xs) zero old row q zero there was is =
    let same : x ≡ old = (let f : Some x ≡ Some old = there in cc) in
    of_another row q is ∙ sym (of_another x q (λ e. was (sym (ap (λ (y : Row). y.term) same) ∙ e)))
changed_apart (x ∷ xs) zero old row q (suc j) there was is = refl
changed_apart (x ∷ xs) (suc k) old row q zero there was is = refl
changed_apart (x ∷ xs) (suc k) old row q (suc j) there was is = changed_apart xs k old row q j there was is

-- what has an entry has a row of its own
has_row : (r : ℕ) (o : Option Row) (e : Entry) → entry_of r o ≡ Some e → (row : Row) × (o ≡ Some row) × (row.term ≡ r)
has_row r None e is = absurd (let f : None ≡ Some e = is in cc)
has_row r (Some row) e is = go (nat_eq row.term r) refl
  where
    go : (test : Bool) → nat_eq row.term r ≡ test → (x : Row) × (Some row ≡ Some x) × (x.term ≡ r)
    go true f = (row, refl, grind (arith, nat_tests))
    go false f =
        let none : entry_of r (Some row) ≡ None = rw f refl in
        absurd (let g : None ≡ Some e = sym none ∙ is in cc)

-- the entry of a reference, by slots and rows
abbrev entry_by : List ℕ → List Row → ℕ → Option Entry
entry_by slots rows q = entry_of q (slice_get rows (slice_index_or slots (place_of q) 0))

module _ (slots : List ℕ) (rows : List Row) (r : ℕ) (row : Row) (is : row.term ≡ r) where
  other_row : (q : ℕ) → q ≢ r → row.term ≢ q
  other_row q other e = other (sym e ∙ is)

  -- a term gets a row
  pub planned : (new : List ℕ) (place n : ℕ) → place ≡ place_of r → n ≡ length rows
      → ((k : ℕ) → slice_index_or new k 0 ≡ slice_index_or slots k 0) → place < length new
      → (q : ℕ) → entry_by (set new place n) (rows ++ row ∷ []) q ≡ update nat_eq (entry_by slots rows) r (Some row.entry) q
  planned new place n at count same there q = ⊎_elim here elsewhere (cases_eq q r)
    where
      here : q ≡ r → entry_by (set new place n) (rows ++ row ∷ []) q ≡ update nat_eq (entry_by slots rows) r (Some row.entry) q
      here e =
          let slot : slice_index_or (set new place n) (place_of r) 0 ≡ length rows =
          ap (λ k. slice_index_or (set new place n) k 0) (sym at) ∙ get_or-set_same new place n 0 there ∙ count in
          let found : entry_by (set new place n) (rows ++ row ∷ []) r ≡ Some row.entry =
          ap (λ k. entry_of r (slice_get (rows ++ row ∷ []) k)) slot ∙ added_here rows row r is in
          ap (entry_by (set new place n) (rows ++ row ∷ [])) e ∙ found
          ∙ sym (ap (update nat_eq (entry_by slots rows) r (Some row.entry)) e ∙ update_here (entry_by slots rows) r (Some row.entry))

      elsewhere : q ≢ r → entry_by (set new place n) (rows ++ row ∷ []) q ≡ update nat_eq (entry_by slots rows) r (Some row.entry) q
      elsewhere other =
          let slot : slice_index_or (set new place n) (place_of q) 0 ≡ slice_index_or slots (place_of q) 0 =
          get_or-set_other new place (place_of q) n 0 (λ e. other (one_place q r (e ∙ at))) ∙ same (place_of q) in
          ap (λ k. entry_of q (slice_get (rows ++ row ∷ []) k)) slot
          ∙ added_apart rows row q (slice_index_or slots (place_of q) 0) (other_row q other)
          ∙ sym (update_apart (entry_by slots rows) r (Some row.entry) q other)

  -- the row of a term changes
  pub changed : (k : ℕ) (e : Entry) → k ≡ slice_index_or slots (place_of r) 0 → entry_by slots rows r ≡ Some e
      → row.entry ≡ record { number = e.number; is_given = true }
      → (q : ℕ) → entry_by slots (set rows k row) q ≡ update nat_eq (entry_by slots rows) r (given_entry (entry_by slots rows r)) q
  changed k e at had now q = ⊎_elim here elsewhere (cases_eq q r)
    where
      old : (x : Row) × (slice_get rows k ≡ Some x) × (x.term ≡ r)
      old = has_row r (slice_get rows k) e (ap (λ j. entry_of r (slice_get rows j)) at ∙ had)

      here : q ≡ r → entry_by slots (set rows k row) q ≡ update nat_eq (entry_by slots rows) r (given_entry (entry_by slots rows r)) q
      here f =
          let found : entry_by slots (set rows k row) r ≡ Some row.entry =
          ap (λ j. entry_of r (slice_get (set rows k row) j)) (sym at) ∙ changed_here rows k old.0 row r old.1 is in
          let wanted : Some row.entry ≡ given_entry (entry_by slots rows r) = ap Some now ∙ sym (ap given_entry had) in
          ap (entry_by slots (set rows k row)) f ∙ found ∙ wanted
          ∙ sym (ap (update nat_eq (entry_by slots rows) r (given_entry (entry_by slots rows r))) f
          ∙ update_here (entry_by slots rows) r (given_entry (entry_by slots rows r)))

      elsewhere : q ≢ r → entry_by slots (set rows k row) q ≡ update nat_eq (entry_by slots rows) r (given_entry (entry_by slots rows r)) q
      elsewhere other =
          changed_apart rows k old.0 row q (slice_index_or slots (place_of q) 0) old.1 (λ f. other (sym f ∙ old.2)) (other_row q other)
          ∙ sym (update_apart (entry_by slots rows) r (given_entry (entry_by slots rows r)) q other)
