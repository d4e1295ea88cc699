-- What is kept of scopes, row by row.
use Rattle.std.proofs.Common.{◌≡◌, ◌≤◌, ◌<◌, ◌+◌, ◌-◌, ◌^◌, ℕ, zero, suc, List, [], ◌∷◌, ◌++◌, length, slice_get, slice_set, slice_index_or, Option, Some, None, refl, ◌∙◌, ap, subst, arith}
use Rattle.std.specs.Option.{option_map}
use Rattle.std.proofs.lemmas.Option.{slice_get_within}
use Rattle.std.proofs.lemmas.List.{length-append}
use Rattle.proof_store.specs.declared.scopes.ScopeRow.{ScopeRow}
use Rattle.proof_store.specs.declared.scopes.ScopeLists.{ScopeLists}
use Rattle.proof_store.specs.StoredScopes.{StoredScope, first_scope, scope_with, inner_at, inner_from, scopes_of, AreLong, AgreeTo, HaveAt, HaveLists, row_last, with_last}
use Rattle.proof_store.proofs.ListLemmas.{get_agreed, get_from_slice_get}

pub set_row : (k last : ℕ) (rows : List ScopeRow) (d : ScopeRow) → k < length rows → slice_set rows k (record (slice_index_or rows k d) { last = Some last }) ≡ row_last k last rows
set_row k last [] d h = absurd (omega arith)
set_row zero last (row ∷ rows) d h = refl
set_row (suc k) last (row ∷ rows) d h = ap (λ l. row ∷ l) (set_row k last rows d (omega arith))

pub inner_count : (lists : ScopeLists) (k : ℕ) (rows : List ScopeRow) → length (inner_from lists k rows) ≡ length rows
inner_count lists k [] = refl
inner_count lists k (row ∷ rows) = ap suc (inner_count lists (suc k) rows)

inner_get : (lists : ScopeLists) (k : ℕ) (rows : List ScopeRow) (i j : ℕ) → j ≡ k + i → slice_get (inner_from lists k rows) i ≡ option_map (inner_at lists j) (slice_get rows i)
inner_get lists k [] i j e = refl
inner_get lists k (row ∷ rows) zero j e = let same : j ≡ k = omega arith in rw same refl
inner_get lists k (row ∷ rows) (suc i) j e = inner_get lists (suc k) rows i j (omega arith)

some_row : (rows : List ScopeRow) (i : ℕ) → i < length rows → (row : ScopeRow) × (slice_get rows i ≡ Some row)
some_row [] i h = absurd (omega arith)
some_row (row ∷ rows) zero h = (row, refl)
some_row (row ∷ rows) (suc i) h = some_row rows i (omega arith)

module _ (last : Option ℕ) (lists : ScopeLists) (rows : List ScopeRow) (k : ℕ) (inner : 0 < k) where
  -- what a scope has, by its row
  scope_has : {X : Type 0} (f : StoredScope → X) (row : ScopeRow) → slice_get rows (k - 1) ≡ Some row → option_map f (slice_get (scopes_of last lists rows) k) ≡ Some (f (inner_at lists (k - 1) row))
  scope_has f row at = go k inner (k - 1) refl at
    where
      go : (k : ℕ) → 0 < k → (j : ℕ) → k - 1 ≡ j → slice_get rows j ≡ Some row → option_map f (slice_get (scopes_of last lists rows) k) ≡ Some (f (inner_at lists j row))
      go zero h j e at = absurd (omega arith)
      go (suc k) h j e at =
          let same : j ≡ k = omega arith in
          let here = subst (λ i. slice_get rows i ≡ Some row) same at in
          rw (inner_get lists 0 rows k j (omega arith), here) refl

  pub row_parent : (row : ScopeRow) → slice_get rows (k - 1) ≡ Some row → option_map (λ s. s.entry.parent) (slice_get (scopes_of last lists rows) k) ≡ Some (Some row.parent)
  row_parent row at = scope_has (λ s. s.entry.parent) row at

  pub row_last_is : (row : ScopeRow) → slice_get rows (k - 1) ≡ Some row → option_map (λ s. s.entry.last) (slice_get (scopes_of last lists rows) k) ≡ Some row.last
  row_last_is row at = scope_has (λ s. s.entry.last) row at

  pub kept_bindings : (x : List (ℕ × ℕ)) → k - 1 < length rows → slice_get lists.bindings (k - 1) ≡ Some x → option_map (λ s. s.entry.bindings) (slice_get (scopes_of last lists rows) k) ≡ Some x
  kept_bindings x h at =
      let row = some_row rows (k - 1) h in
      scope_has (λ s. s.entry.bindings) row.0 row.1 ∙ ap Some (get_from_slice_get lists.bindings (k - 1) x [] at)

  pub kept_anchor : (x : List ℕ) → k - 1 < length rows → slice_get lists.ids (k - 1) ≡ Some x → option_map (λ s. s.id) (slice_get (scopes_of last lists rows) k) ≡ Some x
  kept_anchor x h at =
      let row = some_row rows (k - 1) h in
      scope_has (λ s. s.id) row.0 row.1 ∙ ap Some (get_from_slice_get lists.ids (k - 1) x [] at)

-- lists that agree up to a place
inner_same : (n : ℕ) (lists next : ScopeLists) (k : ℕ) (rows : List ScopeRow) → AgreeTo n lists next → k + length rows ≤ n → inner_from next k rows ≡ inner_from lists k rows
inner_same n lists next k [] a h = refl
inner_same n lists next k (row ∷ rows) a h =
    rw (get_agreed n lists.ids next.ids [] k a.ids (omega arith), get_agreed n lists.bindings next.bindings [] k a.bindings (omega arith))
    (ap (λ l. inner_at lists k row ∷ l) (inner_same n lists next (suc k) rows a (omega arith)))

inner_append : (lists : ScopeLists) (k : ℕ) (rows : List ScopeRow) (row : ScopeRow) (j : ℕ) → j ≡ k + length rows → inner_from lists k (rows ++ row ∷ []) ≡ inner_from lists k rows ++ inner_at lists j row ∷ []
inner_append lists k [] row j e = let same : j ≡ k = omega arith in rw same refl
inner_append lists k (first ∷ rows) row j e = ap (λ l. inner_at lists k first ∷ l) (inner_append lists (suc k) rows row j (omega arith))

pub inner_refused : (lists next : ScopeLists) (rows : List ScopeRow) → AgreeTo (length rows) lists next → inner_from next 0 rows ≡ inner_from lists 0 rows
inner_refused lists next rows a = inner_same (length rows) lists next 0 rows a (omega arith)

pub inner_push : (lists next : ScopeLists) (rows : List ScopeRow) (parent : ℕ) (id : List ℕ) (bound : List (ℕ × ℕ)) → AgreeTo (length rows) lists next → HaveAt (length rows) next id bound → inner_from next 0 (rows ++ record { parent = parent; last = None } ∷ []) ≡ inner_from lists 0 rows ++ scope_with parent id bound None ∷ []
inner_push lists next rows parent id bound a has =
    inner_append next 0 rows (record { parent = parent; last = None }) (length rows) (omega arith)
    ∙ rw (inner_refused lists next rows a, get_from_slice_get next.ids (length rows) id [] has.has_id, get_from_slice_get next.bindings (length rows) bound [] has.has_bindings) refl

pub have_lists_push : (rows : List ScopeRow) (row : ScopeRow) (lists : ScopeLists) (id : List ℕ) (bound : List (ℕ × ℕ)) → length rows < 2 ^ 32 - 2 → HaveAt (length rows) lists id bound → HaveLists (rows ++ row ∷ []) lists
have_lists_push rows row lists id bound few has =
    let one = length-append rows (row ∷ []) in
    let a = slice_get_within lists.ids (length rows) id has.has_id in
    let b = slice_get_within lists.bindings (length rows) bound has.has_bindings in
    record { long = record { ids = omega arith; bindings = omega arith }; few = omega arith }

pub have_lists_refused : (rows : List ScopeRow) (lists next : ScopeLists) → HaveLists rows lists → AreLong (length rows) next → HaveLists rows next
have_lists_refused rows lists next h long = record { long = long; few = h.few }

-- another last command
inner_note : (lists : ScopeLists) (k i last : ℕ) (rows : List ScopeRow) → inner_from lists k (row_last i last rows) ≡ with_last i last (inner_from lists k rows)
inner_note lists k i last [] = refl
inner_note lists k zero last (row ∷ rows) = refl
inner_note lists k (suc i) last (row ∷ rows) = ap (λ l. inner_at lists k row ∷ l) (inner_note lists (suc k) i last rows)

pub scopes_note : (first : Option ℕ) (lists : ScopeLists) (k last : ℕ) (rows : List ScopeRow) → 0 < k → scopes_of first lists (row_last (k - 1) last rows) ≡ with_last k last (scopes_of first lists rows)
scopes_note first lists zero last rows h = absurd (omega arith)
scopes_note first lists (suc k) last rows h = let same : suc k - 1 ≡ k = omega arith in rw same (ap (λ l. first_scope first ∷ l) (inner_note lists 0 k last rows))

note_count : (k last : ℕ) (rows : List ScopeRow) → length (row_last k last rows) ≡ length rows
note_count k last [] = refl
note_count zero last (row ∷ rows) = refl
note_count (suc k) last (row ∷ rows) = ap suc (note_count k last rows)

pub have_lists_note : (k last : ℕ) (rows : List ScopeRow) (lists : ScopeLists) → HaveLists rows lists → HaveLists (row_last k last rows) lists
have_lists_note k last rows lists h = let n = note_count k last rows in record {
  long = rw n h.long;
  few = let f = h.few in omega arith;
}

pub ruleset scope_pushed = (inner_count, inner_push, inner_refused, have_lists_push, have_lists_refused)
