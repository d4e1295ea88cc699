-- Private. What is kept of scopes: the id of a scope's anchor, and the scope by numbers.
use Rattle.std.specs.Prelude.{◌≡◌, ◌<◌, ◌≤◌, ◌^◌, ◌-◌, ℕ, zero, suc, List, [], ◌∷◌, length, take, slice_get, slice_index_or, Option, Some, None}
use Rattle.rule_model.specs.Commands.{ScopeEntry}
use Rattle.proof_store.specs.declared.scopes.ScopeRow.{ScopeRow}
use Rattle.proof_store.specs.declared.scopes.ScopeLists.{ScopeLists}

pub record StoredScope : Type 0 where
  pub id : List ℕ
  pub entry : ScopeEntry ℕ ℕ

-- the outermost scope, and a scope that an anchor opened
abbrev pub first_scope : Option ℕ → StoredScope
first_scope last = record { id = []; entry = record { parent = None; bindings = []; last = last } }

abbrev pub scope_with : ℕ → List ℕ → List (ℕ × ℕ) → Option ℕ → StoredScope
scope_with parent id bindings last =
    record { id = id; entry = record { parent = Some parent; bindings = bindings; last = last } }

-- what is kept at a row's place
abbrev pub inner_at : ScopeLists → ℕ → ScopeRow → StoredScope
inner_at lists k row =
    scope_with row.parent (slice_index_or lists.ids k []) (slice_index_or lists.bindings k []) row.last

abbrev pub inner_from : ScopeLists → ℕ → List ScopeRow → List StoredScope
inner_from lists k [] = []
inner_from lists k (row ∷ rows) = inner_at lists k row ∷ inner_from lists (suc k) rows

abbrev pub scopes_of : Option ℕ → ScopeLists → List ScopeRow → List StoredScope
scopes_of last lists rows = first_scope last ∷ inner_from lists 0 rows

-- there are n ids or more, and bindings
pub record AreLong (n : ℕ) (lists : ScopeLists) : Type 0 where
  pub ids : n ≤ length lists.ids
  pub bindings : n ≤ length lists.bindings

-- the first n are the same
pub record AgreeTo (n : ℕ) (old new : ScopeLists) : Type 0 where
  pub ids : take n new.ids ≡ take n old.ids
  pub bindings : take n new.bindings ≡ take n old.bindings

-- these stand at place n
pub record HaveAt (n : ℕ) (lists : ScopeLists) (id : List ℕ) (bindings : List (ℕ × ℕ)) : Type 0 where
  pub has_id : slice_get lists.ids n ≡ Some id
  pub has_bindings : slice_get lists.bindings n ≡ Some bindings

-- there are an id and bindings for each row, and fewer rows than 2^32 - 1
pub record HaveLists (rows : List ScopeRow) (lists : ScopeLists) : Type 0 where
  pub long : AreLong (length rows) lists
  pub few : length rows < 2 ^ 32 - 1

-- with another last command in the scope at a place
abbrev pub row_last : ℕ → ℕ → List ScopeRow → List ScopeRow
row_last k last [] = []
row_last zero last (row ∷ rows) = record row { last = Some last } ∷ rows
row_last (suc k) last (row ∷ rows) = row ∷ row_last k last rows

abbrev pub noted : ℕ → StoredScope → StoredScope
noted last s = record s { entry = record s.entry { last = Some last } }

abbrev pub with_last : ℕ → ℕ → List StoredScope → List StoredScope
with_last k last [] = []
with_last zero last (s ∷ ss) = noted last s ∷ ss
with_last (suc k) last (s ∷ ss) = s ∷ with_last k last ss
