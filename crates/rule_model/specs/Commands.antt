-- Public. The commands of a proof in file order, and its scopes in the order of their anchors.
use Rattle.std.specs.Prelude.{ℕ, List, [], ◌∷◌, ◌++◌, map, Option, Some, None}
use Rattle.rule_model.specs.Proofs.{Step, ProofItems, no_items, with_assume, with_step, with_subproof}
use Rattle.rule_model.specs.Scopes.{Nesting, outermost, inside, Scope, at, inner, scope_number, parent_number, own_bindings, last_index}

-- a command that has an index: an assume with its id, a step that closes nothing, or a step that closes its scope
pub data IndexedCommand (T : Type 0) : Type 0 where
  assume : List ℕ → T → IndexedCommand T
  step : Step T → IndexedCommand T
  closing : Step T → IndexedCommand T

-- a command, and the scope in which it is reached, as far as that is written before it
pub record Line (V T : Type 0) : Type 0 where
  pub scope : Scope V T
  pub command : IndexedCommand T

-- the commands of a scope and of all scopes inside it, in file order
abbrev pub lines_in : {V T : Type 0} → Nesting V T → ProofItems V T → List (Line V T)
lines_in nesting no_items = []
lines_in nesting (with_assume items id t) =
    lines_in nesting items ++ record { scope = at nesting items; command = assume id t } ∷ []
lines_in nesting (with_step items s) =
    lines_in nesting items ++ record { scope = at nesting items; command = step s } ∷ []
lines_in nesting (with_subproof items bindings proof s) =
    (lines_in nesting items ++ lines_in (inner nesting items bindings s) proof)
    ++ record { scope = at (inner nesting items bindings s) proof; command = closing s } ∷ []

-- all commands up to where a scope is written
abbrev pub lines_around : {V T : Type 0} → Nesting V T → List (Line V T)
lines_around outermost = []
lines_around (inside around before anchor) = lines_around around ++ lines_in around before

abbrev pub lines_to : {V T : Type 0} → Scope V T → List (Line V T)
lines_to scope = lines_around scope.nesting ++ lines_in scope.nesting scope.items

-- the number of the scope to which a command belongs: a closing step belongs to the scope around the one that it closes
abbrev pub around_number : {V T : Type 0} → Nesting V T → ℕ
around_number outermost = 0
around_number (inside around before anchor) = scope_number around

abbrev pub own_scope : {V T : Type 0} → Nesting V T → IndexedCommand T → ℕ
own_scope nesting (assume id t) = scope_number nesting
own_scope nesting (step s) = scope_number nesting
own_scope nesting (closing s) = around_number nesting

-- the number of the scope that a command closes
abbrev pub closed_scope : {V T : Type 0} → Nesting V T → IndexedCommand T → Option ℕ
closed_scope nesting (assume id t) = None
closed_scope nesting (step s) = None
closed_scope nesting (closing s) = Some (scope_number nesting)

-- a command with the numbers of the scope to which it belongs and of the scope that it closes
pub record Entry (T : Type 0) : Type 0 where
  pub command : IndexedCommand T
  pub scope : ℕ
  pub closes : Option ℕ

abbrev pub entry_of : {V T : Type 0} → Line V T → Entry T
entry_of line = record {
  command = line.command;
  scope = own_scope line.scope.nesting line.command;
  closes = closed_scope line.scope.nesting line.command;
}

-- a scope by numbers: that of the scope around it, what its anchor binds, and the index of the last command directly in it
pub record ScopeEntry (V T : Type 0) : Type 0 where
  pub parent : Option ℕ
  pub bindings : List (V × T)
  pub last : Option ℕ

abbrev pub scope_entry : {V T : Type 0} → Nesting V T → ProofItems V T → ScopeEntry V T
scope_entry nesting items = record {
  parent = parent_number nesting;
  bindings = own_bindings nesting;
  last = last_index nesting items;
}

-- the scopes inside a scope, at any depth, in the order of their anchors
abbrev pub scopes_in : {V T : Type 0} → Nesting V T → ProofItems V T → List (ScopeEntry V T)
scopes_in nesting no_items = []
scopes_in nesting (with_assume items id t) = scopes_in nesting items
scopes_in nesting (with_step items s) = scopes_in nesting items
scopes_in nesting (with_subproof items bindings proof s) =
    scopes_in nesting items
    ++ scope_entry (inner nesting items bindings s) proof ∷ scopes_in (inner nesting items bindings s) proof

-- the scopes whose anchors stand before that of a scope, each as far as it is written there
abbrev pub scopes_before : {V T : Type 0} → Nesting V T → List (ScopeEntry V T)
scopes_before outermost = []
scopes_before (inside around before anchor) =
    scopes_before around ++ scope_entry around before ∷ scopes_in around before

-- all scopes up to where a scope is written
abbrev pub scopes_to : {V T : Type 0} → Scope V T → List (ScopeEntry V T)
scopes_to scope =
    scopes_before scope.nesting ++ scope_entry scope.nesting scope.items ∷ scopes_in scope.nesting scope.items

-- the commands and the scopes of a whole proof
abbrev pub entries : {V T : Type 0} → ProofItems V T → List (Entry T)
entries proof = map entry_of (lines_in outermost proof)

abbrev pub scopes : {V T : Type 0} → ProofItems V T → List (ScopeEntry V T)
scopes proof = scope_entry outermost proof ∷ scopes_in outermost proof
