-- How many commands and scopes there are.
use Rattle.std.proofs.Common.{◌≡◌, ◌∷◌, ◌++◌, length, refl, arith}
use Rattle.std.proofs.lemmas.List.{length-append}
use Rattle.rule_model.specs.Proofs.{ProofItems, no_items, with_assume, with_step, with_subproof}
use Rattle.rule_model.specs.Scopes.{Nesting, outermost, inside, Scope, inner, commands_in, subproofs_in, scope_number, first_index, next_index, next_scope}
use Rattle.rule_model.specs.Commands.{lines_in, lines_around, lines_to, scope_entry, scopes_in, scopes_before, scopes_to}

pub lines_in_count : {V T : Type 0} (nesting : Nesting V T) (items : ProofItems V T) → length (lines_in nesting items) ≡ commands_in items
lines_in_count nesting no_items = refl
lines_in_count nesting (with_assume items id t) =
    let ih = lines_in_count nesting items in rw (length-append (lines_in nesting items) _) (omega arith)
lines_in_count nesting (with_step items s) =
    let ih = lines_in_count nesting items in rw (length-append (lines_in nesting items) _) (omega arith)
lines_in_count nesting (with_subproof items bindings proof s) =
    let outer = lines_in_count nesting items in
    let inside = lines_in_count (inner nesting items bindings s) proof in
    rw (length-append (lines_in nesting items ++ lines_in (inner nesting items bindings s) proof) _, length-append (lines_in nesting items) (lines_in (inner nesting items bindings s) proof)) (omega arith)

pub lines_around_count : {V T : Type 0} (nesting : Nesting V T) → length (lines_around nesting) ≡ first_index nesting
lines_around_count outermost = refl
lines_around_count (inside around before anchor) =
    let ih = lines_around_count around in
    let own = lines_in_count around before in
    rw (length-append (lines_around around) (lines_in around before)) (omega arith)

-- as many commands stand before a place as the next index says
pub lines_count : {V T : Type 0} (scope : Scope V T) → length (lines_to scope) ≡ next_index scope
lines_count scope =
    let around = lines_around_count scope.nesting in
    let own = lines_in_count scope.nesting scope.items in
    rw (length-append (lines_around scope.nesting) (lines_in scope.nesting scope.items)) (omega arith)

pub scopes_in_count : {V T : Type 0} (nesting : Nesting V T) (items : ProofItems V T) → length (scopes_in nesting items) ≡ subproofs_in items
scopes_in_count nesting no_items = refl
scopes_in_count nesting (with_assume items id t) = scopes_in_count nesting items
scopes_in_count nesting (with_step items s) = scopes_in_count nesting items
scopes_in_count nesting (with_subproof items bindings proof s) =
    let outer = scopes_in_count nesting items in
    let inside = scopes_in_count (inner nesting items bindings s) proof in
    rw (length-append (scopes_in nesting items) (scope_entry (inner nesting items bindings s) proof ∷ scopes_in (inner nesting items bindings s) proof)) (omega arith)

-- as many scopes were opened before a scope as its number says
pub scopes_before_count : {V T : Type 0} (nesting : Nesting V T) → length (scopes_before nesting) ≡ scope_number nesting
scopes_before_count outermost = refl
scopes_before_count (inside around before anchor) =
    let ih = scopes_before_count around in
    let own = scopes_in_count around before in
    rw (length-append (scopes_before around) (scope_entry around before ∷ scopes_in around before)) (omega arith)

pub scopes_count : {V T : Type 0} (scope : Scope V T) → length (scopes_to scope) ≡ next_scope scope
scopes_count scope =
    let before = scopes_before_count scope.nesting in
    let own = scopes_in_count scope.nesting scope.items in
    rw (length-append (scopes_before scope.nesting) (scope_entry scope.nesting scope.items ∷ scopes_in scope.nesting scope.items)) (omega arith)
