-- What each command adds to the commands and to the scopes.
use Rattle.std.proofs.Common.{◌≡◌, ◌+◌, ℕ, zero, suc, List, [], ◌∷◌, ◌++◌, length, Some, None, refl, sym, ◌∙◌, ap, subst, arith}
use Rattle.std.proofs.lemmas.List.{append_assoc, append-nil}
use Rattle.rule_model.specs.Proofs.{Step, ProofItems}
use Rattle.rule_model.specs.Scopes.{Anchor, Nesting, inside, Scope, at, inner, commands_in, scope_number, first_index, next_index}
use Rattle.rule_model.specs.Commands.{assume, step, closing, lines_in, lines_around, lines_to, ScopeEntry, scope_entry, scopes_in, scopes_before, scopes_to}
use Rattle.rule_model.specs.Writing.{add_assume, add_step, open_anchor, close_scope}
use Rattle.rule_model.proofs.Numbers.{scopes_before_count}

module _ {V T : Type 0} (scope : Scope V T) where
  pub lines_assume : (id : List ℕ) (t : T) → lines_to (add_assume scope id t) ≡ lines_to scope ++ record { scope = scope; command = assume id t } ∷ []
  lines_assume id t = sym (append_assoc (lines_around scope.nesting) (lines_in scope.nesting scope.items) _)

  pub lines_step : (s : Step T) → lines_to (add_step scope s) ≡ lines_to scope ++ record { scope = scope; command = step s } ∷ []
  lines_step s = sym (append_assoc (lines_around scope.nesting) (lines_in scope.nesting scope.items) _)

  pub lines_open : (anchor : Anchor V T) → lines_to (open_anchor scope anchor) ≡ lines_to scope
  lines_open anchor = append-nil (lines_to scope)

-- what stands around the scope that a step with the anchor's id closes
pub same_nesting : {V T : Type 0} (around : Nesting V T) (before : ProofItems V T) (anchor : Anchor V T) (s : Step T) → s.id ≡ anchor.id → inner around before anchor.bindings s ≡ inside around before anchor
same_nesting around before anchor s e = ap (λ id. inside around before (record { id = id; bindings = anchor.bindings })) e

-- a closing step, with the anchor's id
pub lines_close : {V T : Type 0} (around : Nesting V T) (before : ProofItems V T) (anchor : Anchor V T) (items : ProofItems V T) (s : Step T) → s.id ≡ anchor.id → lines_to (close_scope (inside around before anchor) items s) ≡ lines_to (at (inside around before anchor) items) ++ record { scope = at (inside around before anchor) items; command = closing s } ∷ []
lines_close around before anchor items s e =
    subst (λ n. lines_around around ++ ((lines_in around before ++ lines_in n items) ++ record { scope = at n items; command = closing s } ∷ []) ≡ lines_to (at (inside around before anchor) items) ++ record { scope = at (inside around before anchor) items; command = closing s } ∷ [])
    (sym (same_nesting around before anchor s e)) (joined (lines_around around) (lines_in around before) (lines_in (inside around before anchor) items) _)
  where
    joined : {X : Type 0} (a b c d : List X) → a ++ ((b ++ c) ++ d) ≡ ((a ++ b) ++ c) ++ d
    joined a b c d = sym (append_assoc a (b ++ c) d) ∙ ap (λ l. l ++ d) (sym (append_assoc a b c))

-- another last command, at a place
abbrev pub entry_last : {V T : Type 0} → ℕ → ℕ → List (ScopeEntry V T) → List (ScopeEntry V T)
entry_last k i [] = []
entry_last zero i (e ∷ es) = record e { last = Some i } ∷ es
entry_last (suc k) i (e ∷ es) = e ∷ entry_last k i es

entry_last_seam : {V T : Type 0} (xs : List (ScopeEntry V T)) (i : ℕ) (e : ScopeEntry V T) (ys : List (ScopeEntry V T)) → entry_last (length xs) i (xs ++ e ∷ ys) ≡ xs ++ record e { last = Some i } ∷ ys
entry_last_seam [] i e ys = refl
entry_last_seam (x ∷ xs) i e ys = ap (λ l. x ∷ l) (entry_last_seam xs i e ys)

-- the scope that is written gets another last command
scopes_last : {V T : Type 0} (nesting : Nesting V T) (i : ℕ) (e : ScopeEntry V T) (ys : List (ScopeEntry V T)) → entry_last (scope_number nesting) i (scopes_before nesting ++ e ∷ ys) ≡ scopes_before nesting ++ record e { last = Some i } ∷ ys
scopes_last nesting i e ys =
    ap (λ k. entry_last k i (scopes_before nesting ++ e ∷ ys)) (sym (scopes_before_count nesting)) ∙ entry_last_seam (scopes_before nesting) i e ys

module _ {V T : Type 0} (scope : Scope V T) where
  pub scopes_assume : (id : List ℕ) (t : T) → scopes_to (add_assume scope id t) ≡ entry_last (scope_number scope.nesting) (next_index scope) (scopes_to scope)
  scopes_assume id t = sym (scopes_last scope.nesting (next_index scope) (scope_entry scope.nesting scope.items) (scopes_in scope.nesting scope.items))

  pub scopes_step : (s : Step T) → scopes_to (add_step scope s) ≡ entry_last (scope_number scope.nesting) (next_index scope) (scopes_to scope)
  scopes_step s = sym (scopes_last scope.nesting (next_index scope) (scope_entry scope.nesting scope.items) (scopes_in scope.nesting scope.items))

  pub scopes_open : (anchor : Anchor V T) → scopes_to (open_anchor scope anchor) ≡ scopes_to scope ++ record { parent = Some (scope_number scope.nesting); bindings = anchor.bindings; last = None } ∷ []
  scopes_open anchor = refl

-- a closing step is the last command of the scope around
pub scopes_close : {V T : Type 0} (around : Nesting V T) (before : ProofItems V T) (anchor : Anchor V T) (items : ProofItems V T) (s : Step T) → s.id ≡ anchor.id → scopes_to (close_scope (inside around before anchor) items s) ≡ entry_last (scope_number around) (next_index (at (inside around before anchor) items)) (scopes_to (at (inside around before anchor) items))
scopes_close around before anchor items s e =
    let i = first_index around + (commands_in before + commands_in items) in
    let last : i ≡ next_index (at (inside around before anchor) items) = omega arith in
    let here = scope_entry (inside around before anchor) items ∷ scopes_in (inside around before anchor) items in
    subst (λ n. scopes_before around ++ record (scope_entry around before) { last = Some i } ∷ (scopes_in around before ++ scope_entry n items ∷ scopes_in n items) ≡ entry_last (scope_number around) (next_index (at (inside around before anchor) items)) (scopes_to (at (inside around before anchor) items)))
    (sym (same_nesting around before anchor s e))
    (sym (ap (λ l. entry_last (scope_number around) (next_index (at (inside around before anchor) items)) l) (append_assoc (scopes_before around) (scope_entry around before ∷ scopes_in around before) here)
    ∙ (ap (λ k. entry_last (scope_number around) k (scopes_before around ++ scope_entry around before ∷ (scopes_in around before ++ here))) (sym last)
    ∙ scopes_last around i (scope_entry around before) (scopes_in around before ++ here))))
