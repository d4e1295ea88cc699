-- The scopes stand in one another as a tree, and steps close them.
use Rattle.std.proofs.Common.{◌≡◌, ◌<◌, ◌≤◌, ◌+◌, ◌-◌, ◌⊎◌, inl, inr, ℕ, zero, suc, List, [], ◌∷◌, ◌++◌, map, length, slice_get, Some, refl, sym, ◌∙◌, ap, subst, arith}
use Rattle.std.specs.Option.{option_map}
use Rattle.std.proofs.lemmas.Option.{slice_get-map, slice_get_within}
use Rattle.term_model.proofs.Lists.{nth_there}
use Rattle.rule_model.specs.Proofs.{ProofItems, no_items, with_assume, with_step, with_subproof}
use Rattle.rule_model.specs.Scopes.{Nesting, outermost, at, inner, commands_in, subproofs_in, scope_number}
use Rattle.rule_model.specs.Commands.{closing, Line, entry_of, lines_in, own_scope, closed_scope, ScopeEntry, scope_entry, scopes_in}
use Rattle.rule_model.specs.Reading.{scope_at, closes_at, parent_at}
use Rattle.rule_model.proofs.Numbers.{scopes_in_count, lines_in_count}
use Rattle.rule_model.proofs.Lines.{get_append}

module _ {V T : Type 0} where
  -- a step of the lines closes the scope of this number, and belongs to the scope around it
  record Closes (lines : List (Line V T)) (number : ℕ) (e : ScopeEntry V T) : Type 0 where
    index : ℕ
    line : Line V T
    here : slice_get lines index ≡ Some line
    closes : closed_scope line.scope.nesting line.command ≡ Some number
    parent : e.parent ≡ Some (own_scope line.scope.nesting line.command)
    smaller : own_scope line.scope.nesting line.command < number

  closes_left : (xs ys : List (Line V T)) (number : ℕ) (e : ScopeEntry V T) → Closes xs number e → Closes (xs ++ ys) number e
  closes_left xs ys number e c = record { index = c.index; line = c.line; here = left xs c.index c.here; closes = c.closes; parent = c.parent; smaller = c.smaller }
    where
      left : (xs : List (Line V T)) (i : ℕ) → slice_get xs i ≡ Some c.line → slice_get (xs ++ ys) i ≡ Some c.line
      left [] i h = absurd (cc)
      left (x ∷ xs) zero h = h
      left (x ∷ xs) (suc i) h = left xs i h

  closes_right : (xs ys : List (Line V T)) (number : ℕ) (e : ScopeEntry V T) → Closes ys number e → Closes (xs ++ ys) number e
  closes_right xs ys number e c = record { index = length xs + c.index; line = c.line; here = right xs; closes = c.closes; parent = c.parent; smaller = c.smaller }
    where
      right : (xs : List (Line V T)) → slice_get (xs ++ ys) (length xs + c.index) ≡ Some c.line
      right [] = let same : 0 + c.index ≡ c.index = omega arith in rw same c.here
      right (x ∷ xs) = let same : length (x ∷ xs) + c.index ≡ suc (length xs + c.index) = omega arith in rw same (right xs)

  closes_cons : (x : Line V T) (number : ℕ) (e : ScopeEntry V T) → closed_scope x.scope.nesting x.command ≡ Some number → e.parent ≡ Some (own_scope x.scope.nesting x.command) → own_scope x.scope.nesting x.command < number → Closes (x ∷ []) number e
  closes_cons x number e c p s = record { index = 0; line = x; here = refl; closes = c; parent = p; smaller = s }

  scopes_close : (nesting : Nesting V T) (items : ProofItems V T) (k : ℕ) (e : ScopeEntry V T) → slice_get (scopes_in nesting items) k ≡ Some e → Closes (lines_in nesting items) (suc (scope_number nesting + k)) e
  scopes_close nesting no_items k e f = absurd (cc)
  scopes_close nesting (with_assume items id t) k e f = closes_left (lines_in nesting items) _ _ e (scopes_close nesting items k e f)
  scopes_close nesting (with_step items s) k e f = closes_left (lines_in nesting items) _ _ e (scopes_close nesting items k e f)
  scopes_close nesting (with_subproof items bindings proof s) k e f =
      go (scopes_close nesting items k e) (scopes_close (inner nesting items bindings s) proof) (get_append (scopes_in nesting items) (scope_entry (inner nesting items bindings s) proof ∷ scopes_in (inner nesting items bindings s) proof) k e f)
    where
      deep : Nesting V T
      deep = inner nesting items bindings s

      count : length (scopes_in nesting items) ≡ subproofs_in items
      count = scopes_in_count nesting items

      Goal : ℕ → Type 0
      Goal number = Closes ((lines_in nesting items ++ lines_in (inner nesting items bindings s) proof) ++ record { scope = at (inner nesting items bindings s) proof; command = closing s } ∷ []) number e

      own : (j : ℕ) → k - length (scopes_in nesting items) ≡ j → length (scopes_in nesting items) ≤ k → ((k : ℕ) (e : ScopeEntry V T) → slice_get (scopes_in (inner nesting items bindings s) proof) k ≡ Some e → Closes (lines_in (inner nesting items bindings s) proof) (suc (scope_number (inner nesting items bindings s) + k)) e) → slice_get (scope_entry (inner nesting items bindings s) proof ∷ scopes_in (inner nesting items bindings s) proof) j ≡ Some e → Goal (suc (scope_number nesting + k))
      own zero j l within f =
          let number : suc (scope_number nesting + subproofs_in items) ≡ suc (scope_number nesting + k) = let c = scopes_in_count nesting items in omega arith in
          let entry : scope_entry (inner nesting items bindings s) proof ≡ e = cc in
          subst Goal number (closes_right (lines_in nesting items ++ lines_in (inner nesting items bindings s) proof) _ _ e (closes_cons _ _ e refl (ap (λ e. e.parent) (sym entry)) (omega arith)))
      own (suc i) j l within f =
          let number : suc (scope_number (inner nesting items bindings s) + i) ≡ suc (scope_number nesting + k) = let c = scopes_in_count nesting items in omega arith in
          subst Goal number (closes_left (lines_in nesting items ++ lines_in (inner nesting items bindings s) proof) _ _ e (closes_right (lines_in nesting items) _ _ e (within i e f)))

      go : (slice_get (scopes_in nesting items) k ≡ Some e → Closes (lines_in nesting items) (suc (scope_number nesting + k)) e) → ((k : ℕ) (e : ScopeEntry V T) → slice_get (scopes_in (inner nesting items bindings s) proof) k ≡ Some e → Closes (lines_in (inner nesting items bindings s) proof) (suc (scope_number (inner nesting items bindings s) + k)) e) → ((k < length (scopes_in nesting items)) × (slice_get (scopes_in nesting items) k ≡ Some e)) ⊎ ((length (scopes_in nesting items) ≤ k) × (slice_get (scope_entry (inner nesting items bindings s) proof ∷ scopes_in (inner nesting items bindings s) proof) (k - length (scopes_in nesting items)) ≡ Some e)) → Goal (suc (scope_number nesting + k))
      go outer within (inl p) = closes_left (lines_in nesting items ++ lines_in (inner nesting items bindings s) proof) _ _ e (closes_left (lines_in nesting items) _ _ e (outer p.1))
      go outer within (inr p) = own (k - length (scopes_in nesting items)) refl p.0 within p.1

pub scope_closed : {V T : Type 0} (proof : ProofItems V T) (k : ℕ) → 0 < k → k ≤ subproofs_in proof → (i : ℕ) × (i < commands_in proof) × (closes_at proof i ≡ Some k) × (parent_at proof k ≡ Some (scope_at proof i)) × (scope_at proof i < k)
scope_closed proof zero h l = absurd (omega arith)
scope_closed proof (suc k) h l =
    let count = scopes_in_count outermost proof in
    let s = nth_there (scopes_in outermost proof) k (omega arith) in
    let c = scopes_close outermost proof k s.0 s.1 in
    let entry : slice_get (map entry_of (lines_in outermost proof)) c.index ≡ Some (entry_of c.line) = slice_get-map entry_of (lines_in outermost proof) c.index ∙ ap (option_map entry_of) c.here in
    let number : suc (0 + k) ≡ suc k = omega arith in
    let within = slice_get_within (lines_in outermost proof) c.index c.line c.here in
    let lines = lines_in_count outermost proof in
    let smaller = c.smaller in
    (c.index, omega arith, rw entry (c.closes ∙ ap Some number), rw (s.1, entry) c.parent, rw entry (omega arith))
