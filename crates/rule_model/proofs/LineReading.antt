-- What a proof has at an index is what the line there has, and what it has at the number of a scope that a step closes.
use Rattle.std.proofs.Common.{◌≡◌, ◌+◌, ℕ, zero, suc, List, [], ◌∷◌, ◌++◌, length, slice_get, Some, None, refl, ◌∙◌, ap, subst, arith}
use Rattle.std.specs.List.{AllByRecursion}
use Rattle.std.specs.Option.{option_map, option_map_or}
use Rattle.std.proofs.lemmas.Option.{slice_get-map}
use Rattle.term_model.proofs.Lists.{all_joined}
use Rattle.rule_model.specs.declared.rules.Rule.{Rule}
use Rattle.rule_model.specs.Proofs.{Step, ProofItems, no_items, with_assume, with_step, with_subproof}
use Rattle.rule_model.specs.Scopes.{Nesting, outermost, inner, subproofs_in, scope_number, own_bindings, last_index}
use Rattle.rule_model.specs.Commands.{closing, Line, Entry, entry_of, entries, lines_in, own_scope, closed_scope, ScopeEntry, scope_entry, scopes_in, scopes}
use Rattle.rule_model.specs.Judged.{open_anchors, anchors_at}
use Rattle.rule_model.specs.Reading.{rule_of, clause_of, premises_of, discharged_of, rule_at, clause_at, premises_at, discharged_at, scope_at, closes_at, bindings_at, last_inside_at}
use Rattle.rule_model.proofs.Numbers.{scopes_in_count}

module _ {V T : Type 0} (proof : ProofItems V T) (i : ℕ) (l : Line V T) (here : slice_get (lines_in outermost proof) i ≡ Some l) where
  entry_here : slice_get (entries proof) i ≡ Some (entry_of l)
  entry_here = slice_get-map entry_of (lines_in outermost proof) i ∙ ap (option_map entry_of) here

  pub rule_is : rule_at proof i ≡ rule_of l.command
  rule_is = ap (λ e. option_map_or (λ (e : Entry T). rule_of e.command) e Rule.Unknown) entry_here

  pub clause_is : clause_at proof i ≡ clause_of l.command
  clause_is = ap (λ e. option_map_or (λ (e : Entry T). clause_of e.command) e []) entry_here

  pub premises_are : premises_at proof i ≡ premises_of l.command
  premises_are = ap (λ e. option_map_or (λ (e : Entry T). premises_of e.command) e []) entry_here

  pub discharged_are : discharged_at proof i ≡ discharged_of l.command
  discharged_are = ap (λ e. option_map_or (λ (e : Entry T). discharged_of e.command) e []) entry_here

  pub scope_is : scope_at proof i ≡ own_scope l.scope.nesting l.command
  scope_is = ap (λ e. option_map_or (λ (e : Entry T). e.scope) e 0) entry_here

  pub closes_is : closes_at proof i ≡ closed_scope l.scope.nesting l.command
  closes_is = ap (λ e. option_map_or (λ (e : Entry T). e.closes) e None) entry_here

  pub anchors_are : anchors_at proof i ≡ open_anchors l.scope.nesting
  anchors_are = ap (λ e. option_map_or (λ (m : Line V T). open_anchors m.scope.nesting) e []) here

-- past the end nothing is closed
pub none_closes : {V T : Type 0} (proof : ProofItems V T) (i : ℕ) → slice_get (lines_in outermost proof) i ≡ None → closes_at proof i ≡ None
none_closes {V} {T} proof i e =
    ap (λ o. option_map_or (λ (e : Entry T). e.closes) o None) (slice_get-map entry_of (lines_in outermost proof) i ∙ ap (option_map entry_of) e)

-- the scope that a step closes is one of those, with all that was written in it
record HasScope {V T : Type 0} (entries : List (ScopeEntry V T)) (first : ℕ) (nesting : Nesting V T) (items : ProofItems V T) : Type 0 where
  place : ℕ
  there : slice_get entries place ≡ Some (scope_entry nesting items)
  number : scope_number nesting ≡ suc (first + place)

module _ {V T : Type 0} where
  abbrev ClosesOne : List (ScopeEntry V T) → ℕ → Line V T → Type 0
  ClosesOne entries first l =
      (s : Step T) → l.command ≡ closing s → HasScope entries first l.scope.nesting l.scope.items

  in_front : (xs ys : List (ScopeEntry V T)) (first : ℕ) (l : Line V T) → ClosesOne xs first l → ClosesOne (xs ++ ys) first l
  in_front xs ys first l h s e =
      let has = h s e in
      record { place = has.place; there = more xs has.place has.there; number = has.number }
    where
      more : (xs : List (ScopeEntry V T)) (k : ℕ) → slice_get xs k ≡ Some (scope_entry l.scope.nesting l.scope.items) → slice_get (xs ++ ys) k ≡ Some (scope_entry l.scope.nesting l.scope.items)
      more [] k e = absurd cc
      more (x ∷ xs) zero e = e
      more (x ∷ xs) (suc k) e = more xs k e

  behind : (xs ys : List (ScopeEntry V T)) (first later : ℕ) (l : Line V T) → later ≡ first + length xs → ClosesOne ys later l → ClosesOne (xs ++ ys) first l
  behind xs ys first later l e h s f =
      let has = h s f in
      let number = has.number in
      record { place = length xs + has.place; there = after xs has.place ∙ has.there; number = omega arith }
    where
      after : (xs : List (ScopeEntry V T)) (k : ℕ) → slice_get (xs ++ ys) (length xs + k) ≡ slice_get ys k
      after [] k = ap (slice_get ys) (same k)
        where
          same : (k : ℕ) → 0 + k ≡ k
          same k = omega arith
      after (x ∷ xs) k = let same : length (x ∷ xs) + k ≡ suc (length xs + k) = omega arith in rw same (after xs k)

  changed : (xs ys : List (ScopeEntry V T)) (first later : ℕ) (lines : List (Line V T)) → ((l : Line V T) → ClosesOne xs first l → ClosesOne ys later l) → AllByRecursion (ClosesOne xs first) lines → AllByRecursion (ClosesOne ys later) lines
  changed xs ys first later [] f h = tt
  changed xs ys first later (l ∷ lines) f h = (f l h.0, changed xs ys first later lines f h.1)

  closed_scopes : (nesting : Nesting V T) (items : ProofItems V T) → AllByRecursion (ClosesOne (scopes_in nesting items) (scope_number nesting)) (lines_in nesting items)
  closed_scopes nesting no_items = tt
  closed_scopes nesting (with_assume items id t) =
      all_joined _ (lines_in nesting items) _ (closed_scopes nesting items) (λ s e. absurd cc, tt)
  closed_scopes nesting (with_step items s) =
      all_joined _ (lines_in nesting items) _ (closed_scopes nesting items) (λ s e. absurd cc, tt)
  closed_scopes nesting (with_subproof items bindings proof s) =
      let deep = inner nesting items bindings s in
      let own = scope_entry deep proof in
      let count = scopes_in_count nesting items in
      all_joined _ (lines_in nesting items ++ lines_in deep proof) _
      (all_joined _ (lines_in nesting items) _
      (changed _ _ _ _ (lines_in nesting items) (λ l. in_front (scopes_in nesting items) (own ∷ scopes_in deep proof) (scope_number nesting) l) (closed_scopes nesting items))
      (changed _ _ _ _ (lines_in deep proof) (λ l h. behind (scopes_in nesting items) (own ∷ scopes_in deep proof) (scope_number nesting) (scope_number nesting + subproofs_in items) l (omega arith) (behind (own ∷ []) (scopes_in deep proof) (scope_number nesting + subproofs_in items) (scope_number deep) l (omega arith) h)) (closed_scopes deep proof)))
      (behind (scopes_in nesting items) (own ∷ scopes_in deep proof) (scope_number nesting) (scope_number nesting + subproofs_in items) _ (omega arith) (λ t e. record { place = 0; there = refl; number = omega arith }), tt)

pub closed_entry : {V T : Type 0} (proof : ProofItems V T) (i : ℕ) (l : Line V T) (s : Step T) → slice_get (lines_in outermost proof) i ≡ Some l → l.command ≡ closing s → slice_get (scopes proof) (scope_number l.scope.nesting) ≡ Some (scope_entry l.scope.nesting l.scope.items)
closed_entry {V} {T} proof i l s here e =
    let has = at (lines_in outermost proof) i (closed_scopes outermost proof) here s e in
    let number : scope_number l.scope.nesting ≡ suc has.place = let n = has.number in omega arith in
    rw number has.there
  where
    at : (lines : List (Line V T)) (i : ℕ) → AllByRecursion (ClosesOne (scopes_in outermost proof) 0) lines → slice_get lines i ≡ Some l → ClosesOne (scopes_in outermost proof) 0 l
    at [] i h f = absurd cc
    at (m ∷ lines) zero h f = subst (ClosesOne (scopes_in outermost proof) 0) (some_same f) h.0
      where
        some_same : {a b : Line V T} → Some a ≡ Some b → a ≡ b
        some_same e = cc
    at (m ∷ lines) (suc i) h f = at lines i h.1 f

module _ {V T : Type 0} (proof : ProofItems V T) (i : ℕ) (l : Line V T) (s : Step T) (here : slice_get (lines_in outermost proof) i ≡ Some l) (closes : l.command ≡ closing s) where
  pub bindings_are : bindings_at proof (scope_number l.scope.nesting) ≡ own_bindings l.scope.nesting
  bindings_are = ap (λ e. option_map_or (λ (e : ScopeEntry V T). e.bindings) e []) (closed_entry proof i l s here closes)

  pub last_is : last_inside_at proof (scope_number l.scope.nesting) ≡ last_index l.scope.nesting l.scope.items
  last_is = ap (λ e. option_map_or (λ (e : ScopeEntry V T). e.last) e None) (closed_entry proof i l s here closes)
