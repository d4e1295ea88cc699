-- Behind a command of a scope that is open, there are only commands of it and of scopes inside it.
use Rattle.std.proofs.Common.{◌≡◌, ◌<◌, ◌≤◌, ◌-◌, ◌⊎◌, inl, inr, ℕ, [], ◌∷◌, length, slice_get, Some, Contains, sym, subst, arith}
use Rattle.std.specs.List.{AllByRecursion}
use Rattle.std.proofs.lemmas.List.Elements.{Contains-append_cases}
use Rattle.term_model.proofs.Lists.{contains_none, contains_cases, get_taken, all_joined}
use Rattle.rule_model.specs.Commands.{Line, lines_in, lines_around, lines_to, own_scope}
use Rattle.rule_model.specs.Proofs.{ProofItems}
use Rattle.rule_model.specs.Scopes.{Nesting, outermost, inside, at, scope_number}
use Rattle.rule_model.specs.Visibility.{open_scopes}
use Rattle.rule_model.proofs.Lines.{get_append, lines_before}
use Rattle.rule_model.proofs.ScopeRanges.{numbers_in}
use Rattle.rule_model.proofs.ScopedTruth.{all_changed}
use Rattle.rule_model.proofs.Standing.{all_at}

one_of : (x y : ℕ) → Contains (x ∷ []) y → x ≡ y
one_of x y has = elim (contains_cases x y [] has) [ inl e ↦ e | inr none ↦ absurd (contains_none y none) ]

module _ {V T : Type 0} where
  -- the number of the scope to which the command of a line belongs
  abbrev pub number : Line V T → ℕ
  number l = own_scope l.scope.nesting l.command

  -- those of the commands before the anchor of a scope are smaller than the scope's
  pub numbers_around : (nesting : Nesting V T) → AllByRecursion (λ l. number l < scope_number nesting) (lines_around nesting)
  numbers_around outermost = tt
  numbers_around (inside around before anchor) =
      all_joined _ (lines_around around) _
      (all_changed _ _ (λ l h. let v = h in omega arith) (lines_around around) (numbers_around around))
      (all_changed _ _ (λ l h. let w = h.1 in omega arith) (lines_in around before) (numbers_in around before))

  -- no open scope has a greater number than the innermost
  pub open_below : (n : Nesting V T) (m : ℕ) → Contains (open_scopes n) m → m ≤ scope_number n
  open_below outermost m has = let e = one_of 0 m has in omega arith
  open_below (inside around before anchor) m has =
      elim (Contains-append_cases (open_scopes around) (scope_number (inside around before anchor) ∷ []) m has) [
        | inl more ↦ (let ih = open_below around m more in omega arith)
        | inr own ↦ (let e = one_of (scope_number (inside around before anchor)) m own in omega arith)
      ]

  -- of two commands before a place the earlier one belongs to a scope that is open there
  pub between : (n : Nesting V T) (items : ProofItems V T) (m j c : ℕ) (a b : Line V T) → Contains (open_scopes n) m → j < c
      → slice_get (lines_to (at n items)) j ≡ Some a → number a ≡ m → slice_get (lines_to (at n items)) c ≡ Some b → m ≤ number b
  between outermost items m j c a b opened less here own there = let e = one_of 0 m opened in omega arith
  between (inside around before anchor) items m j c a b opened less here own there =
      go (get_append (lines_around (inside around before anchor)) (lines_in (inside around before anchor) items) j a here) (get_append (lines_around (inside around before anchor)) (lines_in (inside around before anchor) items) c b there)
      (Contains-append_cases (open_scopes around) (scope_number (inside around before anchor) ∷ []) m opened)
      (λ outer first second. between around before m j c a b outer less first own second)
    where
      go : ((j < length (lines_around (inside around before anchor))) × (slice_get (lines_around (inside around before anchor)) j ≡ Some a)) ⊎ ((length (lines_around (inside around before anchor)) ≤ j) × (slice_get (lines_in (inside around before anchor) items) (j - length (lines_around (inside around before anchor))) ≡ Some a))
          → ((c < length (lines_around (inside around before anchor))) × (slice_get (lines_around (inside around before anchor)) c ≡ Some b)) ⊎ ((length (lines_around (inside around before anchor)) ≤ c) × (slice_get (lines_in (inside around before anchor) items) (c - length (lines_around (inside around before anchor))) ≡ Some b))
          → Contains (open_scopes around) m ⊎ Contains (scope_number (inside around before anchor) ∷ []) m
          → (Contains (open_scopes around) m → slice_get (lines_around (inside around before anchor)) j ≡ Some a → slice_get (lines_around (inside around before anchor)) c ≡ Some b → m ≤ number b) → m ≤ number b
      go first (inr q) (inl outer) ih =
          let small = open_below around m outer in
          let great = (all_at _ (lines_in (inside around before anchor) items) _ b (numbers_in (inside around before anchor) items) q.1).0 in omega arith
      go first (inr q) (inr inner) ih =
          let e = one_of (scope_number (inside around before anchor)) m inner in
          let great = (all_at _ (lines_in (inside around before anchor) items) _ b (numbers_in (inside around before anchor) items) q.1).0 in omega arith
      go (inr p) (inl q) which ih = absurd (let before = q.0 in let behind = p.0 in omega arith)
      go (inl p) (inl q) (inl outer) ih = ih outer p.1 q.1
      go (inl p) (inl q) (inr inner) ih =
          let e = one_of (scope_number (inside around before anchor)) m inner in
          let small = all_at _ (lines_around (inside around before anchor)) j a (numbers_around (inside around before anchor)) p.1 in absurd (omega arith)

  -- the same of the commands of a proof, before the one of an index
  pub between_lines : (proof : ProofItems V T) (i m j c : ℕ) (l a b : Line V T) → slice_get (lines_in outermost proof) i ≡ Some l
      → Contains (open_scopes l.scope.nesting) m → j < c → c < i
      → slice_get (lines_in outermost proof) j ≡ Some a → number a ≡ m → slice_get (lines_in outermost proof) c ≡ Some b → m ≤ number b
  between_lines proof i m j c l a b at_i opened less before here own there =
      let lines = lines_before outermost proof i l at_i in
      between l.scope.nesting l.scope.items m j c a b opened less
      (subst (λ ls. slice_get ls j ≡ Some a) (sym lines) (get_taken i (lines_in outermost proof) j a (omega arith) here)) own
      (subst (λ ls. slice_get ls c ≡ Some b) (sym lines) (get_taken i (lines_in outermost proof) c b before there))
