-- The commands of a scope, and of those inside it, stand together.
use Rattle.std.proofs.Common.{◌≡◌, ◌<◌, ◌≤◌, ◌+◌, ◌-◌, ◌⊎◌, ◌↔◌, inl, inr, ℕ, ◌++◌, length, slice_get, Option, Some, None, refl, sym, ◌∙◌, subst, arith}
use Rattle.std.specs.List.{AllByRecursion}
use Rattle.std.proofs.lemmas.Option.{slice_get_within}
use Rattle.term_model.proofs.Lists.{all_joined, get_taken, nth_there}
use Rattle.term_model.proofs.Basics.{same_some}
use Rattle.rule_model.specs.Proofs.{ProofItems, no_items, with_assume, with_step, with_subproof}
use Rattle.rule_model.specs.Scopes.{Nesting, outermost, inside, inner, subproofs_in, scope_number}
use Rattle.rule_model.specs.Commands.{IndexedCommand, assume, step, closing, Line, lines_in, lines_around, own_scope, closed_scope}
use Rattle.rule_model.specs.Reading.{scope_at, closes_at}
use Rattle.rule_model.proofs.LineReading.{scope_is, closes_is, none_closes}
use Rattle.rule_model.proofs.Lines.{get_append, lines_before}
use Rattle.rule_model.proofs.ScopedTruth.{all_changed}
use Rattle.rule_model.proofs.Standing.{all_at}

module _ {V T : Type 0} where
  abbrev number : Line V T → ℕ
  number l = own_scope l.scope.nesting l.command

  -- the numbers of the commands of a scope are those of it and of the scopes inside it
  pub numbers_in : (nesting : Nesting V T) (items : ProofItems V T) → AllByRecursion (λ l. (scope_number nesting ≤ number l) × (number l ≤ scope_number nesting + subproofs_in items)) (lines_in nesting items)
  numbers_in nesting no_items = tt
  numbers_in nesting (with_assume items id t) =
      all_joined _ (lines_in nesting items) _ (numbers_in nesting items) ((omega arith, omega arith), tt)
  numbers_in nesting (with_step items s) =
      all_joined _ (lines_in nesting items) _ (numbers_in nesting items) ((omega arith, omega arith), tt)
  numbers_in nesting (with_subproof items bindings proof s) =
      let deep = inner nesting items bindings s in
      all_joined _ (lines_in nesting items ++ lines_in deep proof) _
      (all_joined _ (lines_in nesting items) _
      (all_changed _ _ (λ l h. (h.0, let w = h.1 in omega arith)) (lines_in nesting items) (numbers_in nesting items))
      (all_changed _ _ (λ l h. (let v = h.0 in omega arith, let w = h.1 in omega arith)) (lines_in deep proof) (numbers_in deep proof)))
      ((omega arith, omega arith), tt)

  -- those of the commands before the anchor of a scope are smaller
  numbers_around : (nesting : Nesting V T) → AllByRecursion (λ l. number l < scope_number nesting) (lines_around nesting)
  numbers_around outermost = tt
  numbers_around (inside around before anchor) =
      all_joined _ (lines_around around) _
      (all_changed _ _ (λ l h. let v = h in omega arith) (lines_around around) (numbers_around around))
      (all_changed _ _ (λ l h. let w = h.1 in omega arith) (lines_in around before) (numbers_in around before))

  module _ (proof : ProofItems V T) where
    -- a command before a place stands before the anchor of the scope there, or behind it
    together_at : (i j : ℕ) (l : Line V T) → slice_get (lines_in outermost proof) i ≡ Some l → j < i → length (lines_around l.scope.nesting) ≤ j ↔ scope_number l.scope.nesting ≤ scope_at proof j
    together_at i j l here less =
        let within = slice_get_within (lines_in outermost proof) i l here in
        let m = nth_there (lines_in outermost proof) j (omega arith) in
        let there = subst (λ ls. slice_get ls j ≡ Some m.0) (sym (lines_before outermost proof i l here)) (get_taken i (lines_in outermost proof) j m.0 less m.1) in
        go m.0 (scope_is proof j m.0 m.1) (get_append (lines_around l.scope.nesting) (lines_in l.scope.nesting l.scope.items) j m.0 there)
      where
        go : (m : Line V T) → scope_at proof j ≡ number m → ((j < length (lines_around l.scope.nesting)) × (slice_get (lines_around l.scope.nesting) j ≡ Some m)) ⊎ ((length (lines_around l.scope.nesting) ≤ j) × (slice_get (lines_in l.scope.nesting l.scope.items) (j - length (lines_around l.scope.nesting)) ≡ Some m)) → length (lines_around l.scope.nesting) ≤ j ↔ scope_number l.scope.nesting ≤ scope_at proof j
        go m e (inl p) =
            let less = p.0 in
            let small = all_at _ (lines_around l.scope.nesting) j m (numbers_around l.scope.nesting) p.1 in
            (λ h. absurd (omega arith), λ h. absurd (omega arith))
        go m e (inr p) =
            let more = p.0 in
            let great = (all_at _ (lines_in l.scope.nesting l.scope.items) _ m (numbers_in l.scope.nesting l.scope.items) p.1).0 in
            (λ h. omega arith, λ h. omega arith)

    -- the commands before the step that closes a scope: from some place on they stand in it or inside it
    pub together : (i k : ℕ) → closes_at proof i ≡ Some k → (first : ℕ) × ((j : ℕ) → j < i → first ≤ j ↔ k ≤ scope_at proof j)
    together i k closes = go (slice_get (lines_in outermost proof) i) refl
      where
        number_of : (nesting : Nesting V T) (command : IndexedCommand T) → closed_scope nesting command ≡ Some k → scope_number nesting ≡ k
        number_of nesting (assume id t) e = absurd cc
        number_of nesting (step s) e = absurd cc
        number_of nesting (closing s) e = same_some e

        go : (o : Option (Line V T)) → slice_get (lines_in outermost proof) i ≡ o → (first : ℕ) × ((j : ℕ) → j < i → first ≤ j ↔ k ≤ scope_at proof j)
        go (Some l) here =
            let same = number_of l.scope.nesting l.command (sym (closes_is proof i l here) ∙ closes) in
            (length (lines_around l.scope.nesting), λ j less. subst (λ n. length (lines_around l.scope.nesting) ≤ j ↔ n ≤ scope_at proof j) same (together_at i j l here less))
        go None here = (0, λ j less. absurd (nowhere (none_closes proof i here)))
          where
            nowhere : closes_at proof i ≡ None → ⊥
            nowhere e = other (sym closes ∙ e)
              where
                other : Some k ≡ None → ⊥
                other f = cc
