-- A scope that a step closes has a number below the count, and its last command stands before the step.
use Rattle.std.proofs.Common.{◌≡◌, ◌<◌, ◌≤◌, ℕ, take, slice_get, Option, Some, None, refl, sym, ◌∙◌, ap, subst, arith}
use Rattle.std.proofs.lemmas.Option.{slice_get_within}
use Rattle.rule_model.specs.Commands.{IndexedCommand, assume, step, closing, Line, lines_in, closed_scope, scopes}
use Rattle.rule_model.specs.Proofs.{Step, ProofItems}
use Rattle.rule_model.specs.Reading.{closes_at, last_inside_at}
use Rattle.rule_model.specs.Scopes.{Nesting, outermost, at, subproofs_in, scope_number}
use Rattle.rule_model.proofs.LineReading.{closes_is, none_closes, closed_entry, last_is}
use Rattle.rule_model.proofs.Lines.{lines_before}
use Rattle.rule_model.proofs.Numbers.{scopes_in_count}
use Rattle.rule_model.proofs.Sights.{last_seen}
use Rattle.rule_model.proofs.Standing.{taken_few}

module _ {V T : Type 0} (proof : ProofItems V T) (i k : ℕ) (closes : closes_at proof i ≡ Some k) where
  -- the step and the scope that it closes
  record IsClosed : Type 0 where
    line : Line V T
    here : slice_get (lines_in outermost proof) i ≡ Some line
    by : Step T
    is : line.command ≡ closing by
    number : scope_number line.scope.nesting ≡ k

  closed_line : IsClosed
  closed_line = go (slice_get (lines_in outermost proof) i) refl
    where
      some_same : {a b : ℕ} → Some a ≡ Some b → a ≡ b
      some_same e = cc

      by_command : (nesting : Nesting V T) (items : ProofItems V T) (c : IndexedCommand T) → slice_get (lines_in outermost proof) i ≡ Some (record { scope = at nesting items; command = c }) → closed_scope nesting c ≡ Some k → IsClosed
      by_command nesting items (assume id t) here e = absurd cc
      by_command nesting items (step s) here e = absurd cc
      by_command nesting items (closing s) here e =
          record { line = record { scope = at nesting items; command = closing s }; here = here; by = s; is = refl; number = some_same e }

      go : (o : Option (Line V T)) → slice_get (lines_in outermost proof) i ≡ o → IsClosed
      go None e = absurd (other (sym (none_closes proof i e) ∙ closes))
        where
          other : None ≡ Some k → ⊥
          other f = cc
      go (Some l) e = by_command l.scope.nesting l.scope.items l.command e (sym (closes_is proof i l e) ∙ closes)

  pub scope_within : k ≤ subproofs_in proof
  scope_within =
      let c = closed_line in
      let within = slice_get_within (scopes proof) (scope_number c.line.scope.nesting) _ (closed_entry proof i c.line c.by c.here c.is) in
      let count = scopes_in_count outermost proof in
      let number = c.number in omega arith

  pub last_before : (last : ℕ) → last_inside_at proof k ≡ Some last → last < i
  last_before last e =
      let c = closed_line in
      let seen = last_seen c.line.scope.nesting c.line.scope.items last (sym (last_is proof i c.line c.by c.here c.is) ∙ (ap (last_inside_at proof) c.number ∙ e)) in
      let taken = subst (λ ls. slice_get ls last ≡ Some seen.0) (lines_before outermost proof i c.line c.here) seen.1 in
      let within = slice_get_within (take i (lines_in outermost proof)) last seen.0 taken in
      let few = taken_few i (lines_in outermost proof) in omega arith
