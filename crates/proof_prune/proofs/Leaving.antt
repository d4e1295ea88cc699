-- What is left, behind an anchor and behind a command.
use Rattle.std.proofs.Common.{◌≡◌, ◌+◌, ◌⊎◌, inl, inr, ℕ, true, false, slice_get, Some, refl, sym, ◌∙◌, ap, subst}
use Rattle.rule_model.specs.Commands.{IndexedCommand, assume, step, closing, Line, lines_in}
use Rattle.rule_model.specs.Proofs.{ProofItems, with_assume, with_step, with_subproof}
use Rattle.rule_model.specs.Scopes.{Anchor, Nesting, outermost, inside, Scope, at, commands_in, first_index, next_index}
use Rattle.rule_model.specs.WellFormed.{IsNewId, MayOpen, MayStand, MayClose}
use Rattle.rule_model.specs.Writing.{open_anchor, add_command, MayAddHere}
use Rattle.rule_model.proofs.Standing.{command_may}
use Rattle.pruned_proofs.specs.KeptScopes.{kept_nesting, kept_scope, kept_command, kept_line}
use Rattle.pruned_proofs.specs.Pruned.{new_index, kept_items, pruned}
use Rattle.pruned_proofs.specs.Reached.{is_kept}
use Rattle.pruned_proofs.proofs.Counting.{kept_or_not}
use Rattle.pruned_proofs.proofs.Forming.{formed_kept, may_open_kept}
use Rattle.pruned_proofs.proofs.KeptLines.{new_line}
use Rattle.pruned_proofs.proofs.KeptReading.{nested, line_nested}
use Rattle.proof_prune.specs.Pruning.{Job, IsJob, is_scope_kept, left_at, left_of}
use Rattle.proof_prune.proofs.OldLines.{IsClosedAt, index_is}
use Rattle.proof_prune.proofs.Scopes.{HasAnchorId, id_of_anchor, closer_same, IsOpenLeft, left_kept, line_open, around_open}

module _ (job : Job) (is : IsJob job) where
  -- an anchor is gone through
  module _ (scope : Scope ℕ ℕ) (anchor : Anchor ℕ ℕ) where
    pub open_dropped : is_scope_kept job (inside scope.nesting scope.items anchor) ≡ false → left_of job (open_anchor scope anchor) ≡ left_of job scope
    open_dropped e = rw e refl

    pub open_kept : is_scope_kept job (inside scope.nesting scope.items anchor) ≡ true → IsOpenLeft job is scope.nesting → left_of job (open_anchor scope anchor) ≡ open_anchor (left_of job scope) anchor
    open_kept e o =
        let here = left_kept job is scope.nesting scope.items o in
        rw e (ap (λ (s : Scope ℕ ℕ). open_anchor s anchor) (sym here))

    pub open_may : (k : ℕ) → IsClosedAt job.proof scope.nesting scope.items anchor k → IsOpenLeft job is scope.nesting → MayOpen (left_of job scope).nesting (left_of job scope).items anchor
    open_may k h o =
        let nest = line_nested job.proof is.formed is.from is.within is.outer job.marks is.are k _ h.there in
        subst (λ (s : Scope ℕ ℕ). MayOpen s.nesting s.items anchor) (sym (left_kept job is scope.nesting scope.items o))
        (may_open_kept job.marks scope.nesting scope.items nest.0.0 nest.0.1 anchor h.may)

  -- a command that is dropped leaves what is left as it is
  module _ (n : Nesting ℕ ℕ) (old new : ProofItems ℕ ℕ) (same : kept_items job.marks (first_index n) new ≡ kept_items job.marks (first_index n) old) where
    left_same : left_at job n new ≡ left_at job n old
    left_same = go n same
      where
        go : (n : Nesting ℕ ℕ) → kept_items job.marks (first_index n) new ≡ kept_items job.marks (first_index n) old → left_at job n new ≡ left_at job n old
        go outermost e = ap (λ x. at outermost x) e
        go (inside around before anchor) e = branch (kept_or_not (is_scope_kept job (inside around before anchor)))
          where
            branch : (is_scope_kept job (inside around before anchor) ≡ true) ⊎ (is_scope_kept job (inside around before anchor) ≡ false) → left_at job (inside around before anchor) new ≡ left_at job (inside around before anchor) old
            branch (inl k) = rw k (ap (λ x. at (kept_nesting job.marks (inside around before anchor)) x) e)
            branch (inr k) = rw k refl

  module _ (i : ℕ) (l : Line ℕ ℕ) (there : slice_get (lines_in outermost job.proof) i ≡ Some l) where
    index : next_index l.scope ≡ i
    index = index_is job.proof i l there

    pub command_dropped : is_kept job.marks i ≡ false → left_of job (add_command l.scope l.command) ≡ left_of job l.scope
    command_dropped e = go l.scope.nesting l.scope.items l.command refl (subst (λ k. is_kept job.marks k ≡ false) (sym index) e) there
      where
        go : (n : Nesting ℕ ℕ) (items : ProofItems ℕ ℕ) (c : IndexedCommand ℕ) → next_index (at n items) ≡ next_index (at n items) → is_kept job.marks (first_index n + commands_in items) ≡ false
            → slice_get (lines_in outermost job.proof) i ≡ Some (record { scope = at n items; command = c }) → left_of job (add_command (at n items) c) ≡ left_of job (at n items)
        go n items (assume id t) same e there = left_same n items (with_assume items id t) (rw e refl)
        go n items (step s) same e there = left_same n items (with_step items s) (rw e refl)
        go outermost items (closing s) same e there = refl
        go (inside around before anchor) items (closing s) same e there =
            let closer = Rattle.proof_prune.proofs.Scopes.closer_at job is around before anchor items s i there in
            let here = index_is job.proof i _ there in
            let dropped : is_scope_kept job (inside around before anchor) ≡ false = ap (is_kept job.marks) (closer ∙ sym here) ∙ e in
            let sum : first_index around + commands_in before + commands_in items ≡ first_index (inside around before anchor) + commands_in items = refl in
            rw dropped (left_same around before (with_subproof before anchor.bindings items s) (rw e refl))

    module _ (kept : is_kept job.marks i ≡ true) where
      open_here : IsOpenLeft job is l.scope.nesting
      open_here = line_open job is i l there kept

      pub left_here : left_of job l.scope ≡ kept_scope job.marks l.scope
      left_here = left_kept job is l.scope.nesting l.scope.items open_here

      pub command_kept : left_of job (add_command l.scope l.command) ≡ add_command (kept_scope job.marks l.scope) (kept_command job.marks l.command)
      command_kept = go l.scope.nesting l.scope.items l.command (subst (λ k. is_kept job.marks k ≡ true) (sym index) kept) open_here there
        where
          go : (n : Nesting ℕ ℕ) (items : ProofItems ℕ ℕ) (c : IndexedCommand ℕ) → is_kept job.marks (first_index n + commands_in items) ≡ true → IsOpenLeft job is n
              → slice_get (lines_in outermost job.proof) i ≡ Some (record { scope = at n items; command = c })
              → left_of job (add_command (at n items) c) ≡ add_command (kept_scope job.marks (at n items)) (kept_command job.marks c)
          go n items (assume id t) e o there = left_kept job is n (with_assume items id t) o ∙ rw e refl
          go n items (step s) e o there = left_kept job is n (with_step items s) o ∙ rw e refl
          go outermost items (closing s) e o there = refl
          go (inside around before anchor) items (closing s) e o there =
              left_kept job is around (with_subproof before anchor.bindings items s) (Rattle.proof_prune.proofs.Scopes.closing_open job is around before anchor items s i there kept) ∙ rw e refl

      new_formed : Rattle.rule_model.specs.WellFormed.IsWellFormed (pruned job.marks job.proof)
      new_formed = formed_kept job.marks outermost job.proof tt (nested job.proof is.formed is.from is.within is.outer job.marks is.are) is.formed

      pub may_add : MayAddHere (kept_scope job.marks l.scope) (kept_command job.marks l.command)
      may_add =
          command_may (pruned job.marks job.proof) (new_index job.marks i) (kept_line job.marks l) new_formed
          (new_line job.marks job.proof (nested job.proof is.formed is.from is.within is.outer job.marks is.are) i l there kept)
