-- A scope is kept where a command inside it is, and so are the scopes around it.
use Rattle.std.proofs.Common.{◌≡◌, ◌<◌, ◌≤◌, ◌⊎◌, inl, inr, ℕ, zero, suc, true, List, [], ◌∷◌, ◌++◌, slice_get, slice_index, Some, refl, sym, ◌∙◌, ap, arith}
use Rattle.std.specs.List.{AllByRecursion}
use Rattle.term_model.proofs.Basics.{same_some}
use Rattle.term_model.proofs.Lists.{all_joined}
use Rattle.rule_model.specs.Commands.{IndexedCommand, assume, step, closing, Line, lines_in, own_scope}
use Rattle.rule_model.specs.Proofs.{Step, ProofItems, no_items, with_assume, with_step, with_subproof}
use Rattle.rule_model.specs.Reading.{scope_at, closes_at}
use Rattle.rule_model.specs.Scopes.{Anchor, Nesting, outermost, inside, Scope, at, inner, commands_in, scope_number}
use Rattle.rule_model.proofs.LineReading.{scope_is, closes_is}
use Rattle.rule_model.proofs.Standing.{all_at}
use Rattle.pruned_proofs.specs.KeptScopes.{kept_scope}
use Rattle.pruned_proofs.specs.Reached.{is_kept}
use Rattle.pruned_proofs.proofs.Resting.{closer_reached, line_within}
use Rattle.proof_prune.specs.Pruning.{Job, IsJob, is_scope_kept, left_at}
use Rattle.proof_prune.proofs.OldLines.{IsClosedAt, Closes, end_of, line_closes}

pub index_of_get : (xs : List ℕ) (k x : ℕ) → slice_get xs k ≡ Some x → slice_index xs k ≡ x
index_of_get [] k x e = absurd (cc)
index_of_get (y ∷ xs) zero x e = same_some e
index_of_get (y ∷ xs) (suc k) x e = index_of_get xs k x e

-- a closing step has the id of the anchor of the scope that it closes
abbrev pub HasAnchorId : Line ℕ ℕ → Type 0
HasAnchorId l =
    (s : Step ℕ) (around : Nesting ℕ ℕ) (before : ProofItems ℕ ℕ) (anchor : Anchor ℕ ℕ) → l.command ≡ closing s → l.scope.nesting ≡ inside around before anchor → s.id ≡ anchor.id

ids_in : (nesting : Nesting ℕ ℕ) (items : ProofItems ℕ ℕ) → AllByRecursion HasAnchorId (lines_in nesting items)
ids_in nesting no_items = tt
ids_in nesting (with_assume items id t) = all_joined _ (lines_in nesting items) _ (ids_in nesting items) (λ s a b n e f. absurd (cc), tt)
ids_in nesting (with_step items s) = all_joined _ (lines_in nesting items) _ (ids_in nesting items) (λ s a b n e f. absurd (cc), tt)
ids_in nesting (with_subproof items bindings proof s) =
    all_joined _ (lines_in nesting items ++ lines_in (inner nesting items bindings s) proof) _
    (all_joined _ (lines_in nesting items) _ (ids_in nesting items) (ids_in (inner nesting items bindings s) proof))
    (λ z a b n e f. ap (λ (x : Step ℕ). x.id) (sym (same_step e)) ∙ ap (λ (x : Anchor ℕ ℕ). x.id) (same_anchor f), tt)
  where
    same_step : {x y : Step ℕ} → closing x ≡ closing y → x ≡ y
    same_step e = cc

    same_anchor : {a c : Nesting ℕ ℕ} {b d : ProofItems ℕ ℕ} {n m : Anchor ℕ ℕ} → inside a b n ≡ inside c d m → n ≡ m
    same_anchor e = cc

pub id_of_anchor : (proof : ProofItems ℕ ℕ) (i : ℕ) (l : Line ℕ ℕ) → slice_get (lines_in outermost proof) i ≡ Some l → HasAnchorId l
id_of_anchor proof i l there = all_at HasAnchorId (lines_in outermost proof) i l (ids_in outermost proof) there

module _ (job : Job) (is : IsJob job) where
  pub closer_same : (around : Nesting ℕ ℕ) (before : ProofItems ℕ ℕ) (anchor : Anchor ℕ ℕ) (k : ℕ) → IsClosedAt job.proof around before anchor k
      → slice_index job.closers (scope_number (inside around before anchor)) ≡ k
  closer_same around before anchor k h =
      index_of_get job.closers (scope_number (inside around before anchor)) k (is.closers k (scope_number (inside around before anchor)) (closes_is job.proof k _ h.there))

  -- the scope is the outermost one, or kept
  abbrev pub IsOpenLeft : Nesting ℕ ℕ → Type 0
  IsOpenLeft nesting = (nesting ≡ outermost) ⊎ (is_scope_kept job nesting ≡ true)

  pub left_kept : (nesting : Nesting ℕ ℕ) (items : ProofItems ℕ ℕ) → IsOpenLeft nesting → left_at job nesting items ≡ kept_scope job.marks (at nesting items)
  left_kept outermost items h = refl
  left_kept (inside around before anchor) items (inl e) = absurd (cc)
  left_kept (inside around before anchor) items (inr e) = rw e refl

  -- where a command that is kept stands in the scope, before the step that closes it
  kept_before : (around : Nesting ℕ ℕ) (before : ProofItems ℕ ℕ) (anchor : Anchor ℕ ℕ) (i k : ℕ) → IsClosedAt job.proof around before anchor k → i < k → scope_number (inside around before anchor) ≤ scope_at job.proof i
      → is_kept job.marks i ≡ true → is_scope_kept job (inside around before anchor) ≡ true
  kept_before around before anchor i k h less great e =
      let within = line_within job.proof k _ h.there in
      let reached = closer_reached job.proof is.formed is.from k (scope_number (inside around before anchor)) is.within is.outer (closes_is job.proof k _ h.there) within i ((is.are.each i).0 e) less great in
      ap (is_kept job.marks) (closer_same around before anchor k h) ∙ (is.are.each k).1 reached

  pub line_open : (i : ℕ) (l : Line ℕ ℕ) → slice_get (lines_in outermost job.proof) i ≡ Some l → is_kept job.marks i ≡ true → IsOpenLeft l.scope.nesting
  unfolding Closes
  line_open i l there e = go l.scope.nesting l.command refl refl (line_closes job.proof i l is.formed there) (scope_is job.proof i l there)
    where
      index : Rattle.rule_model.specs.Scopes.next_index l.scope ≡ i
      index = Rattle.proof_prune.proofs.OldLines.index_is job.proof i l there

      stands : (n : Nesting ℕ ℕ) → Closes job.proof n (suc (Rattle.rule_model.specs.Scopes.next_index l.scope)) → scope_at job.proof i ≡ scope_number n → IsOpenLeft n
      stands outermost h own = inl refl
      stands (inside around before anchor) h own =
          inr (kept_before around before anchor i h.0 h.2 (let less = h.1 in let x = index in omega arith) (omega arith) e)

      go : (n : Nesting ℕ ℕ) (c : IndexedCommand ℕ) → l.scope.nesting ≡ n → l.command ≡ c → Closes job.proof n (end_of job.proof l.scope c) → scope_at job.proof i ≡ own_scope n c → IsOpenLeft n
      go n (assume id t) same command h own = stands n h own
      go n (step s) same command h own = stands n h own
      go outermost (closing s) same command h own = inl refl
      go (inside around before anchor) (closing s) same command h own =
          let closes : closes_at job.proof i ≡ Some (scope_number (inside around before anchor)) =
          closes_is job.proof i l there ∙ (λ t. Rattle.rule_model.specs.Commands.closed_scope (same t) (command t)) in
          inr (ap (is_kept job.marks) (index_of_get job.closers (scope_number (inside around before anchor)) i (is.closers i (scope_number (inside around before anchor)) closes)) ∙ e)

  -- where a scope is kept, the one around it is
  pub around_open : (around : Nesting ℕ ℕ) (before : ProofItems ℕ ℕ) (anchor : Anchor ℕ ℕ) (e : ℕ) → Closes job.proof (inside around before anchor) e → is_scope_kept job (inside around before anchor) ≡ true → IsOpenLeft around
  unfolding Closes
  around_open outermost before anchor e h kept = inl refl
  around_open (inside outer earlier other) before anchor e h kept =
      let here = sym (ap (is_kept job.marks) (closer_same (inside outer earlier other) before anchor h.0 h.2)) ∙ kept in
      let own : scope_at job.proof h.0 ≡ scope_number (inside outer earlier other) = scope_is job.proof h.0 _ h.2.there in
      inr (kept_before outer earlier other h.0 h.3.0 h.3.2 (let less = h.3.1 in omega arith) (omega arith) here)

  pub closer_at : (around : Nesting ℕ ℕ) (before : ProofItems ℕ ℕ) (anchor : Anchor ℕ ℕ) (items : ProofItems ℕ ℕ) (s : Step ℕ) (i : ℕ)
      → slice_get (lines_in outermost job.proof) i ≡ Some (record { scope = at (inside around before anchor) items; command = closing s })
      → slice_index job.closers (scope_number (inside around before anchor)) ≡ i
  closer_at around before anchor items s i there =
      index_of_get job.closers (scope_number (inside around before anchor)) i (is.closers i (scope_number (inside around before anchor)) (closes_is job.proof i _ there))

  -- the scope around one that a kept step closes
  pub closing_open : (around : Nesting ℕ ℕ) (before : ProofItems ℕ ℕ) (anchor : Anchor ℕ ℕ) (items : ProofItems ℕ ℕ) (s : Step ℕ) (i : ℕ)
      → slice_get (lines_in outermost job.proof) i ≡ Some (record { scope = at (inside around before anchor) items; command = closing s })
      → is_kept job.marks i ≡ true → IsOpenLeft around
  closing_open around before anchor items s i there kept =
      around_open around before anchor _ (line_closes job.proof i _ is.formed there)
      (ap (is_kept job.marks) (closer_at around before anchor items s i there) ∙ kept)
