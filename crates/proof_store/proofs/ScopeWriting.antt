-- What opening and closing a scope writes.
use Rattle.std.proofs.Common.{◌≡◌, ◌≤◌, ◌<◌, ◌+◌, ◌-◌, ◌^◌, ℕ, zero, suc, true, false, List, [], ◌∷◌, ◌++◌, map, length, slice_get, Some, None, refl, sym, ◌∙◌, ap, subst, arith}
use Rattle.std.specs.Option.{option_map}
use Rattle.std.specs.Str.{bytes_eq}
use Rattle.std.proofs.lemmas.List.{length-append, map-append}
use Rattle.std.proofs.lemmas.Slice.Eq.{bytes_eq-Decides}
use Rattle.term_model.proofs.Lists.{slice_get-last}
use Rattle.rule_model.specs.Proofs.{Step, ProofItems}
use Rattle.rule_model.specs.Scopes.{Nesting, outermost, inside, at, scope_number, next_index, next_scope}
use Rattle.rule_model.specs.Commands.{closing, lines_to}
use Rattle.rule_model.specs.WellFormed.{MayOpen, MayClose, AreWellFormed}
use Rattle.rule_model.specs.Writing.{is_open_id, open_anchor, close_scope, take_step, MayTake}
use Rattle.rule_model.proofs.Writing.{lines_open, lines_close, scopes_close, same_nesting}
use Rattle.proof_store.specs.declared.commands.NewCommand.{NewCommand}
use Rattle.proof_store.specs.declared.drafts.Draft.{Draft}
use Rattle.proof_store.specs.Steps.{anchor_with}
use Rattle.proof_store.specs.StoredScopes.{scope_with}
use Rattle.proof_store.specs.Events.{opened, apply}
use Rattle.proof_store.specs.Drafts.{event_of, step_of, anchors_of, events_from, fresh_in, proof_of, kept, IsAnchored, AreAnchored, IsDraft, with_command, step_of_new, Writes}
use Rattle.proof_store.proofs.EventLemmas.{events_open, anchors_push, anchors_count, written_more}
use Rattle.proof_store.proofs.DraftLemmas.{command_count, anchored_stays, lines_stay, push_keeps, proof_more, draft_more}
use Rattle.proof_store.proofs.WritingLemmas.{scope_count, stored_in, step_same}

-- the scope around the one that is written, where one is open
abbrev pub owner_of : Nesting ℕ ℕ → ℕ
owner_of outermost = 0
owner_of (inside around before anchor) = scope_number around

-- a step with the id of the open anchor closes the scope
close_at : (d : Draft) (nesting : Nesting ℕ ℕ) (items : ProofItems ℕ ℕ) (c : NewCommand) → proof_of d ≡ at nesting items → IsDraft d (at nesting items) → is_open_id nesting c.id.now ≡ true → MayTake (at nesting items) (step_of_new c) → suc (length d.commands) < 2 ^ 32 - 1 → Writes (record (with_command d (stored_in c [] d.here d.pending true) (owner_of nesting)) { here = owner_of nesting }) (take_step (at nesting items) (step_of_new c))
close_at d outermost items c is h same may few = absurd (cc)
close_at d (inside around before anchor) items c is h same may few =
    let scope = at (inside around before anchor) items in
    let s = step_of_new c in
    let e : s.id ≡ anchor.id = (bytes_eq-Decides c.id.now anchor.id).0 same in
    let closes = may.closing same in
    let kept_step = stored_in c [] d.here d.pending true in
    let nest = same_nesting around before anchor s e in
    let event = step_same c [] d.here d.pending true closes.rule in
    rw same (record {
      proof = proof_more d scope kept_step (scope_number around) (scope_number around) h refl
          ∙ (ap (λ p. apply p (event_of kept_step)) is
          ∙ ap (λ (t : Step ℕ). close_scope (inside around before anchor) items (record t { id = anchor.id })) event
          ∙ ap (λ id. close_scope (inside around before anchor) items (record s { id = id })) (sym e));
      draft = draft_more d scope (close_scope (inside around before anchor) items s) kept_step (scope_number around) (scope_number around)
          (record { scope = scope; command = closing s }) h refl refl
          (rw event (ap (λ n. record { step = record s { id = [] }; inner = n; closes = true }) h.here))
          (lines_close around before anchor items s e)
          (scopes_close around before anchor items s e)
          h.open_scopes.0 h.placed.0 (
            h.placed.1,
            subst (λ id. MayOpen around before (record { id = id; bindings = anchor.bindings })) (sym e) h.placed.2,
            subst (λ n. AreWellFormed n items) (sym nest) h.formed,
            subst (λ n. MayClose around before n items s) (sym nest) closes,
          )
          refl few;
    })

pub close_writes : (d : Draft) (c : NewCommand) → IsDraft d (proof_of d) → is_open_id (proof_of d).nesting c.id.now ≡ true → MayTake (proof_of d) (step_of_new c) → suc (next_index (proof_of d)) < 2 ^ 32 - 1 → Writes (record (with_command d (stored_in c [] d.here d.pending true) (owner_of (proof_of d).nesting)) { here = owner_of (proof_of d).nesting }) (take_step (proof_of d) (step_of_new c))
close_writes d c h same may few =
    let count = command_count d (proof_of d) h in
    close_at d (proof_of d).nesting (proof_of d).items c refl h same may (omega arith)

-- the scope around stands at the scope's number
owner_at : (d : Draft) (nesting : Nesting ℕ ℕ) (items : ProofItems ℕ ℕ) → IsDraft d (at nesting items) → 0 < d.here → option_map (λ s. s.entry.parent) (slice_get d.scopes d.here) ≡ Some (Some (owner_of nesting))
owner_at d outermost items h there = let here = h.here in absurd (omega arith)
owner_at d (inside around before anchor) items h there = rw h.here h.open_scopes.1.parent

pub owner_is : (d : Draft) → IsDraft d (proof_of d) → 0 < d.here → option_map (λ s. s.entry.parent) (slice_get d.scopes d.here) ≡ Some (Some (owner_of (proof_of d).nesting))
owner_is d h there = owner_at d (proof_of d).nesting (proof_of d).items h there

owner_below : (nesting : Nesting ℕ ℕ) (items : ProofItems ℕ ℕ) → owner_of nesting < next_scope (at nesting items)
owner_below outermost items = omega arith
owner_below (inside around before anchor) items = omega arith

pub owner_within : (d : Draft) → IsDraft d (proof_of d) → owner_of (proof_of d).nesting < length d.scopes
owner_within d h = rw (scope_count d (proof_of d) h) (owner_below (proof_of d).nesting (proof_of d).items)

-- the id of the innermost open anchor stands at its scope's number
open_at : (d : Draft) (nesting : Nesting ℕ ℕ) (items : ProofItems ℕ ℕ) (id x : List ℕ) → IsDraft d (at nesting items) → 0 < d.here → option_map (λ s. s.id) (slice_get d.scopes d.here) ≡ Some x → is_open_id nesting id ≡ bytes_eq id x
open_at d outermost items id x h there at = let here = h.here in absurd (omega arith)
open_at d (inside around before anchor) items id x h there at =
    let own : option_map (λ s. s.id) (slice_get d.scopes d.here) ≡ Some anchor.id = rw h.here h.open_scopes.1.id in
    let same : anchor.id ≡ x = some_same (sym own ∙ at) in
    ap (bytes_eq id) same
  where
    some_same : {x y : List ℕ} → Some x ≡ Some y → x ≡ y
    some_same e = cc

pub open_id_is : (d : Draft) (id x : List ℕ) → IsDraft d (proof_of d) → 0 < d.here → option_map (λ s. s.id) (slice_get d.scopes d.here) ≡ Some x → is_open_id (proof_of d).nesting id ≡ bytes_eq id x
open_id_is d id x h there at = open_at d (proof_of d).nesting (proof_of d).items id x h there at

shut_at : (d : Draft) (nesting : Nesting ℕ ℕ) (items : ProofItems ℕ ℕ) (id : List ℕ) → IsDraft d (at nesting items) → d.here ≡ 0 → is_open_id nesting id ≡ false
shut_at d outermost items id h e = refl
shut_at d (inside around before anchor) items id h e = let here = h.here in absurd (omega arith)

pub shut_is : (d : Draft) (id : List ℕ) → IsDraft d (proof_of d) → d.here ≡ 0 → is_open_id (proof_of d).nesting id ≡ false
shut_is d id h e = shut_at d (proof_of d).nesting (proof_of d).items id h e

-- an anchor opens a scope
abbrev pub opened_draft : Draft → List ℕ → List (ℕ × ℕ) → Draft
opened_draft d id bindings = record {
  commands = d.commands;
  scopes = d.scopes ++ scope_with d.here id bindings None ∷ [];
  here = length d.scopes;
  pending = d.pending + 1;
}

pub open_writes : (d : Draft) (id : List ℕ) (bindings : List (ℕ × ℕ)) → IsDraft d (proof_of d) → MayOpen (proof_of d).nesting (proof_of d).items (anchor_with id bindings) → suc (next_scope (proof_of d)) < 2 ^ 32 - 1 → Writes (opened_draft d id bindings) (open_anchor (proof_of d) (anchor_with id bindings))
open_writes d id bindings h may few =
    let scope = proof_of d in
    let anchor = anchor_with id bindings in
    let stored = scope_with d.here id bindings None in
    let count = scope_count d scope h in
    let some : suc zero ≤ length d.scopes = omega arith in
    let anchors = anchors_count d.scopes some in
    let pending : fresh_in d.commands ≤ length (anchors_of d.scopes) = let n = h.fresh in omega arith in
    let number : scope_number (inside scope.nesting scope.items anchor) ≡ length d.scopes = omega arith in
    let keeps = push_keeps d.scopes stored in
    let here = slice_get-last d.scopes stored in
    record {
      proof = rw (anchors_push d.scopes stored some, events_open (anchors_of d.scopes) anchor d.commands pending) (written_more (events_from (anchors_of d.scopes) d.commands) (opened anchor));
      draft = record {
        commands = h.commands ∙ ap (map Rattle.proof_store.specs.Drafts.kept_of) (sym (lines_open scope anchor));
        scopes = map-append (λ s. s.entry) d.scopes (stored ∷ []) ∙ rw (h.scopes, h.here) refl;
        lines = subst (Rattle.std.specs.List.AllByRecursion (λ l. AreAnchored (d.scopes ++ stored ∷ []) l.scope.nesting)) (sym (lines_open scope anchor)) (lines_stay d.scopes _ (lines_to scope) keeps h.lines);
        open_scopes = (anchored_stays d.scopes _ scope.nesting keeps h.open_scopes, record { id = rw (number, here) refl; parent = rw (number, here) (ap (λ n. Some (Some n)) h.here) });
        here = sym number;
        fresh = let n = h.fresh in let one = length-append d.scopes (stored ∷ []) in omega arith;
        placed = (h.placed, h.formed, may);
        formed = tt;
        few_commands = h.few_commands;
        few_scopes = let one = length-append d.scopes (stored ∷ []) in omega arith;
      };
    }

pub scope_index : (d : Draft) → IsDraft d (proof_of d) → length d.scopes ≡ next_scope (proof_of d)
scope_index d h = scope_count d (proof_of d) h

pub pending_below : (d : Draft) → IsDraft d (proof_of d) → d.pending < length d.scopes
pending_below d h = let n = h.fresh in omega arith

-- where an anchor is open, the scope that is written is not the outermost one
nested : (nesting : Nesting ℕ ℕ) (id : List ℕ) → is_open_id nesting id ≡ true → 0 < scope_number nesting
nested outermost id e = absurd (cc)
nested (inside around before anchor) id e = omega arith

pub opened_here : (d : Draft) (id : List ℕ) → IsDraft d (proof_of d) → is_open_id (proof_of d).nesting id ≡ true → 0 < d.here
opened_here d id h e = rw h.here (nested (proof_of d).nesting id e)

pub ruleset scope_closed = (close_writes, owner_is, owner_within, opened_here)
