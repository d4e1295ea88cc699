-- What holds of a draft, as commands and scopes are added.
use Rattle.std.proofs.Common.{◌≡◌, ◌≤◌, ◌<◌, ◌+◌, ◌-◌, ◌^◌, ℕ, zero, suc, List, [], ◌∷◌, ◌++◌, map, length, slice_get, Option, Some, refl, sym, ◌∙◌, ap, subst, arith}
use Rattle.std.specs.List.{AllByRecursion}
use Rattle.std.specs.Option.{option_map}
use Rattle.std.proofs.lemmas.List.{length-append, length-map, map-append}
use Rattle.rule_model.specs.Scopes.{Nesting, outermost, inside, Scope, scope_number, next_index}
use Rattle.rule_model.specs.Commands.{Line, lines_to, scopes_to}
use Rattle.rule_model.specs.WellFormed.{AreWellFormed, IsWellPlaced}
use Rattle.rule_model.proofs.Numbers.{lines_count}
use Rattle.rule_model.proofs.Writing.{entry_last}
use Rattle.proof_store.specs.declared.drafts.Draft.{Draft}
use Rattle.proof_store.specs.Stored.{Stored}
use Rattle.proof_store.specs.StoredScopes.{StoredScope, with_last}
use Rattle.proof_store.specs.Events.{apply}
use Rattle.proof_store.specs.Drafts.{event_of, anchors_of, events_from, fresh_in, proof_of, kept, kept_of, AreAnchored, IsDraft, with_command}
use Rattle.proof_store.proofs.EventLemmas.{events_push, fresh_push, anchors_last, anchors_count, written_more}

-- as many commands are kept as there are
pub command_count : (d : Draft) (scope : Scope ℕ ℕ) → IsDraft d scope → length d.commands ≡ next_index scope
command_count d scope h =
    sym (length-map d.commands kept) ∙ (ap length h.commands ∙ (length-map (lines_to scope) kept_of ∙ lines_count scope))

-- scopes keep their anchors and parents
abbrev pub KeepAnchors : List StoredScope → List StoredScope → Type 0
KeepAnchors old new =
    (k : ℕ) (id : List ℕ) (parent : Option ℕ) → option_map (λ s. s.id) (slice_get old k) ≡ Some id → option_map (λ s. s.entry.parent) (slice_get old k) ≡ Some parent → (option_map (λ s. s.id) (slice_get new k) ≡ Some id) × (option_map (λ s. s.entry.parent) (slice_get new k) ≡ Some parent)

pub anchored_stays : (old new : List StoredScope) (nesting : Nesting ℕ ℕ) → KeepAnchors old new → AreAnchored old nesting → AreAnchored new nesting
anchored_stays old new outermost keeps h = tt
anchored_stays old new (inside around before anchor) keeps h =
    let own = keeps (scope_number (inside around before anchor)) anchor.id (Some (scope_number around)) h.1.id h.1.parent in
    (anchored_stays old new around keeps h.0, record { id = own.0; parent = own.1 })

pub lines_stay : (old new : List StoredScope) (lines : List (Line ℕ ℕ)) → KeepAnchors old new → AllByRecursion (λ line. AreAnchored old line.scope.nesting) lines → AllByRecursion (λ line. AreAnchored new line.scope.nesting) lines
lines_stay old new [] keeps h = tt
lines_stay old new (line ∷ lines) keeps h = (anchored_stays old new line.scope.nesting keeps h.0, lines_stay old new lines keeps h.1)

pub last_keeps : (k i : ℕ) (scopes : List StoredScope) → KeepAnchors scopes (with_last k i scopes)
last_keeps k i [] j id parent e f = (e, f)
last_keeps zero i (s ∷ scopes) zero id parent e f = (e, f)
last_keeps zero i (s ∷ scopes) (suc j) id parent e f = (e, f)
last_keeps (suc k) i (s ∷ scopes) zero id parent e f = (e, f)
last_keeps (suc k) i (s ∷ scopes) (suc j) id parent e f = last_keeps k i scopes j id parent e f

pub push_keeps : (scopes : List StoredScope) (s : StoredScope) → KeepAnchors scopes (scopes ++ s ∷ [])
push_keeps [] s k id parent e f = absurd (cc)
push_keeps (first ∷ scopes) s zero id parent e f = (e, f)
push_keeps (first ∷ scopes) s (suc k) id parent e f = push_keeps scopes s k id parent e f

pub last_count : (k i : ℕ) (scopes : List StoredScope) → length (with_last k i scopes) ≡ length scopes
last_count k i [] = refl
last_count zero i (s ∷ scopes) = refl
last_count (suc k) i (s ∷ scopes) = ap suc (last_count k i scopes)

last_entries : (k i : ℕ) (scopes : List StoredScope) → map (λ s. s.entry) (with_last k i scopes) ≡ entry_last k i (map (λ s. s.entry) scopes)
last_entries k i [] = refl
last_entries zero i (s ∷ scopes) = refl
last_entries (suc k) i (s ∷ scopes) = ap (λ l. s.entry ∷ l) (last_entries k i scopes)

pub all_push : (P : Line ℕ ℕ → Type 0) (lines : List (Line ℕ ℕ)) (line : Line ℕ ℕ) → AllByRecursion P lines → P line → AllByRecursion P (lines ++ line ∷ [])
all_push P [] line h p = (p, tt)
all_push P (first ∷ lines) line h p = (h.0, all_push P lines line h.1 p)

-- a command is added: its event is applied
pub proof_more : (d : Draft) (scope : Scope ℕ ℕ) (c : Stored) (owner here : ℕ) → IsDraft d scope → c.fresh ≡ d.pending → proof_of (record (with_command d c owner) { here = here }) ≡ apply (proof_of d) (event_of c)
proof_more d scope c owner here h f =
    let some : suc zero ≤ length d.scopes = let n = h.fresh in omega arith in
    let count = anchors_count d.scopes some in
    let fresh : fresh_in d.commands + c.fresh ≡ length (anchors_of d.scopes) = let n = h.fresh in omega arith in
    rw (anchors_last owner (length d.commands) d.scopes, events_push (anchors_of d.scopes) d.commands c fresh) (written_more (events_from (anchors_of d.scopes) d.commands) (event_of c))

-- and the arrays have the commands and scopes of the new proof
module _ (d : Draft) (scope next : Scope ℕ ℕ) (c : Stored) (owner here : ℕ) (line : Line ℕ ℕ) (h : IsDraft d scope) where
  pub draft_more : c.fresh ≡ d.pending → line.scope ≡ scope → kept c ≡ kept_of line → lines_to next ≡ lines_to scope ++ line ∷ [] → scopes_to next ≡ entry_last owner (next_index scope) (scopes_to scope) → AreAnchored d.scopes next.nesting → IsWellPlaced next.nesting → AreWellFormed next.nesting next.items → here ≡ scope_number next.nesting → suc (length d.commands) < 2 ^ 32 - 1 → IsDraft (record (with_command d c owner) { here = here }) next
  draft_more f is_here same lines scopes way placed formed now few = record {
    commands = map-append kept d.commands (c ∷ []) ∙ (rw (h.commands, same) (sym (map-append kept_of (lines_to scope) (line ∷ []))) ∙ ap (map kept_of) (sym lines));
    scopes = last_entries owner (length d.commands) d.scopes ∙ (rw (h.scopes, command_count d scope h) refl ∙ sym scopes);
    lines = subst (AllByRecursion (λ l. AreAnchored (with_last owner (length d.commands) d.scopes) l.scope.nesting)) (sym lines)
        (lines_stay d.scopes _ _ (last_keeps owner (length d.commands) d.scopes) (all_push (λ l. AreAnchored d.scopes l.scope.nesting) (lines_to scope) line h.lines (subst (λ s. AreAnchored d.scopes s.nesting) (sym is_here) h.open_scopes)));
    open_scopes = anchored_stays d.scopes _ next.nesting (last_keeps owner (length d.commands) d.scopes) way;
    here = now;
    fresh = let n = h.fresh in let more = fresh_push d.commands c in let count = last_count owner (length d.commands) d.scopes in omega arith;
    placed = placed;
    formed = formed;
    few_commands = let one = length-append d.commands (c ∷ []) in omega arith;
    few_scopes = let n = h.few_scopes in let count = last_count owner (length d.commands) d.scopes in omega arith;
  }
