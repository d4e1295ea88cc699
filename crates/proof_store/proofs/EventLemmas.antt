-- The events that flat arrays have, as commands and scopes are added.
use Rattle.std.proofs.Common.{◌≡◌, ◌≤◌, ◌+◌, ℕ, zero, suc, List, [], ◌∷◌, ◌++◌, map, take, drop, length, refl, sym, ap, arith}
use Rattle.std.proofs.lemmas.List.{append_assoc, map-append, take-append-le, drop-append-le, length-drop, length-map}
use Rattle.std.proofs.Math.Seq.{take-length, drop-length}
use Rattle.rule_model.specs.Scopes.{Anchor}
use Rattle.rule_model.specs.Writing.{unwritten}
use Rattle.proof_store.specs.Stored.{Stored}
use Rattle.proof_store.specs.StoredScopes.{StoredScope, with_last}
use Rattle.proof_store.specs.Events.{Event, opened, apply, written, fold_append}
use Rattle.proof_store.specs.Drafts.{event_of, anchor_of, anchors_of, events_from, fresh_in}

-- an anchor is opened behind all
pub events_open : (anchors : List (Anchor ℕ ℕ)) (a : Anchor ℕ ℕ) (cs : List Stored) → fresh_in cs ≤ length anchors → events_from (anchors ++ a ∷ []) cs ≡ events_from anchors cs ++ opened a ∷ []
events_open anchors a [] h = map-append opened anchors (a ∷ [])
events_open anchors a (c ∷ cs) h =
    let rest : fresh_in cs ≤ length (drop c.fresh anchors) = rw (length-drop c.fresh anchors) (omega arith) in
    rw (take-append-le c.fresh anchors (a ∷ []) (omega arith), drop-append-le c.fresh anchors (a ∷ []) (omega arith), events_open (drop c.fresh anchors) a cs rest)
    (sym (append_assoc (map opened (take c.fresh anchors)) (event_of c ∷ events_from (drop c.fresh anchors) cs) (opened a ∷ [])))

-- a command is added behind all
pub events_push : (anchors : List (Anchor ℕ ℕ)) (cs : List Stored) (c : Stored) → fresh_in cs + c.fresh ≡ length anchors → events_from anchors (cs ++ c ∷ []) ≡ events_from anchors cs ++ event_of c ∷ []
events_push anchors [] c h =
    let all : c.fresh ≡ length anchors = omega arith in
    rw (all, take-length anchors, drop-length anchors) refl
events_push anchors (first ∷ cs) c h =
    let rest : fresh_in cs + c.fresh ≡ length (drop first.fresh anchors) = rw (length-drop first.fresh anchors) (omega arith) in
    rw (events_push (drop first.fresh anchors) cs c rest)
    (sym (append_assoc (map opened (take first.fresh anchors)) (event_of first ∷ events_from (drop first.fresh anchors) cs) (event_of c ∷ [])))

pub fresh_push : (cs : List Stored) (c : Stored) → fresh_in (cs ++ c ∷ []) ≡ fresh_in cs + c.fresh
fresh_push [] c = omega arith
fresh_push (first ∷ cs) c = let ih = fresh_push cs c in omega arith

-- another last command changes no anchor
pub anchors_last : (k i : ℕ) (scopes : List StoredScope) → anchors_of (with_last k i scopes) ≡ anchors_of scopes
anchors_last k i [] = refl
anchors_last zero i (s ∷ scopes) = refl
anchors_last (suc k) i (s ∷ scopes) = same k scopes
  where
    same : (k : ℕ) (ss : List StoredScope) → map anchor_of (with_last k i ss) ≡ map anchor_of ss
    same k [] = refl
    same zero (s ∷ ss) = refl
    same (suc k) (s ∷ ss) = ap (λ l. anchor_of s ∷ l) (same k ss)

pub anchors_push : (scopes : List StoredScope) (s : StoredScope) → suc zero ≤ length scopes → anchors_of (scopes ++ s ∷ []) ≡ anchors_of scopes ++ anchor_of s ∷ []
anchors_push [] s h = absurd (omega arith)
anchors_push (first ∷ scopes) s h = map-append anchor_of scopes (s ∷ [])

pub anchors_count : (scopes : List StoredScope) → suc zero ≤ length scopes → suc (length (anchors_of scopes)) ≡ length scopes
anchors_count [] h = absurd (omega arith)
anchors_count (first ∷ scopes) h = ap suc (length-map scopes anchor_of)

-- one event more
pub written_more : (es : List Event) (e : Event) → written (es ++ e ∷ []) ≡ apply (written es) e
written_more es e = fold_append unwritten es (e ∷ [])
