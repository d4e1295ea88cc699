-- Cited by crates above. Statuses by pieces, and where they stop a check.
use Rattle.std.proofs.Common.{◌≡◌, ◌<◌, ◌≤◌, ◌+◌, inl, inr, ℕ, zero, suc, List, [], ◌∷◌, ◌++◌, length, take, drop, slice_get, slice_index_or, Option, Some, None, IfSome, Vec, All, Contains, refl, sym, ◌∙◌, ap, subst, arith, append_assoc, append-nil}
use Rattle.std.proofs.Math.Numerals.{add-one}
use Rattle.std.proofs.lemmas.List.{length-append, take_all}
use Rattle.std.proofs.lemmas.List.Elements.{All-append, All-from_recursion, recursion_from_All, Contains-append_left, Contains-append_right, Contains-append_cases}
use Rattle.std.specs.List.{AllByRecursion}
use Rattle.std.specs.declared.alloc.Global.{Global}
use Rattle.rule_model.specs.declared.statuses.Status.{Status}
use Rattle.rule_model.specs.declared.statuses.Verdict.{Verdict}
use Rattle.rule_model.specs.Statuses.{Passes, IsFirstAt}
use Rattle.verdict_merge.specs.Pieces.{statuses_of}
use Rattle.verdict_merge.specs.Stops.{StopsBy, IsStop}

-- all statuses: those before a piece, its own, and those behind it
pub split : (pieces : List (Vec Status Global)) (k : ℕ) (piece : Vec Status Global) → k < length pieces → piece ≡ slice_index_or pieces k piece → statuses_of pieces ≡ statuses_of (take k pieces) ++ (piece.items ++ statuses_of (drop (suc k) pieces))
split [] k piece h e = absurd (omega arith)
split (p ∷ pieces) zero piece h e = ap (λ (q : Vec Status Global). q.items ++ statuses_of pieces) (sym e)
split (p ∷ pieces) (suc k) piece h e =
    ap (λ ss. p.items ++ ss) (split pieces k piece (omega arith) e)
    ∙ sym (append_assoc p.items (statuses_of (take k pieces)) (piece.items ++ statuses_of (drop (suc k) pieces)))

next_suc : (pieces : List (Vec Status Global)) (k : ℕ) (piece : Vec Status Global) → k < length pieces → piece ≡ slice_index_or pieces k piece → statuses_of (take (suc k) pieces) ≡ statuses_of (take k pieces) ++ piece.items
next_suc [] k piece h e = absurd (omega arith)
next_suc (p ∷ pieces) zero piece h e =
    append-nil p.items ∙ ap (λ (q : Vec Status Global). q.items) (sym e)
next_suc (p ∷ pieces) (suc k) piece h e =
    ap (λ ss. p.items ++ ss) (next_suc pieces k piece (omega arith) e)
    ∙ sym (append_assoc p.items (statuses_of (take k pieces)) piece.items)

pub next : (pieces : List (Vec Status Global)) (k : ℕ) (piece : Vec Status Global) → k < length pieces → piece ≡ slice_index_or pieces k piece → statuses_of (take (k + 1) pieces) ≡ statuses_of (take k pieces) ++ piece.items
next pieces k piece h e = ap (λ n. statuses_of (take n pieces)) (add-one k) ∙ next_suc pieces k piece h e

-- what holds of the elements up to a place, and of the one there
next_element : {X : Type 0} (P : X → Type 0) (xs : List X) (k : ℕ) (d : X) → k < length xs → AllByRecursion P (take k xs) → P (slice_index_or xs k d) → AllByRecursion P (take (suc k) xs)
next_element P [] k d h all p = absurd (omega arith)
next_element P (x ∷ xs) zero d h all p = (p, tt)
next_element P (x ∷ xs) (suc k) d h all p = (all.0, next_element P xs k d (omega arith) all.1 p)

pub all_next : {X : Type 0} (P : X → Type 0) (xs : List X) (k : ℕ) (d : X) → k < length xs → All P (take k xs) → P (slice_index_or xs k d) → All P (take (k + 1) xs)
all_next P xs k d h all p =
    subst (λ n. All P (take n xs)) (sym (add-one k))
    (All-from_recursion P (take (suc k) xs) (next_element P xs k d h (recursion_from_All P (take k xs) all) p))

-- the first stop of statuses that stand between others
later : (s z : Status) (ss : List Status) (i : ℕ) → Passes s → IsFirstAt ss i z → IsFirstAt (s ∷ ss) (suc i) z
later s z ss i passes h = record { before = before; here = h.here }
  where
    before : (k : ℕ) (x : Status) → k < suc i → slice_get (s ∷ ss) k ≡ Some x → Passes x
    before zero x less e = subst Passes (some_same e) passes
      where
        some_same : {a b : Status} → Some a ≡ Some b → a ≡ b
        some_same e = cc
    before (suc k) x less e = h.before k x (omega arith) e

first_before : (ss zs : List Status) (i : ℕ) (z : Status) → IsFirstAt ss i z → IsFirstAt (ss ++ zs) i z
first_before [] zs i z h = absurd (none h.here)
  where
    none : None ≡ Some z → ⊥
    none e = cc
first_before (s ∷ ss) zs zero z h = record { before = λ k x less e. absurd (omega arith); here = h.here }
first_before (s ∷ ss) zs (suc i) z h =
    later s z (ss ++ zs) i (h.before 0 s (omega arith) refl)
    (first_before ss zs i z (record { before = λ k x less e. h.before (suc k) x (omega arith) e; here = h.here }))

first_behind : (ss zs : List Status) (i : ℕ) (z : Status) → AllByRecursion Passes ss → IsFirstAt zs i z → IsFirstAt (ss ++ zs) (length ss + i) z
first_behind [] zs i z all h = let same : i ≡ 0 + i = omega arith in subst (λ k. IsFirstAt zs k z) same h
first_behind (s ∷ ss) zs i z all h =
    let same : suc (length ss + i) ≡ length (s ∷ ss) + i = omega arith in
    subst (λ k. IsFirstAt (s ∷ (ss ++ zs)) k z) same (later s z (ss ++ zs) (length ss + i) all.0 (first_behind ss zs i z all.1 h))

-- a stop of a piece is one of all statuses
pub stop_of_piece : (pieces : List (Vec Status Global)) (k : ℕ) (piece : Vec Status Global) (first : ℕ) (verdict : Option Verdict) → k < length pieces → piece ≡ slice_index_or pieces k piece → first ≡ length (statuses_of (take k pieces)) → All Passes (statuses_of (take k pieces)) → IfSome verdict (IsStop piece.items first) → IfSome verdict (IsStop (statuses_of pieces) 0)
stop_of_piece pieces k piece first None h e n all stop = stop
stop_of_piece pieces k piece first (Some verdict) h e n all stop =
    let before = statuses_of (take k pieces) in
    let place : first + stop.place ≡ 0 + (length before + stop.place) = omega arith in
    record {
      place = length before + stop.place;
      status = stop.status;
      is_first = subst (λ ss. IsFirstAt ss (length before + stop.place) stop.status) (sym (split pieces k piece h e))
          (first_behind before (piece.items ++ statuses_of (drop (suc k) pieces)) stop.place stop.status (recursion_from_All Passes before all)
          (first_before piece.items (statuses_of (drop (suc k) pieces)) stop.place stop.status stop.is_first));
      decides = subst (λ i. StopsBy stop.status i verdict) place stop.decides;
    }

-- how many statuses there are
pub piece_within : (pieces : List (Vec Status Global)) (k : ℕ) (piece : Vec Status Global) → k < length pieces → piece ≡ slice_index_or pieces k piece → length (statuses_of (take k pieces)) + length piece.items ≤ length (statuses_of pieces)
piece_within pieces k piece h e =
    let before = statuses_of (take k pieces) in
    let after = statuses_of (drop (suc k) pieces) in
    let whole = ap length (split pieces k piece h e) ∙ (length-append before (piece.items ++ after) ∙ ap (λ n. length before + n) (length-append piece.items after)) in
    omega arith

pub next_length : (pieces : List (Vec Status Global)) (k : ℕ) (piece : Vec Status Global) → k < length pieces → piece ≡ slice_index_or pieces k piece → length (statuses_of (take (k + 1) pieces)) ≡ length (statuses_of (take k pieces)) + length piece.items
next_length pieces k piece h e =
    ap length (next pieces k piece h e) ∙ length-append (statuses_of (take k pieces)) piece.items

pub next_passes : (pieces : List (Vec Status Global)) (k : ℕ) (piece : Vec Status Global) → k < length pieces → piece ≡ slice_index_or pieces k piece → All Passes (statuses_of (take k pieces)) → All Passes piece.items → All Passes (statuses_of (take (k + 1) pieces))
next_passes pieces k piece h e all own =
    subst (All Passes) (sym (next pieces k piece h e)) (All-append Passes (statuses_of (take k pieces)) piece.items all own)

-- holes
pub hole_of_piece : (pieces : List (Vec Status Global)) (k : ℕ) (piece : Vec Status Global) → k < length pieces → piece ≡ slice_index_or pieces k piece → Contains piece.items Status.Hole → Contains (statuses_of pieces) Status.Hole
hole_of_piece pieces k piece h e has =
    subst (λ ss. Contains ss Status.Hole) (sym (split pieces k piece h e))
    (Contains-append_right (statuses_of (take k pieces)) _ Status.Hole (Contains-append_left piece.items (statuses_of (drop (suc k) pieces)) Status.Hole has))

pub no_hole_next : (pieces : List (Vec Status Global)) (k : ℕ) (piece : Vec Status Global) → k < length pieces → piece ≡ slice_index_or pieces k piece → ¬ Contains (statuses_of (take k pieces)) Status.Hole → ¬ Contains piece.items Status.Hole → ¬ Contains (statuses_of (take (k + 1) pieces)) Status.Hole
no_hole_next pieces k piece h e none own has =
    elim (Contains-append_cases (statuses_of (take k pieces)) piece.items Status.Hole (subst (λ ss. Contains ss Status.Hole) (next pieces k piece h e) has)) [ inl a ↦ none a | inr b ↦ own b ]

pub whole : (pieces : List (Vec Status Global)) (k : ℕ) → length pieces ≤ k → statuses_of (take k pieces) ≡ statuses_of pieces
whole pieces k h = ap statuses_of (take_all k pieces h)
