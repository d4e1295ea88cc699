-- Private. Fillers in their order as seats.
use Rattle.std.proofs.Common.{arith, ap, sym, get_or, ◌≡◌, refl, ◌+◌, ◌-◌, ◌<◌, ◌==◌, not, ℕ, zero, suc, Bool, true, false, List, [], ◌∷◌, length, filter}
use Rattle.std.proofs.Common.{slice_get, slice_set, Option, Some, None, IfSome, Result, Ok, Err, IfOk, OnErr, Vec}
use Rattle.std.specs.declared.alloc.Global.{Global}
use Rattle.fillers.specs.declared.filler.FillStop.{FillStop}
use Rattle.fillers.specs.Books.{Exchange, with_exchange, reply_bytes}
use Rattle.hole_fillers.specs.Benches.{Seat, seats, with_budget, spent, asked_seat, IsAsked}

one_less : {F : Type 0} (budget : F → ℕ) (old new : F) → budget old ≡ budget new + 1 → budget new ≡ budget old - 1
one_less budget old new less = omega arith

later : (s : Seat) (ss new : List Seat) (i : ℕ) (q : List ℕ) (r : Option (List ℕ)) → IsAsked ss new i q r →
    IsAsked (s ∷ ss) (s ∷ new) (suc i) q r
later s ss new i q r h = go (slice_get ss i) h
  where
    go : (at : Option Seat) → IfSome at (λ t. new ≡ slice_set ss i (asked_seat t q r)) → IfSome at (λ t. s ∷ new ≡ s ∷ slice_set ss i (asked_seat t q r))
    go None h = tt
    go (Some t) h = ap (λ n. s ∷ n) h

is_asked :
    {F : Type 0} (budget : F → ℕ) (book : F → List Exchange) (fs : List F) (i : ℕ) (old new : F) (q : List ℕ) (r : Option (List ℕ)) →
    slice_get fs i ≡ Some old → budget old ≡ budget new + 1 → book new ≡ with_exchange (book old) q r →
    IsAsked (seats budget book fs) (seats budget book (slice_set fs i new)) i q r
is_asked budget book [] i old new q r at less more = absurd cc
is_asked budget book (f ∷ fs) zero old new q r at less more =
    let e : f ≡ old = cc in
    rw (e, one_less budget old new less, more) refl
is_asked budget book (f ∷ fs) (suc i) old new q r at less more = later _ (seats budget book fs) _ i q r (is_asked budget book fs i old new q r at less more)

is_kept :
    {F : Type 0} (budget : F → ℕ) (book : F → List Exchange) (fs : List F) (i : ℕ) (old new : F) →
    slice_get fs i ≡ Some old → budget new ≡ budget old → book new ≡ book old →
    seats budget book (slice_set fs i new) ≡ seats budget book fs
is_kept budget book [] i old new at less more = refl
is_kept budget book (f ∷ fs) zero old new at less more =
    let e : f ≡ old = cc in
    rw (e, less, more) refl
is_kept budget book (f ∷ fs) (suc i) old new at less more =
    ap (λ ss. record { budget = budget f; book = book f } ∷ ss) (is_kept budget book fs i old new at less more)

kept_seats :
    {F : Type 0} (budget : F → ℕ) (book : F → List Exchange) (fs : List F) →
    seats budget book (filter (λ f. not (budget f == 0)) fs) ≡ with_budget (seats budget book fs)
kept_seats budget book [] = refl
kept_seats budget book (f ∷ fs) = go (budget f == 0) refl (kept_seats budget book fs)
  where
    go : (b : Bool) → (budget f == 0) ≡ b → seats budget book (filter (λ f. not (budget f == 0)) fs) ≡ with_budget (seats budget book fs) →
        seats budget book (filter (λ f. not (budget f == 0)) (f ∷ fs)) ≡ with_budget (seats budget book (f ∷ fs))
    go true e h = rw e h
    go false e h = rw e (ap (λ ss. record { budget = budget f; book = book f } ∷ ss) h)

pub spent_seats :
    {F : Type 0} (budget : F → ℕ) (book : F → List Exchange) (fs : List F) →
    length (filter (λ f. not (budget f == 0)) fs) + spent (seats budget book fs) ≡ length fs
spent_seats budget book [] = refl
spent_seats budget book (f ∷ fs) = go (budget f == 0) refl (spent_seats budget book fs)
  where
    go : (b : Bool) → (budget f == 0) ≡ b →
        length (filter (λ f. not (budget f == 0)) fs) + spent (seats budget book fs) ≡ length fs →
        length (filter (λ f. not (budget f == 0)) (f ∷ fs)) + spent (seats budget book (f ∷ fs)) ≡ suc (length fs)
    go true e h = rw e (omega (arith, h))
    go false e h = rw e (omega (arith, h))

pub kept_after :
    {F : Type 0} (budget : F → ℕ) (book : F → List Exchange) (fs gs : List F) → gs ≡ filter (λ f. not (budget f == 0)) fs →
    seats budget book gs ≡ with_budget (seats budget book fs)
kept_after budget book fs gs e = rw e (kept_seats budget book fs)

at_place :
    {F : Type 0} (budget : F → ℕ) (book : F → List Exchange) (fs : List F) (i : ℕ) (old d : F) → i < length (seats budget book fs) →
    old ≡ get_or fs i d → slice_get fs i ≡ Some old
at_place budget book [] i old d less at = absurd (omega (arith, less))
at_place budget book (f ∷ fs) zero old d less at = ap Some (sym at)
at_place budget book (f ∷ fs) (suc i) old d less at = at_place budget book fs i old d (omega (arith, less)) at

pub asked_result :
    {F : Type 0} (budget : F → ℕ) (book : F → List Exchange) (fs : List F) (i : ℕ) (old new : F) (q : List ℕ)
    (d : F) (result : Result (Option (Vec ℕ Global)) FillStop) → i < length (seats budget book fs) → old ≡ get_or fs i d →
    IfOk result (λ r. budget old ≡ budget new + 1) → IfOk result (λ r. book new ≡ with_exchange (book old) q (reply_bytes r)) →
    IfOk result (λ r. IsAsked (seats budget book fs) (seats budget book (slice_set fs i new)) i q (reply_bytes r))
asked_result budget book fs i old new q d (Ok r) inside at less more =
    is_asked budget book fs i old new q (reply_bytes r) (at_place budget book fs i old d inside at) less more
asked_result budget book fs i old new q d (Err e) inside at less more = tt

pub kept_result :
    {F : Type 0} (budget : F → ℕ) (book : F → List Exchange) (fs : List F) (i : ℕ) (old new : F)
    (d : F) (result : Result (Option (Vec ℕ Global)) FillStop) → i < length (seats budget book fs) → old ≡ get_or fs i d →
    OnErr result (budget new ≡ budget old) → OnErr result (book new ≡ book old) →
    OnErr result (seats budget book (slice_set fs i new) ≡ seats budget book fs)
kept_result budget book fs i old new d (Ok r) inside at less more = tt
kept_result budget book fs i old new d (Err e) inside at less more =
    is_kept budget book fs i old new (at_place budget book fs i old d inside at) less more
