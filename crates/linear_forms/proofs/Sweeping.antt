-- Sweeps over numbered nodes keep totals, and never make loads greater.
use Rattle.std.proofs.Common.{◌≡◌, ◌≢◌, ◌⊎◌, inl, inr, ℕ, zero, suc, ◌+◌, ◌*◌, ◌<◌, ◌≤◌, ◌^◌, ℤ, pos, negsuc, ◌+ℤ◌, ◌*ℤ◌, unsigned_abs, List, [], ◌∷◌, ◌++◌, All, length, slice_index_or, slice_set, FitsSigned, refl, sym, ap, ◌∙◌, subst, arith}
use Rattle.std.proofs.Math.Nat.{mul-le-mul, mul-add}
use Rattle.std.proofs.Math.IntN.{zero-*ℤ}
use Rattle.std.proofs.lemmas.Int.{ints, unsigned_abs-mul}
use Rattle.std.proofs.lemmas.List.Elements.{All-head, All-tail, All-push, All-weaker}
use Rattle.rule_model.proofs.Ring.{mul-add as int_mul-add, add-mul, mul_assoc}
use Rattle.linear_forms.specs.declared.nodes.Node.{Node}
use Rattle.linear_forms.specs.declared.nodes.Node.TheVariants.{Number, Opaque, Multiple, Sum}
use Rattle.linear_forms.specs.declared.nodes.Coefficient.{Coefficient}
use Rattle.linear_forms.specs.Factors.{added, total, load, total_value, sizes_of, CountsUnits, IsWeighed, IsAbove, HasRoomToPass}
use Rattle.linear_forms.specs.Sweeps.{node_at, factor_at, SweepState, AreOrdered, AreWeighed, load_in, total_in, without, after_turn, IsNodeSwept, CanSettle, IsOpaqueFrom, HaveOwnNodes, AreOfDifferentTerms, IsSweeping, starting, CanSweep, IsSwept}
use Rattle.linear_forms.proofs.Passing.{total_added, load_added, added_length, part_load, times_le}

-- a factor that is taken
total_taken : (v : ℕ → ℤ) (fs : List ℤ) (k : ℕ) → k < length fs → total v fs ≡ factor_at fs k *ℤ v k +ℤ total v (slice_set fs k (pos 0))
total_taken v [] k h = absurd (omega (arith, h))
total_taken v (f ∷ fs) zero h = omega (arith, ints, zero-*ℤ (v 0))
total_taken v (f ∷ fs) (suc k) h = omega (arith, ints, total_taken (λ i. v (suc i)) fs k (omega (arith, h)))

load_taken : (w : ℕ → ℕ) (fs : List ℤ) (k : ℕ) → k < length fs → load w fs ≡ unsigned_abs (factor_at fs k) * w k + load w (slice_set fs k (pos 0))
load_taken w [] k h = absurd (omega (arith, h))
load_taken w (f ∷ fs) zero h = omega arith
load_taken w (f ∷ fs) (suc k) h = omega (arith, load_taken (λ i. w (suc i)) fs k (omega (arith, h)))

set_length : (fs : List ℤ) (k : ℕ) (z : ℤ) → length (slice_set fs k z) ≡ length fs
set_length [] k z = refl
set_length (f ∷ fs) zero z = refl
set_length (f ∷ fs) (suc k) z = ap suc (set_length fs k z)

set_same : (fs : List ℤ) (k : ℕ) → factor_at (slice_set fs k (pos 0)) k ≡ pos 0
set_same [] k = refl
set_same (f ∷ fs) zero = refl
set_same (f ∷ fs) (suc k) = set_same fs k

set_other : (fs : List ℤ) (k j : ℕ) (z : ℤ) → k < j → factor_at (slice_set fs k z) j ≡ factor_at fs j
set_other [] k j z h = refl
set_other (f ∷ fs) k zero z h = absurd (omega (arith, h))
set_other (f ∷ fs) zero (suc j) z h = refl
set_other (f ∷ fs) (suc k) (suc j) z h = set_other fs k j z (omega (arith, h))

past : (fs : List ℤ) (j : ℕ) → length fs ≤ j → factor_at fs j ≡ pos 0
past [] j h = refl
past (f ∷ fs) zero h = absurd (omega (arith, h))
past (f ∷ fs) (suc j) h = past fs j (omega (arith, h))

total_none : (v : ℕ → ℤ) (fs : List ℤ) → ((j : ℕ) → factor_at fs j ≡ pos 0) → total v fs ≡ pos 0
total_none v [] h = refl
total_none v (f ∷ fs) h =
    let here : f ≡ pos 0 = h 0 in
    omega (arith, ints, ap (λ x. x *ℤ v 0) here, zero-*ℤ (v 0), total_none (λ i. v (suc i)) fs (λ j. h (suc j)))

-- coefficients, and one more
total_push : (o : ℕ → ℤ) (cs : List Coefficient) (c : Coefficient) → total_value o (cs ++ c ∷ []) ≡ c.number *ℤ o c.term +ℤ total_value o cs
total_push o [] c = refl
total_push o (d ∷ cs) c = omega (arith, ints, total_push o cs c)

sizes_push : (cs : List Coefficient) (c : Coefficient) → sizes_of (cs ++ c ∷ []) ≡ unsigned_abs c.number + sizes_of cs
sizes_push [] c = refl
sizes_push (d ∷ cs) c = omega (arith, sizes_push cs c)

apart_push : (cs : List Coefficient) (c : Coefficient) → AreOfDifferentTerms cs → All (λ (d : Coefficient). d.term ≢ c.term) cs → AreOfDifferentTerms (cs ++ c ∷ [])
apart_push [] c h k = ((λ i d below. absurd (omega (arith, below))), tt)
apart_push (d ∷ cs) c h k = (
  All-push (λ (x : Coefficient). x.term ≢ d.term) cs c h.0 (λ e. All-head (λ (x : Coefficient). x.term ≢ c.term) d cs k (sym e)),
  apart_push cs c h.1 (All-tail (λ (x : Coefficient). x.term ≢ c.term) d cs k),
)

nonzero : (f : ℤ) → f ≢ pos 0 → 1 ≤ unsigned_abs f
nonzero (pos zero) h = absurd (h refl)
nonzero (pos (suc n)) h = omega arith
nonzero (negsuc n) h = omega arith

grown : (f : ℤ) (m : ℕ) → f ≢ pos 0 → m ≤ unsigned_abs f * m
grown f m h = omega (arith, mul-le-mul (nonzero f h) (same m))
  where
    same : (m : ℕ) → m ≤ m
    same m = omega arith

wider : (f : ℤ) (m : ℕ) → 1 ≤ m → unsigned_abs f ≤ unsigned_abs f * m
wider f m h = omega (arith, times_le (unsigned_abs f) 1 m h)

above_further : (node : Node) (k n : ℕ) → k ≤ n → IsAbove k node → IsAbove n node
above_further (Number z) k n h a = tt
above_further (Opaque r) k n h a = tt
above_further (Multiple p) k n h a = omega (arith, h, a)
above_further (Sum p q) k n h a = (omega (arith, h, a.0), omega (arith, h, a.1))

-- a turn
module _ (node : Node) (f : ℤ) (s : SweepState) where
  turn_long : length (after_turn node f s).factors ≡ length s.factors
  turn_long = go node
    where
      go : (node : Node) → length (after_turn node f s).factors ≡ length s.factors
      go (Number n) = refl
      go (Opaque r) = refl
      go (Multiple p) = added_length s.factors p.node (f *ℤ p.times)
      go (Sum p q) = added_length (added s.factors p.node (f *ℤ p.times)) q.node (f *ℤ q.times) ∙ added_length s.factors p.node (f *ℤ p.times)

  turn_total : (unit : ℤ) (o v : ℕ → ℤ) (z : ℤ) → IsAbove (length s.factors) node → CountsUnits unit o v node z → total_in unit o v (after_turn node f s) ≡ f *ℤ z +ℤ total_in unit o v s
  turn_total unit o v z above counted = go node above counted
    where
      go : (node : Node) → IsAbove (length s.factors) node → CountsUnits unit o v node z → total_in unit o v (after_turn node f s) ≡ f *ℤ z +ℤ total_in unit o v s
      go (Number n) above counted =
          omega (arith, ints, add-mul s.constant (f *ℤ n) unit, mul_assoc f n unit, ap (λ x. f *ℤ x) counted)
      go (Opaque r) above counted = omega (arith, ints, total_push o s.found (record { term = r; number = f }), ap (λ x. f *ℤ x) counted)
      go (Multiple p) above counted =
          omega (arith, ints, total_added v s.factors p.node (f *ℤ p.times) above, mul_assoc f p.times (v p.node), ap (λ x. f *ℤ x) counted)
      go (Sum p q) above counted =
          let one = f *ℤ p.times in
          let there : q.node < length (added s.factors p.node one) = rw (added_length s.factors p.node one) above.1 in
          omega (
            arith,
            ints,
            total_added v s.factors p.node one above.0,
            total_added v (added s.factors p.node one) q.node (f *ℤ q.times) there,
            mul_assoc f p.times (v p.node),
            mul_assoc f q.times (v q.node),
            int_mul-add f (p.times *ℤ v p.node) (q.times *ℤ v q.node),
            ap (λ x. f *ℤ x) counted,
          )

  turn_load : (w : ℕ → ℕ) (m : ℕ) → 1 ≤ m → IsAbove (length s.factors) node → IsWeighed w node m → load_in w (after_turn node f s) ≤ unsigned_abs f * m + load_in w s
  turn_load w m positive above weighed = go node above weighed
    where
      go : (node : Node) → IsAbove (length s.factors) node → IsWeighed w node m → load_in w (after_turn node f s) ≤ unsigned_abs f * m + load_in w s
      go (Number n) above weighed =
          let sum : unsigned_abs (s.constant +ℤ f *ℤ n) ≤ unsigned_abs s.constant + unsigned_abs (f *ℤ n) = omega (arith, ints) in
          omega (arith, sum, unsigned_abs-mul f n, times_le (unsigned_abs f) (unsigned_abs n) m weighed)
      go (Opaque r) above weighed = omega (arith, sizes_push s.found (record { term = r; number = f }), wider f m positive)
      go (Multiple p) above weighed =
          omega (
            arith,
            load_added w s.factors p.node (f *ℤ p.times) above,
            part_load f p.times (w p.node),
            times_le (unsigned_abs f) (unsigned_abs p.times * w p.node) m weighed,
          )
      go (Sum p q) above weighed =
          let one = f *ℤ p.times in
          let there : q.node < length (added s.factors p.node one) = rw (added_length s.factors p.node one) above.1 in
          omega (
            arith,
            load_added w s.factors p.node one above.0,
            load_added w (added s.factors p.node one) q.node (f *ℤ q.times) there,
            part_load f p.times (w p.node),
            part_load f q.times (w q.node),
            mul-add (unsigned_abs f) (unsigned_abs p.times * w p.node) (unsigned_abs q.times * w q.node),
            times_le (unsigned_abs f) (unsigned_abs p.times * w p.node + unsigned_abs q.times * w q.node) m weighed,
          )

  turn_other : (k j : ℕ) → IsAbove k node → k ≤ j → factor_at (after_turn node f s).factors j ≡ factor_at s.factors j
  turn_other k j above h = go node above
    where
      go : (node : Node) → IsAbove k node → factor_at (after_turn node f s).factors j ≡ factor_at s.factors j
      go (Number n) above = refl
      go (Opaque r) above = refl
      go (Multiple p) above = set_other s.factors p.node j _ (omega (arith, above, h))
      go (Sum p q) above =
          set_other (added s.factors p.node (f *ℤ p.times)) q.node j _ (omega (arith, above.1, h)) ∙ set_other s.factors p.node j _ (omega (arith, above.0, h))

module _ (nodes : List Node) (s now : SweepState) (k : ℕ) (sweeping : IsSweeping nodes s now (suc k)) (ordered : AreOrdered nodes) (there : k < length nodes) where
  abbrev f : ℤ
  f = factor_at now.factors k

  abbrev taken : SweepState
  taken = without now k

  here : k < length now.factors
  here = rw sweeping.long there

  taken_long : length taken.factors ≡ length nodes
  taken_long = set_length now.factors k (pos 0) ∙ sweeping.long

  above : IsAbove (length taken.factors) (node_at nodes k)
  above = above_further (node_at nodes k) k (length taken.factors) (omega (arith, taken_long, there)) (ordered k there)

  taken_total : (unit : ℤ) (o v : ℕ → ℤ) → total_in unit o v now ≡ f *ℤ v k +ℤ total_in unit o v taken
  taken_total unit o v = omega (arith, ints, total_taken v now.factors k here)

  taken_load : (w : ℕ → ℕ) → load_in w now ≡ unsigned_abs f * w k + load_in w taken
  taken_load w = omega (arith, load_taken w now.factors k here)

  taken_passed : (j : ℕ) → k ≤ j → factor_at taken.factors j ≡ pos 0
  taken_passed j h = go (le_cases k j h)
    where
      le_cases : (a b : ℕ) → a ≤ b → (a ≡ b) ⊎ (a < b)
      le_cases a b h = grind (arith, h)

      go : (k ≡ j) ⊎ (k < j) → factor_at (slice_set now.factors k (pos 0)) j ≡ pos 0
      go (inl e) = subst (λ i. factor_at (slice_set now.factors k (pos 0)) i ≡ pos 0) e (set_same now.factors k)
      go (inr less) = set_other now.factors k j (pos 0) less ∙ sweeping.passed j less

  lower : All (λ (c : Coefficient). IsOpaqueFrom nodes k c.term) now.found
  lower = All-weaker (λ (c : Coefficient). IsOpaqueFrom nodes (suc k) c.term) (λ (c : Coefficient). IsOpaqueFrom nodes k c.term) (λ c h. record { number = h.number; from = omega (arith, h.from); node = h.node }) now.found sweeping.from

  -- nothing to pass on
  passes_nothing : f ≡ pos 0 → IsSweeping nodes s taken k
  passes_nothing e = record {
    long = taken_long;
    kept = λ w unit o v weighed room counted. omega (arith, ints, taken_total unit o v, ap (λ x. x *ℤ v k) e, zero-*ℤ (v k), sweeping.kept w unit o v weighed room counted);
    light = λ w weighed room. omega (arith, taken_load w, sweeping.light w weighed room);
    passed = taken_passed;
    from = lower;
    apart = sweeping.apart;
    others = sweeping.others;
  }

  narrow : (w : ℕ → ℕ) → AreWeighed nodes w → load_in w s < 2 ^ 127 → f ≢ pos 0 → w k < 2 ^ 127
  narrow w weighed room other = omega (arith, grown f (w k) other, taken_load w, sweeping.light w weighed room, room)

  apart_from : (r : ℕ) → node_at nodes k ≡ Opaque r → HaveOwnNodes nodes → All (λ (d : Coefficient). d.term ≢ r) now.found
  apart_from r is own =
      All-weaker (λ (c : Coefficient). IsOpaqueFrom nodes (suc k) c.term) (λ (d : Coefficient). d.term ≢ r)
      (λ c h e. let same = own h.number k r (h.node ∙ ap Opaque e) is in omega (arith, same, h.from)) now.found sweeping.from

  passes_on : f ≢ pos 0 → IsSweeping nodes s (after_turn (node_at nodes k) f taken) k
  passes_on other = record {
    long = turn_long (node_at nodes k) f taken ∙ taken_long;
    kept = λ w unit o v weighed room counted.
        omega (
          arith,
          ints,
          turn_total (node_at nodes k) f taken unit o v (v k) above (counted k there (narrow w weighed room other)),
          taken_total unit o v,
          sweeping.kept w unit o v weighed room counted,
        );
    light = λ w weighed room.
        omega (
          arith,
          turn_load (node_at nodes k) f taken w (w k) (weighed.positive k) above (weighed.each k there (narrow w weighed room other)),
          taken_load w,
          sweeping.light w weighed room,
        );
    passed = λ j h. turn_other (node_at nodes k) f taken k j (ordered k there) h ∙ taken_passed j h;
    from = found_from (node_at nodes k) refl;
    apart = found_apart (node_at nodes k) refl;
    others = found_others (node_at nodes k);
  }
    where
      found_from : (node : Node) → node_at nodes k ≡ node → All (λ (c : Coefficient). IsOpaqueFrom nodes k c.term) (after_turn node f taken).found
      found_from (Number n) is = lower
      found_from (Opaque r) is = All-push (λ (c : Coefficient). IsOpaqueFrom nodes k c.term) now.found _ lower (record { number = k; from = omega arith; node = is })
      found_from (Multiple p) is = lower
      found_from (Sum p q) is = lower

      found_apart : (node : Node) → node_at nodes k ≡ node → HaveOwnNodes nodes → AreOfDifferentTerms (after_turn node f taken).found
      found_apart (Number n) is own = sweeping.apart own
      found_apart (Opaque r) is own = apart_push now.found (record { term = r; number = f }) (sweeping.apart own) (apart_from r is own)
      found_apart (Multiple p) is own = sweeping.apart own
      found_apart (Sum p q) is own = sweeping.apart own

      found_others : (node : Node) → All (λ (c : Coefficient). c.number ≢ pos 0) (after_turn node f taken).found
      found_others (Number n) = sweeping.others
      found_others (Opaque r) = All-push (λ (c : Coefficient). c.number ≢ pos 0) now.found _ sweeping.others other
      found_others (Multiple p) = sweeping.others
      found_others (Sum p q) = sweeping.others

  pub settled_sweeps : (new : SweepState) → IsNodeSwept nodes k now new → IsSweeping nodes s new k
  settled_sweeps new (inl h) = subst (λ x. IsSweeping nodes s x k) (sym h.1) (passes_nothing h.0)
  settled_sweeps new (inr h) = subst (λ x. IsSweeping nodes s x k) (sym h.1) (passes_on h.0)

-- the room of a turn
pub turn_room : (nodes : List Node) (k : ℕ) (s : SweepState) → CanSettle nodes k s → factor_at s.factors k ≢ pos 0 → HasRoomToPass (node_at nodes k) (factor_at s.factors k) s.constant (slice_set s.factors k (pos 0))
turn_room nodes k s can other =
    let w = can.weights in
    let fs = s.factors in
    let there : k < length fs = rw can.long can.there in
    let all = load_taken w fs k there in
    let bound : unsigned_abs (factor_at fs k) * w k + load w (slice_set fs k (pos 0)) + unsigned_abs s.constant < 2 ^ 127 = omega (arith, all, can.within) in
    record {
      weights = w;
      own = w k;
      positive = can.weighed.positive;
      parts =
          above_further (node_at nodes k) k (length (slice_set fs k (pos 0))) (omega (arith, set_length fs k (pos 0), there))
          (can.ordered k can.there);
      weighed = can.weighed.each k can.there (omega (arith, grown (factor_at fs k) (w k) other, bound));
      within = omega (arith, bound);
    }

pub sweep_starts : (nodes : List Node) (fs : List ℤ) (n : ℕ) → length fs ≡ length nodes → n ≡ length nodes → IsSweeping nodes (starting fs) (starting fs) n
sweep_starts nodes fs n long e = record {
  long = long;
  kept = λ w unit o v weighed room counted. refl;
  light = λ w weighed room. omega arith;
  passed = λ j h. past fs j (omega (arith, long, e, h));
  from = λ i d below. absurd (omega (arith, below));
  apart = λ own. tt;
  others = λ i d below. absurd (omega (arith, below));
}

pub sweep_settles : (nodes : List Node) (fs : List ℤ) (now : SweepState) (k : ℕ) → CanSweep nodes fs → IsSweeping nodes (starting fs) now (suc k) → k < length nodes → CanSettle nodes k now
sweep_settles nodes fs now k can sweeping there = record {
  weights = can.weights;
  weighed = can.weighed;
  within = omega (arith, sweeping.light can.weights can.weighed (omega (arith, can.within)), can.within);
  ordered = can.ordered;
  long = sweeping.long;
  there = there;
}

pub sweep_ends : (nodes : List Node) (fs : List ℤ) (now : SweepState) (k : ℕ) → k ≡ 0 → IsSweeping nodes (starting fs) now k → IsSwept nodes fs now.constant now.found
sweep_ends nodes fs now k e h = record {
  kept = λ w unit o v weighed room counted.
      omega (arith, ints, h.kept w unit o v weighed (omega (arith, room)) counted, total_none v now.factors (λ j. h.passed j (omega (arith, e))), zero-*ℤ unit);
  light = λ w weighed room. omega (arith, h.light w weighed (omega (arith, room)));
  from = All-weaker (λ (c : Coefficient). IsOpaqueFrom nodes k c.term) (λ (c : Coefficient). IsOpaqueFrom nodes 0 c.term) (λ c x. record { number = x.number; from = omega arith; node = x.node }) now.found h.from;
  apart = h.apart;
  others = h.others;
}

pub node_any : (nodes : List Node) (k : ℕ) (d e : Node) → k < length nodes → slice_index_or nodes k d ≡ slice_index_or nodes k e
node_any [] k d e h = absurd (omega (arith, h))
node_any (x ∷ xs) zero d e h = refl
node_any (x ∷ xs) (suc k) d e h = node_any xs k d e (omega (arith, h))

pub fits_of : (z : ℤ) → unsigned_abs z < 2 ^ 127 → FitsSigned mir.Syntax.w128 z
fits_of (pos n) h = record { sfits = h }
fits_of (negsuc n) h = record { sfits = omega (arith, h) }

pub sweep_fits : (nodes : List Node) (fs : List ℤ) (now : SweepState) (k : ℕ) → CanSweep nodes fs → IsSweeping nodes (starting fs) now k → FitsSigned mir.Syntax.w128 now.constant
sweep_fits nodes fs now k can h =
    fits_of now.constant (omega (arith, h.light can.weights can.weighed (omega (arith, can.within)), can.within))
