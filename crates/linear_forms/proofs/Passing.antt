-- Passing a factor on keeps totals, and never makes a load greater.
use Rattle.std.proofs.Common.{◌≡◌, ℕ, zero, suc, ◌+◌, ◌*◌, ◌<◌, ◌≤◌, ◌^◌, ℤ, pos, ◌+ℤ◌, ◌*ℤ◌, unsigned_abs, List, [], ◌∷◌, length, slice_index_or, refl, ap, arith}
use Rattle.std.proofs.Math.Nat.{mul-le-mul, mul-add, add-mul as nat_add-mul, mul_assoc as nat_mul_assoc}
use Rattle.std.proofs.lemmas.Int.{ints, unsigned_abs-mul}
use Rattle.rule_model.proofs.Ring.{add-mul}
use Rattle.linear_forms.specs.declared.nodes.Part.{Part}
use Rattle.linear_forms.specs.declared.nodes.Node.TheVariants.{Multiple, Sum}
use Rattle.linear_forms.specs.Factors.{added, total, load, HasRoomToPass}

pub total_added : (v : ℕ → ℤ) (fs : List ℤ) (i : ℕ) (n : ℤ) → i < length fs → total v (added fs i n) ≡ total v fs +ℤ n *ℤ v i
total_added v [] i n h = absurd (omega (arith, h))
total_added v (f ∷ fs) zero n h = omega (arith, ints, add-mul f n (v 0))
total_added v (f ∷ fs) (suc i) n h = omega (arith, ints, total_added (λ k. v (suc k)) fs i n (omega (arith, h)))

pub load_added : (w : ℕ → ℕ) (fs : List ℤ) (i : ℕ) (n : ℤ) → i < length fs → load w (added fs i n) ≤ load w fs + unsigned_abs n * w i
load_added w [] i n h = absurd (omega (arith, h))
load_added w (f ∷ fs) zero n h = omega (arith, less)
  where
    sum : unsigned_abs (f +ℤ n) ≤ unsigned_abs f + unsigned_abs n
    sum = omega (arith, ints)

    less : unsigned_abs (f +ℤ n) * w 0 ≤ unsigned_abs f * w 0 + unsigned_abs n * w 0
    less = omega (arith, mul-le-mul sum (same_le (w 0)), nat_add-mul (unsigned_abs f) (unsigned_abs n) (w 0))
      where
        same_le : (m : ℕ) → m ≤ m
        same_le m = omega arith
load_added w (f ∷ fs) (suc i) n h = omega (arith, load_added (λ k. w (suc k)) fs i n (omega (arith, h)))

pub load_at : (w : ℕ → ℕ) (fs : List ℤ) (i : ℕ) → i < length fs → unsigned_abs (slice_index_or fs i (pos 0)) * w i ≤ load w fs
load_at w [] i h = absurd (omega (arith, h))
load_at w (f ∷ fs) zero h = omega arith
load_at w (f ∷ fs) (suc i) h = omega (arith, load_at (λ k. w (suc k)) fs i (omega (arith, h)))

pub added_length : (fs : List ℤ) (i : ℕ) (n : ℤ) → length (added fs i n) ≡ length fs
added_length [] i n = refl
added_length (f ∷ fs) zero n = refl
added_length (f ∷ fs) (suc i) n = ap suc (added_length fs i n)

grown : (m w : ℕ) → 1 ≤ w → m ≤ m * w
grown m w h = omega (arith, mul-le-mul (same m) h)
  where
    same : (m : ℕ) → m ≤ m
    same m = omega arith

-- what is passed to a part, by weight
pub part_load : (f times : ℤ) (w : ℕ) → unsigned_abs (f *ℤ times) * w ≡ unsigned_abs f * (unsigned_abs times * w)
part_load f times w =
    rw (unsigned_abs-mul f times) (nat_mul_assoc (unsigned_abs f) (unsigned_abs times) w)

pub times_le : (f m n : ℕ) → m ≤ n → f * m ≤ f * n
times_le f m n h = mul-le-mul (same f) h
  where
    same : (m : ℕ) → m ≤ m
    same m = omega arith

-- room for a sum at a part
pub room_at : (w : ℕ → ℕ) (fs : List ℤ) (i : ℕ) (n : ℤ) (rest : ℕ) → 1 ≤ w i → i < length fs → unsigned_abs n * w i + (rest + load w fs) < 2 ^ 127 → unsigned_abs (slice_index_or fs i (pos 0)) + unsigned_abs n < 2 ^ 127
room_at w fs i n rest positive there h =
    omega (arith, load_at w fs i there, grown (unsigned_abs n) (w i) positive, grown (unsigned_abs (slice_index_or fs i (pos 0))) (w i) positive, h)

pub number_room : (f n c : ℤ) (own load : ℕ) → unsigned_abs n ≤ own → unsigned_abs f * own + (unsigned_abs c + load) < 2 ^ 127 → unsigned_abs c + unsigned_abs (f *ℤ n) < 2 ^ 127
number_room f n c own load h k = omega (arith, unsigned_abs-mul f n, times_le (unsigned_abs f) (unsigned_abs n) own h, k)

pub multiple_room : (p : Part) (f c : ℤ) (fs : List ℤ) → HasRoomToPass (Multiple p) f c fs → unsigned_abs (slice_index_or fs p.node (pos 0)) + unsigned_abs (f *ℤ p.times) < 2 ^ 127
multiple_room p f c fs h =
    room_at h.weights fs p.node (f *ℤ p.times) (unsigned_abs c) (h.positive p.node) h.parts
    (omega (arith, part_load f p.times (h.weights p.node), times_le (unsigned_abs f) (unsigned_abs p.times * h.weights p.node) h.own h.weighed, h.within))

pub first_room : (p q : Part) (f c : ℤ) (fs : List ℤ) → HasRoomToPass (Sum p q) f c fs → unsigned_abs (slice_index_or fs p.node (pos 0)) + unsigned_abs (f *ℤ p.times) < 2 ^ 127
first_room p q f c fs h =
    room_at h.weights fs p.node (f *ℤ p.times) (unsigned_abs c) (h.positive p.node) h.parts.0
    (omega (
      arith,
      part_load f p.times (h.weights p.node),
      mul-add (unsigned_abs f) (unsigned_abs p.times * h.weights p.node) (unsigned_abs q.times * h.weights q.node),
      times_le (unsigned_abs f) (unsigned_abs p.times * h.weights p.node + unsigned_abs q.times * h.weights q.node) h.own h.weighed,
      h.within,
    ))

pub second_room : (p q : Part) (f c : ℤ) (fs : List ℤ) → HasRoomToPass (Sum p q) f c fs → unsigned_abs (slice_index_or (added fs p.node (f *ℤ p.times)) q.node (pos 0)) + unsigned_abs (f *ℤ q.times) < 2 ^ 127
second_room p q f c fs h =
    room_at h.weights (added fs p.node (f *ℤ p.times)) q.node (f *ℤ q.times) (unsigned_abs c) (h.positive q.node)
    (rw (added_length fs p.node (f *ℤ p.times)) h.parts.1)
    (omega (
      arith,
      part_load f p.times (h.weights p.node),
      part_load f q.times (h.weights q.node),
      load_added h.weights fs p.node (f *ℤ p.times) h.parts.0,
      mul-add (unsigned_abs f) (unsigned_abs p.times * h.weights p.node) (unsigned_abs q.times * h.weights q.node),
      times_le (unsigned_abs f) (unsigned_abs p.times * h.weights p.node + unsigned_abs q.times * h.weights q.node) h.own h.weighed,
      h.within,
    ))
