-- The least common multiple, a denominator at a time.
use Rattle.std.proofs.Common.{◌≡◌, ◌≤◌, ◌<◌, ℕ, ◌+◌, ◌*◌, List, [], length, get_or, take, All, Some, sym, ap, subst, arith}
use Rattle.std.proofs.lemmas.List.{take_more}
use Rattle.std.proofs.lemmas.List.Elements.{All-push, All-pop, All-take}
use Rattle.rule_model.specs.Arith.{Divides}
use Rattle.scaled_sums.specs.Multiples.{IsLeastMultipleOf}
use Rattle.linear_lines.specs.declared.lines.Line.{Line}
use Rattle.linear_lines.specs.Lines.{IsMultiple, IsLeast}

abbrev pub Divided : ℕ → Line → Type 0
Divided n l = Divides l.denominator n

divides_one : (m : ℕ) → Divides 1 m
divides_one m = (m, omega arith)

chain : (a b c : ℕ) → Divides a b → Divides b c → Divides a c
chain a b c (j, e) (k, f) = (j * k, omega (arith, f, ap (λ x. x * k) e))

pub least_start : IsLeast [] 1
least_start = record {
  multiple = record { over = omega arith; each = λ k d h. absurd (omega (arith, h)) };
  least = λ m h. divides_one m;
}

-- what is true of the first lines and the next
pub multiple_of_front : (lines : List Line) (i m : ℕ) → IsMultiple lines m → IsMultiple (take i lines) m
multiple_of_front lines i m h = record { over = h.over; each = All-take (Divided m) i lines h.each }

pub least_more : (lines : List Line) (i n m : ℕ) (l : Line) → i < length lines → l ≡ get_or lines i l → IsLeast (take i lines) n → IsLeastMultipleOf n l.denominator m → IsLeast (take (i + 1) lines) m
least_more lines i n m l below is least both = record {
  multiple = record {
    over = both.over;
    each = subst (All (Divided m)) (sym (take_more lines i l below))
        (All-push (Divided m) (take i lines) (get_or lines i l) (λ k d h. chain _ n m (least.multiple.each k d h) both.first)
        (subst (Divided m) is both.second));
  };
  least = λ k h.
      both.least k
      (least.least k (record { over = h.over; each = (split k h).0 }))
      (subst (Divided k) (sym is) (split k h).1);
}
  where
    split : (k : ℕ) → IsMultiple (take (i + 1) lines) k → All (Divided k) (take i lines) × Divided k (get_or lines i l)
    split k h = All-pop (Divided k) (take (i + 1) lines) (take i lines) (Some (get_or lines i l)) (take_more lines i l below) h.each

-- a multiple that is too wide
pub wide_multiple : (lines : List Line) (i n limit m : ℕ) (l : Line) → i < length lines → l ≡ get_or lines i l → IsLeast (take i lines) n → ((k : ℕ) → 0 < k → Divides n k → Divides l.denominator k → limit ≤ k) → IsMultiple lines m → limit ≤ m
wide_multiple lines i n limit m l below is least wide h =
    wide m h.over (least.least m (multiple_of_front lines i m h)) (subst (Divided m) (sym is) (h.each i l below))
