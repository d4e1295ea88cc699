-- Amounts and coefficients as nodes spell them.
use Rattle.std.proofs.Common.{◌≡◌, ◌⊎◌, inl, inr, ℕ, ◌+◌, ◌^◌, ◌<◌, ◌≤◌, ◌==◌, ◌∙◌, arith, Bool, true, false, ◌||◌, List, take, drop, Option, Some, None, option_map, option_and_then, refl, sym, ap, subst, if◌then◌else◌}
use Rattle.std.specs.List.{position_or_len}
use Rattle.std.proofs.lemmas.Bool.Decides.{nat_tests}
use Rattle.std.proofs.Math.Nat.{one-le-pow}
use Rattle.sexpr.specs.Words.{numeral_value, word_kind}
use Rattle.sexpr.specs.declared.words.WordKind.{WordKind}
use Rattle.sexpr.specs.declared.words.WordKind.TheVariants.{Ratio}
use Rattle.sexpr.specs.Items.{Item}
use Rattle.alethe_text.specs.Coefficients as text
use Rattle.alethe_text.specs.Coefficients.{is_wide, figure_spelled, amount_spelled, figure_of, divisor_of, numerator_spelled, denominator_spelled}
use Rattle.coefficients.specs.Fractions.{IsNarrowPair}
use Rattle.coefficients.specs.Amounts.{IsFigureFound, IsAmountFound, ratio_spelled, divided}
use Rattle.coefficients.specs.declared.fractions.Pair.{Pair}
use Rattle.coefficients.specs.declared.figures.Figure.{Figure}
use Rattle.coefficients.specs.declared.amounts.Amount.{Amount}
use Rattle.coefficients.proofs.WordKinds.{kind_told, no_word, no_ratio}

wide_yes : (n : ℕ) → 2 ^ 127 ≤ n → is_wide n ≡ true
wide_yes n h = grind (arith, nat_tests)

wide_no : (n : ℕ) → n < 2 ^ 127 → is_wide n ≡ false
wide_no n h = grind (arith, nat_tests)

pub wide_said : (a b place : ℕ) → (2 ^ 127 ≤ a) ⊎ (2 ^ 127 ≤ b) → (if is_wide a || is_wide b then Some place else None) ≡ Some place
wide_said a b place (inl h) = ap (λ x. if x || is_wide b then Some place else None) (wide_yes a h)
wide_said a b place (inr h) = ap (λ x. if is_wide a || x then Some place else None) (wide_yes b h) ∙ go (is_wide a)
  where
    go : (x : Bool) → (if x || true then Some place else None) ≡ Some place
    go true = refl
    go false = refl

pub narrow_said : (a b place : ℕ) → a < 2 ^ 127 → b < 2 ^ 127 → (if is_wide a || is_wide b then Some place else None) ≡ None
narrow_said a b place h k =
    ap (λ x. if x || is_wide b then Some place else None) (wide_no a h) ∙ ap (λ x. if x then Some place else None) (wide_no b k)

pub plain_figure : (c : Figure) (o : Option text.Figure) → IsFigureFound (Some c) o → IsAmountFound (Some (Amount.Plain c.place c.parts)) (option_map text.figure o)
plain_figure c o (f, e, is) = (
  text.figure f,
  ap (option_map text.figure) e,
  record {
    positive = refl;
    over = one-le-pow f.behind_point 10 (omega arith);
    narrow = is.parts;
    fault = λ h. wide_said f.digits (10 ^ f.behind_point) f.place h ∙ ap Some (sym is.place);
    none = λ h k. narrow_said f.digits (10 ^ f.behind_point) f.place h k;
  },
)

some_number : (n : ℕ) → (n == 0) ≡ false → 0 < n
some_number n e = grind (arith, nat_tests)

pub ratio_is : (place : ℕ) (w : List ℕ) (slash : ℕ) (below : List ℕ) (parts : Option Pair) → slash ≡ position_or_len (λ b. b == 47) w → below ≡ drop (slash + 1) w
    → (numeral_value below == 0) ≡ false → IsNarrowPair parts (numeral_value (take slash w), numeral_value below) → IsAmountFound (Some (Amount.Plain place parts)) (ratio_spelled place w)
ratio_is place w slash below parts e rest some narrow =
    let d : numeral_value below ≡ denominator_spelled w = ap numeral_value (rest ∙ ap (λ n. drop (n + 1) w) e) in
    let n : numeral_value (take slash w) ≡ numerator_spelled w = ap (λ k. numeral_value (take k w)) e in
    let z : (denominator_spelled w == 0) ≡ false = ap (λ k. k == 0) (sym d) ∙ some in (
      text.ratio place (numerator_spelled w) (denominator_spelled w),
      ap (λ b. if b then None else Some (text.ratio place (numerator_spelled w) (denominator_spelled w))) z,
      record {
        positive = refl;
        over = some_number (denominator_spelled w) z;
        narrow = subst (λ k. IsNarrowPair parts (numerator_spelled w, k)) d (subst (λ k. IsNarrowPair parts (k, numeral_value below)) n narrow);
        fault = λ h. wide_said (numerator_spelled w) (denominator_spelled w) place h;
        none = λ h k. narrow_said (numerator_spelled w) (denominator_spelled w) place h k;
      },
    )

abbrev spelled_by : ℕ → List ℕ → Bool → Option text.Amount
spelled_by place w b = if b then ratio_spelled place w else option_map text.figure (figure_spelled place w)

pub no_amount : (place : ℕ) (w : List ℕ) → word_kind w ≡ None → amount_spelled place w ≡ None
no_amount place w e = ap (spelled_by place w) (kind_told w None e).0 ∙ ap (option_map text.figure) (no_word place w e)

pub as_ratio : (place : ℕ) (w : List ℕ) → word_kind w ≡ Some Ratio → ratio_spelled place w ≡ amount_spelled place w
as_ratio place w e = sym (ap (spelled_by place w) (kind_told w (Some Ratio) e).0)

pub as_figure : (place : ℕ) (w : List ℕ) (kind : WordKind) → word_kind w ≡ Some kind → (kind ≡ Ratio → ⊥) → option_map text.figure (figure_spelled place w) ≡ amount_spelled place w
as_figure place w kind e other = sym (ap (spelled_by place w) (no_ratio w kind e other))

pub quotient_made : (place : ℕ) (negative : Bool) (num den : Figure) (n d : Item) → IsFigureFound (Some num) (figure_of n) → IsFigureFound (Some den) (figure_of d) → den.is_zero ≡ false
    → IsAmountFound (Some (Amount.Quotient place negative num den)) (divided place negative n d)
quotient_made place negative num den n d (f, e, is) (g, e2, is2) some =
    let z : (g.digits == 0) ≡ false = sym is2.zero ∙ some in
    let v : divisor_of d ≡ Some g = ap (option_and_then (λ (h : text.Figure). if h.digits == 0 then None else Some h)) e2 ∙ ap (λ b. if b then None else Some g) z in (
      text.quotient place negative f g,
      ap (option_and_then (λ h. option_map (text.quotient place negative h) (divisor_of d))) e ∙ ap (option_map (text.quotient place negative f)) v,
      record { above = f; below = g; same = refl; num_is = is; den_is = is2; some = some_number g.digits z },
    )
