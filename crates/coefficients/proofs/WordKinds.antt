-- The kinds of words, and which numbers they spell.
use Rattle.std.proofs.Common.{◌≡◌, ℕ, zero, suc, arith, Bool, true, false, not, ◌&&◌, ◌==◌, cond, eqb, List, [], ◌∷◌, length, take, get_or, ◌++◌, ◌^◌, Option, Some, None, inl, inr, refl, sym, ap, ◌∙◌, subst, eqb-true, eq-eqb}
use Rattle.std.specs.List.{position_or_len, prefix_len, list_all, after_first}
use Rattle.std.specs.Char.{is_ascii_digit}
use Rattle.std.proofs.lemmas.List.{append-nil}
use Rattle.std.proofs.Math.Bool.{and-false}
use Rattle.sexpr.specs.declared.words.WordKind.{WordKind}
use Rattle.sexpr.specs.declared.words.WordKind.TheVariants.{Symbol, Keyword, BitLiteral, Numeral, Decimal, Ratio}
use Rattle.sexpr.proofs.NumberForms.{is_digits-from_numeral, prefix_len-digits, decimal_none, ratio_none}
use Rattle.sexpr.specs.Words.{is_digits, is_numeral, is_decimal, is_ratio, is_symbol, numeral_value, word_kind}
use Rattle.alethe_text.specs.Coefficients as text
use Rattle.alethe_text.specs.Coefficients.{figure_spelled, before_point, after_point}
use Rattle.coefficients.specs.Fractions.{IsNarrowPair}
use Rattle.coefficients.specs.Amounts.{IsFigureFound}
use Rattle.coefficients.specs.declared.figures.Figure.{Figure}

-- which numbers a word of a kind spells
abbrev pub SaysBy : Bool → Bool → Bool → Option WordKind → Type 0
SaysBy numeral decimal ratio (Some Numeral) = (ratio ≡ false) × (numeral ≡ true)
SaysBy numeral decimal ratio (Some Decimal) = (ratio ≡ false) × (numeral ≡ false) × (decimal ≡ true)
SaysBy numeral decimal ratio (Some Ratio) = (ratio ≡ true) × (numeral ≡ false) × (decimal ≡ false)
SaysBy numeral decimal ratio (Some Symbol) = (ratio ≡ false) × (numeral ≡ false) × (decimal ≡ false)
SaysBy numeral decimal ratio (Some Keyword) = (ratio ≡ false) × (numeral ≡ false) × (decimal ≡ false)
SaysBy numeral decimal ratio (Some BitLiteral) = (ratio ≡ false) × (numeral ≡ false) × (decimal ≡ false)
SaysBy numeral decimal ratio None = (ratio ≡ false) × (numeral ≡ false) × (decimal ≡ false)

abbrev pub KindSays : List ℕ → Option WordKind → Type 0
KindSays w kind = SaysBy (is_numeral w) (is_decimal w) (is_ratio w) kind

-- A numeral has no slash, and a decimal none where its digits end.
numeral_no_ratio : (w : List ℕ) → is_numeral w ≡ true → is_ratio w ≡ false
numeral_no_ratio w e =
    let whole = prefix_len-digits w (is_digits-from_numeral w e) in
    ratio_none w (prefix_len is_ascii_digit w) refl (inl (omega (arith, whole)))

decimal_no_ratio : (w : List ℕ) → is_decimal w ≡ true → is_ratio w ≡ false
decimal_no_ratio w e = go (eqb (get_or w (prefix_len is_ascii_digit w) 0) 47) refl
  where
    clash : is_decimal w ≡ false → is_ratio w ≡ false
    clash h = cc

    go : (b : Bool) → eqb (get_or w (prefix_len is_ascii_digit w) 0) 47 ≡ b → is_ratio w ≡ false
    go true f =
        let h : get_or w (prefix_len is_ascii_digit w) 0 ≡ 47 = eqb-true _ _ f in
        clash (decimal_none w (prefix_len is_ascii_digit w) refl (inr (λ q. omega arith)))
    go false f = ratio_none w (prefix_len is_ascii_digit w) refl (inr (λ q. let t : true ≡ false = sym (eq-eqb _ _ q) ∙ f in cc))

-- What begins with no digit is no number.
no_numeral : (b : ℕ) (w : List ℕ) → is_ascii_digit b ≡ false → is_numeral (b ∷ w) ≡ false
no_numeral b [] e = e
no_numeral b (c ∷ w) e = ap (λ d. not (b == 48) && (d && list_all is_ascii_digit (c ∷ w))) e ∙ and-false (not (b == 48))

no_front : (n b : ℕ) (w : List ℕ) → is_ascii_digit b ≡ false → is_numeral (take n (b ∷ w)) ≡ false
no_front zero b w e = refl
no_front (suc n) b w e = no_numeral b (take n w) e

abbrev IsNone : Bool → Bool → Bool → Type 0
IsNone numeral decimal ratio = (ratio ≡ false) × (numeral ≡ false) × (decimal ≡ false)

no_number : (b : ℕ) (w : List ℕ) → is_ascii_digit b ≡ false → IsNone (is_numeral (b ∷ w)) (is_decimal (b ∷ w)) (is_ratio (b ∷ w))
no_number b w e = (
  ap (λ x. x && is_numeral (after_first (λ b. b == 47) (b ∷ w))) (no_front (position_or_len (λ b. b == 47) (b ∷ w)) b w e),
  no_numeral b w e,
  ap (λ x. x && is_digits (after_first (λ b. b == 46) (b ∷ w))) (no_front (position_or_len (λ b. b == 46) (b ∷ w)) b w e),
)

symbol_no_digit : (d k l : Bool) → (not d && not k && not l) ≡ true → d ≡ false
symbol_no_digit false k l h = refl
symbol_no_digit true k l h = cc

abbrev kind_by : Bool → Bool → Bool → Bool → Bool → Bool → Option WordKind
kind_by keyword literal symbol numeral decimal ratio =
    cond keyword (Some Keyword) (cond literal (Some BitLiteral) (cond symbol (Some Symbol) (cond numeral (Some Numeral) (cond decimal (Some Decimal) (cond ratio (Some Ratio) None)))))

says : (keyword literal symbol numeral decimal ratio : Bool) → (keyword ≡ true → IsNone numeral decimal ratio) → (literal ≡ true → IsNone numeral decimal ratio)
    → (symbol ≡ true → IsNone numeral decimal ratio) → (numeral ≡ true → ratio ≡ false) → (decimal ≡ true → ratio ≡ false)
    → SaysBy numeral decimal ratio (kind_by keyword literal symbol numeral decimal ratio)
says true literal symbol numeral decimal ratio k l s n d = k refl
says false true symbol numeral decimal ratio k l s n d = l refl
says false false true numeral decimal ratio k l s n d = s refl
says false false false true decimal ratio k l s n d = (n refl, refl)
says false false false false true ratio k l s n d = (d refl, refl, refl)
says false false false false false true k l s n d = (refl, refl, refl)
says false false false false false false k l s n d = (refl, refl, refl)

pub kind_says : (w : List ℕ) → KindSays w (word_kind w)
unfolding word_kind
kind_says [] = (refl, refl, refl)
kind_says (b ∷ w) =
    says (b == 58) (b == 35) (is_symbol (b ∷ w)) (is_numeral (b ∷ w)) (is_decimal (b ∷ w)) (is_ratio (b ∷ w))
    (λ e. no_number b w (ap is_ascii_digit (eqb-true b 58 e))) (λ e. no_number b w (ap is_ascii_digit (eqb-true b 35 e)))
    (λ e. no_number b w (symbol_no_digit (is_ascii_digit b) (b == 58) (b == 35) e)) (numeral_no_ratio (b ∷ w)) (decimal_no_ratio (b ∷ w))

-- what a word of a known kind spells
pub kind_told : (w : List ℕ) (kind : Option WordKind) → word_kind w ≡ kind → KindSays w kind
kind_told w kind e = subst (KindSays w) e (kind_says w)

figure_none : (place : ℕ) (w : List ℕ) → is_numeral w ≡ false → is_decimal w ≡ false → figure_spelled place w ≡ None
figure_none place w e f = rw (e, f) refl

-- what is no word is no figure and no ratio
pub no_word : (place : ℕ) (w : List ℕ) → word_kind w ≡ None → figure_spelled place w ≡ None
no_word place w e = let h = kind_told w None e in figure_none place w h.1 h.2

pub no_figure : (place : ℕ) (w : List ℕ) (kind : WordKind) → word_kind w ≡ Some kind → (kind ≡ Numeral → ⊥) → (kind ≡ Decimal → ⊥) → figure_spelled place w ≡ None
no_figure place w Numeral e n d = absurd (n refl)
no_figure place w Decimal e n d = absurd (d refl)
no_figure place w Ratio e n d = let h = kind_told w (Some Ratio) e in figure_none place w h.1 h.2
no_figure place w Symbol e n d = let h = kind_told w (Some Symbol) e in figure_none place w h.1 h.2
no_figure place w Keyword e n d = let h = kind_told w (Some Keyword) e in figure_none place w h.1 h.2
no_figure place w BitLiteral e n d = let h = kind_told w (Some BitLiteral) e in figure_none place w h.1 h.2

pub no_ratio : (w : List ℕ) (kind : WordKind) → word_kind w ≡ Some kind → (kind ≡ Ratio → ⊥) → is_ratio w ≡ false
no_ratio w Numeral e r = (kind_told w (Some Numeral) e).0
no_ratio w Decimal e r = (kind_told w (Some Decimal) e).0
no_ratio w Ratio e r = absurd (r refl)
no_ratio w Symbol e r = (kind_told w (Some Symbol) e).0
no_ratio w Keyword e r = (kind_told w (Some Keyword) e).0
no_ratio w BitLiteral e r = (kind_told w (Some BitLiteral) e).0

-- The figure that is made is the one that is spelled.
figure_is : (w : List ℕ) (f : text.Figure) (c : Figure) (before after : List ℕ) → figure_spelled f.place w ≡ Some f → numeral_value (before ++ after) ≡ f.digits → length after ≡ f.behind_point
    → c.place ≡ f.place → c.is_zero ≡ (numeral_value (before ++ after) == 0) → IsNarrowPair c.parts (numeral_value (before ++ after), 10 ^ length after) → IsFigureFound (Some c) (figure_spelled f.place w)
figure_is w f c before after e digits len place none parts = (
  f,
  e,
  record {
    place = place;
    zero = none ∙ ap (λ n. n == 0) digits;
    parts = subst (λ n. IsNarrowPair c.parts (f.digits, 10 ^ n)) len (subst (λ n. IsNarrowPair c.parts (n, 10 ^ length after)) digits parts);
  },
)

pub numeral_is : (place : ℕ) (w : List ℕ) (c : Figure) (after : List ℕ) → word_kind w ≡ Some Numeral → after ≡ []
    → c.place ≡ place → c.is_zero ≡ (numeral_value (w ++ after) == 0) → IsNarrowPair c.parts (numeral_value (w ++ after), 10 ^ length after) → IsFigureFound (Some c) (figure_spelled place w)
numeral_is place w c after e empty here none parts =
    let h = kind_told w (Some Numeral) e in
    figure_is w (record { place = place; digits = numeral_value w; behind_point = 0 }) c w after (rw h.1 refl) (ap (λ r. numeral_value (w ++ r)) empty ∙ ap numeral_value (append-nil w)) (ap length empty) here none parts

pub decimal_is : (place : ℕ) (w : List ℕ) (c : Figure) (before after : List ℕ) → word_kind w ≡ Some Decimal → before ≡ before_point w → after ≡ after_point w
    → c.place ≡ place → c.is_zero ≡ (numeral_value (before ++ after) == 0) → IsNarrowPair c.parts (numeral_value (before ++ after), 10 ^ length after) → IsFigureFound (Some c) (figure_spelled place w)
decimal_is place w c before after e front rest here none parts =
    let h = kind_told w (Some Decimal) e in
    figure_is w (record { place = place; digits = numeral_value (before_point w ++ after_point w); behind_point = length (after_point w) }) c before after
    (rw (h.1, h.2) refl) (ap (λ r. numeral_value (r ++ after)) front ∙ ap (λ r. numeral_value (before_point w ++ r)) rest) (ap length rest) here none parts
