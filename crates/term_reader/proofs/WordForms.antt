-- The forms of words by their kinds, and the values of numerals.
use Rattle.std.proofs.Common.{◌≡◌, ℕ, ◌^◌, ◌<◌, ◌==◌, arith, List, [], ◌∷◌, length, Some, None, Option, cond, not, ◌&&◌, nat_lt, refl, ap, ◌∙◌, Bool, true, false}
use Rattle.std.specs.Char.{is_ascii_digit}
use Rattle.std.proofs.lemmas.Bool.{lt-ltb}
use Rattle.sexpr.specs.declared.causes.Cause.TheVariants.{BadCommand, LeftOut, WideNumber}
use Rattle.sexpr.specs.declared.words.WordKind.{WordKind}
use Rattle.sexpr.specs.declared.words.WordKind.TheVariants.{Symbol, Keyword, BitLiteral, Numeral, Decimal, Ratio}
use Rattle.sexpr.specs.Words.{is_numeral, is_decimal, is_ratio, is_symbol, numeral_value, word_kind}
use Rattle.problem_text.specs.Forms.{Form, faulty, number, number_form, word_form, symbol_form}
use Rattle.term_reader.specs.ShapeFaults.{is_numeral_kind, cause_of_kind}

-- what the kind of a word that is no symbol says about its form
abbrev FitsKind : ℕ → List ℕ → Option WordKind → Type 0
FitsKind place w kind = (is_numeral_kind kind ≡ true → (is_numeral w ≡ true) × (word_form place w ≡ number_form place w))
    × (is_numeral_kind kind ≡ false → word_form place w ≡ faulty (cause_of_kind kind) place)

-- the tests of a word's kind, in their order
abbrev kind_by : Bool → Bool → Bool → Bool → Bool → Bool → Option WordKind
kind_by keyword literal symbol numeral decimal ratio =
    cond keyword (Some Keyword) (cond literal (Some BitLiteral) (cond symbol (Some Symbol) (cond numeral (Some Numeral) (cond decimal (Some Decimal) (cond ratio (Some Ratio) None)))))

abbrev form_by : Form → Form → ℕ → Bool → Bool → Bool → Bool → Bool → Form
form_by wide other place keyword literal digit numeral decimal =
    cond keyword (faulty BadCommand place) (cond literal (faulty LeftOut place) (cond digit (cond numeral wide (cond decimal (faulty LeftOut place) (faulty BadCommand place))) other))

abbrev FitsBy : Form → Form → ℕ → Bool → Bool → Bool → Bool → Bool → Bool → Bool → Type 0
FitsBy wide other place keyword literal symbol digit numeral decimal ratio =
    (is_numeral_kind (kind_by keyword literal symbol numeral decimal ratio) ≡ true → (numeral ≡ true) × (form_by wide other place keyword literal digit numeral decimal ≡ cond numeral wide (cond decimal (faulty LeftOut place) (faulty BadCommand place))))
    × (is_numeral_kind (kind_by keyword literal symbol numeral decimal ratio) ≡ false → form_by wide other place keyword literal digit numeral decimal ≡ faulty (cause_of_kind (kind_by keyword literal symbol numeral decimal ratio)) place)

fits_by : (wide other : Form) (place : ℕ) (keyword literal digit numeral decimal ratio : Bool) → (not digit && not keyword && not literal) ≡ false
    → FitsBy wide other place keyword literal (not digit && not keyword && not literal) digit numeral decimal ratio
fits_by wide other place true literal digit numeral decimal ratio h = (λ e. absurd cc, λ e. refl)
fits_by wide other place false true digit numeral decimal ratio h = (λ e. absurd cc, λ e. refl)
fits_by wide other place false false false numeral decimal ratio h = absurd cc
fits_by wide other place false false true true decimal ratio h = (λ e. (refl, refl), λ e. absurd cc)
fits_by wide other place false false true false true ratio h = (λ e. absurd cc, λ e. refl)
fits_by wide other place false false true false false true h = (λ e. absurd cc, λ e. refl)
fits_by wide other place false false true false false false h = (λ e. absurd cc, λ e. refl)

pub kind_fits : (place : ℕ) (w : List ℕ) → 0 < length w → is_symbol w ≡ false → FitsKind place w (word_kind w)
unfolding word_kind
kind_fits place [] some h = absurd (omega arith)
kind_fits place (b ∷ w) some h =
    fits_by (cond (nat_lt (numeral_value (b ∷ w)) (2 ^ 127)) (number place (numeral_value (b ∷ w))) (faulty WideNumber place)) (symbol_form (record { place = place; name = b ∷ w })) place
    (b == 58) (b == 35) (is_ascii_digit b) (is_numeral (b ∷ w)) (is_decimal (b ∷ w)) (is_ratio (b ∷ w)) h

-- A numeral that is narrow is a number, and one that is wide is none.
pub narrow_number : (place : ℕ) (w : List ℕ) → is_numeral w ≡ true → numeral_value w < 2 ^ 127 → number_form place w ≡ number place (numeral_value w)
narrow_number place w e h =
    ap (λ b. cond b (cond (nat_lt (numeral_value w) (2 ^ 127)) (number place (numeral_value w)) (faulty WideNumber place)) (cond (is_decimal w) (faulty LeftOut place) (faulty BadCommand place))) e
    ∙ ap (λ b. cond b (number place (numeral_value w)) (faulty WideNumber place)) (lt-ltb (numeral_value w) (2 ^ 127) h)
