-- Private. Numbers in base ten, digit by digit.
use Rattle.std.specs.Prelude.{◌≡◌, ℕ, List, [], ◌∷◌, ◌++◌, decimal}
use Rattle.std.proofs.Common.{◌+◌, ◌/◌, ◌%◌, ◌^◌, ◌<◌, ◌≤◌, ap, sym, ◌∙◌, append_assoc}
use Rattle.std.proofs.lemmas.Fmt.{decimal_digit, decimal_step}

pub one_digit : (text : List ℕ) (n : ℕ) → n < 10 → text ++ (48 + n) ∷ [] ≡ text ++ decimal n
one_digit text n small = ap (λ l. text ++ l) (sym (decimal_digit n small))

pub more_digits : (text : List ℕ) (n : ℕ) → 10 ≤ n → n < 2 ^ 64
    → (text ++ decimal (n / 10)) ++ (48 + n % 10) ∷ [] ≡ text ++ decimal n
more_digits text n large small = append_assoc text (decimal (n / 10)) ((48 + n % 10) ∷ []) ∙ ap (λ l. text ++ l) (sym (decimal_step n large small))
