-- Ids have their numbers, and are symbols.
use Rattle.std.proofs.Common.{◌≡◌, ◌≢◌, ◌<◌, ◌/◌, ◌^◌, ℕ, List, [], ◌∷◌, arith}
use Rattle.std.proofs.lemmas.List.Elements.{All-from_recursion}
use Rattle.rule_model.specs.RuleNames.{IsSymbolName}
use Rattle.elaborator.specs.Names.{letter, name_of, number_of}

digit : (n : ℕ) (ds : List ℕ) → number_of ds ≡ n / 16 → number_of (letter n ∷ ds) ≡ n
unfolding number_of
digit n ds e = rw e (omega arith)

last_digit : (n : ℕ) → n < 16 → number_of (letter n ∷ []) ≡ n
unfolding number_of
last_digit n small = omega arith

pub number_name : (n : ℕ) → n < 2 ^ 36 → number_of (name_of n) ≡ n
unfolding name_of
number_name n small =
    let b = n / 16 in
    let c = b / 16 in
    let d = c / 16 in
    let e = d / 16 in
    let f = e / 16 in
    let g = f / 16 in
    let h = g / 16 in
    let i = h / 16 in
    let b_small : b < 2 ^ 32 = omega arith in
    let c_small : c < 2 ^ 28 = omega arith in
    let d_small : d < 2 ^ 24 = omega arith in
    let e_small : e < 2 ^ 20 = omega arith in
    let f_small : f < 2 ^ 16 = omega arith in
    let g_small : g < 2 ^ 12 = omega arith in
    let h_small : h < 2 ^ 8 = omega arith in
    let i_small : i < 16 = omega arith in
    digit n _ (digit b _ (digit c _ (digit d _ (digit e _ (digit f _ (digit g _ (digit h _ (last_digit i i_small))))))))

letter_is : (n : ℕ) → (letter n ≢ 124) × (letter n ≢ 92)
letter_is n = (λ e. absurd (omega arith), λ e. absurd (omega arith))

pub symbol_name : (n : ℕ) → IsSymbolName (name_of n)
unfolding name_of
symbol_name n =
    All-from_recursion (λ b. (b ≢ 124) × (b ≢ 92)) (name_of n) (
      letter_is n,
      (
        letter_is (n / 16),
        (
          letter_is (n / 16 / 16),
          (
            letter_is (n / 16 / 16 / 16),
            (
              letter_is (n / 16 / 16 / 16 / 16),
              (
                letter_is (n / 16 / 16 / 16 / 16 / 16),
                (
                  letter_is (n / 16 / 16 / 16 / 16 / 16 / 16),
                  (
                    letter_is (n / 16 / 16 / 16 / 16 / 16 / 16 / 16),
                    (letter_is (n / 16 / 16 / 16 / 16 / 16 / 16 / 16 / 16), tt),
                  ),
                ),
              ),
            ),
          ),
        ),
      ),
    )
