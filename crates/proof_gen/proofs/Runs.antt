-- Private. The bytes of a template that stand for themselves go into the text in runs.
use Rattle.std.specs.Prelude.{◌≡◌, ℕ, List, [], ◌∷◌, ◌++◌, slice_index}
use Rattle.std.specs.List.{flat_map, slice_range}
use Rattle.std.proofs.Common.{◌+◌, ◌<◌, ◌≤◌, ◌==◌, false, length, take, refl, ap, sym, ◌∙◌, append_assoc, append-nil, lit≤, arith}
use Rattle.std.proofs.lemmas.Bool.Decides.{nat_tests}
use Rattle.std.proofs.lemmas.List.{take_more}
use Rattle.std.proofs.lemmas.List.Concat.{flat_map-append}
use Rattle.std.proofs.lemmas.List.Edits.{between_more, between_none}
use Rattle.proof_gen.specs.Templates.{number_letter, letter, filled}

low_differs : (b k : ℕ) → 65 ≤ k → b < 65 → (b == k) ≡ false
low_differs b k some low = grind (arith, nat_tests)

high_differs : (b k : ℕ) → k ≤ 90 → 90 < b → (b == k) ≡ false
high_differs b k some high = grind (arith, nat_tests)

low_letter : (i b : ℕ) → b < 65 → letter i b ≡ b ∷ []
unfolding letter number_letter
low_letter i b low =
    rw (
      low_differs b 65 (lit≤ tt) low,
      low_differs b 66 (lit≤ tt) low,
      low_differs b 79 (lit≤ tt) low,
      low_differs b 88 (lit≤ tt) low,
      low_differs b 89 (lit≤ tt) low,
      low_differs b 90 (lit≤ tt) low,
      low_differs b 76 (lit≤ tt) low,
      low_differs b 73 (lit≤ tt) low,
      low_differs b 74 (lit≤ tt) low,
    ) refl

high_letter : (i b : ℕ) → 90 < b → letter i b ≡ b ∷ []
unfolding letter number_letter
high_letter i b high =
    rw (
      high_differs b 65 (lit≤ tt) high,
      high_differs b 66 (lit≤ tt) high,
      high_differs b 79 (lit≤ tt) high,
      high_differs b 88 (lit≤ tt) high,
      high_differs b 89 (lit≤ tt) high,
      high_differs b 90 (lit≤ tt) high,
      high_differs b 76 (lit≤ tt) high,
      high_differs b 73 (lit≤ tt) high,
      high_differs b 74 (lit≤ tt) high,
    ) refl

run_goes_on : (i : ℕ) (template text : List ℕ) (start at : ℕ) → start ≤ at → at < length template
    → letter i (slice_index template at) ≡ slice_index template at ∷ []
    → text ++ slice_range template start (at + 1) ≡ (text ++ slice_range template start at) ++ letter i (slice_index template at)
run_goes_on i template text start at before within plain =
    ap (λ l. text ++ l) (between_more template start at 0 before within)
    ∙ (sym (append_assoc text (slice_range template start at) (slice_index template at ∷ []))
    ∙ ap (λ l. (text ++ slice_range template start at) ++ l) (sym plain))

pub low_goes_on : (i : ℕ) (template text : List ℕ) (start at : ℕ) → start ≤ at → at < length template → slice_index template at < 65
    → text ++ slice_range template start (at + 1) ≡ (text ++ slice_range template start at) ++ letter i (slice_index template at)
low_goes_on i template text start at before within low =
    run_goes_on i template text start at before within (low_letter i (slice_index template at) low)

pub high_goes_on : (i : ℕ) (template text : List ℕ) (start at : ℕ) → start ≤ at → at < length template → 90 < slice_index template at
    → text ++ slice_range template start (at + 1) ≡ (text ++ slice_range template start at) ++ letter i (slice_index template at)
high_goes_on i template text start at before within high =
    run_goes_on i template text start at before within (high_letter i (slice_index template at) high)

pub no_run : (template text : List ℕ) (at : ℕ) → text ++ slice_range template at at ≡ text
no_run template text at = ap (λ l. text ++ l) (between_none template at) ∙ append-nil text

pub filled_more : (i : ℕ) (template start : List ℕ) (at : ℕ) → at < length template
    → start ++ filled i (take (at + 1) template) ≡ (start ++ filled i (take at template)) ++ letter i (slice_index template at)
unfolding filled
filled_more i template start at within =
    ap (λ t. start ++ flat_map (letter i) t) (take_more template at 0 within)
    ∙ (ap (λ l. start ++ l) (flat_map-append (letter i) (take at template) (slice_index template at ∷ []))
    ∙ (ap (λ l. start ++ (flat_map (letter i) (take at template) ++ l)) (append-nil (letter i (slice_index template at)))
    ∙ sym (append_assoc start (flat_map (letter i) (take at template)) (letter i (slice_index template at)))))
