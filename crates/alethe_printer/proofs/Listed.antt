-- Items of a list, one after another.
use Rattle.std.proofs.Common.{◌≡◌, ℕ, ◌+◌, ◌<◌, ◌^◌, true, List, [], ◌∷◌, ◌++◌, decimal, refl, ap, ◌∙◌, arith, length, map}
use Rattle.std.proofs.lemmas.List.{append_assoc}
use Rattle.std.specs.List.{list_all}
use Rattle.std.proofs.lemmas.Bool.{and_parts}
use Rattle.std.specs.Char.{is_ascii_digit}
use Rattle.sexpr.specs.Characters.{is_word_byte}
use Rattle.sexpr.specs.Items.{Item, Items, item}
use Rattle.sexpr.specs.Printed.{symbol_item, printed, printed_all}
use Rattle.sexpr.specs.Printing.{is_plain_symbol}
use Rattle.sexpr.proofs.PrintedNumerals.{decimal_is}
use Rattle.alethe_text.specs.PrintedCommands.{symbol_items}
use Rattle.proof_store.specs.declared.answers.Ratio.{Ratio}
use Rattle.proof_store.specs.Ratios.{fraction_of_ratio}
use Rattle.printed_proofs.specs.Coefficients.{coefficient_item, coefficient_items}
use Rattle.printed_proofs.specs.Numbered.{printed_id}
use Rattle.printed_proofs.specs.Parts.{listed_text}

-- an id is printed without bars
digit_word : (b : ℕ) → is_ascii_digit b ≡ true → is_word_byte b ≡ true
unfolding is_word_byte
digit_word b e = rw e refl

words : (ds : List ℕ) → list_all is_ascii_digit ds ≡ true → list_all is_word_byte ds ≡ true
words [] e = refl
words (d ∷ ds) e =
    let both = and_parts (is_ascii_digit d) (list_all is_ascii_digit ds) e in
    let first = digit_word d both.0 in
    let others = words ds both.1 in
    rw (first, others) refl

plain_id : (a : ℕ) → a < 2 ^ 32 → is_plain_symbol (printed_id a) ≡ true
unfolding is_word_byte
plain_id a few =
    let digits = words (decimal (a + 1)) (decimal_is (a + 1) (omega (arith, few))).digits in
    rw digits refl

pub id_bytes : (a : ℕ) → a < 2 ^ 32 → printed (symbol_item (printed_id a)) ≡ printed_id a
id_bytes a few = let e = plain_id a few in rw e refl

-- a list behind a keyword
module _ (keyword old begun middle new : List ℕ) (first : begun ≡ old ++ 32 ∷ (keyword ++ (32 ∷ 40 ∷ []))) (last : new ≡ middle ++ 41 ∷ []) where
  listed : (i : Item) (is : Items) → middle ≡ begun ++ printed_all [] (item i is) → new ≡ old ++ listed_text keyword (item i is)
  listed i is e =
      let joined : ((old ++ 32 ∷ (keyword ++ (32 ∷ 40 ∷ []))) ++ printed_all [] (item i is)) ++ 41 ∷ [] ≡ old ++ listed_text keyword (item i is) =
      simp append_assoc in
      last ∙ (ap (λ x. x ++ 41 ∷ []) (e ∙ ap (λ x. x ++ printed_all [] (item i is)) first) ∙ joined)

  pub listed_ids : (xs : List ℕ) → 0 < length xs → middle ≡ begun ++ printed_all [] (symbol_items (map printed_id xs))
      → new ≡ old ++ listed_text keyword (symbol_items (map printed_id xs))
  listed_ids [] some e = absurd (omega (arith, some))
  listed_ids (x ∷ xs) some e = listed (symbol_item (printed_id x)) (symbol_items (map printed_id xs)) e

  pub listed_ratios : (qs : List Ratio) → 0 < length qs → middle ≡ begun ++ printed_all [] (coefficient_items (map fraction_of_ratio qs))
      → new ≡ old ++ listed_text keyword (coefficient_items (map fraction_of_ratio qs))
  listed_ratios [] some e = absurd (omega (arith, some))
  listed_ratios (q ∷ qs) some e = listed (coefficient_item (fraction_of_ratio q)) (coefficient_items (map fraction_of_ratio qs)) e
