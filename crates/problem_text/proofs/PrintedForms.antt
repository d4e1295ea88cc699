-- Cited by crates above. The forms of printed items.
use Rattle.std.proofs.Common.{◌+◌, ◌<◌, ◌^◌, nat_lt, length, decimal, eqb-true, arith, ◌≡◌, ℕ, Bool, true, false, not, ◌&&◌, ◌==◌}
use Rattle.std.proofs.Common.{if◌then◌else◌, Some, None, List, [], ◌∷◌, ◌++◌, codes, refl, ap, ◌∙◌, subst}
use Rattle.std.specs.List.{list_all}
use Rattle.std.specs.Char.{is_ascii_digit}
use Rattle.std.proofs.lemmas.Bool.{and_parts}
use Rattle.std.proofs.lemmas.Bool.Decides.{nat_tests}
use Rattle.sexpr.specs.Characters.{is_word_byte}
use Rattle.sexpr.specs.Words.{is_symbol, is_keyword, is_bit_literal, starts_with_digit, is_numeral, numeral_value}
use Rattle.sexpr.specs.Items.{Item, word, quoted, list, Items, no_items, item, place_of, symbol_name}
use Rattle.sexpr.specs.Printing.{is_plain_symbol}
use Rattle.sexpr.specs.Printed.{symbol_item, IsSymbolItem, placed, printed}
use Rattle.sexpr.proofs.PrintedNumerals.{decimal_is}
use Rattle.sexpr.proofs.ReadingBack.{between}
use Rattle.text_items.specs.ItemShapes.{pairs_fault, Name}
use Rattle.text_items.specs.Keywords.{keyword_of}
use Rattle.problem_text.specs.Forms.{bindings_fault, number, symbol, application, let_form, annotated, form, bind}
use Rattle.problem_text.specs.Forms.{word_form, form_of, forms_of, binds_of, binds_in}
use Rattle.problem_text.specs.PrintedTerms.{IsUsable, MayLead, named_item}

-- a plain symbol is no other kind of word
record IsNoOther (name : List ℕ) : Type 0 where
  keyword : is_keyword name ≡ false
  bits : is_bit_literal name ≡ false
  digit : starts_with_digit name ≡ false

three : (d x y : Bool) → (not d && not x && not y) ≡ true → (d ≡ false) × (x ≡ false) × (y ≡ false)
three true x y e = absurd (let f : false ≡ true = e in cc)
three false true y e = absurd (let f : false ≡ true = e in cc)
three false false true e = absurd (let f : false ≡ true = e in cc)
three false false false e = (refl, refl, refl)

no_other : (name : List ℕ) → is_symbol name ≡ true → IsNoOther name
no_other [] e = absurd (let f : false ≡ true = e in cc)
no_other (b ∷ name) e = let t = three (is_ascii_digit b) (b == 58) (b == 35) e in record { keyword = t.1; bits = t.2; digit = t.0 }

abbrev pub here : ℕ → List ℕ → Name
here at name = record { place = at; name = name }

symbol_as : (at : ℕ) (name : List ℕ) (plain : Bool) → is_plain_symbol name ≡ plain → IsUsable name
    → form_of (placed at (if plain then word 0 name else quoted 0 (124 ∷ (name ++ 124 ∷ [])))) ≡ symbol (here at name)
unfolding form_of
symbol_as at name true e free =
    let o = no_other name (and_parts (is_symbol name) (list_all is_word_byte name) e).0 in
    let k = o.keyword in
    let b = o.bits in
    let d = o.digit in
    rw (k, b, d, free) refl
symbol_as at name false e free = rw (between name, free) refl

pub symbol_formed : (at : ℕ) (name : List ℕ) → IsUsable name → form_of (placed at (symbol_item name)) ≡ symbol (here at name)
symbol_formed at name free = symbol_as at name (is_plain_symbol name) refl free

keyword_as : (at : ℕ) (name : List ℕ) (plain : Bool) → is_plain_symbol name ≡ plain
    → keyword_of (placed at (if plain then word 0 name else quoted 0 (124 ∷ (name ++ 124 ∷ [])))) ≡ None
keyword_as at name true e =
    let k = (no_other name (and_parts (is_symbol name) (list_all is_word_byte name) e).0).keyword in rw k refl
keyword_as at name false e = refl

pub symbol_no_keyword : (at : ℕ) (name : List ℕ) → keyword_of (placed at (symbol_item name)) ≡ None
symbol_no_keyword at name = keyword_as at name (is_plain_symbol name) refl

place_as : (at : ℕ) (name : List ℕ) (plain : Bool) → place_of (placed at (if plain then word 0 name else quoted 0 (124 ∷ (name ++ 124 ∷ [])))) ≡ at
place_as at name true = refl
place_as at name false = refl

pub symbol_place : (at : ℕ) (name : List ℕ) → place_of (placed at (symbol_item name)) ≡ at
symbol_place at name = place_as at name (is_plain_symbol name)

pub application_formed : (at : ℕ) (head i : Item) (rest : Items) (name : List ℕ) → symbol_name head ≡ Some name → MayLead name
    → form_of (list at (item head (item i rest))) ≡ application at (record { place = place_of head; name = name }) (form (form_of i) (forms_of rest))
unfolding form_of
application_formed at head i rest name named h =
    let l = h.no_let in
    let m = h.no_mark in
    let f = h.usable in
    rw (named, l, m, f) refl

annotated_of : (a b c : ℕ) (n i : Item) (name : List ℕ) → symbol_name n ≡ Some name → keyword_of n ≡ None
    → form_of (list a (item (word b (codes "!")) (item i (item (word c (codes ":named")) (item n no_items)))))
    ≡ annotated a (form_of i) (record { place = place_of n; name = name } ∷ [])
unfolding form_of
annotated_of a b c n i name named key = rw (named, key) refl

-- the term behind `(! ` stands three further on
pub named_formed : (at : ℕ) (i : Item) (name : List ℕ) → IsSymbolItem name
    → (k : ℕ) × (form_of (placed at (named_item i name)) ≡ annotated at (form_of (placed (at + 1 + 0 + 1 + 1) i)) (here k name ∷ []))
named_formed at i name is =
    let k : ℕ = at + 1 + 0 + 1 + 1 + length (printed i) + 1 + 6 + 1 in (
      k,
      annotated_of at _ _ (placed k (symbol_item name)) _ name (is.named k) (symbol_no_keyword k name)
          ∙ ap (λ m. annotated at (form_of (placed (at + 1 + 0 + 1 + 1) i)) (here m name ∷ [])) (symbol_place k name),
    )

-- numerals
no_digit : (d c : ℕ) → is_ascii_digit c ≡ false → is_ascii_digit d ≡ true → (d == c) ≡ false
no_digit d c none is = go (d == c) refl
  where
    go : (test : Bool) → (d == c) ≡ test → test ≡ false
    go true e = let f : is_ascii_digit c ≡ true = subst (λ x. is_ascii_digit x ≡ true) (eqb-true d c e) is in absurd (cc)
    go false e = refl

number_of : (at n : ℕ) (ds : List ℕ) → list_all is_ascii_digit ds ≡ true → is_numeral ds ≡ true → numeral_value ds ≡ n
    → nat_lt n (2 ^ 127) ≡ true → form_of (word at ds) ≡ number at n
unfolding form_of
number_of at n [] all is value low = absurd (let f : false ≡ true = is in cc)
number_of at n (d ∷ ds) all is value low =
    let digit = (and_parts (is_ascii_digit d) (list_all is_ascii_digit ds) all).0 in
    let k : (d == 58) ≡ false = no_digit d 58 refl digit in
    let b : (d == 35) ≡ false = no_digit d 35 refl digit in
    numbered k b digit
  where
    numbered : (d == 58) ≡ false → (d == 35) ≡ false → is_ascii_digit d ≡ true → word_form at (d ∷ ds) ≡ number at n
    numbered k b digit = rw (k, b, digit, is, value, low) refl

pub numeral_formed : (at n : ℕ) → n < 2 ^ 127 → form_of (word at (decimal n)) ≡ number at n
numeral_formed at n low =
    let h = decimal_is n (omega (arith, low)) in
    number_of at n (decimal n) h.digits h.numeral h.value (grind (arith, nat_tests, low))

-- lets
pub let_formed : (a b : ℕ) (pairs body : Item) → bindings_fault pairs ≡ None
    → form_of (list a (item (word b (codes "let")) (item pairs (item body no_items)))) ≡ let_form a (binds_of pairs) (form_of body)
unfolding form_of
let_formed a b pairs body well = rw well refl

pub pair_formed : (a : ℕ) (x t : Item) (others : Items) (name : List ℕ) → symbol_name x ≡ Some name
    → binds_in (item (list a (item x (item t no_items))) others) ≡ bind (record { place = place_of x; name = name }) (form_of t) (binds_in others)
unfolding form_of
pair_formed a x t others name named = rw named refl

pub pair_well : (a : ℕ) (x t : Item) (others : Items) (name : List ℕ) → symbol_name x ≡ Some name → pairs_fault others ≡ None
    → pairs_fault (item (list a (item x (item t no_items))) others) ≡ None
pair_well a x t others name named rest = rw (named, rest) refl
