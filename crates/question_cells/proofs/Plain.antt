-- Items without definitions, and how many tokens items have.
use Rattle.std.proofs.Common.{◌≡◌, ℕ, ◌+◌, ◌<◌, Bool, true, false, ◌||◌, List, [], ◌∷◌, length, refl, ap, subst, arith}
use Rattle.std.specs.Option.{option_map_or}
use Rattle.sexpr.specs.declared.lexing.Token.{Token}
use Rattle.sexpr.specs.declared.lexing.TokenKind.{TokenKind}
use Rattle.sexpr.specs.declared.lexing.TokenKind.TheVariants.{Text, Quoted, Word}
use Rattle.sexpr.specs.Items.{Item, word, quoted, string, list, Items, no_items, item, symbol_name, name_spelled, IsToken, IsItem, AreItems}
use Rattle.sexpr.specs.Tokens.{token_text}
use Rattle.problem_text.specs.Words.{is_among}
use Rattle.question_cells.specs.Definitions.{is_open, defining_words, is_defining, defines_in}

-- the first of the items is one of these words
abbrev pub names_first : Items → Bool
names_first no_items = false
names_first (item i rest) = option_map_or (is_among defining_words) (symbol_name i) false

-- no list in the item begins with one of these words
abbrev mutual
  pub IsPlain : Item → Type 0
  IsPlain (word place s) = Unit {0}
  IsPlain (quoted place s) = Unit {0}
  IsPlain (string place s) = Unit {0}
  IsPlain (list place items) = (names_first items ≡ false) × ArePlain items

  pub ArePlain : Items → Type 0
  ArePlain no_items = Unit {0}
  ArePlain (item i rest) = IsPlain i × ArePlain rest

-- how many tokens an item has
abbrev mutual
  pub tokens_in : Item → ℕ
  tokens_in (word place s) = 1
  tokens_in (quoted place s) = 1
  tokens_in (string place s) = 1
  tokens_in (list place items) = 2 + tokens_of items

  pub tokens_of : Items → ℕ
  tokens_of no_items = 0
  tokens_of (item i rest) = tokens_in i + tokens_of rest

pub some_token : (i : Item) → 0 < tokens_in i
some_token (word place s) = omega arith
some_token (quoted place s) = omega arith
some_token (string place s) = omega arith
some_token (list place items) = omega arith

pub or_left : (a b : Bool) → (a || b) ≡ false → a ≡ false
or_left true b e = absurd cc
or_left false b e = refl

pub or_right : (a b : Bool) → (a || b) ≡ false → b ≡ false
or_right true b e = absurd cc
or_right false b e = e

-- what the tokens of an item tell of it and of what is behind it
record TellsItem (text : List ℕ) (tokens : List Token) (i : Item) (rest : List Token) : Type 0 where
  count : length tokens ≡ tokens_in i + length rest
  plain : (opened : Bool) → defines_in text opened tokens ≡ false → IsPlain i × (defines_in text false rest ≡ false)
  first : defines_in text true tokens ≡ false → option_map_or (is_among defining_words) (symbol_name i) false ≡ false

record TellsItems (text : List ℕ) (tokens : List Token) (is : Items) (rest : List Token) : Type 0 where
  count : length tokens ≡ tokens_of is + length rest
  plain : (opened : Bool) → defines_in text opened tokens ≡ false → ArePlain is × (last : Bool) × (defines_in text last rest ≡ false)
  first : defines_in text true tokens ≡ false → names_first is ≡ false

one_token : (text : List ℕ) (tokens rest : List Token) (kind : TokenKind) (place : ℕ) (s : List ℕ) → IsToken text tokens kind place s rest
    → length tokens ≡ 1 + length rest
one_token text tokens rest kind place s is = let e : length tokens ≡ length (is.token ∷ rest) = ap length is.first in omega (arith, e)

behind_token : (text : List ℕ) (tokens rest : List Token) (kind : TokenKind) (place : ℕ) (s : List ℕ) → IsToken text tokens kind place s rest
    → (opened : Bool) → defines_in text opened tokens ≡ false → defines_in text (is_open kind) rest ≡ false
behind_token text tokens rest kind place s is opened e =
    let h : defines_in text opened (is.token ∷ rest) ≡ false = subst (λ l. defines_in text opened l ≡ false) is.first e in
    subst (λ k. defines_in text (is_open k) rest ≡ false) is.same_kind (or_right _ _ h)

first_token : (text : List ℕ) (tokens rest : List Token) (kind : TokenKind) (place : ℕ) (s : List ℕ) → IsToken text tokens kind place s rest
    → defines_in text true tokens ≡ false → option_map_or (is_among defining_words) (name_spelled kind s) false ≡ false
first_token text tokens rest kind place s is e =
    let h : defines_in text true (is.token ∷ rest) ≡ false = subst (λ l. defines_in text true l ≡ false) is.first e in
    let named : is_defining text is.token ≡ false = or_left _ _ h in
    subst (λ x. option_map_or (is_among defining_words) (name_spelled kind x) false ≡ false) is.same_spelling
    (subst (λ k. option_map_or (is_among defining_words) (name_spelled k (token_text text is.token)) false ≡ false) is.same_kind named)

mutual
  tells_item : (text : List ℕ) (tokens : List Token) (i : Item) (rest : List Token) → IsItem text tokens i rest → TellsItem text tokens i rest
  tells_item text tokens (word place s) rest is = record {
    count = one_token text tokens rest Word place s is;
    plain = λ opened e. (tt, behind_token text tokens rest Word place s is opened e);
    first = λ e. first_token text tokens rest Word place s is e;
  }
  tells_item text tokens (quoted place s) rest is = record {
    count = one_token text tokens rest Quoted place s is;
    plain = λ opened e. (tt, behind_token text tokens rest Quoted place s is opened e);
    first = λ e. first_token text tokens rest Quoted place s is e;
  }
  tells_item text tokens (string place s) rest is = record {
    count = one_token text tokens rest Text place s is;
    plain = λ opened e. (tt, behind_token text tokens rest Text place s is opened e);
    first = λ e. refl;
  }
  tells_item text tokens (list place items) rest (o, inside, after, c, opens, start, nested, closes) =
      let f = tells_items text inside items after nested in
      let many : length tokens ≡ length (o ∷ inside) = ap length opens.first in
      let fewer : length after ≡ length (c ∷ rest) = ap length closes.first in
      record {
        count = omega (arith, many, fewer, f.count);
        plain = λ opened e.
            let h : defines_in text opened (o ∷ inside) ≡ false = subst (λ l. defines_in text opened l ≡ false) opens.first e in
            let within : defines_in text true inside ≡ false = subst (λ k. defines_in text (is_open k) inside ≡ false) opens.same_kind (or_right _ _ h) in
            let g = f.plain true within in
            let k : defines_in text g.1 (c ∷ rest) ≡ false = subst (λ l. defines_in text g.1 l ≡ false) closes.first g.2 in
            ((f.first within, g.0), subst (λ k. defines_in text (is_open k) rest ≡ false) closes.same_kind (or_right _ _ k));
        first = λ e. refl;
      }

  tells_items : (text : List ℕ) (tokens : List Token) (is : Items) (rest : List Token) → AreItems text tokens is rest → TellsItems text tokens is rest
  tells_items text tokens no_items rest are = record {
    count = let e : length tokens ≡ length rest = ap length are in omega (arith, e);
    plain = λ opened e. (tt, opened, subst (λ l. defines_in text opened l ≡ false) are e);
    first = λ e. refl;
  }
  tells_items text tokens (item i is) rest (after, one, others) =
      let f = tells_item text tokens i after one in
      let g = tells_items text after is rest others in
      record {
        count = omega (arith, f.count, g.count);
        plain = λ opened e.
            let h = f.plain opened e in
            let k = g.plain false h.1 in
            ((h.0, k.0), k.1, k.2);
        first = f.first;
      }

pub record TellsText (tokens : List Token) (is : Items) : Type 0 where
  pub count : tokens_of is ≡ length tokens
  pub plain : ArePlain is

pub tells_text : (text : List ℕ) (tokens : List Token) (is : Items) → AreItems text tokens is [] → defines_in text false tokens ≡ false → TellsText tokens is
tells_text text tokens is are none =
    let f = tells_items text tokens is [] are in
    record { count = omega (arith, f.count); plain = (f.plain false none).0 }
