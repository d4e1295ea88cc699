-- Tokens begin with one item at most, and a text stands for one list of items.
use Rattle.std.proofs.Common.{◌≡◌, ℕ, None, Ok, List, [], ◌∷◌, refl, sym, ap, ◌∙◌, subst}
use Rattle.sexpr.specs.declared.lexing.Token.{Token}
use Rattle.sexpr.specs.declared.lexing.TokenKind.{TokenKind}
use Rattle.sexpr.specs.declared.lexing.TokenKind.TheVariants.{Open, Close, Text, Quoted, Word}
use Rattle.sexpr.specs.Tokens.{token_text}
use Rattle.sexpr.specs.Items.{Item, word, quoted, string, list, Items, no_items, item, IsToken, IsBracket, IsItem, AreItems, StandsForItems}
use Rattle.sexpr.proofs.OneReading.{same_reads}

record SameFront (t u : Token) (rest others : List Token) : Type 0 where
  first : t ≡ u
  rests : rest ≡ others

same_front : (tokens : List Token) (t u : Token) (rest others : List Token) → tokens ≡ t ∷ rest → tokens ≡ u ∷ others → SameFront t u rest others
same_front tokens t u rest others h k = record { first = cc; rests = cc }

record SameToken (k l : TokenKind) (p q : ℕ) (s r : List ℕ) (rest others : List Token) : Type 0 where
  kind : k ≡ l
  place : p ≡ q
  spelling : s ≡ r
  rests : rest ≡ others

same_token : (source : List ℕ) (tokens : List Token) (k l : TokenKind) (p q : ℕ) (s r : List ℕ) (rest others : List Token)
    → IsToken source tokens k p s rest → IsToken source tokens l q r others → SameToken k l p q s r rest others
same_token source tokens k l p q s r rest others a b =
    let f = same_front tokens a.token b.token rest others a.first b.first in
    record {
      kind = sym a.same_kind ∙ ap (λ t. t.kind) f.first ∙ b.same_kind;
      place = sym a.same_place ∙ ap (λ t. t.start) f.first ∙ b.same_place;
      spelling = sym a.same_spelling ∙ ap (token_text source) f.first ∙ b.same_spelling;
      rests = f.rests;
    }

token_is_bracket : (source : List ℕ) (tokens : List Token) (k l : TokenKind) (p : ℕ) (s : List ℕ) (rest : List Token) (bracket : Token) (others : List Token)
    → IsToken source tokens k p s rest → IsBracket tokens l bracket others → k ≡ l
token_is_bracket source tokens k l p s rest bracket others a b =
    let f = same_front tokens a.token bracket rest others a.first b.first in
    sym a.same_kind ∙ ap (λ t. t.kind) f.first ∙ b.same_kind

-- no item begins there
abbrev HasEnded : List Token → Type 0
HasEnded tokens = (t : Token) (rest : List Token) → tokens ≡ t ∷ rest → t.kind ≡ Close

record BeginsItem (tokens : List Token) : Type 0 where
  first : Token
  others : List Token
  begins : tokens ≡ first ∷ others
  no_close : first.kind ≡ Close → ⊥

token_begins : (source : List ℕ) (tokens : List Token) (k : TokenKind) (p : ℕ) (s : List ℕ) (rest : List Token) → (k ≡ Close → ⊥) → IsToken source tokens k p s rest → BeginsItem tokens
token_begins source tokens k p s rest differs a = record { first = a.token; others = rest; begins = a.first; no_close = λ e. differs (sym a.same_kind ∙ e) }

item_begins : (source : List ℕ) (tokens : List Token) (i : Item) (rest : List Token) → IsItem source tokens i rest → BeginsItem tokens
item_begins source tokens (word p s) rest is = token_begins source tokens Word p s rest (λ e. cc) is
item_begins source tokens (quoted p s) rest is = token_begins source tokens Quoted p s rest (λ e. cc) is
item_begins source tokens (string p s) rest is = token_begins source tokens Text p s rest (λ e. cc) is
item_begins source tokens (list p items) rest (open_bracket, inside, after, close_bracket, opens, start, nested, closes) =
    record { first = open_bracket; others = inside; begins = opens.first; no_close = λ e. let f : Open ≡ Close = sym opens.same_kind ∙ e in cc }

ended_or_begun : (tokens : List Token) → HasEnded tokens → BeginsItem tokens → ⊥
ended_or_begun tokens ended begun = begun.no_close (ended begun.first begun.others begun.begins)

close_ends : (tokens : List Token) (bracket : Token) (rest : List Token) → IsBracket tokens Close bracket rest → HasEnded tokens
close_ends tokens bracket rest closes t others e =
    let f = same_front tokens bracket t rest others closes.first e in
    ap (λ t. t.kind) (sym f.first) ∙ closes.same_kind

mutual
  pub one_item : (source : List ℕ) (tokens : List Token) (a b : Item) (rest others : List Token) → IsItem source tokens a rest → IsItem source tokens b others → (a ≡ b) × (rest ≡ others)
  one_item source tokens (word p s) (word q r) rest others h k = let f = same_token source tokens Word Word p q s r rest others h k in (λ i. word (f.place i) (f.spelling i), f.rests)
  one_item source tokens (word p s) (quoted q r) rest others h k = let f = (same_token source tokens Word Quoted p q s r rest others h k).kind in absurd (cc)
  one_item source tokens (word p s) (string q r) rest others h k = let f = (same_token source tokens Word Text p q s r rest others h k).kind in absurd (cc)
  one_item source tokens (quoted p s) (word q r) rest others h k = let f = (same_token source tokens Quoted Word p q s r rest others h k).kind in absurd (cc)
  one_item source tokens (quoted p s) (quoted q r) rest others h k = let f = same_token source tokens Quoted Quoted p q s r rest others h k in (λ i. quoted (f.place i) (f.spelling i), f.rests)
  one_item source tokens (quoted p s) (string q r) rest others h k = let f = (same_token source tokens Quoted Text p q s r rest others h k).kind in absurd (cc)
  one_item source tokens (string p s) (word q r) rest others h k = let f = (same_token source tokens Text Word p q s r rest others h k).kind in absurd (cc)
  one_item source tokens (string p s) (quoted q r) rest others h k = let f = (same_token source tokens Text Quoted p q s r rest others h k).kind in absurd (cc)
  one_item source tokens (string p s) (string q r) rest others h k = let f = same_token source tokens Text Text p q s r rest others h k in (λ i. string (f.place i) (f.spelling i), f.rests)
  one_item source tokens (word p s) (list q items) rest others h (o, inside, after, c, opens, start, nested, closes) = let f = token_is_bracket source tokens Word Open p s rest o inside h opens in absurd (cc)
  one_item source tokens (quoted p s) (list q items) rest others h (o, inside, after, c, opens, start, nested, closes) = let f = token_is_bracket source tokens Quoted Open p s rest o inside h opens in absurd (cc)
  one_item source tokens (string p s) (list q items) rest others h (o, inside, after, c, opens, start, nested, closes) = let f = token_is_bracket source tokens Text Open p s rest o inside h opens in absurd (cc)
  one_item source tokens (list p items) (word q r) rest others (o, inside, after, c, opens, start, nested, closes) k = let f = token_is_bracket source tokens Word Open q r others o inside k opens in absurd (cc)
  one_item source tokens (list p items) (quoted q r) rest others (o, inside, after, c, opens, start, nested, closes) k = let f = token_is_bracket source tokens Quoted Open q r others o inside k opens in absurd (cc)
  one_item source tokens (list p items) (string q r) rest others (o, inside, after, c, opens, start, nested, closes) k = let f = token_is_bracket source tokens Text Open q r others o inside k opens in absurd (cc)
  one_item source tokens (list p items) (list q others_items) rest others (o, inside, after, c, opens, start, nested, closes) (o', inside', after', c', opens', start', nested', closes') =
      let f = same_front tokens o o' inside inside' opens.first opens'.first in
      let moved = subst (λ ts. AreItems source ts others_items after') (sym f.rests) nested' in
      let g = one_items source inside items others_items after after' nested moved (close_ends after c rest closes) (close_ends after' c' others closes') in
      let h = same_front after c c' rest others closes.first (g.1 ∙ closes'.first) in
      let place : p ≡ q = sym start ∙ ap (λ t. t.start) f.first ∙ start' in
      (λ i. list (place i) (g.0 i), h.rests)

  one_items : (source : List ℕ) (tokens : List Token) (xs ys : Items) (rest others : List Token) → AreItems source tokens xs rest → AreItems source tokens ys others → HasEnded rest → HasEnded others → (xs ≡ ys) × (rest ≡ others)
  one_items source tokens no_items no_items rest others h k ended also = (refl, sym h ∙ k)
  one_items source tokens no_items (item y ys) rest others h (after, is, are) ended also =
      absurd (ended_or_begun tokens (subst HasEnded (sym h) ended) (item_begins source tokens y after is))
  one_items source tokens (item x xs) no_items rest others (after, is, are) k ended also =
      absurd (ended_or_begun tokens (subst HasEnded (sym k) also) (item_begins source tokens x after is))
  one_items source tokens (item x xs) (item y ys) rest others (after, is, are) (after', is', are') ended also =
      let f = one_item source tokens x y after after' is is' in
      let moved = subst (λ ts. AreItems source ts ys others) (sym f.1) are' in
      let g = one_items source after xs ys rest others are moved ended also in
      (λ i. item (f.0 i) (g.0 i), g.1)

nothing_ended : HasEnded []
nothing_ended t rest e = absurd (cc)

pub one_text : (source : List ℕ) (a b : Items) → StandsForItems source a → StandsForItems source b → a ≡ b
one_text source a b h k =
    let tokens = (same_reads source h.tokens (Ok None) k.tokens (Ok None) h.read k.read (λ t e. cc) (λ t e. cc)).tokens in
    let moved = subst (λ ts. AreItems source ts b []) (sym tokens) k.nested in
    (one_items source h.tokens a b [] [] h.nested moved nothing_ended nothing_ended).0
