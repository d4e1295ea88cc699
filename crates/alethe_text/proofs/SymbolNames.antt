-- The names of a text's symbols have neither a bar nor a backslash.
use Rattle.std.proofs.Common.{◌≡◌, ◌≢◌, ℕ, List, [], ◌∷◌, Bool, true, false, Some, None, sym, subst, if◌then◌else◌, unwrap_or}
use Rattle.std.specs.Prelude.{Ok}
use Rattle.std.specs.List.{AllByRecursion}
use Rattle.std.proofs.lemmas.List.Elements.{All-nil}
use Rattle.sexpr.specs.declared.lexing.Token.{Token}
use Rattle.sexpr.specs.declared.lexing.TokenKind.{TokenKind}
use Rattle.sexpr.specs.declared.lexing.TokenKind.TheVariants.{Open, Close, Text, Quoted, Word}
use Rattle.sexpr.specs.Characters.{is_word_byte, is_mark, is_between_bars}
use Rattle.sexpr.specs.Grammar.{IsSpelling, IsSpelledNext, IsWord, IsQuoted}
use Rattle.sexpr.specs.Tokens.{next_token, AreTokens, token_text}
use Rattle.sexpr.specs.Words.{is_symbol, between_bars}
use Rattle.sexpr.specs.Items.{Item, word, quoted, string, list, Items, no_items, item, IsToken, IsBracket, IsItem, AreItems, StandsForItems}
use Rattle.sexpr.proofs.ReadingBack.{between}
use Rattle.rule_model.specs.RuleNames.{IsSymbolName}
use Rattle.text_items.specs.ItemShapes.{name_at}
use Rattle.alethe_text.specs.CommandNames.{HasNames, HaveNames}

-- each token that is read is spelled by the grammar
abbrev pub AreSpelled : Type 0
AreSpelled = (text : List ℕ) (at : ℕ) (t : Token) → next_token text at ≡ Ok (Some t) → IsSpelledNext text at t

plain_byte : (b : ℕ) → is_word_byte b ≡ true → (b ≢ 124) × (b ≢ 92)
unfolding is_word_byte is_mark
plain_byte b h = (λ e. bar (subst (λ b. is_word_byte b ≡ true) e h), λ e. slash (subst (λ b. is_word_byte b ≡ true) e h))
  where
    bar : is_word_byte 124 ≡ true → ⊥
    bar e = cc

    slash : is_word_byte 92 ≡ true → ⊥
    slash e = cc

byte_between : (b : ℕ) → is_between_bars b ≡ true → (b ≢ 124) × (b ≢ 92)
byte_between b h = (λ e. bar (subst (λ b. is_between_bars b ≡ true) e h), λ e. slash (subst (λ b. is_between_bars b ≡ true) e h))
  where
    bar : is_between_bars 124 ≡ true → ⊥
    bar e = cc

    slash : is_between_bars 92 ≡ true → ⊥
    slash e = cc

word_names : (spelling : List ℕ) → IsWord spelling → IsSymbolName spelling
word_names spelling h = λ k d within. plain_byte _ (h.bytes k d within)

quoted_names : (spelling : List ℕ) → IsQuoted spelling → IsSymbolName (between_bars spelling)
quoted_names spelling h =
    subst (λ s. IsSymbolName (between_bars s)) (sym h.in_bars)
    (subst IsSymbolName (sym (between h.inside)) (λ k d within. byte_between _ (h.is_inside k d within)))

abbrev HaveSpelling : List ℕ → List Token → Type 0
HaveSpelling source tokens = AllByRecursion (λ t. IsSpelling t.kind (token_text source t)) tokens

spelled : AreSpelled → (source : List ℕ) (at : ℕ) (tokens : List Token) → AreTokens source at tokens → HaveSpelling source tokens
spelled law source at [] h = tt
spelled law source at (t ∷ ts) h = ((law source at t h.0).spelled, spelled law source t.end ts h.1)

-- a token of this kind and spelling at the front
front : (source : List ℕ) (tokens : List Token) (kind : TokenKind) (place : ℕ) (spelling : List ℕ) (rest : List Token) → HaveSpelling source tokens → IsToken source tokens kind place spelling rest → IsSpelling kind spelling × HaveSpelling source rest
front source tokens kind place spelling rest h t =
    let both = subst (HaveSpelling source) t.first h in
    (subst (λ k. IsSpelling k spelling) t.same_kind (subst (IsSpelling t.token.kind) t.same_spelling both.0), both.1)

behind_bracket : (source : List ℕ) (tokens : List Token) (kind : TokenKind) (bracket : Token) (rest : List Token) → HaveSpelling source tokens → IsBracket tokens kind bracket rest → HaveSpelling source rest
behind_bracket source tokens kind bracket rest h b = (subst (HaveSpelling source) b.first h).1

mutual
  item_named : (source : List ℕ) (i : Item) (tokens rest : List Token) → HaveSpelling source tokens → IsItem source tokens i rest → HasNames i × HaveSpelling source rest
  item_named source (word place spelling) tokens rest h t = let both = front source tokens Word place spelling rest h t in (word_names spelling both.0, both.1)
  item_named source (quoted place spelling) tokens rest h t = let both = front source tokens Quoted place spelling rest h t in (quoted_names spelling both.0, both.1)
  item_named source (string place spelling) tokens rest h t = (tt, (front source tokens Text place spelling rest h t).1)
  item_named source (list place items) tokens rest h (opened, inside, after, closed, first, same, there, last) =
      let inner = items_named source items inside after (behind_bracket source tokens Open opened inside h first) there in
      (inner.0, behind_bracket source after Close closed rest inner.1 last)

  items_named : (source : List ℕ) (items : Items) (tokens rest : List Token) → HaveSpelling source tokens → AreItems source tokens items rest → HaveNames items × HaveSpelling source rest
  items_named source no_items tokens rest h e = (tt, subst (HaveSpelling source) e h)
  items_named source (item i others) tokens rest h (after, first, there) =
      let here = item_named source i tokens after h first in
      let behind = items_named source others after rest here.1 there in
      ((here.0, behind.0), behind.1)

-- the symbols of a text have names
pub text_named : AreSpelled → (source : List ℕ) (items : Items) → StandsForItems source items → HaveNames items
text_named law source items h = (items_named source items h.tokens [] (spelled law source 0 h.tokens h.read) h.nested).0

-- the name that an item has, which is empty where it is no symbol
pub name_is : (i : Item) → HasNames i → IsSymbolName (name_at i).name
name_is (word place spelling) h = go (is_symbol spelling)
  where
    go : (b : Bool) → IsSymbolName (unwrap_or (if b then Some spelling else None) [])
    go true = h
    go false = All-nil _
name_is (quoted place spelling) h = h
name_is (string place spelling) h = All-nil _
name_is (list place items) h = All-nil _
