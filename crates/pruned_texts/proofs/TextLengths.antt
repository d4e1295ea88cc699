-- A text has at least as many bytes as items.
use Rattle.std.proofs.Common.{◌≤◌, ◌<◌, ◌+◌, ◌-◌, ℕ, List, [], ◌∷◌, length, drop, sym, ap, subst, arith}
use Rattle.std.proofs.lemmas.List.{length-drop, length-take}
use Rattle.sexpr.specs.declared.lexing.Token.{Token}
use Rattle.sexpr.specs.declared.lexing.TokenKind.{TokenKind}
use Rattle.sexpr.specs.declared.lexing.TokenKind.TheVariants.{Open, Close, Text, Quoted, Word}
use Rattle.sexpr.specs.Grammar.{IsSpelling}
use Rattle.sexpr.specs.Tokens.{AreTokens, token_text}
use Rattle.sexpr.specs.Items.{Item, word, quoted, string, list, Items, no_items, item, IsItem, AreItems, StandsForItems}
use Rattle.sexpr.proofs.Respelling.{skips_length}
use Rattle.alethe_text.proofs.SymbolNames.{AreSpelled}

-- how many items there are
abbrev pub counted : Items → ℕ
counted no_items = 0
counted (item i rest) = 1 + counted rest

-- each item has a token
mutual
  item_counts : (source : List ℕ) (i : Item) (tokens rest : List Token) → IsItem source tokens i rest → 1 + length rest ≤ length tokens
  item_counts source (word place spelling) tokens rest t = omega (arith, ap length t.first)
  item_counts source (quoted place spelling) tokens rest t = omega (arith, ap length t.first)
  item_counts source (string place spelling) tokens rest t = omega (arith, ap length t.first)
  item_counts source (list place items) tokens rest (opened, inside, after, closed, first, same, there, last) =
      omega (arith, ap length first.first, items_count source items inside after there, ap length last.first)

  items_count : (source : List ℕ) (items : Items) (tokens rest : List Token) → AreItems source tokens items rest → counted items + length rest ≤ length tokens
  items_count source no_items tokens rest e = omega (arith, ap length e)
  items_count source (item i others) tokens rest (after, first, there) =
      omega (arith, item_counts source i tokens after first, items_count source others after rest there)

spelling_some : (kind : TokenKind) (spelling : List ℕ) → IsSpelling kind spelling → 0 < length spelling
spelling_some Open spelling h = subst (λ s. 0 < length s) (sym h) (omega arith)
spelling_some Close spelling h = subst (λ s. 0 < length s) (sym h) (omega arith)
spelling_some Text spelling h = subst (λ s. 0 < length s) (sym h.in_quotes) (omega arith)
spelling_some Quoted spelling h = subst (λ s. 0 < length s) (sym h.in_bars) (omega arith)
spelling_some Word spelling h = h.some

tokens_fit : AreSpelled → (text : List ℕ) (at : ℕ) (tokens : List Token) → AreTokens text at tokens → length tokens ≤ length text - at
tokens_fit law text at [] h = omega arith
tokens_fit law text at (t ∷ ts) h =
    let next = law text at t h.0 in
    let some = spelling_some t.kind (token_text text t) next.spelled in
    let cut = length-take (t.end - t.start) (drop t.start text) in
    omega (arith, skips_length _ next.before, length-drop t.start text, length-drop at text, some, cut, tokens_fit law text t.end ts h.1)

-- a text has no more items than bytes
pub text_counts : AreSpelled → (source : List ℕ) (items : Items) → StandsForItems source items → counted items ≤ length source
text_counts law source items h = omega (arith, items_count source items h.tokens [] h.nested, tokens_fit law source 0 h.tokens h.read)
