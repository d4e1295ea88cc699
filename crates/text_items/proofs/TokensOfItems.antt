-- Each token of a text of items that closes no list begins an item.
use Rattle.std.proofs.Common.{◌≡◌, ℕ, List, [], ◌∷◌, ◌++◌, Some, None, Ok, sym, ap, ◌∙◌, subst, ◌⊎◌, inl, inr}
use Rattle.sexpr.specs.declared.lexing.Lexer.{Lexer}
use Rattle.sexpr.specs.declared.lexing.Token.{Token}
use Rattle.sexpr.specs.declared.lexing.TokenKind.TheVariants.{Close}
use Rattle.sexpr.specs.Source.{source}
use Rattle.sexpr.specs.Tokens.{Read, ReadsAs, AreTokens}
use Rattle.sexpr.specs.Items.{Item, word, quoted, string, list, Items, no_items, item, IsItem, AreItems}
use Rattle.sexpr.specs.Form.{HasForm}
use Rattle.text_items.specs.Lexers.{IsFirstOfItem, GoesOnWith}

record BeginsItem (text : List ℕ) (tokens : List Token) : Type 0 where
  begun : Item
  rest : List Token
  is : IsItem text tokens begun rest

-- the tokens end with these
record EndsWith (tokens tail : List Token) : Type 0 where
  front : List Token
  split : tokens ≡ front ++ tail

same_tail : (tokens : List Token) (t u : Token) (rest others : List Token) → tokens ≡ t ∷ rest → tokens ≡ u ∷ others → rest ≡ others
same_tail tokens t u rest others h k = cc

same_head : (tokens : List Token) (t u : Token) (rest others : List Token) → tokens ≡ t ∷ rest → tokens ≡ u ∷ others → t ≡ u
same_head tokens t u rest others h k = cc

never_empty : (front : List Token) (t : Token) (after : List Token) → [] ≡ front ++ t ∷ after → ⊥
never_empty [] t after e = cc
never_empty (u ∷ front) t after e = cc

at_front : (text : List ℕ) (t : Token) (after tokens : List Token) (i : Item) (rest : List Token) → IsItem text tokens i rest → tokens ≡ t ∷ after → BeginsItem text (t ∷ after)
at_front text t after tokens i rest is e = record { begun = i; rest = rest; is = subst (λ ts. IsItem text ts i rest) e is }

in_token : (text : List ℕ) (t : Token) (after tokens : List Token) (i : Item) (rest : List Token) (u : Token) → IsItem text tokens i rest → tokens ≡ u ∷ rest
    → (front : List Token) → tokens ≡ front ++ t ∷ after → EndsWith rest (t ∷ after) ⊎ BeginsItem text (t ∷ after)
in_token text t after tokens i rest u is first [] e = inr (at_front text t after tokens i rest is e)
in_token text t after tokens i rest u is first (b ∷ front) e = inl (record { front = front; split = same_tail tokens u b rest (front ++ t ∷ after) first e })

-- past the closing bracket of a list
past_close : (text : List ℕ) (t : Token) (after inside rest : List Token) (bracket : Token) → (t.kind ≡ Close → ⊥) → bracket.kind ≡ Close → inside ≡ bracket ∷ rest
    → EndsWith inside (t ∷ after) ⊎ BeginsItem text (t ∷ after) → EndsWith rest (t ∷ after) ⊎ BeginsItem text (t ∷ after)
past_close text t after inside rest bracket differs closes first (inr b) = inr b
past_close text t after inside rest bracket differs closes first (inl h) = go h.front h.split
  where
    go : (front : List Token) → inside ≡ front ++ t ∷ after → EndsWith rest (t ∷ after) ⊎ BeginsItem text (t ∷ after)
    go [] e = absurd (differs (ap (λ u. u.kind) (same_head inside t bracket after rest e first) ∙ closes))
    go (b ∷ front) e = inl (record { front = front; split = same_tail inside bracket b rest (front ++ t ∷ after) first e })

-- past one item, and then through the others
and_on : (text : List ℕ) (t : Token) (after middle rest : List Token) → EndsWith middle (t ∷ after) ⊎ BeginsItem text (t ∷ after)
    → ((front : List Token) → middle ≡ front ++ t ∷ after → EndsWith rest (t ∷ after) ⊎ BeginsItem text (t ∷ after)) → EndsWith rest (t ∷ after) ⊎ BeginsItem text (t ∷ after)
and_on text t after middle rest (inr b) others = inr b
and_on text t after middle rest (inl h) others = others h.front h.split

-- A token among those of an item begins an item, or stands behind that item.
mutual
  in_item : (text : List ℕ) (t : Token) (after : List Token) → (t.kind ≡ Close → ⊥) → (tokens : List Token) (i : Item) (rest : List Token) → IsItem text tokens i rest
      → (front : List Token) → tokens ≡ front ++ t ∷ after → EndsWith rest (t ∷ after) ⊎ BeginsItem text (t ∷ after)
  in_item text t after differs tokens (word p s) rest is front e = in_token text t after tokens (word p s) rest is.token is is.first front e
  in_item text t after differs tokens (quoted p s) rest is front e = in_token text t after tokens (quoted p s) rest is.token is is.first front e
  in_item text t after differs tokens (string p s) rest is front e = in_token text t after tokens (string p s) rest is.token is is.first front e
  in_item text t after differs tokens (list p items) rest is [] e = inr (at_front text t after tokens (list p items) rest is e)
  in_item text t after differs tokens (list p items) rest (bracket, inside, behind, closing, opens, start, nested, closes) (b ∷ front) e =
      past_close text t after behind rest closing differs closes.same_kind closes.first
      (in_items text t after differs inside items behind nested front (same_tail tokens bracket b inside (front ++ t ∷ after) opens.first e))

  in_items : (text : List ℕ) (t : Token) (after : List Token) → (t.kind ≡ Close → ⊥) → (tokens : List Token) (items : Items) (rest : List Token) → AreItems text tokens items rest
      → (front : List Token) → tokens ≡ front ++ t ∷ after → EndsWith rest (t ∷ after) ⊎ BeginsItem text (t ∷ after)
  in_items text t after differs tokens no_items rest are front e = inl (record { front = front; split = sym are ∙ e })
  in_items text t after differs tokens (item i others) rest (middle, is, are) front e =
      and_on text t after middle rest (in_item text t after differs tokens i middle is front e)
      (λ back f. in_items text t after differs middle others rest are back f)

-- the tokens of a text are those before one that is read, it, and those after it
record Splits (text : List ℕ) (before : List Token) (t : Token) (tokens : List Token) : Type 0 where
  after : List Token
  split : tokens ≡ before ++ t ∷ after
  read : AreTokens text t.end after

some_same : (a b : Token) → ◌≡◌ {A = Read} (Ok (Some a)) (Ok (Some b)) → a ≡ b
some_same a b e = cc

some_or_none : (a : Token) → ◌≡◌ {A = Read} (Ok (Some a)) (Ok None) → ⊥
some_or_none a e = cc

splits : (text : List ℕ) (at : ℕ) (before : List Token) (t : Token) (tokens : List Token) → ReadsAs text at before (Ok (Some t)) → AreTokens text at tokens → Splits text before t tokens
splits text at [] t [] h k = absurd (some_or_none t (sym h ∙ k))
splits text at [] t (u ∷ us) h k =
    let same = some_same u t (sym k.0 ∙ h) in
    record { after = us; split = ap (λ v. v ∷ us) same; read = subst (λ (v : Token). AreTokens text v.end us) same k.1 }
splits text at (b ∷ before) t [] h k = absurd (some_or_none b (sym h.0 ∙ k))
splits text at (b ∷ before) t (u ∷ us) h k =
    let same = some_same u b (sym k.0 ∙ h.0) in
    let s = splits text b.end before t us h.1 (subst (λ (v : Token). AreTokens text v.end us) same k.1) in
    record { after = s.after; split = ap (λ v. v ∷ us) same ∙ ap (λ vs. b ∷ vs) s.split; read = s.read }

pub items_begin : (l : Lexer) (t : Token) → HasForm (source l) → IsFirstOfItem l t → (i : Item) × (rest : List Token) × GoesOnWith l t i rest
items_begin l t (items, form) is =
    let s = splits (source l) 0 is.before t form.tokens is.read form.read in
    go s (in_items (source l) t s.after is.begins form.tokens items [] form.nested is.before s.split)
  where
    go : (s : Splits (source l) is.before t form.tokens) → EndsWith [] (t ∷ s.after) ⊎ BeginsItem (source l) (t ∷ s.after) → (i : Item) × (rest : List Token) × GoesOnWith l t i rest
    go s (inl h) = absurd (never_empty h.front t s.after h.split)
    go s (inr b) = (b.begun, b.rest, record { after = s.after; read = subst (λ p. AreTokens (source l) p s.after) (sym is.behind) s.read; item = b.is })
