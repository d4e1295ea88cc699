-- Cited by crates above. A list depends on nothing but the bytes that it stands in.
use Rattle.std.proofs.Common.{◌≡◌, ℕ, ◌+◌, ◌-◌, ◌<◌, ◌≤◌, Some, Ok, List, [], ◌∷◌, ◌++◌, length, take, drop, refl, sym, ap, ◌∙◌, subst, arith, append_assoc, length-drop, length-take-le, ◌⊎◌, inl, inr}
use Rattle.std.proofs.lemmas.List.{append_cancel_right}
use Rattle.std.proofs.lemmas.List.Folds.{drop_split}
use Rattle.std.specs.Prelude.{slice_range}
use Rattle.sexpr.specs.declared.lexing.Token.{Token}
use Rattle.sexpr.specs.declared.lexing.TokenKind.{TokenKind}
use Rattle.sexpr.specs.declared.lexing.TokenKind.TheVariants.{Open, Close, Text, Quoted, Word}
use Rattle.sexpr.specs.Tokens.{next_token, token_text, IsSpanFrom}
use Rattle.sexpr.specs.Items.{Item, word, quoted, string, list, Items, no_items, item, IsToken, IsBracket, IsItem, AreItems}
use Rattle.sexpr.specs.Spans.{unplaced, all_unplaced, AreAlike, ReadsTo, IsListAt}
use Rattle.sexpr.specs.Grammar.{nothing, SkipsTo}
use Rattle.sexpr.proofs.Spelling.{spelled_next}
use Rattle.sexpr.proofs.Respelling.{read_next}
use Rattle.sexpr.proofs.MovedTokens.{moved, EndsInFront, IsMoved, token_moved}
use Rattle.sexpr.proofs.OneNesting.{one_item}

-- the last of the tokens closes a list
abbrev ClosesLast : List Token → Type 0
ClosesLast [] = Unit {0}
ClosesLast (t ∷ []) = t.kind ≡ Close
ClosesLast (t ∷ u ∷ ts) = ClosesLast (u ∷ ts)

-- tokens of the same kinds and spellings, in step
abbrev AreSpelledAlike : List ℕ → List ℕ → List Token → List Token → Type 0
AreSpelledAlike text other [] [] = Unit {0}
AreSpelledAlike text other [] (u ∷ us) = ⊥
AreSpelledAlike text other (t ∷ ts) [] = ⊥
AreSpelledAlike text other (t ∷ ts) (u ∷ us) = (t.kind ≡ u.kind) × (token_text text t ≡ token_text other u) × AreSpelledAlike text other ts us

record ReadThere (text other : List ℕ) (ts : List Token) (to end : ℕ) : Type 0 where
  tokens : List Token
  read : ReadsTo other to tokens end
  alike : AreSpelledAlike text other ts tokens
  same_first : (t : Token) (rest : List Token) → ts ≡ t ∷ rest → (u : Token) × (us : List Token) × (tokens ≡ u ∷ us)

reads_on : (text : List ℕ) (at end : ℕ) (ts : List Token) → ReadsTo text at ts end → at ≤ end
reads_on text at end [] read = let e = read in omega (arith, e)
reads_on text at end (t ∷ ts) read = let s = read.1 in let a = s.after in let b = s.some in let h = reads_on text t.end end ts read.2 in omega (arith, a, b, h)

first_ends : (text : List ℕ) (at end : ℕ) (t : Token) (ts : List Token) → ReadsTo text at (t ∷ ts) end → ClosesLast (t ∷ ts)
    → (t.end < end) ⊎ ((t.end ≡ end) × (t.kind ≡ Close))
first_ends text at end t [] read closes = inr (read.2, closes)
first_ends text at end t (u ∷ ts) read closes =
    let s = read.2.1 in
    let a = s.after in
    let b = s.some in
    let h = reads_on text u.end end ts read.2.2 in
    inl (omega (arith, a, b, h))

closes_rest : (t : Token) (ts : List Token) → ClosesLast (t ∷ ts) → ClosesLast ts
closes_rest t [] c = tt
closes_rest t (u ∷ ts) c = c

tokens_moved : (ts : List Token) (text other : List ℕ) (at to end stop : ℕ) (xs ys zs : List ℕ) → drop at text ≡ xs ++ ys → drop to other ≡ xs ++ zs
    → stop ≤ length other
    → end ≡ at + length xs → stop ≡ to + length xs → ReadsTo text at ts end → ClosesLast ts → ReadThere text other ts to stop
tokens_moved [] text other at to end stop xs ys zs here there room size size_there read closes =
    let e = read in
    record { tokens = []; read = omega (arith, e, size, size_there); alike = tt; same_first = λ t rest e. absurd (cc) }
tokens_moved (t ∷ ts) text other at to end stop xs ys zs here there room size size_there read closes =
    let ends : EndsInFront at (length xs) t = subst (λ n. (t.end < n) ⊎ ((t.end ≡ n) × (t.kind ≡ Close))) size (first_ends text at end t ts read closes) in
    let m = token_moved text other at to xs ys zs t here there (omega (arith, room, size_there)) read.0 read.1 ends in
    let n : ℕ = t.end - at in
    let a = read.1.after in
    let b = read.1.some in
    let h = reads_on text t.end end ts read.2 in
    let less : length (drop n xs) ≡ length xs - n = length-drop n xs in
    let rest = tokens_moved ts text other t.end (to + n) end stop (drop n xs) ys zs m.left m.left_there room (omega (arith, size, less, a, b, h))
    (omega (arith, size, size_there, less, a, b, h)) read.2 (closes_rest t ts closes) in
    record {
      tokens = moved at to t ∷ rest.tokens;
      read = (m.next, m.span, rest.read);
      alike = (refl, sym m.text_same, rest.alike);
      same_first = λ u us e. (moved at to t, rest.tokens, refl);
    }

-- the item of other tokens
record ItemThere (text other : List ℕ) (i : Item) (us rest : List Token) : Type 0 where
  there : Item
  left : List Token
  is : IsItem other us there left
  alike : AreSpelledAlike text other rest left
  same : unplaced i ≡ unplaced there

record ItemsThere (text other : List ℕ) (is : Items) (us rest : List Token) : Type 0 where
  there : Items
  left : List Token
  are : AreItems other us there left
  alike : AreSpelledAlike text other rest left
  same : all_unplaced is ≡ all_unplaced there

-- the first of tokens in step
record FirstAlike (text other : List ℕ) (t : Token) (ts us : List Token) : Type 0 where
  first : Token
  others : List Token
  split : us ≡ first ∷ others
  kind : t.kind ≡ first.kind
  spelled : token_text text t ≡ token_text other first
  alike : AreSpelledAlike text other ts others

first_alike : (text other : List ℕ) (t : Token) (ts us : List Token) → AreSpelledAlike text other (t ∷ ts) us → FirstAlike text other t ts us
first_alike text other t ts [] h = absurd h
first_alike text other t ts (u ∷ us) h = record { first = u; others = us; split = refl; kind = h.0; spelled = h.1; alike = h.2 }

token_there : (text other : List ℕ) (tokens us : List Token) (kind : TokenKind) (place : ℕ) (spelling : List ℕ) (rest : List Token)
    (is : IsToken text tokens kind place spelling rest)
    → AreSpelledAlike text other tokens us
    → (u : Token) × (left : List Token) × IsToken other us kind u.start spelling left × AreSpelledAlike text other rest left
token_there text other tokens us kind place spelling rest is alike =
    let f = first_alike text other is.token rest us (subst (λ ts. AreSpelledAlike text other ts us) is.first alike) in (
      f.first,
      f.others,
      record {
        token = f.first;
        first = f.split;
        same_kind = sym f.kind ∙ is.same_kind;
        same_place = refl;
        same_spelling = sym f.spelled ∙
            is.same_spelling;
      },
      f.alike,
    )

mutual
  item_there : (i : Item) (text other : List ℕ) (tokens us rest : List Token) → IsItem text tokens i rest → AreSpelledAlike text other tokens us
      → ItemThere text other i us rest
  item_there (word place s) text other tokens us rest is alike =
      let f = token_there text other tokens us Word place s rest is alike in record { there = word f.0.start s; left = f.1; is = f.2; alike = f.3; same = refl }
  item_there (quoted place s) text other tokens us rest is alike =
      let f = token_there text other tokens us Quoted place s rest is alike in record
      { there = quoted f.0.start s; left = f.1; is = f.2; alike = f.3; same = refl }
  item_there (string place s) text other tokens us rest is alike =
      let f = token_there text other tokens us Text place s rest is alike in record
      { there = string f.0.start s; left = f.1; is = f.2; alike = f.3; same = refl }
  item_there (list place items) text other tokens us rest (o, inside, after, c, opens, start, nested, closes) alike =
      let f = first_alike text other o inside us (subst (λ ts. AreSpelledAlike text other ts us) opens.first alike) in
      let g = items_there items text other inside f.others after nested f.alike in
      let h = first_alike text other c rest g.left (subst (λ ts. AreSpelledAlike text other ts g.left) closes.first g.alike) in
      record {
        there = list f.first.start g.there;
        left = h.others;
        is = (
          f.first,
          f.others,
          g.left,
          h.first,
          record { first = f.split; same_kind = sym f.kind ∙ opens.same_kind },
          refl,
          g.are,
          record
              { first = h.split; same_kind = sym h.kind ∙ closes.same_kind },
        );
        alike = h.alike;
        same = ap (list 0) g.same;
      }

  items_there : (is : Items) (text other : List ℕ) (tokens us rest : List Token) → AreItems text tokens is rest → AreSpelledAlike text other tokens us
      → ItemsThere text other is us rest
  items_there no_items text other tokens us rest are alike =
      record { there = no_items; left = us; are = refl; alike = subst (λ ts. AreSpelledAlike text other ts us) are alike; same = refl }
  items_there (item i is) text other tokens us rest (after, first, others) alike =
      let f = item_there i text other tokens us after first alike in
      let g = items_there is text other after f.left rest others f.alike in
      record { there = item f.there g.there; left = g.left; are = (f.left, f.is, g.are); alike = g.alike; same = (let a = f.same in let b = g.same in cc) }

-- a list's last token closes it
record HasPrefix (tokens rest : List Token) : Type 0 where
  prefix : List Token
  split : tokens ≡ prefix ++ rest

closes_behind : (prefix : List Token) (c : Token) → c.kind ≡ Close → ClosesLast (prefix ++ c ∷ [])
closes_behind [] c e = e
closes_behind (t ∷ []) c e = e
closes_behind (t ∷ u ∷ prefix) c e = closes_behind (u ∷ prefix) c e

mutual
  prefix_of_item : (i : Item) (text : List ℕ) (tokens rest : List Token) → IsItem text tokens i rest → HasPrefix tokens rest
  prefix_of_item (word place s) text tokens rest is = record { prefix = is.token ∷ []; split = is.first }
  prefix_of_item (quoted place s) text tokens rest is = record { prefix = is.token ∷ []; split = is.first }
  prefix_of_item (string place s) text tokens rest is = record { prefix = is.token ∷ []; split = is.first }
  prefix_of_item (list place items) text tokens rest (o, inside, after, c, opens, start, nested, closes) =
      let f = prefix_of_items items text inside after nested in
      record {
        prefix = o ∷ (f.prefix ++ c ∷ []);
        split = opens.first ∙ ap (λ l. o ∷ l)
            (f.split ∙ ap (λ l. f.prefix ++ l) closes.first ∙ sym (append_assoc f.prefix (c ∷ []) rest));
      }

  prefix_of_items : (is : Items) (text : List ℕ) (tokens rest : List Token) → AreItems text tokens is rest → HasPrefix tokens rest
  prefix_of_items no_items text tokens rest are = record { prefix = []; split = are }
  prefix_of_items (item i is) text tokens rest (after, first, others) =
      let f = prefix_of_item i text tokens after first in
      let g = prefix_of_items is text after rest others in
      record { prefix = f.prefix ++ g.prefix; split = f.split ∙ ap (λ l. f.prefix ++ l) g.split ∙ sym (append_assoc f.prefix g.prefix rest) }

list_closes : (text : List ℕ) (tokens : List Token) (place : ℕ) (items : Items) → IsItem text tokens (list place items) [] → ClosesLast tokens
list_closes text tokens place items (o, inside, after, c, opens, start, nested, closes) =
    let f = prefix_of_items items text inside after nested in
    subst ClosesLast (sym (opens.first ∙ ap (λ l. o ∷ l) (f.split ∙ ap (λ l. f.prefix ++ l) closes.first))) (closes_behind (o ∷ f.prefix) c closes.same_kind)

one_token : (text : List ℕ) (at : ℕ) (t u : Token) → next_token text at ≡ Ok (Some t) → next_token text at ≡ Ok (Some u) → t ≡ u
one_token text at t u h k = cc

-- a text is read to a place in one way
one_read : (text : List ℕ) (at end : ℕ) (ts us : List Token) → ReadsTo text at ts end → ReadsTo text at us end → ts ≡ us
one_read text at end [] [] h k = refl
one_read text at end [] (u ∷ us) h k =
    let s = k.1 in let a = s.after in let b = s.some in let e = h in let r = reads_on text u.end end us k.2 in absurd (omega (arith, a, b, e, r))
one_read text at end (t ∷ ts) [] h k =
    let s = h.1 in let a = s.after in let b = s.some in let e = k in let r = reads_on text t.end end ts h.2 in absurd (omega (arith, a, b, e, r))
one_read text at end (t ∷ ts) (u ∷ us) h k =
    let e = one_token text at t u h.0 k.0 in
    let f = one_read text u.end end ts us (subst (λ p. ReadsTo text p.end ts end) e h.2) k.2 in
    cc

-- Lists that stand in the same bytes, in one text or in two, are alike.
pub lists_by_bytes : (text other : List ℕ) (at end to stop : ℕ) (is js : Items) → IsListAt text at end is → IsListAt other to stop js
    → slice_range text at end ≡ slice_range other to stop → AreAlike (list at is) (list to js)
lists_by_bytes text other at end to stop is js h k same =
    let h_on = reads_on text at end h.tokens h.read in
    let k_on = reads_on other to stop k.tokens k.read in
    let xs : List ℕ = slice_range text at end in
    let in_h = h.within in
    let in_k = k.within in
    let size : length xs ≡ end - at = length-take-le (end - at) (drop at text) (omega (arith, in_h, length-drop at text)) in
    let size_there : length (slice_range other to stop) ≡ stop - to = length-take-le (stop - to) (drop to other) (omega (arith, in_k, length-drop to other)) in
    let sizes : length xs ≡ stop - to = ap length same ∙ size_there in
    let here : drop at text ≡ xs ++ drop end text = drop_split text at end h_on in
    let there : drop to other ≡ xs ++ drop stop other = drop_split other to stop k_on ∙ ap (λ l. l ++ drop stop other) (sym same) in
    let m = tokens_moved h.tokens text other at to end stop xs (drop end text) (drop stop other) here there in_k (omega (arith, size, h_on))
    (omega (arith, sizes, k_on)) h.read (list_closes text h.tokens at is h.is) in
    let i = item_there (list at is) text other h.tokens m.tokens [] h.is m.alike in
    let tokens : m.tokens ≡ k.tokens = one_read other to stop m.tokens k.tokens m.read k.read in
    let moved_item : IsItem other k.tokens i.there i.left = subst (λ ts. IsItem other ts i.there i.left) tokens i.is in
    let one = one_item other k.tokens i.there (list to js) i.left [] moved_item k.is in
    i.same ∙ ap unplaced one.0

-- one token more
pub reads_to_more : (text : List ℕ) (at here : ℕ) (ts : List Token) (t : Token) → ReadsTo text at ts here → next_token text here ≡ Ok (Some t)
    → IsSpanFrom here (length text) t → ReadsTo text at (ts ++ t ∷ []) t.end
reads_to_more text at here [] t read next span =
    let e : at ≡ here = read in
    subst (λ n. ReadsTo text n (t ∷ []) t.end) (sym e) (next, span, refl)
reads_to_more text at here (u ∷ ts) t read next span = (read.0, read.1, reads_to_more text u.end here ts t read.2 next span)

-- a token is read again from its own first byte on
pub reads_itself : (text : List ℕ) (at : ℕ) (t : Token) → next_token text at ≡ Ok (Some t) → t.start < t.end → t.end ≤ length text
    → next_token text t.start ≡ Ok (Some t)
reads_itself text at t next some within =
    let s = spelled_next text at t next in
    read_next text t.start t (record { before = nothing; spelled = s.spelled; longest = s.longest }) some within

-- an item's own tokens, whatever stands behind them
pub record OwnTokens (text : List ℕ) (tokens : List Token) (i : Item) (rest : List Token) : Type 0 where
  pub own : List Token
  pub split : tokens ≡ own ++ rest
  pub is : (others : List Token) → IsItem text (own ++ others) i others

record OwnOfItems (text : List ℕ) (tokens : List Token) (is : Items) (rest : List Token) : Type 0 where
  own : List Token
  split : tokens ≡ own ++ rest
  are : (others : List Token) → AreItems text (own ++ others) is others

own_token : (text : List ℕ) (tokens rest : List Token) (kind : TokenKind) (place : ℕ) (s : List ℕ) (is : IsToken text tokens kind place s rest)
    (others : List Token) → IsToken text (is.token ∷ others) kind place s others
own_token text tokens rest kind place s is others = record
    { token = is.token; first = refl; same_kind = is.same_kind; same_place = is.same_place; same_spelling = is.same_spelling }

mutual
  pub own_of : (i : Item) (text : List ℕ) (tokens rest : List Token) → IsItem text tokens i rest → OwnTokens text tokens i rest
  own_of (word place s) text tokens rest is = record { own = is.token ∷ []; split = is.first; is = own_token text tokens rest Word place s is }
  own_of (quoted place s) text tokens rest is = record { own = is.token ∷ []; split = is.first; is = own_token text tokens rest Quoted place s is }
  own_of (string place s) text tokens rest is = record { own = is.token ∷ []; split = is.first; is = own_token text tokens rest Text place s is }
  own_of (list place items) text tokens rest (o, inside, after, c, opens, start, nested, closes) =
      let f = own_of_items items text inside after nested in
      record {
        own = o ∷ (f.own ++ c ∷ []);
        split = opens.first ∙ ap (λ l. o ∷ l) (f.split ∙ ap (λ l. f.own ++ l) closes.first ∙ sym (append_assoc f.own (c ∷ []) rest));
        is = λ others. (
          o,
          (f.own ++ c ∷ []) ++ others,
          c ∷ others,
          c,
          record { first = refl; same_kind = opens.same_kind },
          start,
          subst (λ l. AreItems text l items (c ∷ others)) (sym (append_assoc f.own (c ∷ []) others)) (f.are (c ∷ others)),
          record { first = refl; same_kind = closes.same_kind },
        );
      }

  own_of_items : (is : Items) (text : List ℕ) (tokens rest : List Token) → AreItems text tokens is rest → OwnOfItems text tokens is rest
  own_of_items no_items text tokens rest are = record { own = []; split = are; are = λ others. refl }
  own_of_items (item i is) text tokens rest (after, first, others) =
      let f = own_of i text tokens after first in
      let g = own_of_items is text after rest others in
      record {
        own = f.own ++ g.own;
        split = f.split ∙ ap (λ l. f.own ++ l) g.split ∙ sym (append_assoc f.own g.own rest);
        are = λ more. (g.own ++ more, subst (λ l. IsItem text l i (g.own ++ more)) (sym (append_assoc f.own g.own more)) (f.is (g.own ++ more)), g.are more);
      }

-- the tokens before what stands behind an item are its own
pub item_alone : (text : List ℕ) (prefix rest : List Token) (i : Item) → IsItem text (prefix ++ rest) i rest → IsItem text prefix i []
item_alone text prefix rest i is =
    let f = own_of i text (prefix ++ rest) rest is in
    let e : f.own ≡ prefix = sym (append_cancel_right prefix f.own rest f.split) in
    subst (λ l. IsItem text l i []) (none_behind f.own ∙ e) (f.is [])
  where
    none_behind : (ts : List Token) → ts ++ [] ≡ ts
    none_behind [] = refl
    none_behind (t ∷ ts) = ap (λ l. t ∷ l) (none_behind ts)
