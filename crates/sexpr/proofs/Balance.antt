-- Nested tokens by the number of open lists: each bracket has its partner where the number comes back to 0.
use Rattle.std.proofs.Common.{◌≡◌, ℕ, zero, suc, ◌+◌, ◌-◌, false, eqb, Option, Some, None, List, [], ◌∷◌, ◌++◌, refl, sym, ap, ◌∙◌, arith, add-one, sub-one}
use Rattle.std.specs.Prelude.{option_and_then}
use Rattle.std.proofs.lemmas.Bool.Decides.{nat_tests}
use Rattle.sexpr.specs.declared.lexing.Token.{Token}
use Rattle.sexpr.specs.declared.lexing.TokenKind.{TokenKind}
use Rattle.sexpr.specs.declared.lexing.TokenKind.TheVariants.{Open, Close, Text, Quoted, Word}
use Rattle.sexpr.specs.Tokens.{token_text}
use Rattle.sexpr.specs.Items.{Item, word, quoted, string, list, Items, no_items, item, IsToken, IsItem, AreItems}
use Rattle.sexpr.specs.Form.{AreNested}
use Rattle.sexpr.specs.Depths.{depth_after, depth_of}

-- the tokens after a token
depth_of-step : (ts : List Token) (t : Token) (rest : List Token) (d e : ℕ) → ts ≡ t ∷ rest → depth_after d t.kind ≡ Some e → depth_of d ts ≡ depth_of e rest
depth_of-step ts t rest d e first step = rw (first, step) refl

pub depth_of-append : (d : ℕ) (xs ys : List Token) → depth_of d (xs ++ ys) ≡ option_and_then (λ e. depth_of e ys) (depth_of d xs)
depth_of-append d [] ys = refl
depth_of-append d (x ∷ xs) ys = go (depth_after d x.kind) (λ e. depth_of-append e xs ys)
  where
    go : (o : Option ℕ) → ((e : ℕ) → depth_of e (xs ++ ys) ≡ option_and_then (λ e. depth_of e ys) (depth_of e xs))
        → option_and_then (λ e. depth_of e (xs ++ ys)) o ≡ option_and_then (λ e. depth_of e ys) (option_and_then (λ e. depth_of e xs) o)
    go None again = refl
    go (Some e) again = again e

pub depth_after-suc : (d : ℕ) → depth_after (suc d) Close ≡ Some d
depth_after-suc d = let test : eqb (suc d) 0 ≡ false = grind (arith, nat_tests) in rw (test, sub-one) refl

depth_after-close : (d : ℕ) → depth_after (d + 1) Close ≡ Some d
depth_after-close d =
    let test : eqb (d + 1) 0 ≡ false = grind (arith, nat_tests) in
    let back : d + 1 - 1 ≡ d = omega arith in
    rw (test, back) refl

mutual
  -- an item leaves the number as it was
  depth_of-item : (source : List ℕ) (ts : List Token) (i : Item) (rest : List Token) (d : ℕ) → IsItem source ts i rest → depth_of d ts ≡ depth_of d rest
  depth_of-item source ts (word place spelling) rest d is = depth_of-step ts is.token rest d d is.first (ap (depth_after d) is.same_kind)
  depth_of-item source ts (quoted place spelling) rest d is = depth_of-step ts is.token rest d d is.first (ap (depth_after d) is.same_kind)
  depth_of-item source ts (string place spelling) rest d is = depth_of-step ts is.token rest d d is.first (ap (depth_after d) is.same_kind)
  depth_of-item source ts (list place items) rest d (open_bracket, inside, after, close_bracket, opens, start, nested, closes) =
      depth_of-step ts open_bracket inside d (d + 1) opens.first (ap (depth_after d) opens.same_kind)
      ∙ depth_of-items source inside items after (d + 1) nested
      ∙ depth_of-step after close_bracket rest (d + 1) d closes.first (ap (depth_after (d + 1)) closes.same_kind ∙ depth_after-close d)

  depth_of-items : (source : List ℕ) (ts : List Token) (items : Items) (rest : List Token) (d : ℕ) → AreItems source ts items rest → depth_of d ts ≡ depth_of d rest
  depth_of-items source ts no_items rest d are = ap (depth_of d) are
  depth_of-items source ts (item first others) rest d (after, is, are) =
      depth_of-item source ts first after d is ∙ depth_of-items source after others rest d are

pub depth_of-nested : (source : List ℕ) (ts : List Token) (d : ℕ) → AreNested source ts → depth_of d ts ≡ Some d
depth_of-nested source ts d (items, nested) = depth_of-items source ts items [] d nested

-- The tokens close d open lists, one after another, with items before each closing bracket and after the last.
abbrev Layers : List ℕ → ℕ → List Token → Type 0
Layers source zero ts = AreNested source ts
Layers source (suc d) ts =
    (items : Items) × (bracket : Token) × (rest : List Token) × AreItems source ts items (bracket ∷ rest) × (bracket.kind ≡ Close) × Layers source d rest

add_item : (source : List ℕ) (d : ℕ) (before : List Token) (i : Item) (ts : List Token) → IsItem source before i ts → Layers source d ts → Layers source d before
add_item source zero before i ts is (items, are) = (item i items, (ts, is, are))
add_item source (suc d) before i ts is (items, bracket, rest, are, is_close, layers) = (item i items, bracket, rest, (ts, is, are), is_close, layers)

add_list : (source : List ℕ) (d : ℕ) (t : Token) (ts : List Token) → t.kind ≡ Open → Layers source (suc d) ts → Layers source d (t ∷ ts)
add_list source d t ts is_open (items, bracket, rest, are, is_close, layers) =
    add_item source d (t ∷ ts) (list t.start items) rest
    (t, ts, bracket ∷ rest, bracket, record { first = refl; same_kind = is_open }, refl, are, record { first = refl; same_kind = is_close })
    layers

add_token : (source : List ℕ) (ts : List Token) (t : Token) (kind : TokenKind) → t.kind ≡ kind → IsToken source (t ∷ ts) kind t.start (token_text source t) ts
add_token source ts t kind is = record { token = t; first = refl; same_kind = is; same_place = refl; same_spelling = refl }

none_some : (k : ℕ) → None ≡ Some k → ⊥
none_some k e = cc

-- the number comes to 0 only over such layers
layers_of : (source : List ℕ) (d : ℕ) (ts : List Token) → depth_of d ts ≡ Some 0 → Layers source d ts
layers_of source zero [] e = (no_items, refl)
layers_of source (suc d) [] e = let f : suc d ≡ 0 = cc in absurd (omega arith)
layers_of source d (t ∷ ts) e = go d t.kind refl e (λ d h. layers_of source d ts h)
  where
    go : (d : ℕ) (kind : TokenKind) → t.kind ≡ kind → option_and_then (λ d. depth_of d ts) (depth_after d kind) ≡ Some 0
        → ((d : ℕ) → depth_of d ts ≡ Some 0 → Layers source d ts) → Layers source d (t ∷ ts)
    go d Open is e again = add_list source d t ts is (again (suc d) (rw add-one at e))
    go zero Close is e again = absurd (none_some 0 e)
    go (suc d) Close is e again = (no_items, t, ts, refl, is, again d (sym (ap (option_and_then (λ d. depth_of d ts)) (depth_after-suc d)) ∙ e))
    go d Text is e again = add_item source d (t ∷ ts) (string t.start (token_text source t)) ts (add_token source ts t Text is) (again d e)
    go d Quoted is e again = add_item source d (t ∷ ts) (quoted t.start (token_text source t)) ts (add_token source ts t Quoted is) (again d e)
    go d Word is e again = add_item source d (t ∷ ts) (word t.start (token_text source t)) ts (add_token source ts t Word is) (again d e)

pub nested_from_depth : (source : List ℕ) (ts : List Token) → depth_of 0 ts ≡ Some 0 → AreNested source ts
nested_from_depth source ts e = layers_of source 0 ts e
