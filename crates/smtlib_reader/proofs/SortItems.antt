-- The sort that an item stands for, by the token that begins the item.
use Rattle.std.proofs.Common.{◌≡◌, ℕ, zero, suc, List, [], ◌∷◌, Some, None, Option, refl, sym, ap, ◌∙◌, subst, true, false, ◌||◌, Bool, slice_get}
use Rattle.std.specs.Prelude.{position, bytes_eq, Result, Ok, Err, OnOk}
use Rattle.std.proofs.lemmas.Slice.Eq.{bytes_eq-Decides}
use Rattle.sym_table.proofs.Places.{position-there, position-lacks}
use Rattle.term_names.proofs.Positions.{list_any-no_place}
use Rattle.problem_text.specs.Words.{is_among}
use Rattle.sexpr.specs.declared.causes.Cause.TheVariants.{LeftOut, UnknownName}
use Rattle.sexpr.specs.declared.causes.Refusal.{Refusal}
use Rattle.sexpr.specs.declared.lexing.Lexer.{Lexer}
use Rattle.sexpr.specs.declared.lexing.Token.{Token}
use Rattle.sexpr.specs.declared.lexing.TokenKind.{TokenKind}
use Rattle.sexpr.specs.declared.lexing.TokenKind.TheVariants.{Open, Text, Quoted, Word}
use Rattle.sexpr.specs.Source.{source, position as place}
use Rattle.sexpr.specs.Tokens.{AreTokens, token_text}
use Rattle.sexpr.specs.Items.{Item, word, quoted, string, list, IsToken, IsBracket, name_spelled}
use Rattle.term_model.specs.declared.symbols.Sort.{Sort}
use Rattle.sym_table.specs.Table.{Table, IsDeclaredSort}
use Rattle.problem_text.specs.Commands.{refused}
use Rattle.text_items.specs.Lexers.{GoesOnWith}
use Rattle.problem_text.specs.Sorts.{sort_from, sort_spelled, declared_sort}
use Rattle.text_items.proofs.FirstTokens.{IsThis, is_this, open_is_quoted, open_is_text, open_is_word, same_front}

opens : (t bracket : Token) (after inside : List Token) → IsBracket (t ∷ after) Open bracket inside → t ≡ bracket
opens t bracket after inside is = (same_front t bracket after inside is.first).first

-- an opening bracket begins a list
pub list_left_out : (sorts : List (List ℕ)) (l : Lexer) (t : Token) → t.kind ≡ Open → (i : Item) (rest : List Token) → GoesOnWith l t i rest → refused LeftOut t.start ≡ sort_from sorts i
unfolding sort_from
list_left_out sorts l t k (word at spelling) rest g = absurd (open_is_word (sym k ∙ (is_this (source l) t g.after Word at spelling rest g.item).kinds))
list_left_out sorts l t k (quoted at spelling) rest g = absurd (open_is_quoted (sym k ∙ (is_this (source l) t g.after Quoted at spelling rest g.item).kinds))
list_left_out sorts l t k (string at spelling) rest g = absurd (open_is_text (sym k ∙ (is_this (source l) t g.after Text at spelling rest g.item).kinds))
list_left_out sorts l t k (list at items) rest g =
    let is = g.item in ap (λ (n : ℕ). refused {A = Sort} LeftOut n) (ap (λ u. u.start) (opens t is.0 g.after is.1 is.4) ∙ is.5)

spelled_so : (sorts : List (List ℕ)) (text : List ℕ) (t : Token) (after : List Token) (kind : TokenKind) (at : ℕ) (spelling : List ℕ) (rest : List Token)
    → IsThis text t after kind at spelling rest → sort_spelled sorts t.start (name_spelled t.kind (token_text text t)) ≡ sort_spelled sorts at (name_spelled kind spelling)
spelled_so sorts text t after kind at spelling rest is =
    ap (λ k. sort_spelled sorts t.start (name_spelled k (token_text text t))) is.kinds
    ∙ ap (λ n. sort_spelled sorts n (name_spelled kind (token_text text t))) is.places
    ∙ ap (λ s. sort_spelled sorts at (name_spelled kind s)) is.spellings

-- any other token is the item
pub token_spelled : (sorts : List (List ℕ)) (l : Lexer) (t : Token) → (t.kind ≡ Open → ⊥) → (i : Item) (rest : List Token) → GoesOnWith l t i rest
    → sort_spelled sorts t.start (name_spelled t.kind (token_text (source l) t)) ≡ sort_from sorts i
unfolding sort_from
token_spelled sorts l t k (word at spelling) rest g = spelled_so sorts (source l) t g.after Word at spelling rest (is_this (source l) t g.after Word at spelling rest g.item)
token_spelled sorts l t k (quoted at spelling) rest g = spelled_so sorts (source l) t g.after Quoted at spelling rest (is_this (source l) t g.after Quoted at spelling rest g.item)
token_spelled sorts l t k (string at spelling) rest g = spelled_so sorts (source l) t g.after Text at spelling rest (is_this (source l) t g.after Text at spelling rest g.item)
token_spelled sorts l t k (list at items) rest g =
    let is = g.item in absurd (k (ap (λ u. u.kind) (opens t is.0 g.after is.1 is.4) ∙ is.4.same_kind))

stands_behind : (l : Lexer) (t : Token) (after : List Token) (kind : TokenKind) (at : ℕ) (spelling : List ℕ) (rest : List Token)
    → AreTokens (source l) (place l) after → IsToken (source l) (t ∷ after) kind at spelling rest → AreTokens (source l) (place l) rest
stands_behind l t after kind at spelling rest read is = subst (λ ts. AreTokens (source l) (place l) ts) (is_this (source l) t after kind at spelling rest is).rests read

-- and the lexer, which gave it, stands behind it
pub token_behind : (l : Lexer) (t : Token) → (t.kind ≡ Open → ⊥) → (i : Item) (rest : List Token) → GoesOnWith l t i rest → AreTokens (source l) (place l) rest
token_behind l t k (word at spelling) rest g = stands_behind l t g.after Word at spelling rest g.read g.item
token_behind l t k (quoted at spelling) rest g = stands_behind l t g.after Quoted at spelling rest g.read g.item
token_behind l t k (string at spelling) rest g = stands_behind l t g.after Text at spelling rest g.read g.item
token_behind l t k (list at items) rest g =
    let is = g.item in absurd (k (ap (λ u. u.kind) (opens t is.0 g.after is.1 is.4) ∙ is.4.same_kind))

-- what the name of the token gives is what the item stands for
pub sort_read : (sorts : List (List ℕ)) (l : Lexer) (t : Token) (name : Option (List ℕ)) (result : Result Sort Refusal) → name ≡ name_spelled t.kind (token_text (source l) t)
    → result ≡ sort_spelled sorts t.start name → (t.kind ≡ Open → ⊥) → (i : Item) (rest : List Token) → GoesOnWith l t i rest → result ≡ sort_from sorts i
sort_read sorts l t name result spelled is k i rest g = is ∙ ap (λ n. sort_spelled sorts t.start n) spelled ∙ token_spelled sorts l t k i rest g

pub on_ok : (result : Result Sort Refusal) (P : Type 0) → P → OnOk result P
on_ok (Ok sort) P p = p
on_ok (Err refusal) P p = tt

-- no two of the names are the same
abbrev pub AreApart : List (List ℕ) → Type 0
AreApart names = (m n : ℕ) (name : List ℕ) → slice_get names m ≡ Some name → slice_get names n ≡ Some name → m ≡ n

-- a name at a place is among the names
pub among_at : (names : List (List ℕ)) (n : ℕ) (name : List ℕ) → slice_get names n ≡ Some name → is_among names name ≡ true
among_at [] n name e = cc
among_at (m ∷ names) zero name e =
    let same : m ≡ name = cc in
    ap (λ b. b || is_among names name) ((bytes_eq-Decides name m).1 (sym same))
among_at (m ∷ names) (suc n) name e = go (bytes_eq name m) (is_among names name) (among_at names n name e)
  where
    go : (a b : Bool) → b ≡ true → (a || b) ≡ true
    go true b h = refl
    go false b h = h

-- The declared sort of a name stands where the name does first.
pub declared_found : (t : Table) (sort : Sort) (name : List ℕ) (at : ℕ) → AreApart t.sorts → IsDeclaredSort t sort name → Ok sort ≡ declared_sort at (position (bytes_eq name) t.sorts)
declared_found t Sort.Bool name at apart there = absurd there
declared_found t Sort.Int name at apart there = absurd there
declared_found t (Sort.Declared n) name at apart there = go (position (bytes_eq name) t.sorts) refl
  where
    go : (o : Option ℕ) → position (bytes_eq name) t.sorts ≡ o → Ok (Sort.Declared n) ≡ declared_sort at o
    go None e = absurd (let a = list_any-no_place (bytes_eq name) t.sorts e in let b = among_at t.sorts n name there in cc)
    go (Some k) e = ap (λ m. Ok (Sort.Declared m)) (apart n k name there (position-there t.sorts name k e))

-- No sort is declared by the name.
pub declared_nowhere : (t : Table) (name : List ℕ) (at : ℕ) → ((n : ℕ) → slice_get t.sorts n ≡ Some name → ⊥) → refused UnknownName at ≡ declared_sort at (position (bytes_eq name) t.sorts)
declared_nowhere t name at none = ap (declared_sort at) (sym (position-lacks t.sorts name none))
