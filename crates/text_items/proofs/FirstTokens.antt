-- Cited by crates above. What the first token of an item says of it.
use Rattle.std.proofs.Common.{◌≡◌, ℕ, List, ◌∷◌, ap, ◌∙◌}
use Rattle.sexpr.specs.declared.lexing.Token.{Token}
use Rattle.sexpr.specs.declared.lexing.TokenKind.{TokenKind}
use Rattle.sexpr.specs.declared.lexing.TokenKind.TheVariants.{Open, Text, Quoted, Word}
use Rattle.sexpr.specs.Tokens.{token_text}
use Rattle.sexpr.specs.Items.{IsToken}

-- the token has this kind, place and spelling, and then comes the rest
pub record IsThis (text : List ℕ) (t : Token) (after : List Token) (kind : TokenKind) (at : ℕ) (spelling : List ℕ) (rest : List Token) : Type 0 where
  pub kinds : t.kind ≡ kind
  pub places : t.start ≡ at
  pub spellings : token_text text t ≡ spelling
  pub rests : after ≡ rest

pub record SameFront (t u : Token) (after rest : List Token) : Type 0 where
  pub first : t ≡ u
  pub rests : after ≡ rest

pub same_front : (t u : Token) (after rest : List Token) → ◌≡◌ {A = List Token} (t ∷ after) (u ∷ rest) → SameFront t u after rest
same_front t u after rest e = record { first = cc; rests = cc }

pub is_this : (text : List ℕ) (t : Token) (after : List Token) (kind : TokenKind) (at : ℕ) (spelling : List ℕ) (rest : List Token)
    → IsToken text (t ∷ after) kind at spelling rest → IsThis text t after kind at spelling rest
is_this text t after kind at spelling rest is =
    let f = same_front t is.token after rest is.first in
    record {
      kinds = ap (λ u. u.kind) f.first ∙ is.same_kind;
      places = ap (λ u. u.start) f.first ∙ is.same_place;
      spellings = ap (token_text text) f.first ∙ is.same_spelling;
      rests = f.rests;
    }

pub open_is_word : ◌≡◌ {A = TokenKind} Open Word → ⊥
open_is_word e = cc

pub open_is_quoted : ◌≡◌ {A = TokenKind} Open Quoted → ⊥
open_is_quoted e = cc

pub open_is_text : ◌≡◌ {A = TokenKind} Open Text → ⊥
open_is_text e = cc
