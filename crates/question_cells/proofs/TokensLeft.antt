-- How far a text was scanned for definitions.
use Rattle.std.proofs.Common.{◌≡◌, ℕ, Bool, true, false, ◌||◌, ◌&&◌, List, [], ◌∷◌, Ok, Some, refl, sym, subst, ◌∙◌}
use Rattle.sexpr.specs.declared.lexing.Lexer.{Lexer}
use Rattle.sexpr.specs.declared.lexing.Token.{Token}
use Rattle.sexpr.specs.Source.{source, position}
use Rattle.sexpr.specs.Tokens.{AreTokens, next_token}
use Rattle.question_cells.specs.Definitions.{is_open, is_defining, defines_in}

-- The tokens that are left tell what those of the whole text do.
pub record TellsLeft (text : List ℕ) (at : ℕ) (opened : Bool) (tokens : List Token) : Type 0 where
  pub left : List Token
  pub are : AreTokens text at left
  pub tells : defines_in text opened left ≡ defines_in text false tokens

pub record IsScanned (text : List ℕ) (lexer : Lexer) (opened : Bool) : Type 0 where
  pub same : source lexer ≡ text
  pub tells : (tokens : List Token) → AreTokens text 0 tokens → TellsLeft text (position lexer) opened tokens

pub begins : (text : List ℕ) (lexer : Lexer) → source lexer ≡ text → position lexer ≡ 0 → IsScanned text lexer false
begins text lexer same start = record
    { same = same; tells = λ tokens are. record { left = tokens; are = subst (λ n. AreTokens text n tokens) (sym start) are; tells = refl } }

-- a token more
pub record HasNext (text : List ℕ) (t : Token) (opened : Bool) (tokens : List Token) : Type 0 where
  pub rest : List Token
  pub are : AreTokens text t.end rest
  pub tells : ((opened && is_defining text t) || defines_in text (is_open t.kind) rest) ≡ defines_in text false tokens

pub next_of : (text : List ℕ) (at : ℕ) (t : Token) (opened : Bool) (tokens : List Token) → next_token text at ≡ Ok (Some t)
    → TellsLeft text at opened tokens → HasNext text t opened tokens
next_of text at t opened tokens next h = go h.left h.are h.tells
  where
    go : (left : List Token) → AreTokens text at left → defines_in text opened left ≡ defines_in text false tokens → HasNext text t opened tokens
    go [] are tells = absurd cc
    go (u ∷ rest) are tells =
        let same : u ≡ t = cc in
        record {
          rest = rest;
          are = subst (λ u. AreTokens text u.end rest) same are.1;
          tells = subst (λ u. ((opened && is_defining text u) || defines_in text (is_open u.kind) rest) ≡ defines_in text false tokens) same tells;
        }

-- nothing is left
pub ends_so : (text : List ℕ) (at : ℕ) (opened : Bool) (tokens : List Token) → ((t : Token) → next_token text at ≡ Ok (Some t) → ⊥)
    → TellsLeft text at opened tokens
    → false ≡ defines_in text false tokens
ends_so text at opened tokens none h = go h.left h.are h.tells
  where
    go : (left : List Token) → AreTokens text at left → defines_in text opened left ≡ defines_in text false tokens → false ≡ defines_in text false tokens
    go [] are tells = tells
    go (u ∷ rest) are tells = absurd (none u are.0)

-- a token was read, which defines nothing
pub goes_on : (text : List ℕ) (lexer new : Lexer) (opened now : Bool) (t : Token) → IsScanned text lexer opened
    → next_token (source lexer) (position lexer) ≡ Ok (Some t)
    → source new ≡ source lexer → position new ≡ t.end → (opened && is_defining text t) ≡ false → now ≡ is_open t.kind
    → IsScanned text new now
goes_on text lexer new opened now t h is same here none kind = record {
  same = same ∙ h.same;
  tells = λ tokens are.
      let next : next_token text (position lexer) ≡ Ok (Some t) = subst (λ s. next_token s (position lexer) ≡ Ok (Some t)) h.same is in
      let n = next_of text (position lexer) t opened tokens next (h.tells tokens are) in
      record {
        left = n.rest;
        are = rw here n.are;
        tells = let told : (false || defines_in text (is_open t.kind) n.rest) ≡ defines_in text false tokens = subst (λ b. (b || defines_in text
            (is_open t.kind) n.rest) ≡ defines_in text false tokens) none n.tells in rw kind told;
      };
}

-- one was read that does
pub defines_so : (text : List ℕ) (lexer : Lexer) (opened : Bool) (t : Token) → IsScanned text lexer opened
    → next_token (source lexer) (position lexer) ≡ Ok (Some t)
    → true ≡ (opened && is_defining text t) → (tokens : List Token) → AreTokens text 0 tokens → true ≡ defines_in text false tokens
defines_so text lexer opened t h is defines tokens are =
    let next : next_token text (position lexer) ≡ Ok (Some t) = subst (λ s. next_token s (position lexer) ≡ Ok (Some t)) h.same is in
    let n = next_of text (position lexer) t opened tokens next (h.tells tokens are) in
    subst (λ b. (b || defines_in text (is_open t.kind) n.rest) ≡ defines_in text false tokens) (sym defines) n.tells

-- none was read
pub all_read : (text : List ℕ) (lexer : Lexer) (opened : Bool) → IsScanned text lexer opened
    → ((t : Token) → next_token (source lexer) (position lexer) ≡ Ok (Some t) → ⊥) →
    (tokens : List Token) → AreTokens text 0 tokens → false ≡ defines_in text false tokens
all_read text lexer opened h none tokens are =
    ends_so text (position lexer) opened tokens
    (λ t next. none t (subst (λ s. next_token s (position lexer) ≡ Ok (Some t)) (sym h.same) next)) (h.tells tokens are)
