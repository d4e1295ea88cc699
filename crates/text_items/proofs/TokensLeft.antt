-- Cited by crates above. What reading one token tells of the tokens that are left.
use Rattle.std.proofs.Common.{◌≡◌, ℕ, List, [], ◌∷◌, Ok, Err, Some, None}
use Rattle.sexpr.specs.declared.causes.Refusal.{Refusal}
use Rattle.sexpr.specs.declared.lexing.Token.{Token}
use Rattle.sexpr.specs.Tokens.{Read, next_token, AreTokens}
use Rattle.sexpr.specs.Items.{Item, word, quoted, string, list, IsItem}

abbrev pub Begins : Read → List Token → Type 0
Begins r [] = r ≡ Ok None
Begins r (t ∷ ts) = r ≡ Ok (Some t)

pub begins : (text : List ℕ) (at : ℕ) (tokens : List Token) → AreTokens text at tokens → Begins (next_token text at) tokens
begins text at [] h = h
begins text at (t ∷ ts) h = h.0

pub not_faulty : (tokens : List Token) (r : Refusal) → Begins (Err r) tokens → ⊥
not_faulty [] r h = cc h
not_faulty (t ∷ ts) r h = cc h

-- no item begins without a token
pub no_token : (text : List ℕ) (i : Item) (rest : List Token) → IsItem text [] i rest → ⊥
no_token text (word place spelling) rest h = cc h.first
no_token text (quoted place spelling) rest h = cc h.first
no_token text (string place spelling) rest h = cc h.first
no_token text (list place items) rest (open_bracket, inside, after, close_bracket, h, _, _, _) = cc h.first
