-- What is asked of a token before it becomes a node tells what it adds.
use Rattle.std.proofs.Common.{◌≡◌, ℕ, ◌+◌, ◌-◌, List, length, Option, Some, None, refl, sym, ap}
use Rattle.sexpr.specs.declared.lexing.Token.{Token}
use Rattle.sexpr.specs.declared.lexing.TokenKind.{TokenKind}
use Rattle.sexpr.specs.declared.lexing.TokenKind.TheVariants.{Open, Close, Text, Quoted, Word}
use Rattle.text_items.specs.declared.nodes.Node.{Node}
use Rattle.text_items.specs.Adding.{placed, pushed, IsAdded, IsListClosed}

module _ (nodes : List Node) (inner : ℕ) (t : Token) where
  both : (a b next now : ℕ) → ◌≡◌ {A = Option (ℕ × ℕ)} (Some (a, b)) (Some (next, now)) → (a ≡ next) × (b ≡ now)
  both a b next now e = let p : ◌≡◌ {A = ℕ × ℕ} (a, b) (next, now) = cc in (ap (λ x. x.0) p, ap (λ x. x.1) p)

  -- the node of a token that opens a list
  opened : (next now : ℕ) → ◌≡◌ {A = Option (ℕ × ℕ)} (Some (inner, length nodes + 1)) (Some (next, now)) → (pushed nodes t next ≡ pushed nodes t inner) × (now ≡ length nodes + 1)
  opened next now e = let p = both inner (length nodes + 1) next now e in (ap (pushed nodes t) (sym p.0), sym p.1)

  -- the node of a token that is an item
  alone : (next now : ℕ) → ◌≡◌ {A = Option (ℕ × ℕ)} (Some (length nodes + 1, inner)) (Some (next, now)) → (pushed nodes t next ≡ pushed nodes t (length nodes + 1)) × (now ≡ inner)
  alone next now e = let p = both (length nodes + 1) inner next now e in (ap (pushed nodes t) (sym p.0), sym p.1)

  pub placed_added : (kind : TokenKind) (next now : ℕ) → placed kind inner (length nodes + 1) ≡ Some (next, now) → IsAdded nodes inner t kind (pushed nodes t next) now
  placed_added Open next now e = opened next now e
  placed_added Close next now e = let never : ⊥ = cc in absurd never
  placed_added Text next now e = alone next now e
  placed_added Quoted next now e = alone next now e
  placed_added Word next now e = alone next now e

  pub closed_added : (kind : TokenKind) (behind now : ℕ) (after : List Node) → placed kind inner behind ≡ None → IsListClosed nodes (inner - 1) (length nodes) t.end after now → IsAdded nodes inner t kind after now
  closed_added Open behind now after e h = let never : ⊥ = cc in absurd never
  closed_added Close behind now after e h = h
  closed_added Text behind now after e h = let never : ⊥ = cc in absurd never
  closed_added Quoted behind now after e h = let never : ⊥ = cc in absurd never
  closed_added Word behind now after e h = let never : ⊥ = cc in absurd never

pub not_placed : (kind : TokenKind) (inner behind : ℕ) → placed kind inner behind ≡ None → kind ≡ Close
not_placed Open inner behind e = let never : ⊥ = cc in absurd never
not_placed Close inner behind e = refl
not_placed Text inner behind e = let never : ⊥ = cc in absurd never
not_placed Quoted inner behind e = let never : ⊥ = cc in absurd never
not_placed Word inner behind e = let never : ⊥ = cc in absurd never
