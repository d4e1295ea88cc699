-- Private. What is put in for variables, one by one.
use Rattle.std.specs.Prelude.{◌≡◌, ◌≢◌, ℕ, true}
use Rattle.sym_table.specs.Leaf.{Leaf}
use Rattle.sym_table.specs.Table.{Table, IsLeaf}
use Rattle.term_model.specs.Terms.{Var, Term}
use Rattle.term_model.specs.Heights.{height}
use Rattle.term_pool.specs.Putting.{Piece, staying, CellImages, ArePiecesOfLeaves}
use Rattle.term_pool.specs.StandsFor.{variable_leaf, StandsFor}
use Rattle.rule_model.specs.Replacement.{Replacement, replaced_by, HasNoLet}
use Rattle.term_expansion.specs.SymbolsAndTerms.{SymbolsAndTerms}

-- the piece stands for the term
pub record IsPieceOf (s : Table) (p : Piece) (t : Term) : Type 0 where
  pub stands : StandsFor s p.tree t
  pub height : p.height ≡ height t
  pub plain : p.plain ≡ true → HasNoLet t

-- what the replacement puts in for leaves: something for variables, and other leaves stay
pub record PutsFor (s : Table) (q : Replacement) (f : ℕ → Piece) : Type 0 where
  pub variables : (k : ℕ) (x : Var) → IsLeaf s k (variable_leaf x) → IsPieceOf s (f k) (replaced_by q x)
  pub others : (k : ℕ) (l : Leaf) → IsLeaf s k l → ((x : Var) → l ≢ variable_leaf x) → f k ≡ staying k

-- the images are what the replacement puts in
pub record ArePutFor (w : SymbolsAndTerms) (images : CellImages) (q : Replacement) : Type 0 where
  pub pieces : ℕ → Piece
  pub puts : PutsFor w.symbols q pieces
  pub are : ArePiecesOfLeaves w.terms.pass images pieces
