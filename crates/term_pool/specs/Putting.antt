-- Public. Putting trees in for the leaves of a tree.
use Rattle.std.specs.Prelude.{◌≡◌, ℕ, ◌+◌, ◌≤◌, max, Bool, true, ◌&&◌, Option, Some, None, nat_eq}
use Rattle.std.specs.declared.hash.FoldHasher.{FoldHasher}
use Rattle.std.specs.declared.hash.BuildHasherDefault.{BuildHasherDefault}
use Rattle.std.specs.HashMap.{get, HashMap}
use Rattle.pair_pool.specs.Trees.{Tree, leaf, cell}
use Rattle.pair_pool.specs.Views.{PassView, Knows}
use Rattle.term_pool.specs.declared.putting.Image.{Image}
use Rattle.term_pool.specs.Trees.{depth}
use Rattle.term_pool.specs.Building.{PlacesOnlyIn, IsFullIn}

-- A tree, its height as a term, that of its highest item as a list of arguments, and whether a term that stands there
-- is marked as plain, which it is where all that is put in is.
pub record Piece : Type 0 where
  pub tree : Tree
  pub height : ℕ
  pub highest : ℕ
  pub plain : Bool

-- a leaf that stays
abbrev pub staying : ℕ → Piece
staying k = record { tree = leaf k; height = 1; highest = 0; plain = true }

abbrev pub joined_pieces : Piece → Piece → Piece
joined_pieces a b = record { tree = cell a.tree b.tree; height = b.highest + 1; highest = max a.height b.highest; plain = a.plain && b.plain }

-- the tree with these in the places of its leaves
abbrev pub put : (ℕ → Piece) → Tree → Piece
put f (leaf k) = f k
put f (cell a b) = joined_pieces (put f a) (put f b)

-- by references: what is put in for leaves, and what has become of cells
abbrev pub CellImages : Type 0
CellImages = HashMap ℕ Image (BuildHasherDefault FoldHasher)

-- the image is the piece, whose tree the pass knows
pub record IsImageOfPiece (pass : PassView) (d : Image) (p : Piece) : Type 0 where
  pub known : Knows pass d.term p.tree
  pub height : d.height ≡ p.height
  pub highest : d.highest ≡ p.highest
  pub plain : d.plain ≡ p.plain

-- the piece is no higher than its tree allows
pub record IsLowPiece (p : Piece) : Type 0 where
  pub height : p.height ≤ depth p.tree + 1
  pub highest : p.highest ≤ depth p.tree

-- what is put in for leaf k
abbrev pub IsImageOf : PassView → Option Image → ℕ → Piece → Type 0
IsImageOf pass None k p = p ≡ staying k
IsImageOf pass (Some d) k p = IsImageOfPiece pass d p × IsLowPiece p

abbrev pub ArePiecesOfLeaves : PassView → CellImages → (ℕ → Piece) → Type 0
ArePiecesOfLeaves pass images f = (k : ℕ) → IsImageOf pass (get nat_eq images k) k (f k)

-- the images are those of some pieces
pub record HasPieceImages (pass : PassView) (images : CellImages) : Type 0 where
  pub pieces : ℕ → Piece
  pub are : ArePiecesOfLeaves pass images pieces

-- nothing is placed but cells of what the known reference becomes
abbrev pub PlacesPiece : PassView → PassView → (ℕ → Piece) → ℕ → Type 0
PlacesPiece old new f r = (t : Tree) → Knows old r t → PlacesOnlyIn old new (put f t).tree

abbrev pub LacksRoomForPiece : PassView → PassView → (ℕ → Piece) → ℕ → Type 0
LacksRoomForPiece old new f r = (t : Tree) → Knows old r t → IsFullIn new (put f t).tree
