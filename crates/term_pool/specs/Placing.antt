-- Public. What is placed for a term or for terms of a kind, and for which there was no room.
use Rattle.std.specs.Prelude.{◌⊎◌, ℕ}
use Rattle.pair_pool.specs.Trees.{Tree}
use Rattle.pair_pool.specs.Views.{PassView, IsPlaced}
use Rattle.sym_table.specs.Table.{Table}
use Rattle.term_model.specs.Terms.{Term}
use Rattle.term_pool.specs.Building.{PlacesOnlyIn, IsCellIn, IsFullIn}
use Rattle.term_pool.specs.StandsFor.{StandsFor}

-- what the new pass placed and the old one had not, are cells of the term
pub record PlacesTerm (s : Table) (old new : PassView) (t : Term) : Type 0 where
  pub tree : Tree
  pub stands : StandsFor s tree t
  pub placed : PlacesOnlyIn old new tree

-- the pass has seen all places occupied by other cells than one of the term
pub record LacksRoomFor (s : Table) (new : PassView) (t : Term) : Type 0 where
  pub tree : Tree
  pub stands : StandsFor s tree t
  pub full : IsFullIn new tree

-- the references a and b are the parts of a cell of a term that is wanted
pub record IsWantedCell (s : Table) (pass : PassView) (IsWanted : Term → Type 0) (a b : ℕ) : Type 0 where
  pub whole : Term
  pub wanted : IsWanted whole
  pub tree : Tree
  pub stands : StandsFor s tree whole
  pub cell : IsCellIn pass a b tree

-- what the new pass placed and the old one had not, are cells of terms that are wanted
abbrev pub PlacesCellsOf : Table → PassView → PassView → (Term → Type 0) → Type 0
PlacesCellsOf s old new IsWanted = (r a b : ℕ) → IsPlaced new r a b → IsPlaced old r a b ⊎ IsWantedCell s new IsWanted a b

-- the pass has seen all places occupied by other cells than one of a term that is wanted
pub record LacksCellOf (s : Table) (pass : PassView) (IsWanted : Term → Type 0) : Type 0 where
  pub whole : Term
  pub wanted : IsWanted whole
  pub tree : Tree
  pub stands : StandsFor s tree whole
  pub full : IsFullIn pass tree
