-- Private. What the cells of a list become where terms are put in for leaves.
use Rattle.std.specs.Prelude.{◌≡◌, ℕ, ◌+◌, ◌<◌, max, ◌&&◌, List, length, slice_index_or}
use Rattle.pair_pool.specs.Trees.{Tree, leaf}
use Rattle.pair_pool.specs.Views.{PassView}
use Rattle.term_pool.specs.declared.putting.Image.{Image}
use Rattle.term_pool.specs.Putting.{Piece, put, IsImageOfPiece}

-- The images of the parts of a cell have been joined to the cell r.
abbrev pub joined_image : ℕ → Image → Image → Image
joined_image r a b = record { term = r; height = b.highest + 1; highest = max a.height b.highest; plain = a.plain && b.plain }

-- the images are what the trees become, in order
pub record AreImages (pass : PassView) (f : ℕ → Piece) (images : List Image) (trees : List Tree) : Type 0 where
  pub each : length images ≡ length trees
  pub are :
      (n : ℕ) (d : Image) → n < length trees →
      IsImageOfPiece pass (slice_index_or images n d) (put f (slice_index_or trees n (leaf 0)))
