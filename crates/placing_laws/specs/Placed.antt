-- Public. How many cells are placed for a command by a rule of equality: the terms whose cells are counted, and the cells.
use Rattle.std.specs.Prelude.{ℕ, List}
use Rattle.pair_pool.specs.Trees.{Tree}
use Rattle.pair_pool.specs.Views.{Knows}
use Rattle.term_model.specs.Terms.{Term}
use Rattle.term_pool.specs.CellCounts.{Has}
use Rattle.term_pool.specs.StandsFor.{StandsFor}
use Rattle.term_pool.specs.Trees.{IsPartOf}
use Rattle.term_pool.specs.Views.{TermsView}
use Rattle.equality_steps.specs.declared.site.Site.{Site}
use Rattle.equality_blocks.specs.Commands.{IsLiteralOfCommand}
use Rattle.equality_blocks.specs.Made.{IsImageFor}
use Rattle.equality_blocks.specs.Pairs.{AreAssumed, IsPutIn}
use Rattle.elab_resolution.specs.Placed.{IsNewlyPlaced}

-- A term of the command: a literal of it or of a premise's clause; of an assume the first assertion that is equal to its term up to
-- flips; and of a refl what a side is with the images put in. No reference need stand for that.
pub data IsTermOf (p : Site) (v : TermsView) (t : Term) : Type 0 where
  literal : IsLiteralOfCommand p v t → IsTermOf p v t
  asserted : (u : Term) → AreAssumed p v t u → IsTermOf p v t
  side : (u : Term) → IsPutIn p v u t → IsTermOf p v t

-- the tree of each term of the command is among these
abbrev pub HaveTermsOf : Site → TermsView → List Tree → Type 0
HaveTermsOf p v trees = (t : Term) → IsTermOf p v t → (tree : Tree) × Has trees tree × StandsFor p.symbols.now tree t

-- r stands for a part of an image of a variable that an anchor binds, which a refl may put in
pub record IsPartOfImage (p : Site) (v : TermsView) (r : ℕ) : Type 0 where
  pub image : Term
  pub is : IsImageFor p v image
  pub tree : Tree
  pub stands : StandsFor p.symbols.now tree image
  pub part : Tree
  pub known : Knows v.pass r part
  pub within : IsPartOf part tree

-- r is the reference of a cell that the new pass placed and the old one did not know, and that is no cell of such an image
pub record IsPlacedApart (p : Site) (old new : TermsView) (r : ℕ) : Type 0 where
  pub placed : IsNewlyPlaced old.pass new.pass r
  pub apart : ¬ IsPartOfImage p new r
