-- Public. What contracts see of a `Terms`, and when a reference in it stands for a term.
use Rattle.std.specs.Prelude.{◌≡◌, ℕ, List}
use Rattle.std.specs.List.{AllZip}
use Rattle.pair_pool.specs.Trees.{Tree, cell}
use Rattle.pair_pool.specs.Views.{PoolView, PassView, Knows, Grows, SeesMore}
use Rattle.sym_table.specs.Table.{Table}
use Rattle.term_model.specs.Terms.{Term}
use Rattle.term_pool.specs.StandsFor.{StandsFor}

-- a pool, and a pass on it
pub record TermsView : Type 0 where
  pub pool : PoolView
  pub pass : PassView

-- by the table, the reference r stands for the term t: the pass knows a tree of r, which stands for t
pub record RefersTo (s : Table) (v : TermsView) (r : ℕ) (t : Term) : Type 0 where
  pub tree : Tree
  pub known : Knows v.pass r tree
  pub stands : StandsFor s tree t

-- the reference stands for a term
pub record IsTerm (s : Table) (v : TermsView) (r : ℕ) : Type 0 where
  pub means : Term
  pub refers : RefersTo s v r means

-- references and terms in the same order, each reference standing for its term
abbrev pub ReferToAll : Table → TermsView → List ℕ → List Term → Type 0
ReferToAll s v rs ts = AllZip (RefersTo s v) rs ts

-- references and trees in the same order, each reference known to have its tree
abbrev pub KnowsAll : PassView → List ℕ → List Tree → Type 0
KnowsAll pass rs ts = AllZip (Knows pass) rs ts

-- The new pass has the old one's places and shares, and knows and has seen at least what the old one did.
pub record KeepsPass (old new : PassView) : Type 0 where
  pub places : new.places ≡ old.places
  pub shares : new.shares ≡ old.shares
  pub grows : Grows old new
  pub sees : SeesMore old new

-- the same pool, with a pass that has kept what it had
pub record KeepsTerms (old new : TermsView) : Type 0 where
  pub pool : new.pool ≡ old.pool
  pub pass : KeepsPass old.pass new.pass

-- r is the reference of a cell that the pass knows
pub record IsKnownCell (pass : PassView) (r : ℕ) : Type 0 where
  pub first : Tree
  pub second : Tree
  pub stands : Knows pass r (cell first second)
