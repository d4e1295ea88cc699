-- Private. What is built for a command: steps, and the forms of terms.
use Rattle.std.specs.Prelude.{◌≤◌, ◌+◌, ◌*◌, ℕ, length}
use Rattle.term_model.specs.Flips.{equality, EqualUpToFlips}
use Rattle.term_model.specs.Terms.{Term}
use Rattle.term_pool.specs.Placing.{LacksCellOf, PlacesCellsOf}
use Rattle.term_pool.specs.Views.{TermsView, KeepsTerms, RefersTo}
use Rattle.equality_steps.specs.declared.site.Site.{Site}
use Rattle.equality_steps.specs.Blocks.{Extends, IsBlockAt}
use Rattle.equality_steps.specs.Sites.{AreSides}
use Rattle.flip_steps.specs.Memory.{AreForms, IsRemembered, count_of}
use Rattle.flip_steps.specs.Stages.{StandsIn}
use Rattle.equality_blocks.specs.Counts.{IsCellOf, IsRootOf}
use Rattle.equality_blocks.specs.Made.{AreMadeSteps, IsMadeFor}
use Rattle.equality_blocks.specs.Pairs.{ArePaired}
use Rattle.elab_denials.specs.declared.work.Work.{Work}

-- the steps may stand there and are of terms made for the command, and the forms are right, and of cells of it
pub record IsWork (p : Site) (v : TermsView) (w : Work) : Type 0 where
  pub block : IsBlockAt p v w.block
  pub made : AreMadeSteps p v w.block
  pub forms : AreForms p v w.block w.forms
  pub cells : (r : ℕ) → IsRemembered w.forms r → IsCellOf p v r

-- Some work became more: by three steps for each cell whose form is new, and by so many others at most.
pub record IsDone (p : Site) (v : TermsView) (old new : Work) (n : ℕ) : Type 0 where
  pub work : IsWork p v new
  pub extends : Extends old.block new.block
  pub few : length new.block + 3 * count_of old.forms ≤ length old.block + 3 * count_of new.forms + n

-- only cells of terms that are made for the command are placed
pub record Went (p : Site) (v w : TermsView) : Type 0 where
  pub keeps : KeepsTerms v w
  pub placed : PlacesCellsOf p.symbols.now v.pass w.pass (IsMadeFor p w)

-- there is no room for such a cell
abbrev pub LacksRoom : Site → TermsView → Type 0
LacksRoom p v = LacksCellOf p.symbols.now v.pass (IsMadeFor p v)

-- `(= a b)` is made for the command
pub record IsMadeEquality (p : Site) (v : TermsView) (a b : ℕ) : Type 0 where
  pub left : Term
  pub right : Term
  pub left_refers : RefersTo p.symbols.now v a left
  pub right_refers : RefersTo p.symbols.now v b right
  pub made : IsMadeFor p v (equality left right)

-- the reference stands for a term that stands in one of the command
pub record IsRootedAt (p : Site) (v : TermsView) (r : ℕ) : Type 0 where
  pub root : ℕ
  pub is : IsRootOf p v root
  pub stands : StandsIn p.symbols.now v root r

-- the references stand for terms of the command that may be joined
pub record IsPlaceAt (p : Site) (v : TermsView) (a b : ℕ) : Type 0 where
  pub left : Term
  pub right : Term
  pub left_refers : RefersTo p.symbols.now v a left
  pub right_refers : RefersTo p.symbols.now v b right
  pub sides : AreSides p left right
  pub paired : ArePaired p v left right
  pub back : ArePaired p v right left
  pub left_in : IsRootedAt p v a
  pub right_in : IsRootedAt p v b

-- for terms that are equal up to flips
pub record AreFlipsAt (p : Site) (v : TermsView) (a b : ℕ) : Type 0 where
  pub left : Term
  pub right : Term
  pub left_refers : RefersTo p.symbols.now v a left
  pub right_refers : RefersTo p.symbols.now v b right
  pub equal : EqualUpToFlips left right
