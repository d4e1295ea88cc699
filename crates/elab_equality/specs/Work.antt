-- Private. What is under way for a command, and what a call makes of it.
use Rattle.std.specs.Prelude.{◌≡◌, ◌≤◌, ◌+◌, ◌*◌, ℕ, length, Result, IfErr, OnOk}
use Rattle.term_model.specs.Flips.{equality}
use Rattle.term_model.specs.Terms.{Term}
use Rattle.term_parts.specs.declared.answers.RuleStop.{RuleStop}
use Rattle.term_pool.specs.Placing.{LacksCellOf, PlacesCellsOf}
use Rattle.term_pool.specs.Views.{TermsView, KeepsTerms, RefersTo}
use Rattle.equality_steps.specs.declared.site.Site.{Site}
use Rattle.equality_steps.specs.Blocks.{Extends, IsBlockAt}
use Rattle.flip_steps.specs.Memory.{AreForms, IsRemembered, count_of}
use Rattle.equality_blocks.specs.Counts.{IsCellOf}
use Rattle.equality_blocks.specs.Made.{AreMadeSteps, IsMadeFor, IsPlacedFor}
use Rattle.elab_equality.specs.declared.work.Work.{Work}

-- The steps are met where they stand, their terms are made for the command, and what is remembered of terms is right and of cells of
-- the command.
pub record IsWork (p : Site) (v : TermsView) (w : Work) : Type 0 where
  pub block : IsBlockAt p v w.block
  pub forms : AreForms p v w.block w.forms
  pub made : AreMadeSteps p v w.block
  pub met : (r : ℕ) → IsRemembered w.forms r → IsCellOf p v r

-- there are further steps: at most three for each term whose form came to be remembered, and n more
pub record IsMove (p : Site) (v : TermsView) (old new : Work) (n : ℕ) : Type 0 where
  pub work : IsWork p v new
  pub more : Extends old.block new.block
  pub few : length new.block + 3 * count_of old.forms ≤ length old.block + 3 * count_of new.forms + n

-- What a call does that adds steps: it places only cells of what is made for the command, and refuses only for lack of room for one,
-- and out of memory.
pub record IsDone {X : Type 0} (p : Site) (u v : TermsView) (old new : Work) (n : ℕ) (r : Result X RuleStop) : Type 0 where
  pub keeps : KeepsTerms u v
  pub placed : PlacesCellsOf p.symbols.now u.pass v.pass (IsPlacedFor p v)
  pub full : IfErr r (λ e. e ≡ RuleStop.PoolFull → LacksCellOf p.symbols.now v.pass (IsPlacedFor p v))
  pub moved : OnOk r (IsMove p v old new n)

-- the equality of the terms of two references is made for the command
pub record AreMadeEqual (p : Site) (v : TermsView) (a b : ℕ) : Type 0 where
  pub left : Term
  pub right : Term
  pub left_refers : RefersTo p.symbols.now v a left
  pub right_refers : RefersTo p.symbols.now v b right
  pub made : IsMadeFor p v (equality left right)
