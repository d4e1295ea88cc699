-- Public. What workers of a check have made in a world, and the terms that the pool's words spell there.
use Rattle.std.specs.Prelude.{◌≡◌, ℕ, List, length, slice_get, Some, Vec}
use Rattle.std.specs.declared.alloc.Global.{Global}
use Rattle.pair_pool.specs.declared.holder.Holder.{Holder}
use Rattle.pair_pool.specs.Holders.{view_of}
use Rattle.pair_pool.specs.OnlyPass.{only_pass}
use Rattle.pair_pool.specs.Views.{PassView, PoolView}
use Rattle.rule_model.specs.declared.statuses.Status.{Status}
use Rattle.step_check.specs.declared.chunks.StepJob.{StepJob}
use Rattle.rule_model.specs.Scopes.{commands_in}
use Rattle.step_check.specs.Chunks.{chunks_of, AreStatusesOfChunk}
use Rattle.term_pool.specs.Views.{TermsView}
use Rattle.crew_laws.specs.AnyOrder.{World}

-- the terms of a pool, by what a pass knows
abbrev pub terms_of : PoolView → PassView → TermsView
terms_of pool pass = record { pool = pool; pass = pass }

-- the terms that the words of the pool spell: what a pass knows that knows every cell of them
abbrev pub decoded : PoolView → World → TermsView
decoded pool w = terms_of pool (only_pass w.pool.words)

-- by what some pass knows, this is the piece of chunk k of the check: its statuses
pub record IsSaid (job : StepJob) (pool : PoolView) (w : World) (k : ℕ) (piece : Vec Status Global) : Type 0 where
  pub index : ℕ
  pub pass : Holder
  pub is : slice_get w.pool.passes index ≡ Some pass
  pub said : AreStatusesOfChunk job.flags job.symbols.now (terms_of pool (view_of pass)) job.problem.now.assertions job.proof.now k piece.items

-- There is one piece for each chunk, each said by what some pass knows, and these are they, in the order of the chunks. Who made which
-- plays no part: a seat that has ended and holds all 65 shares drew the number of each chunk once.
pub record AreMade (job : StepJob) (pool : PoolView) (w : World) (all : List (Vec Status Global)) : Type 0 where
  pub one_each : length all ≡ chunks_of (commands_in job.proof.now)
  pub said : (k : ℕ) (piece : Vec Status Global) → slice_get all k ≡ Some piece → IsSaid job pool w k piece
