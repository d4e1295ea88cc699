-- Private. What is handed in where the holes of a proof are to be filled.
use Rattle.std.specs.Prelude.{◌≤◌, ℕ, List, length, Bool, true, false}
use Rattle.sym_table.specs.Table.{Table}
use Rattle.term_pool.specs.Views.{TermsView}
use Rattle.judged_texts.specs.declared.judgement.Judgement.TheVariants.{PoolFull}
use Rattle.judged_texts.specs.declared.texts.Both.{Both}
use Rattle.judged_texts.specs.Pools.{HoldsOnly}
use Rattle.judged_texts.specs.Reading.{most_bytes, IsReadOf}
use Rattle.judged_texts.specs.Texts.{IsReadProof}
use Rattle.hole_fillers.specs.Benches.{Seat}
use Rattle.filled_texts.specs.declared.filling.End.{End}
use Rattle.filled_texts.specs.declared.filling.End.TheVariants as end
use Rattle.filled_texts.specs.declared.filling.ToFill.{ToFill}
use Rattle.filled_texts.specs.Filled.{EndsFrom}

-- the texts are no longer than a text may be, and the largest pool has as many bits as it may
pub record MayBeFilled (t : ToFill) : Type 0 where
  pub problem : length t.texts.problem.now ≤ most_bytes
  pub proof : length t.texts.proof.now ≤ most_bytes
  pub least : 12 ≤ t.most_bits
  pub most : t.most_bits ≤ 26

-- both texts were read, into a pool in which nothing else stands
pub record WereRead (t : ToFill) (s : Table) (v : TermsView) (both : Both) : Type 0 where
  pub read : IsReadProof t.texts.problem.now t.texts.options t.texts.proof.now s v both.problem.assertions both.proof
  pub holds : HoldsOnly s v.pass (IsReadOf t.texts.problem.now t.texts.options t.texts.proof.now)

-- how it ended where the pool of the two texts has 2^own places
abbrev pub FillsFrom : ToFill → ℕ → List Seat → List Seat → End → Type 0
FillsFrom t own old new e = EndsFrom t.texts.problem.now t.texts.options t.texts.proof.now own t.most_bits old new e

-- the pool for the two texts was full
abbrev pub is_full : End → Bool
is_full (end.Judged PoolFull) = true
is_full _ = false
