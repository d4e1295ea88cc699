-- Private. An elaboration on its way to the output: what is made of the two texts.
use Rattle.std.specs.Prelude.{◌≡◌, ◌⊎◌, ℕ, Bool, true, false, List, ⊤}
use Rattle.pair_pool.specs.Views.{IsOneToOne, HasListsInOrder}
use Rattle.sym_table.specs.Table.{Table, IsTable}
use Rattle.term_pool.specs.Placing.{LacksCellOf}
use Rattle.term_pool.specs.Views.{TermsView}
use Rattle.term_reader.specs.declared.flags.Flags.{Flags}
use Rattle.rule_model.specs.declared.statuses.Status.{Status}
use Rattle.rule_model.specs.declared.statuses.Verdict.{Verdict}
use Rattle.rule_model.specs.Proofs.{ProofItems}
use Rattle.rule_model.specs.Statuses.{IsVerdict}
use Rattle.elaboration.specs.Elaborated.{IsElaborated, IsPlacedFor, IsTooLong, StaysOver}
use Rattle.step_check.specs.Statuses.{AreStatusesOf}
use Rattle.command_words.specs.declared.request.Options.{Options}
use Rattle.elaborated_texts.specs.declared.making.Made.{Made}
use Rattle.elaborated_texts.specs.declared.making.Made.TheVariants as made
use Rattle.elaborated_texts.specs.declared.elaborating.End.{End}
use Rattle.elaborated_texts.specs.declared.elaborating.End.TheVariants as end
use Rattle.judged_texts.specs.declared.judgement.Judgement.TheVariants.{PoolFull}
use Rattle.judged_texts.specs.declared.texts.Both.{Both}
use Rattle.elaborated_texts.specs.Elaborated.{IsJudgementInstead, IsStatusOfPrinted}
use Rattle.judged_texts.specs.Texts.{IsReadProof, flags_of}

-- The references that were made stand for an elaboration of the proof that was read, whose verdict is of this status.
pub record IsMadeOf (problem : List ℕ) (options : Options) (text : List ℕ) (s : Table) (v : TermsView) (both : Both) (status : ℕ) (new : ProofItems ℕ ℕ)
    : Type 0 where
  pub verdict : Verdict
  pub is_status : IsStatusOfPrinted verdict status
  pub read : IsReadProof problem options text s v both.problem.assertions both.proof
  pub statuses : List Status
  pub are : AreStatusesOf (flags_of options) s v both.problem.assertions both.proof statuses
  pub of : IsVerdict statuses both.proof verdict
  pub is : IsElaborated (flags_of options) s v both.problem.assertions both.proof new
  pub over : StaysOver s v both.proof new

-- what was made of a proof that passes, by these strict statuses
abbrev pub IsMadeBy : Flags → Table → TermsView → List ℕ → ProofItems ℕ ℕ → List Status → ℕ → Made → Type 0
IsMadeBy flags s v asserted refs strict status (made.Whole new st) =
    (st ≡ status) × IsElaborated flags s v asserted refs new × StaysOver s v refs new
IsMadeBy flags s v asserted refs strict status (made.Instead j) =
    (j ≡ PoolFull) × IsTable s × IsOneToOne v.pass × HasListsInOrder v.pass
    × (IsTooLong s v asserted refs strict ⊎ LacksCellOf s v.pass (IsPlacedFor s v asserted refs strict))

-- what was made whole, whatever room the pool has
abbrev pub IsWholeMade : List ℕ → Options → List ℕ → Table → TermsView → Both → Made → Type 0
IsWholeMade problem options text s v both (made.Whole new status) = IsMadeOf problem options text s v both status new
IsWholeMade problem options text s v both m = ⊤

-- what was made of two texts that were read
abbrev pub IsMade : List ℕ → Options → List ℕ → ℕ → Table → TermsView → Both → Made → Type 0
IsMade problem options text bits s v both (made.Whole new status) = IsMadeOf problem options text s v both status new
IsMade problem options text bits s v both (made.Instead j) = IsJudgementInstead problem options text bits j

-- the pool was full, or there were too many commands
abbrev pub is_full : End → Bool
is_full (end.Instead PoolFull) = true
is_full _ = false
