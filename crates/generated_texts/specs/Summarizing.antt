-- Private. From two texts that were read to their summary.
use Rattle.std.specs.Prelude.{ℕ, List}
use Rattle.sym_table.specs.Table.{Table}
use Rattle.term_pool.specs.Views.{TermsView}
use Rattle.command_words.specs.declared.request.Options.{Options}
use Rattle.judged_texts.specs.declared.judgement.Judgement.{Judgement}
use Rattle.judged_texts.specs.declared.texts.Both.{Both}
use Rattle.judged_texts.specs.Judgement.{IsJudgement}
use Rattle.judged_texts.specs.Texts.{AreReadBoth}
use Rattle.generated_texts.specs.Cells.{HasCells}
use Rattle.generated_texts.specs.Standing.{standing_in}
use Rattle.generated_texts.specs.Summaries.{IsOfProof}

-- the terms that stand in two texts that were read have so many distinct cells
abbrev pub HasCellsOfRead : List ℕ → Options → List ℕ → Table → TermsView → Both → ℕ → Type 0
HasCellsOfRead problem options text s v both n =
    (read : AreReadBoth problem options text s v both) → HasCells (standing_in read.read.script.assertions read.read.read.proof) n

-- these are two texts that were read
pub record AreReadOfSome (s : Table) (v : TermsView) (both : Both) : Type 0 where
  pub problem : List ℕ
  pub options : Options
  pub text : List ℕ
  pub read : AreReadBoth problem options text s v both

-- the judgement is that of the proof
pub record IsJudgedRead (problem : List ℕ) (options : Options) (proof : List ℕ) (j : Judgement) : Type 0 where
  pub of_proof : IsOfProof j
  pub judged : IsJudgement problem options proof 0 j
