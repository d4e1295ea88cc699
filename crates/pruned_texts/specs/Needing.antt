-- Private. A proof that was read and is valid, on the way to what it needs.
use Rattle.std.specs.Prelude.{ℕ, Bool, true, false, List}
use Rattle.sym_table.specs.Table.{Table}
use Rattle.term_model.specs.Terms.{Var, Term}
use Rattle.term_pool.specs.Views.{TermsView, ReferToAll}
use Rattle.proof_store.specs.Meaning.{StandForItems}
use Rattle.rule_model.specs.declared.statuses.Verdict.{Verdict}
use Rattle.rule_model.specs.Proofs.{ProofItems}
use Rattle.pruned_proofs.specs.Core.{IsCore}
use Rattle.proof_prune.specs.Numbering.{AreAsserted}
use Rattle.command_words.specs.declared.request.Options.{Options}
use Rattle.judged_texts.specs.declared.judgement.Judgement.TheVariants.{PoolFull}
use Rattle.judged_texts.specs.declared.texts.Both.{Both}
use Rattle.judged_texts.specs.Judgement.{IsCheckedAs}
use Rattle.judged_texts.specs.Texts.{AreReadBoth}
use Rattle.pruned_texts.specs.declared.needing.End.{End}
use Rattle.pruned_texts.specs.declared.needing.End.TheVariants as end

-- both texts were read, and the proof is valid
pub record IsValidRead (problem : List ℕ) (options : Options) (text : List ℕ) (s : Table) (v : TermsView) (both : Both) : Type 0 where
  pub read : AreReadBoth problem options text s v both
  pub checked : IsCheckedAs problem options text Verdict.Valid

-- the numbers are those of the core of each proof for which the references stand, with the assertions for which they stand
abbrev pub IsCoreOfRead : Table → TermsView → List ℕ → ProofItems ℕ ℕ → List Bool → List ℕ → Type 0
IsCoreOfRead s v asserted refs marks numbers =
    (of : ProofItems Var Term) (ts : List Term) → StandForItems s v refs of → ReferToAll s v asserted ts → AreAsserted marks ts of →
    IsCore marks ts of numbers

-- the pool was full
abbrev pub is_full : End → Bool
is_full (end.Instead PoolFull) = true
is_full _ = false
