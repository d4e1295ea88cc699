-- What was made of two texts that were read: the check of the proof.
use Rattle.std.proofs.Common.{ℕ, List}
use Rattle.sym_table.specs.Table.{Table}
use Rattle.term_pool.specs.Views.{TermsView}
use Rattle.rule_model.specs.Proofs.{ProofItems}
use Rattle.command_words.specs.declared.request.Options.{Options}
use Rattle.judged_texts.specs.declared.texts.Both.{Both}
use Rattle.judged_texts.specs.Judgement.{IsCheckedAs}
use Rattle.judged_texts.specs.Judging.{Corresponds}
use Rattle.elaborated_texts.specs.Making.{IsMadeOf}
use Rattle.judged_texts.specs.Texts.{AreReadBoth}
use Rattle.judged_texts.proofs.VerdictLemmas.{verdict_stands}

module _ (problem : List ℕ) (options : Options) (text : List ℕ) (s : Table) (v : TermsView) (both : Both) (status : ℕ) (new : ProofItems ℕ ℕ)
    (read : AreReadBoth problem options text s v both) (made : IsMadeOf problem options text s v both status new)
    (same : Corresponds s v both.proof read.read.read.proof) where
  abbrev pub checked : IsCheckedAs problem options text made.verdict
  checked = record {
    script = read.read.script;
    commands = read.read.read.proof;
    after = read.read.read.after;
    statuses = made.statuses;
    problem_text = read.read.problem_text;
    proof_text = read.read.read.stands;
    are = made.are read.read.read.proof read.read.script.assertions read.read.read.refer read.read.assertions;
    verdict = verdict_stands s v both.proof read.read.read.proof same made.statuses made.verdict made.of;
  }
