-- What is written of an elaboration that was made of two texts is the text that is promised, or a prefix of it.
use Rattle.std.proofs.Common.{ℕ, List, Option}
use Rattle.std.specs.Io.KnownBytes.{Appends}
use Rattle.file_ports.specs.Texts.{AppendsPrefix}
use Rattle.rule_model.specs.Proofs.{ProofItems}
use Rattle.sym_table.specs.Table.{Table}
use Rattle.term_pool.specs.Views.{TermsView}
use Rattle.printed_proofs.specs.Shared.{Plan}
use Rattle.alethe_printer.specs.Printed.{proof_text}
use Rattle.command_words.specs.declared.request.Options.{Options}
use Rattle.judged_texts.specs.declared.texts.Both.{Both}
use Rattle.elaborated_texts.specs.Elaborated.{IsElaboratedText}
use Rattle.named_proofs.specs.Named.{IsFreePlan, IsNamedText, WritesText}
use Rattle.named_proofs.specs.Written.{WritesPrefix, WritesWhole}
use Rattle.elaborated_texts.specs.Ending.{IsTextOfSome}
use Rattle.elaborated_texts.specs.Making.{IsMadeOf}
use Rattle.judged_texts.specs.Texts.{AreReadBoth}

module _ (problem : List ℕ) (options : Options) (text : List ℕ) (s : Table) (v : TermsView) (both : Both) (status : ℕ) (new : ProofItems ℕ ℕ)
    (read : AreReadBoth problem options text s v both) (made : IsMadeOf problem options text s v both status new)
    (texts : (plan : Plan) → IsFreePlan s read.read.script plan →
    IsElaboratedText problem options text status (proof_text plan read.read.script made.is.meant.proof)) where
  named : (Writes : List ℕ → Type 0) → WritesText Writes s v both.problem new → IsNamedText Writes s read.read.script made.is.meant.proof
  named Writes writes = writes read.read.script made.is.meant.proof read.is made.is.meant.stand

  pub whole_of : (before after : Option (List ℕ)) → WritesText (Appends before after) s v both.problem new
      → WritesWhole (IsElaboratedText problem options text status) before after
  whole_of before after writes =
      let n = named (Appends before after) writes in record {
        text = proof_text n.plan read.read.script made.is.meant.proof;
        is = texts n.plan n.free;
        printed = n.written;
      }

  pub prefix_of : (before after : Option (List ℕ)) → WritesText (AppendsPrefix before after) s v both.problem new
      → WritesPrefix (IsTextOfSome problem options text) before after
  prefix_of before after writes =
      let n = named (AppendsPrefix before after) writes in record {
        text = proof_text n.plan read.read.script made.is.meant.proof;
        is = (status, texts n.plan n.free);
        printed = n.written;
      }
