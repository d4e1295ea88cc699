use Rattle.std.proofs.Common.{arith}
use Rattle.rules_resolution.specs.Steps.{IsShort}
use Rattle.judged_texts.specs.Reading.{settings_of}
use Rattle.judged_texts.proofs.TruthClauses.{clauses_of_truths}
use Rattle.judged_texts.proofs.VerdictLemmas.{short_stands}
use Rattle.judged_texts.proofs.judging.read_proofs_can_be_checked.Goals as goal

-- no clause and no list of premises is longer than the text, and the text's proof is well sorted
pub returns : goal.returns
returns c = λ problem options text s v asserted refs is size.
    let settings = settings_of options in
    let script = is.script in
    let read = is.read in
    let sound = c.scripts_are_well_sorted.ensures problem options.replaces_lets script is.problem_text in
    let scoped = c.scripts_are_closed.ensures problem options.replaces_lets script is.problem_text in
    let sorted = c.proofs_have_scoped_terms.ensures text settings script read.proof read.after sound scoped read.stands in
    let short : IsShort refs = short_stands _ _ refs read.proof (c.proofs_correspond.ensures _ _ refs read.proof read.refer) (record {
      clauses = λ i. let h = c.proofs_are_short.ensures.clauses text settings script read.proof read.after i read.stands in omega (arith, h, size);
      premises = λ i. let h = c.proofs_are_short.ensures.premises text settings script read.proof read.after i read.stands in omega (arith, h, size);
    }) in record {
      proof = read.proof;
      stand = read.refer;
      asserted = record { assertions = script.assertions; refer = is.assertions };
      short = short;
      sorted = λ i. clauses_of_truths read.proof i sorted;
    }
