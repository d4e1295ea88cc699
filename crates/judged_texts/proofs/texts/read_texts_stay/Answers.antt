use Rattle.sym_table.proofs.Tables.{keeps_table}
use Rattle.term_reader.specs.ProblemViews.{IsProblemOf}
use Rattle.term_reader.proofs.Staying.{adds_none}
use Rattle.judged_texts.proofs.texts.read_texts_stay.Goals as goal

pub returns : goal.returns
returns c = λ problem options text s v w both keeps h.
    let is : IsProblemOf s w both.problem h.read.script = c.problems_stay.ensures s s v w both.problem h.read.script (adds_none s) keeps h.is in record {
      read = record {
        script = h.read.script;
        problem_text = h.read.problem_text;
        assertions = is.assertions;
        read = record {
          proof = h.read.read.proof;
          after = h.read.read.after;
          stands = h.read.read.stands;
          refer = c.proofs_stay.ensures s s v w both.proof h.read.read.proof (keeps_table s) keeps h.read.read.refer;
        };
      };
      is = is;
    }
