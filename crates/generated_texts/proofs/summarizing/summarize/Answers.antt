use Rattle.std.proofs.Common.{◌∙◌}
use Rattle.generated_texts.proofs.summarizing.summarize.Goals as goal

pub count_cells-requires : goal.count_cells-requires
count_cells-requires g c =
    let t = c.args.texts.now in record {
      problem = t.problem.now;
      options = t.options;
      text = t.proof.now;
      read = c.read_texts_stay.ensures t.problem.now t.options t.proof.now c.args.symbols.now c.args.terms.now c.judge_both.new.terms c.args.both.now
          c.judge_both.ensures.keeps c.requires.read;
    }

pub returns-clause-summary : goal.returns-clause-summary
returns-clause-summary g c =
    let t = c.args.texts.now in
    let s = c.args.symbols.now in
    let both = c.args.both.now in
    let read = c.read_texts_stay.ensures t.problem.now t.options t.proof.now s c.args.terms.now c.judge_both.new.terms both
    c.judge_both.ensures.keeps c.requires.read in
    let is = read.read in record {
      script = is.script;
      commands = is.read.proof;
      after = is.read.after;
      problem_stands = is.problem_text;
      proof_stands = is.read.stands;
      steps = c.count-steps.ensures.count ∙ c.commands_correspond.ensures.commands s c.judge_both.new.terms both.proof is.read.proof is.read.refer;
      cells = c.in-Ok-count_cells.ensures t.problem.now t.options t.proof.now read;
      of_proof = c.in-Ok.ensures.judged.of_proof;
      judged = c.in-Ok.ensures.judged.judged;
    }
