use Rattle.std.proofs.Common.{◌≡◌, ◌≤◌, ◌<◌, ◌*◌, false, length, rules, arith, ◌∙◌}
use Rattle.question_reading.specs.Questions.{faulty}
use Rattle.question_reading.proofs.LeftOut.{left_out}
use Rattle.question_reading.proofs.ReadQuestions.{holds_new, holds_script, not_left_out}
use Rattle.question_reading.proofs.reading.read_into.Goals as goal

pub returns-in-Ok-clause-read : goal.returns-in-Ok-clause-read
returns-in-Ok-clause-read c =
    let found = c.in-Ok.ensures.problem in
    record {
      script = found.0;
      stands = found.1;
      problem = found.2;
      holds = holds_script c.items_are_unique.ensures.text c.read_problem.new.symbols c.args.terms.now.pass c.read_problem.new.terms.pass
          c.args.question.now found.0 found.1 c.requires.nothing c.in-Ok.ensures.placed;
    }

pub returns-in-Ok-clause-only : goal.returns-in-Ok-clause-only
returns-in-Ok-clause-only c =
    let plain : c.has_definitions.result ≡ false = search rules in
    not_left_out c.args.question.now c.has_definitions.result c.requires.short c.in-Ok.ensures.refused c.has_definitions.ensures plain

pub returns-in-Err-Text-clause-left_out : goal.returns-in-Err-Text-clause-left_out
returns-in-Err-Text-clause-left_out c = faulty c.in-Err-Text.field-0-0 (c.in-Err-Text.ensures.fault c.in-Err-Text.field-0-0 (cc))

pub returns-in-Err-PoolFull-clause-left_out : goal.returns-in-Err-PoolFull-clause-left_out
returns-in-Err-PoolFull-clause-left_out c =
    let symbols = c.read_problem.new.symbols in
    let old = c.args.terms.now.pass in
    let new = c.read_problem.new.terms.pass in
    let kept = c.in-Err-PoolFull.ensures.keeps.pass in
    let some : 0 < new.places = omega (arith, kept.places, c.requires.some) in
    let room : 4 * length c.args.question.now ≤ new.places = omega (arith, kept.places, c.requires.room) in
    left_out c.items_are_unique.ensures.text c.texts_have_one_reading.ensures.judged c.plain_texts_are_small.ensures.cells c.args.question.now
    symbols c.leaves_differ.ensures.table new (kept.shares ∙ c.requires.shares) c.one_to_one.ensures c.terms_at.ensures.lists
    (holds_new symbols old new _ c.requires.nothing c.in-Err-PoolFull.ensures.placed) (c.in-Err-PoolFull.ensures.full (cc)) some room
