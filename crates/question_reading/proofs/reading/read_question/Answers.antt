use Rattle.std.proofs.Common.{◌≡◌, ◌≤◌, ◌*◌, ◌^◌, length, arith}
use Rattle.std.proofs.lemmas.Bool.Decides.{nat_tests}
use Rattle.hole_fillers.specs.Questions.{most_bytes}
use Rattle.question_reading.proofs.ReadQuestions.{is_read_of, enough_places}
use Rattle.question_reading.proofs.reading.read_question.Goals as goal

pub returns-clause-read : goal.returns-clause-read
returns-clause-read c =
    let short : length c.args.question.now ≤ most_bytes = grind (arith, nat_tests) in
    let same = rw c.in-Some.is at c.in_ok-found.ensures.places in
    let enough = enough_places c.pool_bits.result c.pool_bits.ensures.least in
    is_read_of c.args.question.now _ (rw c.in-Some.is at c.in_ok-found.ensures.read) short (rw c.in-Some.is at c.in_ok-found.ensures.of_pool)
    (rw c.in-Some.is at c.in_ok-found.ensures.shares) (omega (arith, same, c.in_ok-tables.ensures.places, c.pool_bits.ensures.room))
    (omega (arith, same, c.in_ok-tables.ensures.places, enough))
