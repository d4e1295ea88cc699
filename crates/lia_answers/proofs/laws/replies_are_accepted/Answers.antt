use Rattle.std.proofs.Common.{◌+◌, ◌≤◌, ◌^◌, length, sym, subst, arith}
use Rattle.accepted_replies.specs.Refutations.{IsAccepted}
use Rattle.question_cells.specs.Definitions.{HasDefinitions}
use Rattle.question_reading.specs.Questions.{defining}
use Rattle.lia_answers.specs.Filling.{assumed_by, inference_by, proof_by}
use Rattle.lia_answers.proofs.Replies.{answer, few_assumed}
use Rattle.lia_answers.proofs.laws.replies_are_accepted.Goals as goal

pub returns : goal.returns
returns c = λ question bytes unknown_are_holes reply.
    let script = reply.script in
    let ts = assumed_by reply.rows reply.multipliers in
    let x = inference_by reply.rows reply.multipliers in
    let none : HasDefinitions question → ⊥ = λ h. reply.not_left_out (defining h) in
    let readable = c.assertions_are_readable.ensures question script reply.stands (c.plain_texts_are_small.ensures.macros question script reply.stands none)
    (c.plain_texts_are_small.ensures.named question script reply.stands none) in
    let answers = answer c.rows_of_assertions.ensures.rows c.rows_of_assertions.ensures.assertions c.denials_are_denied.ensures.of_assumed
    c.combinations_are_steps.ensures.met c.combinations_are_steps.ensures.narrow c.combinations_are_steps.ensures.lowest script reply.rows
    reply.multipliers reply.refuted reply.narrow in
    let at_most = few_assumed c.some_assertions_are_used.ensures.few reply.rows reply.multipliers reply.refuted.searched in
    let few : length ts + 2 ≤ 2 ^ 32 = omega (arith, at_most) in
    let read = c.answers_refute.ensures.read question script ts x reply.stands readable answers few in
    let refuted = c.answers_refute.ensures.refuted unknown_are_holes script ts x answers in
    subst (IsAccepted question unknown_are_holes) (sym reply.text)
    (c.refutations_are_accepted.ensures question unknown_are_holes script (proof_by reply.rows reply.multipliers) reply.stands read refuted)
