use Rattle.std.proofs.Common.{◌≡◌, ◌+◌, [], length, slice_get, Some, ◌∙◌, ap, subst, arith}
use Rattle.rule_model.specs.Scopes.{next_index}
use Rattle.rule_model.specs.Writing.{take_step}
use Rattle.elaborator.specs.Names.{name_of}
use Rattle.elaborator.specs.Reached.{state_of, job_of, one_more, written_to}
use Rattle.elaborator.specs.Steps.{front, block_at, new_step}
use Rattle.elaborator.proofs.WritingCalls.{ok_reached, within_now, block_now, front_may_now, front_few_now}
use Rattle.elaborator.proofs.WrittenSteps.{standing_now}
use Rattle.elaborator.proofs.writing.stand_step.Goals as goal

pub block-requires : goal.block-requires
block-requires c = block_now (job_of c.args.parts.now) c.requires.job c.args.i (state_of c.args.written.now) c.requires.at_line

pub add_all-requires-clause-may : goal.add_all-requires-clause-may
add_all-requires-clause-may c m a h =
    let job = job_of c.args.parts.now in
    let is = c.requires.job in
    let s = state_of c.args.written.now in
    let fr : c.front.result.now ≡ front (block_at job.blocks c.args.i) = c.front.ensures ∙ ap (λ xs. front xs) c.block.ensures in
    front_may_now job is c.args.i s c.requires.at_line c.requires.stands m a (subst (λ xs. slice_get xs m ≡ Some a) fr h)

pub add_all-requires-clause-few : goal.add_all-requires-clause-few
add_all-requires-clause-few c =
    let job = job_of c.args.parts.now in
    let is = c.requires.job in
    let s = state_of c.args.written.now in
    let fr : c.front.result.now ≡ front (block_at job.blocks c.args.i) = c.front.ensures ∙ ap (λ xs. front xs) c.block.ensures in
    let few = front_few_now job is c.args.i s c.requires.at_line c.requires.stands in
    let long = ap length fr in omega arith

pub in_place-requires-clause-within : goal.in_place-requires-clause-within
in_place-requires-clause-within c =
    within_now (job_of c.args.parts.now) c.requires.job c.args.i (state_of c.args.written.now) c.requires.at_line

pub in_place-requires-clause-block : goal.in_place-requires-clause-block
in_place-requires-clause-block c =
    block_now (job_of c.args.parts.now) c.requires.job c.args.i (state_of c.args.written.now) c.requires.at_line

pub in_place-requires-clause-may : goal.in_place-requires-clause-may
in_place-requires-clause-may c =
    let job = job_of c.args.parts.now in
    let s = state_of c.args.written.now in
    let t = state_of c.add_all.new.written in
    let moved : c.front.result.now ≡ front (block_at job.blocks c.args.i) = c.front.ensures ∙ ap (λ xs. front xs) c.block.ensures in
    (standing_now job c.requires.job c.args.i s t c.requires.at_line c.requires.stands c.requires.step c.front.result.now c.in_ok-start.start moved c.in_ok-start.ensures.extended
    c.in_ok-start.ensures.start).in_place

pub put-requires-clause-may : goal.put-requires-clause-may
put-requires-clause-may c =
    let job = job_of c.args.parts.now in
    let s = state_of c.args.written.now in
    let t = state_of c.add_all.new.written in
    let moved : c.front.result.now ≡ front (block_at job.blocks c.args.i) = c.front.ensures ∙ ap (λ xs. front xs) c.block.ensures in
    let now = standing_now job c.requires.job c.args.i s t c.requires.at_line c.requires.stands c.requires.step c.front.result.now c.in_ok-start.start moved c.in_ok-start.ensures.extended c.in_ok-start.ensures.start in
    (now.stood c.in_ok-step.step c.id_of-id.result c.in_ok-step.ensures (c.id_of-id.ensures ∙ ap name_of c.new_name.ensures)).may

pub put-requires-clause-few : goal.put-requires-clause-few
put-requires-clause-few c =
    let job = job_of c.args.parts.now in
    let s = state_of c.args.written.now in
    let t = state_of c.add_all.new.written in
    let moved : c.front.result.now ≡ front (block_at job.blocks c.args.i) = c.front.ensures ∙ ap (λ xs. front xs) c.block.ensures in
    (standing_now job c.requires.job c.args.i s t c.requires.at_line c.requires.stands c.requires.step c.front.result.now c.in_ok-start.start moved c.in_ok-start.ensures.extended
    c.in_ok-start.ensures.start).few

pub returns : goal.returns
returns c =
    let job = job_of c.args.parts.now in
    let s = state_of c.args.written.now in
    let t = state_of c.add_all.new.written in
    let moved : c.front.result.now ≡ front (block_at job.blocks c.args.i) = c.front.ensures ∙ ap (λ xs. front xs) c.block.ensures in
    let now = standing_now job c.requires.job c.args.i s t c.requires.at_line c.requires.stands c.requires.step c.front.result.now c.in_ok-start.start moved c.in_ok-start.ensures.extended c.in_ok-start.ensures.start in
    ok_reached job c.put.result (written_to job.proof (c.args.i + 1)) (next_index t.builder) (state_of c.put.new.written) (one_more (take_step t.builder (new_step c.in_ok-step.step c.id_of-id.result [])) t)
    c.put.ensures.index c.put.ensures.written (now.stood c.in_ok-step.step c.id_of-id.result c.in_ok-step.ensures (c.id_of-id.ensures ∙ ap name_of c.new_name.ensures)).reached
