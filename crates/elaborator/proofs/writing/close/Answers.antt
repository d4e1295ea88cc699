use Rattle.std.proofs.Common.{◌≡◌, ◌<◌, ◌+◌, length, map, slice_index, All, sym, ◌∙◌, ap, subst}
use Rattle.rule_model.specs.Reading.{discharged_at}
use Rattle.rule_model.specs.Scopes.{next_index}
use Rattle.rule_model.specs.Writing.{take_step}
use Rattle.elaborator.specs.Reached.{state_of, job_of, one_more, written_to}
use Rattle.elaborator.specs.Steps.{new_step}
use Rattle.elaborator.proofs.WritingCalls.{ok_reached, within_now, block_now}
use Rattle.elaborator.proofs.WrittenSteps.{closing_now}
use Rattle.elaborator.proofs.writing.close.Goals as goal

pub in_place-requires-clause-within : goal.in_place-requires-clause-within
in_place-requires-clause-within c =
    within_now (job_of c.args.parts.now) c.requires.job c.args.i (state_of c.args.written.now) c.requires.at_line

pub in_place-requires-clause-block : goal.in_place-requires-clause-block
in_place-requires-clause-block c =
    block_now (job_of c.args.parts.now) c.requires.job c.args.i (state_of c.args.written.now) c.requires.at_line

pub in_place-requires-clause-may : goal.in_place-requires-clause-may
in_place-requires-clause-may c =
    let s = state_of c.args.written.now in
    (closing_now (job_of c.args.parts.now) c.requires.job c.args.i c.args.scope s c.requires.at_line c.requires.closes c.index-opened.result.now c.index-opened.ensures).in_place

pub discharged-requires : goal.discharged-requires
discharged-requires c = within_now (job_of c.args.parts.now) c.requires.job c.args.i (state_of c.args.written.now) c.requires.at_line

pub places_of-requires : goal.places_of-requires
places_of-requires c =
    let job = job_of c.args.parts.now in
    let s = state_of c.args.written.now in
    let now = closing_now job c.requires.job c.args.i c.args.scope s c.requires.at_line c.requires.closes c.index-opened.result.now c.index-opened.ensures in
    subst (λ ds. All (λ j. j < length c.deref.result.now) ds) (sym c.discharged.ensures)
    (subst (λ ps. All (λ j. j < length ps) (discharged_at job.proof c.args.i)) (sym c.deref.ensures.value) now.discharged)

pub put-requires-clause-may : goal.put-requires-clause-may
put-requires-clause-may c =
    let job = job_of c.args.parts.now in
    let s = state_of c.args.written.now in
    let now = closing_now job c.requires.job c.args.i c.args.scope s c.requires.at_line c.requires.closes c.index-opened.result.now c.index-opened.ensures in
    let listed : c.deref-2.result.now ≡ map (slice_index s.places) (discharged_at job.proof c.args.i) =
    c.deref-2.ensures.value ∙ (c.in_ok-discharged.ensures ∙ (ap (λ ps. map (slice_index ps) c.discharged.result.now) c.deref.ensures.value ∙ ap (map (slice_index s.places)) c.discharged.ensures)) in
    (now.stood c.in_ok-step.step c.id_of-id.result c.deref-2.result.now c.in_ok-step.ensures c.id_of-id.ensures listed).may

pub put-requires-clause-few : goal.put-requires-clause-few
put-requires-clause-few c =
    let s = state_of c.args.written.now in
    (closing_now (job_of c.args.parts.now) c.requires.job c.args.i c.args.scope s c.requires.at_line c.requires.closes c.index-opened.result.now c.index-opened.ensures).few

pub returns : goal.returns
returns c =
    let job = job_of c.args.parts.now in
    let s = state_of c.args.written.now in
    let now = closing_now job c.requires.job c.args.i c.args.scope s c.requires.at_line c.requires.closes c.index-opened.result.now c.index-opened.ensures in
    let listed : c.deref-2.result.now ≡ map (slice_index s.places) (discharged_at job.proof c.args.i) =
    c.deref-2.ensures.value ∙ (c.in_ok-discharged.ensures ∙ (ap (λ ps. map (slice_index ps) c.discharged.result.now) c.deref.ensures.value ∙ ap (map (slice_index s.places)) c.discharged.ensures)) in
    ok_reached job c.put.result (written_to job.proof (c.args.i + 1)) (next_index s.builder) (state_of c.put.new.written)
    (one_more (take_step s.builder (new_step c.in_ok-step.step c.id_of-id.result c.deref-2.result.now)) s) c.put.ensures.index c.put.ensures.written
    (now.stood c.in_ok-step.step c.id_of-id.result c.deref-2.result.now c.in_ok-step.ensures c.id_of-id.ensures listed).reached
