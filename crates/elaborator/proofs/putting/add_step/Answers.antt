use Rattle.std.proofs.Common.{◌≡◌, [], refl, sym, ◌∙◌, ap, subst, OnOk}
use Rattle.rule_model.specs.Writing.{take_step, MayTake}
use Rattle.elaborator.specs.Names.{name_of}
use Rattle.elaborator.specs.Reached.{state_of, one_more, new_name, with_added}
use Rattle.elaborator.specs.Steps.{added_step, new_step}
use Rattle.elaborator.proofs.Extending.{may_take, added_as_step}
use Rattle.elaborator.proofs.Tidy.{stands}
use Rattle.elaborator.proofs.putting.add_step.Goals as goal

pub put-requires-clause-may : goal.put-requires-clause-may
put-requires-clause-may c =
    let s = state_of c.args.written.now in
    let a = c.args.added.now in
    let same : new_step c.in_ok-step.step c.id_of-id.result [] ≡ added_step s.places c.args.start a (name_of (new_name s)) [] =
    c.in_ok-step.ensures c.id_of-id.result []
    ∙ (ap (λ ps. added_step ps c.args.start a c.id_of-id.result []) c.deref.ensures.value
    ∙ ap (λ x. added_step s.places c.args.start a x []) (c.id_of-id.ensures ∙ ap name_of c.new_name.ensures)) in
    subst (MayTake s.builder) (sym same) (may_take s c.args.start a c.requires.tidy c.requires.few c.requires.now)

pub returns-clause-written : goal.returns-clause-written
returns-clause-written c =
    let s = state_of c.args.written.now in
    let a = c.args.added.now in
    let same : new_step c.in_ok-step.step c.id_of-id.result [] ≡ added_step s.places c.args.start a (name_of (new_name s)) [] =
    c.in_ok-step.ensures c.id_of-id.result []
    ∙ (ap (λ ps. added_step ps c.args.start a c.id_of-id.result []) c.deref.ensures.value
    ∙ ap (λ x. added_step s.places c.args.start a x []) (c.id_of-id.ensures ∙ ap name_of c.new_name.ensures)) in
    let taken : take_step s.builder (new_step c.in_ok-step.step c.id_of-id.result []) ≡ with_added s c.args.start a =
    ap (take_step s.builder) same
    ∙ (stands s c.requires.tidy c.requires.few (added_step s.places c.args.start a (name_of (new_name s)) []) refl
    ∙ sym (added_as_step s c.args.start a c.requires.now.judged)) in
    subst (λ b. OnOk c.put.result (state_of c.put.new.written ≡ one_more b s)) taken c.put.ensures.written
