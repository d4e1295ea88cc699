-- The step may be added, and what is written then is that of the state.
use Rattle.std.proofs.Common.{◌++◌, ◌∷◌, [], take, sym, ◌∙◌, ap, subst}
use Rattle.alethe_reader.specs.Bound.{AreAnchorsBound}
use Rattle.alethe_reader.specs.Ids.{IdsView}
use Rattle.alethe_reader.specs.IdsInUse.{in_use}
use Rattle.alethe_reader.specs.declared.ids.Role.TheVariants as role
use Rattle.alethe_reader.specs.declared.session.Session.{Session}
use Rattle.alethe_reader.proofs.AddedSteps.{may_take, added_here, added_around}
use Rattle.alethe_reader.proofs.stepping.add_step.Goals as goal
use Rattle.alethe_reader.proofs.stepping.add_step.Goals.{in-Some, in_default}
use Rattle.term_expansion.specs.SymbolsAndTerms.{both}

pub take_step-requires-clause-may : goal.take_step-requires-clause-may
take_step-requires-clause-may c =
    let (s, v, settings, step, p, h) = c.requires.step in
    may_take s v settings c.args.session.now c.args.new step p h

pub returns-clause-added : goal.returns-clause-added
returns-clause-added c s v settings step p h = elim c.match-new.branch [
  | in-Some w ↦
      added_around s v settings c.args.session.now c.args.new step p h _ w.in-Some.anchor w.in-Some.is
      (ap (λ (t : Session). t.reader) w.session-is ∙ w.leave_scope.ensures.reader)
      (ap (λ (t : Session). t.builder) w.session-is ∙ (w.leave_scope.ensures.builder ∙ c.in_ok-index.ensures.written))
      (c.in_ok-push.ensures.pushed
      ∙ (ap (λ us. us ++ in_use c.args.new.id.name.now role.Step c.in_ok-index.index ∷ []) (ap (λ (t : Session). t.ids.used) w.session-is ∙ ap (λ (x : IdsView). x.used) w.leave_scope.ensures.ids)
      ∙ ap (λ k. take w.in-Some.anchor.ids c.args.session.now.ids.used ++ in_use c.args.new.id.name.now role.Step k ∷ []) c.in_ok-index.ensures.index))
      (λ front last split. ap (λ (t : Session). t.anchors.items) w.session-is ∙ w.leave_scope.ensures.anchors front last split)
      (λ around before other count b. subst (λ (t : Session). AreAnchorsBound (both s v) t.bound around) (sym w.session-is) (w.leave_scope.ensures.bound s v around before other count b))
  | in_default w ↦
      added_here s v settings c.args.session.now c.args.new step p h _ w.in_default.is
      (ap (λ (t : Session). t.reader) w.session-is)
      (ap (λ (t : Session). t.builder) w.session-is ∙ c.in_ok-index.ensures.written)
      (c.in_ok-push.ensures.pushed
      ∙ (ap (λ us. us ++ in_use c.args.new.id.name.now role.Step c.in_ok-index.index ∷ []) (ap (λ (t : Session). t.ids.used) w.session-is)
      ∙ ap (λ k. c.args.session.now.ids.used ++ in_use c.args.new.id.name.now role.Step k ∷ []) c.in_ok-index.ensures.index))
      (ap (λ (t : Session). t.anchors) w.session-is)
      (ap (λ (t : Session). t.bound) w.session-is)
]
