use Rattle.std.proofs.Common.{refl}
use Rattle.std.proofs.lemmas.Result.{on_ok_weaker}
use Rattle.hole_questions.proofs.Performed.{no_binds, bind_performs}
use Rattle.hole_questions.proofs.walk.write_binds.Goals as goal

pub returns-in_default-clause-performs : goal.returns-in_default-clause-performs
returns-in_default-clause-performs c = λ bs h.
    no_binds c.args.symbols.now c.leaves_differ.ensures.table c.args.terms.now c.args.tasks.now.items c.args.tasks.now.items c.args.writer.now
    c.args.writer.now bs (c.in_default.ensures.first bs h) refl refl

pub returns-clause-performs : goal.returns-clause-performs
returns-clause-performs c =
    on_ok_weaker c.bind.result (λ bound bs h.
    bind_performs c.args.symbols.now c.leaves_differ.ensures.table c.args.terms.now c.args.tasks.now.items c.push.new.self.items c.args.writer.now
    c.bind.new.self c.in-Some.binding.variable c.in-Some.binding.value c.in-Some.binding.rest bs (c.in-Some.ensures.first bs h) bound
    c.in_ok-push.ensures.items) c.bind.ensures
