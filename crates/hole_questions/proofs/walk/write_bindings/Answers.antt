use Rattle.std.proofs.Common.{refl, subst}
use Rattle.std.proofs.lemmas.Result.{on_ok_weaker}
use Rattle.term_walk.specs.Walks.{TakesBinding}
use Rattle.hole_questions.proofs.Performed.{no_pairs, pair_performs}
use Rattle.hole_questions.proofs.walk.write_bindings.Goals as goal

pub returns-in_default-clause-performs : goal.returns-in_default-clause-performs
returns-in_default-clause-performs c = λ bs h.
    let takes = subst (λ o. TakesBinding o c.args.symbols.now c.args.terms.now c.args.tasks.now.items c.next_binding.new.tasks.items bs)
    c.in_default.is (c.in_ok-variable.ensures.next bs h) in
    no_pairs c.args.symbols.now c.leaves_differ.ensures.table c.args.terms.now c.args.tasks.now.items c.next_binding.new.tasks.items c.args.writer.now
    c.args.writer.now c.args.before.now bs takes.0 takes.1 refl

pub returns-clause-performs : goal.returns-clause-performs
returns-clause-performs c =
    on_ok_weaker c.put-3.result (λ space bs h.
    pair_performs c.args.symbols.now c.leaves_differ.ensures.table c.args.terms.now c.args.tasks.now.items c.next_binding.new.tasks.items
    c.args.writer.now c.put-3.new.self c.put.new.self c.put-2.new.self c.binder.new.self c.args.before.now c.in-Some.variable bs
    (subst (λ o. TakesBinding o c.args.symbols.now c.args.terms.now c.args.tasks.now.items c.next_binding.new.tasks.items bs)
    c.in-Some.is (c.in_ok-variable.ensures.next bs h)) c.in_ok-put.ensures c.in_ok-put-2.ensures c.in_ok-binder.ensures space) c.put-3.ensures
