use Rattle.std.proofs.Common.{◌≡◌, ◌+◌, ◌∷◌, [], get_or, length, ap, refl, subst, arith}
use Rattle.std.proofs.lemmas.Result.{on_ok_weaker}
use Rattle.problem_text.specs.Scripts.{with_let_name}
use Rattle.alethe_printer.specs.declared.stages.Stage.{Stage}
use Rattle.alethe_printer.specs.Stages.{space_before}
use Rattle.alethe_printer.proofs.Appended.{in_two}
use Rattle.alethe_printer.proofs.StageParts.{variable_does, variables_done, variable_there}
use Rattle.alethe_printer.proofs.arguments.print_variables.Goals as goal

pub returns-then-from-bindings : goal.returns-then-from-bindings
returns-then-from-bindings c =
    on_ok_weaker c.put.result (λ text plan v p h u sorts given.
    variables_done plan c.args.symbols.now v c.args.proof.now c.args.scope c.args.from c.args.page.now c.put.new.self c.args.stages.now.items
    c.args.stages.now.items (record { none = c.requires.nothing_left; tasks = c.put.ensures.tasks; names = c.put.ensures.names })
    refl text p u given h (let e = ap length c.bindings-bindings.ensures in omega arith))
    c.put.ensures.text

pub push_variable-requires : goal.push_variable-requires
push_variable-requires c =
    variable_there c.args.symbols.now c.requires.some.view c.args.proof.now c.args.scope c.args.from c.requires.some.bound c.index-bindings-from.result
    c.requires.sorts c.requires.some.are (let e = ap length c.bindings-bindings.ensures in omega arith)
    (subst (λ xs. c.index-bindings-from.result ≡ get_or xs c.args.from c.index-bindings-from.result) c.bindings-bindings.ensures
    c.index-bindings-from.is)

pub returns : goal.returns
returns c =
    on_ok_weaker c.begin_term.result (λ begun plan v p h u sorts given.
    variable_does plan c.args.symbols.now v c.args.proof.now c.args.scope c.args.from c.args.page.now c.begin_term.new.page c.args.stages.now.items
    c.push-2.new.self.items (record c.args.page.now { text = c.push_variable.new.text }) c.index-bindings-from.result p u c.requires.within h
    (let e = ap length c.bindings-bindings.ensures in omega arith) c.index-bindings-from.result
    (subst (λ xs. c.index-bindings-from.result ≡ get_or xs c.args.from c.index-bindings-from.result) c.bindings-bindings.ensures
    c.index-bindings-from.is) sorts
    (λ y leaf. in_two c.args.page.now.text.items c.push_space.new.text.items c.push_variable.new.text.items (space_before c.args.from) _
    c.in_ok-push_space.ensures (c.in_ok-push_variable.ensures y leaf))
    (in_two c.args.stages.now.items c.push.new.self.items c.push-2.new.self.items (Stage.Variables c.args.scope (c.args.from + 1) ∷ [])
    (Stage.Close ∷ []) c.in_ok-push.ensures.items c.in_ok-push-2.ensures.items) (λ t name refers. begun plan c.args.symbols.now v t (with_let_name name u)
    refers given)) c.begin_term.ensures.begun
