use Rattle.std.proofs.Common.{◌≡◌, ◌+◌, ◌∷◌, [], get_or, length, ap, refl, subst, arith}
use Rattle.std.proofs.lemmas.Result.{on_ok_weaker}
use Rattle.alethe_printer.specs.declared.stages.Stage.{Stage}
use Rattle.alethe_printer.proofs.Appended.{in_two}
use Rattle.alethe_printer.proofs.StageParts.{pivot_does, pivots_done}
use Rattle.alethe_printer.proofs.arguments.print_pivots.Goals as goal

pub returns-then-from-pivots : goal.returns-then-from-pivots
returns-then-from-pivots c =
    on_ok_weaker c.put.result (λ text plan s v p h u sorts given.
    pivots_done plan s v c.args.proof.now c.args.command c.args.from c.args.page.now c.put.new.self c.args.stages.now.items c.args.stages.now.items
    (record { none = c.requires.nothing_left; tasks = c.put.ensures.tasks; names = c.put.ensures.names }) refl text p u given h
    (let e = ap length c.pivots-pivots.ensures in omega arith)) c.put.ensures.text

pub returns : goal.returns
returns c =
    on_ok_weaker c.begin_term.result (λ begun plan s v p h u sorts given.
    pivot_does plan s v c.args.proof.now c.args.command c.args.from c.args.page.now c.begin_term.new.page c.args.stages.now.items c.push-2.new.self.items
    (record c.args.page.now { text = c.push_space.new.text }) c.index-pivots-from.result p u c.requires.within h
    (let e = ap length c.pivots-pivots.ensures in omega arith) c.index-pivots-from.result
    (subst (λ xs. c.index-pivots-from.result ≡ get_or xs c.args.from c.index-pivots-from.result) c.pivots-pivots.ensures c.index-pivots-from.is)
    c.in_ok-push_space.ensures
    (in_two c.args.stages.now.items c.push.new.self.items c.push-2.new.self.items (Stage.Pivots c.args.command (c.args.from + 1) ∷ [])
    (Stage.Truth c.index-pivots-from.result.1 ∷ []) c.in_ok-push.ensures.items c.in_ok-push-2.ensures.items)
    (λ t refers. begun plan s v t u refers given)) c.begin_term.ensures.begun
