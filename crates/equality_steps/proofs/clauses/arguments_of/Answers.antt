use Rattle.std.proofs.Common.{ℕ, List, drop, length, ap, subst}
use Rattle.rule_model.specs.Congruence.{applied}
use Rattle.term_pool.specs.Views.{ReferToAll}
use Rattle.equality_steps.proofs.DeniedLemmas.{arguments_applied, no_let_applied}
use Rattle.equality_steps.proofs.clauses.arguments_of.Goals as goal

pub returns-clause-arguments : goal.returns-clause-arguments
returns-clause-arguments c head ts refers =
    let s = c.args.at.now.symbols.now in
    let whole = ap (λ (xs : List ℕ). drop (length xs) c.arguments.new.into.items) c.new-list.ensures.items in
    subst (λ rs. ReferToAll s c.arguments.new.self rs ts) whole
    (subst (ReferToAll s c.arguments.new.self (drop (length c.new-list.result.items) c.arguments.new.into.items)) (arguments_applied head ts)
    (c.in_ok-arguments.ensures.arguments s (applied head ts) refers (no_let_applied head ts)))
