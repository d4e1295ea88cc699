-- The leaves that the walk found are those of the free variables. Where no leaf is a variable's, there are none.
use Rattle.std.proofs.Common.{[], refl}
use Rattle.std.proofs.lemmas.Result.{IfOk-weaker}
use Rattle.term_names.proofs.Gathering.{leaves-free}
use Rattle.term_names.proofs.NoVariables.{none-free}
use Rattle.term_names.proofs.free.free_leaves.Goals as goal

pub returns-then-not-may_have_variables-clause-free : goal.returns-then-not-may_have_variables-clause-free
returns-then-not-may_have_variables-clause-free c t h =
    let none = c.if-not-may_have_variables.ensures refl in
    rw c.new.ensures.items
    (leaves-free c.args.tables.now.symbols.now [] t.tree (none-free c.args.tables.now.symbols.now c.args.terms.now c.args.what.term (λ k x. none k x.name x.sort) t.tree h.refers))

pub returns-clause-free : goal.returns-clause-free
returns-clause-free c =
    IfOk-weaker c.leaves_of.result _ _ (λ leaves found t h. leaves-free c.args.tables.now.symbols.now leaves.items t.tree (found t.tree h.refers)) c.leaves_of.ensures.leaves
