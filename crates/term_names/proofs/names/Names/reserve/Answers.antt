-- The name gets an entry; the variables in scope stay.
use Rattle.std.proofs.Common.{◌∙◌, ap, reverse, arith}
use Rattle.term_names.specs.Scope.{OwnNames}
use Rattle.term_names.specs.declared.entries.Entry.TheVariants as Entry
use Rattle.term_names.proofs.PutEntries.{linked_put, scoped_put, in_step_put}
use Rattle.term_names.proofs.names.Names.reserve.Goals as goal

pub invariant_of-self-2 : goal.invariant_of-self-2
invariant_of-self-2 c = (
  in_step_put _ _ c.args.name.now Entry.Reserved _ c.in_ok-put.ensures.put _ _ _ _ _ c.in_ok-put.ensures.entries (omega arith) (omega arith) tt c.self.invariant.0,
  linked_put _ _ c.args.name.now Entry.Reserved _ c.in_ok-put.ensures.put _ c.self.invariant.1,
)

pub returns-clause-scope : goal.returns-clause-scope
returns-clause-scope c =
    scoped_put _ _ c.args.name.now Entry.Reserved _ c.in_ok-put.ensures.put (reverse c.self.inside.held.items) c.self.invariant.1.outer
    ∙ ap (λ (n : OwnNames). n.scope) c.self.view_is
