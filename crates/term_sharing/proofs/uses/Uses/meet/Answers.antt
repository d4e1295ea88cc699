use Rattle.term_sharing.proofs.UsesLemmas.{nearer_smaller}
use Rattle.term_sharing.proofs.uses.Uses.meet.Goals as goal

pub go_on-requires-clause-uses : goal.go_on-requires-clause-uses
go_on-requires-clause-uses c =
    rw c.left.invariant.0 (c.in-Some.ensures.uses c.args.symbols.now c.args.terms.now c.left.invariant.1)

pub returns-clause-uses : goal.returns-clause-uses
returns-clause-uses c = rw c.left.invariant.0 (c.next.ensures.uses c.args.symbols.now c.args.terms.now c.left.invariant.1)

pub left-smaller : goal.left-smaller
left-smaller c = nearer_smaller c.left.self c.next.new.self c.go_on.new.self c.in-Some.ensures.marks c.in-Some.ensures.fewer c.in_ok-go_on.ensures.nearer
