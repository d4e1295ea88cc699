use Rattle.std.proofs.Common.{arith}
use Rattle.std.proofs.lemmas.List.Elements.{All-from_get_or}
use Rattle.term_sharing.specs.NamedTerms.{IsClosed}
use Rattle.term_sharing.proofs.ClosedTerms.{one_below}
use Rattle.term_sharing.proofs.marks.are_closed.Goals as goal

pub parts-preserved : goal.parts-preserved
parts-preserved c =
    one_below c.args.symbols.now c.args.terms.now c.args.parts.now c.parts.r-index c.parts-test.true c.parts.invariant c.r-item.result c.r-item.is
    (c.is_closed.ensures c.if-not-is_closed.false)

pub returns : goal.returns
returns c = λ yes.
    All-from_get_or (IsClosed c.args.symbols.now c.args.terms.now) c.args.parts.now 0
    (λ i l. c.parts.invariant i (let all = c.parts-test.false in omega (arith, all, l)))
