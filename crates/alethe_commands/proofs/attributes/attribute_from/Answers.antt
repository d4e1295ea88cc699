-- A keyword of an attribute, and its value behind it.
use Rattle.std.proofs.Common.{arith}
use Rattle.alethe_commands.proofs.AttributesByNodes.{last_passed, other_passed, attribute_found}
use Rattle.alethe_commands.proofs.attributes.attribute_from.Goals as goal

pub returns-then-value-end : goal.returns-then-value-end
returns-then-value-end c = last_passed c.args.items.now c.args.k c.args.end c.requires.attributes c.requires.some (omega (arith, c.if-value-end.true, c.node-value.ensures.next))

pub returns-in-Some : goal.returns-in-Some
returns-in-Some c =
    let read = rw c.node-value.ensures.next at c.node.ensures in
    rw (c.attribute_at.ensures, c.node-value.ensures.next)
    (attribute_found c.args.items.now c.args.k c.args.end c.requires.attributes c.requires.some c.in-Some.word c.in-Some.ensures c.node.result.next read.next
    (omega (arith, c.if-value-end.false, c.node-value.ensures.next)) read.children read.nested)

pub returns-in-None : goal.returns-in-None
returns-in-None c = other_passed c.args.items.now c.args.k c.args.end c.requires.attributes c.requires.some c.in-None.ensures
