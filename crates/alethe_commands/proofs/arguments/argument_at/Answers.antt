-- Behind `:=` stand a variable, alone or with its sort, and a term.
use Rattle.std.proofs.Common.{sym, ◌∙◌}
use Rattle.alethe_commands.proofs.ArgumentsByNodes.{head_inside, alone_at, pair_inside, plain_at, name_inside, sorted_at}
use Rattle.alethe_commands.proofs.arguments.argument_at.Goals as goal

pub is_spelled-requires : goal.is_spelled-requires
is_spelled-requires c = head_inside c.args.items.now c.args.k c.node-place.result c.node-place.ensures c.requires.fit

pub returns-then-not-is_spelled : goal.returns-then-not-is_spelled
returns-then-not-is_spelled c = alone_at c.args.items.now c.args.k c.node-place.result c.node-place.ensures c.requires.fit (sym c.is_spelled.ensures ∙ c.if-not-is_spelled.true)

pub node-pair-requires : goal.node-pair-requires
node-pair-requires c = head_inside c.args.items.now c.args.k c.node-place.result c.node-place.ensures c.requires.fit

pub node-term-requires : goal.node-term-requires
node-term-requires c =
    pair_inside c.args.items.now c.args.k c.node-place.result c.node-place.ensures c.requires.fit c.node-pair.result c.node-pair.ensures (sym c.is_spelled.ensures ∙ c.if-not-is_spelled.false)

pub node-requires : goal.node-requires
node-requires c =
    name_inside c.args.items.now c.args.k c.node-place.result c.node-place.ensures c.requires.fit c.node-pair.result c.node-pair.ensures (sym c.is_spelled.ensures ∙ c.if-not-is_spelled.false)
    c.node-term.result c.node-term.ensures (sym c.is_list.ensures ∙ c.if-is_list.true)

pub returns-then-is_list : goal.returns-then-is_list
returns-then-is_list c =
    sorted_at c.args.items.now c.args.k c.node-place.result c.node-place.ensures c.requires.fit c.node-pair.result c.node-pair.ensures (sym c.is_spelled.ensures ∙ c.if-not-is_spelled.false)
    c.node-term.result c.node-term.ensures (sym c.is_list.ensures ∙ c.if-is_list.true) c.node.result c.node.ensures

pub returns-else-is_list : goal.returns-else-is_list
returns-else-is_list c =
    plain_at c.args.items.now c.args.k c.node-place.result c.node-place.ensures c.requires.fit c.node-pair.result c.node-pair.ensures (sym c.is_spelled.ensures ∙ c.if-not-is_spelled.false)
    c.node-term.result c.node-term.ensures (sym c.is_list.ensures ∙ c.if-is_list.false)
