-- All bytes of the block are fine.
use Rattle.std.proofs.Common.{◌∙◌, ◌≤◌, sym, arith}
use Rattle.sexpr.specs.Blocks.{count_of}
use Rattle.sexpr.proofs.FineBytes.{rest_within, joined_first, formed_block}
use Rattle.sexpr.proofs.blocks.past_block.Goals as goal

pub overflow_add-result : goal.overflow_add-result
overflow_add-result c =
    let from = c.args.from in
    let few = c.requires.formed.known.few in
    let is_depth = c.requires.formed.is_depth in
    let end = rest_within c.args.bytes.now from.place c.args.inside (omega (arith, c.requires.within)) in
    omega (arith, few, is_depth, end, c.count_of-opened.ensures.few)

pub returns-then-not-begins_number : goal.returns-then-not-begins_number
returns-then-not-begins_number c =
    let from = c.args.from in
    let bytes = c.args.bytes.now in
    let closed = c.count_of-closed.ensures.count in
    let opened = c.count_of-opened.ensures.count in
    let deep : count_of 41 bytes from.place 16 ≤ from.depth = omega (arith, closed, c.if-closed-from.true) in
    let first = joined_first _ _ (sym c.begins_number.ensures ∙ c.if-not-begins_number.true) in
    let block = formed_block bytes (λ k. omega (arith, c.type_inv.bytes k)) from.place c.requires.within (c.are_fine-fine.ensures c.if-fine.true) c.args.inside from.depth
    first deep c.requires.formed in
    rw (closed, opened) block
