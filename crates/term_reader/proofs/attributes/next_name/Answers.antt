use Rattle.std.proofs.Common.{◌<◌, arith, refl, sym, ◌∙◌, ap}
use Rattle.text_items.specs.ItemsAt.{end_at}
use Rattle.term_reader.specs.Layers.{names_at}
use Rattle.term_reader.proofs.AttributeLemmas.{names_end, names_stop, names_on, others}
use Rattle.term_reader.proofs.attributes.next_name.Goals as goal

pub items-init : goal.items-init
items-init c = record { there = c.requires; later = omega arith; same = refl }

pub node-next-requires : goal.node-next-requires
node-next-requires c = let there = c.items.invariant.there in omega (arith, there.some, there.range.inside)

pub returns-then-next-end-clause-none : goal.returns-then-next-end-clause-none
returns-then-next-end-clause-none c =
    c.items.invariant.same ∙ names_end c.args.items.now c.items.before c.args.end c.items.invariant.there (omega (arith, c.node-next.ensures.next, c.if-next-end.true))

pub returns-then-is_named-clause-some : goal.returns-then-is_named-clause-some
returns-then-is_named-clause-some c =
    rw c.node-next.ensures.next
    (names_stop c.args.items.now c.items.before c.args.end c.items.invariant.there c.args.k c.items.invariant.same (omega (arith, c.node-next.ensures.next, c.if-next-end.false)) (sym c.is_named.ensures ∙ c.if-is_named.true))

pub items-preserved : goal.items-preserved
items-preserved c =
    let node = c.node-next.ensures in
    let less : end_at c.args.items.now c.items.before < c.args.end = omega (arith, node.next, c.if-next-end.false) in
    record {
      there = rw node.next (others c.args.items.now c.items.before c.args.end c.items.invariant.there less);
      later = omega (arith, node.behind, c.items.invariant.later);
      same = c.items.invariant.same ∙ names_on c.args.items.now c.items.before c.args.end c.items.invariant.there less (sym c.is_named.ensures ∙ c.if-is_named.false)
          ∙ ap (λ n. names_at c.args.items.now n c.args.end) (sym node.next);
    }
