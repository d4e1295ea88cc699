use Rattle.std.proofs.Common.{◌≡◌, refl, sym, ◌∙◌, subst, Some}
use Rattle.term_model.specs.Terms.{no_terms, term}
use Rattle.term_pool.proofs.Ways.{none_left}
use Rattle.linear_forms.specs.declared.memory.Item.TheVariants as Item
use Rattle.linear_forms.specs.Graphs.{IsItem}
use Rattle.linear_forms.specs.Memos.{number_remembered}
use Rattle.linear_forms.proofs.Graphing.{settled_graph, settled_keeps}
use Rattle.linear_forms.proofs.Walking.{walk_start, walk_item, walk_new, walk_on, walk_down, walk_up, walk_end}
use Rattle.linear_forms.proofs.graph.Graph.number.Goals as goal

pub items-init : goal.items-init
items-init c =
    let item : IsItem c.args.symbols.now c.args.terms.now (Item.Term c.args.r) =
    record { terms = term c.requires.term.means no_terms; meant = record { means = c.requires.term.means; refers = c.requires.term.refers; alone = refl } } in (
      refl,
      rw c.clear.ensures.items (walk_start c.args.symbols.now c.args.terms.now _ _ item (sym (rw c.in_default.is at c.look.ensures))),
      c.requires.graph,
      λ x k e. e,
    )

pub visit_item-requires-clause-item : goal.visit_item-requires-clause-item
visit_item-requires-clause-item c = rw c.items.invariant.0 (walk_item c.args.symbols.now c.args.terms.now _ _ _ _ c.items.invariant.1)

pub items-preserved-in-Part : goal.items-preserved-in-Part
items-preserved-in-Part c =
    let meets = rw c.items.invariant.0 at c.in_ok-part.ensures.graph in
    let walk = walk_on c.args.symbols.now c.args.terms.now c.items.self.memo c.visit_item.new.graph.memo (Item.Term c.args.r) c.items.at c.items.way.items meets.below c.items.invariant.1 in
    let visit = rw (c.items.invariant.0, c.in-Part.is) at c.in_ok-part.ensures.visit in (
      c.visit_item.ensures.same ∙ c.items.invariant.0,
      rw c.in_ok-push-in-Part.ensures.items (walk_down c.args.symbols.now c.args.terms.now _ _ _ _ _ walk visit.0 visit.1),
      meets.graph,
      λ x k e. meets.keeps x k (c.items.invariant.3 x k e),
    )

pub settle-requires : goal.settle-requires
settle-requires c =
    let meets = rw c.items.invariant.0 at c.in_ok-part.ensures.graph in
    let walk = walk_on c.args.symbols.now c.args.terms.now c.items.self.memo c.visit_item.new.graph.memo (Item.Term c.args.r) c.items.at c.items.way.items meets.below c.items.invariant.1 in
    walk_new c.args.symbols.now c.args.terms.now _ _ _ _ walk

pub items-preserved : goal.items-preserved
items-preserved c =
    let meets = rw c.items.invariant.0 at c.in_ok-part.ensures.graph in
    let walk = walk_on c.args.symbols.now c.args.terms.now c.items.self.memo c.visit_item.new.graph.memo (Item.Term c.args.r) c.items.at c.items.way.items meets.below c.items.invariant.1 in
    let visit = rw (c.items.invariant.0, c.in-Done.is) at c.in_ok-part.ensures.visit in
    let item = walk_item c.args.symbols.now c.args.terms.now _ _ _ _ c.items.invariant.1 in
    let unmet = walk_new c.args.symbols.now c.args.terms.now _ _ _ _ walk in
    let settles = c.in_ok-settle-in-Done.ensures in (
      c.visit_item.ensures.same ∙ c.items.invariant.0,
      walk_up c.args.symbols.now c.args.terms.now _ _ _ _ _ _ _ (rw c.in-Some-pop.ensures.items at walk) settles.noted,
      settled_graph c.args.symbols.now c.args.terms.now c.visit_item.new.graph c.settle.new.self c.items.at c.in-Done.entry meets.graph item unmet visit settles,
      λ x k h.
          settled_keeps c.args.symbols.now c.args.terms.now c.visit_item.new.graph c.settle.new.self c.items.at c.in-Done.entry meets.graph item unmet visit settles x k
          (meets.keeps x k (c.items.invariant.3 x k h)),
    )

pub returns-in-None-clause-number : goal.returns-in-None-clause-number
returns-in-None-clause-number c =
    let meets = rw c.items.invariant.0 at c.in_ok-part.ensures.graph in
    let walk = walk_on c.args.symbols.now c.args.terms.now c.items.self.memo c.visit_item.new.graph.memo (Item.Term c.args.r) c.items.at c.items.way.items meets.below c.items.invariant.1 in
    let settles = c.in_ok-settle-in-Done.ensures in
    let root = walk_end c.args.symbols.now c.args.terms.now _ _ _ _ (none_left _ _ _ c.in-None.ensures.cases.0 c.in-None.ensures.rest c.in-None.ensures.items) walk in
    subst (λ x. number_remembered c.settle.new.self.memo x ≡ Some c.count-number.result) root
    (rw c.count-number.ensures settles.noted.here)

pub returns-in-None-clause-graph : goal.returns-in-None-clause-graph
returns-in-None-clause-graph c =
    let meets = rw c.items.invariant.0 at c.in_ok-part.ensures.graph in
    let walk = walk_on c.args.symbols.now c.args.terms.now c.items.self.memo c.visit_item.new.graph.memo (Item.Term c.args.r) c.items.at c.items.way.items meets.below c.items.invariant.1 in
    let visit = rw (c.items.invariant.0, c.in-Done.is) at c.in_ok-part.ensures.visit in
    let item = walk_item c.args.symbols.now c.args.terms.now _ _ _ _ c.items.invariant.1 in
    let unmet = walk_new c.args.symbols.now c.args.terms.now _ _ _ _ walk in
    settled_graph c.args.symbols.now c.args.terms.now c.visit_item.new.graph c.settle.new.self c.items.at c.in-Done.entry meets.graph item unmet visit c.in_ok-settle-in-Done.ensures

pub returns-in-None-clause-keeps : goal.returns-in-None-clause-keeps
returns-in-None-clause-keeps c =
    let meets = rw c.items.invariant.0 at c.in_ok-part.ensures.graph in
    let walk = walk_on c.args.symbols.now c.args.terms.now c.items.self.memo c.visit_item.new.graph.memo (Item.Term c.args.r) c.items.at c.items.way.items meets.below c.items.invariant.1 in
    let visit = rw (c.items.invariant.0, c.in-Done.is) at c.in_ok-part.ensures.visit in
    let item = walk_item c.args.symbols.now c.args.terms.now _ _ _ _ c.items.invariant.1 in
    let unmet = walk_new c.args.symbols.now c.args.terms.now _ _ _ _ walk in
    λ x k h.
    settled_keeps c.args.symbols.now c.args.terms.now c.visit_item.new.graph c.settle.new.self c.items.at c.in-Done.entry meets.graph item unmet visit c.in_ok-settle-in-Done.ensures x k
    (meets.keeps x k (c.items.invariant.3 x k h))
