use Rattle.std.proofs.Common.{sym, ◌∙◌}
use Rattle.std.proofs.lemmas.Int.{to_z-of_z}
use Rattle.rule_model.specs.Weights.{weight}
use Rattle.linear_forms.proofs.Forming.{root_sum, limited_none, limited_some, single_sweeps, single_expanded, expanded_fits}
use Rattle.linear_forms.proofs.forms.LinearForms.expand.Goals as goal

pub returns-in_default-clause-expanded : goal.returns-in_default-clause-expanded
returns-in_default-clause-expanded c =
    λ t refers.
    let h = c.in_ok-k.ensures.root in
    let sum = root_sum c.args.symbols.now c.args.terms.now c.root.new.self.graph c.args.r c.in_ok-k.k t c.index.result.now c.leaves_differ.ensures.table c.one_to_one.ensures c.parts_of_trees.ensures h.right h.here refers c.index.ensures in
    limited_none _ (weight t) sum (sym c.within.ensures ∙ c.in_default.is)

pub sweep-requires-clause-room : goal.sweep-requires-clause-room
sweep-requires-clause-room c =
    let h = c.in_ok-k.ensures.root in
    let t = c.requires.means in
    let sum = root_sum c.args.symbols.now c.args.terms.now c.root.new.self.graph c.args.r c.in_ok-k.k t c.index.result.now c.leaves_differ.ensures.table c.one_to_one.ensures c.parts_of_trees.ensures h.right h.here c.requires.refers c.index.ensures in
    let narrow = limited_some _ (weight t) c.in-Some.weight sum (sym c.within.ensures ∙ c.in-Some.is) in
    rw (c.deref.ensures.value, c.deref_mut.ensures.value, c.in_ok-start.ensures, c.count.ensures)
    (single_sweeps c.args.symbols.now c.args.terms.now c.root.new.self.graph h.right.at h.right.right c.leaves_differ.ensures.table c.one_to_one.ensures c.parts_of_trees.ensures
    c.args.r c.in_ok-k.k t h.here c.requires.refers narrow.1)

pub returns-clause-expanded : goal.returns-clause-expanded
returns-clause-expanded c =
    λ t refers.
    let h = c.in_ok-k.ensures.root in
    let sum = root_sum c.args.symbols.now c.args.terms.now c.root.new.self.graph c.args.r c.in_ok-k.k t c.index.result.now c.leaves_differ.ensures.table c.one_to_one.ensures c.parts_of_trees.ensures h.right h.here refers c.index.ensures in
    let narrow = limited_some _ (weight t) c.in-Some.weight sum (sym c.within.ensures ∙ c.in-Some.is) in
    let swept = rw (c.deref.ensures.value, c.deref_mut.ensures.value, c.in_ok-start.ensures, c.count.ensures) at c.in_ok-constant.ensures in
    let form = single_expanded c.args.symbols.now c.args.terms.now c.root.new.self.graph h.right.at h.right.right c.leaves_differ.ensures.table c.one_to_one.ensures c.parts_of_trees.ensures
    c.args.r c.in_ok-k.k t c.in-Some.weight (record { constant = c.in_ok-constant.constant; weight = c.in-Some.weight }) c.sweep.new.found.items h.here refers narrow swept in
    rw (to_z-of_z _ _ (expanded_fits c.args.symbols.now c.args.terms.now t _ c.sweep.new.found.items form)) form
