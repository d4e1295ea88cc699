use Rattle.std.proofs.Common.{◌+◌, sym, ◌∙◌}
use Rattle.std.proofs.lemmas.Int.{to_z-of_z}
use Rattle.rule_model.specs.Weights.{weight}
use Rattle.linear_forms.proofs.Forming.{root_sum, pair_sum, limited_none, limited_some, pair_sweeps, pair_expanded, form_fits}
use Rattle.linear_forms.proofs.forms.LinearForms.subtract.Goals as goal

pub returns-in_default-clause-difference : goal.returns-in_default-clause-difference
returns-in_default-clause-difference c =
    λ t u refers other.
    let h = c.in_ok-pair.ensures.roots in
    let one = root_sum c.args.symbols.now c.args.terms.now c.root_pair.new.self.graph c.args.one c.in_ok-pair.pair.first t c.index.result.now c.leaves_differ.ensures.table c.one_to_one.ensures c.parts_of_trees.ensures h.right h.one refers c.index.ensures in
    let two = root_sum c.args.symbols.now c.args.terms.now c.root_pair.new.self.graph c.args.other c.in_ok-pair.pair.second u c.index-2.result.now c.leaves_differ.ensures.table c.one_to_one.ensures c.parts_of_trees.ensures h.right h.other other c.index-2.ensures in
    limited_none _ (weight t + weight u) (pair_sum _ _ (weight t) (weight u) _ one two c.capped_sum-sum.ensures) (sym c.within.ensures ∙ c.in_default.is)

pub sweep-requires-clause-room : goal.sweep-requires-clause-room
sweep-requires-clause-room c =
    let h = c.in_ok-pair.ensures.roots in
    let t = c.requires.one.means in
    let u = c.requires.other.means in
    let one = root_sum c.args.symbols.now c.args.terms.now c.root_pair.new.self.graph c.args.one c.in_ok-pair.pair.first t c.index.result.now c.leaves_differ.ensures.table c.one_to_one.ensures c.parts_of_trees.ensures h.right h.one c.requires.one.refers c.index.ensures in
    let two = root_sum c.args.symbols.now c.args.terms.now c.root_pair.new.self.graph c.args.other c.in_ok-pair.pair.second u c.index-2.result.now c.leaves_differ.ensures.table c.one_to_one.ensures c.parts_of_trees.ensures h.right h.other c.requires.other.refers c.index-2.ensures in
    let narrow = limited_some _ (weight t + weight u) c.in-Some.weight (pair_sum _ _ (weight t) (weight u) _ one two c.capped_sum-sum.ensures) (sym c.within.ensures ∙ c.in-Some.is) in
    rw (c.deref.ensures.value, c.deref_mut.ensures.value, c.in_ok-start_pair.ensures, c.count.ensures)
    (pair_sweeps c.args.symbols.now c.args.terms.now c.root_pair.new.self.graph h.right.at h.right.right c.leaves_differ.ensures.table c.one_to_one.ensures c.parts_of_trees.ensures
    c.args.one c.in_ok-pair.pair.first t c.args.other c.in_ok-pair.pair.second u h.one c.requires.one.refers h.other c.requires.other.refers narrow.1)

pub returns-clause-difference : goal.returns-clause-difference
returns-clause-difference c =
    λ t u refers other.
    let h = c.in_ok-pair.ensures.roots in
    let one = root_sum c.args.symbols.now c.args.terms.now c.root_pair.new.self.graph c.args.one c.in_ok-pair.pair.first t c.index.result.now c.leaves_differ.ensures.table c.one_to_one.ensures c.parts_of_trees.ensures h.right h.one refers c.index.ensures in
    let two = root_sum c.args.symbols.now c.args.terms.now c.root_pair.new.self.graph c.args.other c.in_ok-pair.pair.second u c.index-2.result.now c.leaves_differ.ensures.table c.one_to_one.ensures c.parts_of_trees.ensures h.right h.other other c.index-2.ensures in
    let narrow = limited_some _ (weight t + weight u) c.in-Some.weight (pair_sum _ _ (weight t) (weight u) _ one two c.capped_sum-sum.ensures) (sym c.within.ensures ∙ c.in-Some.is) in
    let swept = rw (c.deref.ensures.value, c.deref_mut.ensures.value, c.in_ok-start_pair.ensures, c.count.ensures) at c.in_ok-constant.ensures in
    let form = pair_expanded c.args.symbols.now c.args.terms.now c.root_pair.new.self.graph h.right.at h.right.right c.leaves_differ.ensures.table c.one_to_one.ensures c.parts_of_trees.ensures
    c.args.one c.in_ok-pair.pair.first t c.args.other c.in_ok-pair.pair.second u (record { constant = c.in_ok-constant.constant; weight = c.in-Some.weight }) c.sweep.new.found.items
    h.one refers h.other other narrow swept in
    rw (to_z-of_z _ _ (form_fits c.args.symbols.now c.args.terms.now t u _ c.sweep.new.found.items form)) form
