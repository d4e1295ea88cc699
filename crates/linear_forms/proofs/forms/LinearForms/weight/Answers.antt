use Rattle.std.proofs.Common.{sym, subst}
use Rattle.rule_model.specs.Weights.{weight}
use Rattle.linear_forms.specs.Forms.{IsToldWeight}
use Rattle.linear_forms.proofs.Forming.{root_sum, limited_within}
use Rattle.linear_forms.proofs.forms.LinearForms.weight.Goals as goal

pub returns-clause-weight : goal.returns-clause-weight
returns-clause-weight c =
    λ t refers.
    let h = c.in_ok-k.ensures.root in
    let sum = root_sum c.args.symbols.now c.args.terms.now c.root.new.self.graph c.args.r c.in_ok-k.k t c.index.result.now c.leaves_differ.ensures.table c.one_to_one.ensures c.parts_of_trees.ensures h.right h.here refers c.index.ensures in
    subst (λ o. IsToldWeight o (weight t)) (sym c.within.ensures) (limited_within _ (weight t) sum)
