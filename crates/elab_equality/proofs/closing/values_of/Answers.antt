use Rattle.term_pool.proofs.Keeping.{same_terms}
use Rattle.elab_equality.proofs.ClosingLemmas.{bound_values}
use Rattle.elab_equality.proofs.closing.values_of.Goals as goal

pub returns-in_err-bindings-clause-same : goal.returns-in_err-bindings-clause-same
returns-in_err-bindings-clause-same c =
    same_terms c.args.terms.now c.bindings.new.self c.in_err-bindings.ensures.keeps c.in_err-bindings.ensures.unchanged

pub returns-clause-values : goal.returns-clause-values
returns-clause-values c s bs u refers =
    let same = same_terms c.args.terms.now c.bindings.new.self c.in_ok-bindings.ensures.keeps c.in_ok-bindings.ensures.unchanged in
    bound_values s c.args.terms.now _ _ bs
    ((rw (same, c.new-vars.ensures.items, c.new-values.ensures.items) at c.in_ok-bindings.ensures.bindings) s bs u refers)

pub returns-clause-same : goal.returns-clause-same
returns-clause-same c = same_terms c.args.terms.now c.bindings.new.self c.in_ok-bindings.ensures.keeps c.in_ok-bindings.ensures.unchanged
