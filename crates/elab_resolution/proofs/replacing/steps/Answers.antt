use Rattle.elab_resolution.specs.Adding.{roots_at}
use Rattle.elab_resolution.proofs.RootCells.{few_roots, places_more, roots_known}
use Rattle.elab_resolution.proofs.replacing.steps.Goals as goal

pub returns-clause-cells : goal.returns-clause-cells
returns-clause-cells c of stand =
    let s = c.args.symbols.now in
    let old = c.args.terms.now in
    let new = c.replacements-added.new.terms in
    places_more old.pass new.pass _ _ (few_roots of c.args.i)
    (c.near_cells_are_few.ensures s old new (roots_at of c.args.i) c.leaves_differ.ensures.table c.terms_at.ensures.lists c.terms_at-2.ensures.lists
    c.one_to_one.ensures c.replacements-added.ensures.keeps.pass.grows
    (roots_known s old c.leaves_differ.ensures.table c.args.proof.now of c.args.i (λ m. c.terms_correspond.ensures.clause s old c.args.proof.now of m stand))
    (c.replacements-added.ensures.placed of stand))
