use Rattle.term_pool.proofs.TermLemmas.{app_stands, trees_of}
use Rattle.term_pool.specs.Trees.{app_tree}
use Rattle.flip_steps.proofs.Results.{on_err}
use Rattle.flip_steps.proofs.refilling.apply.Goals as goal

pub returns-in_err-made-clause-placed : goal.returns-in_err-made-clause-placed
returns-in_err-made-clause-placed c s ts t refer applied =
    let trees = trees_of s c.args.terms.now c.args.args.now ts refer in
    record {
      tree = app_tree c.args.head trees.trees;
      stands = app_stands s c.args.head ts t trees.trees applied trees.stand;
      placed = (c.in_err-made.ensures.full trees.trees trees.known).placed;
    }

pub returns-in_err-made-clause-full : goal.returns-in_err-made-clause-full
returns-in_err-made-clause-full c =
    on_err c.from_residual.result _ (λ s ts t refer applied.
    let trees = trees_of s c.args.terms.now c.args.args.now ts refer in
    record {
      tree = app_tree c.args.head trees.trees;
      stands = app_stands s c.args.head ts t trees.trees applied trees.stand;
      full = (c.in_err-made.ensures.full trees.trees trees.known).full;
    })

pub returns-clause-placed : goal.returns-clause-placed
returns-clause-placed c s ts t refer applied =
    let trees = trees_of s c.args.terms.now c.args.args.now ts refer in
    record {
      tree = app_tree c.args.head trees.trees;
      stands = app_stands s c.args.head ts t trees.trees applied trees.stand;
      placed = (c.in_ok-made.ensures.built trees.trees trees.known).placed;
    }
