-- A variable is a leaf that is no function.
use Rattle.std.proofs.Common.{subst}
use Rattle.sym_table.specs.Leaf as leaf
use Rattle.sym_table.specs.Table.{IsLeaf}
use Rattle.term_reader.proofs.Staying.{adds_leaf}
use Rattle.term_reader.proofs.leaving_lets.add_variable.Goals as goal

pub returns-in_err-push-clause-symbols : goal.returns-in_err-push-clause-symbols
returns-in_err-push-clause-symbols c =
    adds_leaf _ _ _ (leaf.variable c.name_of.result.now c.args.sort) c.in_ok-leaf.ensures.found_or_new c.variable.ensures.keeps (λ f e. cc)

pub returns-clause-added : goal.returns-clause-added
returns-clause-added c =
    let k = c.in_ok-leaf.leaf in
    (k, subst (λ name. IsLeaf c.variable.new.self k (leaf.variable name c.args.sort)) c.name_of.ensures c.in_ok-leaf.ensures.leaf, c.in_ok-push.ensures.items)

pub returns-clause-symbols : goal.returns-clause-symbols
returns-clause-symbols c =
    adds_leaf _ _ _ (leaf.variable c.name_of.result.now c.args.sort) c.in_ok-leaf.ensures.found_or_new c.variable.ensures.keeps (λ f e. cc)
