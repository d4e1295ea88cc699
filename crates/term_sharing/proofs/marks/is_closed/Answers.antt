use Rattle.std.proofs.Common.{◌∙◌, ap, sym, subst}
use Rattle.sym_table.specs.Table.{IsLeaf}
use Rattle.term_pool.specs.StandsFor.{variable_leaf}
use Rattle.term_sharing.specs.Marks.{says_closed}
use Rattle.term_sharing.proofs.ClosedTerms.{is_false, leaf_closed}
use Rattle.term_sharing.proofs.marks.is_closed.Goals as goal

pub returns-then-not-is_leaf : goal.returns-then-not-is_leaf
returns-then-not-is_leaf c = λ closed. c.requires c.args.r (sym (c.tells_closed.ensures ∙ ap says_closed c.mark_of.ensures) ∙ closed)

pub returns : goal.returns
returns c = λ yes.
    leaf_closed c.args.symbols.now c.args.terms.now c.one_to_one.ensures c.parts_of_trees.ensures c.args.r
    (c.is_leaf.ensures.0 c.if-not-is_leaf.false)
    (λ x there. c.is_variable.ensures.no (is_false c.is_variable.result yes) x
    (subst (λ k. IsLeaf c.args.symbols.now k (variable_leaf x)) (sym c.number-leaf.ensures.number) there))
