use Rattle.std.proofs.Common.{◌≡◌, ◌≤◌, ◌^◌, arith}
use Rattle.term_pool.proofs.ReadingLemmas.{reference_cell, second_known}
use Rattle.term_pool.proofs.NotLemmas.{not_found}
use Rattle.term_pool.proofs.nots.under_not.Goals as goal

pub parts-head-requires-clause-tree : goal.parts-head-requires-clause-tree
parts-head-requires-clause-tree c =
    let above : 2 ^ 30 ≤ c.args.r = grind arith in reference_cell _ _ c.parts_of_trees.ensures above c.requires.known

pub parts-inner-requires-clause-tree : goal.parts-inner-requires-clause-tree
parts-inner-requires-clause-tree c =
    let above : 2 ^ 30 ≤ c.args.r = grind arith in
    let above_too : 2 ^ 30 ≤ c.parts-head.result.1 = grind arith in
    let outer = reference_cell _ _ c.parts_of_trees.ensures above c.requires.known in
    rw c.parts-head.ensures.same
    (reference_cell _ _ c.parts_of_trees.ensures above_too (second_known _ _ _ outer c.parts-head.ensures.second))

pub returns-clause-under : goal.returns-clause-under
returns-clause-under c =
    let above : 2 ^ 30 ≤ c.args.r = grind arith in
    let above_too : 2 ^ 30 ≤ c.parts-head.result.1 = grind arith in
    let head : c.parts-head.result.0 ≡ c.args.not = omega arith in
    let nil : c.parts-inner.result.1 ≡ 0 = omega arith in
    let outer = reference_cell _ _ c.parts_of_trees.ensures above c.requires.known in
    let within = reference_cell _ _ c.parts_of_trees.ensures above_too (second_known _ _ _ outer c.parts-head.ensures.second) in
    not_found _ c.one_to_one.ensures c.parts_of_trees.ensures _ _ _ _ _ _ c.requires.leaf outer within c.parts-head.ensures.first
    c.parts-head.ensures.second (rw c.parts-head.ensures.same at c.parts-inner.ensures.first)
    (rw c.parts-head.ensures.same at c.parts-inner.ensures.second) head nil
