use Rattle.std.proofs.Common.{◌≡◌, ◌≤◌, [], ◌∷◌, length, sym, subst, arith}
use Rattle.sym_table.specs.Leaf.{operator}
use Rattle.sym_table.specs.Table.{IsLeaf}
use Rattle.term_model.specs.declared.symbols.Op.{Op}
use Rattle.term_model.specs.Flips.{equality}
use Rattle.term_pool.proofs.PlacedCells.{places_of_term, lacks_for_term}
use Rattle.flip_steps.specs.Refilling.{IsInOrderOf}
use Rattle.flip_steps.proofs.RefillLemmas.{exchanged, in_order_later, ordered_itself}
use Rattle.flip_steps.proofs.Results.{on_err}
use Rattle.flip_steps.proofs.refilling.order.Goals as goal
use Rattle.flip_steps.proofs.refilling.order.Goals.{then-head-operator-via-then-head-operator, then-head-operator-via-else-head-operator+then-args-ne2}

pub returns-then-head-operator-clause-ordered : goal.returns-then-head-operator-clause-ordered
returns-then-head-operator-clause-ordered c =
    ordered_itself c.args.symbols.now c.args.terms.now c.leaves_differ.ensures.table c.args.head c.operator.result c.args.args.now c.args.whole
    c.operator.ensures.leaf c.requires (λ same two.
    elim c.then-head-operator.branch [
      | then-head-operator-via-then-head-operator w ↦ absurd (omega (arith, same))
      | then-head-operator-via-else-head-operator+then-args-ne2 w ↦ absurd (omega (arith, two))
    ])

pub returns-in_err-made-clause-placed : goal.returns-in_err-made-clause-placed
returns-in_err-made-clause-placed c =
    let s = c.args.symbols.now in
    let v = c.args.terms.now in
    let w = c.apply.new.terms in
    let same : c.args.head ≡ c.operator.result = omega arith in
    let leaf = subst (λ x. IsLeaf s x (operator Op.Equal)) (sym same) c.operator.ensures.leaf in
    let two : length c.args.args.now ≡ 2 = omega arith in
    let high : c.index-args-1.result ≤ c.index-args-0.result = omega arith in
    let h = exchanged s v c.args.head c.args.args.now c.args.whole c.index-args-0.result c.index-args-1.result leaf c.requires two c.index-args-0.is
    c.index-args-1.is high in
    places_of_term s v.pass w.pass (IsInOrderOf s w c.args.whole) (equality h.second h.first)
    (in_order_later s v w c.args.whole (equality h.second h.first) c.in_err-made.ensures.keeps h.is)
    (c.in_err-made.ensures.placed s (h.second ∷ h.first ∷ []) (equality h.second h.first) h.refer h.applied)

pub returns-in_err-made-clause-full : goal.returns-in_err-made-clause-full
returns-in_err-made-clause-full c =
    let s = c.args.symbols.now in
    let v = c.args.terms.now in
    let w = c.apply.new.terms in
    let same : c.args.head ≡ c.operator.result = omega arith in
    let leaf = subst (λ x. IsLeaf s x (operator Op.Equal)) (sym same) c.operator.ensures.leaf in
    let two : length c.args.args.now ≡ 2 = omega arith in
    let high : c.index-args-1.result ≤ c.index-args-0.result = omega arith in
    let h = exchanged s v c.args.head c.args.args.now c.args.whole c.index-args-0.result c.index-args-1.result leaf c.requires two c.index-args-0.is
    c.index-args-1.is high in
    on_err c.from_residual.result _ (lacks_for_term s w.pass (IsInOrderOf s w c.args.whole) (equality h.second h.first)
    (in_order_later s v w c.args.whole (equality h.second h.first) c.in_err-made.ensures.keeps h.is)
    (c.in_err-made.ensures.full s (h.second ∷ h.first ∷ []) (equality h.second h.first) h.refer h.applied))

pub returns-clause-ordered : goal.returns-clause-ordered
returns-clause-ordered c =
    let s = c.args.symbols.now in
    let v = c.args.terms.now in
    let w = c.apply.new.terms in
    let same : c.args.head ≡ c.operator.result = omega arith in
    let leaf = subst (λ x. IsLeaf s x (operator Op.Equal)) (sym same) c.operator.ensures.leaf in
    let two : length c.args.args.now ≡ 2 = omega arith in
    let high : c.index-args-1.result ≤ c.index-args-0.result = omega arith in
    let h = exchanged s v c.args.head c.args.args.now c.args.whole c.index-args-0.result c.index-args-1.result leaf c.requires two c.index-args-0.is
    c.index-args-1.is high in
    record {
      form = equality h.second h.first;
      refers = c.in_ok-made.ensures.term s (h.second ∷ h.first ∷ []) (equality h.second h.first) h.refer h.applied;
      is = in_order_later s v w c.args.whole (equality h.second h.first) c.in_ok-made.ensures.keeps h.is;
    }

pub returns-clause-placed : goal.returns-clause-placed
returns-clause-placed c =
    let s = c.args.symbols.now in
    let v = c.args.terms.now in
    let w = c.apply.new.terms in
    let same : c.args.head ≡ c.operator.result = omega arith in
    let leaf = subst (λ x. IsLeaf s x (operator Op.Equal)) (sym same) c.operator.ensures.leaf in
    let two : length c.args.args.now ≡ 2 = omega arith in
    let high : c.index-args-1.result ≤ c.index-args-0.result = omega arith in
    let h = exchanged s v c.args.head c.args.args.now c.args.whole c.index-args-0.result c.index-args-1.result leaf c.requires two c.index-args-0.is
    c.index-args-1.is high in
    places_of_term s v.pass w.pass (IsInOrderOf s w c.args.whole) (equality h.second h.first)
    (in_order_later s v w c.args.whole (equality h.second h.first) c.in_ok-made.ensures.keeps h.is)
    (c.in_ok-made.ensures.placed s (h.second ∷ h.first ∷ []) (equality h.second h.first) h.refer h.applied)
