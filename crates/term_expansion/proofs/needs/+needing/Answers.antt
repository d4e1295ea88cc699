-- What a term needs, by what stands at its top.
use Rattle.std.proofs.Common.{◌≡◌, ◌∙◌, ◌-◌, ◌≤◌, [], get_or, take, refl, sym, subst, arith}
use Rattle.std.proofs.lemmas.List.{take_all, take_more}
use Rattle.std.proofs.lemmas.Result.{IfOk-weaker, on_ok_weaker}
use Rattle.term_model.specs.Terms.{Term}
use Rattle.term_pool.specs.Reading.{arguments_of}
use Rattle.term_pool.specs.Views.{RefersTo}
use Rattle.term_expansion.specs.Free.{AddsLeaves, AddsUnbound}
use Rattle.term_expansion.specs.Needs.{IsNeeded, HasNeeds}
use Rattle.term_expansion.proofs.LeafLemmas.{head_within, application-no_let, refer_at}
use Rattle.term_expansion.proofs.Heights as heights
use Rattle.term_expansion.proofs.Needing as lemma
use Rattle.term_expansion.proofs.TermParts as parts
use Rattle.term_expansion.proofs.needs.+needing.Goals as goal
use Rattle.term_expansion.specs.SymbolsAndTerms.{both}

pub add_needs_of-returns-clause-adds : goal.add_needs_of-returns-clause-adds
add_needs_of-returns-clause-adds t c =
    on_ok_weaker c.add_all.result
    (λ adds u refers.
    lemma.needs-added c.args.symbols.now c.args.terms.now c.args.r c.in_ok-leaves.leaves.items c.args.found.now.keys c.add_all.new.found.keys u
    (c.equal_exactly_where_terms_are.ensures c.args.symbols.now c.leaves_differ.ensures.table) c.in_ok-leaves.ensures.leaves
    (subst (λ ks. AddsUnbound ks [] c.args.found.now.keys c.add_all.new.found.keys) c.deref.ensures.value adds) refers)
    c.add_all.ensures

pub needs_of-returns-clause-leaves : goal.needs_of-returns-clause-leaves
needs_of-returns-clause-leaves t c =
    IfOk-weaker c.note.result _ _ (λ leaves same.
    lemma.needs-found c.args.symbols.now c.args.terms.now c.args.r c.new-found.result.keys c.needs_anew.new.found.keys leaves.items c.new-found.ensures.empty (same ∙ c.as_slice.ensures.keys)
    (heights.is_term c.args.symbols.now c.args.terms.now c.args.most c.args.r c.requires.low) c.in_ok-needs_anew.ensures.adds)
    c.note.ensures.leaves

pub needs_of-returns-clause-needs : goal.needs_of-returns-clause-needs
needs_of-returns-clause-needs t c =
    let s = c.args.symbols.now in
    let v = c.args.terms.now in
    let right = lemma.needs-found s v c.args.r c.new-found.result.keys c.needs_anew.new.found.keys c.as_slice.result.now c.new-found.ensures.empty c.as_slice.ensures.keys (heights.is_term s v c.args.most c.args.r c.requires.low) c.in_ok-needs_anew.ensures.adds in
    on_ok_weaker c.note.result (λ noted. noted s v right c.in_ok-needs_anew.ensures.needs) c.note.ensures.noted

pub needs_anew-needs_of_let-requires : goal.needs_anew-needs_of_let-requires
needs_anew-needs_of_let-requires t c = (
  omega arith,
  (
    heights.low_moved _ _ _ _ _ c.head_of.ensures.same c.requires.low,
    (
      λ u refers. c.in_default.ensures.let_term c.args.symbols.now u c.leaves_differ.ensures.table (parts.refers_back _ _ _ c.args.r u c.head_of.ensures.same refers),
      lemma.needs_moved _ _ _ _ c.head_of.ensures.same c.requires.needs,
    ),
  ),
)

pub needs_anew-is_variable-requires : goal.needs_anew-is_variable-requires
needs_anew-is_variable-requires t c =
    let u = c.requires.low in
    head_within c.args.symbols.now c.in-Some.head (arguments_of u.means) u.means (c.in-Some.ensures.application c.args.symbols.now u.means c.leaves_differ.ensures.table u.refers)

pub needs_anew-returns-then-is_variable-clause-adds : goal.needs_anew-returns-then-is_variable-clause-adds
needs_anew-returns-then-is_variable-clause-adds t c =
    let is = c.is_variable.ensures.yes c.if-is_variable.true in
    on_ok_weaker c.add.result
    (λ one u refers.
    lemma.variable-needs c.args.symbols.now c.in-Some.head is.0 (arguments_of u) u c.args.found.now.keys c.add.new.set.keys is.1 one
    (c.in-Some.ensures.application c.args.symbols.now u c.leaves_differ.ensures.table refers))
    c.add.ensures

pub needs_anew-overflow_sub-most : goal.needs_anew-overflow_sub-most
needs_anew-overflow_sub-most t c = heights.positive _ _ c.args.most c.args.r c.requires.low

pub needs_anew-needs_of_all-requires : goal.needs_anew-needs_of_all-requires
needs_anew-needs_of_all-requires t c =
    let some : 1 ≤ c.args.most = heights.positive _ _ c.args.most c.args.r c.requires.low in
    let same = c.arguments_of.ensures.same ∙ c.head_of.ensures.same in (
      omega arith,
      (
        heights.all_low_moved _ _ _ _ c.in_ok-list.list.items _ c.arguments_of.ensures.same c.deref.ensures.value
            (heights.arguments_low c.args.symbols.now c.head_of.new.terms c.args.most c.args.r c.in_ok-list.list.items (heights.low_moved _ _ _ _ _ c.head_of.ensures.same c.requires.low)
            (parts.arguments_refer c.args.symbols.now c.head_of.new.terms c.args.r c.in-Some.head c.in_ok-list.list.items
            (λ u refers. c.in-Some.ensures.application c.args.symbols.now u c.leaves_differ.ensures.table (parts.refers_back _ _ _ c.args.r u c.head_of.ensures.same refers)) c.in_ok-list.ensures.arguments)),
        lemma.needs_moved _ _ _ _ same c.requires.needs,
      ),
    )

pub needs_anew-returns-clause-adds : goal.needs_anew-returns-clause-adds
needs_anew-returns-clause-adds t c =
    let s = c.args.symbols.now in
    let v = c.args.terms.now in
    let w = c.head_of.new.terms in
    let first : w ≡ v = c.head_of.ensures.same in
    on_ok_weaker c.needs_of_all.result
    (λ adds u refers.
    let app = c.in-Some.ensures.application s u c.leaves_differ.ensures.table refers in
    lemma.application-needs s c.in-Some.head u c.args.found.now.keys c.needs_of_all.new.found.keys (c.is_variable.ensures.no c.if-is_variable.false) app
    (adds (arguments_of u)
    (refer_at s w c.arguments_of.new.terms c.in_ok-list.list.items c.deref.result.now (arguments_of u) c.arguments_of.ensures.same c.deref.ensures.value
    (c.in_ok-list.ensures.arguments s u (subst (λ z. RefersTo s z c.args.r u) (sym first) refers) (application-no_let s c.in-Some.head (arguments_of u) u app)))))
    c.needs_of_all.ensures.adds

pub needs_of_all-add_needs_of-requires : goal.needs_of_all-add_needs_of-requires
needs_of_all-add_needs_of-requires t c =
    let walk = c.terms.invariant in
    let within = walk.within in
    let above = c.terms-test.true in (
      omega arith,
      (
        heights.low_moved _ _ _ _ _ walk.same (heights.low_at c.args.symbols.now c.args.terms.now c.args.most c.args.list.now (c.terms.at - 1) c.index-list-at.result c.requires.low (omega arith) c.index-list-at.is),
        lemma.needs_moved _ _ _ _ walk.same walk.needs,
      ),
    )

pub needs_of_all-terms-preserved : goal.needs_of_all-terms-preserved
needs_of_all-terms-preserved t c =
    lemma.passed-next c.args.symbols.now c.args.terms.now c.terms.terms c.add_needs_of.new.terms c.args.list.now c.terms.at c.index-list-at.result c.args.found.now.keys c.terms.found.keys c.add_needs_of.new.found.keys
    c.terms.needs.leaves c.add_needs_of.new.needs.leaves c.terms.invariant c.terms-test.true c.index-list-at.is c.add_needs_of.ensures.same c.in_ok-add_needs_of.ensures.adds c.in_ok-add_needs_of.ensures.needs

pub needs_of_let-overflow_sub-below : goal.needs_of_let-overflow_sub-below
needs_of_let-overflow_sub-below t c = heights.positive _ _ c.args.most c.args.r c.requires.low

pub needs_of_let-let_parts-requires : goal.needs_of_let-let_parts-requires
needs_of_let-let_parts-requires t c = parts.is_let_term c.args.symbols.now _ _ c.requires.is_let (heights.is_term _ _ c.args.most c.args.r c.requires.low)

pub needs_of_let-needs_of-requires : goal.needs_of_let-needs_of-requires
needs_of_let-needs_of-requires t c =
    let some : 1 ≤ c.args.most = heights.positive _ _ c.args.most c.args.r c.requires.low in (
      omega arith,
      (
        heights.low_moved _ _ _ _ _ c.let_parts.ensures.same
            (heights.body_low c.args.symbols.now c.args.terms.now c.args.most c.args.r c.in_ok-parts.parts.body c.requires.low c.requires.is_let (c.in_ok-parts.ensures.body c.args.symbols.now)),
        lemma.needs_moved _ _ _ _ c.let_parts.ensures.same c.requires.needs,
      ),
    )

pub needs_of_let-leaves-init : goal.needs_of_let-leaves-init
needs_of_let-leaves-init t c =
    lemma.through-none c.args.symbols.now c.args.terms.now c.needs_of.new.terms c.in_ok-parts.parts.variables.items c.in_ok-parts.parts.values.items c.args.found.now.keys c.needs_of.new.needs.leaves
    (c.needs_of.ensures.same ∙ c.let_parts.ensures.same) (lemma.needs_moved _ _ _ _ c.needs_of.ensures.same c.in_ok-inside.ensures.needs)

pub needs_of_let-add_needs_of-requires : goal.needs_of_let-add_needs_of-requires
needs_of_let-add_needs_of-requires t c =
    let s = c.args.symbols.now in
    let p = c.in_ok-parts.parts in
    let some : 1 ≤ c.args.most = heights.positive _ _ c.args.most c.args.r c.requires.low in (
      omega arith,
      (
        heights.low_moved _ _ _ _ _ c.leaves.invariant.same
            (heights.value_low s c.args.terms.now (c.args.most - 1) _ c.in-Some.value.now p.variables.items p.values.items
            (heights.values_low s c.args.terms.now c.args.most c.args.r p.variables.items p.values.items c.requires.low c.requires.is_let (c.in_ok-parts.ensures.bindings s))
            (sym (lemma.values_moved c.in_ok-values.values c.deref.result.now p.variables.items c.deref-2.result.now p.values.items c.deref.ensures.value c.deref-2.ensures.value c.in_ok-values.ensures _) ∙ sym c.in-Some.ensures.value)),
        lemma.needs_moved _ _ _ _ c.leaves.invariant.same c.leaves.invariant.needs,
      ),
    )

pub needs_of_let-returns-in_err-add_needs_of-clause-same : goal.needs_of_let-returns-in_err-add_needs_of-clause-same
needs_of_let-returns-in_err-add_needs_of-clause-same t c = c.add_needs_of.ensures.same ∙ c.leaves.invariant.same

pub needs_of_let-leaves-preserved-in-Some : goal.needs_of_let-leaves-preserved-in-Some
needs_of_let-leaves-preserved-in-Some t c =
    let s = c.args.symbols.now in
    let p = c.in_ok-parts.parts in
    let k = get_or c.deref-k-items.result.now c.leaves.k-index 0 in
    let old = c.leaves.found.keys in
    let new = c.add_needs_of.new.found.keys in
    let by_leaves = lemma.values_moved c.in_ok-values.values c.deref.result.now p.variables.items c.deref-2.result.now p.values.items c.deref.ensures.value c.deref-2.ensures.value c.in_ok-values.ensures in
    lemma.through-next s c.args.terms.now c.leaves.terms c.add_needs_of.new.terms p.variables.items p.values.items _ _ c.args.found.now.keys old new
    c.leaves.needs.leaves c.add_needs_of.new.needs.leaves k c.leaves.invariant (take_more c.deref-k-items.result.now c.leaves.k-index 0 c.leaves-test.true)
    (lemma.needed-variable s c.let_parts.new.terms p.body c.in_ok-inside.inside.items c.deref-k-items.result.now c.leaves.k-index c.in_ok-inside.ensures.leaves c.deref-k-items.ensures.value c.leaves-test.true)
    c.add_needs_of.ensures.same
    (λ bs y are leaf.
    lemma.given-adds s c.leaves.terms c.leaves_differ.ensures.table k c.in-Some.value.now p.variables.items p.values.items old new bs y are leaf (sym (by_leaves k) ∙ sym c.in-Some.ensures.value) c.in_ok-add_needs_of.ensures.adds)
    c.in_ok-add_needs_of.ensures.needs

pub needs_of_let-leaves-preserved : goal.needs_of_let-leaves-preserved
needs_of_let-leaves-preserved t c =
    let s = c.args.symbols.now in
    let p = c.in_ok-parts.parts in
    let k = get_or c.deref-k-items.result.now c.leaves.k-index 0 in
    let old = c.leaves.found.keys in
    let new = c.add.new.set.keys in
    let by_leaves = lemma.values_moved c.in_ok-values.values c.deref.result.now p.variables.items c.deref-2.result.now p.values.items c.deref.ensures.value c.deref-2.ensures.value c.in_ok-values.ensures in
    lemma.through-next s c.args.terms.now c.leaves.terms c.leaves.terms p.variables.items p.values.items _ _ c.args.found.now.keys old new
    c.leaves.needs.leaves c.leaves.needs.leaves k c.leaves.invariant (take_more c.deref-k-items.result.now c.leaves.k-index 0 c.leaves-test.true)
    (lemma.needed-variable s c.let_parts.new.terms p.body c.in_ok-inside.inside.items c.deref-k-items.result.now c.leaves.k-index c.in_ok-inside.ensures.leaves c.deref-k-items.ensures.value c.leaves-test.true)
    refl
    (λ bs y are leaf.
    lemma.unbound-adds s c.leaves.terms c.leaves_differ.ensures.table k p.variables.items p.values.items old new bs y are leaf (sym (by_leaves k) ∙ sym c.in_default.ensures.value) c.in_ok-add.ensures)
    (lemma.needs_moved _ _ _ _ c.leaves.invariant.same c.leaves.invariant.needs)

pub needs_of_let-returns-clause-adds : goal.needs_of_let-returns-clause-adds
needs_of_let-returns-clause-adds t c = λ u refers.
    let s = c.args.symbols.now in
    let v = c.args.terms.now in
    let p = c.in_ok-parts.parts in
    let old = c.args.found.now.keys in
    let found = c.leaves.found.keys in
    let list = c.deref-k-items.result.now in
    let all : take c.leaves.k-index list ≡ c.in_ok-inside.inside.items = take_all c.leaves.k-index list c.leaves-test.false ∙ c.deref-k-items.ensures.value in
    let inside : HasNeeds (both s v) p.body (take c.leaves.k-index list) =
    subst (HasNeeds (both s v) p.body) (sym all) (subst (λ z. HasNeeds (both s z) p.body c.in_ok-inside.inside.items) c.let_parts.ensures.same c.in_ok-inside.ensures.leaves) in
    let (bs, body, e, let_refers) = parts.let_refers s v c.args.r u refers (c.requires.is_let u refers) in
    subst (λ (w : Term). AddsLeaves s old found (λ x. IsNeeded x w)) (sym e)
    (lemma.through-all s (take c.leaves.k-index list) old found bs body
    (lemma.needs-at s v p.body (take c.leaves.k-index list) body (c.equal_exactly_where_terms_are.ensures s c.leaves_differ.ensures.table) inside (c.in_ok-parts.ensures.body s bs body let_refers))
    (c.leaves.invariant.adds bs (c.in_ok-parts.ensures.bindings s bs body let_refers)))

pub needs_of_let-returns-clause-needs : goal.needs_of_let-returns-clause-needs
needs_of_let-returns-clause-needs t c = c.leaves.invariant.needs

pub needs_of_let-returns-clause-same : goal.needs_of_let-returns-clause-same
needs_of_let-returns-clause-same t c = c.leaves.invariant.same
