-- By what stands at the top of a term.
use Rattle.std.proofs.Common.{◌∙◌, ◌-◌, ◌≤◌, ℕ, List, [], ◌∷◌, length, refl, sym, subst, ap, arith}
use Rattle.std.proofs.lemmas.List.{length-append}
use Rattle.std.proofs.lemmas.Result.{err_from_is_err_and}
use Rattle.term_model.specs.Terms.{Term}
use Rattle.term_pool.specs.Reading.{arguments_of}
use Rattle.term_pool.specs.Views.{RefersTo, TermsView, KeepsTerms}
use Rattle.term_expansion.specs.Expanding.{IsSaid, ExpandsAll, ExpandsOne, FillsOne, PlacesOne}
use Rattle.term_expansion.specs.Needs.{AreNeeds}
use Rattle.term_expansion.specs.declared.assignments.Assigned.{Assigned}
use Rattle.term_expansion.proofs.AssignedLists.{assigned_same, outside_is_left, outside_within}
use Rattle.term_pool.proofs.Keeping.{terms-trans}
use Rattle.term_expansion.proofs.Expansions as lemma
use Rattle.term_expansion.proofs.Heights as heights
use Rattle.term_expansion.proofs.NeedLemmas.{refers-grow, done-grow, needs-grow}
use Rattle.term_expansion.proofs.TermParts.{refers_back, cell_no_variable, arguments_refer, head_within}
use Rattle.term_expansion.proofs.expanding.+expanding.Goals as goal
use Rattle.term_expansion.specs.SymbolsAndTerms.{both}

pub expand-returns-then-is_leaf-clause-value : goal.expand-returns-then-is_leaf-clause-value
expand-returns-then-is_leaf-clause-value t c = λ u q refers says.
    lemma.leaf_becomes c.args.symbols.now c.args.terms.now c.args.expansion.now.assignments c.args.r c.term_at.result c.one_to_one.ensures
    (lemma.known_leaf c.args.terms.now.pass c.args.r c.number.result c.leaf-leaf.result c.number.ensures.number c.leaf-leaf.ensures.number c.leaf-leaf.ensures.stands) c.term_at.ensures u q refers says

pub expand-returns-in-Some-clause-value : goal.expand-returns-in-Some-clause-value
expand-returns-in-Some-clause-value t c = λ u q refers says.
    let s = c.args.symbols.now in
    let v = c.args.terms.now in
    let w = c.needs_of.new.terms in
    let a = c.args.expansion.now.assignments in
    let same = c.needs_of.ensures.same in
    lemma.expands_moved s v w w a c.args.r c.in-Some.term.now same
    (lemma.remembered s w a c.args.r c.in-Some.term.now c.deref.result.now c.in_ok-key.key c.args.expansion.now.done (c.equal_exactly_where_terms_are.ensures s c.leaves_differ.ensures.table)
    (lemma.are_done_moved s v w c.args.expansion.now.done same c.requires.expansion.done) c.in_ok-key.ensures c.in-Some.ensures.value)
    u q refers says

pub expand-returns-in_err-term-clause-placed : goal.expand-returns-in_err-term-clause-placed
expand-returns-in_err-term-clause-placed t c =
    lemma.places_moved c.args.symbols.now c.args.terms.now c.needs_of.new.terms c.expand_anew.new.terms c.args.expansion.now.assignments c.args.r c.needs_of.ensures.same c.in_err-term.ensures.placed

pub expand-returns-in_err-term-clause-full : goal.expand-returns-in_err-term-clause-full
expand-returns-in_err-term-clause-full t c =
    let e = err_from_is_err_and c.from_residual-in_err-term.result c.from_residual-in_err-term.ensures.1 in
    rw (e.1, e.2) (λ full.
    lemma.fills_moved c.args.symbols.now c.args.terms.now c.needs_of.new.terms c.expand_anew.new.terms c.args.expansion.now.assignments c.args.r c.needs_of.ensures.same (c.in_err-term.ensures.full full))

pub expand-returns-in_err-insert-clause-placed : goal.expand-returns-in_err-insert-clause-placed
expand-returns-in_err-insert-clause-placed t c =
    lemma.places_moved c.args.symbols.now c.args.terms.now c.needs_of.new.terms c.expand_anew.new.terms c.args.expansion.now.assignments c.args.r c.needs_of.ensures.same c.in_ok-term.ensures.placed

pub expand-returns-clause-placed : goal.expand-returns-clause-placed
expand-returns-clause-placed t c =
    lemma.places_moved c.args.symbols.now c.args.terms.now c.needs_of.new.terms c.expand_anew.new.terms c.args.expansion.now.assignments c.args.r c.needs_of.ensures.same c.in_ok-term.ensures.placed

pub expand-returns-clause-expansion : goal.expand-returns-clause-expansion
expand-returns-clause-expansion t c =
    let s = c.args.symbols.now in
    let w = c.needs_of.new.terms in
    let z = c.expand_anew.new.terms in
    record {
      needs = c.in_ok-term.ensures.expansion.needs;
      done =
          lemma.noted s z c.in_ok-term.term c.in_ok-key.key c.expand_anew.new.expansion.done c.insert.new.self c.in_ok-term.ensures.expansion.done
          (lemma.has_become s w z c.args.expansion.now.assignments c.args.r c.in_ok-term.term c.deref.result.now c.in_ok-key.key (c.equal_exactly_where_terms_are.ensures s c.leaves_differ.ensures.table) c.expand_anew.ensures.keeps
          (lemma.said_moved s c.args.terms.now w c.args.expansion.now.assignments c.args.r c.needs_of.ensures.same c.requires.said)
          (lemma.has_needs_moved s c.args.terms.now w c.args.r c.in_ok-leaves.leaves.items c.deref.result.now c.needs_of.ensures.same c.deref.ensures.value c.in_ok-leaves.ensures.leaves)
          c.in_ok-key.ensures c.in_ok-term.ensures.value)
          c.in_ok-insert.ensures.updates.0;
    }

pub expand_all-expand-requires : goal.expand_all-expand-requires
expand_all-expand-requires t c = (
  omega arith,
  (
    heights.low_grow c.args.symbols.now c.args.terms.now c.terms.terms c.args.most c.r-item.result c.terms.invariant.0
        (heights.low_at c.args.symbols.now c.args.terms.now c.args.most c.args.list.now c.terms.r-index c.r-item.result c.requires.low c.terms-test.true c.r-item.is),
    (
      lemma.said_at c.args.symbols.now c.args.terms.now c.terms.terms c.args.expansion.now.assignments c.terms.expansion.assignments c.args.list.now c.terms.r-index c.r-item.result c.terms.invariant.0 c.terms.invariant.1 c.requires.said c.terms-test.true c.r-item.is,
      c.terms.invariant.3,
    ),
  ),
)

pub expand_all-returns-in_err-term-clause-placed : goal.expand_all-returns-in_err-term-clause-placed
expand_all-returns-in_err-term-clause-placed t c =
    lemma.placed-next c.args.symbols.now c.args.terms.now c.terms.terms c.expand.new.terms c.args.expansion.now.assignments c.terms.expansion.assignments c.args.list.now c.terms.r-index c.r-item.result c.terms.invariant.0 c.expand.ensures.keeps c.terms.invariant.1
    c.terms-test.true c.r-item.is c.terms.invariant.5 c.in_err-term.ensures.placed

pub expand_all-returns-in_err-term-clause-full : goal.expand_all-returns-in_err-term-clause-full
expand_all-returns-in_err-term-clause-full t c =
    let e = err_from_is_err_and c.from_residual.result c.from_residual.ensures.1 in
    rw (e.1, e.2) (λ full.
    lemma.fills-next c.args.symbols.now c.args.terms.now c.terms.terms c.expand.new.terms c.args.expansion.now.assignments c.terms.expansion.assignments c.args.list.now c.terms.r-index c.r-item.result c.terms.invariant.0 c.terms.invariant.1
    c.terms-test.true c.r-item.is (c.in_err-term.ensures.full full))

pub expand_all-returns-in_err-push-clause-placed : goal.expand_all-returns-in_err-push-clause-placed
expand_all-returns-in_err-push-clause-placed t c =
    lemma.placed-next c.args.symbols.now c.args.terms.now c.terms.terms c.expand.new.terms c.args.expansion.now.assignments c.terms.expansion.assignments c.args.list.now c.terms.r-index c.r-item.result c.terms.invariant.0 c.expand.ensures.keeps c.terms.invariant.1
    c.terms-test.true c.r-item.is c.terms.invariant.5 c.in_ok-term.ensures.placed

pub expand_all-terms-preserved : goal.expand_all-terms-preserved
expand_all-terms-preserved t c =
    let items = c.in_ok-push.ensures.items in
    let counted = c.terms.invariant.2 in (
      terms-trans c.args.terms.now c.terms.terms c.expand.new.terms c.terms.invariant.0 c.expand.ensures.keeps,
      c.in_ok-term.ensures.assignments ∙ c.terms.invariant.1,
      omega (arith, ap length items, length-append c.terms.all.items (c.in_ok-term.term ∷ [])),
      c.in_ok-term.ensures.expansion,
      lemma.expanded-next c.args.symbols.now c.args.terms.now c.terms.terms c.expand.new.terms c.args.expansion.now.assignments c.terms.expansion.assignments c.args.list.now c.terms.all.items c.push.new.self.items c.terms.r-index c.r-item.result c.in_ok-term.term
          c.terms.invariant.0 c.expand.ensures.keeps c.terms.invariant.1 c.terms-test.true c.r-item.is items c.terms.invariant.4 c.in_ok-term.ensures.value,
      lemma.placed-next c.args.symbols.now c.args.terms.now c.terms.terms c.expand.new.terms c.args.expansion.now.assignments c.terms.expansion.assignments c.args.list.now c.terms.r-index c.r-item.result c.terms.invariant.0 c.expand.ensures.keeps c.terms.invariant.1
          c.terms-test.true c.r-item.is c.terms.invariant.5 c.in_ok-term.ensures.placed,
    )

pub expand_all-returns-clause-value : goal.expand_all-returns-clause-value
expand_all-returns-clause-value t c =
    lemma.expanded-end c.args.symbols.now c.args.terms.now c.terms.terms c.args.expansion.now.assignments c.args.list.now c.terms.all.items c.terms.r-index c.terms-test.false c.terms.invariant.4

pub expand_anew-expand_application-requires : goal.expand_anew-expand_application-requires
expand_anew-expand_application-requires t c =
    let s = c.args.symbols.now in
    let v = c.args.terms.now in
    let w = c.head_of.new.terms in
    let same = c.head_of.ensures.same in
    let application = λ (u : Term) (refers : RefersTo s v c.args.r u). c.in-Some.ensures.application s u c.leaves_differ.ensures.table refers in (
      omega arith,
      (
        cell_no_variable s v w c.args.r c.in-Some.head same c.leaves_differ.ensures.few c.requires.cell
            (c.in-Some.ensures.variable s) application,
        (
          λ u refers. application u (refers_back s v w c.args.r u same refers),
          (heights.low_moved s v w c.args.most c.args.r same c.requires.low, (lemma.said_moved s v w c.args.expansion.now.assignments c.args.r same c.requires.said, lemma.expansion_moved s v w _ same c.requires.expansion)),
        ),
      ),
    )

pub expand_anew-expand_let-requires : goal.expand_anew-expand_let-requires
expand_anew-expand_let-requires t c =
    let s = c.args.symbols.now in
    let v = c.args.terms.now in
    let w = c.head_of.new.terms in
    let same = c.head_of.ensures.same in (
      omega arith,
      (
        λ u refers. c.in-None.ensures.let_term s u c.leaves_differ.ensures.table (refers_back s v w c.args.r u same refers),
        (heights.low_moved s v w c.args.most c.args.r same c.requires.low, (lemma.said_moved s v w c.args.expansion.now.assignments c.args.r same c.requires.said, lemma.expansion_moved s v w _ same c.requires.expansion)),
      ),
    )

pub expand_anew-returns-in-Some-clause-placed : goal.expand_anew-returns-in-Some-clause-placed
expand_anew-returns-in-Some-clause-placed t c =
    lemma.places_moved c.args.symbols.now c.args.terms.now c.head_of.new.terms c.expand_application.new.terms c.args.expansion.now.assignments c.args.r c.head_of.ensures.same c.expand_application.ensures.placed

pub expand_anew-returns-in-Some-clause-full : goal.expand_anew-returns-in-Some-clause-full
expand_anew-returns-in-Some-clause-full t c =
    lemma.if_fills_moved c.expand_application.result c.args.symbols.now c.args.terms.now c.head_of.new.terms c.expand_application.new.terms c.args.expansion.now.assignments c.args.r c.head_of.ensures.same c.expand_application.ensures.full

pub expand_anew-returns-in-None-clause-placed : goal.expand_anew-returns-in-None-clause-placed
expand_anew-returns-in-None-clause-placed t c =
    lemma.places_moved c.args.symbols.now c.args.terms.now c.head_of.new.terms c.expand_let.new.terms c.args.expansion.now.assignments c.args.r c.head_of.ensures.same c.expand_let.ensures.placed

pub expand_anew-returns-in-None-clause-full : goal.expand_anew-returns-in-None-clause-full
expand_anew-returns-in-None-clause-full t c =
    lemma.if_fills_moved c.expand_let.result c.args.symbols.now c.args.terms.now c.head_of.new.terms c.expand_let.new.terms c.args.expansion.now.assignments c.args.r c.head_of.ensures.same c.expand_let.ensures.full

pub expand_application-overflow_sub-most : goal.expand_application-overflow_sub-most
expand_application-overflow_sub-most t c = heights.positive c.args.symbols.now c.args.terms.now c.args.most c.args.r c.requires.low

pub expand_application-expand_all-requires : goal.expand_application-expand_all-requires
expand_application-expand_all-requires t c =
    let s = c.args.symbols.now in
    let v = c.args.terms.now in
    let w = c.arguments_of.new.terms in
    let some : 1 ≤ c.args.most = heights.positive s v c.args.most c.args.r c.requires.low in
    let same = c.arguments_of.ensures.same in (
      omega arith,
      (
        heights.all_low_moved s v w (c.args.most - 1) c.in_ok-list.list.items c.deref.result.now same c.deref.ensures.value
            (heights.arguments_low s v c.args.most c.args.r c.in_ok-list.list.items c.requires.low (arguments_refer s v c.args.r c.args.head c.in_ok-list.list.items c.requires.head c.in_ok-list.ensures.arguments)),
        (
          lemma.all_said_moved s v w c.args.expansion.now.assignments c.in_ok-list.list.items c.deref.result.now same c.deref.ensures.value
              (lemma.arguments_said s v c.args.expansion.now.assignments c.args.r c.args.head c.in_ok-list.list.items c.requires.head (arguments_refer s v c.args.r c.args.head c.in_ok-list.list.items c.requires.head c.in_ok-list.ensures.arguments) c.requires.said),
          lemma.expansion_moved s v w _ same c.requires.expansion,
        ),
      ),
    )

pub expand_application-returns-in_err-arguments-clause-placed : goal.expand_application-returns-in_err-arguments-clause-placed
expand_application-returns-in_err-arguments-clause-placed t c =
    let s = c.args.symbols.now in
    let v = c.args.terms.now in
    let a = c.args.expansion.now.assignments in
    let list = c.in_ok-list.list.items in
    let z = c.expand_all.new.terms in
    lemma.arguments_placed s v a c.args.r c.args.head list c.requires.head (arguments_refer s v c.args.r c.args.head list c.requires.head c.in_ok-list.ensures.arguments) z
    (lemma.all_placed_moved s v c.arguments_of.new.terms z a list c.deref.result.now c.arguments_of.ensures.same c.deref.ensures.value c.in_err-arguments.ensures.placed)

pub expand_application-returns-in_err-arguments-clause-full : goal.expand_application-returns-in_err-arguments-clause-full
expand_application-returns-in_err-arguments-clause-full t c =
    let s = c.args.symbols.now in
    let v = c.args.terms.now in
    let a = c.args.expansion.now.assignments in
    let list = c.in_ok-list.list.items in
    let z = c.expand_all.new.terms in
    let e = err_from_is_err_and c.from_residual-in_err-arguments.result c.from_residual-in_err-arguments.ensures.1 in
    rw (e.1, e.2) (λ full.
    lemma.arguments_full s v a c.args.r c.args.head list c.requires.head (arguments_refer s v c.args.r c.args.head list c.requires.head c.in_ok-list.ensures.arguments) z
    (lemma.all_fill_moved s v c.arguments_of.new.terms z a list c.deref.result.now c.arguments_of.ensures.same c.deref.ensures.value (c.in_err-arguments.ensures.full full)))

pub expand_application-app-requires-clause-head : goal.expand_application-app-requires-clause-head
expand_application-app-requires-clause-head t c =
    let u = c.requires.said in
    head_within c.args.symbols.now c.args.head (arguments_of u.means) u.means (c.requires.head u.means u.refers) c.leaves_differ.ensures.few

pub expand_application-app-requires-clause-args : goal.expand_application-app-requires-clause-args
expand_application-app-requires-clause-args t c =
    let s = c.args.symbols.now in
    let v = c.args.terms.now in
    let a = c.args.expansion.now.assignments in
    let list = c.in_ok-list.list.items in
    let z = c.expand_all.new.terms in
    let said = c.requires.said in
    let refer = arguments_refer s v c.args.r c.args.head list c.requires.head c.in_ok-list.ensures.arguments in
    lemma.arguments_known s v a c.args.r c.args.head list c.requires.head refer z c.deref-2.result.now c.deref-2.result.now _ refl
    (lemma.arguments_expanded s v a c.args.r c.args.head list c.requires.head refer z c.deref-2.result.now (subst (λ (is : List ℕ). ExpandsAll (both c.args.symbols.now c.args.terms.now) c.expand_all.new.terms c.args.expansion.now.assignments c.in_ok-list.list.items is) (sym c.deref-2.ensures.value)
    (lemma.all_expand_moved c.args.symbols.now c.args.terms.now c.arguments_of.new.terms c.expand_all.new.terms c.args.expansion.now.assignments c.in_ok-list.list.items c.deref.result.now c.in_ok-arguments.arguments.items c.arguments_of.ensures.same c.deref.ensures.value c.in_ok-arguments.ensures.value)) said.means said.puts said.refers said.says)

pub expand_application-returns-in_err-app-clause-placed : goal.expand_application-returns-in_err-app-clause-placed
expand_application-returns-in_err-app-clause-placed t c =
    let s = c.args.symbols.now in
    let v = c.args.terms.now in
    let a = c.args.expansion.now.assignments in
    let list = c.in_ok-list.list.items in
    let w = c.expand_all.new.terms in
    let z = c.app.new.self in
    lemma.application_placed s v a c.args.r c.args.head list c.requires.head (arguments_refer s v c.args.r c.args.head list c.requires.head c.in_ok-list.ensures.arguments)
    c.leaves_differ.ensures.table c.trees_are_built_of_parts.ensures.application c.trees_of_terms.ensures.one_tree c.requires.no_variable w z c.deref-2.result.now (subst (λ (is : List ℕ). ExpandsAll (both c.args.symbols.now c.args.terms.now) c.expand_all.new.terms c.args.expansion.now.assignments c.in_ok-list.list.items is) (sym c.deref-2.ensures.value)
    (lemma.all_expand_moved c.args.symbols.now c.args.terms.now c.arguments_of.new.terms c.expand_all.new.terms c.args.expansion.now.assignments c.in_ok-list.list.items c.deref.result.now c.in_ok-arguments.arguments.items c.arguments_of.ensures.same c.deref.ensures.value c.in_ok-arguments.ensures.value)) c.app.ensures.keeps
    (lemma.all_placed_moved s v c.arguments_of.new.terms w a list c.deref.result.now c.arguments_of.ensures.same c.deref.ensures.value c.in_ok-arguments.ensures.placed)
    (λ ts known. (c.in_err-app.ensures.full ts known).placed)

pub expand_application-returns-in_err-app-clause-full : goal.expand_application-returns-in_err-app-clause-full
expand_application-returns-in_err-app-clause-full t c =
    let s = c.args.symbols.now in
    let v = c.args.terms.now in
    let a = c.args.expansion.now.assignments in
    let list = c.in_ok-list.list.items in
    let w = c.expand_all.new.terms in
    let z = c.app.new.self in
    let e = err_from_is_err_and c.from_residual-in_err-app.result c.from_residual-in_err-app.ensures.1 in
    rw (e.1, e.2) (λ full.
    lemma.application_full s v a c.args.r c.args.head list c.requires.head (arguments_refer s v c.args.r c.args.head list c.requires.head c.in_ok-list.ensures.arguments)
    c.leaves_differ.ensures.table c.trees_are_built_of_parts.ensures.application c.trees_of_terms.ensures.one_tree c.requires.no_variable w z c.deref-2.result.now (subst (λ (is : List ℕ). ExpandsAll (both c.args.symbols.now c.args.terms.now) c.expand_all.new.terms c.args.expansion.now.assignments c.in_ok-list.list.items is) (sym c.deref-2.ensures.value)
    (lemma.all_expand_moved c.args.symbols.now c.args.terms.now c.arguments_of.new.terms c.expand_all.new.terms c.args.expansion.now.assignments c.in_ok-list.list.items c.deref.result.now c.in_ok-arguments.arguments.items c.arguments_of.ensures.same c.deref.ensures.value c.in_ok-arguments.ensures.value))
    (λ ts known. (c.in_err-app.ensures.full ts known).full))

pub expand_application-returns-clause-value : goal.expand_application-returns-clause-value
expand_application-returns-clause-value t c =
    let s = c.args.symbols.now in
    let v = c.args.terms.now in
    let a = c.args.expansion.now.assignments in
    let list = c.in_ok-list.list.items in
    let w = c.expand_all.new.terms in
    let z = c.app.new.self in
    lemma.application_is s v a c.args.r c.args.head list c.requires.head (arguments_refer s v c.args.r c.args.head list c.requires.head c.in_ok-list.ensures.arguments)
    c.leaves_differ.ensures.table c.trees_are_built_of_parts.ensures.application c.trees_of_terms.ensures.one_tree c.requires.no_variable w z c.deref-2.result.now (subst (λ (is : List ℕ). ExpandsAll (both c.args.symbols.now c.args.terms.now) c.expand_all.new.terms c.args.expansion.now.assignments c.in_ok-list.list.items is) (sym c.deref-2.ensures.value)
    (lemma.all_expand_moved c.args.symbols.now c.args.terms.now c.arguments_of.new.terms c.expand_all.new.terms c.args.expansion.now.assignments c.in_ok-list.list.items c.deref.result.now c.in_ok-arguments.arguments.items c.arguments_of.ensures.same c.deref.ensures.value c.in_ok-arguments.ensures.value)) c.in_ok-app.field-0
    (λ ts u refer is. c.in_ok-app.ensures.term s ts u refer is)

pub expand_application-returns-clause-placed : goal.expand_application-returns-clause-placed
expand_application-returns-clause-placed t c =
    let s = c.args.symbols.now in
    let v = c.args.terms.now in
    let a = c.args.expansion.now.assignments in
    let list = c.in_ok-list.list.items in
    let w = c.expand_all.new.terms in
    let z = c.app.new.self in
    lemma.application_placed s v a c.args.r c.args.head list c.requires.head (arguments_refer s v c.args.r c.args.head list c.requires.head c.in_ok-list.ensures.arguments)
    c.leaves_differ.ensures.table c.trees_are_built_of_parts.ensures.application c.trees_of_terms.ensures.one_tree c.requires.no_variable w z c.deref-2.result.now (subst (λ (is : List ℕ). ExpandsAll (both c.args.symbols.now c.args.terms.now) c.expand_all.new.terms c.args.expansion.now.assignments c.in_ok-list.list.items is) (sym c.deref-2.ensures.value)
    (lemma.all_expand_moved c.args.symbols.now c.args.terms.now c.arguments_of.new.terms c.expand_all.new.terms c.args.expansion.now.assignments c.in_ok-list.list.items c.deref.result.now c.in_ok-arguments.arguments.items c.arguments_of.ensures.same c.deref.ensures.value c.in_ok-arguments.ensures.value)) c.app.ensures.keeps
    (lemma.all_placed_moved s v c.arguments_of.new.terms w a list c.deref.result.now c.arguments_of.ensures.same c.deref.ensures.value c.in_ok-arguments.ensures.placed)
    (λ ts known. (c.in_ok-app.ensures.built ts known).placed)

pub expand_application-returns-clause-expansion : goal.expand_application-returns-clause-expansion
expand_application-returns-clause-expansion t c =
    let s = c.args.symbols.now in
    let w = c.expand_all.new.terms in
    let z = c.app.new.self in
    let grow = refers-grow s w z c.app.ensures.keeps in
    record {
      needs = needs-grow s w z grow c.expand_all.new.expansion.needs.leaves c.in_ok-arguments.ensures.expansion.needs;
      done = done-grow s w z grow c.expand_all.new.expansion.done c.in_ok-arguments.ensures.expansion.done;
    }

pub expand_let-overflow_sub-below : goal.expand_let-overflow_sub-below
expand_let-overflow_sub-below t c = heights.positive c.args.symbols.now c.args.terms.now c.args.most c.args.r c.requires.low

pub expand_let-expand_all-requires : goal.expand_let-expand_all-requires
expand_let-expand_all-requires t c =
    let s = c.args.symbols.now in
    let v = c.args.terms.now in
    let a = c.args.expansion.now.assignments in
    let g = c.in_ok-work.work.given in
    let some : 1 ≤ c.args.most = heights.positive s v c.args.most c.args.r c.requires.low in
    let same = c.let_work.ensures.same in (
      omega arith,
      (
        heights.all_low_moved s v c.let_work.new.terms (c.args.most - 1) g.values.items c.deref.result.now same c.deref.ensures.value c.in_ok-work.ensures.values_low,
        (
          lemma.all_said_moved s v c.let_work.new.terms a g.values.items c.deref.result.now same c.deref.ensures.value
              (lemma.values_said s v a c.args.r c.in_ok-work.work.body g.variables.items g.values.items c.leaves_differ.ensures.table c.in_ok-work.ensures.work c.requires.said),
          record {
            needs = subst (λ (x : TermsView). AreNeeds (both s x) c.let_work.new.needs.leaves) (sym same) c.in_ok-work.ensures.needs;
            done = lemma.are_done_moved s v c.let_work.new.terms c.args.expansion.now.done same c.requires.expansion.done;
          },
        ),
      ),
    )

pub expand_let-returns-in_err-list-clause-placed : goal.expand_let-returns-in_err-list-clause-placed
expand_let-returns-in_err-list-clause-placed t c =
    let s = c.args.symbols.now in
    let v = c.args.terms.now in
    let a = c.args.expansion.now.assignments in
    let g = c.in_ok-work.work.given in
    let z = c.expand_all.new.terms in
    lemma.values_placed s v a c.args.r c.in_ok-work.work.body g.variables.items g.values.items c.leaves_differ.ensures.table c.in_ok-work.ensures.work z
    (lemma.all_placed_moved s v c.let_work.new.terms z a g.values.items c.deref.result.now c.let_work.ensures.same c.deref.ensures.value c.in_err-list.ensures.placed)

pub expand_let-returns-in_err-list-clause-full : goal.expand_let-returns-in_err-list-clause-full
expand_let-returns-in_err-list-clause-full t c =
    let s = c.args.symbols.now in
    let v = c.args.terms.now in
    let a = c.args.expansion.now.assignments in
    let g = c.in_ok-work.work.given in
    let z = c.expand_all.new.terms in
    let e = err_from_is_err_and c.from_residual-in_err-list.result c.from_residual-in_err-list.ensures.1 in
    rw (e.1, e.2) (λ full.
    lemma.values_full s v a c.args.r c.in_ok-work.work.body g.variables.items g.values.items c.leaves_differ.ensures.table c.in_ok-work.ensures.work z
    (lemma.all_fill_moved s v c.let_work.new.terms z a g.values.items c.deref.result.now c.let_work.ensures.same c.deref.ensures.value (c.in_err-list.ensures.full full)))

pub expand_let-returns-in_err-assign-clause-placed : goal.expand_let-returns-in_err-assign-clause-placed
expand_let-returns-in_err-assign-clause-placed t c =
    let s = c.args.symbols.now in
    let v = c.args.terms.now in
    let a = c.args.expansion.now.assignments in
    let g = c.in_ok-work.work.given in
    let z = c.expand_all.new.terms in
    lemma.values_placed s v a c.args.r c.in_ok-work.work.body g.variables.items g.values.items c.leaves_differ.ensures.table c.in_ok-work.ensures.work z
    (lemma.all_placed_moved s v c.let_work.new.terms z a g.values.items c.deref.result.now c.let_work.ensures.same c.deref.ensures.value c.in_ok-list.ensures.placed)

pub expand_let-expand-requires : goal.expand_let-expand-requires
expand_let-expand-requires t c =
    let s = c.args.symbols.now in
    let v = c.args.terms.now in
    let a = c.args.expansion.now.assignments in
    let g = c.in_ok-work.work.given in
    let z = c.expand_all.new.terms in
    let some : 1 ≤ c.args.most = heights.positive s v c.args.most c.args.r c.requires.low in
    let keeps = subst (λ (x : TermsView). KeepsTerms x z) c.let_work.ensures.same c.expand_all.ensures.keeps in (
      omega arith,
      (
        heights.low_grow s v z (c.args.most - 1) c.in_ok-work.work.body keeps c.in_ok-work.ensures.body_low,
        (
          subst (λ (b : List Assigned). IsSaid (both s z) b c.in_ok-work.work.body) (sym (c.in_ok-assign.ensures ∙ assigned_same c.deref-2.result.now c.in_ok-work.work.given.variables.items c.deref-3.result.now c.in_ok-list.list.items c.expand_all.new.expansion.assignments c.args.expansion.now.assignments c.deref-2.ensures.value c.deref-3.ensures.value c.in_ok-list.ensures.assignments))
              (lemma.body_said s v a c.args.r c.in_ok-work.work.body g.variables.items g.values.items c.leaves_differ.ensures.table c.in_ok-work.ensures.work z (subst (λ (x : TermsView). KeepsTerms x c.expand_all.new.terms) c.let_work.ensures.same c.expand_all.ensures.keeps) c.in_ok-list.list.items (lemma.all_expand_moved c.args.symbols.now c.args.terms.now c.let_work.new.terms c.expand_all.new.terms c.args.expansion.now.assignments c.in_ok-work.work.given.values.items c.deref.result.now c.in_ok-list.list.items c.let_work.ensures.same c.deref.ensures.value c.in_ok-list.ensures.value) c.requires.said),
          record { needs = c.in_ok-list.ensures.expansion.needs; done = c.in_ok-list.ensures.expansion.done },
        ),
      ),
    )

pub expand_let-returns-in_err-body-clause-placed : goal.expand_let-returns-in_err-body-clause-placed
expand_let-returns-in_err-body-clause-placed t c =
    let s = c.args.symbols.now in
    let v = c.args.terms.now in
    let a = c.args.expansion.now.assignments in
    let g = c.in_ok-work.work.given in
    let z = c.expand_all.new.terms in
    let y = c.expand.new.terms in
    lemma.let_placed s v a c.args.r c.in_ok-work.work.body g.variables.items g.values.items c.leaves_differ.ensures.table c.in_ok-work.ensures.work z (subst (λ (x : TermsView). KeepsTerms x c.expand_all.new.terms) c.let_work.ensures.same c.expand_all.ensures.keeps) c.in_ok-list.list.items (lemma.all_expand_moved c.args.symbols.now c.args.terms.now c.let_work.new.terms c.expand_all.new.terms c.args.expansion.now.assignments c.in_ok-work.work.given.values.items c.deref.result.now c.in_ok-list.list.items c.let_work.ensures.same c.deref.ensures.value c.in_ok-list.ensures.value) y c.expand.ensures.keeps
    (lemma.all_placed_moved s v c.let_work.new.terms z a g.values.items c.deref.result.now c.let_work.ensures.same c.deref.ensures.value c.in_ok-list.ensures.placed)
    (subst (λ (b : List Assigned). PlacesOne (both s z) y b c.in_ok-work.work.body) (c.in_ok-assign.ensures ∙ assigned_same c.deref-2.result.now c.in_ok-work.work.given.variables.items c.deref-3.result.now c.in_ok-list.list.items c.expand_all.new.expansion.assignments c.args.expansion.now.assignments c.deref-2.ensures.value c.deref-3.ensures.value c.in_ok-list.ensures.assignments) c.in_err-body.ensures.placed)

pub expand_let-returns-in_err-body-clause-full : goal.expand_let-returns-in_err-body-clause-full
expand_let-returns-in_err-body-clause-full t c =
    let s = c.args.symbols.now in
    let v = c.args.terms.now in
    let a = c.args.expansion.now.assignments in
    let g = c.in_ok-work.work.given in
    let z = c.expand_all.new.terms in
    let y = c.expand.new.terms in
    let e = err_from_is_err_and c.from_residual-in_err-body.result c.from_residual-in_err-body.ensures.1 in
    rw (e.1, e.2) (λ full.
    lemma.let_full s v a c.args.r c.in_ok-work.work.body g.variables.items g.values.items c.leaves_differ.ensures.table c.in_ok-work.ensures.work z (subst (λ (x : TermsView). KeepsTerms x c.expand_all.new.terms) c.let_work.ensures.same c.expand_all.ensures.keeps) c.in_ok-list.list.items (lemma.all_expand_moved c.args.symbols.now c.args.terms.now c.let_work.new.terms c.expand_all.new.terms c.args.expansion.now.assignments c.in_ok-work.work.given.values.items c.deref.result.now c.in_ok-list.list.items c.let_work.ensures.same c.deref.ensures.value c.in_ok-list.ensures.value) y
    (subst (λ (b : List Assigned). FillsOne (both s z) y b c.in_ok-work.work.body) (c.in_ok-assign.ensures ∙ assigned_same c.deref-2.result.now c.in_ok-work.work.given.variables.items c.deref-3.result.now c.in_ok-list.list.items c.expand_all.new.expansion.assignments c.args.expansion.now.assignments c.deref-2.ensures.value c.deref-3.ensures.value c.in_ok-list.ensures.assignments) (c.in_err-body.ensures.full full)))

pub expand_let-take_back-requires : goal.expand_let-take_back-requires
expand_let-take_back-requires t c =
    outside_within c.deref-2.result.now c.deref-3.result.now c.expand_all.new.expansion.assignments c.expand.new.expansion.assignments c.len-outside.result (c.in_ok-body.ensures.assignments ∙ c.in_ok-assign.ensures) c.len-outside.ensures

pub expand_let-returns-in_err-take_back-clause-placed : goal.expand_let-returns-in_err-take_back-clause-placed
expand_let-returns-in_err-take_back-clause-placed t c =
    let s = c.args.symbols.now in
    let v = c.args.terms.now in
    let a = c.args.expansion.now.assignments in
    let g = c.in_ok-work.work.given in
    let z = c.expand_all.new.terms in
    let y = c.expand.new.terms in
    lemma.let_placed s v a c.args.r c.in_ok-work.work.body g.variables.items g.values.items c.leaves_differ.ensures.table c.in_ok-work.ensures.work z (subst (λ (x : TermsView). KeepsTerms x c.expand_all.new.terms) c.let_work.ensures.same c.expand_all.ensures.keeps) c.in_ok-list.list.items (lemma.all_expand_moved c.args.symbols.now c.args.terms.now c.let_work.new.terms c.expand_all.new.terms c.args.expansion.now.assignments c.in_ok-work.work.given.values.items c.deref.result.now c.in_ok-list.list.items c.let_work.ensures.same c.deref.ensures.value c.in_ok-list.ensures.value) y c.expand.ensures.keeps
    (lemma.all_placed_moved s v c.let_work.new.terms z a g.values.items c.deref.result.now c.let_work.ensures.same c.deref.ensures.value c.in_ok-list.ensures.placed)
    (subst (λ (b : List Assigned). PlacesOne (both s z) y b c.in_ok-work.work.body) (c.in_ok-assign.ensures ∙ assigned_same c.deref-2.result.now c.in_ok-work.work.given.variables.items c.deref-3.result.now c.in_ok-list.list.items c.expand_all.new.expansion.assignments c.args.expansion.now.assignments c.deref-2.ensures.value c.deref-3.ensures.value c.in_ok-list.ensures.assignments) c.in_ok-body.ensures.placed)

pub expand_let-returns-clause-value : goal.expand_let-returns-clause-value
expand_let-returns-clause-value t c =
    let s = c.args.symbols.now in
    let v = c.args.terms.now in
    let a = c.args.expansion.now.assignments in
    let g = c.in_ok-work.work.given in
    let z = c.expand_all.new.terms in
    let y = c.expand.new.terms in
    lemma.let_expanded s v a c.args.r c.in_ok-work.work.body g.variables.items g.values.items c.leaves_differ.ensures.table c.in_ok-work.ensures.work z (subst (λ (x : TermsView). KeepsTerms x c.expand_all.new.terms) c.let_work.ensures.same c.expand_all.ensures.keeps) c.in_ok-list.list.items (lemma.all_expand_moved c.args.symbols.now c.args.terms.now c.let_work.new.terms c.expand_all.new.terms c.args.expansion.now.assignments c.in_ok-work.work.given.values.items c.deref.result.now c.in_ok-list.list.items c.let_work.ensures.same c.deref.ensures.value c.in_ok-list.ensures.value) y c.in_ok-body.body
    (subst (λ (b : List Assigned). ExpandsOne (both s z) y b c.in_ok-work.work.body c.in_ok-body.body) (c.in_ok-assign.ensures ∙ assigned_same c.deref-2.result.now c.in_ok-work.work.given.variables.items c.deref-3.result.now c.in_ok-list.list.items c.expand_all.new.expansion.assignments c.args.expansion.now.assignments c.deref-2.ensures.value c.deref-3.ensures.value c.in_ok-list.ensures.assignments) c.in_ok-body.ensures.value)

pub expand_let-returns-clause-placed : goal.expand_let-returns-clause-placed
expand_let-returns-clause-placed t c =
    let s = c.args.symbols.now in
    let v = c.args.terms.now in
    let a = c.args.expansion.now.assignments in
    let g = c.in_ok-work.work.given in
    let z = c.expand_all.new.terms in
    let y = c.expand.new.terms in
    lemma.let_placed s v a c.args.r c.in_ok-work.work.body g.variables.items g.values.items c.leaves_differ.ensures.table c.in_ok-work.ensures.work z (subst (λ (x : TermsView). KeepsTerms x c.expand_all.new.terms) c.let_work.ensures.same c.expand_all.ensures.keeps) c.in_ok-list.list.items (lemma.all_expand_moved c.args.symbols.now c.args.terms.now c.let_work.new.terms c.expand_all.new.terms c.args.expansion.now.assignments c.in_ok-work.work.given.values.items c.deref.result.now c.in_ok-list.list.items c.let_work.ensures.same c.deref.ensures.value c.in_ok-list.ensures.value) y c.expand.ensures.keeps
    (lemma.all_placed_moved s v c.let_work.new.terms z a g.values.items c.deref.result.now c.let_work.ensures.same c.deref.ensures.value c.in_ok-list.ensures.placed)
    (subst (λ (b : List Assigned). PlacesOne (both s z) y b c.in_ok-work.work.body) (c.in_ok-assign.ensures ∙ assigned_same c.deref-2.result.now c.in_ok-work.work.given.variables.items c.deref-3.result.now c.in_ok-list.list.items c.expand_all.new.expansion.assignments c.args.expansion.now.assignments c.deref-2.ensures.value c.deref-3.ensures.value c.in_ok-list.ensures.assignments) c.in_ok-body.ensures.placed)

pub expand_let-returns-clause-assignments : goal.expand_let-returns-clause-assignments
expand_let-returns-clause-assignments t c =
    outside_is_left c.deref-2.result.now c.deref-3.result.now c.expand_all.new.expansion.assignments c.expand.new.expansion.assignments c.take_back.new.assignments c.len-outside.result (c.in_ok-body.ensures.assignments ∙ c.in_ok-assign.ensures) c.len-outside.ensures
    c.in_ok-take_back.ensures
    ∙ c.in_ok-list.ensures.assignments
