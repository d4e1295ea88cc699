-- The walk for the leaves of free variables.
use Rattle.std.proofs.Common.{◌≡◌, ◌∙◌, ◌≤◌, ◌-◌, [], ℕ, Contains, sym, subst, arith}
use Rattle.std.proofs.lemmas.Result.{on_ok_weaker}
use Rattle.term_model.specs.FreeVariables.{IsFree}
use Rattle.term_model.specs.Terms.{Term}
use Rattle.term_pool.specs.Reading.{arguments_of}
use Rattle.term_pool.specs.Views.{RefersTo}
use Rattle.term_pool.proofs.Keeping.{same_terms}
use Rattle.term_names.specs.Standing.{IsScript}
use Rattle.term_expansion.specs.Free.{AddsLeaves, AddsOne, AddsUnbound}
use Rattle.term_expansion.specs.Heights.{IsAtMost}
use Rattle.term_names.specs.FreeParts.{CoversFree, AreBodies}
use Rattle.term_expansion.proofs.Heights.{all_low_moved}
use Rattle.term_expansion.proofs.LeafLemmas as leaf
use Rattle.term_names.specs.Scope.{known_in}
use Rattle.term_names.proofs.Gathering as lemma
use Rattle.term_names.proofs.free.+gather.Goals as goal
use Rattle.term_expansion.specs.SymbolsAndTerms.{both}

pub gather-returns-then-has-clause-adds : goal.gather-returns-then-has-clause-adds
gather-returns-then-has-clause-adds t c =
    λ u refers.
    lemma.covers-adds c.args.tables.now.symbols.now c.args.terms.now c.args.region.now.seen.keys c.args.region.now.found.keys c.args.r c.requires.covers
    (subst (Contains c.args.region.now.seen.keys) c.number.ensures.number (c.has.ensures.0 c.if-has.true)) u refers

pub gather-returns-in-Some-clause-adds : goal.gather-returns-in-Some-clause-adds
gather-returns-in-Some-clause-adds t c =
    on_ok_weaker c.add.result
    (λ one u refers.
    lemma.kept-adds c.args.tables.now.symbols.now c.in-Some.leaves.now c.args.region.now.found.keys c.add_all.new.found.keys u (c.in-Some.ensures u refers) c.in_ok-add_all.ensures)
    c.add.ensures

pub gather-returns-in-Some-clause-covers : goal.gather-returns-in-Some-clause-covers
gather-returns-in-Some-clause-covers t c =
    let s = c.args.tables.now.symbols.now in
    let v = c.args.terms.now in
    let old = c.args.region.now.seen.keys in
    let found = c.args.region.now.found.keys in
    let new = c.add_all.new.found.keys in
    on_ok_weaker c.add.result
    (λ one.
    lemma.covers-more s v old c.add.new.set.keys found new c.args.r
    (λ u refers. lemma.kept-adds s c.in-Some.leaves.now found new u (c.in-Some.ensures u refers) c.in_ok-add_all.ensures)
    (subst (AddsOne old c.add.new.set.keys) c.number-in-Some.ensures.number one) (lemma.covers-kept s v old found new c.in_ok-add_all.ensures.kept c.requires.covers))
    c.add.ensures

pub gather-gather_let-requires : goal.gather-gather_let-requires
gather-gather_let-requires t c =
    let s = c.args.tables.now.symbols.now in
    let v = c.args.terms.now in
    let w = c.head.new.self in
    let first : w ≡ v = same_terms v w c.head.ensures.keeps c.head.ensures.unchanged in
    (omega arith, (c.requires.table, (subst (λ z. IsAtMost (both s z) c.args.most c.args.r) (sym first) c.requires.low, (λ u refers. c.in_default-head.ensures.let_term s u c.requires.table (subst (λ z. RefersTo s z c.args.r u) first refers), (subst (λ z. AreBodies (both s z) c.args.bodies.now) (sym first) c.requires.bodies, (subst (λ z. CoversFree (both s z) c.args.region.now.seen.keys c.args.region.now.found.keys) (sym first) c.requires.covers, (c.requires.script.0, subst (λ z. IsScript (both s z) (known_in c.args.tables.now.settings.now c.args.tables.now.names.now) c.requires.script.0) (sym first) c.requires.script.1)))))))

pub gather-returns-in_default-head-clause-covers : goal.gather-returns-in_default-head-clause-covers
gather-returns-in_default-head-clause-covers t c =
    let s = c.args.tables.now.symbols.now in
    let v = c.args.terms.now in
    let w = c.head.new.self in
    let first : w ≡ v = same_terms v w c.head.ensures.keeps c.head.ensures.unchanged in
    let old = c.gather_let.new.region.seen.keys in
    let found = c.gather_let.new.region.found.keys in
    on_ok_weaker c.add-in_default-head.result
    (λ one.
    lemma.covers-more s v old c.add-in_default-head.new.set.keys c.args.region.now.found.keys found c.args.r
    (λ u refers. c.in_ok-gather_let.ensures.adds u (subst (λ z. RefersTo s z c.args.r u) (sym first) refers))
    (subst (AddsOne old c.add-in_default-head.new.set.keys) c.number-in_default-head.ensures.number one) (subst (λ z. CoversFree (both s z) old found) first c.in_ok-gather_let.ensures.covers))
    c.add-in_default-head.ensures

pub gather-is_variable-requires : goal.gather-is_variable-requires
gather-is_variable-requires t c =
    let low = c.requires.low in
    leaf.head_within c.args.tables.now.symbols.now c.in-Some-head.head (arguments_of low.means) low.means (c.in-Some-head.ensures.application c.args.tables.now.symbols.now low.means c.requires.table low.refers)

pub gather-returns-then-is_variable-clause-adds : goal.gather-returns-then-is_variable-clause-adds
gather-returns-then-is_variable-clause-adds t c =
    let is = c.is_variable.ensures.yes c.if-is_variable.true in
    on_ok_weaker c.add-then-is_variable.result
    (λ one u refers.
    lemma.variable-adds c.args.tables.now.symbols.now c.in-Some-head.head is.0 (arguments_of u) u c.args.region.now.found.keys c.add-then-is_variable.new.set.keys is.1 one (c.in-Some-head.ensures.application c.args.tables.now.symbols.now u c.requires.table refers))
    c.add-then-is_variable.ensures

pub gather-returns-then-is_variable-clause-covers : goal.gather-returns-then-is_variable-clause-covers
gather-returns-then-is_variable-clause-covers t c =
    on_ok_weaker c.add-then-is_variable.result
    (λ one. lemma.covers-kept c.args.tables.now.symbols.now c.args.terms.now c.args.region.now.seen.keys c.args.region.now.found.keys c.add-then-is_variable.new.set.keys one.kept c.requires.covers)
    c.add-then-is_variable.ensures

pub gather-overflow_sub-most : goal.gather-overflow_sub-most
gather-overflow_sub-most t c = c.parts_are_lower.ensures.some c.args.tables.now.symbols.now c.args.terms.now c.args.most c.args.r c.requires.low

pub gather-gather_all-requires : goal.gather-gather_all-requires
gather-gather_all-requires t c =
    let s = c.args.tables.now.symbols.now in
    let v = c.args.terms.now in
    let w = c.head.new.self in
    let some : 1 ≤ c.args.most = c.parts_are_lower.ensures.some s v c.args.most c.args.r c.requires.low in
    let first : w ≡ v = same_terms v w c.head.ensures.keeps c.head.ensures.unchanged in
    let same = c.arguments_of.ensures.same in
    let no_let = λ (u : Term) (refers : RefersTo s w c.args.r u). leaf.application-no_let s c.in-Some-head.head (arguments_of u) u (c.in-Some-head.ensures.application s u c.requires.table (subst (λ z. RefersTo s z c.args.r u) first refers)) in
    let low = c.parts_are_lower.ensures.arguments s w c.args.most c.args.r c.in_ok-list.list.items (subst (λ z. IsAtMost (both s z) c.args.most c.args.r) (sym first) c.requires.low) (λ u refers. c.in_ok-list.ensures.arguments s u refers (no_let u refers)) in
    (omega arith, (c.requires.table, (all_low_moved s w c.arguments_of.new.terms (c.args.most - 1) c.in_ok-list.list.items c.deref.result.now same c.deref.ensures.value low, (subst (λ z. AreBodies (both s z) c.args.bodies.now) (sym (same ∙ first)) c.requires.bodies, (subst (λ z. CoversFree (both s z) c.args.region.now.seen.keys c.args.region.now.found.keys) (sym (same ∙ first)) c.requires.covers, (c.requires.script.0, subst (λ z. IsScript (both s z) (known_in c.args.tables.now.settings.now c.args.tables.now.names.now) c.requires.script.0) (sym (same ∙ first)) c.requires.script.1))))))

-- what the arguments have
adds : (t : ℕ) (c : goal.gather-After-drop-list-2 t) → (u : Term) → RefersTo c.args.tables.now.symbols.now c.args.terms.now c.args.r u → AddsLeaves c.args.tables.now.symbols.now c.args.region.now.found.keys c.gather_all.new.region.found.keys (λ x. IsFree x u)
adds t c =
    let s = c.args.tables.now.symbols.now in
    let v = c.args.terms.now in
    let w = c.head.new.self in
    let first : w ≡ v = same_terms v w c.head.ensures.keeps c.head.ensures.unchanged in
    λ u refers.
    let app = c.in-Some-head.ensures.application s u c.requires.table refers in
    lemma.application-adds s c.in-Some-head.head (arguments_of u) u c.args.region.now.found.keys c.gather_all.new.region.found.keys (c.is_variable.ensures.no c.if-is_variable.false) app
    (c.in_ok-gather_all.ensures.adds (arguments_of u) (leaf.refer_at s w c.arguments_of.new.terms c.in_ok-list.list.items c.deref.result.now (arguments_of u) c.arguments_of.ensures.same c.deref.ensures.value
    (c.in_ok-list.ensures.arguments s u (subst (λ z. RefersTo s z c.args.r u) (sym first) refers) (leaf.application-no_let s c.in-Some-head.head (arguments_of u) u app))))

pub gather-returns-clause-adds : goal.gather-returns-clause-adds
gather-returns-clause-adds t c = on_ok_weaker c.add-2.result (λ one. adds t c) c.add-2.ensures

pub gather-returns-clause-covers : goal.gather-returns-clause-covers
gather-returns-clause-covers t c =
    let s = c.args.tables.now.symbols.now in
    let v = c.args.terms.now in
    let w = c.head.new.self in
    let first : c.arguments_of.new.terms ≡ v = c.arguments_of.ensures.same ∙ same_terms v w c.head.ensures.keeps c.head.ensures.unchanged in
    let old = c.gather_all.new.region.seen.keys in
    let found = c.gather_all.new.region.found.keys in
    on_ok_weaker c.add-2.result
    (λ one.
    lemma.covers-more s v old c.add-2.new.set.keys c.args.region.now.found.keys found c.args.r (adds t c)
    (subst (AddsOne old c.add-2.new.set.keys) c.number-2.ensures.number one) (subst (λ z. CoversFree (both s z) old found) first c.in_ok-gather_all.ensures.covers))
    c.add-2.ensures

pub gather_all-terms-preserved : goal.gather_all-terms-preserved
gather_all-terms-preserved t c =
    lemma.passed-more c.args.tables.now.symbols.now c.args.terms.now c.terms.terms c.gather.new.terms c.args.list.now c.terms.at c.index-list-at.result c.args.region.now.found.keys c.terms.region.seen.keys c.terms.region.found.keys
    c.gather.new.region.seen.keys c.gather.new.region.found.keys c.terms.bodies c.gather.new.bodies
    c.terms.invariant c.terms-test.true c.index-list-at.is c.gather.ensures.same c.in_ok-gather.ensures.adds c.in_ok-gather.ensures.covers c.in_ok-gather.ensures.bodies

pub gather_let-returns-in-Some-clause-adds : goal.gather_let-returns-in-Some-clause-adds
gather_let-returns-in-Some-clause-adds t c =
    on_ok_weaker c.add_all.result
    (λ adds u refers.
    lemma.kept-adds c.args.tables.now.symbols.now c.in-Some.leaves.now.items c.args.region.now.found.keys c.add_all.new.found.keys u
    (c.requires.bodies.each c.number.result c.in-Some.leaves.now (sym c.in-Some.ensures.value) u (subst (λ r. RefersTo c.args.tables.now.symbols.now c.args.terms.now r u) (sym c.number.ensures.number) refers))
    (subst (λ ks. AddsUnbound ks [] c.args.region.now.found.keys c.add_all.new.found.keys) c.deref.ensures.value adds))
    c.add_all.ensures

pub gather_let-returns-in-Some-clause-covers : goal.gather_let-returns-in-Some-clause-covers
gather_let-returns-in-Some-clause-covers t c =
    on_ok_weaker c.add_all.result
    (λ adds. lemma.covers-kept c.args.tables.now.symbols.now c.args.terms.now c.args.region.now.seen.keys c.args.region.now.found.keys c.add_all.new.found.keys adds.kept c.requires.covers)
    c.add_all.ensures

pub gather_let-let_parts-requires : goal.gather_let-let_parts-requires
gather_let-let_parts-requires t c = lemma.let_there c.args.tables.now.symbols.now c.args.terms.now c.args.most c.args.r c.requires.low c.requires.is_let

pub gather_let-overflow_sub-most : goal.gather_let-overflow_sub-most
gather_let-overflow_sub-most t c = c.parts_are_lower.ensures.some c.args.tables.now.symbols.now c.args.terms.now c.args.most c.args.r c.requires.low

pub gather_let-overflow_sub-most-2 : goal.gather_let-overflow_sub-most-2
gather_let-overflow_sub-most-2 t c = c.parts_are_lower.ensures.some c.args.tables.now.symbols.now c.args.terms.now c.args.most c.args.r c.requires.low

pub gather_let-gather_all-requires : goal.gather_let-gather_all-requires
gather_let-gather_all-requires t c =
    let s = c.args.tables.now.symbols.now in
    let v = c.args.terms.now in
    let some : 1 ≤ c.args.most = c.parts_are_lower.ensures.some s v c.args.most c.args.r c.requires.low in
    let same = c.let_parts.ensures.same in
    let p = c.in_ok-parts.parts in
    let low = c.parts_are_lower.ensures.values s v c.args.most c.args.r p.variables.items p.values.items c.requires.low c.requires.is_let (λ bs u refers. c.in_ok-parts.ensures.bindings s bs u refers) in (
      omega arith,
      (
        c.requires.table,
        (
          all_low_moved s v c.let_parts.new.terms (c.args.most - 1) p.values.items c.deref-2.result.now same c.deref-2.ensures.value low,
          (subst (λ z. AreBodies (both s z) c.args.bodies.now) (sym same) c.requires.bodies, (subst (λ z. CoversFree (both s z) c.args.region.now.seen.keys c.args.region.now.found.keys) (sym same) c.requires.covers, (c.requires.script.0, subst (λ z. IsScript (both s z) (known_in c.args.tables.now.settings.now c.args.tables.now.names.now) c.requires.script.0) (sym same) c.requires.script.1))),
        ),
      ),
    )

pub gather_let-leaves_of-requires : goal.gather_let-leaves_of-requires
gather_let-leaves_of-requires t c =
    let s = c.args.tables.now.symbols.now in
    let v = c.args.terms.now in
    let some : 1 ≤ c.args.most = c.parts_are_lower.ensures.some s v c.args.most c.args.r c.requires.low in
    let again = c.gather_all.ensures.same in
    let p = c.in_ok-parts.parts in
    let low = c.parts_are_lower.ensures.body s v c.args.most c.args.r p.body c.requires.low c.requires.is_let (λ bs u refers. c.in_ok-parts.ensures.body s bs u refers) in (
      omega arith,
      (
        c.requires.table,
        (subst (λ z. IsAtMost (both s z) (c.args.most - 1) p.body) (sym (again ∙ c.let_parts.ensures.same)) low, (subst (λ z. AreBodies (both s z) c.gather_all.new.bodies) (sym again) c.in_ok-gather_all.ensures.bodies, (c.requires.script.0, subst (λ z. IsScript (both s z) (known_in c.args.tables.now.settings.now c.args.tables.now.names.now) c.requires.script.0) (sym (again ∙ c.let_parts.ensures.same)) c.requires.script.1))),
      ),
    )

pub gather_let-returns-clause-adds : goal.gather_let-returns-clause-adds
gather_let-returns-clause-adds t c =
    let s = c.args.tables.now.symbols.now in
    let v = c.args.terms.now in
    let p = c.in_ok-parts.parts in
    let same : c.gather_all.new.terms ≡ v = c.gather_all.ensures.same ∙ c.let_parts.ensures.same in
    λ u refers.
    lemma.let-adds-unbound s v c.args.r p.variables.items p.values.items p.body c.in_ok-leaves.leaves.items c.args.region.now.found.keys c.gather_all.new.region.found.keys c.add_unbound-2.new.found.keys
    c.requires.table (λ bs w there. (c.in_ok-parts.ensures.bindings s bs w there, c.in_ok-parts.ensures.body s bs w there))
    (λ ts refer. c.in_ok-gather_all.ensures.adds ts (leaf.refer_at s v c.let_parts.new.terms p.values.items c.deref-2.result.now ts c.let_parts.ensures.same c.deref-2.ensures.value refer))
    (λ w there. c.in_ok-leaves.ensures.leaves w (subst (λ z. RefersTo s z p.body w) (sym same) there))
    (lemma.unbound_at _ _ _ _ _ _ c.deref-3.ensures.value c.deref-4.ensures.value c.in_ok-add_unbound.ensures) u (c.requires.is_let u refers) refers

pub gather_let-returns-clause-bodies : goal.gather_let-returns-clause-bodies
gather_let-returns-clause-bodies t c =
    let s = c.args.tables.now.symbols.now in
    let z = c.gather_all.new.terms in
    subst (λ z. AreBodies (both s z) c.insert.new.self) (c.gather_all.ensures.same ∙ c.let_parts.ensures.same)
    (lemma.bodies-more s z c.leaves_of.new.bodies c.insert.new.self c.number-3.result c.in_ok-leaves.leaves c.in_ok-insert.ensures.updates.0
    (λ u refers. c.in_ok-leaves.ensures.leaves u (subst (λ r. RefersTo s z r u) c.number-3.ensures.number refers)) c.in_ok-leaves.ensures.bodies)

pub gather_let-returns-clause-covers : goal.gather_let-returns-clause-covers
gather_let-returns-clause-covers t c =
    let s = c.args.tables.now.symbols.now in
    let seen = c.gather_all.new.region.seen.keys in
    let found = c.gather_all.new.region.found.keys in
    lemma.covers-kept s c.args.terms.now seen found c.add_unbound-2.new.found.keys c.in_ok-add_unbound.ensures.kept (subst (λ z. CoversFree (both s z) seen found) c.let_parts.ensures.same c.in_ok-gather_all.ensures.covers)

pub gather_let-returns-in-Some-get-clause-adds : goal.gather_let-returns-in-Some-get-clause-adds
gather_let-returns-in-Some-get-clause-adds t c =
    let s = c.args.tables.now.symbols.now in
    let v = c.args.terms.now in
    let p = c.in_ok-parts.parts in
    let leaves = c.in-Some-get.leaves.now in
    on_ok_weaker c.add_unbound.result
    (λ unbound u refers.
    lemma.let-adds-unbound s v c.args.r p.variables.items p.values.items p.body leaves.items c.args.region.now.found.keys c.gather_all.new.region.found.keys c.add_unbound.new.found.keys
    c.requires.table (λ bs w there. (c.in_ok-parts.ensures.bindings s bs w there, c.in_ok-parts.ensures.body s bs w there))
    (λ ts refer. c.in_ok-gather_all.ensures.adds ts (leaf.refer_at s v c.let_parts.new.terms p.values.items c.deref-2.result.now ts c.let_parts.ensures.same c.deref-2.ensures.value refer))
    (λ w there.
    c.in_ok-gather_all.ensures.bodies.each c.number-2.result leaves (sym c.in-Some-get.ensures.value) w
    (subst (λ r. RefersTo s c.let_parts.new.terms r w) (sym c.number-2.ensures.number) (subst (λ z. RefersTo s z p.body w) (sym c.let_parts.ensures.same) there)))
    (lemma.unbound_at _ _ _ _ _ _ c.deref-in-Some-get.ensures.value c.deref-in-Some-get-2.ensures.value unbound) u (c.requires.is_let u refers) refers)
    c.add_unbound.ensures

pub gather_let-returns-in-Some-get-clause-covers : goal.gather_let-returns-in-Some-get-clause-covers
gather_let-returns-in-Some-get-clause-covers t c =
    let s = c.args.tables.now.symbols.now in
    let seen = c.gather_all.new.region.seen.keys in
    let found = c.gather_all.new.region.found.keys in
    on_ok_weaker c.add_unbound.result
    (λ unbound. lemma.covers-kept s c.args.terms.now seen found c.add_unbound.new.found.keys unbound.kept (subst (λ z. CoversFree (both s z) seen found) c.let_parts.ensures.same c.in_ok-gather_all.ensures.covers))
    c.add_unbound.ensures
