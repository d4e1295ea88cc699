use Rattle.std.proofs.Common.{◌≡◌, ◌↔◌, ◌∙◌, Some, map, IsTrue, false, sym, subst}
use Rattle.term_model.specs.FreeVariables.{bound_terms}
use Rattle.term_model.specs.Terms.{Var, Term}
use Rattle.rule_model.specs.Subproof.{AreLinkedTo}
use Rattle.rule_model.specs.Reading.{closes_at, premises_at, bindings_at}
use Rattle.rules_subproof.specs.Lets.{clauses_at}
use Rattle.rules_subproof.proofs.LetClosing.{no_assumes_too, at_scope, never_met, one_each, closing_equates, closing_binds, let_met}
use Rattle.rules_subproof.proofs.Premises.{premises_within}
use Rattle.rules_subproof.proofs.ScopePlaces.{scope_within}
use Rattle.rules_subproof.proofs.SideTables.{linked_are}
use Rattle.rules_subproof.proofs.lets.is_let.Goals as goal

not_true : IsTrue false → ⊥
not_true e = cc

pub returns-then-not-are_among-clause-met : goal.returns-then-not-are_among-clause-met
returns-then-not-are_among-clause-met c of scope closes stands =
    let refs = c.args.proof.now in
    let k = c.in-Some.scope in
    let laws = c.commands_correspond.ensures in
    let is : closes_at refs c.args.i ≡ Some k = sym c.closes.ensures ∙ c.in-Some.is in
    at_scope c.args.mode of c.args.i (closes_at refs c.args.i) k scope false is closes (never_met c.args.mode of c.args.i k
    (λ h. not_true (subst IsTrue c.if-not-are_among.true (c.are_among.ensures.1
    ((no_assumes_too refs of c.args.i k
    (λ j. laws.scope c.args.symbols.now c.args.terms.now refs of j stands)
    (λ j. laws.rule c.args.symbols.now c.args.terms.now refs of j stands)).1 h.no_assumes)))))

pub returns-in_default-let_sides-clause-met : goal.returns-in_default-let_sides-clause-met
returns-in_default-let_sides-clause-met c of scope closes stands =
    let k = c.in-Some.scope in
    let is : closes_at c.args.proof.now c.args.i ≡ Some k = sym c.closes.ensures ∙ c.in-Some.is in
    at_scope c.args.mode of c.args.i (closes_at c.args.proof.now c.args.i) k scope false is closes (never_met c.args.mode of c.args.i k
    (λ h. c.in_default-let_sides.ensures.none of h.bindings h.body h.result stands (closing_equates c.args.mode of c.args.i k h)))

pub bindings-anchor-requires : goal.bindings-anchor-requires
bindings-anchor-requires c = scope_within c.args.proof.now c.args.i c.in-Some.scope (sym c.closes.ensures ∙ c.in-Some.is)

pub returns-in_default-2-clause-met : goal.returns-in_default-2-clause-met
returns-in_default-2-clause-met c of scope closes stands =
    let k = c.in-Some.scope in
    let is : closes_at c.args.proof.now c.args.i ≡ Some k = sym c.closes.ensures ∙ c.in-Some.is in
    let found = c.in-Some-let_sides.ensures.found of stands in
    let zip = c.terms_correspond.ensures.bindings c.args.symbols.now c.args.terms.now c.args.proof.now of k stands in
    let none = rw (c.in_default-2.is, c.let_sides.ensures.same, c.bindings-anchor.ensures) at c.in_ok-values.ensures.none in
    at_scope c.args.mode of c.args.i (closes_at c.args.proof.now c.args.i) k scope false is closes (never_met c.args.mode of c.args.i k
    (λ h. none found.bindings found.body found.result (bindings_at of k) found.let_refers found.result_refers zip
    (closing_binds c.args.mode of c.args.i k found.bindings found.body found.result found.equates h)))

pub sides_of_premises-requires-clause-premises : goal.sides_of_premises-requires-clause-premises
sides_of_premises-requires-clause-premises c =
    premises_within c.args.proof.now c.args.i c.premises-premises.result.now c.premises-premises.ensures c.count-commands.ensures.well_formed c.requires.index

pub are_linked-requires : goal.are_linked-requires
are_linked-requires c =
    let of = c.requires.stand.proof in
    let k = c.in-Some.scope in
    let found = c.in-Some-let_sides.ensures.found of c.requires.stand.stand in
    let zip = c.terms_correspond.ensures.bindings c.args.symbols.now c.args.terms.now c.args.proof.now of k c.requires.stand.stand in
    let told = (rw (c.in-Some-2.is, c.let_sides.ensures.same, c.bindings-anchor.ensures) at c.in_ok-values.ensures.values)
    found.bindings found.body found.result (bindings_at of k) found.let_refers found.result_refers zip in
    record {
      one_each = rw (c.deref.ensures.value, c.bindings-anchor.ensures)
          (one_each c.args.symbols.now c.args.terms.now (bindings_at c.args.proof.now k) (bindings_at of k) c.in-Some-2.values.items found.bindings zip told.1 told.0.variables);
    }

pub returns-in-Check-clause-met : goal.returns-in-Check-clause-met
returns-in-Check-clause-met c of scope closes stands =
    let s = c.args.symbols.now in
    let v = c.args.terms.now in
    let refs = c.args.proof.now in
    let i = c.args.i in
    let k = c.in-Some.scope in
    let laws = c.commands_correspond.ensures in
    let is : closes_at refs i ≡ Some k = sym c.closes.ensures ∙ c.in-Some.is in
    let found = c.in-Some-let_sides.ensures.found of stands in
    let zip = c.terms_correspond.ensures.bindings s v refs of k stands in
    let told = (rw (c.in-Some-2.is, c.let_sides.ensures.same, c.bindings-anchor.ensures) at c.in_ok-values.ensures.values)
    found.bindings found.body found.result (bindings_at of k) found.let_refers found.result_refers zip in
    let none = (no_assumes_too refs of i k (λ j. laws.scope s v refs of j stands) (λ j. laws.rule s v refs of j stands)).0 (c.are_among.ensures.0 c.if-not-are_among.false) in
    let table = (rw (c.let_values.ensures.same, c.let_sides.ensures.same, c.premises-premises.ensures, laws.premises s v refs of i stands) at c.in_ok-table-in-Check.ensures.told) of stands in
    let linked = linked_are s v (λ p q a b g h. c.equal_exactly_where_terms_are.ensures s c.leaves_differ.ensures.table p q a b g h)
    c.in_ok-table-in-Check.table.keys (clauses_at of (premises_at of i)) table c.in-Some-2.values.items (bindings_at refs k) (bound_terms found.bindings) (bindings_at of k) told.1 zip in
    let yes = rw (c.deref.ensures.value, c.bindings-anchor.ensures) at c.are_linked.ensures in
    at_scope c.args.mode of i (closes_at refs i) k scope c.are_linked.result is closes
    (let_met c.args.mode of i k found.bindings found.body found.result found.equates none told.0 c.are_linked.result
    (subst (λ mode. IsTrue c.are_linked.result ↔ AreLinkedTo mode (clauses_at of (premises_at of i)) (bound_terms found.bindings) (map (λ (b : Var × Term). b.1) (bindings_at of k))) (sym c.in-Check.is)
    (λ e. linked.0 (yes.0 e), λ h. yes.1 (linked.1 h))))

pub are_differences-requires-clause-premises : goal.are_differences-requires-clause-premises
are_differences-requires-clause-premises c =
    premises_within c.args.proof.now c.args.i c.premises-premises.result.now c.premises-premises.ensures c.count-commands.ensures.well_formed c.requires.index

pub are_differences-requires-clause-one_each : goal.are_differences-requires-clause-one_each
are_differences-requires-clause-one_each c =
    let of = c.requires.stand.proof in
    let k = c.in-Some.scope in
    let found = c.in-Some-let_sides.ensures.found of c.requires.stand.stand in
    let zip = c.terms_correspond.ensures.bindings c.args.symbols.now c.args.terms.now c.args.proof.now of k c.requires.stand.stand in
    let told = (rw (c.in-Some-2.is, c.let_sides.ensures.same, c.bindings-anchor.ensures) at c.in_ok-values.ensures.values)
    found.bindings found.body found.result (bindings_at of k) found.let_refers found.result_refers zip in
    rw (c.deref-in-Strict.ensures.value, c.bindings-anchor.ensures)
    (one_each c.args.symbols.now c.args.terms.now (bindings_at c.args.proof.now k) (bindings_at of k) c.in-Some-2.values.items found.bindings zip told.1 told.0.variables)

pub returns-clause-met : goal.returns-clause-met
returns-clause-met c of scope closes stands =
    let s = c.args.symbols.now in
    let v = c.args.terms.now in
    let refs = c.args.proof.now in
    let i = c.args.i in
    let k = c.in-Some.scope in
    let laws = c.commands_correspond.ensures in
    let is : closes_at refs i ≡ Some k = sym c.closes.ensures ∙ c.in-Some.is in
    let found = c.in-Some-let_sides.ensures.found of stands in
    let zip = c.terms_correspond.ensures.bindings s v refs of k stands in
    let told = (rw (c.in-Some-2.is, c.let_sides.ensures.same, c.bindings-anchor.ensures) at c.in_ok-values.ensures.values)
    found.bindings found.body found.result (bindings_at of k) found.let_refers found.result_refers zip in
    let none = (no_assumes_too refs of i k (λ j. laws.scope s v refs of j stands) (λ j. laws.rule s v refs of j stands)).0 (c.are_among.ensures.0 c.if-not-are_among.false) in
    let linked = (rw (c.let_values.ensures.same, c.let_sides.ensures.same, c.deref-in-Strict.ensures.value, c.bindings-anchor.ensures, c.premises-premises.ensures, laws.premises s v refs of i stands) at c.are_differences.ensures.linked)
    of (bound_terms found.bindings) (bindings_at of k) stands told.1 zip in
    at_scope c.args.mode of i (closes_at refs i) k scope c.are_differences.result is closes
    (let_met c.args.mode of i k found.bindings found.body found.result found.equates none told.0 c.are_differences.result
    (subst (λ mode. IsTrue c.are_differences.result ↔ AreLinkedTo mode (clauses_at of (premises_at of i)) (bound_terms found.bindings) (map (λ (b : Var × Term). b.1) (bindings_at of k))) (sym c.in-Strict.is) linked))
