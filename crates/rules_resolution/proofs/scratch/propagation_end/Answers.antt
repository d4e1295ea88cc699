use Rattle.std.proofs.Common.{◌≡◌, ◌∙◌}
use Rattle.std.proofs.lemmas.Result.{IfOk-weaker}
use Rattle.term_pool.specs.Views.{RefersTo}
use Rattle.rule_model.specs.Renaming.{KeepsAtomsApart}
use Rattle.rules_resolution.proofs.TermAnswers.{end_of_terms}
use Rattle.rules_resolution.proofs.TermLiterals.{short_clauses}
use Rattle.rules_resolution.proofs.scratch.propagation_end.Goals as goal

pub decide-requires-clause-literals : goal.decide-requires-clause-literals
decide-requires-clause-literals c =
    rw c.deref_mut.ensures.value
    (short_clauses c.args.symbols.now c.args.terms.now 4294967296 c.args.premises.now _ c.requires.short.short c.in_ok-load_clauses.ensures.loaded)

pub returns-clause-end : goal.returns-clause-end
returns-clause-end c =
    let s = c.args.symbols.now in
    let v = c.args.terms.now in
    let same : c.load_clause.new.terms ≡ v = c.in_ok-load_clause.ensures.same ∙ c.in_ok-load_clauses.ensures.same in
    let one : KeepsAtomsApart (RefersTo s v) = rw same at (c.equal_exactly_where_terms_are.ensures s c.leaves_differ.ensures.table) in
    IfOk-weaker c.decide.result _ _
    (end_of_terms s v c.args.premises.now c.args.clause.now _ one _ _ c.in_ok-load_clauses.ensures.loaded
    (rw c.in_ok-load_clauses.ensures.same at c.in_ok-load_clause.ensures.loaded))
    (rw (c.deref_mut.ensures.value, c.deref_mut-2.ensures.value) at c.decide.ensures)
