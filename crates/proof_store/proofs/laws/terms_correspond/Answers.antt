-- By the commands and the scopes in step.
use Rattle.std.proofs.Common.{[], None}
use Rattle.std.specs.List.{AllZip}
use Rattle.term_pool.specs.Views.{RefersTo}
use Rattle.rule_model.specs.Commands.{scopes}
use Rattle.rule_model.specs.Reading.{clause_of, pivots_of, pivots_at}
use Rattle.term_pool.specs.Bindings.{IsBindingOf}
use Rattle.proof_store.specs.Meaning.{IsPivotOf}
use Rattle.proof_store.proofs.MeaningLemmas.{IsEntryOf, IsScopeOf, zip_same, zip_related, entries_stand, scopes_stand, same_clause, same_pivots}
use Rattle.proof_store.proofs.PremiseLemmas.{pivots_are_terms}
use Rattle.proof_store.proofs.laws.terms_correspond.Goals as goal

pub returns-clause-clause : goal.returns-clause-clause
returns-clause-clause c s v refs proof i h = zip_related (IsEntryOf s v) (AllZip (RefersTo s v)) (λ e. clause_of e.command) (λ e. clause_of e.command) [] [] tt (same_clause s v) _ _ i (entries_stand s v refs proof h)

pub returns-clause-pivots : goal.returns-clause-pivots
returns-clause-pivots c s v refs proof i h = zip_related (IsEntryOf s v) (AllZip (IsPivotOf s v)) (λ e. pivots_of e.command) (λ e. pivots_of e.command) [] [] tt (same_pivots s v) _ _ i (entries_stand s v refs proof h)

pub returns-clause-pivot_terms : goal.returns-clause-pivot_terms
returns-clause-pivot_terms c s v refs proof i h =
    pivots_are_terms s v (pivots_at refs i) (pivots_at proof i) (returns-clause-pivots c s v refs proof i h)

pub returns-clause-bindings : goal.returns-clause-bindings
returns-clause-bindings c s v refs proof k h = zip_related (IsScopeOf s v) (AllZip (IsBindingOf s v)) (λ e. e.bindings) (λ e. e.bindings) [] [] tt (λ e f x. x.bindings) (scopes refs) (scopes proof) k (scopes_stand s v refs proof h)

pub returns-clause-parent : goal.returns-clause-parent
returns-clause-parent c s v refs proof k h = zip_same (IsScopeOf s v) (λ e. e.parent) (λ e. e.parent) None (λ e f x. x.parent) (scopes refs) (scopes proof) k (scopes_stand s v refs proof h)

pub returns-clause-last_inside : goal.returns-clause-last_inside
returns-clause-last_inside c s v refs proof k h = zip_same (IsScopeOf s v) (λ e. e.last) (λ e. e.last) None (λ e f x. x.last) (scopes refs) (scopes proof) k (scopes_stand s v refs proof h)
