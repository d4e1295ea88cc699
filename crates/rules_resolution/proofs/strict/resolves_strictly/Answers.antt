use Rattle.std.proofs.Common.{◌≡◌, ◌+◌, ◌∙◌, ap, map, sym, true≢false}
use Rattle.std.proofs.lemmas.List.{length-map}
use Rattle.clause_chain.proofs.Onwards.{all_as_many}
use Rattle.proof_store.specs.Meaning.{IsPivotOf}
use Rattle.term_model.proofs.Zips.{zip_length}
use Rattle.term_parts.proofs.JudgingLemmas.{truths_are_terms}
use Rattle.term_pool.specs.Views.{RefersTo}
use Rattle.rule_model.specs.Renaming.{KeepsAtomsApart}
use Rattle.rule_model.specs.Resolution.{sides_of}
use Rattle.rules_resolution.proofs.SignedTerms.{strictly_tells}
use Rattle.rules_resolution.proofs.strict.resolves_strictly.Goals as goal

pub load_clause-requires : goal.load_clause-requires
load_clause-requires c =
    rw c.in_ok-load_clauses.ensures.same (truths_are_terms c.args.step.clause.now c.requires.step.clause)

pub returns-clause-resolves : goal.returns-clause-resolves
returns-clause-resolves c j stands =
    let s = c.args.symbols.now in
    let v = c.args.terms.now in
    let loaded : c.load_clause.new.terms ≡ v = c.in_ok-load_clause.ensures.same ∙ c.in_ok-load_clauses.ensures.same in
    let same : c.load_pivots.new.terms ≡ v = c.in_ok-load_pivots.ensures.same ∙ loaded in
    let one : KeepsAtomsApart (RefersTo s v) = rw same at (c.equal_exactly_where_terms_are.ensures s c.leaves_differ.ensures.table) in
    let told = rw (c.deref.ensures.value, c.deref-2.ensures.value, c.deref-3.ensures.value) at c.in_ok-chain_ends_in.ensures in
    let carried =
    strictly_tells s v one c.args.step.premises.now c.args.pivots.now c.args.step.clause.now _ _ _ j.premises j.pivots j.clause
    c.in_ok-load_clauses.ensures.loaded (rw loaded at c.in_ok-load_pivots.ensures.loaded)
    (rw c.in_ok-load_clauses.ensures.same at c.in_ok-load_clause.ensures.loaded)
    stands.step.premises stands.pivots stands.step.clause in
    (λ yes. carried.0 (told.0 yes), λ h. told.1 (carried.1 h))

pub returns-then-count-pivots-clause-resolves : goal.returns-then-count-pivots-clause-resolves
returns-then-count-pivots-clause-resolves c j stands = (
  λ wrong. absurd (true≢false (sym wrong)),
  λ h.
      let premises = zip_length _ c.args.step.premises.now j.premises stands.step.premises in
      let pivots = zip_length (IsPivotOf c.args.symbols.now c.args.terms.now) c.args.pivots.now j.pivots stands.pivots in
      absurd (c.if-count-pivots.true
      (premises ∙ all_as_many (map sides_of j.pivots) j.premises j.clause h ∙ ap (λ n. n + 1) (length-map j.pivots sides_of ∙ sym pivots))),
)
