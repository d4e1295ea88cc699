use Rattle.std.proofs.Common.{IsTrue, false, refl, ◌∙◌, arith}
use Rattle.rules_subproof.proofs.Begins.{count, too_few, step, begins, fails, literal_is_term, below_next}
use Rattle.rules_subproof.proofs.Prefixes.{Matches}
use Rattle.rules_subproof.proofs.Zips.{zip_one}
use Rattle.rule_model.specs.Reading.{clause_at, discharged_at}
use Rattle.rules_subproof.proofs.negations.begins_with_negations.Goals as goal

not_true : IsTrue false → ⊥
not_true e = cc

pub returns-then-literals-discharged-clause-begins : goal.returns-then-literals-discharged-clause-begins
returns-then-literals-discharged-clause-begins c of stands = (
  λ e. absurd (not_true e),
  λ prefix. absurd (too_few c.args.symbols.now c.args.terms.now c.args.proof.now of c.args.i c.count-commands.ensures.well_formed
      (c.commands_correspond.ensures.discharged c.args.symbols.now c.args.terms.now c.args.proof.now of c.args.i stands)
      (λ j. c.terms_correspond.ensures.clause c.args.symbols.now c.args.terms.now c.args.proof.now of j stands)
      _ _ c.clause-literals.ensures c.discharged-discharged.ensures c.if-literals-discharged.true prefix),
)

pub returns-then-literals-discharged-clause-count : goal.returns-then-literals-discharged-clause-count
returns-then-literals-discharged-clause-count c of stands =
    count c.args.symbols.now c.args.terms.now c.args.proof.now of c.args.i c.count-commands.ensures.well_formed
    (c.commands_correspond.ensures.discharged c.args.symbols.now c.args.terms.now c.args.proof.now of c.args.i stands)
    (λ j. c.terms_correspond.ensures.clause c.args.symbols.now c.args.terms.now c.args.proof.now of j stands)

pub returns-then-not-is_negation-clause-count : goal.returns-then-not-is_negation-clause-count
returns-then-not-is_negation-clause-count c of stands =
    count c.args.symbols.now c.args.terms.now c.args.proof.now of c.args.i c.count-commands.ensures.well_formed
    (c.commands_correspond.ensures.discharged c.args.symbols.now c.args.terms.now c.args.proof.now of c.args.i stands)
    (λ j. c.terms_correspond.ensures.clause c.args.symbols.now c.args.terms.now c.args.proof.now of j stands)

pub returns-clause-count : goal.returns-clause-count
returns-clause-count c of stands =
    count c.args.symbols.now c.args.terms.now c.args.proof.now of c.args.i c.count-commands.ensures.well_formed
    (c.commands_correspond.ensures.discharged c.args.symbols.now c.args.terms.now c.args.proof.now of c.args.i stands)
    (λ j. c.terms_correspond.ensures.clause c.args.symbols.now c.args.terms.now c.args.proof.now of j stands)

pub is_negation-requires-clause-literal : goal.is_negation-requires-clause-literal
is_negation-requires-clause-literal c =
    rw c.discharged.invariant.0
    (literal_is_term c.args.symbols.now c.args.terms.now _ _ _ _ _ c.clause-literals.ensures
    (c.terms_correspond.ensures.clause c.args.symbols.now c.args.terms.now c.args.proof.now _ c.args.i c.requires.stand.stand)
    (let few = c.if-literals-discharged.false in let within = c.discharged-test.true in omega arith) c.index-literals-place.is)

pub is_negation-requires-clause-term : goal.is_negation-requires-clause-term
is_negation-requires-clause-term c =
    let of = c.requires.stand.proof in
    let zip = c.terms_correspond.ensures.clause c.args.symbols.now c.args.terms.now c.args.proof.now of _ c.requires.stand.stand in
    let one = zip_one c.args.symbols.now c.args.terms.now _ _ _ c.assumed_term-term.ensures zip in
    rw c.discharged.invariant.0 (record { means = one.0; refers = one.2 })

pub returns-then-not-is_negation-clause-begins : goal.returns-then-not-is_negation-clause-begins
returns-then-not-is_negation-clause-begins c of stands =
    let same = c.commands_correspond.ensures.discharged c.args.symbols.now c.args.terms.now c.args.proof.now of c.args.i stands in
    let here = step c.args.symbols.now c.args.terms.now c.args.proof.now of c.args.i c.count-commands.ensures.well_formed same
    (λ j. c.terms_correspond.ensures.clause c.args.symbols.now c.args.terms.now c.args.proof.now of j stands)
    _ _ _ _ _ _ c.clause-literals.ensures c.discharged-discharged.ensures c.discharged-test.true c.if-literals-discharged.false
    c.index-literals-place.is c.assumed_term-term.ensures (rw c.discharged.invariant.0 at c.is_negation.ensures.negation) in (
      λ e. absurd (not_true e),
      λ prefix. absurd (fails c.args.symbols.now c.args.terms.now c.args.proof.now of c.args.i c.count-commands.ensures.well_formed same
          (λ j. c.terms_correspond.ensures.clause c.args.symbols.now c.args.terms.now c.args.proof.now of j stands) _ _ c.discharged-discharged.ensures c.discharged-test.true
          (λ matches. not_true (rw c.if-not-is_negation.true at here.1 matches)) prefix),
    )

pub returns-clause-begins : goal.returns-clause-begins
returns-clause-begins c of stands = (
  λ e. begins c.args.symbols.now c.args.terms.now c.args.proof.now of c.args.i c.count-commands.ensures.well_formed
      (c.commands_correspond.ensures.discharged c.args.symbols.now c.args.terms.now c.args.proof.now of c.args.i stands)
      (λ j. c.terms_correspond.ensures.clause c.args.symbols.now c.args.terms.now c.args.proof.now of j stands)
      _ _ c.clause-literals.ensures c.discharged-discharged.ensures c.if-literals-discharged.false
      (λ k below. c.discharged.invariant.1 of stands k (let over = c.discharged-test.false in omega arith)),
  λ prefix. refl,
)

pub discharged-preserved : goal.discharged-preserved
discharged-preserved c = (
  c.is_negation.ensures.same ∙ c.discharged.invariant.0,
  λ of stands k below.
      let same = c.commands_correspond.ensures.discharged c.args.symbols.now c.args.terms.now c.args.proof.now of c.args.i stands in
      let here = step c.args.symbols.now c.args.terms.now c.args.proof.now of c.args.i c.count-commands.ensures.well_formed same
      (λ j. c.terms_correspond.ensures.clause c.args.symbols.now c.args.terms.now c.args.proof.now of j stands)
      _ _ _ _ _ _ c.clause-literals.ensures c.discharged-discharged.ensures c.discharged-test.true c.if-literals-discharged.false
      c.index-literals-place.is c.assumed_term-term.ensures (rw c.discharged.invariant.0 at c.is_negation.ensures.negation) in
      below_next (Matches (clause_at of) (discharged_at of c.args.i) (clause_at of c.args.i)) c.discharged.place k (c.discharged.invariant.1 of stands) (here.0 c.if-not-is_negation.false) below,
)
