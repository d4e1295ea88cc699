use Rattle.std.proofs.Common.{refl, sym}
use Rattle.std.proofs.lemmas.Bool.{OnTrue_at, OnFalse_at}
use Rattle.rules_simplify.specs.Tables.{rows_of}
use Rattle.rules_simplify.proofs.ChainLemmas.{first_is_any}
use Rattle.rules_simplify.proofs.StepLemmas.{next_term, step_is, ends_here, part_settled, part_refers, next_sorted, over_at, over_missing, negation_settled, negation_at, negation_ends, conjoins_to}
use Rattle.rules_simplify.proofs.rewrites.advance.Goals as goal

pub returns-in-Ends-clause-step : goal.returns-in-Ends-clause-step
returns-in-Ends-clause-step c t is = ends_here c.args.symbols.now c.args.terms.now (rows_of c.args.table) c.args.fit.now t is c.in-Ends.is

pub returns-in_default-clause-step : goal.returns-in_default-clause-step
returns-in_default-clause-step c t is =
    absurd (part_settled c.args.symbols.now c.args.terms.now (rows_of c.args.table) c.args.fit.now t is c.in-Part.letter c.in-Part.is (sym c.in_default.ensures))

pub open-requires : goal.open-requires
open-requires c =
    let some = c.requires in
    record {
      means = next_term c.args.symbols.now c.args.terms.now (rows_of c.args.table) c.args.fit.now some.means some.is;
      refers = part_refers c.args.symbols.now c.args.terms.now (rows_of c.args.table) c.args.fit.now some.means some.is c.in-Part.letter c.in-Some.r c.in-Part.is (sym c.in-Some.ensures);
      sorted = next_sorted c.args.symbols.now c.args.terms.now c.args.table c.args.fit.now some.means some.is;
    }

pub returns-in_ok-goes-in-Part-clause-step : goal.returns-in_ok-goes-in-Part-clause-step
returns-in_ok-goes-in-Part-clause-step c t is =
    let rows = rows_of c.args.table in
    let next = next_term c.args.symbols.now c.args.terms.now rows c.args.fit.now t is in
    let refers = part_refers c.args.symbols.now c.args.terms.now rows c.args.fit.now t is c.in-Part.letter c.in-Some.r c.in-Part.is (sym c.in-Some.ensures) in
    step_is c.args.symbols.now c.args.terms.now rows _ next c.in_ok-goes-in-Part.goes c.step_of.result c.step_of.ensures
    (λ e. OnTrue_at e c.in_ok-goes-in-Part.ensures.open next refers)
    (λ e u first. OnFalse_at e c.in_ok-goes-in-Part.ensures.other next refers (first_is_any rows next u first))

pub returns-in_ok-goes-in-Over-clause-step : goal.returns-in_ok-goes-in-Over-clause-step
returns-in_ok-goes-in-Over-clause-step c t is =
    let rows = rows_of c.args.table in
    step_is c.args.symbols.now c.args.terms.now rows _ (next_term c.args.symbols.now c.args.terms.now rows c.args.fit.now t is) c.in_ok-goes-in-Over.goes c.step_of-in-Over.result c.step_of-in-Over.ensures
    (λ e. over_at c.args.symbols.now c.args.terms.now rows c.args.fit.now t is c.in-Over.op _ _ c.in-Over.is refl (next_sorted c.args.symbols.now c.args.terms.now c.args.table c.args.fit.now t is) (OnTrue_at e c.in_ok-goes-in-Over.ensures.loaded))
    (λ e u first. absurd (over_missing c.args.symbols.now c.args.terms.now rows c.args.fit.now t is c.in-Over.op _ c.in-Over.is (OnFalse_at e c.in_ok-goes-in-Over.ensures.other)))

pub over_negation-requires : goal.over_negation-requires
over_negation-requires c = negation_settled c.args.symbols.now c.args.terms.now (rows_of c.args.table) c.args.fit.now c.requires.means c.requires.is c.in-OverNegation.is

pub returns-in_ok-goes-in-OverNegation-clause-step : goal.returns-in_ok-goes-in-OverNegation-clause-step
returns-in_ok-goes-in-OverNegation-clause-step c t is =
    let rows = rows_of c.args.table in
    step_is c.args.symbols.now c.args.terms.now rows _ (next_term c.args.symbols.now c.args.terms.now rows c.args.fit.now t is) c.in_ok-goes-in-OverNegation.goes c.step_of-in-OverNegation.result
    c.step_of-in-OverNegation.ensures
    (λ e. negation_at c.args.symbols.now c.args.terms.now rows c.args.fit.now t is _ c.in-OverNegation.is
    (next_sorted c.args.symbols.now c.args.terms.now c.args.table c.args.fit.now t is) (OnTrue_at e c.in_ok-goes-in-OverNegation.ensures.next))
    (λ e. negation_ends c.args.symbols.now c.args.terms.now rows c.args.fit.now t is c.in-OverNegation.is (OnFalse_at e c.in_ok-goes-in-OverNegation.ensures.ends))

pub returns-in-Conjoins-clause-step : goal.returns-in-Conjoins-clause-step
returns-in-Conjoins-clause-step c t is =
    conjoins_to c.args.symbols.now c.args.terms.now (rows_of c.args.table) c.args.fit.now t is _ c.conjoining.result c.in-Conjoins.is c.conjoining.ensures
