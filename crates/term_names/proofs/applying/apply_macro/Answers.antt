use Rattle.std.proofs.Common.{◌∙◌, ap, length, map, zip, drop}
use Rattle.term_names.specs.Applying.{bounds_of}
use Rattle.term_names.proofs.MacroArguments.{sorts-differ, one-each, arguments-put, macro-made, macro-not-made}
use Rattle.term_names.specs.Faults.{fault_of}
use Rattle.term_names.proofs.Stops.{full_stops, stops_are_no_text}
use Rattle.term_names.proofs.MadeTerms.{handed_on}
use Rattle.term_names.proofs.applying.apply_macro.Goals as goal

pub returns-then-not-are_equal-clause-makes : goal.returns-then-not-are_equal-clause-makes
returns-then-not-are_equal-clause-makes c =
    λ d ts is values.
    sorts-differ _ c.args.terms.now c.args.defined.now d _ ts is values c.deref.result.now c.sorts_from.result.now c.deref.ensures.value c.sorts_from.ensures
    c.are_equal.result c.are_equal.ensures c.if-not-are_equal.true

pub arguments_for-requires-clause-one_each : goal.arguments_for-requires-clause-one_each
arguments_for-requires-clause-one_each c =
    let (d, ts, is, values) = c.requires.defined in
    ap length c.deref-2.ensures.value
    ∙ one-each _ c.args.terms.now c.args.defined.now d _ ts is values c.deref.result.now c.sorts_from.result.now c.deref.ensures.value c.sorts_from.ensures
    c.are_equal.result c.are_equal.ensures c.if-not-are_equal.false

pub put_in_plain-requires-clause-replacement : goal.put_in_plain-requires-clause-replacement
put_in_plain-requires-clause-replacement c =
    let (d, ts, is, values) = c.requires.defined in
    record {
      means = zip d.parameters (map (λ t. t.tree) ts);
      is = arguments-put _ c.args.terms.now c.args.defined.now d _ ts is values c.deref.result.now c.sorts_from.result.now c.deref.ensures.value c.sorts_from.ensures
          c.are_equal.result c.are_equal.ensures c.if-not-are_equal.false c.deref-3.result.now
          (c.deref-3.ensures.value ∙ c.in_ok-arguments.ensures ∙ ap (λ ks. bounds_of ks (drop c.args.from c.args.values.now)) c.deref-2.ensures.value);
    }

pub returns-in_err-term-clause-makes : goal.returns-in_err-term-clause-makes
returns-in_err-term-clause-makes c =
    λ d ts is values.
    macro-not-made _ c.args.terms.now c.args.defined.now d _ ts is values c.deref.result.now c.sorts_from.result.now c.deref.ensures.value c.sorts_from.ensures
    c.are_equal.result c.are_equal.ensures c.if-not-are_equal.false c.put_in_plain.new.terms c.deref-3.result.now
    (c.deref-3.ensures.value ∙ c.in_ok-arguments.ensures ∙ ap (λ ks. bounds_of ks (drop c.args.from c.args.values.now)) c.deref-2.ensures.value)
    c.put_in_plain.ensures.placed
    c.from_residual-in_err-term.result (fault_of c.in_err-term.field-0.0) (λ t q h k e. c.in_err-term.ensures.full t q h k (full_stops c.in_err-term.field-0.0 e)) (stops_are_no_text c.in_err-term.field-0.0)
    (handed_on c.from_residual-in_err-term.result (fault_of c.in_err-term.field-0.0) c.from_residual-in_err-term.ensures.1)

pub returns-clause-makes : goal.returns-clause-makes
returns-clause-makes c =
    λ d ts is values.
    macro-made _ c.args.terms.now c.args.defined.now d _ ts is values c.deref.result.now c.sorts_from.result.now c.deref.ensures.value c.sorts_from.ensures
    c.are_equal.result c.are_equal.ensures c.if-not-are_equal.false c.put_in_plain.new.terms c.deref-3.result.now
    (c.deref-3.ensures.value ∙ c.in_ok-arguments.ensures ∙ ap (λ ks. bounds_of ks (drop c.args.from c.args.values.now)) c.deref-2.ensures.value)
    c.put_in_plain.ensures.placed
    c.in_ok-term.term c.in_ok-term.ensures.value
