use Rattle.std.proofs.Common.{◌∙◌, sym, subst, Option, Some, Ok, Err}
use Rattle.std.proofs.lemmas.Result.{err_from_is_err_and}
use Rattle.term_names.specs.Faults.{fault_of}
use Rattle.term_names.specs.Making.{Makes}
use Rattle.problem_text.specs.TypedTerms.{Typed}
use Rattle.term_expansion.specs.Values.{IsReplacement}
use Rattle.term_names.proofs.Stops.{full_stops, stops_are_no_text}
use Rattle.term_names.proofs.NamedUses.{answers, named_stays, named_put_in, some_replacement, put_value, put_fault}
use Rattle.term_names.proofs.using.use_named.Goals as goal
use Rattle.term_expansion.specs.SymbolsAndTerms.{both}

pub returns-then-not-settings-clause-makes : goal.returns-then-not-settings-clause-makes
returns-then-not-settings-clause-makes c =
    λ p m scope lets meant.
    answers c.args.tables.now.symbols.now c.args.terms.now _ _
    (named_stays c.args.tables.now.symbols.now c.args.terms.now p c.args.named.now m (lets ∙ c.if-not-settings.true) meant)

pub put_in-requires-clause-replacement : goal.put_in-requires-clause-replacement
put_in-requires-clause-replacement c =
    let (p, m, scope, lets, meant) = c.requires.named in
    rw c.deref-2.ensures.value
    (some_replacement c.args.tables.now.symbols.now c.args.terms.now c.args.named.now.value c.in_ok-bounds.bounds.items _
    (named_put_in c.args.tables.now.symbols.now c.args.terms.now p c.args.named.now m c.in_ok-bounds.bounds.items (lets ∙ c.if-not-settings.false) meant
    (λ xs free bound. c.in_ok-bounds.ensures c.args.terms.now p xs scope (rw c.deref.ensures.value free) bound)))

pub returns-in_err-value-clause-makes : goal.returns-in_err-value-clause-makes
returns-in_err-value-clause-makes c =
    λ p m scope lets meant.
    let put =
    named_put_in c.args.tables.now.symbols.now c.args.terms.now p c.args.named.now m c.in_ok-bounds.bounds.items (lets ∙ c.if-not-settings.false) meant
    (λ xs free bound. c.in_ok-bounds.ensures c.args.terms.now p xs scope (rw c.deref.ensures.value free) bound)
    in
    let is : IsReplacement (both c.args.tables.now.symbols.now c.args.terms.now) c.deref-2.result.now put.means = rw c.deref-2.ensures.value put.is in
    let fault = err_from_is_err_and c.from_residual-in_err-value.result c.from_residual-in_err-value.ensures.1 in
    rw (fault.1, fault.2)
    (subst (λ (o : Option Typed). Makes c.args.terms.now (both c.args.tables.now.symbols.now c.put_in.new.terms) o (Err (fault_of c.in_err-value.field-0.0))) (sym put.made)
    (put_fault c.args.tables.now.symbols.now c.args.terms.now c.put_in.new.terms _ (fault_of c.in_err-value.field-0.0)
    (λ e. c.in_err-value.ensures.full put.term put.means put.is_value is (full_stops c.in_err-value.field-0.0 e)) (stops_are_no_text c.in_err-value.field-0.0)
    (c.in_err-value.ensures.placed put.term put.means put.is_value is)))

pub returns-clause-makes : goal.returns-clause-makes
returns-clause-makes c =
    λ p m scope lets meant.
    let put =
    named_put_in c.args.tables.now.symbols.now c.args.terms.now p c.args.named.now m c.in_ok-bounds.bounds.items (lets ∙ c.if-not-settings.false) meant
    (λ xs free bound. c.in_ok-bounds.ensures c.args.terms.now p xs scope (rw c.deref.ensures.value free) bound)
    in
    let is : IsReplacement (both c.args.tables.now.symbols.now c.args.terms.now) c.deref-2.result.now put.means = rw c.deref-2.ensures.value put.is in
    subst (λ (o : Option Typed). Makes c.args.terms.now (both c.args.tables.now.symbols.now c.put_in.new.terms) o (Ok (Some c.in_ok-value.value))) (sym put.made)
    (put_value c.args.tables.now.symbols.now c.args.terms.now c.put_in.new.terms _ c.in_ok-value.value (c.in_ok-value.ensures.value put.term put.means put.is_value is)
    (c.in_ok-value.ensures.placed put.term put.means put.is_value is))
