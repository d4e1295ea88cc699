-- What the entry of a name is found to be is what the name means.
use Rattle.std.proofs.Common.{sym, ap, subst, Option, Some, ◌∙◌}
use Rattle.term_names.specs.Standing.{IsNameMeant}
use Rattle.term_names.specs.declared.names.KnownEntry.{KnownEntry}
use Rattle.term_names.specs.Scope.{known_in}
use Rattle.term_names.proofs.Meant.{function_outside, reserved_outside, macro_outside, bound_outside, unbound_outside}
use Rattle.term_names.proofs.looking_up.found_of.Goals as goal
use Rattle.term_expansion.specs.SymbolsAndTerms.{both}

pub returns-in-Function : goal.returns-in-Function
returns-in-Function c =
    λ v sc p name script scope here no_operator.
    let s = c.args.tables.now.symbols.now in
    let k = (known_in c.args.tables.now.settings.now c.args.tables.now.names.now) in
    function_outside s v k sc p name c.in-Function.leaf
    (subst (λ (o : Option KnownEntry). IsNameMeant (both s v) k sc name o) (here ∙ ap Some c.in-Function.is) (script.names name))

pub returns-in-Reserved : goal.returns-in-Reserved
returns-in-Reserved c =
    λ v sc p name script scope here no_operator.
    let s = c.args.tables.now.symbols.now in
    let k = (known_in c.args.tables.now.settings.now c.args.tables.now.names.now) in
    reserved_outside s v k sc p name no_operator
    (subst (λ (o : Option KnownEntry). IsNameMeant (both s v) k sc name o) (here ∙ ap Some c.in-Reserved.is) (script.names name))

pub returns-in-Macro : goal.returns-in-Macro
returns-in-Macro c =
    λ v sc p name script scope here no_operator.
    let s = c.args.tables.now.symbols.now in
    let k = (known_in c.args.tables.now.settings.now c.args.tables.now.names.now) in
    macro_outside s v k sc p name c.in-Macro.which
    (subst (λ (o : Option KnownEntry). IsNameMeant (both s v) k sc name o) (here ∙ ap Some c.in-Macro.is) (script.names name))

pub returns-then-are_bound : goal.returns-then-are_bound
returns-then-are_bound c =
    λ v sc p name script scope here no_operator.
    let s = c.args.tables.now.symbols.now in
    let k = (known_in c.args.tables.now.settings.now c.args.tables.now.names.now) in
    bound_outside s v k sc p name c.in-Named.which c.named_at-named.result.now c.named_at-named.ensures
    (subst (λ (o : Option KnownEntry). IsNameMeant (both s v) k sc name o) (here ∙ ap Some c.in-Named.is) (script.names name))
    (λ xs free. sym c.if-are_bound.true ∙ c.are_bound.ensures v p xs scope (rw c.deref.ensures.value free))

pub returns-else-are_bound : goal.returns-else-are_bound
returns-else-are_bound c =
    λ v sc p name script scope here no_operator.
    let s = c.args.tables.now.symbols.now in
    let k = (known_in c.args.tables.now.settings.now c.args.tables.now.names.now) in
    unbound_outside s v k sc p name c.in-Named.which c.named_at-named.result.now c.named_at-named.ensures no_operator
    (subst (λ (o : Option KnownEntry). IsNameMeant (both s v) k sc name o) (here ∙ ap Some c.in-Named.is) (script.names name))
    (λ xs free. sym c.if-are_bound.false ∙ c.are_bound.ensures v p xs scope (rw c.deref.ensures.value free))
