-- What a name is found to be is what it means.
use Rattle.std.proofs.Common.{◌∙◌, ap, sym, subst, Option, Some}
use Rattle.term_names.specs.Standing.{IsNameMeant}
use Rattle.term_names.specs.declared.looking_up.Found.{Found}
use Rattle.term_names.specs.declared.names.KnownEntry.{KnownEntry}
use Rattle.term_names.specs.Scope.{known_in, all_names}
use Rattle.term_names.proofs.Meant.{variable_found, found_outside, operator_outside, free_outside, meant_variable, meant_entry, meant_nothing}
use Rattle.term_names.proofs.OperatorNames.{operator_is_alone}
use Rattle.term_names.proofs.looking_up.find.Goals as goal
use Rattle.term_expansion.specs.SymbolsAndTerms.{both}

pub returns-in-None : goal.returns-in-None
returns-in-None c =
    λ v sc p script scope.
    let s = c.args.tables.now.symbols.now in
    let k = (known_in c.args.tables.now.settings.now c.args.tables.now.names.now) in
    let named = sym c.operator_of.ensures ∙ c.in-Some.is in
    let alone = operator_is_alone s v k sc c.args.name.now c.in-Some.op script named in
    found_outside s v k c.args.tables.now.names.now.scope p sc c.args.name.now (Found.Symbol c.operator.result) scope (sym c.in-None.is ∙ c.variable.ensures)
    (operator_outside s v k sc p c.args.name.now c.in-Some.op c.operator.result alone.0 alone.1 named c.operator.ensures.leaf)

pub returns-in-Some-variable : goal.returns-in-Some-variable
returns-in-Some-variable c =
    λ v sc p script scope.
    variable_found c.args.tables.now.symbols.now v (known_in c.args.tables.now.settings.now c.args.tables.now.names.now) c.args.tables.now.names.now.scope p sc c.args.name.now c.in-Some-variable.bound scope
    (sym c.in-Some-variable.is ∙ c.variable.ensures)

pub returns-in-Variable : goal.returns-in-Variable
returns-in-Variable c =
    λ v sc p script scope.
    variable_found c.args.tables.now.symbols.now v (known_in c.args.tables.now.settings.now c.args.tables.now.names.now) c.args.tables.now.names.now.scope p sc c.args.name.now c.in-Variable.bound scope
    (meant_variable (all_names c.args.tables.now.settings.now c.args.tables.now.names.now) c.args.name.now c.in-Variable.bound (ap Some (sym c.in-Variable.is) ∙ sym c.in-Some-find.is ∙ c.find.ensures.meant))

pub returns-in-Entry : goal.returns-in-Entry
returns-in-Entry c =
    λ v sc p script scope.
    let meant = meant_entry (all_names c.args.tables.now.settings.now c.args.tables.now.names.now) c.args.name.now c.in-Entry.entry (ap Some (sym c.in-Entry.is) ∙ sym c.in-Some-find.is ∙ c.find.ensures.meant) in
    found_outside c.args.tables.now.symbols.now v (known_in c.args.tables.now.settings.now c.args.tables.now.names.now) c.args.tables.now.names.now.scope p sc c.args.name.now c.found_of.result scope meant.0
    (c.found_of.ensures v sc p c.args.name.now script scope meant.1 (sym c.operator_of.ensures ∙ c.in_default.is))

pub returns-in_default-find : goal.returns-in_default-find
returns-in_default-find c =
    λ v sc p script scope.
    let meant = meant_nothing (all_names c.args.tables.now.settings.now c.args.tables.now.names.now) c.args.name.now (sym c.in_default-find.is ∙ c.find.ensures.meant) in
    found_outside c.args.tables.now.symbols.now v (known_in c.args.tables.now.settings.now c.args.tables.now.names.now) c.args.tables.now.names.now.scope p sc c.args.name.now Found.Unknown scope meant.0
    (free_outside c.args.tables.now.symbols.now v (known_in c.args.tables.now.settings.now c.args.tables.now.names.now) sc p c.args.name.now (sym c.operator_of.ensures ∙ c.in_default.is)
    (subst (λ (o : Option KnownEntry). IsNameMeant (both c.args.tables.now.symbols.now v) (known_in c.args.tables.now.settings.now c.args.tables.now.names.now) sc c.args.name.now o) meant.1 (script.names c.args.name.now)))
