-- A name means its innermost variable, or else what its entry is.
use Rattle.std.proofs.Common.{◌∙◌, Some, None, IfSome, reverse, ap, sym, subst}
use Rattle.term_names.specs.Entries.{lookup, IsThere}
use Rattle.term_names.specs.EntryTables.{entries_view}
use Rattle.term_names.specs.Held.{scoped}
use Rattle.term_names.specs.Known.{base_of, IsKnownThere}
use Rattle.term_names.specs.NameTable.{entries_of}
use Rattle.term_names.specs.Scope.{OwnNames, known_in, own_meant_of}
use Rattle.term_names.specs.declared.names.Meant.{Meant}
use Rattle.term_names.proofs.HeldVariables.{bound-nowhere}
use Rattle.term_names.proofs.NameEntries.{lookup_nowhere, lookup_at}
use Rattle.term_names.proofs.PutEntries.{own_there, own_meant_parts}
use Rattle.term_names.proofs.names.Names.own_meant.Goals as goal

pub returns-in_err-number-clause-meant : goal.returns-in_err-number-clause-meant
returns-in_err-number-clause-meant c =
    c.from_residual.ensures
    ∙ sym (own_meant_parts (scoped c.self.inside.own.table.names (reverse c.self.inside.held.items)) (entries_of c.self.inside.own.table) c.args.name.now None None
    (bound-nowhere _ _ c.self.inside.held.items c.args.name.now c.self.invariant.1 c.in_err-number.ensures.once (sym c.in_err-number.ensures.number))
    (lookup_nowhere _ _ c.args.name.now (sym c.in_err-number.ensures.number)))
    ∙ ap (λ (n : OwnNames). own_meant_of n c.args.name.now) c.self.view_is

pub returns-in-Some-clause-meant : goal.returns-in-Some-clause-meant
returns-in-Some-clause-meant c =
    sym (own_meant_parts (scoped c.self.inside.own.table.names (reverse c.self.inside.held.items)) (entries_of c.self.inside.own.table) c.args.name.now (Some c.in-Some.bound) (lookup (entries_of c.self.inside.own.table) c.args.name.now)
    (sym (rw c.deref.ensures.value at c.held_at.ensures c.args.name.now c.in_ok-number.ensures.once (sym c.in_ok-number.ensures.number)) ∙ c.in-Some.is) (λ i. lookup (entries_of c.self.inside.own.table) c.args.name.now))
    ∙ ap (λ (n : OwnNames). own_meant_of n c.args.name.now) c.self.view_is

pub returns-in_err-entry-clause-meant : goal.returns-in_err-entry-clause-meant
returns-in_err-entry-clause-meant c =
    c.from_residual-in_err-entry.ensures
    ∙ sym (own_meant_parts (scoped c.self.inside.own.table.names (reverse c.self.inside.held.items)) (entries_of c.self.inside.own.table) c.args.name.now None None
    (sym (rw c.deref.ensures.value at c.held_at.ensures c.args.name.now c.in_ok-number.ensures.once (sym c.in_ok-number.ensures.number)) ∙ c.in_default.is)
    (lookup_at _ _ c.args.name.now c.in_ok-number.number None c.in_ok-number.ensures.once (sym c.in_ok-number.ensures.number) c.in_err-entry.ensures))
    ∙ ap (λ (n : OwnNames). own_meant_of n c.args.name.now) c.self.view_is

pub returns-clause-meant : goal.returns-clause-meant
returns-clause-meant c =
    ap (λ e. Some (Meant.Entry e)) c.own_entry.ensures
    ∙ sym (own_meant_parts (scoped c.self.inside.own.table.names (reverse c.self.inside.held.items)) (entries_of c.self.inside.own.table) c.args.name.now None (Some c.in_ok-entry.entry)
    (sym (rw c.deref.ensures.value at c.held_at.ensures c.args.name.now c.in_ok-number.ensures.once (sym c.in_ok-number.ensures.number)) ∙ c.in_default.is)
    (lookup_at _ _ c.args.name.now c.in_ok-number.number (Some c.in_ok-entry.entry) c.in_ok-number.ensures.once (sym c.in_ok-number.ensures.number) c.in_ok-entry.ensures))
    ∙ ap (λ (n : OwnNames). own_meant_of n c.args.name.now) c.self.view_is

pub returns-clause-there : goal.returns-clause-there
returns-clause-there c e =
    let found = lookup_at _ _ c.args.name.now c.in_ok-number.number (Some c.in_ok-entry.entry) c.in_ok-number.ensures.once (sym c.in_ok-number.ensures.number) c.in_ok-entry.ensures in
    let own = entries_view c.self.inside.own.table c.self.inside.own.macros.items c.self.inside.own.named.items in
    let there : IsThere own c.in_ok-entry.entry = subst (λ o. IfSome o (IsThere own)) found (c.self.invariant.0.there c.args.name.now) in
    subst (λ (n : OwnNames). IsKnownThere (known_in e n) c.own_entry.result) c.self.view_is
    (rw c.own_entry.ensures (own_there (record { base = base_of e.base; own = own }) c.in_ok-entry.entry there))
