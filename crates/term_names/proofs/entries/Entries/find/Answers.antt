-- The entry of a name is that of the table.
use Rattle.std.proofs.Common.{◌∙◌, IfSome, ap, sym, subst}
use Rattle.term_names.specs.Entries.{EntriesView, lookup, IsThere}
use Rattle.term_names.specs.EntryTables.{entries_view}
use Rattle.term_names.proofs.entries.Entries.find.Goals as goal

pub returns-clause-entry : goal.returns-clause-entry
returns-clause-entry c = c.entry_named.ensures ∙ ap (λ (v : EntriesView). lookup v.names c.args.name.now) c.self.view_is

pub returns-clause-there : goal.returns-clause-there
returns-clause-there c =
    let view : EntriesView = entries_view c.self.inside.all.table c.self.inside.all.macros.items c.self.inside.all.named.items in
    subst (λ (v : EntriesView). IfSome c.entry_named.result (IsThere v)) c.self.view_is
    (subst (λ o. IfSome o (IsThere view)) (sym c.entry_named.ensures) (c.self.invariant.there c.args.name.now))
