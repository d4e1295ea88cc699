-- The entry of a name stands at the name's number.
use Rattle.std.proofs.Common.{◌∙◌, position, ap, sym}
use Rattle.std.specs.Str.{bytes_eq}
use Rattle.term_names.specs.Entries.{lookup}
use Rattle.term_names.specs.NameTable.{NameTableView, entries_of}
use Rattle.term_names.proofs.NameEntries.{lookup_found, lookup_nowhere}
use Rattle.term_names.proofs.name_table.NameTable.entry_named.Goals as goal

pub returns-in_err-number : goal.returns-in_err-number
returns-in_err-number c =
    c.from_residual.ensures
    ∙ sym (lookup_nowhere c.args.self.now.names c.args.self.now.entries c.args.name.now (sym c.in_err-number.ensures.number))

pub returns : goal.returns
returns c =
    sym (lookup_found c.self.inside.names c.self.inside.entries.items c.args.name.now _ _ c.self.invariant.once c.self.invariant.entry_each
    (ap (λ (t : NameTableView). position (bytes_eq c.args.name.now) t.names) c.self.view_is ∙ sym c.in_ok-number.ensures.number) c.index.ensures)
    ∙ ap (λ (t : NameTableView). lookup (entries_of t) c.args.name.now) c.self.view_is
