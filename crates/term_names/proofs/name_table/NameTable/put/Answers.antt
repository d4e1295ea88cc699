-- The entry is put at the name's number.
use Rattle.std.proofs.Common.{◌∙◌, ap, subst}
use Rattle.term_names.specs.Entries.{Puts}
use Rattle.term_names.specs.NameTable.{NameTableView, entries_of, with_entry}
use Rattle.term_names.proofs.NameEntries.{Puts-entered}
use Rattle.term_names.proofs.name_table.NameTable.put.Goals as goal

pub returns-clause-entries : goal.returns-clause-entries
returns-clause-entries c =
    let at = ap (λ (t : NameTableView). t.names) c.self.view_is in
    let number = c.in_ok-number.ensures.numbered.number in
    subst (λ old. Puts old c.args.name.now c.args.entry (entries_of (with_entry (record { names = c.self.inside.names; entries = c.self.inside.entries.items; innermost = c.self.inside.innermost.items }) c.in_ok-number.number c.args.entry)))
    (ap entries_of c.self.view_is ∙ c.in_ok-number.ensures.entries)
    (Puts-entered c.self.inside.names c.self.inside.entries.items c.args.name.now c.in_ok-number.number c.args.entry c.self.invariant.once c.self.invariant.entry_each
    (c.self.invariant.once c.in_ok-number.number c.args.name.now (rw at number)))
