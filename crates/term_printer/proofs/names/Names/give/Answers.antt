use Rattle.std.proofs.Common.{◌∙◌, refl, sym}
use Rattle.term_printer.proofs.Rows.{changed}
use Rattle.term_printer.proofs.names.Names.give.Goals as goal

pub returns : goal.returns
returns c =
    changed c.args.self.now.slots.items c.args.self.now.rows.items c.args.r _ c.number.ensures.number c.slot-slot.result c.in-Some.entry
    c.slot-slot.ensures (sym c.entry.ensures ∙ c.in-Some.is) refl
