-- A name whose mark is not set has no number.
use Rattle.std.proofs.Common.{◌≡◌, ◌∙◌, false, get_or, position, ap, sym}
use Rattle.std.specs.Str.{bytes_eq}
use Rattle.term_names.specs.NameTable.{NameTableView, mark_of}
use Rattle.term_names.proofs.Marks.{unmarked_nowhere}
use Rattle.term_names.proofs.name_table.NameTable.find.Goals as goal

pub returns-then-not-self-mark_of-clause-number : goal.returns-then-not-self-mark_of-clause-number
returns-then-not-self-mark_of-clause-number c =
    let unset : get_or c.self.inside.marks (mark_of c.args.name.now) false ≡ false = ap (λ m. get_or c.self.inside.marks m false) (sym c.mark_of.ensures.mark) ∙ c.if-not-self-mark_of.true in
    sym (unmarked_nowhere c.self.inside.names c.self.inside.marks c.args.name.now c.self.invariant.marked unset)
    ∙ ap (λ (t : NameTableView). position (bytes_eq c.args.name.now) t.names) c.self.view_is
