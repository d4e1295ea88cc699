use Rattle.std.proofs.Common.{◌≡◌, sym, subst, slice_get, slice_range, Some, rules}
use Rattle.term_reader.specs.Lately.{LatelyView, IsRight, AreRight}
use Rattle.term_reader.proofs.lately.Lately.find.Goals as goal

pub returns-then-eq : goal.returns-then-eq
returns-then-eq c w p sc h =
    let right = subst (λ (l : LatelyView). AreRight w p sc l) (sym c.self.view_is) h in
    let here : slice_get c.self.inside.rows.items c.slot_of-slot.result ≡ Some c.row_at-row.result = search rules in
    let stamp : c.row_at-row.result.stamp ≡ c.self.inside.stamp = search rules in
    let bytes : slice_range c.self.inside.text.now c.row_at-row.result.start c.row_at-row.result.end ≡ c.args.list.now = search rules in
    subst (λ b. IsRight w p sc b c.row_at-row.result.value) bytes (right c.slot_of-slot.result c.row_at-row.result here stamp)
