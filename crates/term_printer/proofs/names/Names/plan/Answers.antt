use Rattle.std.proofs.Common.{◌∙◌, set, subst, sym, nat_eq, false, Some, List}
use Rattle.std.specs.Map.{update}
use Rattle.std.specs.Prelude.{slice_get, slice_index_or, ◌≡◌}
use Rattle.term_printer.specs.Names.{place_of, entry_of, entry_at}
use Rattle.term_printer.specs.declared.names.Row.{Row}
use Rattle.term_printer.proofs.Rows.{planned}
use Rattle.term_printer.proofs.names.Names.plan.Goals as goal

pub returns : goal.returns
returns c = λ q.
    subst (λ (rows : List Row). entry_of q (slice_get rows (slice_index_or (set c.reach.new.slots.items c.place_of-place.result c.len-row.result) (place_of q) 0))
    ≡ update nat_eq (entry_at c.args.self.now) c.args.r (Some (record { number = c.args.number; is_given = false })) q)
    (sym c.in_ok-push.ensures.items)
    (planned c.args.self.now.slots.items c.args.self.now.rows.items c.args.r
    (record { entry = record { number = c.args.number; is_given = false }; term = c.number.result }) c.number.ensures.number
    c.reach.new.slots.items c.place_of-place.result c.len-row.result c.place_of-place.ensures (c.len-row.ensures ∙ c.args.self.now.rows.ok.0)
    c.in_ok-reach.ensures.same c.in_ok-reach.ensures.there q)
