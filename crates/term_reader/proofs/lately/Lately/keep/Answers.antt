use Rattle.std.proofs.Common.{◌≡◌, ◌+◌, sym, subst, rules, length, slice_range}
use Rattle.term_reader.specs.Lately.{LatelyView, IsRight, AreRight}
use Rattle.term_reader.proofs.LatelyLemmas.{rows_put, right_put}
use Rattle.term_reader.proofs.lately.Lately.keep.Goals as goal

pub invariant_of-self : goal.invariant_of-self
invariant_of-self c = rows_put c.self.inside.text.now c.self.inside.stamp _ _ _ c.put.ensures c.self.invariant (record { ordered = search rules; within = search rules; earlier = search rules })

pub returns : goal.returns
returns c w p sc h is =
    let bytes : c.args.list.now ≡ slice_range c.self.inside.text.now c.args.start (c.args.start + length c.args.list.now) = search rules in
    right_put w p sc c.self.inside.text.now c.self.inside.stamp _ _ _ c.put.ensures
    (subst (λ (l : LatelyView). AreRight w p sc l) (sym c.self.view_is) h)
    (subst (λ b. IsRight w p sc b c.args.value.now) bytes is)
