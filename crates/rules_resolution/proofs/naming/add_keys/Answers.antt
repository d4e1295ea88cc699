use Rattle.std.proofs.Common.{◌++◌, append_assoc, refl, sym, ap}
use Rattle.rules_resolution.proofs.Keys.{keys_from-more}
use Rattle.rules_resolution.proofs.naming.add_keys.Goals as goal

pub loop-place-preserved : goal.loop-place-preserved
loop-place-preserved c =
    rw (c.in_ok-add_key.ensures, c.loop-place.invariant, append_assoc)
    (ap (λ ks. c.args.keys.now.items ++ ks) (sym (keys_from-more c.args.from c.loop-place.place _ c.args.clause.now _ c.loop-place-test.true refl)))
