use Rattle.std.proofs.Common.{refl}
use Rattle.rules_resolution.proofs.InPlace.{literal_in_place}
use Rattle.rules_resolution.proofs.renaming.rename_here.Goals as goal

pub loop-place-preserved : goal.loop-place-preserved
loop-place-preserved c =
    rw c.rename.ensures
    (literal_in_place c.args.names.now c.args.from c.loop-place.place _ c.args.clause.now c.loop-place.clause _ c.loop-place-test.true refl c.loop-place.invariant)
