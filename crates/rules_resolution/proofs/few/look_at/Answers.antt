use Rattle.std.proofs.Common.{[], ◌∷◌, refl, arith, length-append}
use Rattle.rules_resolution.proofs.Scanning.{conflict_read, idle_read, reaches_read}
use Rattle.rules_resolution.proofs.few.look_at.Goals as goal

pub returns-in_default : goal.returns-in_default
returns-in_default c = (
  refl,
  refl,
  conflict_read c.args.premises.now c.args.falses.now.items c.args.premise c.index-premises-premise.result c.as_slice-clause.result.now c.index-premises-premise.is c.requires.place c.as_slice-clause.ensures.value
      (rw c.deref.ensures.value at c.in_default.ensures.none),
)

pub returns-then-not-is_only : goal.returns-then-not-is_only
returns-then-not-is_only c = (
  refl,
  refl,
  idle_read c.args.premises.now c.args.falses.now.items c.args.premise c.index-premises-premise.result c.as_slice-clause.result.now c.index-premises-premise.is c.requires.place c.as_slice-clause.ensures.value
      c.in-Some.place _ (rw c.deref.ensures.value at c.in-Some.ensures.some) (rw c.deref-3.ensures.value at c.if-not-is_only.ensures),
)

pub returns : goal.returns
returns c =
    rw (c.in_ok-push-2.ensures.items, c.in_ok-push.ensures.items) (
      (let n = length-append c.args.units.now.items ((c.args.premise, c.in-Some.place) ∷ []) in omega arith),
      reaches_read c.args.premises.now c.args.falses.now.items c.args.premise c.index-premises-premise.result c.as_slice-clause.result.now c.index-premises-premise.is c.requires.place c.as_slice-clause.ensures.value
          c.args.units.now.items c.in-Some.place _ _ (rw c.deref.ensures.value at c.in-Some.ensures.some) (rw c.deref-3.ensures.value at c.if-not-is_only.ensures) c.negate-opposite.ensures,
    )
