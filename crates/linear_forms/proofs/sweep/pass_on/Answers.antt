use Rattle.std.proofs.Common.{FitsSigned, rules}
use Rattle.std.proofs.lemmas.Int.{to_z-of_z}
use Rattle.linear_forms.proofs.Passing.{number_room, multiple_room, first_room, second_room}
use Rattle.linear_forms.proofs.sweep.pass_on.Goals as goal

pub add_times-requires : goal.add_times-requires
add_times-requires c =
    let h = rw c.in-Number.is at c.requires.weighed in
    let fits : FitsSigned mir.Syntax.w128 c.in-Number.n = search rules in
    rw (to_z-of_z _ _ c.ranges.factor, to_z-of_z _ _ fits) (number_room c.args.factor c.in-Number.n c.args.constant.now c.requires.own _ h c.requires.within)

pub pass_to-requires-clause-room : goal.pass_to-requires-clause-room
pass_to-requires-clause-room c =
    rw (to_z-of_z _ _ c.ranges.factor) (multiple_room c.in-Multiple.part c.args.factor c.args.constant.now c.args.factors.now (rw c.in-Multiple.is at c.requires))

pub pass_to-requires-in-Sum-clause-room : goal.pass_to-requires-in-Sum-clause-room
pass_to-requires-in-Sum-clause-room c =
    rw (to_z-of_z _ _ c.ranges.factor) (first_room c.in-Sum.one c.in-Sum.other c.args.factor c.args.constant.now c.args.factors.now (rw c.in-Sum.is at c.requires))

pub pass_to-requires-in-Sum-2-clause-room : goal.pass_to-requires-in-Sum-2-clause-room
pass_to-requires-in-Sum-2-clause-room c =
    rw (c.pass_to-in-Sum.ensures, to_z-of_z _ _ c.ranges.factor)
    (second_room c.in-Sum.one c.in-Sum.other c.args.factor c.args.constant.now c.args.factors.now (rw c.in-Sum.is at c.requires))
