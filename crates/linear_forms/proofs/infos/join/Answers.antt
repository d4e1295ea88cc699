use Rattle.std.proofs.Common.{FitsSigned, ◌*◌, ◌<◌, ◌^◌, unsigned_abs, rules}
use Rattle.std.proofs.Math.Nat.{mul_comm}
use Rattle.std.proofs.lemmas.Int.{to_z-of_z}
use Rattle.linear_forms.proofs.infos.join.Goals as goal

pub multiple-requires-in-Single-Constants : goal.multiple-requires-in-Single-Constants
multiple-requires-in-Single-Constants c =
    let fits : FitsSigned mir.Syntax.w128 c.in-Single-Constants.b = search rules in
    let h : unsigned_abs c.in-Single-Constants.part.times * unsigned_abs c.in-Single-Constants.b < 2 ^ 127 = rw (c.in-Single-Constants.is-0, c.in-Single-Constants.is-1) at c.requires in
    rw (to_z-of_z _ _ fits, mul_comm (unsigned_abs c.in-Single-Constants.b) (unsigned_abs c.in-Single-Constants.part.times)) h
