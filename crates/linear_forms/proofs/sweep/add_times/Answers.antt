-- What is added has room by itself.
use Rattle.std.proofs.Common.{arith}
use Rattle.std.proofs.Math.Facts.{to_z-of_z}
use Rattle.std.proofs.lemmas.Int.{ints}
use Rattle.linear_forms.proofs.sweep.add_times.Goals as goal

pub overflow_mul-constant : goal.overflow_mul-constant
overflow_mul-constant c = rw (to_z-of_z c.ranges.factor, to_z-of_z c.ranges.n) (omega (arith, ints))
