-- The names and the images around the anchor are left.
use Rattle.std.proofs.Common.{arith, ◌-◌, ap}
use Rattle.alethe_reader.specs.Ids.{IdsView}
use Rattle.alethe_reader.proofs.BoundLemmas.{enough_bound, bound_left}
use Rattle.alethe_reader.proofs.bound.BoundVariables.leave.Goals as goal

pub overflow_sub-left : goal.overflow_sub-left
overflow_sub-left c = let (s, v, n, h, is) = c.requires in omega (arith, enough_bound s v c.args.self.now n h, is)

pub returns : goal.returns
returns c s v around before anchor is h = bound_left s v c.args.self.now _ (c.len.result - c.args.count) around before anchor (omega (arith, is)) h (ap (λ (x : IdsView). x.used) c.leave.ensures) c.truncate.ensures.items
