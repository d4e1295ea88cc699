-- What is left to be met has the parts of what was met.
use Rattle.std.proofs.Common.{◌≡◌, ◌+◌, ◌-◌, ◌*◌, ◌^◌, length, vec_len}
use Rattle.alethe_reader.proofs.CellWalks.{IsWalk}
use Rattle.alethe_reader.proofs.needed_images.met_in.Given as goal

abbrev pub invariant-cells : goal.invariant-cells
invariant-cells l = (l.terms ≡ l.fn.terms) × IsWalk l.fn.terms.pass l.fn.r l.met.keys l.left.items

abbrev pub decreases-cells : goal.decreases-cells
decreases-cells l = (2 ^ 64 - length l.met.keys) * 2 ^ 64 + vec_len l.left
