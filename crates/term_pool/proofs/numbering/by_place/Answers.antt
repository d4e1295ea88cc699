use Rattle.std.proofs.Common.{◌≡◌, length, arith}
use Rattle.term_pool.proofs.NumberingLemmas.{fill_step}
use Rattle.term_pool.proofs.numbering.by_place.Goals as goal

pub cells-preserved : goal.cells-preserved
cells-preserved c =
    fill_step _ _ c.requires.inside c.requires.distinct c.cells.k c.cells-test.true _ c.cells.invariant

pub returns : goal.returns
returns c = let all : length c.args.cells.now ≡ c.cells.k = omega arith in rw all c.cells.invariant
