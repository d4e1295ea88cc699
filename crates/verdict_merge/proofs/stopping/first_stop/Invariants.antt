use Rattle.std.proofs.Common.{◌≡◌, All, take, length}
use Rattle.rule_model.specs.Statuses.{Passes}
use Rattle.verdict_merge.specs.Pieces.{statuses_of}
use Rattle.verdict_merge.proofs.stopping.first_stop.Given as goal

abbrev pub invariant-pieces : goal.invariant-pieces
invariant-pieces l =
    (l.first ≡ length (statuses_of (take l.piece-index l.pieces))) × All Passes (statuses_of (take l.piece-index l.pieces))
