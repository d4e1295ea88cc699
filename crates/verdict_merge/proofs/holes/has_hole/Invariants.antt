use Rattle.std.proofs.Common.{Contains, take}
use Rattle.rule_model.specs.declared.statuses.Status.{Status}
use Rattle.verdict_merge.specs.Pieces.{statuses_of}
use Rattle.verdict_merge.proofs.holes.has_hole.Given as goal

abbrev pub invariant-pieces : goal.invariant-pieces
invariant-pieces l = ¬ Contains (statuses_of (take l.piece-index l.pieces)) Status.Hole
