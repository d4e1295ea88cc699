use Rattle.std.proofs.Common.{◌≡◌, take}
use Rattle.step_check.specs.Chunks.{statuses_in}
use Rattle.judged_texts.proofs.judging.joined.Given as goal

abbrev pub invariant-pieces : goal.invariant-pieces
invariant-pieces l = l.list.items ≡ statuses_in (take l.piece-index l.pieces)
