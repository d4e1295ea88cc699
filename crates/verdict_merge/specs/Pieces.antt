-- Public. Statuses that are handed in by pieces.
use Rattle.std.specs.Prelude.{List, flat_map, Vec}
use Rattle.std.specs.declared.alloc.Global.{Global}
use Rattle.rule_model.specs.declared.statuses.Status.{Status}

-- the statuses of all pieces, in order
abbrev pub statuses_of : List (Vec Status Global) → List Status
statuses_of pieces = flat_map (λ piece. piece.items) pieces
