use Rattle.std.proofs.Common.{◌∷◌}
use Rattle.known_args.proofs.RowLemmas.{rows_stay}
use Rattle.known_args.proofs.memory.known_args_stay.Goals as goal

pub returns : goal.returns
returns c v w x keeps = rows_stay v w (x.last ∷ x.kept.items) keeps
