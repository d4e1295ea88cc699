use Rattle.generated_texts.proofs.CellLemmas.{one_count}
use Rattle.generated_texts.proofs.laws.cells_are_counted_once.Goals as goal

pub returns : goal.returns
returns c = one_count
