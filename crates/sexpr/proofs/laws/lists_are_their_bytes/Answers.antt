use Rattle.sexpr.proofs.MovedItems.{lists_by_bytes}
use Rattle.sexpr.proofs.laws.lists_are_their_bytes.Goals as goal

pub returns : goal.returns
returns c = lists_by_bytes
