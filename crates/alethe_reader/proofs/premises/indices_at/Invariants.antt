-- The commands of the names before node k were found.
use Rattle.std.proofs.Common.{◌≡◌, ◌-◌, List}
use Rattle.rule_model.specs.Visibility.{Sight}
use Rattle.text_items.specs.ItemsAt.{items_at}
use Rattle.alethe_commands.specs.CommandNodes.{AreSymbolsAt}
use Rattle.alethe_text.specs.Commands.{names_in}
use Rattle.alethe_text.specs.Ids.{indices_of}
use Rattle.alethe_text.specs.States.{ProofState}
use Rattle.alethe_reader.specs.Reach.{IsReach}
use Rattle.alethe_reader.proofs.Indices.{then_those}
use Rattle.alethe_reader.proofs.premises.indices_at.Given as goal

abbrev pub invariant-names : goal.invariant-names
invariant-names l = record {
  symbols : AreSymbolsAt l.items l.k l.range.end;
  left : (sights : List Sight) (p : ProofState) → IsReach l.ids.used l.reach sights → indices_of sights (names_in (items_at l.items l.range.first l.range.end)) p ≡ then_those sights p l.indices.items (items_at l.items l.k l.range.end);
}

abbrev pub decreases-names : goal.decreases-names
decreases-names l = l.range.end - l.k
