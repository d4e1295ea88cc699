-- What is left of the arguments comes to what all come to.
use Rattle.std.proofs.Common.{◌≤◌, ◌+◌, ◌-◌, [], length}
use Rattle.term_pool.specs.Views.{KeepsTerms}
use Rattle.text_items.specs.ItemsAt.{items_at}
use Rattle.term_names.specs.Standing.{AddsNoSymbols}
use Rattle.term_reader.specs.ProblemViews.{IsReaderOf}
use Rattle.alethe_commands.specs.CommandNodes.{AreArgumentsAt}
use Rattle.alethe_text.specs.Anchors.{arguments_read}
use Rattle.alethe_text.specs.Commands.{arguments_in}
use Rattle.alethe_text.specs.ProofTerms.{place_in}
use Rattle.alethe_text.specs.States.{ProofSettings, ProofState}
use Rattle.alethe_reader.specs.Bound.{AreAnchorsBound}
use Rattle.alethe_reader.proofs.ArgumentLoop.{AreLeft}
use Rattle.alethe_reader.proofs.anchor_arguments.read_arguments.Given as goal
use Rattle.term_expansion.specs.SymbolsAndTerms.{both}

abbrev pub invariant-arguments : goal.invariant-arguments
invariant-arguments l = record {
  there : AreArgumentsAt l.items l.k (length l.items.nodes);
  left : (settings : ProofSettings) (p : ProofState) → IsReaderOf l.fn.symbols l.fn.terms l.fn.reader p.script (place_in settings p.scope.nesting) → AreAnchorsBound (both l.fn.symbols l.fn.terms) l.fn.bound p.scope.nesting
      → AreLeft settings l.symbols l.fn.terms l.terms l.reader l.bound p (arguments_in (items_at l.items l.k (length l.items.nodes))) (arguments_read settings [] (arguments_in (items_at l.items l.first (length l.items.nodes))) p);
  symbols : AddsNoSymbols l.fn.symbols l.symbols;
  keeps : KeepsTerms l.fn.terms l.terms;
  few : length l.symbols.leaves + (length l.items.nodes - l.k) ≤ length l.fn.symbols.leaves + (length l.items.nodes - l.first);
}

abbrev pub decreases-arguments : goal.decreases-arguments
decreases-arguments l = length l.items.nodes - l.k
