-- The arguments before node k were read.
use Rattle.std.proofs.Common.{◌-◌}
use Rattle.term_model.specs.Terms.{Var, Term}
use Rattle.rule_model.specs.Scopes.{Nesting}
use Rattle.text_items.specs.ItemsAt.{items_at}
use Rattle.term_reader.specs.ProblemViews.{IsReaderOf}
use Rattle.alethe_text.specs.Arguments.{pivots_from}
use Rattle.alethe_text.specs.ProofTerms.{place_in}
use Rattle.alethe_text.specs.States.{ProofSettings, ProofState}
use Rattle.alethe_reader.proofs.LeftToRead.{GoneOver}
use Rattle.alethe_reader.proofs.PivotReading.{AreLeft}
use Rattle.alethe_reader.proofs.pivots.pivots_at.Given as goal

abbrev pub invariant-pairs : goal.invariant-pairs
invariant-pairs l = record {
  gone : GoneOver l.fn.symbols l.symbols l.fn.terms l.terms l.arguments.first l.k l.arguments.end;
  left : (settings : ProofSettings) (nesting : Nesting Var Term) (p : ProofState) → IsReaderOf l.fn.symbols l.fn.terms l.fn.reader p.script (place_in settings nesting)
      → AreLeft settings nesting p l.symbols l.fn.terms l.terms l.reader l.all l.pivots.items l.items l.k l.arguments.end (pivots_from settings nesting (items_at l.items l.arguments.first l.arguments.end) p);
}

abbrev pub decreases-pairs : goal.decreases-pairs
decreases-pairs l = l.arguments.end - l.k
