-- The terms that get a name before node k were read.
use Rattle.std.proofs.Common.{◌-◌}
use Rattle.term_model.specs.Terms.{Var, Term}
use Rattle.rule_model.specs.Scopes.{Nesting}
use Rattle.text_items.specs.ItemsAt.{items_at}
use Rattle.term_reader.specs.ProblemViews.{IsReaderOf}
use Rattle.alethe_text.specs.Arguments.{named_among}
use Rattle.alethe_text.specs.ProofTerms.{place_in}
use Rattle.alethe_text.specs.States.{ProofSettings, ProofState}
use Rattle.alethe_reader.proofs.LeftToRead.{GoneOver}
use Rattle.alethe_reader.proofs.NamedArguments.{AreLeft}
use Rattle.alethe_reader.proofs.arguments.names_at.Given as goal

abbrev pub invariant-arguments : goal.invariant-arguments
invariant-arguments l = record {
  gone : GoneOver l.fn.symbols l.symbols l.fn.terms l.terms l.arguments.first l.k l.arguments.end;
  left : (settings : ProofSettings) (nesting : Nesting Var Term) (p : ProofState) → IsReaderOf l.fn.symbols l.fn.terms l.fn.reader p.script (place_in settings nesting)
      → AreLeft settings nesting p l.symbols l.fn.terms l.terms l.reader l.items l.k l.arguments.end (named_among settings nesting (items_at l.items l.arguments.first l.arguments.end) p);
}

abbrev pub decreases-arguments : goal.decreases-arguments
decreases-arguments l = l.arguments.end - l.k
