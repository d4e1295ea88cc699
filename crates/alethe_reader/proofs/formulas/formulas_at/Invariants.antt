-- The formulas before node k were read.
use Rattle.std.proofs.Common.{◌-◌}
use Rattle.term_model.specs.Terms.{Var, Term}
use Rattle.rule_model.specs.Scopes.{Nesting}
use Rattle.text_items.specs.ItemsAt.{items_at}
use Rattle.term_reader.specs.ProblemViews.{IsReaderOf}
use Rattle.alethe_text.specs.ProofTerms.{place_in, formulas_in}
use Rattle.alethe_text.specs.States.{ProofSettings, ProofState}
use Rattle.alethe_reader.proofs.FormulaLists.{AreLeft}
use Rattle.alethe_reader.proofs.LeftToRead.{GoneOver}
use Rattle.alethe_reader.proofs.formulas.formulas_at.Given as goal

abbrev pub invariant-formulas : goal.invariant-formulas
invariant-formulas l = record {
  gone : GoneOver l.fn.symbols l.symbols l.fn.terms l.terms l.range.first l.k l.range.end;
  left : (settings : ProofSettings) (nesting : Nesting Var Term) (p : ProofState) → IsReaderOf l.fn.symbols l.fn.terms l.fn.reader p.script (place_in settings nesting)
      → AreLeft settings nesting p l.symbols l.fn.terms l.terms l.reader l.formulas.items l.items l.k l.range.end (formulas_in settings nesting (items_at l.items l.range.first l.range.end) p);
}

abbrev pub decreases-formulas : goal.decreases-formulas
decreases-formulas l = l.range.end - l.k
