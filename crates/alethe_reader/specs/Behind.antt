-- Private. The state behind a part of a command.
use Rattle.std.specs.Prelude.{◌≡◌}
use Rattle.term_model.specs.Terms.{Var, Term}
use Rattle.rule_model.specs.Scopes.{Nesting}
use Rattle.term_reader.specs.ProblemViews.{ReaderView, IsReaderOf}
use Rattle.alethe_text.specs.ProofTerms.{place_in}
use Rattle.alethe_text.specs.States.{ProofSettings, ProofState}
use Rattle.term_expansion.specs.SymbolsAndTerms.{SymbolsAndTerms}

-- A part of a command was read in a scope: the reader stands for the new script there, and all else of the state is as before.
pub record IsBehind (w : SymbolsAndTerms) (settings : ProofSettings) (nesting : Nesting Var Term) (r : ReaderView) (old new : ProofState) : Type 0 where
  pub reader : IsReaderOf w.symbols w.terms r new.script (place_in settings nesting)
  pub scope : new.scope ≡ old.scope
  pub anchors : new.anchors ≡ old.anchors
