-- Private. The terms in the arguments of a step that get a name (Alethe, "The Proof Format").
use Rattle.std.specs.Prelude.{⊤}
use Rattle.term_model.specs.Terms.{Var, Term}
use Rattle.rule_model.specs.Scopes.{Nesting}
use Rattle.term_reader.specs.ProblemViews.{ReaderView}
use Rattle.alethe_text.specs.States.{ProofSettings, ProofState}
use Rattle.alethe_reader.specs.Behind.{IsBehind}
use Rattle.term_expansion.specs.SymbolsAndTerms.{SymbolsAndTerms}

-- the terms that get a name were read
pub record AreNamed (w : SymbolsAndTerms) (settings : ProofSettings) (nesting : Nesting Var Term) (r : ReaderView) (old : ProofState) (read answer : ⊤)
    (new : ProofState) : Type 0 where
  pub behind : IsBehind w settings nesting r old new
