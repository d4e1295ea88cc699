-- Private. Terms and formulas of a proof that were read in a scope.
use Rattle.std.specs.Prelude.{◌≤◌, ℕ, List, ⊤}
use Rattle.term_model.specs.Terms.{Var, Term}
use Rattle.term_pool.specs.Views.{RefersTo, ReferToAll}
use Rattle.rule_model.specs.Scopes.{Nesting}
use Rattle.problem_text.specs.Limits.{most_height}
use Rattle.problem_text.specs.TypedTerms.{Typed}
use Rattle.term_expansion.specs.Values.{IsValue}
use Rattle.term_expansion.specs.declared.values.Value.{Value}
use Rattle.term_reader.specs.ProblemViews.{ReaderView}
use Rattle.alethe_text.specs.States.{ProofSettings, ProofState}
use Rattle.alethe_reader.specs.Behind.{IsBehind}
use Rattle.term_expansion.specs.SymbolsAndTerms.{SymbolsAndTerms}

-- a term was read, with its sort and its height
pub record IsReadValue (w : SymbolsAndTerms) (settings : ProofSettings) (nesting : Nesting Var Term) (r : ReaderView) (old : ProofState) (c : Value)
    (t : Typed) (new : ProofState) : Type 0 where
  pub is : IsValue w c t
  pub low : c.height ≤ most_height
  pub behind : IsBehind w settings nesting r old new

-- a formula was read
pub record IsReadFormula (w : SymbolsAndTerms) (settings : ProofSettings) (nesting : Nesting Var Term) (r : ReaderView) (old : ProofState) (c : ℕ)
    (t : Term) (new : ProofState) : Type 0 where
  pub refers : RefersTo w.symbols w.terms c t
  pub behind : IsBehind w settings nesting r old new

-- formulas were read, for which these references stand
pub record AreReadFormulas (w : SymbolsAndTerms) (settings : ProofSettings) (nesting : Nesting Var Term) (r : ReaderView) (old : ProofState) (refs : List ℕ)
    (_ : ⊤) (ts : List Term) (new : ProofState) : Type 0 where
  pub refer : ReferToAll w.symbols w.terms refs ts
  pub behind : IsBehind w settings nesting r old new
