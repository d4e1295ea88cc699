-- Public. Heights of the terms that references stand for.
use Rattle.std.specs.Prelude.{◌≤◌, ℕ}
use Rattle.term_model.specs.Terms.{Term}
use Rattle.term_model.specs.Heights.{height}
use Rattle.term_pool.specs.Views.{RefersTo}
use Rattle.term_expansion.specs.SymbolsAndTerms.{SymbolsAndTerms}

-- The reference stands for a term of at most this height.
pub record IsAtMost (w : SymbolsAndTerms) (most r : ℕ) : Type 0 where
  pub means : Term
  pub refers : RefersTo w.symbols w.terms r means
  pub low : height means ≤ most
