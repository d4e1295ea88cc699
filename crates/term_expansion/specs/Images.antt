-- Public. What is put in for leaves, by a replacement.
use Rattle.std.specs.Prelude.{List}
use Rattle.rule_model.specs.Replacement.{Replacement}
use Rattle.problem_text.specs.TypedTerms.{Typed}
use Rattle.term_expansion.specs.SymbolsAndTerms.{SymbolsAndTerms}
use Rattle.term_expansion.specs.Values.{IsValue, IsReplacement}
use Rattle.term_expansion.specs.declared.values.Bound.{Bound}
use Rattle.term_expansion.specs.declared.values.Value.{Value}

-- the list is some replacement
pub record IsSomeReplacement (w : SymbolsAndTerms) (bs : List Bound) : Type 0 where
  pub means : Replacement
  pub is : IsReplacement w bs means

-- the value is some term
pub record IsSomeValue (w : SymbolsAndTerms) (c : Value) : Type 0 where
  pub means : Typed
  pub is : IsValue w c means
