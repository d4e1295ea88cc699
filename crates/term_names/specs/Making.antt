-- Public. What a call that makes a term returns and places.
use Rattle.std.specs.Prelude.{◌≡◌, Option, Some, None, Result, Ok, Err}
use Rattle.term_model.specs.Terms.{Term}
use Rattle.term_pool.specs.Views.{TermsView}
use Rattle.term_pool.specs.Placing.{PlacesCellsOf, LacksCellOf}
use Rattle.problem_text.specs.TypedTerms.{Typed}
use Rattle.term_expansion.specs.Values.{IsValue}
use Rattle.term_names.specs.declared.faults.ReadFault.{ReadFault}
use Rattle.term_expansion.specs.declared.values.Value.{Value}
use Rattle.term_expansion.specs.SymbolsAndTerms.{SymbolsAndTerms}

-- the term is the one that is expected
abbrev pub IsExpected : Option Typed → Term → Type 0
IsExpected o t = (d : Typed) × (o ≡ Some d) × (d.tree ≡ t)

-- The answer is the term that is expected, or none where none is.
abbrev pub IsMade : SymbolsAndTerms → Option Typed → Result (Option Value) ReadFault → Type 0
IsMade w o (Ok None) = o ≡ None
IsMade w o (Ok (Some c)) = (t : Typed) × (o ≡ Some t) × IsValue w c t
IsMade w o (Err (ReadFault.Text r)) = ⊥
IsMade w o (Err ReadFault.PoolFull) = LacksCellOf w.symbols w.terms.pass (IsExpected o)
IsMade w o (Err ReadFault.Memory) = Unit {0}

-- and what was placed since are cells of that term
pub record Makes (before : TermsView) (w : SymbolsAndTerms) (o : Option Typed) (result : Result (Option Value) ReadFault) : Type 0 where
  pub answer : IsMade w o result
  pub placed : PlacesCellsOf w.symbols before.pass w.terms.pass (IsExpected o)
