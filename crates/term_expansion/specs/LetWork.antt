-- Private. What is looked up of a let before anything becomes of it.
use Rattle.std.specs.Prelude.{◌≡◌, ℕ, List, []}
use Rattle.term_model.specs.Terms.{Term, let_in, Bindings}
use Rattle.term_pool.specs.Building.{AreBindings}
use Rattle.term_pool.specs.Views.{RefersTo}
use Rattle.term_expansion.specs.Expanding.{AreValuesGiven}
use Rattle.term_expansion.specs.Free.{AddsLeaves}
use Rattle.term_expansion.specs.Needs.{IsNeeded}
use Rattle.term_expansion.specs.SymbolsAndTerms.{SymbolsAndTerms}

-- the term is a let with this body, which gives these values to these of the variables that the body needs
pub record IsLetWork (w : SymbolsAndTerms) (body : ℕ) (gs ps : List ℕ) (t : Term) : Type 0 where
  pub bindings : Bindings
  pub inner : Term
  pub is : t ≡ let_in bindings inner
  pub vars : List ℕ
  pub values : List ℕ
  pub bound : AreBindings w.symbols w.terms vars values bindings
  pub inside : RefersTo w.symbols w.terms body inner
  pub leaves : List ℕ
  pub needed : AddsLeaves w.symbols [] leaves (λ x. IsNeeded x inner)
  pub given : AreValuesGiven leaves vars values gs ps
