-- Private. The arguments of terms on a stack.
use Rattle.std.specs.Prelude.{◌≡◌, ◌≤◌, ℕ, ◌++◌, List, length, drop, reverse}
use Rattle.sym_table.specs.Table.{Table}
use Rattle.term_model.specs.Terms.{Term}
use Rattle.term_pool.specs.Reading.{arguments_of}
use Rattle.term_pool.specs.Views.{TermsView, RefersTo, ReferToAll}

-- on a stack, the arguments of an application that has so many stand above what was there, but for the first ones
pub record AddsArguments (v : TermsView) (r count left : ℕ) (old new : List ℕ) : Type 0 where
  pub within : left ≤ count
  pub arguments : List ℕ
  pub added : new ≡ old ++ reverse arguments
  pub refer :
      (s : Table) (t : Term) → RefersTo s v r t → length (arguments_of t) ≡ count →
      ReferToAll s v arguments (drop left (arguments_of t))
