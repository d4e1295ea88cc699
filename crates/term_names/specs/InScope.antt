-- Public. The variables in scope, and those that a let binds, as the code holds them.
use Rattle.std.specs.Prelude.{◌≡◌, ◌≤◌, ℕ, List}
use Rattle.std.specs.List.{AllByRecursion, AllZip}
use Rattle.sym_table.specs.Table.{IsLeaf}
use Rattle.term_pool.specs.StandsFor.{variable_leaf}
use Rattle.problem_text.specs.Limits.{most_height}
use Rattle.problem_text.specs.Names.{Bound}
use Rattle.term_names.specs.Scope.{Scoped}
use Rattle.term_expansion.specs.Values.{IsValue, PutsIn}
use Rattle.term_expansion.specs.declared.values.Value.{Value}
use Rattle.term_expansion.specs.SymbolsAndTerms.{SymbolsAndTerms}

-- a variable in scope, by its name and leaf, and what it stands for
abbrev pub IsInScope : SymbolsAndTerms → Scoped → Bound → Type 0
IsInScope w e b = (e.name ≡ b.variable.name) × PutsIn w e.bound b.variable b.stands_for

-- the variables in scope, the innermost first, by their names and leaves, and what they stand for
abbrev pub IsScope : SymbolsAndTerms → List Scoped → List Bound → Type 0
IsScope w es bs = AllZip (IsInScope w) es bs

-- leaves and values in the same order: the variables of a let and what they are bound to
pub record AreValuesBound (w : SymbolsAndTerms) (ks : List ℕ) (cs : List Value) (bs : List Bound) : Type 0 where
  pub leaves : AllZip (λ k b. IsLeaf w.symbols k (variable_leaf b.variable)) ks bs
  pub values : AllZip (λ c b. IsValue w c (record { tree = b.stands_for; sort = b.variable.sort })) cs bs

-- none of the values is too high
abbrev pub AreValuesLow : List Value → Type 0
AreValuesLow values = AllByRecursion (λ c. c.height ≤ most_height) values
