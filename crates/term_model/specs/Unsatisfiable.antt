-- Public. Satisfaction (SMT-LIB 2.6, on structures and satisfiability): when an interpretation makes a term true, and
-- when none makes every assertion true.
use Rattle.std.specs.Prelude.{◌≡◌, true, List, []}
use Rattle.std.specs.List.{AllByRecursion}
use Rattle.term_model.specs.Terms.{Term}
use Rattle.term_model.specs.Values.{truth}
use Rattle.term_model.specs.Interpretations.{Interpretation}
use Rattle.term_model.specs.Meaning.{Valuation, value}

abbrev pub MakesTrue : Interpretation → Valuation → Term → Type 0
MakesTrue I r t = value I r t ≡ truth true

-- every assertion is true; assertions have no free variable
abbrev pub MakesAllTrue : Interpretation → List Term → Type 0
MakesAllTrue I assertions = AllByRecursion (MakesTrue I []) assertions

abbrev pub Unsatisfiable : List Term → Type 0
Unsatisfiable assertions = (I : Interpretation) → ¬ MakesAllTrue I assertions
