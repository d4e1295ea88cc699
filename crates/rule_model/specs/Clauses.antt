-- Public. When a clause of terms is true.
use Rattle.std.specs.Prelude.{List}
use Rattle.std.specs.List.{Any}
use Rattle.term_model.specs.Terms.{Term}
use Rattle.term_model.specs.Interpretations.{Interpretation}
use Rattle.term_model.specs.Meaning.{Valuation}
use Rattle.term_model.specs.Unsatisfiable.{MakesTrue}

-- under these values of variables the interpretation makes some literal of the clause true
abbrev pub MakesClauseTrue : Interpretation → Valuation → List Term → Type 0
MakesClauseTrue I r clause = Any (MakesTrue I r) clause
