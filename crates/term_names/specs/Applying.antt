-- Private. What is put in for the parameters of a macro.
use Rattle.std.specs.Prelude.{ℕ, List, [], ◌∷◌}
use Rattle.term_expansion.specs.declared.values.Bound.{Bound}
use Rattle.term_expansion.specs.declared.values.Value.{Value}

-- for each leaf the value at its place
abbrev pub bounds_of : List ℕ → List Value → List Bound
bounds_of (k ∷ ks) (c ∷ cs) = record { variable = k; value = c } ∷ bounds_of ks cs
bounds_of ks cs = []
