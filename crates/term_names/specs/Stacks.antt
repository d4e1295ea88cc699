-- Public. The stack of values, by its parts.
use Rattle.std.specs.Prelude.{ℕ, max, List, [], ◌∷◌, map}
use Rattle.term_expansion.specs.declared.values.Value.{Value}

abbrev pub greatest : List ℕ → ℕ
greatest [] = 0
greatest (n ∷ ns) = max n (greatest ns)

-- the greatest height of the values, or 0 where there are none
abbrev pub greatest_height : List Value → ℕ
greatest_height vs = greatest (map (λ v. v.height) vs)
