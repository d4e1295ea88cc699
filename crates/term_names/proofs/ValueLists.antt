-- Lists of values: their references, and how high they are.
use Rattle.std.proofs.Common.{ℕ, zero, suc, ◌≤◌, List, [], ◌∷◌, drop, map, arith}
use Rattle.problem_text.specs.Limits.{most_height}
use Rattle.term_names.specs.InScope.{AreValuesLow}
use Rattle.term_names.specs.Stacks.{greatest_height}
use Rattle.term_expansion.specs.declared.values.Value.{Value}

-- the references of values
abbrev pub references : List Value → List ℕ
references cs = map (λ c. c.term) cs

low-drop : (n : ℕ) (cs : List Value) → AreValuesLow cs → AreValuesLow (drop n cs)
low-drop zero cs h = h
low-drop (suc n) [] h = tt
low-drop (suc n) (c ∷ cs) h = low-drop n cs h.1

low-greatest : (cs : List Value) → AreValuesLow cs → greatest_height cs ≤ most_height
low-greatest [] h = omega arith
low-greatest (c ∷ cs) h = let x = h.0 in let y = low-greatest cs h.1 in omega arith

pub greatest-low : (n : ℕ) (cs : List Value) → AreValuesLow cs → greatest_height (drop n cs) ≤ most_height
greatest-low n cs h = low-greatest (drop n cs) (low-drop n cs h)
