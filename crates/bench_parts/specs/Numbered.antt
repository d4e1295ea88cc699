-- Private. Proofs of assumes whose ids have numbers.
use Rattle.std.specs.Prelude.{◌≡◌, ◌<◌, ◌+◌, ◌-◌, ◌*◌, ℕ, List, [], ◌∷◌, All}
use Rattle.rule_model.specs.Scopes.{outermost, Scope, commands_in}
use Rattle.rule_model.specs.Visibility.{visible_ids}

-- the number of an id: its letters from a on as hexadecimal digits, the last digit first
abbrev pub number_of : List ℕ → ℕ
number_of [] = 0
number_of (b ∷ bs) = (b - 97) + 16 * number_of bs

-- no anchor is open, and there are so many commands, whose ids have numbers below their number
pub record IsNumberedScope (scope : Scope ℕ ℕ) (n : ℕ) : Type 0 where
  pub closed : scope.nesting ≡ outermost
  pub commands : commands_in scope.items ≡ n
  pub ids : All (λ id. number_of id < n) (visible_ids outermost scope.items)
