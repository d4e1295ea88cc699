-- Public. What the arguments of an operator have to be, as facts about the list of their sorts. The laws compare
-- `application_sort` with these.
use Rattle.std.specs.Prelude.{◌≡◌, ℕ, ◌≤◌, List, length, All}
use Rattle.term_model.specs.declared.symbols.Sort.{Sort}

-- so many or more, each of this sort
abbrev pub AtLeast : ℕ → Sort → List Sort → Type 0
AtLeast n s ss = (n ≤ length ss) × All (λ a. a ≡ s) ss

-- two or more, each of one sort
abbrev pub AreAlike : List Sort → Type 0
AreAlike ss = (2 ≤ length ss) × ((s : Sort) × All (λ a. a ≡ s) ss)
