-- Private. The ids of assembled commands: nine letters, each a hexadecimal digit from a on, the last digit first.
use Rattle.std.specs.Prelude.{◌+◌, ◌-◌, ◌*◌, ◌/◌, ◌%◌, ℕ, List, [], ◌∷◌}

abbrev pub letter : ℕ → ℕ
letter n = 97 + n % 16

unfoldable pub name_of : ℕ → List ℕ
name_of n =
    letter n ∷ letter (n / 16) ∷ letter (n / 16 / 16) ∷ letter (n / 16 / 16 / 16) ∷ letter (n / 16 / 16 / 16 / 16)
    ∷ letter (n / 16 / 16 / 16 / 16 / 16) ∷ letter (n / 16 / 16 / 16 / 16 / 16 / 16) ∷ letter (n / 16 / 16 / 16 / 16 / 16 / 16 / 16)
    ∷ letter (n / 16 / 16 / 16 / 16 / 16 / 16 / 16 / 16) ∷ []

-- the number of an id
unfoldable pub number_of : List ℕ → ℕ
number_of [] = 0
number_of (b ∷ bs) = (b - 97) + 16 * number_of bs
