-- Public. What is printed of holes about which fillers were asked, and the status with which the program ends.
use Rattle.std.specs.Prelude.{ℕ, Bool, true, false, List, [], ◌∷◌, ◌++◌, codes, if◌then◌else◌}
use Rattle.std.specs.List.{list_all}
use Rattle.sexpr.specs.Printing.{printed_symbol}
use Rattle.judged_texts.specs.declared.judgement.Hole.{Hole}
use Rattle.judged_texts.specs.Printed.{line_end, hole_line}
use Rattle.filled_texts.specs.declared.holes.AskedHoles.{AskedHoles}

-- a hole that is filled, by the symbols of its id and of its rule
abbrev pub filled_line : Hole → List ℕ
filled_line hole = codes "filled " ++ (printed_symbol hole.id.items ++ (codes " " ++ (printed_symbol hole.rule.items ++ line_end)))

-- the line of a hole where it is filled and those that are get one, and where it isn't and those that aren't do
abbrev pub line_where : Bool → Hole → Bool → List ℕ
line_where true hole true = filled_line hole
line_where false hole false = hole_line hole
line_where _ hole _ = []

abbrev pub lines_where : Bool → List Hole → List Bool → List ℕ
lines_where which (hole ∷ holes) (is_filled ∷ filled) = line_where which hole is_filled ++ lines_where which holes filled
lines_where which _ _ = []

-- whether all are
abbrev pub are_filled : AskedHoles → Bool
are_filled asked = list_all (λ is_filled. is_filled) asked.filled.items

-- the verdict that counts a hole that is filled as none, the holes that are not filled, and then those that are
abbrev pub text_of_asked : AskedHoles → List ℕ
text_of_asked asked =
    (if are_filled asked then codes "valid" else codes "holey")
    ++ (line_end ++ (lines_where false asked.holes.items asked.filled.items ++ lines_where true asked.holes.items asked.filled.items))

abbrev pub status_of_asked : AskedHoles → ℕ
status_of_asked asked = if are_filled asked then 0 else 2
