-- Private. Whether two literals over numbers are the same, and whether one is false, as tests.
use Rattle.std.specs.Prelude.{Bool, true, false, not, ◌&&◌, ◌||◌, nat_eq, List}
use Rattle.std.specs.List.{list_any}
use Rattle.rule_model.specs.declared.literal.Literal.TheVariants.{Plain, Always, Never}
use Rattle.rules_resolution.specs.Literal.{Lit}

abbrev pub same_bool : Bool → Bool → Bool
same_bool true b = b
same_bool false b = not b

abbrev pub same_literal : Lit → Lit → Bool
same_literal (Plain a m) (Plain b n) = nat_eq a b && same_bool m n
same_literal (Plain a m) Always = false
same_literal (Plain a m) Never = false
same_literal Always (Plain b n) = false
same_literal Always Always = true
same_literal Always Never = false
same_literal Never (Plain b n) = false
same_literal Never Always = false
same_literal Never Never = true

-- whether `IsFalse` holds
abbrev pub is_false_in : List Lit → Lit → Bool
is_false_in falses l = same_literal l Never || list_any (same_literal l) falses
