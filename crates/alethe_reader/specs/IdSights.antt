-- Private. Of the ids that are in use, those of commands, those of anchors, and the same as if assumes were the only commands.
use Rattle.std.specs.Prelude.{ℕ, List, [], ◌∷◌, ◌++◌}
use Rattle.rule_model.specs.Visibility.{Sight, sight}
use Rattle.alethe_reader.specs.declared.ids.Role.{Role}
use Rattle.alethe_reader.specs.declared.ids.Role.TheVariants.{Assume, Step, Anchor}
use Rattle.alethe_reader.specs.Ids.{Used}
use Rattle.alethe_reader.specs.IdsInUse.{in_use, hidden}

-- of some ids those of commands, and those of anchors
abbrev pub sight_of : Role → Used → List Sight
sight_of Assume u = sight u.number u.id ∷ []
sight_of Step u = sight u.number u.id ∷ []
sight_of Anchor u = []

abbrev pub sights_of : List Used → List Sight
sights_of [] = []
sights_of (u ∷ us) = sight_of u.role u ++ sights_of us

abbrev pub anchor_id_of : Role → Used → List (List ℕ)
anchor_id_of Assume u = []
anchor_id_of Step u = []
anchor_id_of Anchor u = u.id ∷ []

abbrev pub anchor_ids_of : List Used → List (List ℕ)
anchor_ids_of [] = []
anchor_ids_of (u ∷ us) = anchor_id_of u.role u ++ anchor_ids_of us

abbrev pub hide : Used → Used
hide u = in_use u.id (hidden u.role) u.number
