-- What is left of the open files after one of them is read on, and after one more is opened.
use Rattle.std.proofs.Common.{◌≡◌, ◌≢◌, ◌∙◌, refl, sym, ap, arith, length-append, ℕ, ◌<◌, ◌≤◌, min, List, [], ◌∷◌, ◌++◌, length, Some, slice_get, get_or}
use Rattle.std.proofs.Math.ListN.{set}
use Rattle.std.proofs.lemmas.Option.{slice_get-map, slice_get-get_or}
use Rattle.std.specs.Option.{option_map}
use Rattle.file_ports.proofs.Gets.{slice_get-set_here, slice_get-set_other, slice_get-push_other}
use Rattle.file_ports.specs.Opened.{rest_of, rests_of}
use Rattle.file_ports.specs.declared.memory_folder.Opened.{Opened}

-- the files of other numbers stay when one more is opened
pub rests_of-push_other : (files : List (List ℕ × List ℕ)) (opened : List Opened) (added : Opened) (n : ℕ) → n ≢ length opened
    → slice_get (rests_of files (opened ++ added ∷ [])) n ≡ slice_get (rests_of files opened) n
rests_of-push_other files opened added n other =
    slice_get-map (rest_of files) (opened ++ added ∷ []) n ∙ ap (option_map (rest_of files)) (slice_get-push_other opened added n other)
    ∙ sym (slice_get-map (rest_of files) opened n)

-- the files of other numbers stay when one is read on
pub rests_of-set_other : (files : List (List ℕ × List ℕ)) (opened : List Opened) (k : ℕ) (read : Opened) (n : ℕ) → n ≢ k
    → slice_get (rests_of files (set opened k read)) n ≡ slice_get (rests_of files opened) n
rests_of-set_other files opened k read n other =
    slice_get-map (rest_of files) (set opened k read) n ∙ ap (option_map (rest_of files)) (slice_get-set_other opened k n read other)
    ∙ sym (slice_get-map (rest_of files) opened n)

-- and what is left of that one is what its new place leaves
pub rests_of-set_here : (files : List (List ℕ × List ℕ)) (opened : List Opened) (k : ℕ) (read : Opened) → k < length opened
    → slice_get (rests_of files (set opened k read)) k ≡ Some (rest_of files read)
rests_of-set_here files opened k read within =
    slice_get-map (rest_of files) (set opened k read) k ∙ ap (option_map (rest_of files)) (slice_get-set_here opened k read within)

-- what is left of one of the open files
pub rests_of-here : (files : List (List ℕ × List ℕ)) (opened : List Opened) (k : ℕ) (d : Opened) → k < length opened
    → slice_get (rests_of files opened) k ≡ Some (rest_of files (get_or opened k d))
rests_of-here files opened k d within =
    slice_get-map (rest_of files) opened k ∙ ap (option_map (rest_of files)) (slice_get-get_or opened k d within)

-- a read that gave nothing, though it could give some, leaves nothing
pub nothing_left : (before taken after : List ℕ) (most room : ℕ) → before ≡ taken ++ after → 0 ≡ min most (min room (length before)) → 1 ≤ most → 0 < room → after ≡ []
nothing_left before taken [] most room e none some has_room = refl
nothing_left before taken (x ∷ xs) most room e none some has_room = absurd (omega (arith, ap length e, length-append taken (x ∷ xs)))
