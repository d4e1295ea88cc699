-- What is left of a list from a place on.
use Rattle.std.proofs.Common.{◌≡◌, ◌<◌, ◌+◌, ℕ, List, ◌∷◌, drop, length, slice_index_or, sym, ◌∙◌, ap}
use Rattle.std.proofs.lemmas.List.{drop_more}

pub drop_here : {X : Type 0} (xs : List X) (k : ℕ) (x : X) → k < length xs → x ≡ slice_index_or xs k x → drop k xs ≡ x ∷ drop (k + 1) xs
drop_here xs k x below is =
    drop_more xs k x below ∙ ap (λ y. y ∷ drop (k + 1) xs) (sym is)
