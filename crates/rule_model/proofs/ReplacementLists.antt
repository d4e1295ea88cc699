-- What holds of each item of lists that are joined or filtered.
use Rattle.std.proofs.Common.{List, [], ◌∷◌, Bool, true, false, cond, filter}
use Rattle.std.specs.List.{AllByRecursion}

pub all_filtered : {X : Type 0} (P : X → Type 0) (test : X → Bool) (xs : List X) → AllByRecursion P xs → AllByRecursion P (filter test xs)
all_filtered P test [] h = tt
all_filtered P test (x ∷ xs) h = go (test x) (all_filtered P test xs h.1)
  where
    go : (b : Bool) → AllByRecursion P (filter test xs) → AllByRecursion P (cond b (x ∷ filter test xs) (filter test xs))
    go true k = (h.0, k)
    go false k = k
