-- Private. How lists stand end to end in one.
use Rattle.std.specs.Prelude.{◌≡◌, ◌≤◌, ◌<◌, ◌-◌, ℕ, zero, suc, List, [], ◌∷◌, ◌++◌, length, take, drop, replicate, slice_index_or}

-- the lists that begin at `start` and end at these places
abbrev pub parts : {X : Type 0} → ℕ → List ℕ → List X → List (List X)
parts start [] xs = []
parts start (e ∷ es) xs = take (e - start) (drop start xs) ∷ parts e es xs

-- where the one at place i starts
abbrev pub start_of : ℕ → List ℕ → ℕ → ℕ
start_of start es zero = start
start_of start [] (suc i) = start
start_of start (e ∷ es) (suc i) = start_of e es i

-- the places go up from `start` to `end`
abbrev pub AreListEnds : ℕ → List ℕ → ℕ → Type 0
AreListEnds start [] end = start ≡ end
AreListEnds start (e ∷ es) end = (start ≤ e) × AreListEnds e es end

-- the ends with those of empty lists behind all others, up to place i
abbrev pub filled : ℕ → List ℕ → ℕ → List ℕ
filled i es end = es ++ replicate (i - length es) end

-- the first n are the same, where a list behind the last one is empty
abbrev pub SameBelow : {X : Type 0} → ℕ → List (List X) → List (List X) → Type 0
SameBelow n old new = (k : ℕ) → k < n → slice_index_or new k [] ≡ slice_index_or old k []
