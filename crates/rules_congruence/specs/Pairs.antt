-- Private. Lists of pairs: of references, or of the terms for which they stand.
use Rattle.std.specs.Prelude.{◌≡◌, ◌≢◌, ◌⊎◌, Bool, true, false, List, [], ◌∷◌, Contains}

-- two things are the ends of a pair, in this order or the other
abbrev pub AreEnds : {X : Type 0} → List (X × X) → X → X → Type 0
AreEnds pairs x y = Contains pairs (x, y) ⊎ Contains pairs (y, x)

-- each pair begins where the one before it ends
abbrev pub IsPath : {X : Type 0} → List (X × X) → X → X → Type 0
IsPath [] x y = x ≡ y
IsPath (p ∷ ps) x y = (p.0 ≡ x) × IsPath ps p.1 y

-- The pairs are the items of two lists place by place, in order: of all places, or of those where the items differ.
abbrev pub AreUsed : {X : Type 0} → Bool → List (X × X) → List X → List X → Type 0
AreUsed all pairs [] [] = pairs ≡ []
AreUsed all pairs [] (y ∷ ys) = ⊥
AreUsed all pairs (x ∷ xs) [] = ⊥
AreUsed {X} all pairs (x ∷ xs) (y ∷ ys) =
    (((all ≡ false) × (x ≡ y)) × AreUsed all pairs xs ys)
    ⊎ (((all ≡ true) ⊎ (x ≢ y)) × ((rest : List (X × X)) × (pairs ≡ (x, y) ∷ rest) × AreUsed all rest xs ys))
