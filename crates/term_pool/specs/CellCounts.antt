-- Public. How many distinct cells trees have.
use Rattle.std.specs.Prelude.{◌≡◌, ℕ, ◌⊎◌, List, [], ◌∷◌, length}
use Rattle.pair_pool.specs.Trees.{Tree}
use Rattle.term_pool.specs.Trees.{IsPartOf, IsCellTree}

-- the list has the item
abbrev pub Has : {X : Type 0} → List X → X → Type 0
Has [] x = ⊥
Has (y ∷ ys) x = (x ≡ y) ⊎ Has ys x

-- no item of the list comes again
abbrev pub AreApart : {X : Type 0} → List X → Type 0
AreApart [] = Unit {0}
AreApart (x ∷ xs) = (Has xs x → ⊥) × AreApart xs

-- the tree is one of the trees or a part of one
abbrev pub IsPartOfAny : Tree → List Tree → Type 0
IsPartOfAny part [] = ⊥
IsPartOfAny part (t ∷ ts) = IsPartOf part t ⊎ IsPartOfAny part ts

-- n distinct trees are the cells among the trees and their parts
pub record CountsCells (trees : List Tree) (n : ℕ) : Type 0 where
  pub cells : List Tree
  pub apart : AreApart cells
  pub sound : (t : Tree) → Has cells t → IsCellTree t × IsPartOfAny t trees
  pub complete : (t : Tree) → IsCellTree t → IsPartOfAny t trees → Has cells t
  pub count : length cells ≡ n
