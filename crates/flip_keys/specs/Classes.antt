-- Private. The numbers of terms and of lists of terms, over their trees: of what is equal up to flips it is one number.
use Rattle.std.specs.Prelude.{ℕ, Bool, true, false, ◌&&◌, if◌then◌else◌, nat_le, List}
use Rattle.pair_pool.specs.Trees.{Tree, leaf, cell}
use Rattle.term_pool.specs.Heights.{is_let_head}
use Rattle.term_pool.specs.Pairs.{same_tree}
use Rattle.term_pool.specs.StandsFor.{nil_tree}
use Rattle.flip_keys.specs.declared.classes.Class.{Class}
use Rattle.flip_keys.specs.Numbers.{IsNumberedAt}

-- the lower of two numbers, and the higher one
abbrev pub least : ℕ → ℕ → ℕ
least m n = if nat_le m n then m else n

abbrev pub most : ℕ → ℕ → ℕ
most m n = if nat_le m n then n else m

-- the class of an equality whose sides have these numbers
abbrev pub side_class : ℕ → ℕ → Class
side_class m n = Class.Equality (least m n) (most m n)

-- the tree as a list has two items
abbrev pub is_pair : Tree → Bool
is_pair (leaf k) = false
is_pair (cell a (leaf k)) = false
is_pair (cell a (cell b end)) = same_tree end nil_tree

-- the head and the list of arguments are those of an equality of two terms. The leaf of `=` is 9 in every table.
abbrev pub is_equality_list : Tree → Tree → Bool
is_equality_list head list = same_tree head (leaf 9) && is_pair list

-- by the relation of references to trees, and the classes by their numbers: the tree is of the class of its own reference
pub record IsAlone (K : ℕ → Tree → Type 0) (C : List Class) (t : Tree) (k : ℕ) : Type 0 where
  pub reference : ℕ
  pub known : K reference t
  pub class : IsNumberedAt C k (Class.Alone reference)

abbrev pub pick : Bool → Type 0 → Type 0 → Type 0
pick true A B = A
pick false A B = B

abbrev mutual
  -- the number of a tree as a term
  pub IsTermNumber : (ℕ → Tree → Type 0) → List Class → Tree → ℕ → Type 0
  IsTermNumber K C (leaf j) k = IsAlone K C (leaf j) k
  IsTermNumber K C (cell head list) k =
      pick (is_let_head head) (IsAlone K C (cell head list) k)
      (pick (is_equality_list head list) (IsSidesNumber K C list k)
      ((r : ℕ) × (n : ℕ) × K r head × IsListNumber K C list n × IsNumberedAt C k (Class.Application r n)))

  -- and as a list of terms
  pub IsListNumber : (ℕ → Tree → Type 0) → List Class → Tree → ℕ → Type 0
  IsListNumber K C (leaf j) k = IsAlone K C (leaf j) k
  IsListNumber K C (cell first rest) k =
      (m : ℕ) × (n : ℕ) × IsTermNumber K C first m × IsListNumber K C rest n × IsNumberedAt C k (Class.Arguments m n)

  -- and of an equality of the two terms of a list
  pub IsSidesNumber : (ℕ → Tree → Type 0) → List Class → Tree → ℕ → Type 0
  IsSidesNumber K C (leaf j) k = ⊥
  IsSidesNumber K C (cell a (leaf j)) k = ⊥
  IsSidesNumber K C (cell a (cell b end)) k =
      (m : ℕ) × (n : ℕ) × IsTermNumber K C a m × IsTermNumber K C b n × IsNumberedAt C k (side_class m n)
