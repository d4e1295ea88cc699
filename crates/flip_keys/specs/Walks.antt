-- Private. What the walk that numbers terms remembers, and what a visit comes to.
use Rattle.std.specs.Prelude.{◌≡◌, ◌≢◌, ◌⊎◌, ◌<◌, ◌+◌, ℕ, false, List, Option, Some, None}
use Rattle.std.specs.HashMap.{HashMap, get, hash_map_len}
use Rattle.std.specs.declared.hash.BuildHasherDefault.{BuildHasherDefault}
use Rattle.std.specs.declared.hash.FoldHasher.{FoldHasher}
use Rattle.pair_pool.specs.Trees.{Tree, cell}
use Rattle.pair_pool.specs.Views.{PassView, Knows, IsKnown}
use Rattle.term_pool.specs.Heights.{is_let_head}
use Rattle.term_pool.specs.StandsFor.{nil_tree}
use Rattle.term_pool.specs.Trees.{depth}
use Rattle.flip_keys.specs.contracts.memory.ItemPartialEq.TheImpl as items
use Rattle.flip_keys.specs.declared.classes.Class.{Class}
use Rattle.flip_keys.specs.declared.memory.Both.{Both}
use Rattle.flip_keys.specs.declared.memory.Item.{Item}
use Rattle.flip_keys.specs.declared.memory.Item.TheVariants.{Term, List as ListOf}
use Rattle.flip_keys.specs.declared.visiting.Visit.{Visit}
use Rattle.flip_keys.specs.Classes.{is_equality_list, IsTermNumber, IsListNumber}
use Rattle.flip_keys.specs.Numbers.{IsNumberedAt}

abbrev pub item_reference : Item → ℕ
item_reference (Term r) = r
item_reference (ListOf r) = r

-- the number of the tree that stands there
abbrev pub IsClassNumber : PassView → List Class → Item → Tree → ℕ → Type 0
IsClassNumber pass classes (Term r) t k = IsTermNumber (Knows pass) classes t k
IsClassNumber pass classes (ListOf r) t k = IsListNumber (Knows pass) classes t k

pub record HasClassNumber (pass : PassView) (classes : List Class) (x : Item) (k : ℕ) : Type 0 where
  pub tree : Tree
  pub known : Knows pass (item_reference x) tree
  pub number : IsClassNumber pass classes x tree k

-- what is remembered
abbrev pub Memo : Type 0
Memo = HashMap Item ℕ (BuildHasherDefault FoldHasher)

abbrev pub number_remembered : Memo → Item → Option ℕ
number_remembered memo x = get (items.ghosts).eq memo x

abbrev pub AreNumbers : PassView → List Class → Memo → Type 0
AreNumbers pass classes memo = (x : Item) (k : ℕ) → number_remembered memo x ≡ Some k → HasClassNumber pass classes x k

-- one item more is remembered, and what there was
pub record RemembersItem (old new : Memo) (x : Item) (k : ℕ) : Type 0 where
  pub here : number_remembered new x ≡ Some k
  pub others : (y : Item) → y ≢ x → number_remembered new y ≡ number_remembered old y
  pub size : hash_map_len new ≡ hash_map_len old + 1

-- the numbers of two items, or one of them that has none
abbrev pub IsBoth : Memo → Item → Item → Both → Type 0
IsBoth memo x y (Both.Part z) = ((z ≡ x) ⊎ (z ≡ y)) × (number_remembered memo z ≡ None)
IsBoth memo x y (Both.Numbers m n) = (number_remembered memo x ≡ Some m) × (number_remembered memo y ≡ Some n)

-- y is known, and less deep than x
pub record IsItemBelow (pass : PassView) (x y : Item) : Type 0 where
  pub known : IsKnown pass (item_reference y)
  pub less : (s t : Tree) → Knows pass (item_reference x) s → Knows pass (item_reference y) t → depth t < depth s

-- a visit of x has found its class, or a part of it that has no number
abbrev pub IsItemVisit : PassView → Memo → Item → Visit → Type 0
IsItemVisit pass memo x (Visit.Part y) = IsItemBelow pass x y × (number_remembered memo y ≡ None)
IsItemVisit pass memo x (Visit.Done class) =
    (classes : List Class) → AreNumbers pass classes memo → (k : ℕ) → IsNumberedAt classes k class → (t : Tree) →
    Knows pass (item_reference x) t → IsClassNumber pass classes x t k

-- the two items of a list that has two
abbrev pub AreListItems : PassView → ℕ → Option (ℕ × ℕ) → Type 0
AreListItems pass list None = (a b : Tree) → Knows pass list (cell a (cell b nil_tree)) → ⊥
AreListItems pass list (Some p) =
    (a : Tree) × (b : Tree) × Knows pass list (cell a (cell b nil_tree)) × Knows pass p.0 a × Knows pass p.1 b

-- the sides of an equality of two terms, by its head and the list of its arguments
abbrev pub AreEqualitySides : PassView → ℕ → ℕ → Option (ℕ × ℕ) → Type 0
AreEqualitySides pass head list None = (s t : Tree) → Knows pass head s → Knows pass list t → is_equality_list s t ≡ false
AreEqualitySides pass head list (Some p) =
    (head ≡ 9) × ((a : Tree) × (b : Tree) × Knows pass list (cell a (cell b nil_tree)) × Knows pass p.0 a × Knows pass p.1 b)

-- the head of the cell is not that of a let
abbrev pub HasOtherHead : PassView → ℕ → Type 0
HasOtherHead pass r = (a b : Tree) → Knows pass r (cell a b) → is_let_head a ≡ false
