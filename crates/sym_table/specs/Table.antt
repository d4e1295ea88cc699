-- Public. What a table of symbols says: which leaf stands for what, and the names of the declared sorts.
use Rattle.std.specs.Prelude.{pos, ◌≤ℤ◌, ℤ, ◌≡◌, ◌⊎◌, ℕ, List, [], ◌∷◌, ◌++◌, length, take, slice_get, count_by, Some, IsTrue, IsSomeAnd}
use Rattle.term_model.specs.declared.symbols.Sort.{Sort}
use Rattle.sym_table.specs.declared.kind.Kind.{Kind}
use Rattle.sym_table.specs.Leaf.{Leaf, numeral, kind_of, name_of, is_function, first_leaves}

-- the leaves by their numbers, and the names of the declared sorts by theirs
pub record Table : Type 0 where
  pub leaves : List Leaf
  pub sorts : List (List ℕ)

-- leaf k stands for l
abbrev pub IsLeaf : Table → ℕ → Leaf → Type 0
IsLeaf t k l = slice_get t.leaves k ≡ Some l

-- the declared sort n has this name
abbrev pub IsSort : Table → ℕ → List ℕ → Type 0
IsSort t n name = slice_get t.sorts n ≡ Some name

-- a sort of this name is declared
abbrev pub IsSortName : Table → List ℕ → Type 0
IsSortName t name = (n : ℕ) × IsSort t n name

-- the sort is the declared one of this name
abbrev pub IsDeclaredSort : Table → Sort → List ℕ → Type 0
IsDeclaredSort t Sort.Bool name = ⊥
IsDeclaredSort t Sort.Int name = ⊥
IsDeclaredSort t (Sort.Declared n) name = IsSort t n name

-- leaf k is there, and what it stands for meets P
abbrev pub LeafMeets : Table → ℕ → (Leaf → Type 0) → Type 0
LeafMeets t k P = IsSomeAnd (slice_get t.leaves k) P

-- leaf k is there, and stands for a function
abbrev pub IsFunctionLeaf : Table → ℕ → Type 0
IsFunctionLeaf t k = LeafMeets t k (λ l. IsTrue (is_function l))

-- leaf k stands for a function of this name
abbrev pub IsFunctionNamed : Table → ℕ → List ℕ → Type 0
IsFunctionNamed t k name = LeafMeets t k (λ l. IsTrue (is_function l) × (name_of l ≡ name))

-- a function of this name is declared
abbrev pub IsFunctionName : Table → List ℕ → Type 0
IsFunctionName t name = (k : ℕ) × IsFunctionNamed t k name

-- the kind is that of a function
abbrev pub IsFun : Kind → Type 0
IsFun (Kind.Fun number) = Unit {0}
IsFun Kind.Nil = ⊥
IsFun Kind.Let = ⊥
IsFun (Kind.Op op) = ⊥
IsFun (Kind.Var sort) = ⊥
IsFun (Kind.Num n) = ⊥

-- how many functions were declared before leaf k
abbrev pub functions_before : Table → ℕ → ℕ
functions_before t k = count_by is_function (take k t.leaves)

-- no leaf stands for l
abbrev pub LacksLeaf : Table → Leaf → Type 0
LacksLeaf t l = (k : ℕ) → IsLeaf t k l → ⊥

-- the table with one more leaf, or one more sort
abbrev pub with_leaf : Table → Leaf → Table
with_leaf t l = record t { leaves = t.leaves ++ l ∷ [] }

abbrev pub with_sort_name : Table → List ℕ → Table
with_sort_name t name = record t { sorts = t.sorts ++ name ∷ [] }

-- leaf k was there and nothing changed, or it is new and nothing else did
abbrev pub FindsOrAdds : Table → Table → ℕ → Leaf → Type 0
FindsOrAdds old new k l =
    (IsLeaf old k l × (new ≡ old)) ⊎ (LacksLeaf old l × (k ≡ length old.leaves) × (new ≡ with_leaf old l))

-- each leaf and each declared sort stays as it was
pub record Keeps (old new : Table) : Type 0 where
  pub leaves : (k : ℕ) (l : Leaf) → IsLeaf old k l → IsLeaf new k l
  pub sorts : (n : ℕ) (name : List ℕ) → IsSort old n name → IsSort new n name

-- what holds of every table: the first leaves are those of a new one; two leaves differ in kind or name, where
-- functions count as one kind; no numeral is negative; two sorts differ in name
pub record IsTable (t : Table) : Type 0 where
  pub begins : (k : ℕ) (l : Leaf) → slice_get first_leaves k ≡ Some l → IsLeaf t k l
  pub apart : (j k : ℕ) (l m : Leaf) → IsLeaf t j l → IsLeaf t k m → kind_of 0 l ≡ kind_of 0 m → name_of l ≡ name_of m → j ≡ k
  pub numerals : (k : ℕ) (n : ℤ) → IsLeaf t k (numeral n) → pos 0 ≤ℤ n
  pub sorts_apart : (m n : ℕ) (name : List ℕ) → IsSort t m name → IsSort t n name → m ≡ n
