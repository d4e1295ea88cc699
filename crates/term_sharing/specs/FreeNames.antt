-- Private. Names that nothing else has.
use Rattle.std.specs.Prelude.{◌≡◌, ◌≤◌, ◌<◌, ◌^◌, ◌-◌, ℕ, false, List, slice_get, Some}
use Rattle.sym_table.specs.Leaf.{Leaf, name_of}
use Rattle.sym_table.specs.Table.{Table, IsLeaf}
use Rattle.term_pool.specs.Views.{TermsView}
use Rattle.problem_text.specs.Scripts.{Script}
use Rattle.problem_text.specs.Words.{is_among}
use Rattle.term_reader.specs.ProblemViews.{ProblemView, IsProblemOf}
use Rattle.term_printer.specs.Names.{name_numbered}

-- the name is among these
abbrev pub HasName : List (List ℕ) → List ℕ → Type 0
HasName names name = (k : ℕ) × (slice_get names k ≡ Some name)

-- what is there stays, and the name is there where it is that of a number
pub record Notes (old new : List (List ℕ)) (name : List ℕ) : Type 0 where
  pub kept : (x : List ℕ) → HasName old x → HasName new x
  pub noted : (j : ℕ) → name ≡ name_numbered j → HasName new name

-- the names of numbers that a leaf below the n-th has are among these
abbrev pub HasLeavesBelow : Table → ℕ → List (List ℕ) → Type 0
HasLeavesBelow s n names = (k : ℕ) (l : Leaf) (j : ℕ) → k < n → IsLeaf s k l → name_of l ≡ name_numbered j → HasName names (name_of l)

-- the name of the number is none of these, and the problem does not take it
pub record IsFreeName (p : ProblemView) (names : List (List ℕ)) (number : ℕ) : Type 0 where
  pub untaken : (s : Table) (v : TermsView) (sc : Script) → IsProblemOf s v p sc → is_among sc.taken (name_numbered number) ≡ false
  pub no_leaf : HasName names (name_numbered number) → ⊥

-- a free number from this one on
pub record IsNextFree (p : ProblemView) (names : List (List ℕ)) (from number : ℕ) : Type 0 where
  pub behind : from ≤ number
  pub few : number < 2 ^ 64 - 1
  pub free : IsFreeName p names number
