-- Private. Which cells are marked as having no variable in them, and when such marks are right.
use Rattle.std.specs.Prelude.{◌≡◌, ◌-◌, ◌^◌, ◌&&◌, ℕ, Bool, true, false, Option, Some, None, nat_le, slice_index_or, if◌then◌else◌}
use Rattle.pair_pool.specs.Trees.{Tree, leaf, cell}
use Rattle.pair_pool.specs.Views.{PassView, Knows}
use Rattle.contexts.specs.Becoming.{Look}
use Rattle.contexts.specs.Remembering.{remembered}
use Rattle.contexts.specs.declared.closed.Closed.{Closed}
use Rattle.contexts.specs.declared.closed.Mark.{Mark}
use Rattle.contexts.specs.declared.memo.Memo.{Memo}
use Rattle.contexts.specs.declared.places.Place.{Place}
use Rattle.contexts.specs.declared.places.Place.TheVariants.{Term, Bindings}

-- the mark says that no variable stands in the cell
abbrev pub says_closed : Mark → Bool
says_closed Mark.Untold = false
says_closed Mark.Open = false
says_closed Mark.Closed = true

-- the leaf is a plain one
abbrev pub has_plain : Closed → ℕ → Bool
has_plain c k = slice_index_or c.plain.items k false

-- the reference is that of a cell with this mark
abbrev pub is_closed : Closed → ℕ → Bool
is_closed c r = nat_le (2 ^ 30) r && says_closed (slice_index_or c.marks.items (r - 2 ^ 30) Mark.Untold)

-- each leaf of the tree is a plain one
abbrev pub HasPlainLeaves : Closed → Tree → Type 0
HasPlainLeaves c (leaf k) = has_plain c k ≡ true
HasPlainLeaves c (cell a b) = HasPlainLeaves c a × HasPlainLeaves c b

-- the reference is known as such a tree
pub record IsClosed (pass : PassView) (c : Closed) (r : ℕ) : Type 0 where
  pub tree : Tree
  pub known : Knows pass r tree
  pub plain : HasPlainLeaves c tree

-- what is marked is such a tree, and nothing is put in for a plain leaf
pub record IsClosedFor (pass : PassView) (put : Look) (c : Closed) : Type 0 where
  pub marks : (r : ℕ) → is_closed c r ≡ true → IsClosed pass c r
  pub apart : (k : ℕ) → has_plain c k ≡ true → put k ≡ None

-- what is found for the cell at a place: itself where it is marked, and else what is remembered
abbrev pub found_for : Closed → Memo → Place → Option ℕ
found_for c memo (Term r layer) = if is_closed c r then Some r else remembered memo (Term r layer)
found_for c memo (Bindings r layer) = remembered memo (Bindings r layer)

-- nothing is forgotten of plain leaves
abbrev pub KeepsPlain : Closed → Closed → Type 0
KeepsPlain old new = (k : ℕ) → has_plain old k ≡ true → has_plain new k ≡ true

-- what was right of the old marks is right of the new ones
abbrev pub StaysClosed : Closed → Closed → Type 0
StaysClosed old new = (pass : PassView) (put : Look) → IsClosedFor pass put old → IsClosedFor pass put new
