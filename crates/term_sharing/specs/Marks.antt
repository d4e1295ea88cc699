-- Private. What a walk over terms knows of cells, and what it has found.
use Rattle.std.specs.Prelude.{◌≡◌, ◌≢◌, ◌⊎◌, ◌+◌, ◌-◌, ◌<◌, ◌^◌, ℕ, nat_lt, if◌then◌else◌, Bool, true, false, List, [], ◌∷◌, All, vec_len, slice_index_or}
use Rattle.sym_table.specs.Table.{Table}
use Rattle.term_pool.specs.Views.{TermsView}
use Rattle.sort_check.specs.WellSorted.{IsWellSortedTerm}
use Rattle.term_sharing.specs.NamedTerms.{IsClosed, MayHaveName}
use Rattle.term_sharing.specs.declared.marks.Mark.{Mark}
use Rattle.term_sharing.specs.declared.uses.Uses.{Uses}

-- the mark of the cell of a reference
abbrev pub mark_at : List Mark → ℕ → Mark
mark_at marks r = if nat_lt r (2 ^ 30) then Mark.Unmet else slice_index_or marks (r - 2 ^ 30) Mark.Unmet

-- whether a mark is that of a cell that was met
abbrev pub is_met : Mark → Bool
is_met Mark.Unmet = false
is_met Mark.Entered = true
is_met Mark.Open = true
is_met Mark.Closed = true
is_met Mark.Found = true

-- how many cells were met
abbrev pub met : List Mark → ℕ
met [] = 0
met (m ∷ ms) = met ms + (if is_met m then 1 else 0)

-- the cell of the reference has this mark now, and each other cell the one that it had
pub record IsMarked (old new : List Mark) (r : ℕ) (m : Mark) : Type 0 where
  pub here : mark_at new r ≡ m
  pub elsewhere : (q : ℕ) → q ≢ r → mark_at new q ≡ mark_at old q

-- whether a mark says that no variable stands in the cell
abbrev pub says_closed : Mark → Bool
says_closed Mark.Unmet = false
says_closed Mark.Entered = false
says_closed Mark.Open = false
says_closed Mark.Closed = true
says_closed Mark.Found = true

-- the marks are right
abbrev pub AreRight : Table → TermsView → (ℕ → Mark) → Type 0
AreRight s v marks = (r : ℕ) → says_closed (marks r) ≡ true → IsClosed s v r

-- What is left are well-sorted terms, the marks are right, and the closed terms may have names.
pub record AreUses (s : Table) (v : TermsView) (u : Uses) : Type 0 where
  pub left : All (IsWellSortedTerm s v) u.left.items
  pub marks : AreRight s v (mark_at u.marks.items)
  pub closed : All (MayHaveName s v) u.closed.items

-- One cell more was met, of few enough, or none was and nothing more is left.
abbrev pub IsNearer : Uses → Uses → Type 0
IsNearer old new =
    ((met new.marks.items ≡ met old.marks.items) × (vec_len new.left ≡ vec_len old.left))
    ⊎ ((met old.marks.items < 2 ^ 64) × (met new.marks.items ≡ met old.marks.items + 1) × (vec_len new.left < 2 ^ 64))
