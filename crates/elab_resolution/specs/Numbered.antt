-- Private. References with numbers, and the terms for which they stand.
use Rattle.std.specs.Prelude.{◌≡◌, ◌<◌, ◌≤◌, ◌+◌, ◌≢◌, ℕ, List, [], ◌∷◌, ◌++◌, length, slice_index_or, Option, Some, Contains, nat_eq}
use Rattle.std.specs.HashMap.{get}
use Rattle.std.specs.Borrow.{Bor}
use Rattle.std.specs.List.{flat_map}
use Rattle.sym_table.specs.Table.{Table}
use Rattle.term_model.specs.Terms.{Term}
use Rattle.term_pool.specs.Views.{TermsView, RefersTo, ReferToAll}
use Rattle.elab_resolution.specs.declared.numbering.Numbering.{Numbering}
use Rattle.elab_resolution.specs.Counted.{top_in}
use Rattle.elab_resolution.specs.declared.counting.Counted.{Counted}
use Rattle.elab_resolution.specs.Levels.{AreLevels, HasLevels, IsLevelAbove, nots_of_number}
use Rattle.elab_resolution.specs.Spellings.{IsNearTo}

-- the number of a reference
abbrev pub number_in : Numbering → ℕ → Option ℕ
number_in n r = get nat_eq n.numbers r

abbrev pub reference_of : List ℕ → ℕ → ℕ
reference_of refs k = slice_index_or refs k 0

-- the references, the numbers of `not`s and the table of numbers are those of terms
pub record IsNumbering (s : Table) (v : TermsView) (n : Numbering) : Type 0 where
  pub terms : List Term
  pub refer : ReferToAll s v n.refs.items terms
  pub levels : AreLevels n.nots.items terms
  pub found : (r k : ℕ) → number_in n r ≡ Some k → (k < length n.refs.items) × (reference_of n.refs.items k ≡ r)
  pub finds : (k : ℕ) → k < length n.refs.items → number_in n (reference_of n.refs.items k) ≡ Some k

-- what had a number keeps it
pub record KeepsNumbers (old new : Numbering) : Type 0 where
  pub more_nots : List ℕ
  pub nots : new.nots.items ≡ old.nots.items ++ more_nots
  pub more_refs : List ℕ
  pub refs : new.refs.items ≡ old.refs.items ++ more_refs

-- one reference more has a number
pub record AddsNumber (old new : Numbering) (r x : ℕ) : Type 0 where
  pub nots : new.nots.items ≡ old.nots.items ++ x ∷ []
  pub refs : new.refs.items ≡ old.refs.items ++ r ∷ []
  pub here : number_in new r ≡ Some (length old.refs.items)
  pub others : (q : ℕ) → q ≢ r → number_in new q ≡ number_in old q

-- the reference has a number, and so have so many negations of its term
pub record HasTower (n : Numbering) (r height : ℕ) : Type 0 where
  pub number : ℕ
  pub is : reference_of n.refs.items number ≡ r
  pub levels : HasLevels n.nots.items number height

-- each term with a number that begins with no `not` has a tower of its height
abbrev pub AreTowersOf : (ℕ → Option ℕ) → Numbering → Type 0
AreTowersOf tops n = (k : ℕ) → k < length n.nots.items → nots_of_number n.nots.items k ≡ 0 →
    HasLevels n.nots.items k (top_in tops (reference_of n.refs.items k) + 3)

-- each term that has a number is one of these but for leading `not`s
abbrev pub AreAllSpelled : Table → TermsView → List Term → Numbering → Type 0
AreAllSpelled s v roots n = (k : ℕ) → k < length n.refs.items → (t : Term) → RefersTo s v (reference_of n.refs.items k) t → IsNearTo roots t

-- what stands above the bare terms of these literals, up to three `not`s more than there are, is one of these terms but for
-- leading `not`s
abbrev pub AreLevelsSpelled : Table → TermsView → (ℕ → Option ℕ) → List Counted → List Term → Type 0
AreLevelsSpelled s v tops literals roots =
    (x : Counted) → Contains literals x → (t u : Term) → RefersTo s v x.bare t → IsLevelAbove t (top_in tops x.bare + 3) u → IsNearTo roots u

-- the references of the literals of premises and of a clause, and of the constants
abbrev pub root_references : List (Bor (List ℕ)) → List ℕ → ℕ → ℕ → List ℕ
root_references premises clause truth falsity = flat_map (λ (p : Bor (List ℕ)). p.now) premises ++ (clause ++ truth ∷ falsity ∷ [])

-- the reference has a number, and so have three negations of its term
pub record HasRoomyNumber (n : Numbering) (r : ℕ) : Type 0 where
  pub number : ℕ
  pub is : number_in n r ≡ Some number
  pub room : (j : ℕ) → j ≤ 3 → (number + j < length n.nots.items) × (nots_of_number n.nots.items (number + j) ≡ nots_of_number n.nots.items number + j)
