-- Private. The first assertions that are equal to wanted terms up to flips.
use Rattle.std.specs.Prelude.{◌≡◌, ◌<◌, ℕ, Bool, true, List, Option, IfSome, IfNone, AllPairs, Any, Contains}
use Rattle.flip_keys.specs.Assertions.{IsFirstLike}
use Rattle.pruned_proofs.specs.Reached.{is_kept}
use Rattle.sym_table.specs.Table.{Table}
use Rattle.term_model.specs.Flips.{EqualUpToFlips}
use Rattle.term_model.specs.Terms.{Term}
use Rattle.term_pool.specs.Views.{TermsView, RefersTo}

abbrev pub IsMarked : List Bool → ℕ → Type 0
IsMarked marks n = is_kept marks n ≡ true

-- of the assertions ts, the first one that is equal up to flips to the term of one of the references has this number
pub record IsFirstOfOne (s : Table) (v : TermsView) (ts : List Term) (references : List ℕ) (n : ℕ) : Type 0 where
  pub reference : ℕ
  pub there : Contains references reference
  pub term : Term
  pub refers : RefersTo s v reference term
  pub first : IsFirstLike ts term n

-- the first assertion that is equal to the term is marked
pub record HasMarkedFirst (ts : List Term) (t : Term) (marks : List Bool) : Type 0 where
  pub number : ℕ
  pub first : IsFirstLike ts t number
  pub marked : IsMarked marks number

-- For each reference to whose term some assertion is equal the first one is marked, and no other assertion is.
pub record AreFirsts (s : Table) (v : TermsView) (ts : List Term) (references : List ℕ) (marks : List Bool) : Type 0 where
  pub only : (n : ℕ) → IsMarked marks n → IsFirstOfOne s v ts references n
  pub each : (r : ℕ) (t : Term) → Contains references r → RefersTo s v r t → Any (λ a. EqualUpToFlips a t) ts → HasMarkedFirst ts t marks

-- the number is that of the first assertion that is equal to the term of the reference, or there is none
pub record TellsFirst (s : Table) (v : TermsView) (ts : List Term) (r : ℕ) (found : Option ℕ) : Type 0 where
  pub first : (t : Term) → RefersTo s v r t → IfSome found (IsFirstLike ts t)
  pub none : (t : Term) → RefersTo s v r t → IfNone found (¬ Any (λ a. EqualUpToFlips a t) ts)

-- the marked numbers below i, in rising order
pub record AreNumbersTo (marks : List Bool) (i : ℕ) (numbers : List ℕ) : Type 0 where
  pub rising : AllPairs (λ m n. m < n) numbers
  pub below : (n : ℕ) → Contains numbers n → n < i
  pub only : (n : ℕ) → Contains numbers n → IsMarked marks n
  pub each : (n : ℕ) → n < i → IsMarked marks n → Contains numbers n
