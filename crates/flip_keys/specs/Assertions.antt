-- Public. The references of assertions, when these can be asked, and which of them is the first that is equal to a term.
use Rattle.std.specs.Prelude.{◌≡◌, ◌<◌, ℕ, List, slice_get, Some, All, IsTrue}
use Rattle.pair_pool.specs.Views.{IsKnown}
use Rattle.term_model.specs.Flips.{EqualUpToFlips}
use Rattle.term_model.specs.Terms.{Term}
use Rattle.term_pool.specs.Views.{TermsView}
use Rattle.flip_keys.specs.declared.assertions.Assertions.{Assertions}
use Rattle.flip_keys.specs.FirstPlaces.{firsts_of, AreFirstPlaces}
use Rattle.flip_keys.specs.KeyTables.{AreClassKeys, HasJust, AreFound}

-- the references, in order
abbrev pub references_of : Assertions → List ℕ
references_of a = a.references.items

-- what the assertions keep is right by what the pass knows; their numbers are kept only once they were asked for
pub record AreAssertionsReady (v : TermsView) (a : Assertions) : Type 0 where
  pub known : All (IsKnown v.pass) (references_of a)
  pub placed : HasJust (references_of a) a.placed.keys
  pub keys : AreClassKeys v.pass a.keys
  pub found : IsTrue a.is_numbered → AreFound v.pass a.keys (references_of a) a.found.numbers.keys
  pub firsts : IsTrue a.is_numbered → AreFirstPlaces v.pass a.keys (references_of a) a.found.numbers.keys (firsts_of a.found)

-- of these terms, the first one that is equal to t up to flips stands at this place
pub record IsFirstLike (ts : List Term) (t : Term) (place : ℕ) : Type 0 where
  pub term : Term
  pub there : slice_get ts place ≡ Some term
  pub equal : EqualUpToFlips term t
  pub others : (n : ℕ) (u : Term) → n < place → slice_get ts n ≡ Some u → ¬ EqualUpToFlips u t
