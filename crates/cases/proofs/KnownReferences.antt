-- References that a pass knows.
use Rattle.std.proofs.Common.{◌≡◌, ℕ, List, All, Some, slice_get, subst}
use Rattle.std.proofs.lemmas.Option.{get_or_from_slice_get, slice_get_within}
use Rattle.pair_pool.specs.Views.{PassView, IsKnown}

-- one of a list of references that are known
pub known_item : (pass : PassView) (rs : List ℕ) (i r : ℕ) → All (IsKnown pass) rs → slice_get rs i ≡ Some r → IsKnown pass r
known_item pass rs i r known at = subst (IsKnown pass) (get_or_from_slice_get rs i r r at) (known i r (slice_get_within rs i r at))
