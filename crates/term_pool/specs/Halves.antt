-- Public. What a split makes of a value with a pass, and what a join makes of two.
use Rattle.std.specs.Prelude.{◌≡◌, ℕ, ◌+◌, ◌-◌, ◌<◌, ◌⊎◌, []}
use Rattle.pair_pool.specs.Views.{IsPlaced, Grows, SeesMore}
use Rattle.term_pool.specs.Views.{TermsView}

-- Both halves are on the pool of the old one, and have seen and know what it has. The second has placed nothing, and has one
-- share of it.
pub record AreHalves (old left right : TermsView) : Type 0 where
  pub some : 1 < old.pass.shares
  pub pool : left.pool ≡ old.pool
  pub places : left.pass.places ≡ old.pass.places
  pub shares : left.pass.shares ≡ old.pass.shares - 1
  pub seen : left.pass.seen ≡ old.pass.seen
  pub known : left.pass.known ≡ old.pass.known
  pub placed : left.pass.placed ≡ old.pass.placed
  pub right_pool : right.pool ≡ old.pool
  pub right_places : right.pass.places ≡ old.pass.places
  pub right_shares : right.pass.shares ≡ 1
  pub right_seen : right.pass.seen ≡ old.pass.seen
  pub right_known : right.pass.known ≡ old.pass.known
  pub right_placed : right.pass.placed ≡ []

-- the new one is the first, and has taken the other in
pub record IsJoined (one other new : TermsView) : Type 0 where
  pub pool : new.pool ≡ one.pool
  pub places : new.pass.places ≡ one.pass.places
  pub shares : new.pass.shares ≡ one.pass.shares + other.pass.shares
  pub grows : Grows one.pass new.pass
  pub other_grows : Grows other.pass new.pass
  pub sees : SeesMore one.pass new.pass
  pub other_sees : SeesMore other.pass new.pass
  pub placed : (r a b : ℕ) → IsPlaced new.pass r a b → IsPlaced one.pass r a b ⊎ IsPlaced other.pass r a b
