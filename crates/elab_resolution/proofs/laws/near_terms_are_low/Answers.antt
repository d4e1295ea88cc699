use Rattle.std.proofs.Common.{◌≡◌, ◌+◌, ℕ, zero, suc, ap, arith}
use Rattle.term_model.specs.Heights.{height, highest}
use Rattle.term_model.specs.Terms.{Term, not_of}
use Rattle.term_pool.specs.Nots.{negated}
use Rattle.elab_resolution.proofs.laws.near_terms_are_low.Goals as goal

height_not : (t : Term) → height (not_of t) ≡ height t + 1
unfolding height highest
height_not t = omega arith

height_negated : (n : ℕ) (t : Term) → height (negated n t) ≡ height t + n
height_negated zero t = omega arith
height_negated (suc n) t = let ih = height_negated n t in let more = height_not (negated n t) in omega arith

pub returns : goal.returns
returns c roots t near =
    let a = height_negated near.nots t in
    let b = height_negated 3 near.root in
    let e = ap height near.same in
    (near.root, near.is, omega arith)
