-- Cited by crates above. A body is lower than its let.
use Rattle.std.proofs.Common.{◌<◌, arith}
use Rattle.term_model.specs.Heights.{height}
use Rattle.term_model.specs.Terms.{Term, Bindings, let_in}

pub body_lower : (bs : Bindings) (u : Term) → height u < height (let_in bs u)
unfolding height
body_lower bs u = omega arith
