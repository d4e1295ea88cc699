-- What the settings of a problem's terms are.
use Rattle.std.proofs.Common.{◌≡◌, ap, Bool, Some}
use Rattle.problem_text.specs.Limits.{Settings, limited, most_height}

pub replaces_so : (x : Settings) (b : Bool) → x ≡ limited b → x.replaces_lets ≡ b
replaces_so x b e = ap (λ (y : Settings). y.replaces_lets) e

pub limit_so : (x : Settings) (b : Bool) → x ≡ limited b → x.limit ≡ Some most_height
limit_so x b e = ap (λ (y : Settings). y.limit) e
