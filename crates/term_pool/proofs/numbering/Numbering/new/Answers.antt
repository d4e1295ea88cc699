use Rattle.std.proofs.Common.{◌^◌, ◌≤◌, arith}
use Rattle.std.proofs.Math.Nat.{pow-le-pow_right}
use Rattle.term_pool.proofs.NumberingLemmas.{no_cells}
use Rattle.term_pool.proofs.numbering.Numbering.new.Goals as goal

pub returns-clause-numbering : goal.returns-clause-numbering
returns-clause-numbering c =
    let most : 2 ^ c.bits.result ≤ 2 ^ 26 = pow-le-pow_right {n = 2} (omega arith) c.bits.ensures.most in
    no_cells _ (omega arith) c.new.ensures.items (λ r. rw c.new-2.ensures.empty) (λ r. tt)
