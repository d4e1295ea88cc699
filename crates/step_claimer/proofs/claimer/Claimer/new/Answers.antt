use Rattle.std.proofs.Common.{ap, sym}
use Rattle.step_claimer.proofs.Seating.{opening_live}
use Rattle.step_claimer.proofs.claimer.Claimer.new.Goals as goal

pub invariant_of-seat : goal.invariant_of-seat
invariant_of-seat c =
    let is = c.in_ok-table.ensures.4 in
    (opening_live c.args.n _ is, sym (ap (λ me. me.0.count) is), sym (ap (λ me. me.0.ended) is), c.requires.most)
