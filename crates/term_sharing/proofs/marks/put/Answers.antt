use Rattle.std.proofs.Common.{◌-◌, ◌^◌, ap}
use Rattle.term_sharing.proofs.MarkLemmas.{marked, met_now}
use Rattle.term_sharing.proofs.marks.put.Goals as goal

pub returns-clause-marks : goal.returns-clause-marks
returns-clause-marks c =
    marked c.args.marks.now.items c.reach.new.marks.items c.args.r _ c.args.mark c.requires.cell (ap (λ k. k - 2 ^ 30) c.number.ensures.number)
    c.in_ok-reach.ensures.same c.in_ok-reach.ensures.there

pub returns-clause-met : goal.returns-clause-met
returns-clause-met c =
    met_now c.args.marks.now.items c.reach.new.marks.items c.args.r _ c.args.mark c.requires.met c.requires.cell
    (ap (λ k. k - 2 ^ 30) c.number.ensures.number)
    c.in_ok-reach.ensures.same c.in_ok-reach.ensures.met c.in_ok-reach.ensures.there
