use Rattle.std.proofs.Common.{◌<◌, arith}
use Rattle.rules_congruence.specs.Links.{link}
use Rattle.rules_congruence.proofs.LinkLemmas.{found_by}
use Rattle.rules_congruence.proofs.TurningLemmas.{iff_trans}
use Rattle.rules_congruence.proofs.links.has.Goals as goal

pub returns-then-place-links : goal.returns-then-place-links
returns-then-place-links c =
    let bound = c.number-2.ensures.bound in
    let small : c.args.to < 4294967296 = rw (← c.number-2.ensures.number) (omega (arith, bound)) in
    let below = c.if-place-links.true in
    iff_trans (rw (c.number.ensures.number, c.number-2.ensures.number) at c.is_at.ensures)
    (found_by c.args.links.now (link c.args.from c.args.to) c.first_from-place.result c.requires.rising c.requires.small small
    (rw (c.rank.ensures, c.number.ensures.number, c.number-2.ensures.number) at c.first_from-place.ensures) (omega arith))
