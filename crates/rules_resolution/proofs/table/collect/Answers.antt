use Rattle.std.proofs.Common.{sym, ap}
use Rattle.std.specs.Global.{Vec}
use Rattle.rules_resolution.specs.Literal.{Lit}
use Rattle.rules_resolution.specs.Table.{occurrences_of}
use Rattle.rules_resolution.proofs.Tables.{occurrences_in-more}
use Rattle.rules_resolution.proofs.table.collect.Goals as goal

pub loop-premise-preserved : goal.loop-premise-preserved
loop-premise-preserved c =
    let more = occurrences_in-more c.args.premises.now c.loop-premise.premise c.index-premises-premise.result c.loop-premise-test.true in
    let here = ap (λ (v : Vec Lit). occurrences_of c.loop-premise.premise 0 v.items) c.index-premises-premise.is in
    rw (c.in_ok-add_premise.ensures, c.loop-premise.invariant, c.as_slice.ensures.value, here) (sym more)
