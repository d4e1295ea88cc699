use Rattle.std.proofs.Common.{arith}
use Rattle.chain_plan.proofs.Towers.{nots_most}
use Rattle.chain_plan.proofs.spellings.Spellings.plain.Goals as goal

pub overflow_sub-result-2 : goal.overflow_sub-result-2
overflow_sub-result-2 c =
    let most = nots_most c.args.self.now c.requires.towers c.args.number c.requires.within in
    let is = c.nots_of-nots.ensures in
    omega arith
