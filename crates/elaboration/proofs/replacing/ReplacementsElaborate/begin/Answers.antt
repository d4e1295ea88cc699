use Rattle.std.proofs.Common.{get_or}
use Rattle.term_pool.proofs.References.{refer_are_terms}
use Rattle.elaboration.proofs.replacing.ReplacementsElaborate.begin.Goals as goal

pub new-requires : goal.new-requires
new-requires c =
    let s = c.args.self.now.symbols.now in
    let v = c.args.terms.now in
    let asserted = c.args.self.now.problem.now.assertions in
    let can = c.requires.fits in
    rw c.assertions_of.ensures
    (λ k d below. let t = refer_are_terms s v asserted can.assertions can.refer k d below in record { tree = t.refers.tree; stands = t.refers.known })
