use Rattle.std.proofs.Common.{List, length, vec_len, refl, ap, arith, length-append}
use Rattle.std.specs.Global.{Vec}
use Rattle.std.proofs.lemmas.List.{take_all}
use Rattle.clause_chain.specs.Chaining.{clauses_of}
use Rattle.rules_resolution.specs.Literal.{Lit}
use Rattle.rules_resolution.specs.Renaming.{joined_clauses}
use Rattle.rules_resolution.proofs.Keys.{joined_length}
use Rattle.rules_resolution.proofs.renaming.literal_count.Goals as goal

pub loop-clause-preserved : goal.loop-clause-preserved
loop-clause-preserved c =
    let long = c.clause-item.result.ok.0 in
    let answered = c.len.ensures in
    let short = c.requires.literals c.loop-clause.clause-index c.clause-item.result c.loop-clause-test.true in
    let same = ap (λ (v : Vec Lit). vec_len v) c.clause-item.is in
    let more = joined_length c.args.premises.now c.loop-clause.clause-index _ c.len.result c.clause-item.result c.loop-clause-test.true c.clause-item.is (omega arith) refl in
    let counted = c.loop-clause.invariant.0 in
    let bound = c.loop-clause.invariant.1 in
    (omega arith, omega arith)

pub returns : goal.returns
returns c =
    let total = length-append (joined_clauses (clauses_of c.args.premises.now)) c.args.goal.now in
    let all = ap (λ (vs : List (Vec Lit)). length (joined_clauses (clauses_of vs))) (take_all c.loop-clause.clause-index c.args.premises.now (omega arith)) in
    let counted = c.loop-clause.invariant.0 in
    omega arith
