use Rattle.std.proofs.Common.{◌<◌, ◌^◌, length, length-append, vec_len, get_or, take, ◌∙◌, ap, arith}
use Rattle.std.specs.Global.{Vec}
use Rattle.std.specs.Vec.{with_items}
use Rattle.std.proofs.lemmas.List.Elements.{All-set}
use Rattle.clause_chain.specs.Chaining.{clauses_of}
use Rattle.rules_resolution.specs.Literal.{Lit}
use Rattle.rules_resolution.specs.Renaming.{joined_clauses}
use Rattle.rules_resolution.proofs.InPlace.{clause_still, clause_in_place, written}
use Rattle.rules_resolution.proofs.Keys.{joined-le, joined-more}
use Rattle.rules_resolution.proofs.renaming.rename_all.Goals as goal

pub rename_here-requires : goal.rename_here-requires
rename_here-requires c =
    let still = clause_still c.args.names.now c.args.premises.now c.loop-k.premises c.loop-k.k c.index-premises-k.result c.loop-k-test.true c.loop-k.auto.premises c.loop-k.invariant.0 in
    let here = ap length (c.as_mut_slice-clause.ensures.value ∙ still) in
    let le = joined-le c.args.premises.now c.loop-k.k c.index-premises-k.result c.loop-k-test.true in
    let from = c.loop-k.invariant.1 in
    let all = c.requires.names in
    record { names = omega arith }

pub overflow_add-from : goal.overflow_add-from
overflow_add-from c =
    let still = clause_still c.args.names.now c.args.premises.now c.loop-k.premises c.loop-k.k c.index-premises-k.result c.loop-k-test.true c.loop-k.auto.premises c.loop-k.invariant.0 in
    let here = ap length (c.as_mut_slice-clause.ensures.value ∙ still) in
    let le = joined-le c.args.premises.now c.loop-k.k c.index-premises-k.result c.loop-k-test.true in
    let from = c.loop-k.invariant.1 in
    let all = c.requires.names in
    omega arith

pub loop-k-preserved : goal.loop-k-preserved
loop-k-preserved c =
    let new = with_items (get_or c.loop-k.premises c.loop-k.k c.index-premises-k.result) c.rename_here.new.clause in
    let still = clause_still c.args.names.now c.args.premises.now c.loop-k.premises c.loop-k.k c.index-premises-k.result c.loop-k-test.true c.loop-k.auto.premises c.loop-k.invariant.0 in
    let here = ap length (c.as_mut_slice-clause.ensures.value ∙ still) in
    let more = ap length (joined-more c.args.premises.now c.loop-k.k c.index-premises-k.result c.loop-k-test.true) in
    let parts = length-append (joined_clauses (clauses_of (take c.loop-k.k c.args.premises.now))) (get_or c.args.premises.now c.loop-k.k c.index-premises-k.result).items in
    let from = c.loop-k.invariant.1 in (
      clause_in_place c.args.names.now c.args.premises.now c.loop-k.premises c.loop-k.k c.index-premises-k.result c.loop-k-test.true c.loop-k.auto.premises c.loop-k.invariant.0 c.loop-k.from new c.loop-k.invariant.1
          (written c.args.names.now c.loop-k.from (get_or c.loop-k.premises c.loop-k.k c.index-premises-k.result) c.as_mut_slice-clause.result.now c.rename_here.new.clause c.as_mut_slice-clause.ensures.value c.rename_here.ensures),
      omega arith,
      All-set (λ (v : Vec Lit). vec_len v < 2 ^ 32) c.loop-k.premises c.loop-k.k new
          (c.loop-k.invariant.2 c.loop-k.k c.index-premises-k.result (let n = c.loop-k.auto.premises in omega (arith, c.loop-k-test.true))) c.loop-k.invariant.2,
    )
