use Rattle.std.proofs.Common.{length, ap, arith, length-append}
use Rattle.std.specs.Global.{Vec}
use Rattle.clause_chain.specs.Chaining.{clauses_of}
use Rattle.rules_resolution.specs.Literal.{Lit}
use Rattle.rules_resolution.specs.Renaming.{joined_clauses}
use Rattle.rules_resolution.proofs.Keys.{joined-le, keys_joined, joined_length, keys_all}
use Rattle.rules_resolution.proofs.naming.keys_of.Goals as goal

pub add_keys-requires : goal.add_keys-requires
add_keys-requires c =
    let le = joined-le c.args.premises.now c.loop-clause.clause-index c.clause-item.result c.loop-clause-test.true in
    let total = length-append (joined_clauses (clauses_of c.args.premises.now)) c.args.goal.now in
    let here = ap length c.as_slice.ensures.value in
    let there = ap (λ (v : Vec Lit). length v.items) c.clause-item.is in
    let from = c.loop-clause.invariant.1 in
    let few = c.requires.few in
    record { few = omega arith }

pub overflow_cast-from : goal.overflow_cast-from
overflow_cast-from c =
    let le = joined-le c.args.premises.now c.loop-clause.clause-index c.clause-item.result c.loop-clause-test.true in
    let total = length-append (joined_clauses (clauses_of c.args.premises.now)) c.args.goal.now in
    let here = ap length c.as_slice.ensures.value in
    let there = ap (λ (v : Vec Lit). length v.items) c.clause-item.is in
    let few = c.requires.few in
    let long = c.as_slice.ensures.len in
    let answered = c.len.ensures in
    omega arith

pub overflow_add-from : goal.overflow_add-from
overflow_add-from c =
    let le = joined-le c.args.premises.now c.loop-clause.clause-index c.clause-item.result c.loop-clause-test.true in
    let total = length-append (joined_clauses (clauses_of c.args.premises.now)) c.args.goal.now in
    let here = ap length c.as_slice.ensures.value in
    let there = ap (λ (v : Vec Lit). length v.items) c.clause-item.is in
    let few = c.requires.few in
    let long = c.as_slice.ensures.len in
    let answered = c.len.ensures in
    let from = c.loop-clause.invariant.1 in
    omega arith

pub loop-clause-preserved : goal.loop-clause-preserved
loop-clause-preserved c =
    let here = ap length c.as_slice.ensures.value in
    let long = c.as_slice.ensures.len in
    let answered = c.len.ensures in (
      rw (c.in_ok-add_keys.ensures, c.loop-clause.invariant.0)
          (keys_joined c.args.premises.now c.loop-clause.clause-index c.loop-clause.from c.clause-item.result c.as_slice.result.now c.loop-clause-test.true c.clause-item.is c.as_slice.ensures.value c.loop-clause.invariant.1),
      joined_length c.args.premises.now c.loop-clause.clause-index c.loop-clause.from c.len.result c.clause-item.result c.loop-clause-test.true c.clause-item.is (omega arith) c.loop-clause.invariant.1,
    )

pub returns : goal.returns
returns c =
    rw (c.in_ok-add_keys-2.ensures, c.loop-clause.invariant.0)
    (keys_all c.args.premises.now c.args.goal.now c.loop-clause.clause-index c.loop-clause.from (omega arith) c.loop-clause.invariant.1)
