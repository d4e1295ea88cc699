use Rattle.std.proofs.Common.{refl}
use Rattle.rule_model.specs.Congruence.{applied}
use Rattle.elab_equality.proofs.CongruenceLemmas.{congruence_of}
use Rattle.elab_equality.proofs.ReadLemmas.{equation_of, known_where, left_refers, literal_below, literal_refers, literal_sides, read_of, right_refers, sides_found}
use Rattle.elab_equality.proofs.matching.read.Goals as goal

pub bounds-clause-0 : goal.bounds-clause-0
bounds-clause-0 c =
    let p = c.args.at.now in
    let v = c.args.terms.now in
    let k = congruence_of p v c.requires.job c.requires.rule in
    literal_below p v (applied k.head k.ts) (applied k.head k.us) (equation_of p v k) c.clause.result.now c.clause.ensures

pub sides_of-requires : goal.sides_of-requires
sides_of-requires c =
    let p = c.args.at.now in
    let v = c.args.terms.now in
    let k = congruence_of p v c.requires.job c.requires.rule in
    record {
      means = _;
      refers = literal_refers p v (applied k.head k.ts) (applied k.head k.us) (equation_of p v k) c.clause.result.now c.clause.ensures c.index-clause-0.result
          c.index-clause-0.is;
    }

pub unwrap-sides-requires : goal.unwrap-sides-requires
unwrap-sides-requires c =
    let p = c.args.at.now in
    let v = c.args.terms.now in
    let k = congruence_of p v c.requires.job c.requires.rule in
    literal_sides p v (applied k.head k.ts) (applied k.head k.us) (equation_of p v k) c.clause.result.now c.clause.ensures c.index-clause-0.result c.index-clause-0.is
    c.sides_of.result c.sides_of.ensures.other

pub arguments_of-requires : goal.arguments_of-requires
arguments_of-requires c =
    let p = c.args.at.now in
    let v = c.args.terms.now in
    let k = congruence_of p v c.requires.job c.requires.rule in
    let q = c.unwrap-sides.result in
    let h = sides_found p v (applied k.head k.ts) (applied k.head k.us) (equation_of p v k) c.clause.result.now c.clause.ensures c.index-clause-0.result
    c.index-clause-0.is c.sides_of.result q c.unwrap-sides.ensures c.sides_of.ensures.sides in
    rw c.sides_of.ensures.same (known_where p v q.0 _ (left_refers p v (applied k.head k.ts) (applied k.head k.us) q h))

pub arguments_of-requires-2 : goal.arguments_of-requires-2
arguments_of-requires-2 c =
    let p = c.args.at.now in
    let v = c.args.terms.now in
    let k = congruence_of p v c.requires.job c.requires.rule in
    let q = c.unwrap-sides.result in
    let h = sides_found p v (applied k.head k.ts) (applied k.head k.us) (equation_of p v k) c.clause.result.now c.clause.ensures c.index-clause-0.result
    c.index-clause-0.is c.sides_of.result q c.unwrap-sides.ensures c.sides_of.ensures.sides in
    rw (c.in_ok-lefts.ensures.same, c.sides_of.ensures.same) (known_where p v q.1 _ (right_refers p v (applied k.head k.ts) (applied k.head k.us) q h))

pub returns-clause-read : goal.returns-clause-read
returns-clause-read c =
    let p = c.args.at.now in
    let v = c.args.terms.now in
    let k = congruence_of p v c.requires.job c.requires.rule in
    let q = c.unwrap-sides.result in
    let h = sides_found p v (applied k.head k.ts) (applied k.head k.us) (equation_of p v k) c.clause.result.now c.clause.ensures c.index-clause-0.result
    c.index-clause-0.is c.sides_of.result q c.unwrap-sides.ensures c.sides_of.ensures.sides in
    read_of p v k q (left_refers p v (applied k.head k.ts) (applied k.head k.us) q h) (right_refers p v (applied k.head k.ts) (applied k.head k.us) q h) _ refl refl
    (rw c.sides_of.ensures.same at c.in_ok-lefts.ensures.arguments) (rw (c.in_ok-lefts.ensures.same, c.sides_of.ensures.same) at c.in_ok-rights.ensures.arguments)
