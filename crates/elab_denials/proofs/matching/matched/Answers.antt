use Rattle.std.proofs.Common.{refl}
use Rattle.elab_denials.specs.Matching.{AreCrosswise, AreStraight}
use Rattle.elab_denials.proofs.MatchLemmas.{are_apart, not_congruent, some_here}
use Rattle.elab_denials.proofs.matching.matched.Goals as goal

pub returns-in-Some-clause-matched : goal.returns-in-Some-clause-matched
returns-in-Some-clause-matched c sides table = record {
  left_is = refl;
  right_is = refl;
  matched = some_here (λ pairs. AreStraight c.args.at.now c.args.terms.now sides c.args.left c.args.right pairs.items) c.in_ok-found.found c.in-Some.pairs
      c.in-Some.is (c.in_ok-found.ensures.straight sides table);
}

pub returns-in_default-other-clause-none : goal.returns-in_default-other-clause-none
returns-in_default-other-clause-none c sides premises t u table links left right =
    not_congruent c.args.at.now c.args.terms.now sides c.args.left c.args.right premises t u links left right
    ((rw c.in_default.is at c.in_ok-found.ensures.none) sides table)
    ((rw (c.in_ok-found.ensures.same, c.in_default-other.is) at c.in_ok-other.ensures.none) sides table)

pub returns-clause-matched : goal.returns-clause-matched
returns-clause-matched c sides table =
    let p = c.args.at.now in
    let v = c.args.terms.now in
    let one = c.equal_exactly_where_terms_are.ensures p.symbols.now c.leaves_differ.ensures.table in
    record {
      left_is = refl;
      right_is = refl;
      matched = are_apart p v sides c.args.left c.args.right one c.in-Some-other.pairs.items ((rw c.in_default.is at c.in_ok-found.ensures.none) sides table)
          (some_here (λ pairs. AreCrosswise p v sides c.args.left c.args.right pairs.items) c.in_ok-other.other c.in-Some-other.pairs c.in-Some-other.is
          ((rw c.in_ok-found.ensures.same at c.in_ok-other.ensures.crosswise) sides table));
    }
