use Rattle.std.proofs.Common.{refl, ◌∙◌, arith}
use Rattle.std.proofs.lemmas.List.{nil_from_length}
use Rattle.std.proofs.lemmas.Option.{MatchOption-at_none}
use Rattle.term_pool.specs.Views.{IsTerm}
use Rattle.rules_ite.proofs.EachTwoLemmas.{all_take, all_drop, all_apart, too_few, not_apart_here, apart_here}
use Rattle.rules_ite.proofs.distinct.are_apart.Goals as goal

pub items-init : goal.items-init
items-init c = record {
  same = refl;
  known = c.requires;
  so_far = λ us ls terms literals. record { terms = us; literals = ls; terms_refer = terms; literals_refer = literals; say = (λ h. h, λ h. h) };
}

pub items-smaller : goal.items-smaller
items-smaller c = let shorter = c.in-Some.ensures.cases.1 in omega (arith, shorter)

pub returns-then-left-others-clause-apart : goal.returns-then-left-others-clause-apart
returns-then-left-others-clause-apart c us ls terms literals =
    too_few c.args.symbols.now c.args.terms.now us ls _ _ (c.items.invariant.so_far us ls terms literals) c.in-Some.one.now _ c.in-Some.ensures.cases.0 c.if-left-others.true

pub is_apart_from-requires : goal.is_apart_from-requires
is_apart_from-requires c = rw (c.items.invariant.same, c.split_at.ensures.front) (all_take (IsTerm c.args.symbols.now c.args.terms.now) _ _ c.items.invariant.known)

pub returns-then-not-is_apart_from-clause-apart : goal.returns-then-not-is_apart_from-clause-apart
returns-then-not-is_apart_from-clause-apart c us ls terms literals =
    not_apart_here c.args.symbols.now c.args.terms.now us ls _ _ (c.items.invariant.so_far us ls terms literals) c.in-Some.one.now _ c.in-Some.ensures.cases.0 c.is_apart_from.result
    (rw (c.items.invariant.same, c.split_at.ensures.front, c.get.ensures) at c.is_apart_from.ensures.apart) c.if-not-is_apart_from.true

pub items-preserved : goal.items-preserved
items-preserved c = record {
  same = c.is_apart_from.ensures.same ∙ c.items.invariant.same;
  known = rw c.split_at.ensures.back (all_drop (IsTerm c.args.symbols.now c.args.terms.now) _ _ c.items.invariant.known);
  so_far = λ us ls terms literals.
      rw c.split_at.ensures.back
      (apart_here c.args.symbols.now c.args.terms.now us ls _ _ (c.items.invariant.so_far us ls terms literals) c.in-Some.one.now _ c.in-Some.ensures.cases.0 c.is_apart_from.result
      (rw (c.items.invariant.same, c.split_at.ensures.front, c.get.ensures) at c.is_apart_from.ensures.apart) c.if-not-is_apart_from.false c.if-left-others.false);
}

pub returns-clause-apart : goal.returns-clause-apart
returns-clause-apart c us ls terms literals =
    all_apart c.args.symbols.now c.args.terms.now us ls _ _ (c.items.invariant.so_far us ls terms literals) _ c.is_empty.result (nil_from_length _ (MatchOption-at_none _ _ c.in_default.is c.split_first.ensures.cases)) refl c.is_empty.ensures
