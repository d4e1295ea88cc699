use Rattle.std.proofs.Common.{arith, ◌∙◌, refl}
use Rattle.std.proofs.lemmas.Result.{err_from_is_err_and}
use Rattle.term_names.specs.Scope.{known_in}
use Rattle.term_reader.proofs.NamesLeft.{left_start, left_end, left_stop, left_on}
use Rattle.term_reader.proofs.EntriesKept.{none_named, kept_then}
use Rattle.term_reader.proofs.naming.give_each.Goals as goal

pub each-init : goal.each-init
each-init c = record {
  there = c.requires.attributes;
  left = left_start _ _ _ _ _ _;
  macros = λ w. refl;
  scope = refl;
  own = none_named _ _ refl;
}

pub returns-in_default-clause-given : goal.returns-in_default-clause-given
returns-in_default-clause-given c =
    λ s v t sc free is.
    left_end s v _ _ _ _ t _ (c.each.invariant.left s v t sc free is) c.in_default.ensures.none

pub returns-in_default-clause-macros : goal.returns-in_default-clause-macros
returns-in_default-clause-macros c = c.each.invariant.macros

pub give_name-requires-clause-name : goal.give_name-requires-clause-name
give_name-requires-clause-name c = c.in-Some.ensures.some.here

pub give_name-requires-clause-script : goal.give_name-requires-clause-script
give_name-requires-clause-script c =
    let (s, v, t, sc, free, is) = c.requires.script in
    let left = c.each.invariant.left s v t sc free is in
    (s, v, left.script, left.is)

pub returns-in_err-give_name-clause-given : goal.returns-in_err-give_name-clause-given
returns-in_err-give_name-clause-given c =
    λ s v t sc free is.
    let new = known_in c.args.settings.now c.give_name.new.names in
    let stop = left_stop s v _ _ _ _ t _ (c.each.invariant.left s v t sc free is) c.in-Some.at new c.in-Some.ensures.some
    c.in_err-give_name.field-0.0 (λ now is_now. c.in_err-give_name.ensures.given s v t now free is_now) in
    let p = err_from_is_err_and c.from_residual.result c.from_residual.ensures.1 in rw (p.1, p.2) stop

pub returns-in_err-give_name-clause-macros : goal.returns-in_err-give_name-clause-macros
returns-in_err-give_name-clause-macros c = λ w. c.in_err-give_name.ensures.macros w ∙ c.each.invariant.macros w

pub returns-in_default-clause-scope : goal.returns-in_default-clause-scope
returns-in_default-clause-scope c = c.each.invariant.scope

pub returns-in_err-give_name-clause-scope : goal.returns-in_err-give_name-clause-scope
returns-in_err-give_name-clause-scope c = c.in_err-give_name.ensures.scope ∙ c.each.invariant.scope

pub each-smaller : goal.each-smaller
each-smaller c = omega (arith, c.in-Some.ensures.later, c.in-Some.ensures.some.there.some)

pub each-preserved : goal.each-preserved
each-preserved c = record {
  there = c.in-Some.ensures.some.there;
  left = λ s v t sc free is. left_on s v _ _ _ _ t _ (c.each.invariant.left s v t sc free is) c.in-Some.at _ c.in-Some.ensures.some
      (λ now is_now. c.in_ok-give_name.ensures.given s v t now free is_now);
  macros = λ w. c.in_ok-give_name.ensures.macros w ∙ c.each.invariant.macros w;
  scope = c.in_ok-give_name.ensures.scope ∙ c.each.invariant.scope;
  own = kept_then _ _ _ c.each.invariant.own c.in_ok-give_name.ensures.own;
}

pub returns-in_default-clause-own : goal.returns-in_default-clause-own
returns-in_default-clause-own c = c.each.invariant.own
