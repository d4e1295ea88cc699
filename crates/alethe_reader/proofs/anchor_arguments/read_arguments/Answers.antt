-- One argument after another.
use Rattle.std.proofs.Common.{arith, refl, ap, length}
use Rattle.std.proofs.lemmas.Result.{err_from_is_err_and}
use Rattle.text_items.proofs.ItemsAtLemmas.{no_items_are}
use Rattle.term_pool.proofs.Keeping.{terms-refl, terms-trans}
use Rattle.term_reader.proofs.Staying.{adds_none, adds_then}
use Rattle.alethe_text.specs.Commands.{arguments_in}
use Rattle.alethe_reader.proofs.ArgumentLoop.{begins, others_fit, first_split, ends, fails, goes_on}
use Rattle.alethe_reader.proofs.anchor_arguments.read_arguments.Goals as goal

pub arguments-init : goal.arguments-init
arguments-init c = record {
  there = c.requires.arguments;
  left = λ settings p. begins _ _ _ c.args.bound.now (record c.args.bound.now { opened = c.clear.new.self }) refl refl c.clear.ensures.items settings p _;
  symbols = adds_none c.args.symbols.now;
  keeps = terms-refl c.args.terms.now;
  few = omega arith;
}

pub read_argument-requires-clause-opening : goal.read_argument-requires-clause-opening
read_argument-requires-clause-opening c =
    let (settings, p, reader, bound) = c.requires.scope in
    let l = c.arguments.invariant.left settings p reader bound in
    (settings, l.earlier, l.read, l.now, l.opening)

pub returns-in_err-read_argument-clause-read : goal.returns-in_err-read_argument-clause-read
returns-in_err-read_argument-clause-read c settings p reader bound =
    let is = err_from_is_err_and c.from_residual.result c.from_residual.ensures.1 in
    let l = c.arguments.invariant.left settings p reader bound in
    rw (is.1, is.2) (fails l c.read_argument.ensures.grow.symbols c.read_argument.ensures.grow.terms (first_split c.args.items.now c.arguments.k c.arguments.invariant.there (rw c.count.ensures at c.arguments-test.true) _ refl)
    (c.in_err-read_argument.ensures.read settings l.earlier l.read l.now l.opening))

pub arguments-preserved : goal.arguments-preserved
arguments-preserved c = record {
  there = others_fit c.args.items.now c.arguments.k c.arguments.invariant.there (rw c.count.ensures at c.arguments-test.true) _ c.node-k.ensures.next;
  left = λ settings p reader bound.
      let l = c.arguments.invariant.left settings p reader bound in
      goes_on l c.read_argument.ensures.grow.symbols c.read_argument.ensures.grow.terms (first_split c.args.items.now c.arguments.k c.arguments.invariant.there (rw c.count.ensures at c.arguments-test.true) _ c.node-k.ensures.next)
      (c.in_ok-read_argument.ensures.read settings l.earlier l.read l.now l.opening);
  symbols = adds_then _ _ _ c.arguments.invariant.symbols c.read_argument.ensures.grow.symbols;
  keeps = terms-trans _ _ _ c.arguments.invariant.keeps c.read_argument.ensures.grow.terms;
  few = omega (arith, c.count.ensures, c.arguments-test.true, c.node-k.ensures.next, c.node-k.ensures.behind, c.node-k.ensures.inside, c.in_ok-read_argument.ensures.spent, c.arguments.invariant.few);
}

pub returns-clause-read : goal.returns-clause-read
returns-clause-read c settings p reader bound =
    ends (c.arguments.invariant.left settings p reader bound) (ap arguments_in (no_items_are c.args.items.now c.arguments.k (length c.args.items.now.nodes) (rw c.count.ensures at c.arguments-test.false)))
