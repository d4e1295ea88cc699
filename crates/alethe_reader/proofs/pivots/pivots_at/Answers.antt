-- One pivot after another.
use Rattle.std.proofs.Common.{arith}
use Rattle.text_items.proofs.ItemsAtLemmas.{ends_behind}
use Rattle.alethe_reader.proofs.LeftToRead.{hands_on, none_gone, more_gone}
use Rattle.alethe_reader.proofs.PivotReading.{left_first, all_held, none_held, no_pivot, no_memory, left_next}
use Rattle.alethe_reader.proofs.pivots.pivots_at.Goals as goal

pub pairs-init : goal.pairs-init
pairs-init c = record {
  gone = none_gone _ _ _ _;
  left = λ settings nesting p h. left_first settings nesting p _ _ _ _ _ _ _ c.clear.ensures.items h;
}

pub pivot_at-requires-clause-reader : goal.pivot_at-requires-clause-reader
pivot_at-requires-clause-reader c =
    let (settings, nesting, p, reader) = c.requires.reader in
    let h = c.pairs.invariant.left settings nesting p reader in
    (settings, nesting, h.state, h.holds.behind_it.reader)

pub pairs-preserved : goal.pairs-preserved
pairs-preserved c = record {
  gone = more_gone c.pairs.invariant.gone c.pivot_at.ensures.grow.symbols c.pivot_at.ensures.grow.terms (omega (arith, ends_behind c.args.items.now c.pairs.k, c.pair_end-end.ensures.behind)) c.pair_end-end.ensures.inside c.in_ok-pivot.ensures.spent;
  left = λ settings nesting p h.
      let left = c.pairs.invariant.left settings nesting p h in
      left_next left c.pair_end-end.ensures c.pivot_at.ensures.grow.symbols c.pivot_at.ensures.grow.terms c.pairs-test.true c.requires.items.inside c.in_ok-all.ensures.held
      (c.in_ok-pivot.ensures.read settings nesting left.state left.holds.behind_it.reader);
}

pub returns-in_err-pivot-clause-read : goal.returns-in_err-pivot-clause-read
returns-in_err-pivot-clause-read c settings nesting p h =
    let left = c.pairs.invariant.left settings nesting p h in
    hands_on c.from_residual.result c.from_residual.ensures.1
    (no_pivot left c.pair_end-end.ensures c.pivot_at.ensures.grow.symbols c.pivot_at.ensures.grow.terms c.pairs-test.true c.requires.items.inside (c.in_err-pivot.ensures.read settings nesting left.state left.holds.behind_it.reader))

pub returns-in_err-all-clause-read : goal.returns-in_err-all-clause-read
returns-in_err-all-clause-read c settings nesting p h =
    let left = c.pairs.invariant.left settings nesting p h in
    hands_on c.from_residual-in_err-all.result c.from_residual-in_err-all.ensures.1
    (no_memory left c.pair_end-end.ensures c.pivot_at.ensures.grow.symbols c.pivot_at.ensures.grow.terms c.pairs-test.true c.requires.items.inside c.in_err-all.ensures.refused (c.in_ok-pivot.ensures.read settings nesting left.state left.holds.behind_it.reader))

pub returns-then-all-clause-read : goal.returns-then-all-clause-read
returns-then-all-clause-read c settings nesting p h = all_held (c.pairs.invariant.left settings nesting p h) c.pairs-test.false c.if-all.true

pub returns-clause-read : goal.returns-clause-read
returns-clause-read c settings nesting p h = none_held (c.pairs.invariant.left settings nesting p h) c.pairs-test.false c.if-all.false _ c.clear-2.ensures.items
