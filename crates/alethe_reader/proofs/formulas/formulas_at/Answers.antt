-- One formula after another.
use Rattle.std.proofs.Common.{arith}
use Rattle.alethe_reader.proofs.LeftToRead.{hands_on, none_gone, more_gone, within_end}
use Rattle.alethe_reader.proofs.FormulaLists.{left_first, all_read, no_formula, no_memory, left_next}
use Rattle.alethe_reader.proofs.formulas.formulas_at.Goals as goal

pub formulas-init : goal.formulas-init
formulas-init c = record {
  gone = none_gone _ _ _ _;
  left = λ settings nesting p h. left_first settings nesting p _ _ _ _ _ _ _ c.clear.ensures.items h;
}

pub formula_at-requires-clause-reader : goal.formula_at-requires-clause-reader
formula_at-requires-clause-reader c =
    let (settings, nesting, p, reader) = c.requires.reader in
    let h = c.formulas.invariant.left settings nesting p reader in
    (settings, nesting, h.state, h.holds.behind.reader)

pub formulas-preserved : goal.formulas-preserved
formulas-preserved c = record {
  gone = more_gone c.formulas.invariant.gone c.formula_at.ensures.grow.symbols c.formula_at.ensures.grow.terms c.node-k.ensures.behind
      (within_end c.node-k.ensures c.requires.items.nested c.formulas.invariant.gone c.formulas-test.true) (omega (arith, c.in_ok-formula.ensures.spent, c.node-k.ensures.next));
  left = λ settings nesting p h.
      let left = c.formulas.invariant.left settings nesting p h in
      left_next left c.formula_at.ensures.grow.symbols c.formula_at.ensures.grow.terms c.formulas-test.true c.requires.items.inside c.node-k.ensures c.in_ok-push.ensures.items
      (c.in_ok-formula.ensures.read settings nesting left.state left.holds.behind.reader);
}

pub returns-in_err-formula-clause-read : goal.returns-in_err-formula-clause-read
returns-in_err-formula-clause-read c settings nesting p h =
    let left = c.formulas.invariant.left settings nesting p h in
    hands_on c.from_residual.result c.from_residual.ensures.1
    (no_formula left c.formula_at.ensures.grow.symbols c.formula_at.ensures.grow.terms c.formulas-test.true c.requires.items.inside (c.in_err-formula.ensures.read settings nesting left.state left.holds.behind.reader))

pub returns-in_err-push-clause-read : goal.returns-in_err-push-clause-read
returns-in_err-push-clause-read c settings nesting p h =
    let left = c.formulas.invariant.left settings nesting p h in
    hands_on c.from_residual-in_err-push.result c.from_residual-in_err-push.ensures.1
    (no_memory left c.formula_at.ensures.grow.symbols c.formula_at.ensures.grow.terms c.formulas-test.true c.requires.items.inside (c.in_ok-formula.ensures.read settings nesting left.state left.holds.behind.reader))

pub returns-clause-read : goal.returns-clause-read
returns-clause-read c settings nesting p h = all_read (c.formulas.invariant.left settings nesting p h) c.formulas-test.false
