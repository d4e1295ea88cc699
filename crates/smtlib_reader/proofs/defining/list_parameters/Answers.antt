use Rattle.std.proofs.Common.{arith}
use Rattle.smtlib_reader.proofs.DefinedParameters.{one_listed}
use Rattle.term_reader.proofs.Staying.{adds_then}
use Rattle.smtlib_reader.proofs.defining.list_parameters.Goals as goal

pub parameters-preserved : goal.parameters-preserved
parameters-preserved c = record {
  listed = λ v.
      one_listed c.args.items.now _ _ v c.args.parameters.now c.parameters.parameter-index _ _ _ _ _ _ c.parameters-test.true (c.parameters.invariant.listed v)
      c.add_parameter.ensures.symbols.keeps (c.in_ok-leaf.ensures.added v) c.in_ok-push.ensures.items;
  symbols = adds_then _ _ _ c.parameters.invariant.symbols c.add_parameter.ensures.symbols;
  few = omega (arith, c.parameters.invariant.few, c.add_parameter.ensures.few);
}

pub returns-in_err-leaf-clause-symbols : goal.returns-in_err-leaf-clause-symbols
returns-in_err-leaf-clause-symbols c = adds_then _ _ _ c.parameters.invariant.symbols c.add_parameter.ensures.symbols

pub returns-in_err-push-clause-symbols : goal.returns-in_err-push-clause-symbols
returns-in_err-push-clause-symbols c = adds_then _ _ _ c.parameters.invariant.symbols c.add_parameter.ensures.symbols
