use Rattle.std.proofs.Common.{◌≡◌, List, drop}
use Rattle.term_model.specs.Terms.{Term}
use Rattle.schema_match.specs.Stack.{StackOf}
use Rattle.schema_match.specs.Reads.{Left}
use Rattle.schema_match.proofs.matching.fits_with.Given as goal

abbrev pub invariant-loop-part : goal.invariant-loop-part
invariant-loop-part l = record {
  same : l.terms ≡ l.fn.terms;
  left : (ts : List Term) → StackOf l.symbols l.fn.terms l.fn.stack.items ts →
      Left l.symbols l.fn.terms l.parts ts (drop l.part-index l.parts) l.letters l.stack.items;
}
