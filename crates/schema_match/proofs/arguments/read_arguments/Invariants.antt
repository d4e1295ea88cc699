use Rattle.std.proofs.Common.{◌≡◌, length}
use Rattle.sym_table.specs.Table.{Table}
use Rattle.term_model.specs.Terms.{Term}
use Rattle.term_pool.specs.Reading.{arguments_of}
use Rattle.term_pool.specs.Views.{RefersTo}
use Rattle.schema_match.proofs.ArgumentCells.{IsReadTo}
use Rattle.schema_match.proofs.arguments.read_arguments.Given as goal

abbrev pub invariant-items : goal.invariant-items
invariant-items l = record {
  same : l.terms ≡ l.fn.terms;
  read : (s : Table) (t : Term) → RefersTo s l.fn.terms l.fn.r t → length (arguments_of t) ≡ l.count →
      IsReadTo s l.fn.terms l.into.items l.rest l.counter (arguments_of t);
}
