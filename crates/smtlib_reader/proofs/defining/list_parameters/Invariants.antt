-- The parameters so far have their leaves.
use Rattle.std.proofs.Common.{◌≤◌, ◌+◌, map, take, length}
use Rattle.term_pool.specs.Views.{TermsView}
use Rattle.problem_text.specs.Names.{itself}
use Rattle.smtlib_reader.specs.Parameters.{parameters_said}
use Rattle.term_names.specs.InScope.{AreValuesBound}
use Rattle.term_names.specs.Standing.{AddsNoSymbols}
use Rattle.smtlib_reader.proofs.defining.list_parameters.Given as goal
use Rattle.term_expansion.specs.SymbolsAndTerms.{both}

abbrev pub invariant-parameters : goal.invariant-parameters
invariant-parameters l = record {
  listed : (v : TermsView) → AreValuesBound (both l.symbols v) l.leaves.items l.values (map itself (parameters_said l.items (take l.parameter-index l.parameters)));
  symbols : AddsNoSymbols l.fn.symbols l.symbols;
  few : length l.symbols.leaves ≤ length l.fn.symbols.leaves + l.parameter-index;
}
