-- The lines so far.
use Rattle.std.proofs.Common.{◌≡◌, List, map, take, All, true}
use Rattle.line_judging.specs.Weights.{IsLineOfTerms}
use Rattle.proof_store.specs.Ratios.{fraction_of_ratio}
use Rattle.term_model.specs.Terms.{Term}
use Rattle.term_pool.specs.Views.{ReferToAll}
use Rattle.rules_arith.specs.Lines.{AreLinesFound}
use Rattle.rules_arith.proofs.lines.read_lines.Given as goal

abbrev pub invariant-literals : goal.invariant-literals
invariant-literals l =
    record {
      same : l.terms ≡ l.initial.terms;
      terms : All (IsLineOfTerms l.symbols l.initial.terms) l.lines.items;
      found : (ts : List Term) → ReferToAll l.symbols l.initial.terms l.clause ts → AreLinesFound l.symbols l.initial.terms (take l.k ts) (take l.k (map fraction_of_ratio l.ratios)) l.lines.items true;
    }
