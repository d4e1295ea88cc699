-- The negations so far.
use Rattle.std.proofs.Common.{List, take, map}
use Rattle.term_model.specs.Terms.{Term, not_of}
use Rattle.term_pool.specs.Views.{ReferToAll, KeepsTerms}
use Rattle.lia_answers.specs.Negating.{HoldsOnly, HaveNegations}
use Rattle.lia_answers.proofs.negating.negations_of.Given as goal

abbrev pub invariant-refs : goal.invariant-refs
invariant-refs l = record {
  keeps : KeepsTerms l.initial.terms l.terms;
  clause : (ts : List Term) → ReferToAll l.symbols l.initial.terms (take l.r-index l.refs) ts → ReferToAll l.symbols l.terms l.clause.items (map not_of ts);
  held : (terms ts : List Term) → ReferToAll l.symbols l.initial.terms (take l.r-index l.refs) ts → HaveNegations terms ts
      → HoldsOnly l.symbols l.initial.terms.pass terms → HoldsOnly l.symbols l.terms.pass terms;
}
