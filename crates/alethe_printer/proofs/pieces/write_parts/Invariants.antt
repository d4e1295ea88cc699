use Rattle.std.proofs.Common.{◌≡◌, ◌≤◌, ℕ, List}
use Rattle.term_model.specs.Terms.{Var, Term}
use Rattle.rule_model.specs.Proofs.{ProofItems}
use Rattle.proof_store.specs.Meaning.{StandForItems}
use Rattle.printed_proofs.specs.Shared.{Plan}
use Rattle.alethe_printer.specs.Printing.{IsToPrint, WritesOn}
use Rattle.alethe_printer.proofs.pieces.write_parts.Given as goal

-- Some of what is to be written is written, and the printer comes to the others.
abbrev pub invariant-parts : goal.invariant-parts
invariant-parts g l = record {
  on :
      (plan : Plan) (of : ProofItems Var Term) (bytes : List ℕ) → StandForItems l.symbols l.fn.terms l.proof of →
      IsToPrint plan l.symbols l.fn.terms l.proof of l.fn.printing bytes →
      WritesOn plan l.symbols l.fn.terms l.proof of l.printing bytes (g.S.Sink.written l.fn.out) (g.S.Sink.written l.out);
  count : g.S.Sink.faults l.fn.out ≤ g.S.Sink.faults l.out;
  same : l.terms ≡ l.fn.terms;
}
