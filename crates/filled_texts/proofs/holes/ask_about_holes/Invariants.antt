use Rattle.std.proofs.Common.{◌≡◌, List, take}
use Rattle.term_model.specs.Terms.{Var, Term}
use Rattle.rule_model.specs.declared.statuses.Status.{Status}
use Rattle.rule_model.specs.Proofs.{ProofItems}
use Rattle.rule_model.specs.Statuses.{Checking, AreStatuses}
use Rattle.proof_store.specs.Meaning.{StandForItems}
use Rattle.hole_fillers.specs.Benches.{seats}
use Rattle.filled_texts.specs.Asking.{ArePut}
use Rattle.filled_texts.specs.Filled.{questions_from}
use Rattle.filled_texts.proofs.holes.ask_about_holes.Given as goal

-- the questions about the holes among the first commands were put
abbrev pub invariant-commands : goal.invariant-commands
invariant-commands g l = record {
  same : l.terms ≡ l.fn.terms;
  put : (c : Checking) (proof : ProofItems Var Term) (statuses : List Status) → StandForItems l.checked.symbols.now l.fn.terms l.checked.proof.now proof →
      c.unknown_are_holes ≡ l.checked.unknown_are_holes → AreStatuses c proof statuses → ArePut (questions_from proof 0 (take l.index statuses))
      (seats (λ b. (goal.Filler-dyn g (b.vtable, b.value)).budget b.value) (λ b. (goal.Filler-dyn g (b.vtable, b.value)).book b.value)
      l.fn.bench.fillers.items)
      (seats (λ b. (goal.Filler-dyn g (b.vtable, b.value)).budget b.value) (λ b. (goal.Filler-dyn g (b.vtable, b.value)).book b.value)
      l.bench.fillers.items) l.filled.items;
}
