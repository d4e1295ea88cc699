use Rattle.std.proofs.Common.{◌≡◌, ◌+◌, ℕ, length, slice_get, Some}
use Rattle.flip_keys.specs.Assertions.{references_of, AreAssertionsReady}
use Rattle.known_args.specs.Rows.{AreRight}
use Rattle.proof_contexts.specs.OpenAnchors.{AreKept}
use Rattle.rule_model.specs.declared.statuses.Status.{Status}
use Rattle.term_pool.specs.Views.{KeepsTerms}
use Rattle.step_check.specs.Statuses.{PlacesOnly}
use Rattle.step_check.specs.Steps.{IsStatusOf}
use Rattle.step_check.proofs.checking.add_statuses.Given as goal

abbrev pub invariant-commands : goal.invariant-commands
invariant-commands l = record {
  keeps : KeepsTerms l.initial.terms l.terms;
  placed : PlacesOnly l.subject.symbols.now l.initial.terms l.terms l.subject.proof.now;
  references : references_of l.kept.asserted ≡ references_of l.initial.kept.asserted;
  ready : AreAssertionsReady l.terms l.kept.asserted;
  kept : AreKept l.subject.symbols.now l.terms l.subject.proof.now l.kept.scopes;
  right : AreRight l.terms l.kept.rules.scratches.known;
  long : l.first + length l.list.items ≡ l.i;
  each : (k : ℕ) (status : Status) → slice_get l.list.items k ≡ Some status → IsStatusOf l.subject.flags l.subject.symbols.now l.initial.terms (references_of l.initial.kept.asserted) l.subject.proof.now (l.first + k) status;
}
