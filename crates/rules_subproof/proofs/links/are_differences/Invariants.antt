use Rattle.std.proofs.Common.{◌≡◌, ◌≤◌, drop, length, List}
use Rattle.std.specs.List.{AllZip}
use Rattle.term_model.specs.Terms.{Var, Term}
use Rattle.term_pool.specs.Views.{RefersTo}
use Rattle.rule_model.specs.Congruence.{AreDifferences}
use Rattle.rule_model.specs.Proofs.{ProofItems}
use Rattle.term_pool.specs.Bindings.{IsBindingOf}
use Rattle.proof_store.specs.Meaning.{StandForItems}
use Rattle.rules_subproof.specs.Lets.{clauses_at}
use Rattle.rules_subproof.proofs.Linking.{IsLeft, images_of}
use Rattle.rules_subproof.proofs.links.are_differences.Given as goal

abbrev pub invariant-values : goal.invariant-values
invariant-values l =
    (l.terms ≡ l.fn.terms) × (l.used ≤ length l.premises) ×
    ((of : ProofItems Var Term) (ts : List Term) (bound : List (Var × Term)) → StandForItems l.fn.symbols l.fn.terms l.proof of →
    AllZip (RefersTo l.fn.symbols l.fn.terms) l.values ts → AllZip (IsBindingOf l.fn.symbols l.fn.terms) l.anchor bound →
    IsLeft l.fn.symbols l.fn.terms (AreDifferences (clauses_at of (drop l.used l.premises))) (drop l.place l.values) (drop l.place l.anchor)
    (AreDifferences (clauses_at of l.premises) ts (images_of bound)))
