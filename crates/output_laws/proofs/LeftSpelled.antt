-- Private. What is left of a proof that is spelled well is spelled well.
use Rattle.std.specs.Prelude.{Bool, ℕ, List}
use Rattle.std.specs.List.{AllByRecursion}
use Rattle.term_model.specs.Terms.{Var, Term}
use Rattle.rule_model.specs.Proofs.{ProofItems}
use Rattle.printed_proofs.specs.Shared.{Plan}
use Rattle.pruned_proofs.specs.Pruned.{pruned}
use Rattle.reread_laws.specs.Spelled.{IsSpelledTerm, IsSpelledBinding, IsSpelledProof}
use Rattle.output_laws.proofs.EachCommand.{each_kept}

pub spelled_kept : (plan : Plan) (sorts : List (List ℕ)) (marks : List Bool) (items : ProofItems Var Term) → IsSpelledProof plan sorts items
    → IsSpelledProof plan sorts (pruned marks items)
spelled_kept plan sorts marks items h =
    each_kept (IsSpelledTerm plan) (AllByRecursion (IsSpelledBinding plan sorts)) (λ x. AllByRecursion (IsSpelledTerm plan) x.clause) marks
    (λ x clause. clause) 0 items h
