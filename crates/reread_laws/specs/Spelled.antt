-- Public. Proofs whose terms, and what their anchors bind, are printed as items that are spelled well.
use Rattle.std.specs.Prelude.{ℕ, List}
use Rattle.std.specs.List.{AllByRecursion}
use Rattle.sexpr.specs.Printed.{IsSymbolItem, IsSpelledItem}
use Rattle.term_model.specs.Terms.{Var, Term}
use Rattle.rule_model.specs.Proofs.{ProofItems}
use Rattle.problem_text.specs.Scripts.{Script}
use Rattle.printed_proofs.specs.PrintedProof.{sort_item}
use Rattle.printed_proofs.specs.Shared.{Plan, shared_item}
use Rattle.reread_laws.specs.EachCommand.{AreEach}

-- What is spelled well in whatever state it is printed, where sorts have these names: a term, and what an anchor binds.
abbrev pub IsSpelledTerm : Plan → Term → Type 0
IsSpelledTerm plan t = (s : Script) → IsSpelledItem (shared_item plan s t)

pub record IsSpelledBinding (plan : Plan) (sorts : List (List ℕ)) (b : Var × Term) : Type 0 where
  pub symbol : IsSymbolItem b.0.name
  pub sort : IsSpelledItem (sort_item sorts b.0.sort)
  pub term : IsSpelledTerm plan b.1

abbrev pub IsSpelledProof : Plan → List (List ℕ) → ProofItems Var Term → Type 0
IsSpelledProof plan sorts items =
    AreEach (IsSpelledTerm plan) (AllByRecursion (IsSpelledBinding plan sorts)) (λ x. AllByRecursion (IsSpelledTerm plan) x.clause) items
