-- The clauses of a well-sorted proof, command by command.
use Rattle.std.proofs.Common.{ℕ, zero, suc, List, [], ◌∷◌, ◌++◌, map, slice_get}
use Rattle.std.specs.List.{AllByRecursion}
use Rattle.std.specs.Option.{option_map_or}
use Rattle.std.proofs.lemmas.List.Elements.{All-nil, All-cons}
use Rattle.term_model.specs.declared.symbols.Sort.{Sort}
use Rattle.term_model.specs.Sorts.{IsOf}
use Rattle.term_model.specs.Terms.{Var, Term}
use Rattle.term_model.proofs.Lists.{all_joined}
use Rattle.rule_model.specs.Commands.{Line, entry_of, lines_in}
use Rattle.rule_model.specs.Conditions.{IsClauseOfTruths}
use Rattle.rule_model.specs.Proofs.{ProofItems, no_items, with_assume, with_step, with_subproof}
use Rattle.rule_model.specs.Reading.{clause_of, clause_at}
use Rattle.rule_model.specs.Scopes.{Nesting, outermost, inner}
use Rattle.rule_model.specs.Truth.{IsLiteralIn, AreWellSorted, IsWellSortedProof}

abbrev IsTruthLine : Line Var Term → Type 0
IsTruthLine l = IsClauseOfTruths (clause_of l.command)

truths : (nesting : Nesting Var Term) (ts : List Term) → AllByRecursion (IsLiteralIn nesting) ts → IsClauseOfTruths ts
truths nesting [] h = All-nil (λ t. IsOf t Sort.Bool)
truths nesting (t ∷ ts) h = All-cons (λ t. IsOf t Sort.Bool) t ts h.0.sort (truths nesting ts h.1)

lines_of_truths : (nesting : Nesting Var Term) (items : ProofItems Var Term) → AreWellSorted nesting items → AllByRecursion IsTruthLine (lines_in nesting items)
lines_of_truths nesting no_items sorted = tt
lines_of_truths nesting (with_assume items id t) sorted =
    all_joined _ (lines_in nesting items) _ (lines_of_truths nesting items sorted.0) (truths nesting (t ∷ []) (sorted.1, tt), tt)
lines_of_truths nesting (with_step items s) sorted =
    all_joined _ (lines_in nesting items) _ (lines_of_truths nesting items sorted.0) (truths nesting s.clause sorted.1, tt)
lines_of_truths nesting (with_subproof items bindings proof s) sorted =
    all_joined _ (lines_in nesting items ++ lines_in (inner nesting items bindings s) proof) _
    (all_joined _ (lines_in nesting items) _ (lines_of_truths nesting items sorted.0) (lines_of_truths (inner nesting items bindings s) proof sorted.2))
    (truths nesting s.clause sorted.3, tt)

truths_at : (lines : List (Line Var Term)) (i : ℕ) → AllByRecursion IsTruthLine lines → IsClauseOfTruths (option_map_or (λ e. clause_of e.command) (slice_get (map entry_of lines) i) [])
truths_at [] i h = All-nil (λ t. IsOf t Sort.Bool)
truths_at (l ∷ lines) zero h = h.0
truths_at (l ∷ lines) (suc i) h = truths_at lines i h.1

-- each clause is of terms of Bool
pub clauses_of_truths : (proof : ProofItems Var Term) (i : ℕ) → IsWellSortedProof proof → IsClauseOfTruths (clause_at proof i)
clauses_of_truths proof i sorted = truths_at (lines_in outermost proof) i (lines_of_truths outermost proof sorted)
