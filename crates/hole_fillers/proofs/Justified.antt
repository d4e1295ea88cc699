-- Private. A hole whose question is refuted follows from its premises in its scope.
use Rattle.std.proofs.Common.{◌≡◌, refl, ap, subst, ◌∙◌, ℕ, List, ◌++◌, map, slice_get, Option, Some, None, IfSome}
use Rattle.std.specs.List.{AllByRecursion}
use Rattle.term_model.specs.Terms.{Var, Term}
use Rattle.term_model.specs.Unsatisfiable.{Unsatisfiable}
use Rattle.term_model.proofs.Lists.{all_joined}
use Rattle.rule_model.specs.Commands.{Line, lines_in}
use Rattle.rule_model.specs.Contexts.{context_values}
use Rattle.rule_model.specs.Judged.{open_anchors}
use Rattle.rule_model.specs.Proofs.{ProofItems, no_items, with_assume, with_step, with_subproof}
use Rattle.rule_model.specs.Reading.{clause_of, clause_at, premises_of}
use Rattle.rule_model.specs.Scopes.{Nesting, outermost, inner}
use Rattle.rule_model.specs.Truth.{AreWellSorted, IsWellSortedProof, FollowsWhere, FollowsAt}
use Rattle.rule_model.specs.WellFormed.{AreWellFormed, IsWellFormed}
use Rattle.rule_model.specs.Writing.{add_command}
use Rattle.rule_model.proofs.LineReading.{clause_is, premises_are}
use Rattle.rule_model.proofs.ScopedTruth.{IsGood, context_fits}
use Rattle.rule_model.proofs.Standing.{all_at}
use Rattle.hole_fillers.specs.Questions.{asserted_by, asserted_at, HasFewNames, question_terms}
use Rattle.hole_fillers.proofs.Refuting.{refuted}

abbrev IsGoodLine : Line Var Term → Type 0
IsGoodLine l = IsGood (add_command l.scope l.command).nesting

good_lines :
    (nesting : Nesting Var Term) (items : ProofItems Var Term) → IsGood nesting → AreWellFormed nesting items → AreWellSorted nesting items →
    AllByRecursion IsGoodLine (lines_in nesting items)
good_lines nesting no_items good formed sorted = tt
good_lines nesting (with_assume items id t) good formed sorted =
    all_joined IsGoodLine (lines_in nesting items) _ (good_lines nesting items good formed.0 sorted.0) (good, tt)
good_lines nesting (with_step items s) good formed sorted =
    all_joined IsGoodLine (lines_in nesting items) _ (good_lines nesting items good formed.0 sorted.0) (good, tt)
good_lines nesting (with_subproof items bindings proof s) good formed sorted =
    let deep : IsGood (inner nesting items bindings s) = (good, sorted.0, sorted.1, formed.1) in
    all_joined IsGoodLine (lines_in nesting items ++ lines_in (inner nesting items bindings s) proof) _
    (all_joined IsGoodLine (lines_in nesting items) _ (good_lines nesting items good formed.0 sorted.0)
    (good_lines (inner nesting items bindings s) proof deep formed.2 sorted.2))
    (good, tt)

pub justified :
    (assertions : List Term) (proof : ProofItems Var Term) (i : ℕ) → IsWellFormed proof → IsWellSortedProof proof →
    HasFewNames (asserted_at proof i) → Unsatisfiable (question_terms (asserted_at proof i)) → FollowsAt assertions proof i
justified assertions proof i formed sorted few none = go (slice_get (lines_in outermost proof) i) refl
  where
    go : (found : Option (Line Var Term)) → slice_get (lines_in outermost proof) i ≡ found →
        IfSome found (λ line. FollowsWhere assertions (add_command line.scope line.command) (map (clause_at proof) (premises_of line.command))
        (clause_of line.command))
    go None e = tt
    go (Some l) e =
        let same = ap (λ ps. asserted_by (map (clause_at proof) ps) (clause_at proof i)) (premises_are proof i l e)
        ∙ ap (asserted_by (map (clause_at proof) (premises_of l.command))) (clause_is proof i l e) in
        λ I asserted assumes premises.
        refuted (map (clause_at proof) (premises_of l.command)) (clause_of l.command) I
        (context_values I (open_anchors (add_command l.scope l.command).nesting))
        (context_fits I (add_command l.scope l.command).nesting
        (all_at IsGoodLine (lines_in outermost proof) i l (good_lines outermost proof tt formed sorted) e))
        (subst HasFewNames same few) (subst (λ ts. Unsatisfiable (question_terms ts)) same none) premises
