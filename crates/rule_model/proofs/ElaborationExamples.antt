-- Private. Proofs that keep another, and proofs that do not.
use Rattle.std.proofs.Common.{◌≤◌, ◌+◌, ◌*◌, ℕ, List, [], ◌∷◌, length, Some, All, Contains, refl, ◌∙◌, ap, arith}
use Rattle.std.specs.List.{AllZip}
use Rattle.std.proofs.lemmas.List.Elements.{All-head, All-tail}
use Rattle.std.proofs.lemmas.Option.{slice_get-get_or}
use Rattle.term_model.specs.Terms.{Var, Term}
use Rattle.rule_model.specs.declared.rules.Mode.{Mode}
use Rattle.rule_model.specs.declared.rules.Rule.{Rule}
use Rattle.rule_model.specs.declared.statuses.Status.{Status}
use Rattle.rule_model.specs.Columns.{checking_in}
use Rattle.rule_model.specs.Commands.{Line}
use Rattle.rule_model.specs.Correspondence.{IsSubsequence, both_end, stays, dropped, placed_clauses}
use Rattle.rule_model.specs.Elaboration.{none_added, step_added, TakesPlace, IsSamePlace, IsLowLine, IsElaboration}
use Rattle.rule_model.specs.Elaboration.{Keeps, nothing_kept, assume_kept, step_kept, subproof_kept}
use Rattle.rule_model.specs.ElaborationExamples.{ending, with_more, without_subproof}
use Rattle.rule_model.specs.Proofs.{Step, ProofItems, no_items, with_assume, with_step, with_subproof}
use Rattle.rule_model.specs.Scopes.{Nesting, outermost, inner}
use Rattle.rule_model.specs.Statuses.{Checking, AreStatuses, Passes}
use Rattle.rule_model.specs.Visibility.{assumes_in}
use Rattle.rule_model.specs.WellFormed.{AreWellFormed, IsWellFormed}
use Rattle.rule_model.specs.Worked.{worked}
use Rattle.rule_model.proofs.Correspondence.{same_frames, clauses_stay}
use Rattle.rule_model.proofs.Elaboration.{keeps_words}

-- a proof keeps itself
same_places : (ks ds : List ℕ) → All (Contains ks) ds → AllZip (IsSamePlace ks ks) ds ds
same_places ks [] all = tt
same_places ks (d ∷ ds) all = (
  here (All-head (Contains ks) d ds all),
  same_places ks ds (All-tail (Contains ks) d ds all),
)
  where
    here : Contains ks d → IsSamePlace ks ks d d
    here (k, within, is) =
        let there = slice_get-get_or ks k d within ∙ ap Some is in record { place = k; old_is = there; new_is = there }

takes_its_place : (c : Checking) {T : Type 0} (s : Step T) → TakesPlace c s s
takes_its_place c s = record { clause = refl; hole = λ h. (h, refl); no_hole = λ h. h }

keeps_itself : (c : Checking) {V T : Type 0} (nesting : Nesting V T) (items : ProofItems V T) → AreWellFormed nesting items
    → Keeps c nesting items nesting items
keeps_itself c nesting no_items formed = nothing_kept nesting nesting
keeps_itself c nesting (with_assume items id t) formed =
    assume_kept nesting nesting items items items id id t (keeps_itself c nesting items formed.0) (none_added nesting items)
keeps_itself c nesting (with_step items s) formed =
    step_kept nesting nesting items items items s s (keeps_itself c nesting items formed.0) (none_added nesting items) (takes_its_place c s)
keeps_itself c nesting (with_subproof items bindings proof s) formed =
    subproof_kept nesting nesting items items items proof proof bindings s s (keeps_itself c nesting items formed.0) (none_added nesting items)
    (keeps_itself c (inner nesting items bindings s) proof formed.2) (takes_its_place c s)
    (same_places (assumes_in (inner nesting items bindings s) proof) s.discharged formed.3.discharged)

lower_still : (h : ℕ) (line : Line Var Term) → IsLowLine h line → IsLowLine (2 * h + 10) line
lower_still h line low =
    record {
      clause = λ k d within. let l = low.clause k d within in omega arith;
      pivots = λ k d within. let l = low.pivots k d within in omega arith;
      images = λ k d within. let l = low.images k d within in omega arith;
    }

pub elaborates_itself : (c : Checking) (proof : ProofItems Var Term) (statuses : List Status) → IsWellFormed proof
    → AreStatuses (checking_in Mode.Strict c) proof statuses → All Passes statuses → IsElaboration c proof proof
elaborates_itself c proof statuses formed are pass =
    record {
      formed = formed;
      sorted = λ s. s;
      statuses = statuses;
      are = are;
      pass = pass;
      kept = keeps_itself c outermost proof formed;
      low = λ h assertions low k d within. lower_still h _ (low k d within);
    }

-- further steps, before the anchor and inside
pub more_kept : (c : Checking) → Keeps c outermost worked outermost (ending with_more Rule.Hole)
more_kept c =
    step_kept _ _ _ _ _ _ _
    (subproof_kept _ _ _ _ _ _ _ _ _ _ (nothing_kept _ _) (step_added _ _ _ _ (none_added _ _) (λ e. cc))
    (step_kept _ _ _ _ _ _ _ (assume_kept _ _ _ _ _ _ _ _ (nothing_kept _ _) (none_added _ _))
    (step_added _ _ _ _ (none_added _ _) (λ e. cc)) (record { clause = refl; hole = λ h. (h, refl); no_hole = λ h. h }))
    (record { clause = refl; hole = λ h. absurd cc; no_hole = λ h. absurd cc })
    (record { place = 0; old_is = refl; new_is = refl }, tt))
    (none_added _ _)
    (record { clause = refl; hole = λ h. (h, refl); no_hole = λ h. h })

-- the subproof is not there
pub short_drops : (c : Checking) → ¬ Keeps c outermost worked outermost (ending no_items Rule.Hole)
short_drops c keeps = let same = same_frames c worked (ending no_items Rule.Hole) keeps in cc

pub dropped_subproof : (c : Checking) → ¬ Keeps c outermost worked outermost (ending without_subproof Rule.Hole)
dropped_subproof c keeps = let same = same_frames c worked (ending without_subproof Rule.Hole) keeps in cc

pub other_hole : (c : Checking) → ¬ Keeps c outermost worked outermost (ending with_more Rule.NotNot)
other_hole c keeps = let same = keeps_words c outermost outermost worked (ending with_more Rule.NotNot) keeps in cc

pub not_back : (c : Checking) → ¬ Keeps c outermost (ending with_more Rule.Hole) outermost worked
not_back c keeps = fewer (clauses_stay c (ending with_more Rule.Hole) worked keeps)
  where
    longer : {X : Type 0} (xs ys : List X) → IsSubsequence xs ys → length xs ≤ length ys
    longer _ _ both_end = omega arith
    longer _ _ (stays x xs ys more) = let h = longer xs ys more in omega arith
    longer _ _ (dropped y xs ys more) = let h = longer xs ys more in omega arith

    fewer : IsSubsequence (placed_clauses (ending with_more Rule.Hole)) (placed_clauses worked) → ⊥
    fewer s = let h = longer _ _ s in omega arith
