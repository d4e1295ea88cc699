-- Cited by crates above. In a well-formed, well-sorted proof the literals of a step and of its premises' clauses may stand where the
-- step belongs; and no premise's literal is higher than those of the proof.
use Rattle.std.proofs.Common.{◌≡◌, ◌<◌, ◌≤◌, inr, ℕ, slice_get, Some, refl, sym, ◌∙◌, ap, subst, arith, Contains}
use Rattle.std.proofs.lemmas.List.Elements.{All-contains, All-from_recursion}
use Rattle.std.proofs.lemmas.Option.{slice_get_within}
use Rattle.term_model.proofs.Lists.{nth_there}
use Rattle.term_model.specs.declared.symbols.Sort.{Sort}
use Rattle.term_model.specs.Heights.{height}
use Rattle.term_model.specs.Sorts.{IsOf}
use Rattle.term_model.specs.Terms.{Var, Term}
use Rattle.rule_model.specs.Commands.{IndexedCommand, assume, step, closing, Line, lines_in, lines_to}
use Rattle.rule_model.specs.Contexts.{IsClosedUnder}
use Rattle.rule_model.specs.Elaboration.{IsLowProof}
use Rattle.rule_model.specs.Judged.{anchors_at, open_anchors}
use Rattle.rule_model.specs.Proofs.{ProofItems}
use Rattle.rule_model.specs.Reading.{clause_at, closes_at, premises_at}
use Rattle.rule_model.specs.Scopes.{Nesting, outermost, inside, Scope, at, commands_in}
use Rattle.rule_model.specs.Truth.{IsWellSortedProof}
use Rattle.rule_model.specs.WellFormed.{IsWellFormed}
use Rattle.rule_model.specs.Writing.{add_command, own_nesting}
use Rattle.rule_model.proofs.LineReading.{anchors_are, closes_is, premises_are}
use Rattle.rule_model.proofs.Lines.{lines_before}
use Rattle.rule_model.proofs.Numbers.{lines_in_count}
use Rattle.rule_model.proofs.Sights.{IsOpenAt, own, outside, IsSeen, Opens}
use Rattle.rule_model.proofs.Standing.{command_may, premise_seen, slice_get_taken}
use Rattle.elaboration_laws.specs.StrictBlocks.{MayBeLiteral}
use Rattle.elaboration_laws.proofs.Anchors.{own_is, own_list}
use Rattle.elaboration_laws.proofs.Lowering.{low_at}
use Rattle.elaboration_laws.proofs.Sorting.{literals_at}

open_closed : (t : Term) (scope : Scope Var Term) (n : Nesting Var Term) (items : ProofItems Var Term) → IsOpenAt scope n items
    → IsClosedUnder (open_anchors scope.nesting) t → IsClosedUnder (open_anchors n) t
open_closed t _ _ _ (own n items more f) closed = closed
open_closed t _ _ _ (outside scope around before anchor items o) closed = λ x free. inr (open_closed t scope around before o closed x free)

added_nesting : (n : Nesting Var Term) (items : ProofItems Var Term) (c : IndexedCommand Term) → (add_command (at n items) c).nesting ≡ own_nesting n c
added_nesting n items (assume id t) = refl
added_nesting n items (step s) = refl
added_nesting outermost items (closing s) = refl
added_nesting (inside around before anchor) items (closing s) = refl

-- the anchors that are open where a command belongs
own_there : (proof : ProofItems Var Term) (i : ℕ) (l : Line Var Term) → slice_get (lines_in outermost proof) i ≡ Some l
    → own_list (closes_at proof i) (anchors_at proof i) ≡ open_anchors (own_nesting l.scope.nesting l.command)
own_there proof i l there =
    ap (λ o. own_list o (anchors_at proof i)) (closes_is proof i l there)
    ∙ (ap (own_list _) (anchors_are proof i l there) ∙ sym (own_is l.scope.nesting l.command))

module _ (proof : ProofItems Var Term) (formed : IsWellFormed proof) (i : ℕ) (less : i < commands_in proof) where
  here : (l : Line Var Term) × (slice_get (lines_in outermost proof) i ≡ Some l)
  here = nth_there (lines_in outermost proof) i (let count = lines_in_count outermost proof in omega arith)

  module _ (p : ℕ) (has : Contains (premises_at proof i) p) where
    seen : (before : ProofItems Var Term) × IsSeen (Opens (own_nesting here.0.scope.nesting here.0.command) before) (lines_to here.0.scope) p
    seen =
        premise_seen here.0.scope here.0.command p (command_may proof i here.0 formed here.1)
        (subst (λ js. Contains js p) (premises_are proof i here.0 here.1) has)

    there : slice_get (lines_in outermost proof) p ≡ Some seen.1.0
    there =
        slice_get_taken i (lines_in outermost proof) p seen.1.0
        (subst (λ ls. slice_get ls p ≡ Some seen.1.0) (lines_before outermost proof i here.0 here.1) seen.1.1)

    pub premise_within : p < commands_in proof
    premise_within = let within = slice_get_within (lines_in outermost proof) p seen.1.0 there in let count = lines_in_count outermost proof in omega arith

    -- what is closed where a premise belongs is closed where the step does
    pub premise_closed : (t : Term) → IsClosedUnder (own_list (closes_at proof p) (anchors_at proof p)) t
        → IsClosedUnder (own_list (closes_at proof i) (anchors_at proof i)) t
    premise_closed t closed =
        let m = seen.1.0 in
        let of_scope = own_there proof p m there ∙ ap open_anchors (sym (added_nesting m.scope.nesting m.scope.items m.command)) in
        subst (λ xs. IsClosedUnder xs t) (sym (own_there proof i here.0 here.1))
        (open_closed t (add_command m.scope m.command) (own_nesting here.0.scope.nesting here.0.command) seen.0 seen.1.2
        (subst (λ xs. IsClosedUnder xs t) of_scope closed))

closed_literal : (proof : ProofItems Var Term) (i : ℕ) → i < commands_in proof → IsWellSortedProof proof → (t : Term) → Contains (clause_at proof i) t
    → IsClosedUnder (own_list (closes_at proof i) (anchors_at proof i)) t
closed_literal proof i less sorted t has =
    (All-contains (MayBeLiteral (own_list (closes_at proof i) (anchors_at proof i))) (clause_at proof i) t
    (All-from_recursion (MayBeLiteral (own_list (closes_at proof i) (anchors_at proof i))) (clause_at proof i) (literals_at proof i less sorted)) has).1

sorted_literal : (proof : ProofItems Var Term) (i : ℕ) → i < commands_in proof → IsWellSortedProof proof → (t : Term) → Contains (clause_at proof i) t
    → IsOf t Sort.Bool
sorted_literal proof i less sorted t has =
    (All-contains (MayBeLiteral (own_list (closes_at proof i) (anchors_at proof i))) (clause_at proof i) t
    (All-from_recursion (MayBeLiteral (own_list (closes_at proof i) (anchors_at proof i))) (clause_at proof i) (literals_at proof i less sorted)) has).0

low_literal : (h : ℕ) (proof : ProofItems Var Term) (i : ℕ) → i < commands_in proof → IsLowProof h proof → (t : Term)
    → Contains (clause_at proof i) t → height t ≤ h
low_literal h proof i less low t has = All-contains (λ u. height u ≤ h) (clause_at proof i) t (low_at h proof i less low).clause has

module _ (proof : ProofItems Var Term) (formed : IsWellFormed proof) (i : ℕ) (less : i < commands_in proof) where
  pub own_closed : IsWellSortedProof proof → (t : Term) → Contains (clause_at proof i) t → IsClosedUnder (own_list (closes_at proof i) (anchors_at proof i)) t
  own_closed sorted t has = closed_literal proof i less sorted t has

  pub given_closed : IsWellSortedProof proof → (p : ℕ) → Contains (premises_at proof i) p → (t : Term) → Contains (clause_at proof p) t
      → IsClosedUnder (own_list (closes_at proof i) (anchors_at proof i)) t
  given_closed sorted p has t literal =
      premise_closed proof formed i less p has t (closed_literal proof p (premise_within proof formed i less p has) sorted t literal)

  pub own_sorted : IsWellSortedProof proof → (t : Term) → Contains (clause_at proof i) t → IsOf t Sort.Bool
  own_sorted sorted t has = sorted_literal proof i less sorted t has

  pub premise_sorted : IsWellSortedProof proof → (p : ℕ) → Contains (premises_at proof i) p → (t : Term) → Contains (clause_at proof p) t → IsOf t Sort.Bool
  premise_sorted sorted p has t literal = sorted_literal proof p (premise_within proof formed i less p has) sorted t literal

  pub own_low : (h : ℕ) → IsLowProof h proof → (t : Term) → Contains (clause_at proof i) t → height t ≤ h
  own_low h low t has = low_literal h proof i less low t has

  pub given_low : (h : ℕ) → IsLowProof h proof → (p : ℕ) → Contains (premises_at proof i) p → (t : Term) → Contains (clause_at proof p) t → height t ≤ h
  given_low h low p has t literal = low_literal h proof p (premise_within proof formed i less p has) low t literal
