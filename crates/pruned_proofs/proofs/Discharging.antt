-- Cited by crates above. What a step discharges that closes a scope stands directly in it, and is kept with the step.
use Rattle.std.proofs.Common.{◌≡◌, ◌<◌, ℕ, Bool, true, List, slice_get, Some, All, Contains, refl, sym, ◌∙◌, ap, subst, arith}
use Rattle.std.proofs.lemmas.List.Elements.{All-contains}
use Rattle.rule_model.specs.Commands.{IndexedCommand, assume, step, closing, Line, lines_in, closed_scope}
use Rattle.rule_model.specs.Proofs.{Step, ProofItems}
use Rattle.rule_model.specs.Reading.{discharged_at, discharged_of, scope_at, closes_at, is_assume}
use Rattle.rule_model.specs.Scopes.{Nesting, outermost, inside, at, commands_in, scope_number}
use Rattle.rule_model.specs.Subproof.{IsAssumeIn}
use Rattle.rule_model.specs.Visibility.{assumes_in}
use Rattle.rule_model.specs.WellFormed.{IsWellFormed}
use Rattle.rule_model.specs.Writing.{MayAddHere}
use Rattle.rule_model.proofs.LineReading.{rule_is, discharged_are, scope_is, closes_is}
use Rattle.rule_model.proofs.Lines.{lines_before}
use Rattle.rule_model.proofs.Standing.{command_may, slice_get_taken, taken_few}
use Rattle.std.proofs.lemmas.Option.{slice_get_within}
use Rattle.term_model.proofs.Lists.{contains_none}
use Rattle.pruned_proofs.specs.Reached.{is_kept, on_assume, AreReachedMarks}
use Rattle.pruned_proofs.proofs.Nested.{assume_line, rests_kept}
use Rattle.pruned_proofs.proofs.Resting.{is_closing}

module _ {V T : Type 0} where
  direct : (n : Nesting V T) (items : ProofItems V T) (s : Step T) → MayAddHere (at n items) (closing s) → All (Contains (assumes_in n items)) s.discharged
  direct outermost items s may = absurd may
  direct (inside around before anchor) items s may = may.discharged

-- what a step discharges that closes a scope is an assume that stands directly in it
pub discharged_in : {V T : Type 0} (proof : ProofItems V T) → IsWellFormed proof → (i k : ℕ) (l : Line V T) → slice_get (lines_in outermost proof) i ≡ Some l → closes_at proof i ≡ Some k
    → (d : ℕ) → Contains (discharged_at proof i) d → IsAssumeIn proof i k d
discharged_in proof formed i k l here closes d has =
    let is = is_closing l k (sym (closes_is proof i l here) ∙ closes) in
    let may = subst (MayAddHere l.scope) is.command (command_may proof i l formed here) in
    let own = subst (λ ds. Contains ds d) (discharged_are proof i l here ∙ ap discharged_of is.command) has in
    let among = All-contains (Contains (assumes_in l.scope.nesting l.scope.items)) is.s.discharged d (direct l.scope.nesting l.scope.items is.s may) own in
    let a = assume_line l.scope.nesting l.scope.items d among in
    let taken = subst (λ ls. slice_get ls d ≡ Some a.line) (lines_before outermost proof i l here) a.there in
    let there = slice_get_taken i (lines_in outermost proof) d a.line taken in
    record {
      before = let below = slice_get_within _ d a.line taken in let few = taken_few i (lines_in outermost proof) in omega arith;
      scope = scope_is proof d a.line there ∙ (a.own ∙ is.scope);
      assume = ap is_assume (rule_is proof d a.line there) ∙ a.assume;
    }

-- and a step that closes nothing discharges nothing
pub discharged_before : {V T : Type 0} (proof : ProofItems V T) → IsWellFormed proof → (i : ℕ) (l : Line V T) → slice_get (lines_in outermost proof) i ≡ Some l
    → (d : ℕ) → Contains (discharged_at proof i) d → d < i
discharged_before {V} {T} proof formed i l here d has =
    go l.command refl (subst (λ ds. Contains ds d) (discharged_are proof i l here) has) (command_may proof i l formed here)
  where
    go : (c : IndexedCommand T) → l.command ≡ c → Contains (discharged_of l.command) d → MayAddHere l.scope l.command → d < i
    go (assume id t) same own may = absurd (contains_none d (subst (λ c. Contains (discharged_of c) d) same own))
    go (step s) same own may =
        let stands = subst (MayAddHere l.scope) same may in
        absurd (contains_none d (subst (λ ds. Contains ds d) stands.discharged (subst (λ c. Contains (discharged_of c) d) same own)))
    go (closing s) same own may =
        (discharged_in proof formed i (scope_number l.scope.nesting) l here (closes_is proof i l here ∙ ap (closed_scope l.scope.nesting) same) d has).before

pub discharged_is_kept : {V T : Type 0} (proof : ProofItems V T) (formed : IsWellFormed proof) (from : ℕ) (within : from < commands_in proof) (outer : scope_at proof from ≡ 0)
    (marks : List Bool) (are : AreReachedMarks proof from marks) (i k : ℕ) (l : Line V T) (here : slice_get (lines_in outermost proof) i ≡ Some l) (kept : is_kept marks i ≡ true)
    (closes : closes_at proof i ≡ Some k) → (d : ℕ) → Contains (discharged_at proof i) d → is_kept marks d ≡ true
discharged_is_kept proof formed from within outer marks are i k l here kept closes d has =
    rests_kept proof formed from within outer marks are i d kept (on_assume k closes (discharged_in proof formed i k l here closes d has))
