-- Cited by crates above. A verdict on a proof over references is one on the proof over terms for which it stands.
use Rattle.std.proofs.Common.{◌≡◌, ℕ, zero, suc, ◌<◌, List, [], ◌∷◌, length, slice_get, Some, Result, Ok, Err, IfOk, refl, sym, ◌∙◌, arith}
use Rattle.std.specs.List.{AllZip}
use Rattle.sym_table.specs.Table.{Table}
use Rattle.term_model.specs.Terms.{Var, Term}
use Rattle.term_model.proofs.Zips.{zip_length}
use Rattle.term_pool.specs.Views.{TermsView, RefersTo}
use Rattle.rule_model.specs.declared.statuses.Status.{Status}
use Rattle.rule_model.specs.declared.statuses.Verdict.{Verdict}
use Rattle.rule_model.specs.Proofs.{ProofItems}
use Rattle.rule_model.specs.Reading.{clause_at}
use Rattle.rule_model.specs.Statuses.{ReachesEmpty, IsVerdict}
use Rattle.rules_resolution.specs.Steps.{IsShort}
use Rattle.rule_model.specs.Scopes.{commands_in}
use Rattle.term_reader.specs.declared.flags.Flags.{Flags}
use Rattle.step_check.specs.Chunks.{CanBeChecked}
use Rattle.step_check.specs.Statuses.{AreStatusesOf}
use Rattle.judged_texts.specs.Naming.{NamesOneOf}
use Rattle.judged_texts.specs.Judging.{Corresponds}

module _ {A B : Type 0} (R : A → B → Type 0) where
  zip_nil : (xs : List A) (ys : List B) → AllZip R xs ys → xs ≡ [] → ys ≡ []
  zip_nil [] [] h e = refl
  zip_nil [] (y ∷ ys) h e = absurd h
  zip_nil (x ∷ xs) [] h e = absurd h
  zip_nil (x ∷ xs) (y ∷ ys) h e = absurd (cc)

  nil_zip : (xs : List A) (ys : List B) → AllZip R xs ys → ys ≡ [] → xs ≡ []
  nil_zip [] [] h e = refl
  nil_zip [] (y ∷ ys) h e = absurd h
  nil_zip (x ∷ xs) [] h e = absurd h
  nil_zip (x ∷ xs) (y ∷ ys) h e = absurd (cc)

module _ (s : Table) (v : TermsView) (refs : ProofItems ℕ ℕ) (proof : ProofItems Var Term) (same : Corresponds s v refs proof) where
  reaches : ReachesEmpty refs → ReachesEmpty proof
  reaches h = record {
    index = h.index;
    within = omega (arith, h.within, same.count);
    scope = sym (same.scopes h.index) ∙ h.scope;
    empty = zip_nil (RefersTo s v) (clause_at refs h.index) (clause_at proof h.index) (same.clauses h.index) h.empty;
  }

  reached : ReachesEmpty proof → ReachesEmpty refs
  reached h = record {
    index = h.index;
    within = omega (arith, h.within, same.count);
    scope = same.scopes h.index ∙ h.scope;
    empty = nil_zip (RefersTo s v) (clause_at refs h.index) (clause_at proof h.index) (same.clauses h.index) h.empty;
  }

  pub verdict_stands : (statuses : List Status) (of : Verdict) → IsVerdict statuses refs of → IsVerdict statuses proof of
  verdict_stands statuses (Verdict.InvalidAt i cause) h = h
  verdict_stands statuses (Verdict.Unknown i) h = h
  verdict_stands statuses Verdict.NoEmpty h = (h.0, λ r. h.1 (reached r))
  verdict_stands statuses Verdict.Holey h = (h.0, h.1, reaches h.2)
  verdict_stands statuses Verdict.Valid h = (h.0, reaches h.1)

  pub short_stands : IsShort proof → IsShort refs
  short_stands h = record {
    clauses = λ i. rw (← zip_length (RefersTo s v) (clause_at refs i) (clause_at proof i) (same.clauses i)) at (h.clauses i);
    premises = λ i. rw (← same.premises i) at (h.premises i);
  }

-- there is a status for each command that is checked
pub covers : (flags : Flags) (s : Table) (v : TermsView) (rs : List ℕ) (refs : ProofItems ℕ ℕ) (can : CanBeChecked s v rs refs) (statuses : List Status)
    → commands_in refs ≡ commands_in can.proof → AreStatusesOf flags s v rs refs statuses → length statuses ≡ commands_in refs
covers flags s v rs refs can statuses same are = (are can.proof can.asserted.assertions can.stand can.asserted.refer).count ∙ sym same

-- a command that a verdict names is one of those with a status
pub status_within : (statuses : List Status) (i : ℕ) (status : Status) → slice_get statuses i ≡ Some status → i < length statuses
status_within [] i status e = absurd (cc)
status_within (z ∷ statuses) zero status e = omega arith
status_within (z ∷ statuses) (suc i) status e = let h = status_within statuses i status e in omega (arith, h)

pub verdict_within : (statuses : List Status) (refs : ProofItems ℕ ℕ) (of : Verdict) → IsVerdict statuses refs of → NamesOneOf (length statuses) of
verdict_within statuses refs (Verdict.InvalidAt i cause) h = status_within statuses i (Status.Faulty cause) h.here
verdict_within statuses refs (Verdict.Unknown i) h = status_within statuses i Status.Wide h.here
verdict_within statuses refs Verdict.NoEmpty h = tt
verdict_within statuses refs Verdict.Holey h = tt
verdict_within statuses refs Verdict.Valid h = tt

-- what holds of an answer holds in weaker words
pub if_ok_more : {A E : Type 0} (P Q : A → Type 0) → ((a : A) → P a → Q a) → (r : Result A E) → IfOk r P → IfOk r Q
if_ok_more P Q more (Ok a) h = more a h
if_ok_more P Q more (Err e) h = h
