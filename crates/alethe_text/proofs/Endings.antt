-- What holds of what was read and of the state after it, where a reading has no fault.
use Rattle.std.proofs.Common.{◌≡◌, ℕ, Bool, true, false, Option, Some, None, Result, Ok, Err, IfSome, IfOk, refl}
use Rattle.std.specs.Prelude.{⊤}
use Rattle.sexpr.specs.declared.causes.Cause.{Cause}
use Rattle.sexpr.specs.declared.causes.Refusal.{Refusal}
use Rattle.term_model.specs.Terms.{Var, Term}
use Rattle.rule_model.specs.Scopes.{Scope}
use Rattle.problem_text.specs.Outcomes.{Outcome, going_on}
use Rattle.problem_text.specs.Scripts.{Script}
use Rattle.alethe_text.specs.States.{ProofState, Reading, ◌>>=◌, demand, found, given, seen_in, changed, in_script}

abbrev pub After : {A : Type 0} → (A → ProofState → Type 0) → Result A Refusal → ProofState → Type 0
After Q (Ok a) s = Q a s
After Q (Err refusal) s = ⊤

abbrev pub Ends : {A : Type 0} → (A → ProofState → Type 0) → Outcome ProofState A → Type 0
Ends Q o = After Q o.result o.state

after_goes : {A B : Type 0} (Q : A → ProofState → Type 0) (R : B → ProofState → Type 0) (r : Result A Refusal) (s : ProofState) (next : A → Reading B) → After Q r s → ((a : A) (t : ProofState) → Q a t → Ends R (next a t)) → Ends R (going_on r s next)
after_goes Q R (Ok a) s next h k = k a s h
after_goes Q R (Err refusal) s next h k = tt

-- one reading and then another
pub and_next : {A B : Type 0} (Q : A → ProofState → Type 0) (R : B → ProofState → Type 0) (reading : Reading A) (next : A → Reading B) (s : ProofState) → Ends Q (reading s) → ((a : A) (t : ProofState) → Q a t → Ends R (next a t)) → Ends R ((reading >>= next) s)
unfolding ◌>>=◌
and_next Q R reading next s h k = after_goes Q R (reading s).result (reading s).state next h k

-- what was demanded holds, and the state is as before
pub demanded : (P : ProofState → Type 0) (holds : Bool) (cause : Cause) (place : ℕ) (s : ProofState) → P s → Ends (λ _ t. (holds ≡ true) × P t) (demand holds cause place s)
demanded P true cause place s p = (refl, p)
demanded P false cause place s p = tt

pub found_one : {A : Type 0} (Q : A → Type 0) (P : ProofState → Type 0) (o : Option A) (cause : Cause) (place : ℕ) (s : ProofState) → IfSome o Q → P s → Ends (λ a t. Q a × P t) (found o cause place s)
found_one Q P (Some a) cause place s q p = (q, p)
found_one Q P None cause place s q p = tt

-- a reading in the script alone leaves the proof that is written
pub in_script_stays : {A : Type 0} (P : Scope Var Term → Type 0) (reading : Script → Outcome Script A) (s : ProofState) → P s.scope → Ends (λ _ t. P t.scope) (in_script reading s)
in_script_stays {A} P reading s p = go (reading s.script).result
  where
    go : (r : Result A Refusal) → After (λ _ t. P t.scope) r (record s { script = (reading s.script).state })
    go (Ok a) = p
    go (Err refusal) = tt

-- steps that leave the state: a look at it, a demand, a result
pub looked : {A B : Type 0} (R : B → ProofState → Type 0) (look : ProofState → A) (next : A → Reading B) (s : ProofState) → Ends R (next (look s) s) → Ends R ((seen_in look >>= next) s)
unfolding ◌>>=◌
looked R look next s h = h

pub asked : {B : Type 0} (R : B → ProofState → Type 0) (holds : Bool) (cause : Cause) (place : ℕ) (next : ⊤ → Reading B) (s : ProofState) → (holds ≡ true → Ends R (next tt s)) → Ends R ((demand holds cause place >>= next) s)
unfolding ◌>>=◌
asked R true cause place next s h = h refl
asked R false cause place next s h = tt

pub asked_last : (R : ⊤ → ProofState → Type 0) (holds : Bool) (cause : Cause) (place : ℕ) (s : ProofState) → (holds ≡ true → R tt s) → Ends R (demand holds cause place s)
asked_last R true cause place s h = h refl
asked_last R false cause place s h = tt

pub given_next : {A B : Type 0} (Q : A → Type 0) (R : B → ProofState → Type 0) (r : Result A Refusal) (next : A → Reading B) (s : ProofState) → IfOk r Q → ((a : A) → Q a → Ends R (next a s)) → Ends R ((given r >>= next) s)
unfolding ◌>>=◌
given_next Q R (Ok a) next s q k = k a q
given_next Q R (Err refusal) next s q k = tt

-- a change of the state
pub changed_next : {B : Type 0} (R : B → ProofState → Type 0) (change : ProofState → ProofState) (next : ⊤ → Reading B) (s : ProofState) → Ends R (next tt (change s)) → Ends R ((changed change >>= next) s)
unfolding ◌>>=◌
changed_next R change next s h = h

pub always : {A : Type 0} (r : Result A Refusal) → IfOk r (λ _. ⊤)
always (Ok a) = tt
always (Err refusal) = tt
