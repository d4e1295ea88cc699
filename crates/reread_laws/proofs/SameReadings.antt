-- Two readings in step, where what is read by the first has some property.
use Rattle.std.proofs.Common.{◌≡◌, ℕ, Bool, true, false, if◌then◌else◌, Result, Ok, Err, refl, ap, ◌∙◌, subst}
use Rattle.std.specs.Prelude.{⊤}
use Rattle.sexpr.specs.declared.causes.Cause.{Cause}
use Rattle.sexpr.specs.declared.causes.Refusal.{Refusal}
use Rattle.problem_text.specs.Outcomes.{Outcome, done, refuse, and_then, going_on}

-- A reading from a state of the first kind that ends without a fault ends in one of that kind; and where it ends in a state of the
-- second kind too, the state before was of that kind, and another reading ends as this one.
module _ {S : Type 0} (Since Within : S → Type 0) where
  abbrev pub EndsSame : {A : Type 0} → S → Result A Refusal → S → Outcome S A → Type 0
  EndsSame s (Ok a) u other = Since s → Since u × (Within u → Within s × (other ≡ done a u))
  EndsSame s (Err refusal) u other = ⊤

  abbrev pub ReadsSame : {A : Type 0} → S → Outcome S A → Outcome S A → Type 0
  ReadsSame s o other = EndsSame s o.result o.state other

  pub same_then : {A B : Type 0} (s : S) (o other : Outcome S A) (next following : A → S → Outcome S B) → ReadsSame s o other
      → ((a : A) (u : S) → ReadsSame u (next a u) (following a u)) → ReadsSame s (and_then o next) (and_then other following)
  same_then {A} {B} s o other next following h k = go o.result o.state h
    where
      both : (a : A) (u : S) → EndsSame s (Ok a) u other → (r : Result B Refusal) (w : S) → EndsSame u r w (following a u)
          → EndsSame s r w (and_then other following)
      both a u h (Err refusal) w m = tt
      both a u h (Ok b) w m = λ since.
          let first = h since in
          let last = m first.0 in (
            last.0,
            λ within.
                let l = last.1 within in
                let f = first.1 l.0 in
                (f.0, ap (λ p. and_then p following) f.1 ∙ l.1),
          )

      go : (r : Result A Refusal) (u : S) → EndsSame s r u other → ReadsSame s (going_on r u next) (and_then other following)
      go (Err refusal) u h = tt
      go (Ok a) u h = both a u h (next a u).result (next a u).state (k a u)

  -- what ends in no state of the second kind ends as any other reading
  pub never_then : {A B : Type 0} (s : S) (o other : Outcome S A) (next : A → S → Outcome S B) (any : Outcome S B) → ReadsSame s o other
      → ((a : A) (u : S) (end : Outcome S B) → ReadsSame u (next a u) end) → ReadsSame s (and_then o next) any
  never_then {A} {B} s o other next any h k = go o.result o.state h
    where
      both : (a : A) (u : S) → EndsSame s (Ok a) u other → (r : Result B Refusal) (w : S)
          → ((end : Outcome S B) → EndsSame u r w end) → EndsSame s r w any
      both a u h (Err refusal) w m = tt
      both a u h (Ok b) w m = λ since.
          let first = h since in
          let last = m any first.0 in
          (last.0, λ within. let l = last.1 within in ((first.1 l.0).0, l.1))

      go : (r : Result A Refusal) (u : S) → EndsSame s r u other → ReadsSame s (going_on r u next) any
      go (Err refusal) u h = tt
      go (Ok a) u h = both a u h (next a u).result (next a u).state (k a u)

  pub same_done : {A : Type 0} (a : A) (s : S) → ReadsSame s (done a s) (done a s)
  same_done a s = λ since. (since, λ within. (within, refl))

  pub same_unless : {A : Type 0} (b : Bool) (cause : Cause) (place : ℕ) (s : S) (o other : Outcome S A) → ReadsSame s o other
      → ReadsSame s (if b then refuse cause place s else o) (if b then refuse cause place s else other)
  same_unless true cause place s o other h = tt
  same_unless false cause place s o other h = h

  -- where it is known what is read
  pub ends_same : {A : Type 0} (s u : S) (a : A) (o other : Outcome S A) → ReadsSame s o other → o ≡ done a u → Since s → Within u → other ≡ done a u
  ends_same {A} s u a o other h e since within = ((subst (λ (q : Outcome S A). ReadsSame s q other) e h since).1 within).1
