-- Cited by crates above. What is said of results that are handed on.
use Rattle.std.proofs.Common.{◌≡◌, refl, Result, Ok, Err, IfOk, IfErr, OnErr, IsErrAnd, Option, Some, None, IfSome, IfNone, IsSome, sym, subst}

pub if_err : {A E : Type 0} (r : Result A E) (P : E → Type 0) → ((e : E) → P e) → IfErr r P
if_err (Ok a) P h = tt
if_err (Err e) P h = h e

pub handed_on : {A E : Type 0} (r : Result A E) (e : E) (P : E → Type 0) → IsErrAnd r (λ x. x ≡ e) → P e → IfErr r P
handed_on (Ok a) e P is h = tt
handed_on (Err x) e P is h = subst P (sym is) h

pub on_err : {A E : Type 0} (r : Result A E) (P : Type 0) → P → OnErr r P
on_err (Ok a) P h = tt
on_err (Err e) P h = h

-- what is said of a result that is Ok, or not
pub was_ok : {A E : Type 0} (r : Result A E) (a : A) (P : A → Type 0) → r ≡ Ok a → IfOk r P → P a
was_ok r a P e h = subst (λ x. IfOk x P) e h

pub was_err : {A E : Type 0} (r : Result A E) (e : E) (P : Type 0) → r ≡ Err e → OnErr r P → P
was_err r e P d h = subst (λ x. OnErr x P) d h

-- what is said of a value that may be there
pub some_where : {A : Type 0} (o : Option A) (P : Type 0) → IfNone o P → (P → ⊥) → IsSome o
some_where None P h k = absurd (k h)
some_where (Some a) P h k = refl

pub was_some : {A : Type 0} (o : Option A) (a : A) (P : A → Type 0) → o ≡ Some a → IfSome o P → P a
was_some o a P e h = subst (λ x. IfSome x P) e h
