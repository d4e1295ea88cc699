-- Cited by crates above. What is said of results.
use Rattle.std.proofs.Common.{◌≡◌, Result, Ok, Err, IfOk, IfErr, OnOk, OnErr, IsErrAnd, sym, subst}

pub if_ok : {A E : Type 0} (r : Result A E) (P Q : A → Type 0) → ((a : A) → P a → Q a) → IfOk r P → IfOk r Q
if_ok (Ok a) P Q more h = more a h
if_ok (Err e) P Q more h = tt

pub on_err : {A E : Type 0} (r : Result A E) (P Q : Type 0) → (P → Q) → OnErr r P → OnErr r Q
on_err (Ok a) P Q more h = tt
on_err (Err e) P Q more h = more h

-- what follows both from the one and from the other
pub either_way : {A E : Type 0} (r : Result A E) (P : A → Type 0) (Q R : Type 0) → ((a : A) → P a → R) → (Q → R) → IfOk r P → OnErr r Q → R
either_way (Ok a) P Q R of_ok of_err h k = of_ok a h
either_way (Err e) P Q R of_ok of_err h k = of_err k

pub on_ok : {A E : Type 0} (r : Result A E) (P Q : Type 0) → (P → Q) → OnOk r P → OnOk r Q
on_ok (Ok a) P Q more h = more h
on_ok (Err e) P Q more h = tt

pub if_err : {A E : Type 0} (r : Result A E) (P : E → Type 0) → ((e : E) → P e) → IfErr r P
if_err (Ok a) P h = tt
if_err (Err e) P h = h e

pub err_more : {A E : Type 0} (r : Result A E) (P Q : E → Type 0) → ((e : E) → P e → Q e) → IfErr r P → IfErr r Q
err_more (Ok a) P Q more h = tt
err_more (Err e) P Q more h = more e h

-- an error that is handed on
pub handed_on : {A E : Type 0} (r : Result A E) (e : E) (P : E → Type 0) → IsErrAnd r (λ x. x ≡ e) → P e → IfErr r P
handed_on (Ok a) e P is h = tt
handed_on (Err x) e P is h = subst P (sym is) h
