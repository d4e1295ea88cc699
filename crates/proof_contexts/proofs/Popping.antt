-- What a stack has after a call that may have failed.
use Rattle.std.proofs.Common.{◌≡◌, ◌-◌, ◌++◌, ℕ, List, [], take, Option, Some, None, MatchOption, Result, Ok, Err, is_ok, is_err, Bool, true, false, if◌then◌else◌, refl, ◌∙◌, ap}
use Rattle.std.specs.Option.{option_to_list}

pub emptied : (old new : List ℕ) (n m : ℕ) (r : Option ℕ) (Q : ℕ → Type 0) → ((x : ℕ) → r ≡ Some x → ⊥) → MatchOption r ((n ≡ 0) × (m ≡ 0)) Q → new ≡ take (n - 1) old → old ≡ new ++ option_to_list r → old ≡ []
emptied old new n m None Q never cases rest items = items ∙ ap (λ xs. xs ++ []) (rest ∙ ap (λ (k : ℕ). take (k - 1) old) cases.0)
emptied old new n m (Some x) Q never cases rest items = absurd (never x refl)

pub err_is_not_ok : {T E : Type 0} (r : Result T E) → is_err r ≡ true → is_ok r ≡ false
err_is_not_ok (Ok x) h = absurd cc
err_is_not_ok (Err e) h = refl

pub no_err_is_ok : {T E : Type 0} (r : Result T E) → is_err r ≡ false → is_ok r ≡ true
no_err_is_ok (Ok x) h = refl
no_err_is_ok (Err e) h = absurd cc

pub left_where : {X : Type 0} (b : Bool) (z x y : X) → b ≡ false → z ≡ (if b then x else y) → z ≡ y
left_where true z x y e h = absurd cc
left_where false z x y e h = h
