-- Facts about the variants of a result.
use Rattle.std.proofs.Common.{Result, Ok, Err, IfErr, Bool, false, ℕ, ◌≡◌, nat_eq, arith}
use Rattle.std.proofs.lemmas.Bool.Decides.{nat_tests}

pub not_zero : (b : Bool) (n : ℕ) → b ≡ nat_eq n 0 → b ≡ false → n ≡ 0 → ⊥
not_zero b n e f g = grind (arith, nat_tests)

pub any_err : {T E : Type 0} → (r : Result T E) (P : E → Type 0) → ((e : E) → P e) → IfErr r P
any_err (Ok x) P h = tt
any_err (Err e) P h = h e
