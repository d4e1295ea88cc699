-- What is put behind a list where there is memory.
use Rattle.std.proofs.Common.{◌≡◌, ◌++◌, ◌∙◌, ap, ℕ, List, Result, Ok, Err, OnOk, OnErr, is_ok, if◌then◌else◌}
use Rattle.std.proofs.lemmas.List.{append_assoc}

pub appended : {A E : Type 0} (r : Result A E) (new more old : List ℕ) → new ≡ (if is_ok r then more else old) → OnOk r (new ≡ more)
appended (Ok x) new more old e = e
appended (Err x) new more old e = tt

-- lists one behind another
pub in_two : {X : Type 0} (old x y a b : List X) → x ≡ old ++ a → y ≡ x ++ b → y ≡ old ++ (a ++ b)
in_two old x y a b e f = f ∙ (ap (λ z. z ++ b) e ∙ append_assoc old a b)

pub in_three : {X : Type 0} (old x y z a b c : List X) → x ≡ old ++ a → y ≡ x ++ b → z ≡ y ++ c → z ≡ old ++ (a ++ (b ++ c))
in_three old x y z a b c e f g =
    g ∙ (ap (λ w. w ++ c) (in_two old x y a b e f) ∙ (append_assoc old (a ++ b) c ∙ ap (λ w. old ++ w) (append_assoc a b c)))

-- two facts of one result
pub both_ok : {T E : Type 0} (P Q : Type 0) (r : Result T E) → OnOk r P → OnOk r Q → OnOk r (P × Q)
both_ok P Q (Ok x) p q = (p, q)
both_ok P Q (Err x) p q = tt

pub on_err_of : {T E P : Type 0} (r : Result T E) → P → OnErr r P
on_err_of (Ok x) p = tt
on_err_of (Err x) p = p
