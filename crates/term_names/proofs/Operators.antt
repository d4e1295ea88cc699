-- No operator has a symbol of six or seven bytes.
use Rattle.std.proofs.Common.{◌≡◌, ℕ, ◌<◌, ◌≤◌, ◌∙◌, arith, Bool, true, false, ◌||◌, List, [], ◌∷◌, length, Some, None, refl, sym, ap, cond, nat_lt}
use Rattle.std.specs.Prelude.{bytes_eq, find}
use Rattle.std.specs.List.{list_all}
use Rattle.std.proofs.lemmas.Bool.Decides.{nat_tests}
use Rattle.std.proofs.lemmas.Slice.Eq.{bytes_eq-Decides}
use Rattle.std.proofs.lemmas.Bool.{and_parts}
use Rattle.term_model.specs.declared.symbols.Op.{Op}
use Rattle.sym_table.specs.Words.{operator_symbol}
use Rattle.problem_text.specs.Words.{operators, operator_named}

differ : (x y : List ℕ) → (length x ≡ length y → ⊥) → bytes_eq x y ≡ false
differ x y apart = go (bytes_eq x y) refl
  where
    go : (b : Bool) → bytes_eq x y ≡ b → b ≡ false
    go true e = absurd (apart (ap length ((bytes_eq-Decides x y).0 e)))
    go false e = refl

abbrev has_other_length : Op → Bool
has_other_length op = nat_lt (length (operator_symbol op)) 6 || nat_lt 7 (length (operator_symbol op))

other_length : (n m : ℕ) → (nat_lt n 6 || nat_lt 7 n) ≡ true → 6 ≤ m → m < 8 → n ≡ m → ⊥
other_length n m h low high same = grind (arith, nat_tests)

none_found : (ops : List Op) → list_all has_other_length ops ≡ true → (name : List ℕ) → 6 ≤ length name → length name < 8 → None ≡ find (λ op. bytes_eq (operator_symbol op) name) ops
none_found [] others name low high = refl
none_found (op ∷ ops) others name low high =
    let s = and_parts (has_other_length op) (list_all has_other_length ops) others in
    let e = differ (operator_symbol op) name (other_length (length (operator_symbol op)) (length name) s.0 low high) in
    none_found ops s.1 name low high ∙ ap (λ b. cond b (Some op) (find (λ op. bytes_eq (operator_symbol op) name) ops)) (sym e)

pub none_named : (name : List ℕ) → 6 ≤ length name → length name < 8 → None ≡ operator_named name
none_named name low high = none_found operators refl name low high
