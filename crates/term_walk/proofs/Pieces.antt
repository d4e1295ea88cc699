-- Private. Tests of references, and tasks one after another.
use Rattle.std.proofs.Common.{◌≡◌, ℕ, ◌<◌, ◌≤◌, Bool, true, false, List, [], ◌∷◌, ◌++◌, refl, sym, ap, ◌∙◌, arith}
use Rattle.std.proofs.lemmas.List.{append_assoc}
use Rattle.std.proofs.lemmas.Bool.Decides.{nat_tests}
use Rattle.std.specs.Prelude.{IsTrue, nat_lt}
use Rattle.term_walk.specs.declared.tasks.Task.{Task}

-- what the test of a reference says
pub is_low : (b : Bool) (r n : ℕ) → b ≡ true → (IsTrue b → r < n) → r < n
is_low b r n e h = h e

pub is_high : (b : Bool) (r n : ℕ) → b ≡ false → (r < n → IsTrue b) → n ≤ r
is_high b r n e h = go (nat_lt r n) refl
  where
    go : (test : Bool) → nat_lt r n ≡ test → n ≤ r
    go true l = absurd (let low : r < n = grind (arith, nat_tests) in let f : b ≡ true = h low in let g : true ≡ false = sym f ∙ e in cc)
    go false l = grind (arith, nat_tests)

-- tasks one after another
pub two_more : (old first new : List Task) (a b : Task) → first ≡ old ++ a ∷ [] → new ≡ first ++ b ∷ [] → new ≡ old ++ (a ∷ b ∷ [])
two_more old first new a b e f = f ∙ (ap (λ ts. ts ++ b ∷ []) e ∙ append_assoc old (a ∷ []) (b ∷ []))

pub three_more :
    (old first second new : List Task) (a b c : Task) → first ≡ old ++ a ∷ [] → second ≡ first ++ b ∷ [] → new ≡ second ++ c ∷ [] →
    new ≡ old ++ (a ∷ b ∷ c ∷ [])
three_more old first second new a b c e f g =
    g ∙ (ap (λ ts. ts ++ c ∷ []) (two_more old first second a b e f) ∙ append_assoc old (a ∷ b ∷ []) (c ∷ []))
