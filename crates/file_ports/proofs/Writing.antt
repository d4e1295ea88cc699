-- What one more write of the rest of a text does to bytes that are told.
use Rattle.std.proofs.Common.{◌≡◌, sym, subst, ℕ, ◌+◌, ◌-◌, List, length, take, drop, arith}
use Rattle.std.proofs.Math.Seq.{take-add}
use Rattle.std.proofs.lemmas.Grind.{common_steps}
use Rattle.std.proofs.KnownBytes.{Appends-trans}
use Rattle.std.specs.Io.KnownBytes.{Appends}
use Rattle.std.specs.Prelude.{Option}

-- the rest of a text, as a slice up to its end
rest-whole : (done : ℕ) (text : List ℕ) → take (length text - done) (drop done text) ≡ drop done text
rest-whole done text = grind (arith, common_steps)

-- what is taken of the rest stands behind what was taken before
pub Appends-rest : (a b c : Option (List ℕ)) (done n : ℕ) (text : List ℕ) → Appends a b (take done text)
    → Appends b c (take n (take (length text - done) (drop done text))) → Appends a c (take (done + n) text)
Appends-rest a b c done n text before now =
    let joined = Appends-trans a b c _ _ before (subst (λ rest. Appends b c (take n rest)) (rest-whole done text) now) in
    subst (Appends a c) (sym (take-add done n text)) joined
