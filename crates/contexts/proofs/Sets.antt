-- Cited by crates above. Sets of numbers by the lists of what they have.
use Rattle.std.proofs.Common.{◌≡◌, ℕ, List, [], ◌∷◌, ◌++◌, Bool, true, false, not, nat_eq, cond, refl, sym, ◌∙◌, subst, take, ◌-◌}
use Rattle.std.specs.List.{list_any}
use Rattle.indexmap.specs.IndexSet.{insert_key}
use Rattle.term_model.proofs.Lists.{has_number}
use Rattle.contexts.specs.Searching.{IsMet, IsNoted}
use Rattle.contexts.specs.declared.met.Met.{Met}

pub noted_is : (old new : List ℕ) (k r : ℕ) (b : Bool) → k ≡ r → b ≡ not (list_any (nat_eq k) old) → new ≡ insert_key nat_eq old k → IsNoted old new r b
noted_is old new k r b e f g = subst (λ q. IsNoted old new q b) e (go (list_any (nat_eq k) old) refl f g)
  where
    go : (t : Bool) → list_any (nat_eq k) old ≡ t → b ≡ not t → new ≡ cond t old (old ++ k ∷ []) → IsNoted old new k b
    go true h f g = subst (IsNoted old new k) (sym f) ((has_number old k).0 h, g)
    go false h f g = subst (IsNoted old new k) (sym f) (λ c. absurd (let i = (has_number old k).1 c in cc), g)

pub met_true : (old new : Met) (r : ℕ) (b : Bool) → IsMet old new r b → b ≡ true → IsMet old new r true
met_true old new r b h e = subst (IsMet old new r) e h

pub met_false : (old new : Met) (r : ℕ) (b : Bool) → IsMet old new r b → b ≡ false → IsMet old new r false
met_false old new r b h e = subst (IsMet old new r) e h

-- a vector that nothing was taken from was empty
pub none_left : (xs ys : List ℕ) (n : ℕ) → n ≡ 0 → ys ≡ take (n - 1) xs → xs ≡ ys ++ [] → xs ≡ []
none_left xs ys n z rest whole = whole ∙ rw (rest, z)
