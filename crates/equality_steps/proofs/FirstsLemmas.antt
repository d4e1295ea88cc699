-- Private. Literals that are added where they are missing.
use Rattle.std.proofs.Common.{◌≡◌, ◌≢◌, ◌⊎◌, ◌↔◌, inl, inr, ◌<◌, ◌+◌, ℕ, nat_eq, Bool, true, false, not, cond, List, [], ◌∷◌, ◌++◌, take}
use Rattle.std.proofs.Common.{get_or, length, IsTrue, Contains, refl, sym, ◌∙◌, subst, arith, append_assoc}
use Rattle.std.proofs.lemmas.Bool.Decides.{eqb_tells}
use Rattle.std.proofs.lemmas.List.{take_more}
use Rattle.rule_model.specs.Resolution.{IsFirstsOf}
use Rattle.rule_model.proofs.JoinedLists.{without_last, kept_last, repeated_last, new_last}
use Rattle.equality_steps.specs.Joined.{AddsMissing, AddsOthers}

-- one literal more of those that are added in turn
pub none_added : (other : ℕ) (old : List ℕ) → AddsOthers other old [] old
none_added other old = record {
  rest = [];
  others = refl;
  firsts = λ done h. subst (λ xs. IsFirstsOf [] xs old) (sym (Rattle.std.proofs.Common.append-nil done)) h;
}

same_added : (other : ℕ) (old before now new : List ℕ) (x : ℕ) → AddsOthers other old before now → x ≡ other → new ≡ now
    → AddsOthers other old (before ++ x ∷ []) new
same_added other old before now new x adds same e = record {
  rest = adds.rest;
  others = without_last other before adds.rest x adds.others same;
  firsts = λ done h. subst (IsFirstsOf [] (done ++ adds.rest)) (sym e) (adds.firsts done h);
}

other_added : (other : ℕ) (old before now new : List ℕ) (x : ℕ) → AddsOthers other old before now → x ≢ other → AddsMissing now x new
    → AddsOthers other old (before ++ x ∷ []) new
other_added other old before now new x adds differs missing = record {
  rest = adds.rest ++ x ∷ [];
  others = kept_last other before adds.rest x adds.others differs;
  firsts = λ done h. subst (λ xs. IsFirstsOf [] xs new) (append_assoc done adds.rest (x ∷ [])) (go done (adds.firsts done h) missing);
}
  where
    go : (done : List ℕ) → IsFirstsOf [] (done ++ adds.rest) now → AddsMissing now x new → IsFirstsOf [] ((done ++ adds.rest) ++ x ∷ []) new
    go done h (inl (has, e)) = subst (IsFirstsOf [] ((done ++ adds.rest) ++ x ∷ [])) (sym e) (repeated_last [] (done ++ adds.rest) now x h has)
    go done h (inr (lacks, e)) = subst (IsFirstsOf [] ((done ++ adds.rest) ++ x ∷ [])) (sym e) (new_last [] (done ++ adds.rest) now x h lacks)

pub one_added : (other : ℕ) (old clause now new : List ℕ) (i x : ℕ) → i < length clause → x ≡ get_or clause i x → AddsOthers other old (take i clause) now
    → (x ≡ other → new ≡ now) → ((x ≡ other → ⊥) → AddsMissing now x new) → AddsOthers other old (take (i + 1) clause) new
one_added other old clause now new i x below is adds same differs =
    subst (λ xs. AddsOthers other old xs new) (sym (take_more clause i x below))
    (subst (λ y. AddsOthers other old (take i clause ++ y ∷ []) new) is
    (elim (eqb_tells x other) [
      | inl e ↦ same_added other old (take i clause) now new x adds e.1 (same e.1)
      | inr e ↦ other_added other old (take i clause) now new x adds e.1 (differs e.1)
    ]))
