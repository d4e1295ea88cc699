-- Pairs that are used in order.
use Rattle.std.proofs.Common.{◌≡◌, ◌↔◌, inl, inr, ◌<◌, ◌≤◌, ◌+◌, ℕ, zero, suc, Bool, List, [], ◌∷◌, length, get_or, drop, refl, sym, ap, ◌∙◌, subst, arith}
use Rattle.std.proofs.lemmas.List.{drop_all}
use Rattle.rules_congruence.specs.Pairs.{AreUsed}
use Rattle.rules_congruence.proofs.TurningLemmas.{iff_trans}
use Rattle.rules_congruence.proofs.WayLemmas.{drop_next}

pub used_length : (all : Bool) (pairs : List (ℕ × ℕ)) (xs ys : List ℕ) → AreUsed all pairs xs ys → length xs ≡ length ys
used_length all pairs [] [] h = refl
used_length all pairs [] (y ∷ ys) h = absurd h
used_length all pairs (x ∷ xs) [] h = absurd h
used_length all pairs (x ∷ xs) (y ∷ ys) (inl (same, more)) = ap suc (used_length all pairs xs ys more)
used_length all pairs (x ∷ xs) (y ∷ ys) (inr (apart, (rest, is, more))) = ap suc (used_length all rest xs ys more)

-- the arguments at a place stand before the rest
pub used_next : (all : Bool) (pairs : List (ℕ × ℕ)) (xs ys : List ℕ) (i x y used n : ℕ) → i < length xs → i < length ys → ((d : ℕ) → get_or xs i d ≡ x) → ((d : ℕ) → get_or ys i d ≡ y) → ((us ws : List ℕ) → AreUsed all (drop used pairs) (x ∷ us) (y ∷ ws) ↔ AreUsed all (drop n pairs) us ws) → AreUsed all pairs xs ys ↔ AreUsed all (drop used pairs) (drop i xs) (drop i ys) → AreUsed all pairs xs ys ↔ AreUsed all (drop n pairs) (drop (i + 1) xs) (drop (i + 1) ys)
used_next all pairs xs ys i x y used n below inside is at step before =
    iff_trans before
    (subst (λ us. AreUsed all (drop used pairs) us (drop i ys) ↔ AreUsed all (drop n pairs) (drop (i + 1) xs) (drop (i + 1) ys))
    (sym (drop_next xs i x below ∙ ap (λ a. a ∷ drop (i + 1) xs) (is x)))
    (subst (λ ws. AreUsed all (drop used pairs) (x ∷ drop (i + 1) xs) ws ↔ AreUsed all (drop n pairs) (drop (i + 1) xs) (drop (i + 1) ys))
    (sym (drop_next ys i y inside ∙ ap (λ b. b ∷ drop (i + 1) ys) (at y)))
    (step (drop (i + 1) xs) (drop (i + 1) ys))))

pub used_none : (all : Bool) (pairs : List (ℕ × ℕ)) (xs ys : List ℕ) (i x y used : ℕ) → i < length xs → i < length ys → ((d : ℕ) → get_or xs i d ≡ x) → ((d : ℕ) → get_or ys i d ≡ y) → ((us ws : List ℕ) → ¬ AreUsed all (drop used pairs) (x ∷ us) (y ∷ ws)) → AreUsed all pairs xs ys ↔ AreUsed all (drop used pairs) (drop i xs) (drop i ys) → ¬ AreUsed all pairs xs ys
used_none all pairs xs ys i x y used below inside is at fails before h =
    fails (drop (i + 1) xs) (drop (i + 1) ys)
    (subst (λ us. AreUsed all (drop used pairs) us (y ∷ drop (i + 1) ys)) (drop_next xs i x below ∙ ap (λ a. a ∷ drop (i + 1) xs) (is x))
    (subst (λ ws. AreUsed all (drop used pairs) (drop i xs) ws) (drop_next ys i y inside ∙ ap (λ b. b ∷ drop (i + 1) ys) (at y)) (before.0 h)))

none_left : {X : Type 0} (xs : List X) (n : ℕ) → n ≤ length xs → drop n xs ≡ [] → n ≡ length xs
none_left [] n within e = omega (arith, within)
none_left (x ∷ xs) zero within e = absurd (cc)
none_left (x ∷ xs) (suc n) within e = ap suc (none_left xs n (omega (arith, within)) e)

pub used_end : (all : Bool) (pairs : List (ℕ × ℕ)) (xs ys : List ℕ) (i used : ℕ) → length xs ≤ i → length ys ≤ i → used ≤ length pairs → AreUsed all pairs xs ys ↔ AreUsed all (drop used pairs) (drop i xs) (drop i ys) → (used ≡ length pairs) ↔ AreUsed all pairs xs ys
used_end all pairs xs ys i used past over within before = (
  λ e. before.1 (nothing_left (drop_all used pairs (omega (arith, e)))),
  λ h. none_left pairs used within (left_nothing (before.0 h)),
)
  where
    nothing_left : drop used pairs ≡ [] → AreUsed all (drop used pairs) (drop i xs) (drop i ys)
    nothing_left e =
        subst (λ us. AreUsed all (drop used pairs) us (drop i ys)) (sym (drop_all i xs past))
        (subst (λ ws. AreUsed all (drop used pairs) [] ws) (sym (drop_all i ys over)) e)

    left_nothing : AreUsed all (drop used pairs) (drop i xs) (drop i ys) → drop used pairs ≡ []
    left_nothing h =
        subst (λ ws. AreUsed all (drop used pairs) [] ws) (drop_all i ys over)
        (subst (λ us. AreUsed all (drop used pairs) us (drop i ys)) (drop_all i xs past) h)
