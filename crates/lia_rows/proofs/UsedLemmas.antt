-- What is used of a list, and one item more.
use Rattle.std.proofs.Common.{◌≡◌, ◌≢◌, ◌⊎◌, inl, inr, ℕ, zero, suc, ◌+◌, ◌<◌, ℤ, pos, negsuc, List, [], ◌∷◌, ◌++◌, length, get_or, map, take, All, refl, sym, ap, subst, ◌∙◌, arith}
use Rattle.std.specs.List.{AllZip}
use Rattle.std.proofs.lemmas.List.{take_more, length-take-le}
use Rattle.lia_rows.specs.Found.{IsUsedAdded}
use Rattle.lia_rows.specs.Steps.{used}

pub used_more : {A : Type 0} (ms : List ℤ) (xs : List A) (m : ℤ) (x : A) → length ms ≡ length xs → m ≢ pos 0 → used (ms ++ m ∷ []) (xs ++ x ∷ []) ≡ used ms xs ++ x ∷ []
used_more [] [] (pos zero) x same other = absurd (other refl)
used_more [] [] (pos (suc n)) x same other = refl
used_more [] [] (negsuc n) x same other = refl
used_more (pos zero ∷ ms) (y ∷ xs) m x same other = used_more ms xs m x (let e = same in omega (arith, e)) other
used_more (pos (suc n) ∷ ms) (y ∷ xs) m x same other = ap (λ ys. y ∷ ys) (used_more ms xs m x (let e = same in omega (arith, e)) other)
used_more (negsuc n ∷ ms) (y ∷ xs) m x same other = ap (λ ys. y ∷ ys) (used_more ms xs m x (let e = same in omega (arith, e)) other)
used_more [] (y ∷ xs) m x same other = absurd (omega (arith, same))
used_more (n ∷ ms) [] m x same other = absurd (omega (arith, same))

pub not_used : {A : Type 0} (ms : List ℤ) (xs : List A) (m : ℤ) (x : A) → length ms ≡ length xs → m ≡ pos 0 → used (ms ++ m ∷ []) (xs ++ x ∷ []) ≡ used ms xs
not_used [] [] (pos zero) x same e = refl
not_used [] [] (pos (suc n)) x same e = absurd cc
not_used [] [] (negsuc n) x same e = absurd cc
not_used (pos zero ∷ ms) (y ∷ xs) m x same e = not_used ms xs m x (let f = same in omega (arith, f)) e
not_used (pos (suc n) ∷ ms) (y ∷ xs) m x same e = ap (λ ys. y ∷ ys) (not_used ms xs m x (let f = same in omega (arith, f)) e)
not_used (negsuc n ∷ ms) (y ∷ xs) m x same e = ap (λ ys. y ∷ ys) (not_used ms xs m x (let f = same in omega (arith, f)) e)
not_used [] (y ∷ xs) m x same e = absurd (omega (arith, same))
not_used (n ∷ ms) [] m x same e = absurd (omega (arith, same))

-- lists in step are used in step
pub used_zip : {A B : Type 0} (R : A → B → Type 0) (ms : List ℤ) (xs : List A) (ys : List B) → AllZip R xs ys → AllZip R (used ms xs) (used ms ys)
used_zip R [] xs ys zip = tt
used_zip R (m ∷ ms) [] [] zip = tt
used_zip R (pos zero ∷ ms) (x ∷ xs) (y ∷ ys) zip = used_zip R ms xs ys zip.1
used_zip R (pos (suc n) ∷ ms) (x ∷ xs) (y ∷ ys) zip = (zip.0, used_zip R ms xs ys zip.1)
used_zip R (negsuc n ∷ ms) (x ∷ xs) (y ∷ ys) zip = (zip.0, used_zip R ms xs ys zip.1)
used_zip R (m ∷ ms) [] (y ∷ ys) zip = absurd zip
used_zip R (m ∷ ms) (x ∷ xs) [] zip = absurd zip

pub used-map : {A B : Type 0} (f : A → B) (ms : List ℤ) (xs : List A) → used ms (map f xs) ≡ map f (used ms xs)
used-map f [] xs = refl
used-map f (m ∷ ms) [] = refl
used-map f (pos zero ∷ ms) (x ∷ xs) = used-map f ms xs
used-map f (pos (suc n) ∷ ms) (x ∷ xs) = ap (λ ys. f x ∷ ys) (used-map f ms xs)
used-map f (negsuc n ∷ ms) (x ∷ xs) = ap (λ ys. f x ∷ ys) (used-map f ms xs)

zero_or_not : (m : ℤ) → (m ≡ pos 0) ⊎ (m ≢ pos 0)
zero_or_not (pos zero) = inl refl
zero_or_not (pos (suc n)) = inr (λ e. cc)
zero_or_not (negsuc n) = inr (λ e. cc)

-- one turn
pub used_step : {A : Type 0} (ms : List ℤ) (xs old new : List A) (k : ℕ) (m d : ℤ) (x b : A) → length xs ≡ length ms → k < length ms → m ≡ get_or ms k d → x ≡ get_or xs k b
    → IsUsedAdded m old x new → old ≡ used (take k ms) (take k xs) → new ≡ used (take (k + 1) ms) (take (k + 1) xs)
used_step ms xs old new k m d x b same below m_is x_is added before =
    let ms_more : take (k + 1) ms ≡ take k ms ++ m ∷ [] = take_more ms k d below ∙ ap (λ z. take k ms ++ z ∷ []) (sym m_is) in
    let xs_more : take (k + 1) xs ≡ take k xs ++ x ∷ [] = take_more xs k b (omega (arith, same, below)) ∙ ap (λ z. take k xs ++ z ∷ []) (sym x_is) in
    let lengths : length (take k ms) ≡ length (take k xs) = omega (arith, length-take-le k ms (omega (arith, below)), length-take-le k xs (omega (arith, same, below))) in
    go lengths (zero_or_not m) ∙ sym (ap (λ zs. used zs (take (k + 1) xs)) ms_more ∙ ap (λ zs. used (take k ms ++ m ∷ []) zs) xs_more)
  where
    go : length (take k ms) ≡ length (take k xs) → (m ≡ pos 0) ⊎ (m ≢ pos 0) → new ≡ used (take k ms ++ m ∷ []) (take k xs ++ x ∷ [])
    go lengths (inl e) = added.other e ∙ before ∙ sym (not_used (take k ms) (take k xs) m x lengths e)
    go lengths (inr other) = added.used other ∙ ap (λ zs. zs ++ x ∷ []) before ∙ sym (used_more (take k ms) (take k xs) m x lengths other)
