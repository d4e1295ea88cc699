-- Lists that are put at a place, and what stands before it.
use Rattle.std.proofs.Common.{◌≡◌, ◌≤◌, ◌<◌, ℕ, zero, suc, List, [], ◌∷◌, ◌++◌, length, take, slice_get, slice_index_or, Some, refl, sym, ◌∙◌, ap, subst, arith}
use Rattle.std.proofs.lemmas.List.{length-append, length-take-le, take-take}
use Rattle.term_model.proofs.Lists.{slice_get-last}
use Rattle.proof_store.specs.Lists.{SameBelow}

pub slice_get_put : {X : Type 0} (i : ℕ) (xs : List X) (x : X) → i ≤ length xs → slice_get (take i xs ++ x ∷ []) i ≡ Some x
slice_get_put zero xs x h = refl
slice_get_put (suc i) [] x h = absurd (omega arith)
slice_get_put (suc i) (y ∷ ys) x h = slice_get_put i ys x (omega arith)

pub take_put : {X : Type 0} (i : ℕ) (xs : List X) (x : X) → i ≤ length xs → take i (take i xs ++ x ∷ []) ≡ take i xs
take_put zero xs x h = refl
take_put (suc i) [] x h = absurd (omega arith)
take_put (suc i) (y ∷ ys) x h = ap (λ t. y ∷ t) (take_put i ys x (omega arith))

pub length_put : {X : Type 0} (i : ℕ) (xs : List X) (x : X) → i ≤ length xs → i ≤ length (take i xs ++ x ∷ [])
length_put i xs x h = rw (length-append (take i xs) (x ∷ []), length-take-le i xs h) (omega arith)

pub take_same : {X : Type 0} (i : ℕ) (xs : List X) → take i (take i xs) ≡ take i xs
take_same i xs = take-take i i xs (omega arith)

pub length_same : {X : Type 0} (i : ℕ) (xs : List X) → i ≤ length xs → i ≤ length (take i xs)
length_same i xs h = rw (length-take-le i xs h) (omega arith)

-- lists that agree up to a place have the same items before it
pub get_agreed : {X : Type 0} (n : ℕ) (xs ys : List X) (d : X) (k : ℕ) → take n ys ≡ take n xs → k < n → slice_index_or ys k d ≡ slice_index_or xs k d
get_agreed n xs ys d k e h = sym (get_taken n ys d k h) ∙ (ap (λ zs. slice_index_or zs k d) e ∙ get_taken n xs d k h)
  where
    get_taken : {X : Type 0} (n : ℕ) (xs : List X) (d : X) (k : ℕ) → k < n → slice_index_or (take n xs) k d ≡ slice_index_or xs k d
    get_taken zero xs d k h = absurd (omega arith)
    get_taken (suc n) [] d k h = refl
    get_taken (suc n) (x ∷ xs) d zero h = refl
    get_taken (suc n) (x ∷ xs) d (suc k) h = get_taken n xs d k (omega arith)

pub get_from_slice_get : {X : Type 0} (xs : List X) (k : ℕ) (x d : X) → slice_get xs k ≡ Some x → slice_index_or xs k d ≡ x
get_from_slice_get xs k x d e = Rattle.std.proofs.lemmas.Option.get_or_from_slice_get xs k x d e

-- behind all lists stand empty ones
pub get_behind : {X : Type 0} (ls : List (List X)) (k : ℕ) → length ls ≤ k → slice_index_or ls k [] ≡ []
get_behind [] k h = refl
get_behind (l ∷ ls) zero h = absurd (omega arith)
get_behind (l ∷ ls) (suc k) h = get_behind ls k (omega arith)

-- lists that are cut, and what is put behind them
pub get_cut : {X : Type 0} (i : ℕ) (ls : List (List X)) → slice_index_or (take i ls) i [] ≡ []
get_cut zero ls = refl
get_cut (suc i) [] = refl
get_cut (suc i) (l ∷ ls) = get_cut i ls

pub same_cut : {X : Type 0} (i : ℕ) (ls : List (List X)) → SameBelow i ls (take i ls)
same_cut i ls k h = get_agreed i ls (take i ls) [] k (take_same i ls) h

pub same_put : {X : Type 0} (i : ℕ) (old new : List (List X)) → SameBelow i (take i old) new → SameBelow i old new
same_put i old new same k h = same k h ∙ same_cut i old k h

-- a list that is put behind those that are as before
pub get_put_behind : {X : Type 0} (i : ℕ) (ls : List (List X)) (l : List X) → length ls ≡ i → slice_index_or (ls ++ l ∷ []) i [] ≡ l
get_put_behind i ls l e = get_from_slice_get (ls ++ l ∷ []) i l [] (subst (λ k. slice_get (ls ++ l ∷ []) k ≡ Some l) e (slice_get-last ls l))

pub same_put_behind : {X : Type 0} (i : ℕ) (old ls : List (List X)) (l : List X) → length ls ≡ i → SameBelow i old ls → SameBelow i old (ls ++ l ∷ [])
same_put_behind i old ls l e same k h = kept ls l k (rw e h) ∙ same k h
  where
    kept : {X : Type 0} (ls : List (List X)) (l : List X) (k : ℕ) → k < length ls → slice_index_or (ls ++ l ∷ []) k [] ≡ slice_index_or ls k []
    kept [] l k h = absurd (omega arith)
    kept (x ∷ ls) l zero h = refl
    kept (x ∷ ls) l (suc k) h = kept ls l k (omega arith)

pub ruleset lists_put = (slice_get_put, take_put, length_put, take_same, length_same)

pub ruleset lists_cut = (get_cut, same_cut, same_put)
