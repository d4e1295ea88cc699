-- Private. A proof has one first command with the empty clause, one list of marks of what is reached, and one core.
use Rattle.std.proofs.Common.{◌≡◌, ◌⊎◌, inl, inr, ℕ, suc, ◌<◌, Bool, false, List, [], ◌∷◌, refl, sym, ap, ◌∙◌, subst, arith}
use Rattle.std.specs.Prelude.{AllPairs, Contains}
use Rattle.std.proofs.lemmas.Bool.{cases_order}
use Rattle.std.proofs.lemmas.List.{ext_get_or}
use Rattle.term_model.specs.Terms.{Var, Term}
use Rattle.term_model.proofs.Basics.{same_tests}
use Rattle.term_model.proofs.Lists.{contains_none, contains_cases, contains_head, contains_later}
use Rattle.rule_model.specs.Proofs.{ProofItems}
use Rattle.pruned_proofs.specs.Core.{IsFirstEqual, IsCore}
use Rattle.pruned_proofs.specs.Reached.{AreReachedMarks, IsFirstEmpty, is_kept}

-- of two numbers neither of which is less than the other
neither_less : (m n : ℕ) → (m < n → ⊥) → (n < m → ⊥) → m ≡ n
neither_less m n below above =
    elim (cases_order m n) [ inl same ↦ same | inr (inl less) ↦ absurd (below less) | inr (inr more) ↦ absurd (above more) ]

pub one_first : (proof : ProofItems Var Term) (m n : ℕ) → IsFirstEmpty proof m → IsFirstEmpty proof n → m ≡ n
one_first proof m n h k = neither_less m n (λ less. k.first m less h.scope h.empty) (λ less. h.first n less k.scope k.empty)

pub one_marks : (proof : ProofItems Var Term) (from : ℕ) (xs ys : List Bool) → AreReachedMarks proof from xs → AreReachedMarks proof from ys → xs ≡ ys
one_marks proof from xs ys h k =
    ext_get_or false xs ys (h.count ∙ sym k.count)
    (λ i less. same_tests (is_kept xs i) (is_kept ys i) (λ e. (k.each i).1 ((h.each i).0 e)) (λ e. (h.each i).1 ((k.each i).0 e)))

-- the number of the first equal assertion is one
one_number : (assertions : List Term) (t : Term) (m n : ℕ) → IsFirstEqual assertions t m → IsFirstEqual assertions t n → m ≡ n
one_number assertions t m n h k =
    neither_less m n (λ less. k.first m h.assertion less h.there h.equal) (λ less. h.first n k.assertion less k.there k.equal)

-- numbers in rising order
later_pairs : (x : ℕ) (xs : List ℕ) → AllPairs (λ m n. m < n) (x ∷ xs) → AllPairs (λ m n. m < n) xs
later_pairs x xs h = λ i j d less within. h (suc i) (suc j) d (omega (arith, less)) (omega (arith, within))

below_later : (x : ℕ) (xs : List ℕ) → AllPairs (λ m n. m < n) (x ∷ xs) → (n : ℕ) → Contains xs n → x < n
below_later x xs h n (k, less, there) = subst (λ m. x < m) there (h 0 (suc k) n (omega arith) (omega (arith, less)))

same_head : (x y : ℕ) → (x ≡ y) ⊎ (y < x) → (y ≡ x) ⊎ (x < y) → x ≡ y
same_head x y (inl e) k = e
same_head x y (inr less) (inl e) = sym e
same_head x y (inr less) (inr more) = absurd (omega (arith, less, more))

rising_one : (xs ys : List ℕ) → AllPairs (λ m n. m < n) xs → AllPairs (λ m n. m < n) ys → ((n : ℕ) → Contains xs n → Contains ys n)
    → ((n : ℕ) → Contains ys n → Contains xs n) → xs ≡ ys
rising_one [] [] h k in_other in_one = refl
rising_one [] (y ∷ ys) h k in_other in_one = absurd (contains_none y (in_one y (contains_head y ys)))
rising_one (x ∷ xs) [] h k in_other in_one = absurd (contains_none x (in_other x (contains_head x xs)))
rising_one (x ∷ xs) (y ∷ ys) h k in_other in_one =
    ap (λ z. z ∷ xs) head
    ∙ ap (λ zs. y ∷ zs)
    (rising_one xs ys (later_pairs x xs h) (later_pairs y ys k)
    (λ n has. behind y n ys (contains_cases y n ys (in_other n (contains_later x n xs has))) (subst (λ z. z < n) head (below_later x xs h n has)))
    (λ n has. behind x n xs (contains_cases x n xs (in_one n (contains_later y n ys has)))
    (subst (λ z. z < n) (sym head) (below_later y ys k n has))))
  where
    head : x ≡ y
    head =
        same_head x y
        (elim (contains_cases y x ys (in_other x (contains_head x xs))) [ inl e ↦ inl (sym e) | inr more ↦ inr (below_later y ys k x more) ])
        (elim (contains_cases x y xs (in_one y (contains_head y ys))) [ inl e ↦ inl (sym e) | inr more ↦ inr (below_later x xs h y more) ])

    behind : (z n : ℕ) (zs : List ℕ) → (z ≡ n) ⊎ Contains zs n → z < n → Contains zs n
    behind z n zs (inl e) less = absurd (omega (arith, e, less))
    behind z n zs (inr has) less = has

-- each number of a core is in the other
core_in : (marks : List Bool) (assertions : List Term) (proof : ProofItems Var Term) (xs ys : List ℕ) → IsCore marks assertions proof xs
    → IsCore marks assertions proof ys → (n : ℕ) → Contains xs n → Contains ys n
core_in marks assertions proof xs ys h k n has =
    let used = h.only n has in
    let other = k.each used.index used.term used.assume in
    subst (Contains ys) (one_number assertions used.term other.number n other.first used.first) other.among

pub one_core : (marks : List Bool) (assertions : List Term) (proof : ProofItems Var Term) (xs ys : List ℕ) → IsCore marks assertions proof xs
    → IsCore marks assertions proof ys → xs ≡ ys
one_core marks assertions proof xs ys h k =
    rising_one xs ys h.rising k.rising (core_in marks assertions proof xs ys h k) (core_in marks assertions proof ys xs k h)

-- the same of two proofs that are one, by their own first commands and marks
pub same_core : (p q : ProofItems Var Term) (assertions others : List Term) (m n : ℕ) (ms ns : List Bool) (xs ys : List ℕ) → p ≡ q
    → assertions ≡ others → IsFirstEmpty p m → IsFirstEmpty q n → AreReachedMarks p m ms → AreReachedMarks q n ns → IsCore ms assertions p xs
    → IsCore ns others q ys → xs ≡ ys
same_core p q assertions others m n ms ns xs ys proofs asserted first_p first_q reached_p reached_q h k =
    let there : IsFirstEmpty p n = subst (λ z. IsFirstEmpty z n) (sym proofs) first_q in
    let first : m ≡ n = one_first p m n first_p there in
    let reached : AreReachedMarks p m ns =
    subst (λ z. AreReachedMarks p z ns) (sym first) (subst (λ z. AreReachedMarks z n ns) (sym proofs) reached_q) in
    let marks : ms ≡ ns = one_marks p m ms ns reached_p reached in
    one_core ms assertions p xs ys h
    (subst (λ z. IsCore z assertions p ys) (sym marks)
    (subst (λ z. IsCore ns z p ys) (sym asserted) (subst (λ z. IsCore ns others z ys) (sym proofs) k)))
