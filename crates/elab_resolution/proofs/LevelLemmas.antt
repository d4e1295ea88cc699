-- Numbers of terms in order: one more, and where negations have theirs.
use Rattle.std.proofs.Common.{◌≡◌, ◌≢◌, ◌⊎◌, inl, inr, ◌+◌, ◌<◌, ◌≤◌, ℕ, zero, suc, List, [], ◌∷◌, ◌++◌, length, refl, sym, ◌∙◌, ap, subst, arith}
use Rattle.std.proofs.lemmas.List.{length-append, get_or_append_left, get_or_push}
use Rattle.term_model.specs.Terms.{Term, not_of}
use Rattle.term_pool.specs.Nots.{negated}
use Rattle.elab_resolution.specs.Levels.{AreLevels, HasLevels, IsNextLevel, nots_of_number, numbered, truth_term}

pub below_or_last : (i n : ℕ) → i < n + 1 → (i < n) ⊎ (i ≡ n)
below_or_last i n h = grind arith

module _ (nots : List ℕ) (x : ℕ) where
  pub long : length (nots ++ x ∷ []) ≡ length nots + 1
  long = length-append nots (x ∷ [])

  pub nots_kept : (k : ℕ) → k < length nots → nots_of_number (nots ++ x ∷ []) k ≡ nots_of_number nots k
  nots_kept k below = get_or_append_left nots (x ∷ []) 0 k below

  pub nots_last : nots_of_number (nots ++ x ∷ []) (length nots) ≡ x
  nots_last = get_or_push nots x 0 (length nots) refl

module _ (nots : List ℕ) (terms : List Term) (x : ℕ) (t : Term) (levels : AreLevels nots terms) (is : IsNextLevel nots terms x t) where
  abbrev more_nots : List ℕ
  more_nots = nots ++ x ∷ []

  abbrev more_terms : List Term
  more_terms = terms ++ t ∷ []

  kept : (k : ℕ) → k < length nots → numbered more_terms k ≡ numbered terms k
  kept k below = get_or_append_left terms (t ∷ []) truth_term k (let e = levels.size in omega arith)

  last : (k : ℕ) → k ≡ length nots → numbered more_terms k ≡ t
  last k e = get_or_push terms t truth_term k (let s = levels.size in omega arith)

  at_last : (k : ℕ) → k ≡ length nots → nots_of_number more_nots k ≡ x
  at_last k e = ap (nots_of_number more_nots) e ∙ nots_last nots x

  first : nots_of_number more_nots 0 ≡ 0
  first = go (length nots) refl
    where
      go : (n : ℕ) → length nots ≡ n → nots_of_number more_nots 0 ≡ 0
      go zero e = at_last 0 (sym e) ∙ is.first e
      go (suc n) e = nots_kept nots x 0 (omega arith) ∙ levels.first

  next : (k : ℕ) → k + 1 < length more_nots →
      (nots_of_number more_nots (k + 1) ≡ 0) ⊎ (nots_of_number more_nots (k + 1) ≡ nots_of_number more_nots k + 1)
  next k within = elim (below_or_last (k + 1) (length nots) (let e = long nots x in omega arith)) [
    | inl less ↦ rw (nots_kept nots x (k + 1) less, nots_kept nots x k (omega arith)) (levels.next k less)
    | inr same ↦ rw (at_last (k + 1) same, nots_kept nots x k (omega arith)) (is.next k same)
  ]

  bare : (k : ℕ) → k < length more_nots → nots_of_number more_nots k ≡ 0 → (u : Term) → numbered more_terms k ≢ not_of u
  bare k within none u = elim (below_or_last k (length nots) (let e = long nots x in omega arith)) [
    | inl less ↦ λ e. levels.bare k less (sym (nots_kept nots x k less) ∙ none) u (sym (kept k less) ∙ e)
    | inr same ↦ λ e. is.bare (sym (at_last k same) ∙ none) u (sym (last k same) ∙ e)
  ]

  negation : (k : ℕ) → k + 1 < length more_nots → nots_of_number more_nots (k + 1) ≡ nots_of_number more_nots k + 1 →
      numbered more_terms (k + 1) ≡ not_of (numbered more_terms k)
  negation k within more = elim (below_or_last (k + 1) (length nots) (let e = long nots x in omega arith)) [
    | inl less ↦
        rw (kept (k + 1) less, kept k (omega arith))
        (levels.negation k less (sym (nots_kept nots x (k + 1) less) ∙ (more ∙ ap (λ n. n + 1) (nots_kept nots x k (omega arith)))))
    | inr same ↦
        rw (last (k + 1) same, kept k (omega arith))
        (is.negation k same (sym (at_last (k + 1) same) ∙ (more ∙ ap (λ n. n + 1) (nots_kept nots x k (omega arith)))))
  ]

  one : (j k : ℕ) → j < length more_nots → k < length more_nots → numbered more_terms j ≡ numbered more_terms k → j ≡ k
  one j k j_within k_within e =
      elim (below_or_last j (length nots) (let l = long nots x in omega arith)) [
        | inl a ↦ elim (below_or_last k (length nots) (let l = long nots x in omega arith)) [
          | inl b ↦ levels.one j k a b (sym (kept j a) ∙ (e ∙ kept k b))
          | inr b ↦ absurd (is.new j a (sym (kept j a) ∙ (e ∙ last k b)))
        ]
        | inr a ↦ elim (below_or_last k (length nots) (let l = long nots x in omega arith)) [
          | inl b ↦ absurd (is.new k b (sym (kept k b) ∙ (sym e ∙ last j a)))
          | inr b ↦ omega arith
        ]
      ]

  pub levels_more : AreLevels more_nots more_terms
  levels_more = record {
    size = length-append terms (t ∷ []) ∙ (ap (λ n. n + 1) levels.size ∙ sym (long nots x));
    first = first;
    next = next;
    bare = bare;
    negation = negation;
    one = one;
  }

-- a bare term that is none of them may be the next
pub bare_next : (nots : List ℕ) (terms : List Term) (t : Term) → ((u : Term) → t ≢ not_of u) → ((k : ℕ) → k < length nots → numbered terms k ≢ t)
    → IsNextLevel nots terms 0 t
bare_next nots terms t none new = record {
  first = λ _. refl;
  next = λ k e. inl refl;
  bare = λ _. none;
  negation = λ k e more. absurd (omega arith);
  new = new;
}

same_under : (t u : Term) → not_of t ≡ not_of u → t ≡ u
same_under t u e = cc

-- the negation of the last term may be the next
pub negation_next : (nots : List ℕ) (terms : List Term) (m : ℕ) → AreLevels nots terms → m + 1 ≡ length nots
    → IsNextLevel nots terms (nots_of_number nots m + 1) (not_of (numbered terms m))
negation_next nots terms m levels last = record {
  first = λ e. absurd (omega arith);
  next = λ k e. inr (ap (λ n. nots_of_number nots n + 1) (same k e));
  bare = λ e. absurd (omega arith);
  negation = λ k e more. ap (λ n. not_of (numbered terms n)) (same k e);
  new = new;
}
  where
    same : (k : ℕ) → k + 1 ≡ length nots → m ≡ k
    same k e = omega arith

    -- one of them that is the negation would stand behind the last term
    after : (j : ℕ) → j < length nots → numbered terms j ≡ not_of (numbered terms m) → (n : ℕ) → j ≡ n → ⊥
    after j below e zero is = levels.bare j below (subst (λ i. nots_of_number nots i ≡ 0) (sym is) levels.first) (numbered terms m) e
    after j below e (suc n) is = elim (levels.next n (omega arith)) [
      | inl none ↦ levels.bare j below (subst (λ i. nots_of_number nots i ≡ 0) (at n is) none) (numbered terms m) e
      | inr more ↦
          let behind = levels.negation n (omega arith) more in
          let equal : numbered terms n ≡ numbered terms m =
          same_under (numbered terms n) (numbered terms m) (sym behind ∙ (ap (numbered terms) (at n is) ∙ e)) in
          let back : n ≡ m = levels.one n m (omega arith) (omega arith) equal in
          absurd (omega arith)
    ]
      where
        at : (i : ℕ) → j ≡ suc i → i + 1 ≡ j
        at i f = omega arith

    new : (j : ℕ) → j < length nots → numbered terms j ≢ not_of (numbered terms m)
    new j below e = after j below e j refl

-- where a term is no negation its number has no `not`s
pub bare_number : (nots : List ℕ) (terms : List Term) → AreLevels nots terms → (k : ℕ) → k < length nots → ((u : Term) → numbered terms k ≢ not_of u)
    → nots_of_number nots k ≡ 0
bare_number nots terms levels zero below none = levels.first
bare_number nots terms levels (suc k) below none = elim (levels.next k (omega arith)) [
  | inl bare ↦ subst (λ i. nots_of_number nots i ≡ 0) (omega arith) bare
  | inr more ↦ absurd (none (numbered terms k) (subst (λ i. numbered terms i ≡ not_of (numbered terms k)) (omega arith) (levels.negation k (omega arith) more)))
]

-- the terms of a tower are the negations of its bare term
pub tower_terms : (nots : List ℕ) (terms : List Term) → AreLevels nots terms → (k n : ℕ) → HasLevels nots k n → (j : ℕ) → j ≤ n
    → numbered terms (k + j) ≡ negated j (numbered terms k)
tower_terms nots terms levels k n tower zero within = ap (numbered terms) (omega arith)
tower_terms nots terms levels k n tower (suc j) within =
    let here = tower j (omega arith) in
    let there = tower (suc j) within in
    let next : (k + j) + 1 ≡ k + suc j = omega arith in
    let below : (k + j) + 1 < length nots = let b = there.0 in omega arith in
    let more : nots_of_number nots ((k + j) + 1) ≡ nots_of_number nots (k + j) + 1 =
    ap (nots_of_number nots) next ∙ (there.1 ∙ (ap suc (sym here.1) ∙ omega arith)) in
    ap (numbered terms) (sym next)
    ∙ (levels.negation (k + j) below more ∙ ap not_of (tower_terms nots terms levels k n tower j (omega arith)))

-- a tower stays as numbers are added, and grows with one more
pub tower_stays : (nots more : List ℕ) (k n : ℕ) → HasLevels nots k n → HasLevels (nots ++ more) k n
tower_stays nots more k n tower j within =
    let h = tower j within in
    (let e = length-append nots more in let b = h.0 in omega arith, get_or_append_left nots more 0 (k + j) h.0 ∙ h.1)
