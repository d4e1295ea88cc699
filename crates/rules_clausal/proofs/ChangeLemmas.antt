-- What is asked of clauses of references is what is asked of the clauses for which they stand.
use Rattle.std.proofs.Common.{◌≡◌, ◌≢◌, ◌↔◌, ℕ, zero, suc, ◌<◌, List, [], ◌∷◌, length, get_or, slice_set, Bool, false, IsTrue, All, AllPairs, Contains, IsPermutation, refl, ◌∙◌, ap, subst, arith}
use Rattle.std.specs.List.{swap}
use Rattle.std.specs.Borrow.{Bor}
use Rattle.std.proofs.lemmas.List.Edits.{swap_is}
use Rattle.std.proofs.lemmas.List.Elements.{All-contains, All-contains_itself, All-weaker}
use Rattle.std.proofs.lemmas.List.Sorted.{IsPermutation-refl, IsPermutation-trans, IsPermutation-swap, IsPermutation-keeps}
use Rattle.sym_table.specs.Table.{Table}
use Rattle.term_model.specs.Terms.{Term, numeral}
use Rattle.term_pool.specs.Views.{TermsView, RefersTo, ReferToAll}
use Rattle.term_pool.proofs.References.{AreOne}
use Rattle.rule_model.specs.Clausal.{Changes, HasEach, HasEachOnce}
use Rattle.rules_clausal.specs.Sorting.{HasAllOnce}
use Rattle.term_parts.specs.Judging.{ReferToClauses}
use Rattle.schema_match.proofs.ReferLemmas.{contains_terms, contains_references, refer_length, refer_at}

abbrev some_term : Term
some_term = numeral 0

module _ (s : Table) (v : TermsView) (one : AreOne s v) where
  -- the reference of a term that is among some, and the term of a reference
  term_there : (rs : List ℕ) (ts : List Term) → ReferToAll s v rs ts → (r : ℕ) → Contains rs r → (t : Term) × RefersTo s v r t × Contains ts t
  term_there rs ts h r (k, below, is) =
      let t = get_or ts k some_term in
      let refers : RefersTo s v r t = subst (λ q. RefersTo s v q t) is (refer_at s v rs ts h k r some_term below) in
      (t, refers, contains_terms s v one rs ts r t h refers (k, below, is))

  reference_there : (rs : List ℕ) (ts : List Term) → ReferToAll s v rs ts → (t : Term) → Contains ts t → (r : ℕ) × RefersTo s v r t × Contains rs r
  reference_there rs ts h t (k, below, is) =
      let r = get_or rs k 0 in
      let refers : RefersTo s v r t = subst (RefersTo s v r) is (refer_at s v rs ts h k 0 t (rw (refer_length s v rs ts h) below)) in
      (r, refers, contains_references s v one rs ts r t h refers (k, below, is))

  module _ (old new : List ℕ) (ps ts : List Term) (old_are : ReferToAll s v old ps) (new_are : ReferToAll s v new ts) where
    -- each literal of one is in the other
    each_term : All (Contains new) old → HasEach ps ts
    each_term all t c = go (reference_there old ps old_are t c)
      where
        go : ((r : ℕ) × RefersTo s v r t × Contains old r) → Contains ts t
        go (r, refers, there) = contains_terms s v one new ts r t new_are refers (All-contains (Contains new) old r all there)

    each_reference : HasEach ps ts → All (Contains new) old
    each_reference each = All-weaker (Contains old) (Contains new) (λ r there. go r (term_there old ps old_are r there)) old (All-contains_itself old)
      where
        go : (r : ℕ) → ((t : Term) × RefersTo s v r t × Contains ps t) → Contains new r
        go r (t, refers, c) = contains_references s v one new ts r t new_are refers (each t c)

    pub weakened : (b : Bool) → IsTrue b ↔ All (Contains new) old → IsTrue b ↔ HasEach ps ts
    weakened b test = (λ e. each_term (test.0 e), λ each. test.1 (each_reference each))

    apart_terms : AllPairs (λ p q. p ≢ q) new → AllPairs (λ t u. t ≢ u) ts
    apart_terms apart i j d less below e =
        let within : j < length new = rw (refer_length s v new ts new_are) below in
        apart i j 0 less within
        ((one _ _ _ _ (refer_at s v new ts new_are i 0 d (omega (arith, less, within))) (refer_at s v new ts new_are j 0 d within)).1 e)

    apart_references : AllPairs (λ t u. t ≢ u) ts → AllPairs (λ p q. p ≢ q) new
    apart_references apart i j d less below e =
        apart i j some_term less (rw (← refer_length s v new ts new_are) below)
        ((one _ _ _ _ (refer_at s v new ts new_are i d some_term (omega (arith, less, below))) (refer_at s v new ts new_are j d some_term below)).0 e)

  each_term_back : (old new : List ℕ) (ps ts : List Term) (old_are : ReferToAll s v old ps) (new_are : ReferToAll s v new ts) → All (Contains old) new → HasEach ts ps
  each_term_back old new ps ts old_are new_are = each_term new old ts ps new_are old_are

  pub contracted : (old new : List ℕ) (ps ts : List Term) → ReferToAll s v old ps → ReferToAll s v new ts → (b : Bool) → IsTrue b ↔ HasAllOnce old new → IsTrue b ↔ HasEachOnce ps ts
  contracted old new ps ts old_are new_are b test = (
    λ e.
        (let h = test.0 e in record {
          same = λ t. (each_term old new ps ts old_are new_are h.kept t, each_term new old ts ps new_are old_are h.none_new t);
          once = apart_terms old new ps ts old_are new_are h.once;
        }),
    λ h. test.1 (
        record {
          kept = each_reference old new ps ts old_are new_are (λ t. (h.same t).0);
          none_new = each_reference new old ts ps new_are old_are (λ t. (h.same t).1);
          once = apart_references old new ps ts old_are new_are h.once;
        }
        ),
  )

  -- the terms of references, and the references of terms
  terms_same : (rs : List ℕ) (ts us : List Term) → ReferToAll s v rs ts → ReferToAll s v rs us → ts ≡ us
  terms_same [] [] [] h k = refl
  terms_same [] [] (u ∷ us) h k = absurd k
  terms_same [] (t ∷ ts) us h k = absurd h
  terms_same (r ∷ rs) [] us h k = absurd h
  terms_same (r ∷ rs) (t ∷ ts) [] h k = absurd k
  terms_same (r ∷ rs) (t ∷ ts) (u ∷ us) h k =
      ap (λ x. x ∷ ts) ((one r r t u h.0 k.0).0 refl) ∙ ap (λ xs. u ∷ xs) (terms_same rs ts us h.1 k.1)

  references_same : (rs qs : List ℕ) (ts : List Term) → ReferToAll s v rs ts → ReferToAll s v qs ts → rs ≡ qs
  references_same [] [] [] h k = refl
  references_same [] (q ∷ qs) [] h k = absurd k
  references_same (r ∷ rs) qs [] h k = absurd h
  references_same [] qs (t ∷ ts) h k = absurd h
  references_same (r ∷ rs) [] (t ∷ ts) h k = absurd k
  references_same (r ∷ rs) (q ∷ qs) (t ∷ ts) h k =
      ap (λ x. x ∷ rs) ((one r q t t h.0 k.0).1 refl) ∙ ap (λ xs. q ∷ xs) (references_same rs qs ts h.1 k.1)

  -- an exchange in both
  refer_set : (rs : List ℕ) (ts : List Term) (i r : ℕ) (t : Term) → ReferToAll s v rs ts → RefersTo s v r t → ReferToAll s v (slice_set rs i r) (slice_set ts i t)
  refer_set [] [] i r t h k = h
  refer_set [] (u ∷ ts) i r t h k = absurd h
  refer_set (q ∷ rs) [] i r t h k = absurd h
  refer_set (q ∷ rs) (u ∷ ts) zero r t h k = (k, h.1)
  refer_set (q ∷ rs) (u ∷ ts) (suc i) r t h k = (h.0, refer_set rs ts i r t h.1 k)

  refer_swap : (rs : List ℕ) (ts : List Term) (i j : ℕ) → i < length rs → j < length rs → ReferToAll s v rs ts → ReferToAll s v (swap rs i j) (swap ts i j)
  refer_swap rs ts i j below also h =
      let many = refer_length s v rs ts h in
      let there = refer_set (slice_set rs i (get_or rs j 0)) (slice_set ts i (get_or ts j some_term)) j (get_or rs i 0) (get_or ts i some_term)
      (refer_set rs ts i (get_or rs j 0) (get_or ts j some_term) h (refer_at s v rs ts h j 0 some_term also)) (refer_at s v rs ts h i 0 some_term below) in
      subst (λ qs. ReferToAll s v qs (swap ts i j)) (swap_is rs i j 0 below also)
      (subst (ReferToAll s v (slice_set (slice_set rs i (get_or rs j 0)) j (get_or rs i 0))) (swap_is ts i j some_term (omega (arith, many, below)) (omega (arith, many, also))) there)

  -- an order of references, and of terms
  abbrev StandsForMoved : List Term → List ℕ → Type 0
  StandsForMoved ts l = (ws : List Term) × ReferToAll s v l ws × IsPermutation ts ws

  abbrev HasMoved : List ℕ → List Term → Type 0
  HasMoved rs l = (ws : List ℕ) × ReferToAll s v ws l × IsPermutation rs ws

  moved_terms : (rs qs : List ℕ) (ts us : List Term) → ReferToAll s v rs ts → ReferToAll s v qs us → IsPermutation rs qs → IsPermutation ts us
  moved_terms rs qs ts us h k moved = go (IsPermutation-keeps rs (StandsForMoved ts) (ts, h, IsPermutation-refl ts) step qs moved)
    where
      step : (l : List ℕ) (i j : ℕ) → i < length l → j < length l → StandsForMoved ts l → StandsForMoved ts (swap l i j)
      step l i j below also (ws, refer, so_far) =
          let many = refer_length s v l ws refer in (
            swap ws i j,
            refer_swap l ws i j below also refer,
            IsPermutation-trans ts ws (swap ws i j) so_far (IsPermutation-swap ws (swap ws i j) i j (omega (arith, many, below)) (omega (arith, many, also)) refl),
          )

      go : StandsForMoved ts qs → IsPermutation ts us
      go (ws, refer, all) = rw (← terms_same qs ws us refer k) all

  moved_references : (rs qs : List ℕ) (ts us : List Term) → ReferToAll s v rs ts → ReferToAll s v qs us → IsPermutation ts us → IsPermutation rs qs
  moved_references rs qs ts us h k moved = go (IsPermutation-keeps ts (HasMoved rs) (rs, h, IsPermutation-refl rs) step us moved)
    where
      step : (l : List Term) (i j : ℕ) → i < length l → j < length l → HasMoved rs l → HasMoved rs (swap l i j)
      step l i j below also (ws, refer, so_far) =
          let many = refer_length s v ws l refer in
          let one_below : i < length ws = omega (arith, many, below) in
          let other_below : j < length ws = omega (arith, many, also) in (
            swap ws i j,
            refer_swap ws l i j one_below other_below refer,
            IsPermutation-trans rs ws (swap ws i j) so_far (IsPermutation-swap ws (swap ws i j) i j one_below other_below refl),
          )

      go : HasMoved rs us → IsPermutation rs qs
      go (ws, refer, all) = rw (← references_same ws qs us refer k) all

  pub reordered : (old new : List ℕ) (ps ts : List Term) → ReferToAll s v old ps → ReferToAll s v new ts → (b : Bool) → IsTrue b ↔ IsPermutation old new → IsTrue b ↔ IsPermutation ps ts
  reordered old new ps ts old_are new_are b test = (
    λ e. moved_terms old new ps ts old_are new_are (test.0 e),
    λ moved. test.1 (moved_references old new ps ts old_are new_are moved),
  )

-- the one premise of a change
module _ (s : Table) (v : TermsView) (relation : List Term → List Term → Type 0) where
  pub no_change : (premises : List (Bor (List ℕ))) (ps : List (List Term)) (ts : List Term) → (length premises ≢ 1) → ReferToClauses s v premises ps → IsTrue false ↔ Changes relation ps ts
  no_change premises ps ts many refer = (λ e. absurd cc, λ h. absurd (many (count premises ps refer ∙ ap length h.one)))
    where
      count : (premises : List (Bor (List ℕ))) (ps : List (List Term)) → ReferToClauses s v premises ps → length premises ≡ length ps
      count [] [] h = refl
      count [] (p ∷ ps) h = absurd h
      count (q ∷ premises) [] h = absurd h
      count (q ∷ premises) (p ∷ ps) h = ap suc (count premises ps h.1)

  pub one_change : (premise : Bor (List ℕ)) (premises : List (Bor (List ℕ))) (ps : List (List Term)) (ts : List Term) (b : Bool) → premises ≡ premise ∷ [] → ((p : List Term) → ReferToAll s v premise.now p → IsTrue b ↔ relation p ts) → ReferToClauses s v premises ps → IsTrue b ↔ Changes relation ps ts
  one_change premise premises ps ts b is test refer = go ps (subst (λ qs. ReferToClauses s v qs ps) is refer)
    where
      go : (ps : List (List Term)) → ReferToClauses s v (premise ∷ []) ps → IsTrue b ↔ Changes relation ps ts
      go [] h = absurd h
      go (p ∷ []) h = (
        λ e. record { premise = p; one = refl; changed = (test p h.0).0 e },
        λ changes.
            (let same : p ≡ changes.premise = (let e = changes.one in cc) in
            (test p h.0).1 (rw same changes.changed)),
      )
      go (p ∷ q ∷ ps) h = absurd h.1
