-- What `distinct` of few and of many terms of one sort stands for.
use Rattle.std.proofs.Common.{◌≡◌, ◌≢◌, ◌↔◌, inl, inr, ◌<◌, ◌≤◌, ℕ, List, [], ◌∷◌, length, Bool, false, IsTrue, All, refl, sym, ap, ◌∙◌, subst, arith}
use Rattle.std.proofs.lemmas.List.Elements.{All-head}
use Rattle.sym_table.specs.Table.{Table}
use Rattle.term_model.specs.declared.symbols.Op.{Op}
use Rattle.term_model.specs.declared.symbols.Sort.{Sort}
use Rattle.term_model.specs.Sorts.{IsOf}
use Rattle.term_model.specs.Terms.{Term, operation, no_terms, terms_of}
use Rattle.term_model.proofs.Sorting.{one_sort}
use Rattle.term_pool.specs.Views.{TermsView, ReferToAll}
use Rattle.rule_model.specs.Ite.{AreInequalities, IsInequality}
use Rattle.rule_model.proofs.ArgumentLists.{same_arguments}
use Rattle.schema_match.proofs.ReferLemmas.{refer_length}
use Rattle.rules_ite.specs.Distinct.{AreOfOneSort, IsConjunction, IsOfDistinct, Eliminates}

-- as many terms as references
pub many_terms : (s : Table) (v : TermsView) (references : List ℕ) (us : List Term) → ReferToAll s v references us → 3 ≤ length references → 3 ≤ length us
many_terms s v references us refer many = let count = refer_length s v references us refer in omega (arith, many, count)

-- fewer than two terms, and two
pub few_stand_for_none : (us : List Term) (t : Term) → length us < 2 → IsTrue false ↔ IsOfDistinct us t
few_stand_for_none us t few = (λ e. absurd cc, λ h. absurd (go h))
  where
    go : IsOfDistinct us t → ⊥
    go (inl (x, y, is, h)) = (let count = ap length is in omega (arith, few, count))
    go (inr (inl h)) = (let many = h.many in omega (arith, few, many))
    go (inr (inr h)) = (let many = h.many in omega (arith, few, many))

pub two_stand_for : (x y t : Term) (told : Bool) → IsTrue told ↔ IsInequality x y t → IsTrue told ↔ IsOfDistinct (x ∷ y ∷ []) t
two_stand_for x y t told test = (λ e. inl (x, y, refl, test.0 e), go)
  where
    go : IsOfDistinct (x ∷ y ∷ []) t → IsTrue told
    go (inl (a, b, is, h)) =
        (let first : x ≡ a = cc in
        let second : y ≡ b = cc in
        test.1 (rw (first, second) h))
    go (inr (inl h)) = absurd (let many = h.many in omega (arith, many))
    go (inr (inr h)) = absurd (let many = h.many in omega (arith, many))

-- three or more
module _ (x : Term) (us : List Term) (t : Term) (many : 3 ≤ length (x ∷ us)) (sorted : AreOfOneSort (x ∷ us)) (sort : Sort) (first : IsOf x sort) where
  sort_is : sorted.sort ≡ sort
  sort_is = one_sort x sorted.sort sort (All-head (λ u. IsOf u sorted.sort) x us sorted.each) first

  pub truths_stand_for : sort ≡ Sort.Bool → (told : Bool) → IsTrue told ↔ (t ≡ operation Op.False no_terms) → IsTrue told ↔ IsOfDistinct (x ∷ us) t
  truths_stand_for truth told test = (
    λ e. inr (inl (record { many = many; truths = subst (λ s. All (λ u. IsOf u s) (x ∷ us)) (sort_is ∙ truth) sorted.each; is = test.0 e })),
    go,
  )
    where
      go : IsOfDistinct (x ∷ us) t → IsTrue told
      go (inl (a, b, is, h)) = absurd (let count = ap length is in omega (arith, many, count))
      go (inr (inl h)) = test.1 h.is
      go (inr (inr h)) = absurd (h.other (one_sort x h.sort Sort.Bool (All-head (λ u. IsOf u h.sort) x us h.sorted) (subst (IsOf x) truth first)))

  pub others_stand_for : sort ≢ Sort.Bool → (told : Bool) → IsTrue told ↔ IsConjunction (x ∷ us) t → IsTrue told ↔ IsOfDistinct (x ∷ us) t
  others_stand_for other told test = (
    λ e.
        (let h = test.0 e in
        inr (inr (record {
          sort = sort;
          literals = h.literals;
          many = many;
          other = other;
          sorted = subst (λ s. All (λ u. IsOf u s) (x ∷ us)) sort_is sorted.each;
          each = h.each;
          is = h.is;
        }))),
    go,
  )
    where
      go : IsOfDistinct (x ∷ us) t → IsTrue told
      go (inl (a, b, is, h)) = absurd (let count = ap length is in omega (arith, many, count))
      go (inr (inl h)) = absurd (other (one_sort x sort Sort.Bool first (All-head (λ u. IsOf u Sort.Bool) x us h.truths)))
      go (inr (inr h)) = test.1 (record { literals = h.literals; each = h.each; is = h.is })

some_inequality : (us ls : List Term) → 3 ≤ length us → AreInequalities us ls → (l : Term) × (rest : List Term) × (ls ≡ l ∷ rest)
some_inequality [] ls many h = absurd (omega (arith, many))
some_inequality (x ∷ []) ls many h = absurd (omega (arith, many))
some_inequality (x ∷ y ∷ us) ls many ([], later, is, zip, rest) = absurd zip
some_inequality (x ∷ y ∷ us) ls many (l ∷ here, later, is, zip, rest) = (l, _, is)

pub no_conjunction : (us : List Term) (t : Term) → 3 ≤ length us → ((first : Term) (others : List Term) → t ≢ operation Op.And (terms_of (first ∷ others))) → IsTrue false ↔ IsConjunction us t
no_conjunction us t many other = (
  λ e. absurd cc,
  λ h. absurd (let some = some_inequality us h.literals many h.each in other some.0 some.1 (h.is ∙ ap (λ ls. operation Op.And (terms_of ls)) some.2)),
)

pub conjunction_is : (us ls : List Term) (t : Term) (told : Bool) → t ≡ operation Op.And (terms_of ls) → IsTrue told ↔ AreInequalities us ls → IsTrue told ↔ IsConjunction us t
conjunction_is us ls t told is test = (
  λ e. record { literals = ls; each = test.0 e; is = is },
  λ h. test.1 (subst (AreInequalities us) (sym (same_arguments Op.And ls h.literals (sym is ∙ h.is))) h.each),
)

-- the sides of the equality
pub nothing_eliminated : (t u : Term) → ((first : Term) (others : List Term) → t ≢ operation Op.Distinct (terms_of (first ∷ others))) → IsTrue false ↔ Eliminates t u
nothing_eliminated t u other = (λ e. absurd cc, λ h. absurd (go h.ts h.is h.stands_for))
  where
    none : IsOfDistinct [] u → ⊥
    none (inl (x, y, is, h)) = (let count = ap length is in omega (arith, count))
    none (inr (inl h)) = (let many = h.many in omega (arith, many))
    none (inr (inr h)) = (let many = h.many in omega (arith, many))

    go : (ts : List Term) → t ≡ operation Op.Distinct (terms_of ts) → IsOfDistinct ts u → ⊥
    go [] is h = none h
    go (x ∷ ts) is h = other x ts is

pub eliminated_is : (t u : Term) (ts : List Term) (told : Bool) → t ≡ operation Op.Distinct (terms_of ts) → IsTrue told ↔ IsOfDistinct ts u → IsTrue told ↔ Eliminates t u
eliminated_is t u ts told is test = (
  λ e. record { ts = ts; is = is; stands_for = test.0 e },
  λ h. test.1 (subst (λ xs. IsOfDistinct xs u) (sym (same_arguments Op.Distinct ts h.ts (sym is ∙ h.is))) h.stands_for),
)
