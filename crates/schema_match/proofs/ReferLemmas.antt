-- Cited by crates above. References to terms in lists and on stacks.
use Rattle.std.proofs.Common.{◌≡◌, ◌<◌, ℕ, List, [], ◌∷◌, ◌++◌, length, get_or, reverse, Contains, inl, inr, refl, sym, ◌∙◌, ap, subst}
use Rattle.std.proofs.lemmas.List.{reverse-append, reverse-reverse}
use Rattle.sym_table.specs.Table.{Table}
use Rattle.term_model.proofs.Zips.{zip_append, zip_length, zip_at}
use Rattle.term_model.proofs.Lists.{contains_none, contains_cases, contains_head, contains_later}
use Rattle.term_model.specs.Terms.{Term}
use Rattle.term_pool.specs.Views.{TermsView, RefersTo, ReferToAll}
use Rattle.term_pool.proofs.References.{AreOne}
use Rattle.schema_match.specs.Stack.{StackOf}

-- a list that is not empty
pub record TopOf (s : Table) (v : TermsView) (items : List ℕ) (r : ℕ) (ts : List Term) : Type 0 where
  pub top : Term
  pub below : List Term
  pub is : ts ≡ top ∷ below
  pub top_refers : RefersTo s v r top
  pub below_refer : StackOf s v items below

pub stack_top : (s : Table) (v : TermsView) (items : List ℕ) (r : ℕ) (ts : List Term) → StackOf s v (items ++ r ∷ []) ts → TopOf s v items r ts
stack_top s v items r ts h = go ts (subst (λ rs. ReferToAll s v rs ts) (reverse-append items (r ∷ [])) h)
  where
    go : (ts : List Term) → ReferToAll s v (r ∷ reverse items) ts → TopOf s v items r ts
    go [] h = absurd h
    go (t ∷ ts) h = record { top = t; below = ts; is = refl; top_refers = h.0; below_refer = h.1 }

pub stack_push : (s : Table) (v : TermsView) (items : List ℕ) (r : ℕ) (t : Term) (ts : List Term) → RefersTo s v r t → StackOf s v items ts → StackOf s v (items ++ r ∷ []) (t ∷ ts)
stack_push s v items r t ts h k = subst (λ rs. ReferToAll s v rs (t ∷ ts)) (sym (reverse-append items (r ∷ []))) (h, k)

pub refer_append : (s : Table) (v : TermsView) (rs qs : List ℕ) (ts us : List Term) → ReferToAll s v rs ts → ReferToAll s v qs us → ReferToAll s v (rs ++ qs) (ts ++ us)
refer_append s v rs qs ts us = zip_append (RefersTo s v) rs ts qs us

-- items that are put on a stack, the first at the top
pub stack_more : (s : Table) (v : TermsView) (items more : List ℕ) (ts us : List Term) → ReferToAll s v more us → StackOf s v items ts → StackOf s v (items ++ reverse more) (us ++ ts)
stack_more s v items more ts us h k =
    subst (λ rs. ReferToAll s v rs (us ++ ts)) (sym (reverse-append items (reverse more) ∙ ap (λ rs. rs ++ reverse items) (reverse-reverse more)))
    (refer_append s v more (reverse items) us ts h k)

-- a reference is in a list where its term is among the list's terms
pub contains_terms : (s : Table) (v : TermsView) → AreOne s v → (rs : List ℕ) (ts : List Term) (r : ℕ) (t : Term) → ReferToAll s v rs ts → RefersTo s v r t → Contains rs r → Contains ts t
contains_terms s v one [] ts r t h refers c = absurd (contains_none r c)
contains_terms s v one (q ∷ rs) [] r t h refers c = absurd h
contains_terms s v one (q ∷ rs) (u ∷ ts) r t h refers c =
    elim (contains_cases q r rs c) [
      | inl e ↦ rw (← (one q r u t h.0 refers).0 e) (contains_head u ts)
      | inr later ↦ contains_later u t ts (contains_terms s v one rs ts r t h.1 refers later)
    ]

pub contains_references : (s : Table) (v : TermsView) → AreOne s v → (rs : List ℕ) (ts : List Term) (r : ℕ) (t : Term) → ReferToAll s v rs ts → RefersTo s v r t → Contains ts t → Contains rs r
contains_references s v one [] [] r t h refers c = absurd (contains_none t c)
contains_references s v one [] (u ∷ ts) r t h refers c = absurd h
contains_references s v one (q ∷ rs) [] r t h refers c = absurd h
contains_references s v one (q ∷ rs) (u ∷ ts) r t h refers c =
    elim (contains_cases u t ts c) [
      | inl e ↦ rw (← (one q r u t h.0 refers).1 e) (contains_head q rs)
      | inr later ↦ contains_later q r rs (contains_references s v one rs ts r t h.1 refers later)
    ]

pub refer_length : (s : Table) (v : TermsView) (rs : List ℕ) (ts : List Term) → ReferToAll s v rs ts → length rs ≡ length ts
refer_length s v = zip_length (RefersTo s v)

pub refer_at : (s : Table) (v : TermsView) (rs : List ℕ) (ts : List Term) → ReferToAll s v rs ts → (i d : ℕ) (e : Term) → i < length rs → RefersTo s v (get_or rs i d) (get_or ts i e)
refer_at s v rs ts h i d e below = zip_at (RefersTo s v) rs ts i d e h below
