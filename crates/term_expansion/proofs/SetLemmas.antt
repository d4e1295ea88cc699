-- Sets of numbers by what they have.
use Rattle.std.proofs.Common.{◌≡◌, ℕ, ◌⊎◌, inl, inr, List, [], ◌∷◌, ◌++◌, Bool, true, false, nat_eq, cond, refl, sym, subst, Contains}
use Rattle.std.specs.List.{list_any}
use Rattle.std.proofs.lemmas.List.Elements.{Contains-append_left, Contains-push, Contains-push_cases}
use Rattle.indexmap.specs.IndexSet.{insert_key}
use Rattle.term_model.proofs.Lists.{contains_none, has_number}
use Rattle.term_expansion.specs.Free.{AddsOne, AddsUnbound}

pub insert_key-adds : (ks : List ℕ) (k : ℕ) → AddsOne ks (insert_key nat_eq ks k) k
insert_key-adds ks k = go (list_any (nat_eq k) ks) refl
  where
    go : (b : Bool) → list_any (nat_eq k) ks ≡ b → AddsOne ks (cond b ks (ks ++ k ∷ [])) k
    go true e = record { kept = λ j h. h; here = (has_number ks k).0 e; only = λ j h. inl h }
    go false e = record {
      kept = λ j h. Contains-append_left ks (k ∷ []) j h;
      here = Contains-push ks k;
      only = λ j h. elim (Contains-push_cases ks k j h) [ inl a ↦ inl a | inr b ↦ inr (sym b) ];
    }

-- what was added to an empty set without bounds
pub added-had : (leaves old new : List ℕ) → AddsUnbound leaves [] old new → old ≡ [] → (k : ℕ) → Contains new k → Contains leaves k
added-had leaves old new h e k c =
    elim (h.only k c) [ inl before ↦ absurd (contains_none k (subst (λ zs. Contains zs k) e before)) | inr is ↦ is.0 ]

pub unbound-skip : (leaves more bound old new : List ℕ) (x : ℕ) → AddsUnbound leaves bound old new → Contains bound x → more ≡ leaves ++ x ∷ [] → AddsUnbound more bound old new
unbound-skip leaves more bound old new x h is e = subst (λ zs. AddsUnbound zs bound old new) (sym e) (record { kept = h.kept; all = all; only = only })
  where
    all : (k : ℕ) → Contains (leaves ++ x ∷ []) k → ¬ Contains bound k → Contains new k
    all k g n = elim (Contains-push_cases leaves x k g) [ inl old ↦ h.all k old n | inr same ↦ absurd (n (subst (Contains bound) same is)) ]

    only : (k : ℕ) → Contains new k → Contains old k ⊎ (Contains (leaves ++ x ∷ []) k × (¬ Contains bound k))
    only k g = elim (h.only k g) [ inl a ↦ inl a | inr b ↦ inr (Contains-append_left leaves (x ∷ []) k b.0, b.1) ]

pub unbound-more : (leaves more bound old mid new : List ℕ) (x : ℕ) → AddsUnbound leaves bound old mid → ¬ Contains bound x → AddsOne mid new x → more ≡ leaves ++ x ∷ [] → AddsUnbound more bound old new
unbound-more leaves more bound old mid new x h free adds e = subst (λ zs. AddsUnbound zs bound old new) (sym e) (record { kept = λ k g. adds.kept k (h.kept k g); all = all; only = only })
  where
    all : (k : ℕ) → Contains (leaves ++ x ∷ []) k → ¬ Contains bound k → Contains new k
    all k g n =
        elim (Contains-push_cases leaves x k g) [ inl old ↦ adds.kept k (h.all k old n) | inr same ↦ subst (Contains new) same adds.here ]

    from : (k : ℕ) → Contains mid k → Contains old k ⊎ (Contains (leaves ++ x ∷ []) k × (¬ Contains bound k))
    from k g = elim (h.only k g) [ inl a ↦ inl a | inr b ↦ inr (Contains-append_left leaves (x ∷ []) k b.0, b.1) ]

    only : (k : ℕ) → Contains new k → Contains old k ⊎ (Contains (leaves ++ x ∷ []) k × (¬ Contains bound k))
    only k g =
        elim (adds.only k g) [ inl a ↦ from k a | inr same ↦ inr (subst (Contains (leaves ++ x ∷ [])) (sym same) (Contains-push leaves x), λ is. free (subst (Contains bound) same is)) ]
