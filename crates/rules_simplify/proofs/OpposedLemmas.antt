-- Which terms stand in a list behind an even, and which behind an odd number of negations.
use Rattle.std.proofs.Common.{◌≡◌, ◌↔◌, ◌⊎◌, inl, inr, ◌+◌, ℕ, suc, List, [], ◌∷◌, ◌++◌, Contains, Bool, true, false, sym, ap, ◌∙◌, subst, arith}
use Rattle.std.proofs.lemmas.List.Elements.{Contains-push, Contains-push_cases, Contains-append_left}
use Rattle.sym_table.specs.Table.{Table}
use Rattle.term_model.specs.Terms.{Term, not_of}
use Rattle.term_model.proofs.Lists.{contains_none}
use Rattle.term_pool.specs.Nots.{negated as nots_of, Strips}
use Rattle.term_pool.specs.Views.{TermsView, RefersTo}
use Rattle.term_pool.proofs.References.{AreOne}
use Rattle.rule_model.specs.Simplify.{negated, AreOpposed}
use Rattle.rules_simplify.specs.Joins.{AddsNumber, IsMetOtherwise}
use Rattle.rules_simplify.proofs.NegationLemmas.{negated_is, nots_more, bare_of, one_strips, half, parity_even, parity_odd, even_count, odd_count}

-- an item of the list is u behind so many negations
pub record Stands (ts : List Term) (u : Term) (odd : Bool) : Type 0 where
  pub whole : Term
  pub there : Contains ts whole
  pub strips : Strips whole u odd

pub stands_wider : (ts us : List Term) (u : Term) (odd : Bool) → ((t : Term) → Contains ts t → Contains us t) → Stands ts u odd → Stands us u odd
stands_wider ts us u odd wider h = record { whole = h.whole; there = wider h.whole h.there; strips = h.strips }

stands_push : (ts : List Term) (t u : Term) (odd : Bool) → Stands (ts ++ t ∷ []) u odd → Stands ts u odd ⊎ Strips t u odd
stands_push ts t u odd h =
    elim (Contains-push_cases ts t h.whole h.there) [
      | inl there ↦ inl (record { whole = h.whole; there = there; strips = h.strips })
      | inr e ↦ inr (subst (λ x. Strips x u odd) (sym e) h.strips)
    ]

stands_before : (ts : List Term) (t u : Term) (odd : Bool) → Stands ts u odd → Stands (ts ++ t ∷ []) u odd
stands_before ts t u odd h = stands_wider ts (ts ++ t ∷ []) u odd (λ x there. Contains-append_left ts (t ∷ []) x there) h

stands_last : (ts : List Term) (t u : Term) (odd : Bool) → Strips t u odd → Stands (ts ++ t ∷ []) u odd
stands_last ts t u odd h = record { whole = t; there = Contains-push ts t; strips = h }

-- opposed items are one term that stands both ways
pub opposed_are : (ts : List Term) (u : Term) → Stands ts u false → Stands ts u true → AreOpposed ts
opposed_are ts u h k =
    let twice = even_count h.strips.nots h.strips.parity in
    let once_more = odd_count k.strips.nots k.strips.parity in
    record {
      same = u;
      m = twice.0;
      n = once_more.0;
      even = subst (Contains ts) (h.strips.whole ∙ (negated_is h.strips.nots u ∙ ap (λ (n : ℕ). negated n u) twice.1)) h.there;
      odd = subst (Contains ts) (k.strips.whole ∙ (negated_is k.strips.nots u ∙ ap (λ (n : ℕ). negated n u) once_more.1)) k.there;
    }

pub record StandsBothWays (ts : List Term) : Type 0 where
  pub inner : Term
  pub even : Stands ts inner false
  pub odd : Stands ts inner true

-- so many negations of what is behind others
behind : (m n : ℕ) (same u : Term) → same ≡ nots_of n u → negated m same ≡ nots_of (m + n) u
behind m n same u e = sym (negated_is m same) ∙ (ap (nots_of m) e ∙ nots_more m n u)

pub both_ways : (ts : List Term) → AreOpposed ts → StandsBothWays ts
both_ways ts h = go (bare_of h.same)
  where
    go : ((u : Term) × (q : ℕ) × (h.same ≡ nots_of q u) × ((w : Term) → u ≡ not_of w → ⊥)) → StandsBothWays ts
    go (u, q, is, bare) =
        elim (half q) [
          | inl p ↦ (let e = p.1 in record {
            inner = u;
            even = record { whole = negated (h.m + h.m) h.same; there = h.even; strips = record { nots = (h.m + h.m) + q; whole = behind (h.m + h.m) q h.same u is; bare = bare; parity = parity_even ((h.m + h.m) + q) (h.m + p.0) (omega (arith, e)) } };
            odd = record { whole = negated (suc (h.n + h.n)) h.same; there = h.odd; strips = record { nots = suc (h.n + h.n) + q; whole = behind (suc (h.n + h.n)) q h.same u is; bare = bare; parity = parity_odd (suc (h.n + h.n) + q) (h.n + p.0) (omega (arith, e)) } };
          })
          | inr p ↦ (let e = p.1 in record {
            inner = u;
            even = record { whole = negated (suc (h.n + h.n)) h.same; there = h.odd; strips = record { nots = suc (h.n + h.n) + q; whole = behind (suc (h.n + h.n)) q h.same u is; bare = bare; parity = parity_even (suc (h.n + h.n) + q) (suc (h.n + p.0)) (omega (arith, e)) } };
            odd = record { whole = negated (h.m + h.m) h.same; there = h.even; strips = record { nots = (h.m + h.m) + q; whole = behind (h.m + h.m) q h.same u is; bare = bare; parity = parity_odd ((h.m + h.m) + q) (h.m + p.0) (omega (arith, e)) } };
          })
        ]

module _ (s : Table) (v : TermsView) where
  -- the keys are the references of the terms that stand so in the list
  abbrev pub AreNoted : List Term → Bool → List ℕ → Type 0
  AreNoted ts odd keys = (r : ℕ) (u : Term) → RefersTo s v r u → Contains keys r ↔ Stands ts u odd

  pub record IsNoted (ts : List Term) (even odd : List ℕ) : Type 0 where
    pub evens : AreNoted ts false even
    pub odds : AreNoted ts true odd
    pub apart : (u : Term) → Stands ts u false → Stands ts u true → ⊥

  none_noted : (odd : Bool) (keys : List ℕ) → keys ≡ [] → AreNoted [] odd keys
  none_noted odd keys e r u refers = (
    λ c. absurd (contains_none r (subst (λ (ks : List ℕ). Contains ks r) e c)),
    λ h. absurd (contains_none h.whole h.there),
  )

  pub noted_start : (even odd : List ℕ) → even ≡ [] → odd ≡ [] → IsNoted [] even odd
  noted_start even odd e f = record { evens = none_noted false even e; odds = none_noted true odd f; apart = λ u h k. absurd (contains_none h.whole h.there) }

  module _ (one : AreOne s v) (ts : List Term) (t u : Term) (bare : ℕ) (refers : RefersTo s v bare u) where
    same_kind : (b : Bool) (old new : List ℕ) → Strips t u b → AddsNumber old new bare → AreNoted ts b old → AreNoted (ts ++ t ∷ []) b new
    same_kind b old new strips added noted r w r_refers = (
      λ c. elim ((added r).0 c) [
        | inl there ↦ stands_before ts t w b ((noted r w r_refers).0 there)
        | inr e ↦ stands_last ts t w b (subst (λ x. Strips t x b) ((one bare r u w refers r_refers).0 (sym e)) strips)
      ],
      λ h. (added r).1 (elim (stands_push ts t w b h) [
        | inl earlier ↦ inl ((noted r w r_refers).1 earlier)
        | inr last ↦ inr ((one r bare w u r_refers refers).1 (one_strips t w u b b last strips).0)
      ]),
    )

    other_kind : (b other : Bool) (old new : List ℕ) → Strips t u b → (other ≡ b → ⊥) → new ≡ old → AreNoted ts other old → AreNoted (ts ++ t ∷ []) other new
    other_kind b other old new strips differ same noted r w r_refers = (
      λ c. stands_before ts t w other ((noted r w r_refers).0 (subst (λ (ks : List ℕ). Contains ks r) same c)),
      λ h. subst (λ (ks : List ℕ). Contains ks r) (sym same) (elim (stands_push ts t w other h) [
        | inl earlier ↦ (noted r w r_refers).1 earlier
        | inr last ↦ absurd (differ (one_strips t w u other b last strips).1)
      ]),
    )

    -- the term stood the other way before
    pub noted_found : (b told : Bool) (even odd new_even new_odd : List ℕ) → Strips t u b → IsNoted ts even odd → IsMetOtherwise even odd new_even new_odd bare b told → told ≡ true → AreOpposed (ts ++ t ∷ [])
    noted_found true told even odd new_even new_odd strips noted met holds =
        opposed_are (ts ++ t ∷ []) u (stands_before ts t u false ((noted.evens bare u refers).0 (met.2.0 holds))) (stands_last ts t u true strips)
    noted_found false told even odd new_even new_odd strips noted met holds =
        opposed_are (ts ++ t ∷ []) u (stands_last ts t u false strips) (stands_before ts t u true ((noted.odds bare u refers).0 (met.2.0 holds)))

    -- it did not
    pub noted_more : (b told : Bool) (even odd new_even new_odd : List ℕ) → Strips t u b → IsNoted ts even odd → IsMetOtherwise even odd new_even new_odd bare b told → told ≡ false → IsNoted (ts ++ t ∷ []) new_even new_odd
    noted_more true told even odd new_even new_odd strips noted met fails = record {
      evens = other_kind true false even new_even strips (λ e. cc) met.1 noted.evens;
      odds = same_kind true odd new_odd strips met.0 noted.odds;
      apart = λ w h k. elim (stands_push ts t w false h) [
        | inl earlier ↦ elim (stands_push ts t w true k) [
          | inl too ↦ noted.apart w earlier too
          | inr last ↦
              (let same = (one_strips t w u true true last strips).0 in
              let wrong = met.2.1 ((noted.evens bare u refers).1 (subst (λ x. Stands ts x false) same earlier)) in
              absurd cc)
        ]
        | inr last ↦ (let wrong = (one_strips t w u false true last strips).1 in absurd cc)
      ];
    }
    noted_more false told even odd new_even new_odd strips noted met fails = record {
      evens = same_kind false even new_even strips met.0 noted.evens;
      odds = other_kind false true odd new_odd strips (λ e. cc) met.1 noted.odds;
      apart = λ w h k. elim (stands_push ts t w true k) [
        | inl earlier ↦ elim (stands_push ts t w false h) [
          | inl too ↦ noted.apart w too earlier
          | inr last ↦
              (let same = (one_strips t w u false false last strips).0 in
              let wrong = met.2.1 ((noted.odds bare u refers).1 (subst (λ x. Stands ts x true) same earlier)) in
              absurd cc)
        ]
        | inr last ↦ (let wrong = (one_strips t w u true false last strips).1 in absurd cc)
      ];
    }

  pub none_opposed : (ts : List Term) (even odd : List ℕ) → IsNoted ts even odd → ¬ AreOpposed ts
  none_opposed ts even odd noted h = let both = both_ways ts h in noted.apart both.inner both.even both.odd

-- opposed items of a part of a list are such of the list
pub opposed_wider : (ts us : List Term) → ((t : Term) → Contains ts t → Contains us t) → AreOpposed ts → AreOpposed us
opposed_wider ts us wider h = record { same = h.same; m = h.m; n = h.n; even = wider _ h.even; odd = wider _ h.odd }
