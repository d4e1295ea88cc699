-- A fact that is tested of each term of a list, by its references.
use Rattle.std.proofs.Common.{◌≡◌, ◌↔◌, inl, inr, ◌<◌, ◌≤◌, ◌+◌, ℕ, List, length, get_or, Bool, true, false, IsTrue, All, refl, sym, subst, arith}
use Rattle.std.proofs.lemmas.Bool.{cases_eq}
use Rattle.sym_table.specs.Table.{Table}
use Rattle.term_model.specs.Terms.{Term, numeral}
use Rattle.term_pool.specs.Views.{TermsView, RefersTo, ReferToAll}
use Rattle.schema_match.proofs.ReferLemmas.{refer_length, refer_at}

module _ (P : Term → Type 0) (s : Table) (v : TermsView) (references : List ℕ) (ts : List Term) (refer : ReferToAll s v references ts) where
  abbrev pub Below : ℕ → Type 0
  Below i = (k : ℕ) (d : Term) → k < i → P (get_or ts k d)

  module _ (i r : ℕ) (told : Bool) (below : i < length references) (is : r ≡ get_or references i r) (test : (t : Term) → RefersTo s v r t → IsTrue told ↔ P t) where
    here : (d : Term) → IsTrue told ↔ P (get_or ts i d)
    here d = test (get_or ts i d) (subst (λ q. RefersTo s v q (get_or ts i d)) (sym is) (refer_at s v references ts refer i r d below))

    pub one_fails : told ≡ false → IsTrue false ↔ All P ts
    one_fails refused = (
      λ e. absurd cc,
      λ all. absurd (let holds = (here (numeral 0)).1 (all i (numeral 0) (rw (← refer_length s v references ts refer) below)) in cc),
    )

    pub one_more : told ≡ true → Below i → Below (i + 1)
    one_more holds so_far k d within =
        elim (cases_eq k i) [ inl e ↦ subst (λ j. P (get_or ts j d)) (sym e) ((here d).0 holds) | inr other ↦ so_far k d (omega (arith, within, other)) ]

  pub all_hold : (i : ℕ) → length references ≤ i → Below i → IsTrue true ↔ All P ts
  all_hold i end so_far = (
    λ e k d within. so_far k d (let count = refer_length s v references ts refer in omega (arith, within, end, count)),
    λ all. refl,
  )
