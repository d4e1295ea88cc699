-- The sides of an equality by ite_intro: a term, and the conjunction of it and of facts.
use Rattle.std.proofs.Common.{◌≡◌, ◌≢◌, ◌↔◌, ℕ, List, [], ◌∷◌, Bool, false, IsTrue, All, sym, ◌∙◌, subst}
use Rattle.pair_pool.specs.Views.{IsKnown}
use Rattle.sym_table.specs.Table.{Table}
use Rattle.term_model.specs.declared.symbols.Op.{Op}
use Rattle.term_model.specs.Flips.{EqualUpToFlips}
use Rattle.term_model.specs.Terms.{Term, operation, terms_of}
use Rattle.term_pool.specs.Views.{TermsView, RefersTo, ReferToAll}
use Rattle.rule_model.specs.Ite.{IsFactOfChoice}
use Rattle.rule_model.proofs.ArgumentLists.{same_arguments}
use Rattle.rules_ite.specs.Facts.{Introduces}

-- the second term is no conjunction
pub nothing_introduced : (t u : Term) → ((first : Term) (others : List Term) → u ≢ operation Op.And (terms_of (first ∷ others))) → IsTrue false ↔ Introduces t u
nothing_introduced t u other = (λ e. absurd cc, λ h. absurd (other h.first h.facts h.is))

-- it is the conjunction of these
module _ (t u first : Term) (facts : List Term) (is : u ≡ operation Op.And (terms_of (first ∷ facts))) where
  parts_are : (h : Introduces t u) → (h.first ≡ first) × (h.facts ≡ facts)
  parts_are h =
      let same : h.first ∷ h.facts ≡ first ∷ facts = same_arguments Op.And (h.first ∷ h.facts) (first ∷ facts) (sym h.is ∙ is) in (
        let e : h.first ≡ first = cc in e,
        let e : h.facts ≡ facts = cc in e,
      )

  pub other_first : (b : Bool) → IsTrue b ↔ EqualUpToFlips t first → b ≡ false → IsTrue false ↔ Introduces t u
  other_first b test fails = (
    λ e. absurd cc,
    λ h. absurd (let holds = test.1 (subst (EqualUpToFlips t) (parts_are h).0 h.same) in cc),
  )

  pub introduced_is : (b : Bool) → EqualUpToFlips t first → IsTrue b ↔ All IsFactOfChoice facts → IsTrue b ↔ Introduces t u
  introduced_is b flips test = (
    λ e. record { first = first; facts = facts; is = is; same = flips; say = test.0 e },
    λ h. test.1 (subst (All IsFactOfChoice) (parts_are h).1 h.say),
  )

-- references of a list that begins with one
module _ (s : Table) (v : TermsView) where
  pub refer_first : (r : ℕ) (rs list : List ℕ) (t : Term) (ts : List Term) → list ≡ r ∷ rs → ReferToAll s v list (t ∷ ts) → RefersTo s v r t × ReferToAll s v rs ts
  refer_first r rs list t ts e h = subst (λ qs. ReferToAll s v qs (t ∷ ts)) e h

  pub refer_none : (list : List ℕ) (t : Term) (ts : List Term) → list ≡ [] → ReferToAll s v list (t ∷ ts) → ⊥
  refer_none list t ts e h = subst (λ qs. ReferToAll s v qs (t ∷ ts)) e h

  -- what stands for a term is known
  pub refers_is_known : (w : TermsView) (r : ℕ) (t : Term) → w ≡ v → RefersTo s v r t → IsKnown w.pass r
  refers_is_known w r t same h = subst (λ (x : TermsView). IsKnown x.pass r) (sym same) (record { tree = h.tree; stands = h.known })
