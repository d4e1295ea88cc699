-- Terms with signs, and the chain of the terms that they stand for.
use Rattle.std.proofs.Common.{◌≡◌, ◌↔◌, ℕ, Bool, true, false, List, [], ◌∷◌, map}
use Rattle.std.proofs.Common.{sym, ◌∙◌, ap, subst}
use Rattle.std.specs.Borrow.{Bor}
use Rattle.std.specs.Global.{Vec}
use Rattle.std.specs.List.{AllZip}
use Rattle.sym_table.specs.Table.{Table}
use Rattle.term_model.specs.Terms.{Term, not_of}
use Rattle.term_parts.specs.Judging.{ReferToClauses}
use Rattle.term_pool.specs.Views.{TermsView, RefersTo, ReferToAll}
use Rattle.proof_store.specs.Meaning.{IsPivotOf}
use Rattle.rule_model.specs.Renaming.{KeepsAtomsApart}
use Rattle.rule_model.specs.Resolution.{JoinAll, ResolvesStrictly, sides_of}
use Rattle.clause_chain.specs.Chaining.{clauses_of}
use Rattle.clause_chain.specs.declared.signed_term.SignedTerm.{SignedTerm}
use Rattle.rules_resolution.specs.Loading.{AreListsOf, TakeAway}
use Rattle.rules_resolution.specs.SignedTerms.{HasSign, StandsForSigned, IsSignedOf}
use Rattle.rules_resolution.proofs.Carrying.{Both, all_carried}

abbrev of : ℕ → Bool → SignedTerm
of r negative = record { term = r; negative = negative }

-- terms with signs are equal exactly where they stand for one term
module _ (s : Table) (v : TermsView) (one : KeepsAtomsApart (RefersTo s v)) where
  signs_apart : (r q : ℕ) (m n : Bool) (x y : Term) → HasSign s v r m x → HasSign s v q n y → (of r m ≡ of q n) ↔ (x ≡ y)
  signs_apart r q true true x y h k = (
    λ e. h.is ∙ (ap not_of ((one r q h.inner k.inner h.refers k.refers).0 (ap (λ (z : SignedTerm). z.term) e)) ∙ sym k.is),
    λ e. let f : not_of h.inner ≡ not_of k.inner = sym h.is ∙ (e ∙ k.is) in let g : h.inner ≡ k.inner = cc in
        ap (λ (z : ℕ). of z true) ((one r q h.inner k.inner h.refers k.refers).1 g),
  )
  signs_apart r q true false x y h k = (λ e. absurd (let f = ap (λ (z : SignedTerm). z.negative) e in cc), λ e. absurd (k.1 h.inner (sym e ∙ h.is)))
  signs_apart r q false true x y h k = (λ e. absurd (let f = ap (λ (z : SignedTerm). z.negative) e in cc), λ e. absurd (h.1 k.inner (e ∙ k.is)))
  signs_apart r q false false x y h k = (
    λ e. (one r q x y h.0 k.0).0 (ap (λ (z : SignedTerm). z.term) e),
    λ e. ap (λ (z : ℕ). of z false) ((one r q x y h.0 k.0).1 e),
  )

  pub signed_apart : KeepsAtomsApart (StandsForSigned s v)
  signed_apart a b x y h k = signs_apart a.term b.term a.negative b.negative x y h k

-- lists that stand for terms
module _ (s : Table) (v : TermsView) where
  clause_signed : (references : List ℕ) (signed : List SignedTerm) (ts : List Term) → AllZip (IsSignedOf s v) references signed
      → AllZip (RefersTo s v) references ts → AllZip (StandsForSigned s v) signed ts
  clause_signed [] [] [] z refer = tt
  clause_signed [] [] (t ∷ ts) z refer = absurd refer
  clause_signed [] (k ∷ ks) ts z refer = absurd z
  clause_signed (r ∷ rs) [] ts z refer = absurd z
  clause_signed (r ∷ rs) (k ∷ ks) [] z refer = absurd refer
  clause_signed (r ∷ rs) (k ∷ ks) (t ∷ ts) z refer = (z.0 t refer.0, clause_signed rs ks ts z.1 refer.1)

  clauses_signed : (premises : List (Bor (List ℕ))) (signed : List (Vec SignedTerm)) (ps : List (List Term)) → AreListsOf (IsSignedOf s v) premises signed
      → ReferToClauses s v premises ps → AllZip (AllZip (StandsForSigned s v)) (clauses_of signed) ps
  clauses_signed [] [] [] z refer = tt
  clauses_signed [] [] (p ∷ ps) z refer = absurd refer
  clauses_signed [] (c ∷ cs) ps z refer = absurd z
  clauses_signed (r ∷ rs) [] ps z refer = absurd z
  clauses_signed (r ∷ rs) (c ∷ cs) [] z refer = absurd refer
  clauses_signed (r ∷ rs) (c ∷ cs) (p ∷ ps) z refer = (clause_signed r.now c.items p z.0 refer.0, clauses_signed rs cs ps z.1 refer.1)

  pivot_signed : (p : ℕ × Bool) (k : SignedTerm × SignedTerm) (q : Term × Bool) → TakeAway s v p k → IsPivotOf s v p q
      → Both (StandsForSigned s v) k (sides_of q)
  pivot_signed p k q takes is =
      subst (λ (b : Bool). Both (StandsForSigned s v) k (sides_of (q.0, b))) is.truth (takes q.0 is.term)

  pivots_signed : (pivots : List (ℕ × Bool)) (signed : List (SignedTerm × SignedTerm)) (qs : List (Term × Bool))
      → AllZip (TakeAway s v) pivots signed → AllZip (IsPivotOf s v) pivots qs → AllZip (Both (StandsForSigned s v)) signed (map sides_of qs)
  pivots_signed [] [] [] z is = tt
  pivots_signed [] [] (q ∷ qs) z is = absurd is
  pivots_signed [] (k ∷ ks) qs z is = absurd z
  pivots_signed (p ∷ ps) [] qs z is = absurd z
  pivots_signed (p ∷ ps) (k ∷ ks) [] z is = absurd is
  pivots_signed (p ∷ ps) (k ∷ ks) (q ∷ qs) z is = (pivot_signed p k q z.0 is.0, pivots_signed ps ks qs z.1 is.1)

-- what is told of the chain of terms with signs is told of that of the terms
pub strictly_tells : (s : Table) (v : TermsView) → KeepsAtomsApart (RefersTo s v)
    → (premises : List (Bor (List ℕ))) (pivots : List (ℕ × Bool)) (clause : List ℕ) (clauses : List (Vec SignedTerm)) (taken : List (SignedTerm × SignedTerm))
    (goal : List SignedTerm) (ps : List (List Term)) (qs : List (Term × Bool)) (ts : List Term)
    → AreListsOf (IsSignedOf s v) premises clauses → AllZip (TakeAway s v) pivots taken → AllZip (IsSignedOf s v) clause goal
    → ReferToClauses s v premises ps → AllZip (IsPivotOf s v) pivots qs → ReferToAll s v clause ts
    → JoinAll taken (clauses_of clauses) goal ↔ ResolvesStrictly qs ps ts
strictly_tells s v one premises pivots clause clauses taken goal ps qs ts zc zt zg rp rq rc =
    all_carried (StandsForSigned s v) (signed_apart s v one) (clauses_of clauses) taken goal ps (map sides_of qs) ts
    (clauses_signed s v premises clauses ps zc rp) (pivots_signed s v pivots taken qs zt rq) (clause_signed s v clause goal ts zg rc)
