-- What a list of arguments comes to under a junction.
use Rattle.std.proofs.Common.{◌≡◌, ◌≢◌, ◌↔◌, inl, inr, ℕ, List, [], ◌∷◌, Bool, true, false, IsTrue, Contains, refl, sym, ap, ◌∙◌, subst}
use Rattle.sym_table.specs.Table.{Table}
use Rattle.term_model.specs.declared.symbols.Op.{Op}
use Rattle.term_model.specs.Terms.{Term, operation, terms_of}
use Rattle.term_pool.specs.Views.{TermsView, RefersTo, ReferToAll}
use Rattle.term_pool.proofs.References.{AreOne}
use Rattle.rule_model.specs.Resolution.{LeavesWithout, IsFirstsOf}
use Rattle.rule_model.specs.Simplify.{StandsAs}
use Rattle.rule_model.proofs.ArgumentLists.{same_arguments}
use Rattle.known_args.proofs.TableLemmas.{firsts_have}
use Rattle.rules_simplify.specs.declared.joins.Junction.{Junction}
use Rattle.rules_simplify.specs.declared.joins.Side.{Side}
use Rattle.rules_simplify.specs.Joins.{constant, AreWithout, AreOnceEach, HasAsArguments, IsShorter, Joins, IsJoined, StandsBy, TellsShorter}
use Rattle.rule_model.proofs.JoinedLists.{leaves_one, firsts_one}
use Rattle.rules_simplify.proofs.ShorterLemmas.{lacks_none, without_terms, once_terms, once_without}

pub told_apart : (b : Bool) → b ≡ true → b ≡ false → ⊥
told_apart b e f = cc

-- by one table references of the same terms are the same
same_references : (s : Table) (v : TermsView) → AreOne s v → (ps qs : List ℕ) (ts : List Term) → ReferToAll s v ps ts → ReferToAll s v qs ts → ps ≡ qs
same_references s v one [] [] ts h k = refl
same_references s v one [] (q ∷ qs) [] h k = absurd k
same_references s v one [] (q ∷ qs) (t ∷ ts) h k = absurd h
same_references s v one (p ∷ ps) qs [] h k = absurd h
same_references s v one (p ∷ ps) [] (t ∷ ts) h k = absurd k
same_references s v one (p ∷ ps) (q ∷ qs) (t ∷ ts) h k =
    let first = (one p q t t h.0 k.0).1 refl in
    let others = same_references s v one ps qs ts h.1 k.1 in
    cc

same_terms : (s : Table) (v : TermsView) → AreOne s v → (ps : List ℕ) (ts us : List Term) → ReferToAll s v ps ts → ReferToAll s v ps us → ts ≡ us
same_terms s v one [] [] [] h k = refl
same_terms s v one [] [] (u ∷ us) h k = absurd k
same_terms s v one [] (t ∷ ts) us h k = absurd h
same_terms s v one (p ∷ ps) [] us h k = absurd h
same_terms s v one (p ∷ ps) (t ∷ ts) [] h k = absurd k
same_terms s v one (p ∷ ps) (t ∷ ts) (u ∷ us) h k =
    let first = (one p p t u h.0 k.0).0 refl in
    let others = same_terms s v one ps ts us h.1 k.1 in
    cc

-- a term is a constant exactly where its reference is the constant's
pub constant_told : (s : Table) (v : TermsView) → AreOne s v → (op : Op) (r k : ℕ) (t : Term) → RefersTo s v r t → RefersTo s v k (constant op) → (told : Bool) → IsTrue told ↔ (r ≡ k) → IsTrue told ↔ (t ≡ constant op)
constant_told s v one op r k t refers here told test =
    let same = one r k t (constant op) refers here in (λ e. same.0 (test.0 e), λ e. test.1 (same.1 e))

-- by references a side stands as a list exactly where its term does
module _ (s : Table) (v : TermsView) (one : AreOne s v) (op : Op) (t : Term) (args : List ℕ) where
  applied_is : HasAsArguments s v op t args → (r : ℕ) (qs : List ℕ) (u : Term) (us : List Term) → ReferToAll s v (r ∷ qs) (u ∷ us) → (args ≡ r ∷ qs) ↔ (t ≡ operation op (terms_of (u ∷ us)))
  applied_is (inl h) r qs u us refer = (
    λ e.
        (let same = same_terms s v one (r ∷ qs) (h.first ∷ h.others) (u ∷ us) (subst (λ (l : List ℕ). ReferToAll s v l (h.first ∷ h.others)) e h.refer) refer in
        h.is ∙ ap (λ (l : List Term). operation op (terms_of l)) same),
    λ e.
        (let same = same_arguments op (h.first ∷ h.others) (u ∷ us) (sym h.is ∙ e) in
        same_references s v one args (r ∷ qs) (u ∷ us) (subst (ReferToAll s v args) same h.refer) refer),
  )
  applied_is (inr (none, empty)) r qs u us refer = (λ e. absurd cc, λ e. absurd (none u us e))

pub stands_by : (s : Table) (v : TermsView) → AreOne s v → (op : Op) (n : ℕ) (neutral : Term) → RefersTo s v n neutral → (side : Side) (t : Term) → RefersTo s v side.term t → HasAsArguments s v op t side.arguments.items → (rs : List ℕ) (ts : List Term) → ReferToAll s v rs ts → StandsBy n side rs ↔ StandsAs op neutral ts t
stands_by s v one op n neutral refers side t right has [] [] refer = one side.term n t neutral right refers
stands_by s v one op n neutral refers side t right has [] (u ∷ ts) refer = absurd refer
stands_by s v one op n neutral refers side t right has (r ∷ rs) [] refer = absurd refer
stands_by s v one op n neutral refers side t right has (r ∷ []) (u ∷ []) refer =
    let itself = one side.term r t u right refer.0 in
    let applied = applied_is s v one op t side.arguments.items has r [] u [] refer in
    (λ h. elim h [ inl e ↦ inl (itself.0 e) | inr e ↦ inr (applied.0 e) ], λ h. elim h [ inl e ↦ inl (itself.1 e) | inr e ↦ inr (applied.1 e) ])
stands_by s v one op n neutral refers side t right has (r ∷ []) (u ∷ w ∷ ts) refer = absurd refer.1
stands_by s v one op n neutral refers side t right has (r ∷ q ∷ rs) (u ∷ []) refer = absurd refer.1
stands_by s v one op n neutral refers side t right has (r ∷ q ∷ rs) (u ∷ w ∷ ts) refer = applied_is s v one op t side.arguments.items has r (q ∷ rs) u (w ∷ ts) refer

-- a list without the neutral constant, without later repeats, and without both
module _ (s : Table) (v : TermsView) (j : Junction) (ts : List Term) (t : Term) where
  abbrev StandsFor : List Term → Type 0
  StandsFor us = StandsAs j.op (constant j.neutral) us t

  pub by_first : (shorter : List ℕ) (h : AreWithout s v (constant j.neutral) ts shorter) → StandsFor h.kept → IsTrue true ↔ IsShorter j ts t
  by_first shorter h stands = (λ e. (h.kept, inl h.is, stands), λ m. refl)

  pub by_second : (single : List ℕ) (h : AreOnceEach s v ts single) → StandsFor h.kept → IsTrue true ↔ IsShorter j ts t
  by_second single h stands = (λ e. (h.kept, inr (inl h.is), stands), λ m. refl)

  module _ (shorter single both : List ℕ) (h : AreWithout s v (constant j.neutral) ts shorter) (k : AreOnceEach s v ts single) (l : AreOnceEach s v h.kept both) where
    pub by_third : (told : Bool) → ¬ StandsFor h.kept → ¬ StandsFor k.kept → IsTrue told ↔ StandsFor l.kept → IsTrue told ↔ IsShorter j ts t
    by_third told first second test = (λ e. (l.kept, inr (inr (h.kept, h.is, l.is)), test.0 e), go)
      where
        go : IsShorter j ts t → IsTrue told
        go (us, inl w, stands) = absurd (first (subst StandsFor (leaves_one (constant j.neutral) ts us h.kept w h.is) stands))
        go (us, inr (inl o), stands) = absurd (second (subst StandsFor (firsts_one [] ts us k.kept o k.is) stands))
        go (us, inr (inr (vs, w, o)), stands) =
            (let same = leaves_one (constant j.neutral) ts vs h.kept w h.is in
            test.1 (subst StandsFor (firsts_one [] h.kept us l.kept (subst (λ (x : List Term). IsFirstsOf [] x us) same o) l.is) stands))

-- the side is what one of the shorter lists stands as, by references
module _ (n : ℕ) (rs : List ℕ) (side : Side) (single : List ℕ) (f : IsFirstsOf [] rs single) where
  pub short_by_second : StandsBy n side single → TellsShorter n rs side true
  short_by_second stands s v j ts t one refers is_side refer right =
      let k = once_terms s v one rs ts refer single f in
      by_second s v j ts t single k ((stands_by s v one j.op n (constant j.neutral) refers side t right (is_side t right) single k.kept k.refer).0 stands)

  module _ (shorter : List ℕ) (w : LeavesWithout n rs shorter) where
    pub short_by_first : StandsBy n side shorter → TellsShorter n rs side true
    short_by_first stands s v j ts t one refers is_side refer right =
        let h = without_terms s v one n (constant j.neutral) refers rs ts refer shorter w in
        by_first s v j ts t shorter h ((stands_by s v one j.op n (constant j.neutral) refers side t right (is_side t right) shorter h.kept h.refer).0 stands)

    pub short_by_third : (both : List ℕ) → LeavesWithout n single both → (told : Bool) → ¬ StandsBy n side shorter → ¬ StandsBy n side single → IsTrue told ↔ StandsBy n side both → TellsShorter n rs side told
    short_by_third both b told first second test s v j ts t one refers is_side refer right =
        let c = constant j.neutral in
        let stands = stands_by s v one j.op n c refers side t right (is_side t right) in
        let h = without_terms s v one n c refers rs ts refer shorter w in
        let k = once_terms s v one rs ts refer single f in
        let m = without_terms s v one n c refers single k.kept k.refer both b in
        let l : AreOnceEach s v h.kept both = record { kept = m.kept; refer = m.refer; is = once_without c ts k.kept m.kept h.kept k.is m.is h.is } in
        let last = stands both m.kept m.refer in
        by_third s v j ts t shorter single both h k l told (λ x. first ((stands shorter h.kept h.refer).1 x)) (λ x. second ((stands single k.kept k.refer).1 x))
        ((λ e. last.0 (test.0 e)), (λ x. test.1 (last.1 x)))

  -- the neutral constant is not among them
  pub short_as_it_is : ¬ Contains rs n → ¬ StandsBy n side single → (told : Bool) → IsTrue told ↔ StandsBy n side rs → TellsShorter n rs side told
  short_as_it_is lacks second true test = short_by_first rs (lacks_none n rs lacks) (test.0 refl)
  short_as_it_is lacks second false test =
      short_by_third rs (lacks_none n rs lacks) single (lacks_none n single (λ there. lacks ((firsts_have rs single n f).0 there))) false
      (λ stands. absurd (let e = test.1 stands in cc)) second ((λ e. absurd cc), (λ stands. absurd (second stands)))

-- the sides of an equality
pub joined_none : (j : Junction) (t u : Term) (told : Bool) → t ≡ constant j.op → IsTrue told ↔ Joins j [] u → IsTrue told ↔ IsJoined j t u
joined_none j t u told is test = (
  λ e. record { arguments = []; is = is; joins = test.0 e },
  λ h. test.1 (subst (λ (l : List Term). Joins j l u) (same_arguments j.op h.arguments [] (sym h.is ∙ is)) h.joins),
)

pub joined_some : (j : Junction) (t u : Term) (us : List Term) (told : Bool) → t ≡ operation j.op (terms_of us) → IsTrue told ↔ Joins j us u → IsTrue told ↔ IsJoined j t u
joined_some j t u us told is test = (
  λ e. record { arguments = us; is = is; joins = test.0 e },
  λ h. test.1 (subst (λ (l : List Term). Joins j l u) (same_arguments j.op h.arguments us (sym h.is ∙ is)) h.joins),
)

pub joined_other : (j : Junction) (t u : Term) → t ≢ constant j.op → ((first : Term) (others : List Term) → t ≢ operation j.op (terms_of (first ∷ others))) → IsTrue false ↔ IsJoined j t u
joined_other j t u none some = (λ e. absurd cc, λ h. absurd (go h.arguments h.is))
  where
    go : (us : List Term) → t ≡ operation j.op (terms_of us) → ⊥
    go [] e = none e
    go (first ∷ others) e = some first others e
