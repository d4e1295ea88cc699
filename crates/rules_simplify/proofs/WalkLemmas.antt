-- Chains that join the premises of nested implications by `and`.
use Rattle.std.proofs.Common.{◌≡◌, ◌≢◌, ◌↔◌, ◌⊎◌, inl, inr, ◌<◌, ℕ, List, [], ◌∷◌, ◌++◌, Bool, false, IsTrue, refl, sym, ap, ◌∙◌, subst, arith}
use Rattle.sym_table.specs.Table.{Table, IsTable}
use Rattle.term_model.specs.declared.symbols.Op.{Op}
use Rattle.term_model.specs.Terms.{Term}
use Rattle.term_pool.specs.Decoding.{HasTermsAt}
use Rattle.term_pool.specs.Views.{TermsView, RefersTo, ReferToAll}
use Rattle.term_pool.proofs.References.{AreOne}
use Rattle.rule_model.specs.Rewriting.{IsReached}
use Rattle.rule_model.specs.Simplify.{bool_simplify}
use Rattle.schema_match.proofs.ReferLemmas.{refer_append}
use Rattle.rules_simplify.specs.declared.conjoining.FromConjunction.{FromConjunction}
use Rattle.rules_simplify.specs.Chains.{heaviness, all_heaviness, terms_at}
use Rattle.rules_simplify.specs.Conjoined.{AreOperands, conjunction, implication_of, conjoined, IsFrom}
use Rattle.rules_simplify.proofs.ConjoinedLemmas.{reached_farther, conjoined_next, none_from, conjoined_last, lighter_conclusion}
use Rattle.rules_simplify.proofs.WeightLemmas.{terms_are}

-- The walk has come to a conclusion: what is reached from the first term is what is reached from the implication from the
-- premises so far to this conclusion.
pub record IsWalked (s : Table) (v : TermsView) (from : FromConjunction) (items : List ℕ) (conclusion : ℕ) (t u : Term) : Type 0 where
  pub first : Term
  pub first_refers : RefersTo s v from.first first
  pub others : List Term
  pub others_refer : ReferToAll s v items others
  pub front : Term
  pub last : Term
  pub joined : conjoined first others ≡ conjunction front last
  pub here : Term
  pub refers : RefersTo s v conclusion here
  pub same : IsReached bool_simplify t u ↔ IsReached bool_simplify (implication_of (conjunction front last) here) u

pub walk_starts : (s : Table) (v : TermsView) (from : FromConjunction) (t u : Term) → IsFrom s v from t → (items old : List ℕ) → old ≡ [] → items ≡ old ++ from.second ∷ [] → IsWalked s v from items from.conclusion t u
walk_starts s v from t u is items old none pushed =
    let e = is.is in
    record {
      first = is.first;
      first_refers = is.first_refers;
      others = is.second ∷ [];
      others_refer = subst (λ (rs : List ℕ). ReferToAll s v rs (is.second ∷ [])) (sym (pushed ∙ ap (λ (rs : List ℕ). rs ++ from.second ∷ []) none)) (is.second_refers, tt);
      front = is.first;
      last = is.second;
      joined = refl;
      here = is.conclusion;
      refers = is.conclusion_refers;
      same = (λ h. subst (λ w. IsReached bool_simplify w u) e h, λ h. subst (λ w. IsReached bool_simplify w u) (sym e) h);
    }

-- nothing but implications is reached
pub only_implications : (s : Table) (v : TermsView) (from : FromConjunction) (t u : Term) → IsFrom s v from t → ((x y : Term) → u ≢ implication_of x y) → IsTrue false ↔ IsReached bool_simplify t u
only_implications s v from t u is other = (
  λ e. absurd cc,
  λ h. (let far = reached_farther is.first is.second is.conclusion t u h is.is in absurd (other far.premise far.rest far.is)),
)

conclusions : (x y z w : Term) → implication_of x y ≡ implication_of z w → y ≡ w
conclusions x y z w e = cc

premises_of : (x y z w : Term) → implication_of x y ≡ implication_of z w → x ≡ z
premises_of x y z w e = cc

module _ (s : Table) (v : TermsView) (from : FromConjunction) (items : List ℕ) (conclusion : ℕ) (t u : Term) (walk : IsWalked s v from items conclusion t u) where
  -- the conclusion is no implication
  pub walk_ends : ((w x y : Term) → RefersTo s v conclusion w → w ≢ implication_of x y) → IsTrue false ↔ IsReached bool_simplify t u
  walk_ends other = (
    λ e. absurd cc,
    λ h. absurd (none_from walk.front walk.last walk.here u (λ b c. other walk.here b c walk.refers) (walk.same.0 h)),
  )

  module _ (one : AreOne s v) (p : ℕ × ℕ) (are : AreOperands s v Op.Implies p walk.here) (new : List ℕ) (pushed : new ≡ items ++ p.0 ∷ []) (q : ℕ × ℕ) (right : AreOperands s v Op.Implies q u) where
    -- what the step makes
    abbrev made : Term
    made = implication_of (conjunction (conjunction walk.front walk.last) are.first) are.second

    abbrev all_others : List Term
    all_others = walk.others ++ are.first ∷ []

    all_joined : conjoined walk.first all_others ≡ conjunction (conjunction walk.front walk.last) are.first
    all_joined = conjoined_last walk.first walk.others are.first ∙ ap (λ w. conjunction w are.first) walk.joined

    all_refer : ReferToAll s v new all_others
    all_refer =
        subst (λ (rs : List ℕ). ReferToAll s v rs all_others) (sym pushed)
        (refer_append s v items (p.0 ∷ []) walk.others (are.first ∷ []) walk.others_refer (are.first_refers, tt))

    next : IsReached bool_simplify t u ↔ ((u ≡ made) ⊎ IsReached bool_simplify made u)
    next =
        let step = conjoined_next walk.front walk.last are.first are.second u in
        let at = λ (w : Term) (r : IsReached bool_simplify (implication_of (conjunction walk.front walk.last) w) u) (e : w ≡ implication_of are.first are.second).
        subst (λ x. IsReached bool_simplify (implication_of (conjunction walk.front walk.last) x) u) e r in (
          λ h. step.0 (at walk.here (walk.same.0 h) are.is),
          λ c. walk.same.1 (subst (λ x. IsReached bool_simplify (implication_of (conjunction walk.front walk.last) x) u) (sym are.is) (step.1 c)),
        )

    -- the conclusion of what is made is that of the other side: it is reached now or never
    pub walk_tells : (b : Bool) → p.1 ≡ q.1 → ((w x : Term) (us : List Term) → RefersTo s v from.first w → ReferToAll s v new us → RefersTo s v q.0 x → IsTrue b ↔ (x ≡ conjoined w us)) → IsTrue b ↔ IsReached bool_simplify t u
    walk_tells b same test =
        let told = test walk.first right.first all_others walk.first_refers all_refer right.first_refers in
        let end = (one p.1 q.1 are.second right.second are.second_refers right.second_refers).0 same in (
          λ e.
              (let premise = told.0 e ∙ all_joined in
              next.1 (inl (right.is ∙ (ap (λ x. implication_of x right.second) premise ∙ ap (λ x. implication_of (conjunction (conjunction walk.front walk.last) are.first) x) (sym end))))),
          λ h. elim (next.0 h) [
            | inl e ↦ told.1 (premises_of right.first right.second (conjunction (conjunction walk.front walk.last) are.first) are.second (sym right.is ∙ e) ∙ sym all_joined)
            | inr more ↦ absurd (
                let far = reached_farther (conjunction walk.front walk.last) are.first are.second made u more refl in
                let same_end : right.second ≡ far.rest = conclusions right.first right.second far.premise far.rest (sym right.is ∙ far.is) in
                let falls : heaviness far.rest < heaviness are.second = far.lighter in
                let weights : heaviness far.rest ≡ heaviness are.second = ap heaviness (sym (end ∙ same_end)) in
                omega (arith, falls, weights)
                )
          ],
        )

    -- otherwise the walk goes on
    pub walk_goes : (p.1 ≡ q.1 → ⊥) → IsWalked s v from new p.1 t u
    walk_goes other = record {
      first = walk.first;
      first_refers = walk.first_refers;
      others = all_others;
      others_refer = all_refer;
      front = conjunction walk.front walk.last;
      last = are.first;
      joined = all_joined;
      here = are.second;
      refers = are.second_refers;
      same = (
        λ h. elim (next.0 h) [
          | inl e ↦ absurd (other ((one p.1 q.1 are.second right.second are.second_refers right.second_refers).1
              (sym (conclusions right.first right.second (conjunction (conjunction walk.front walk.last) are.first) are.second (sym right.is ∙ e)))))
          | inr more ↦ more
        ],
        λ h. next.1 (inr h),
      );
    }

-- how heavy a term is by its reference
abbrev pub heavy_at : Table → TermsView → ℕ → ℕ
heavy_at s v r = all_heaviness (terms_at s v (r ∷ []))

heavy_is : (s : Table) (v : TermsView) → IsTable s → HasTermsAt v → (r : ℕ) (t : Term) → RefersTo s v r t → heavy_at s v r ≡ heaviness t
heavy_is s v table terms r t refers =
    let e = ap all_heaviness (terms_are s v table terms (r ∷ []) (t ∷ []) (refers, tt)) in
    omega (arith, e)

pub conclusion_falls : (s : Table) (v : TermsView) → IsTable s → HasTermsAt v → (r : ℕ) (t : Term) (p : ℕ × ℕ) → RefersTo s v r t → AreOperands s v Op.Implies p t → heavy_at s v p.1 < heavy_at s v r
conclusion_falls s v table terms r t p refers are =
    let whole = heavy_is s v table terms r t refers in
    let part = heavy_is s v table terms p.1 are.second are.second_refers in
    let falls = lighter_conclusion are.first are.second t are.is in
    omega (arith, whole, part, falls)
