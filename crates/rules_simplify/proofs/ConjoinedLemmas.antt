-- Rows of bool_simplify whose right sides may have parts that have no cell.
use Rattle.std.proofs.Common.{◌≡◌, ◌≢◌, ◌↔◌, ◌⊎◌, inl, inr, ◌<◌, ℕ, List, [], ◌∷◌, ◌++◌, refl, ap, subst, arith}
use Rattle.sym_table.specs.Table.{Table}
use Rattle.term_model.specs.Terms.{Term, not_of}
use Rattle.term_pool.specs.Views.{TermsView, RefersTo, ReferToAll}
use Rattle.rule_model.specs.declared.letter.Letter.{Letter}
use Rattle.rule_model.specs.Rewriting.{IsFirstFit, IsReached, once, again}
use Rattle.rule_model.specs.Simplify.{bool_simplify}
use Rattle.rules_simplify.specs.Chains.{heaviness}
use Rattle.rules_simplify.specs.Conjoined.{conjunction, implication_of, conjoined}
use Rattle.rules_simplify.proofs.ChainLemmas.{reached_none, reached_next}

-- what the first row that fits makes of an implication from an `and`
pub record IsConjoinedOnce (x y z u : Term) : Type 0 where
  pub premise : Term
  pub rest : Term
  pub splits : z ≡ implication_of premise rest
  pub makes : u ≡ implication_of (conjunction (conjunction x y) premise) rest

pub first_conjoins : (x y z u : Term) → IsFirstFit bool_simplify (implication_of (conjunction x y) z) u → IsConjoinedOnce x y z u
first_conjoins x y z u (inl r) = absurd (let e = r.from in cc)
first_conjoins x y z u (inr (_, inl r)) = absurd (let e = r.from in cc)
first_conjoins x y z u (inr (_, inr (_, inl r))) = absurd (let e = r.from in cc)
first_conjoins x y z u (inr (_, inr (_, inr (_, inl r)))) =
    let e : implication_of (conjunction x y) z ≡ implication_of (r.terms Letter.A) (implication_of (r.terms Letter.B) (r.terms Letter.C)) = r.from in
    let to : u ≡ implication_of (conjunction (r.terms Letter.A) (r.terms Letter.B)) (r.terms Letter.C) = r.to in
    record { premise = r.terms Letter.B; rest = r.terms Letter.C; splits = cc; makes = cc }
first_conjoins x y z u (inr (_, inr (_, inr (_, inr (_, inl r))))) = absurd (let e = r.from in cc)
first_conjoins x y z u (inr (_, inr (_, inr (_, inr (_, inr (_, inl r)))))) = absurd (let e = r.from in cc)
first_conjoins x y z u (inr (_, inr (_, inr (_, inr (_, inr (_, inr (_, inl r))))))) = absurd (let e = r.from in cc)
first_conjoins x y z u (inr (_, inr (_, inr (_, inr (_, inr (_, inr (_, inr (_, h)))))))) = absurd h

abbrev letters_of : Term → Term → Term → Letter → Term
letters_of x y z Letter.A = x
letters_of x y z Letter.B = y
letters_of x y z Letter.C = z
letters_of x y z Letter.D = z

pub conjoins_first : (x y b c : Term) → IsFirstFit bool_simplify (implication_of (conjunction x y) (implication_of b c)) (implication_of (conjunction (conjunction x y) b) c)
conjoins_first x y b c =
    inr (
      (λ h. let e = h.1.from in absurd cc),
      inr (
        (λ h. let e = h.1.from in absurd cc),
        inr (
          (λ h. let e = h.1.from in absurd cc),
          inl (record { terms = letters_of (conjunction x y) b c; from = refl; to = refl; passes = tt }),
        ),
      ),
    )

-- `(and x (not y))` fits no row but where x is an implication from that negation
pub negation_fits_none : (x y u : Term) → ((z : Term) → x ≢ implication_of (not_of y) z) → ¬ IsFirstFit bool_simplify (conjunction x (not_of y)) u
negation_fits_none x y u other (inl r) = absurd (let e = r.from in cc)
negation_fits_none x y u other (inr (_, inl r)) = absurd (let e = r.from in cc)
negation_fits_none x y u other (inr (_, inr (_, inl r))) = absurd (let e = r.from in cc)
negation_fits_none x y u other (inr (_, inr (_, inr (_, inl r)))) = absurd (let e = r.from in cc)
negation_fits_none x y u other (inr (_, inr (_, inr (_, inr (_, inl r))))) = absurd (let e = r.from in cc)
negation_fits_none x y u other (inr (_, inr (_, inr (_, inr (_, inr (_, inl r)))))) = absurd (let e = r.from in cc)
negation_fits_none x y u other (inr (_, inr (_, inr (_, inr (_, inr (_, inr (_, inl r))))))) =
    let e : conjunction x (not_of y) ≡ conjunction (implication_of (r.terms Letter.A) (r.terms Letter.B)) (r.terms Letter.A) = r.from in
    other (r.terms Letter.B) cc
negation_fits_none x y u other (inr (_, inr (_, inr (_, inr (_, inr (_, inr (_, inr (_, h)))))))) = absurd h

-- each term that is reached from such an implication is one whose conclusion is lighter
pub record IsFarther (z u : Term) : Type 0 where
  pub premise : Term
  pub rest : Term
  pub is : u ≡ implication_of premise rest
  pub lighter : heaviness rest < heaviness z

pub lighter_conclusion : (b c z : Term) → z ≡ implication_of b c → heaviness c < heaviness z
lighter_conclusion b c z e = rw e (omega arith)

pub reached_farther : (x y z t u : Term) → IsReached bool_simplify t u → t ≡ implication_of (conjunction x y) z → IsFarther z u
reached_farther x y z t u (once t' u' h) is =
    let step = first_conjoins x y z u (subst (λ w. IsFirstFit bool_simplify w u) is h) in
    record {
      premise = conjunction (conjunction x y) step.premise;
      rest = step.rest;
      is = step.makes;
      lighter = lighter_conclusion step.premise step.rest z step.splits;
    }
reached_farther x y z t u (again t' w u' h more) is =
    let step = first_conjoins x y z w (subst (λ q. IsFirstFit bool_simplify q w) is h) in
    let later = reached_farther (conjunction x y) step.premise step.rest w u more step.makes in
    let falls = lighter_conclusion step.premise step.rest z step.splits in
    let after = later.lighter in
    record { premise = later.premise; rest = later.rest; is = later.is; lighter = omega (arith, falls, after) }

-- one step from an implication whose conclusion is one
module _ (x y b c u : Term) where
  step_first : IsFirstFit bool_simplify (implication_of (conjunction x y) (implication_of b c)) (implication_of (conjunction (conjunction x y) b) c)
  step_first = conjoins_first x y b c

  step_only : (w : Term) → IsFirstFit bool_simplify (implication_of (conjunction x y) (implication_of b c)) w → w ≡ implication_of (conjunction (conjunction x y) b) c
  step_only w h =
      let step = first_conjoins x y (implication_of b c) w h in
      let splits = step.splits in
      let makes = step.makes in
      cc

  pub conjoined_next : IsReached bool_simplify (implication_of (conjunction x y) (implication_of b c)) u ↔ ((u ≡ implication_of (conjunction (conjunction x y) b) c) ⊎ IsReached bool_simplify (implication_of (conjunction (conjunction x y) b) c) u)
  conjoined_next = reached_next bool_simplify (implication_of (conjunction x y) (implication_of b c)) (implication_of (conjunction (conjunction x y) b) c) u step_first step_only

pub none_from : (x y z u : Term) → ((b c : Term) → z ≢ implication_of b c) → ¬ IsReached bool_simplify (implication_of (conjunction x y) z) u
none_from x y z u other =
    reached_none bool_simplify (implication_of (conjunction x y) z) u (λ w h. let step = first_conjoins x y z w h in other step.premise step.rest step.splits)

-- terms that are joined one after the other
pub conjoined_last : (t : Term) (us : List Term) (u : Term) → conjoined t (us ++ u ∷ []) ≡ conjunction (conjoined t us) u
conjoined_last t [] u = refl
conjoined_last t (w ∷ us) u = conjoined_last (conjunction t w) us u

pub record LastOf (s : Table) (v : TermsView) (rs : List ℕ) (r : ℕ) (ts : List Term) : Type 0 where
  pub front : List Term
  pub last : Term
  pub is : ts ≡ front ++ last ∷ []
  pub front_refer : ReferToAll s v rs front
  pub last_refers : RefersTo s v r last

pub last_of : (s : Table) (v : TermsView) (rs : List ℕ) (r : ℕ) (ts : List Term) → ReferToAll s v (rs ++ r ∷ []) ts → LastOf s v rs r ts
last_of s v [] r [] h = absurd h
last_of s v [] r (t ∷ []) h = record { front = []; last = t; is = refl; front_refer = tt; last_refers = h.0 }
last_of s v [] r (t ∷ u ∷ ts) h = absurd h.1
last_of s v (q ∷ rs) r [] h = absurd h
last_of s v (q ∷ rs) r (t ∷ ts) h =
    let more = last_of s v rs r ts h.1 in
    record {
      front = t ∷ more.front;
      last = more.last;
      is = ap (λ (us : List Term). t ∷ us) more.is;
      front_refer = (h.0, more.front_refer);
      last_refers = more.last_refers;
    }
