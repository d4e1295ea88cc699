-- A literal and its negation in a clause.
use Rattle.std.proofs.Common.{◌≡◌, ◌≢◌, ◌↔◌, inl, inr, ℕ, ◌+◌, ◌<◌, ◌≤◌, List, [], ◌∷◌, length, get_or, Bool, false, IsTrue, Contains, refl, sym, ◌∙◌, ap, subst, arith}
use Rattle.std.proofs.lemmas.Bool.{cases_eq}
use Rattle.std.proofs.lemmas.List.{get_or_default}
use Rattle.std.proofs.lemmas.List.Sorted.{Contains-permutation, IsPermutation-sym}
use Rattle.sym_table.specs.Table.{Table}
use Rattle.term_model.specs.declared.symbols.Op.{Op}
use Rattle.term_model.specs.Terms.{Term, numeral, operation, no_terms, not_of}
use Rattle.term_pool.specs.Views.{TermsView, RefersTo, ReferToAll}
use Rattle.term_pool.proofs.References.{AreOne}
use Rattle.rule_model.specs.Clausal.{IsTautology}
use Rattle.schema_match.specs.declared.signs.Sign.TheVariants.{Negation}
use Rattle.rules_clausal.specs.Changes.{HasOpposites, NegatesOne}
use Rattle.term_parts.specs.Parts.{IsOver, StandsUnder}
use Rattle.rules_clausal.specs.Sorting.{IsInOrder}
use Rattle.schema_match.proofs.ArgumentLemmas.{one_term}
use Rattle.schema_match.proofs.Counts.{none}
use Rattle.schema_match.proofs.OverLemmas.{over_term}
use Rattle.schema_match.proofs.ReferLemmas.{contains_terms, contains_references, refer_length, refer_at}

abbrev some_term : Term
some_term = numeral 0

module _ (s : Table) (v : TermsView) (one : AreOne s v) where
  -- the term under a `not` is searched
  pub negates_searched : (sorted : List ℕ) (a : ℕ) (t : Term) (b : Bool) → StandsUnder s v a t → IsTrue b ↔ Contains sorted a → IsTrue b ↔ NegatesOne s v sorted t
  negates_searched sorted a t b under test = (
    λ e. record { reference = a; among = test.0 e; means = under.inner; refers = under.refers; is = under.is },
    λ h.
        (let same = one_term Negation under.inner h.means (sym under.is ∙ h.is) in
        test.1 (subst (Contains sorted) (sym ((one a h.reference under.inner h.means under.refers h.refers).1 same)) h.among)),
  )

  pub negates_none : (sorted : List ℕ) (t : Term) → ((u : Term) → t ≢ not_of u) → IsTrue false ↔ NegatesOne s v sorted t
  negates_none sorted t none = (λ e. absurd cc, λ h. absurd (none h.means h.is))

  module _ (clause sorted : List ℕ) (ts : List Term) (refer : ReferToAll s v clause ts) (order : IsInOrder clause sorted) where
    -- none up to a place is the negation of another
    abbrev pub NoneTo : ℕ → Type 0
    NoneTo i = (k : ℕ) (t : Term) → k < i → get_or ts k some_term ≡ not_of t → Contains ts t → ⊥

    literal_at : (i r : ℕ) → i < length clause → r ≡ get_or clause i r → RefersTo s v r (get_or ts i some_term)
    literal_at i r below is = subst (λ q. RefersTo s v q (get_or ts i some_term)) (sym is) (refer_at s v clause ts refer i r some_term below)

    pub opposite_there : (i r : ℕ) (b : Bool) → i < length clause → r ≡ get_or clause i r → ((t : Term) → RefersTo s v r t → IsTrue b ↔ NegatesOne s v sorted t) → IsTrue b → HasOpposites ts
    opposite_there i r b below is test holds =
        let h = (test (get_or ts i some_term) (literal_at i r below is)).0 holds in
        let there = Contains-permutation sorted clause h.reference (IsPermutation-sym clause sorted order.moved) h.among in
        let within : i < length ts = rw (← refer_length s v clause ts refer) below in record {
          literal = h.means;
          there = contains_terms s v one clause ts h.reference h.means refer h.refers there;
          negation = (i, within, get_or_default ts i (not_of h.means) some_term within ∙ h.is);
        }

    pub none_more : (i r : ℕ) (b : Bool) → i < length clause → r ≡ get_or clause i r → ((t : Term) → RefersTo s v r t → IsTrue b ↔ NegatesOne s v sorted t) → b ≡ false → NoneTo i → NoneTo (i + 1)
    none_more i r b below is test fails so_far k t within e c =
        elim (cases_eq k i) [
          | inl here ↦ at_end (subst (λ j. get_or ts j some_term ≡ not_of t) here e)
          | inr before ↦ so_far k t (omega (arith, within, before)) e c
        ]
      where
        found : (q : ℕ) → RefersTo s v q t → Contains clause q → get_or ts i some_term ≡ not_of t → ⊥
        found q refers there here =
            (let holds = (test (get_or ts i some_term) (literal_at i r below is)).1 (
            record { reference = q; among = Contains-permutation clause sorted q order.moved there; means = t; refers = refers; is = here }
            ) in
            cc)

        at_end : get_or ts i some_term ≡ not_of t → ⊥
        at_end here = go c
          where
            go : Contains ts t → ⊥
            go (j, there, is_t) =
                let q = get_or clause j 0 in
                let refers : RefersTo s v q t = subst (RefersTo s v q) is_t (refer_at s v clause ts refer j 0 t (rw (refer_length s v clause ts refer) there)) in
                found q refers (contains_references s v one clause ts q t refer refers (j, there, is_t)) here

    pub none_at_all : (i : ℕ) → length clause ≤ i → NoneTo i → IsTrue false ↔ HasOpposites ts
    none_at_all i end none = (λ e. absurd cc, λ h. absurd (go h.literal h.there h.negation))
      where
        go : (t : Term) → Contains ts t → Contains ts (not_of t) → ⊥
        go t c (k, below, is) =
            none k t (let many = refer_length s v clause ts refer in omega (arith, below, end, many)) (get_or_default ts k some_term (not_of t) below ∙ is) c

module _ (s : Table) (v : TermsView) where
  -- the clause `true`
  true_is : (t : Term) → IsOver Op.True 0 t → t ≡ operation Op.True no_terms
  true_is t h = let here = over_term Op.True 0 t h in here.1 ∙ ap (operation Op.True) (none here.0 here.2)

  pub many_are_not_true : (clause : List ℕ) (ps ts : List Term) → length clause ≢ 1 → ReferToAll s v clause ts → IsTrue false ↔ IsTautology ps ts
  many_are_not_true clause ps ts many refer =
      (λ e. absurd cc, λ h. absurd (many (refer_length s v clause ts refer ∙ ap length h.constant)))

  pub other_is_not_true : (clause : List ℕ) (r : ℕ) (ps ts : List Term) → clause ≡ r ∷ [] → ReferToAll s v clause ts → ((t : Term) → RefersTo s v r t → ¬ IsOver Op.True 0 t) → IsTrue false ↔ IsTautology ps ts
  other_is_not_true clause r ps ts is refer other = go ts (subst (λ rs. ReferToAll s v rs ts) is refer)
    where
      go : (ts : List Term) → ReferToAll s v (r ∷ []) ts → IsTrue false ↔ IsTautology ps ts
      go [] h = absurd h
      go (t ∷ []) h = (λ e. absurd cc, λ i. absurd (let same : t ≡ operation Op.True no_terms = (let e = i.constant in cc) in other t h.0 (rw same (refl, refl))))
      go (t ∷ u ∷ us) h = absurd h.1

  pub tautology_is : (clause : List ℕ) (r : ℕ) (ps ts : List Term) (b : Bool) → clause ≡ r ∷ [] → ReferToAll s v clause ts → ((t : Term) → RefersTo s v r t → IsOver Op.True 0 t) → IsTrue b ↔ HasOpposites ps → IsTrue b ↔ IsTautology ps ts
  tautology_is clause r ps ts b is refer over test = go ts (subst (λ rs. ReferToAll s v rs ts) is refer)
    where
      go : (ts : List Term) → ReferToAll s v (r ∷ []) ts → IsTrue b ↔ IsTautology ps ts
      go [] h = absurd h
      go (t ∷ []) h = (
        λ e.
            (let o = test.0 e in
            record { literal = o.literal; there = o.there; negation = o.negation; constant = ap (λ x. x ∷ []) (true_is t (over t h.0)) }),
        λ i. test.1 (record { literal = i.literal; there = i.there; negation = i.negation }),
      )
      go (t ∷ u ∷ us) h = absurd h.1
