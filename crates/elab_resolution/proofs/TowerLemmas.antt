-- The terms of a tower, and what calls that make one keep and place.
use Rattle.std.proofs.Common.{◌≡◌, ◌≢◌, ◌⊎◌, inl, inr, ◌+◌, ◌-◌, ◌<◌, ◌≤◌, ℕ, List, [], length, Option, Some, None, refl, sym, ◌∙◌, ap, subst, arith}
use Rattle.sym_table.specs.Table.{Table}
use Rattle.term_model.specs.Terms.{Term, not_of}
use Rattle.term_pool.specs.Nots.{negated}
use Rattle.term_pool.specs.Views.{TermsView, KeepsTerms, RefersTo, ReferToAll}
use Rattle.term_pool.proofs.References.{AreOne}
use Rattle.elab_resolution.specs.Counted.{IsBare, top_in}
use Rattle.elab_resolution.specs.Levels.{AreLevels, HasLevels, IsLevelAbove, nots_of_number, numbered}
use Rattle.elab_resolution.specs.Numbered.{AreAllSpelled, AreTowersOf, HasTower, IsNumbering, KeepsNumbers, number_in, reference_of}
use Rattle.elab_resolution.specs.Spellings.{IsNearTo}
use Rattle.elab_resolution.specs.declared.numbering.Numbering.{Numbering}
use Rattle.elab_resolution.specs.declared.counting.Counted.{Counted}
use Rattle.elab_resolution.proofs.LevelLemmas.{bare_number, tower_stays, tower_terms}
use Rattle.elab_resolution.proofs.NumberLemmas.{reference_stays, refers_at, refers_later, sizes}
use Rattle.std.proofs.lemmas.List.{get_or_append_left}

pub keeps_itself : (v : TermsView) → KeepsTerms v v
keeps_itself v = record { pool = refl; pass = record { places = refl; shares = refl; grows = λ r t h. h; sees = λ r a b h. h } }

pub keeps_through : (u v w : TermsView) → KeepsTerms u v → KeepsTerms v w → KeepsTerms u w
keeps_through u v w h k = record {
  pool = k.pool ∙ h.pool;
  pass = record {
    places = k.pass.places ∙ h.pass.places;
    shares = k.pass.shares ∙ h.pass.shares;
    grows = λ r t e. k.pass.grows r t (h.pass.grows r t e);
    sees = λ r a b e. k.pass.sees r a b (h.pass.sees r a b e);
  };
}

module _ {s : Table} {v : TermsView} {n : Numbering} (h : IsNumbering s v n) (one : AreOne s v) where
  pub start_is : (k r : ℕ) (t : Term) → k < length n.nots.items → reference_of n.refs.items k ≡ r → RefersTo s v r t → numbered h.terms k ≡ t
  start_is k r t below is refers = (one (reference_of n.refs.items k) r (numbered h.terms k) t (refers_at h k below) refers).0 is

  -- the references of a tower stand for the negations of its bare term
  pub tower_refers : (k height r : ℕ) (t : Term) → HasLevels n.nots.items k height → reference_of n.refs.items k ≡ r → RefersTo s v r t
      → (j : ℕ) → j ≤ height → RefersTo s v (reference_of n.refs.items (k + j)) (negated j t)
  tower_refers k height r t tower is refers j within =
      let below : k < length n.nots.items = let b = (tower 0 (omega arith)).0 in omega arith in
      let there = refers_at h (k + j) (tower j within).0 in
      subst (RefersTo s v (reference_of n.refs.items (k + j)))
      (tower_terms n.nots.items h.terms h.levels k height tower j within ∙ ap (negated j) (start_is k r t below is refers)) there

  -- a bare term that has a number has a tower
  pub tower_found : (tops : ℕ → Option ℕ) → AreTowersOf tops n → (r : ℕ) → ((t u : Term) → RefersTo s v r t → t ≢ not_of u)
      → (k : ℕ) → number_in n r ≡ Some k → HasTower n r (top_in tops r + 3)
  tower_found tops towers r bare k is =
      let there = h.found r k is in
      let below : k < length n.nots.items = let b = there.0 in let z = sizes h in omega arith in
      let none : (u : Term) → numbered h.terms k ≢ not_of u =
      λ u. bare (numbered h.terms k) u (subst (λ q. RefersTo s v q (numbered h.terms k)) there.1 (refers_at h k below)) in
      record {
        number = k;
        is = there.1;
        levels = subst (λ q. HasLevels n.nots.items k (top_in tops q + 3)) there.1 (towers k below (bare_number n.nots.items h.terms h.levels k below none));
      }

-- where numbers are added for one tower
module _ (s : Table) (v w : TermsView) (old new : Numbering) (a : IsNumbering s v old) (b : IsNumbering s w new) (kept : KeepsNumbers old new)
    (keeps : KeepsTerms v w)
    (bare height : ℕ) (here : reference_of new.refs.items (length old.nots.items) ≡ bare)
    (more : length new.nots.items ≡ length old.nots.items + height + 1) (levels : HasLevels new.nots.items (length old.nots.items) height) where
  nots_stay : (k : ℕ) → k < length old.nots.items → nots_of_number new.nots.items k ≡ nots_of_number old.nots.items k
  nots_stay k below = ap (λ ns. nots_of_number ns k) kept.nots ∙ get_or_append_left old.nots.items kept.more_nots 0 k below

  -- each number is an old one, or one of the tower
  where_is : (k : ℕ) → k < length new.nots.items → (k < length old.nots.items) ⊎ ((j : ℕ) × (j ≤ height) × (k ≡ length old.nots.items + j))
  where_is k below = go (k - length old.nots.items) refl
    where
      go : (j : ℕ) → k - length old.nots.items ≡ j → (k < length old.nots.items) ⊎ ((j : ℕ) × (j ≤ height) × (k ≡ length old.nots.items + j))
      go j e = elim (either k (length old.nots.items)) [
        | inl less ↦ inl less
        | inr over ↦ inr (j, omega arith, omega arith)
      ]
        where
          either : (i m : ℕ) → (i < m) ⊎ (m ≤ i)
          either i m = grind arith

  pub towers_more : (tops : ℕ → Option ℕ) → height ≡ top_in tops bare + 3 → AreTowersOf tops old → AreTowersOf tops new
  towers_more tops high towers k below none = elim (where_is k below) [
    | inl less ↦
        let before = towers k less (sym (nots_stay k less) ∙ none) in
        let ref = reference_stays old new kept k (let z = sizes a in omega arith) in
        rw (kept.nots, ref) (tower_stays old.nots.items kept.more_nots k (top_in tops (reference_of old.refs.items k) + 3) before)
    | inr (j, within, is) ↦
        let zero : j ≡ 0 = sym (levels j within).1 ∙ (ap (nots_of_number new.nots.items) (sym is) ∙ none) in
        let at : length old.nots.items ≡ k = omega arith in
        let to : height ≡ top_in tops (reference_of new.refs.items k) + 3 =
        high ∙ ap (λ q. top_in tops q + 3) (sym here ∙ ap (reference_of new.refs.items) at) in
        subst (λ i. HasLevels new.nots.items i (top_in tops (reference_of new.refs.items k) + 3)) at
        (subst (HasLevels new.nots.items (length old.nots.items)) to levels)
  ]

  pub spelled_more : (roots : List Term) (t : Term) → AreOne s w → RefersTo s v bare t → AreAllSpelled s v roots old
      → ((u : Term) → IsLevelAbove t height u → IsNearTo roots u) → AreAllSpelled s w roots new
  spelled_more roots t one refers spelled kinds k below u stands =
      elim (where_is k (let z = sizes b in omega arith)) [
        | inl less ↦
            let at = refers_at a k less in
            let ref = reference_stays old new kept k (let z = sizes a in omega arith) in
            let there = refers_later s v w (reference_of old.refs.items k) (numbered a.terms k) keeps at in
            let same : numbered a.terms k ≡ u = (one (reference_of old.refs.items k) (reference_of new.refs.items k) (numbered a.terms k) u there stands).0
            (sym ref) in
            subst (IsNearTo roots) same (spelled k (let z = sizes a in omega arith) (numbered a.terms k) at)
        | inr (j, within, is) ↦
            let there = tower_refers b one (length old.nots.items) height bare t levels here (refers_later s v w bare t keeps refers) j within in
            let same : negated j t ≡ u = (one (reference_of new.refs.items (length old.nots.items + j)) (reference_of new.refs.items k) (negated j t) u
            there stands).0
            (ap (reference_of new.refs.items) (sym is)) in
            kinds u (record { nots = j; within = within; is = sym same })
      ]

-- no numbers yet
levels_none : AreLevels [] []
levels_none = record {
  size = refl;
  first = refl;
  next = λ k below. absurd (omega arith);
  bare = λ k below. absurd (omega arith);
  negation = λ k below. absurd (omega arith);
  one = λ j k below. absurd (omega arith);
}

none_some : (k : ℕ) → None ≡ Some k → ⊥
none_some k e = cc

pub numbering_none : (s : Table) (v : TermsView) (n : Numbering) → n.nots.items ≡ [] → n.refs.items ≡ [] → ((r : ℕ) → number_in n r ≡ None) → IsNumbering s v n
numbering_none s v n nots refs numbers = record {
  terms = [];
  refer = subst (λ rs. ReferToAll s v rs []) (sym refs) tt;
  levels = subst (λ ns. AreLevels ns []) (sym nots) levels_none;
  found = λ r k e. absurd (none_some k (sym (numbers r) ∙ e));
  finds = λ k below. absurd (omega (arith, ap length refs));
}

pub bare_later : (s : Table) (v w : TermsView) (x : Counted) → KeepsTerms v w → AreOne s w → IsBare s v x → IsBare s w x
bare_later s v w x keeps one bare = record { known = record { means = t; refers = later }; none = none }
  where
    t : Term
    t = bare.known.means

    later : RefersTo s w x.bare t
    later = refers_later s v w x.bare t keeps bare.known.refers

    none : (u y : Term) → RefersTo s w x.bare u → u ≢ not_of y
    none u y refers e = bare.none t y bare.known.refers ((one x.bare x.bare t u later refers).0 refl ∙ e)

pub tower_kept : (s : Table) (v : TermsView) (a b : Numbering) → IsNumbering s v a → KeepsNumbers a b → (r height : ℕ) → HasTower a r height
    → HasTower b r height
tower_kept s v a b h kept r height tower = record {
  number = tower.number;
  is = reference_stays a b kept tower.number (let z = sizes h in let b = (tower.levels 0 (omega arith)).0 in omega arith) ∙ tower.is;
  levels = subst (λ ns. HasLevels ns tower.number height) (sym kept.nots) (tower_stays a.nots.items kept.more_nots tower.number height tower.levels);
}
