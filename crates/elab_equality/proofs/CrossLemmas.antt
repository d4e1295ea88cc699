-- Private. Whether arguments are linked place by place or crosswise, by tests of their places.
use Rattle.std.proofs.Common.{◌≡◌, ◌≢◌, ◌⊎◌, ◌↔◌, inl, inr, ℕ, Bool, true, false, IsTrue, List, [], ◌∷◌, Result, Ok, Err, IfOk, refl, subst}
use Rattle.std.specs.Bool.{OnFalse, OnTrue}
use Rattle.std.specs.List.{AllZip}
use Rattle.pair_pool.specs.Views.{IsOneToOne}
use Rattle.sym_table.specs.Table.{IsTable}
use Rattle.term_model.specs.Flips.{EqualUpToFlips}
use Rattle.term_model.specs.Terms.{Term}
use Rattle.term_pool.specs.Views.{TermsView, IsTerm, RefersTo, ReferToAll}
use Rattle.rule_model.specs.Congruence.{AreCrossed, IsLinked}
use Rattle.rule_model.specs.Congruence.{AreSides as AreSidesOfPremise}
use Rattle.equality_steps.specs.declared.site.Site.{Site}
use Rattle.equality_ways.specs.declared.pairs.Used.{Used}
use Rattle.equality_ways.specs.declared.table.Table.{Table as WayTable}
use Rattle.equality_ways.specs.Ways.{AreEnds, LeadsTo}
use Rattle.elab_equality.specs.Linked.{ArePremises, IsGiven}
use Rattle.elab_equality.specs.Matching.{AreCrossedArguments, AreMatchedArguments}
use Rattle.elab_equality.proofs.GivenLemmas.{found_sides, none_sides}

-- as many references as terms
pub refer_two : (p : Site) (v : TermsView) (rs : List ℕ) (t u : Term) → ReferToAll p.symbols.now v rs (t ∷ u ∷ []) → (a : ℕ) × (b : ℕ) × (rs ≡ a ∷ b ∷ [])
refer_two p v [] t u h = absurd h
refer_two p v (a ∷ []) t u h = absurd h.1
refer_two p v (a ∷ (b ∷ [])) t u h = (a, b, refl)
refer_two p v (a ∷ (b ∷ (c ∷ rs))) t u h = absurd h.1.1

module _ (p : Site) (v : TermsView) (lefts rights : List ℕ) where
  pub short_left : ((a b : ℕ) → lefts ≢ a ∷ b ∷ []) → AreMatchedArguments p v lefts rights
  short_left none x = go x.linked
    where
      go : AllZip (IsLinked x.premises) x.ts x.us ⊎ AreCrossed x.head x.premises x.ts x.us → AllZip (IsLinked x.premises) x.ts x.us
      go (inl zipped) = zipped
      go (inr k) = let two = refer_two p v lefts k.a k.b (subst (ReferToAll p.symbols.now v lefts) k.one x.lefts_refer) in absurd (none two.0 two.1 two.2)

  pub short_right : ((a b : ℕ) → rights ≢ a ∷ b ∷ []) → AreMatchedArguments p v lefts rights
  short_right none x = go x.linked
    where
      go : AllZip (IsLinked x.premises) x.ts x.us ⊎ AreCrossed x.head x.premises x.ts x.us → AllZip (IsLinked x.premises) x.ts x.us
      go (inl zipped) = zipped
      go (inr k) = let two = refer_two p v rights k.c k.d (subst (ReferToAll p.symbols.now v rights) k.other x.rights_refer) in absurd (none two.0 two.1 two.2)

-- the items of a list of two
module _ (p : Site) (v : TermsView) (a b : ℕ) where
  pub first_term : (ts : List Term) → ReferToAll p.symbols.now v (a ∷ b ∷ []) ts → IsTerm p.symbols.now v a
  first_term [] h = absurd h
  first_term (t ∷ ts) h = record { means = t; refers = h.0 }

  pub second_term : (ts : List Term) → ReferToAll p.symbols.now v (a ∷ b ∷ []) ts → IsTerm p.symbols.now v b
  second_term [] h = absurd h
  second_term (t ∷ []) h = absurd h.1
  second_term (t ∷ (u ∷ ts)) h = record { means = u; refers = h.1.0 }

-- the references of two are linked, or not
abbrev pub LinkBoth : Site → TermsView → ℕ → ℕ → Type 0
LinkBoth p v a b =
    (ps : List (List Term)) (t u : Term) → ArePremises p v ps → RefersTo p.symbols.now v a t → RefersTo p.symbols.now v b u → IsLinked ps t u

abbrev pub LinkNone : Site → TermsView → ℕ → ℕ → Type 0
LinkNone p v a b =
    (ps : List (List Term)) (t u : Term) → ArePremises p v ps → RefersTo p.symbols.now v a t → RefersTo p.symbols.now v b u → ¬ IsLinked ps t u

-- what the tests of one place say
module _ (p : Site) (v : TermsView) (table : WayTable) (is_table : IsTable p.symbols.now) (one : IsOneToOne v.pass) (given : IsGiven p v table) (a b : ℕ) where
  pub found_linked : (used : Used) → LeadsTo given.sides used a b → LinkBoth p v a b
  found_linked used leads ps t u are left right = inr (found_sides p v table is_table one given used a b leads ps t u are left right)

  abbrev pub TellsFlips : Bool → Type 0
  TellsFlips answer = (t u : Term) → RefersTo p.symbols.now v a t → RefersTo p.symbols.now v b u → IsTrue answer ↔ EqualUpToFlips t u

  pub flips_linked : {E : Type 0} (r : Result Bool E) → IfOk r TellsFlips → IfOk r (λ answer. OnTrue answer (LinkBoth p v a b))
  flips_linked (Err e) h = tt
  flips_linked (Ok true) h = λ ps t u are left right. inl ((h t u left right).0 refl)
  flips_linked (Ok false) h = tt

  pub flips_other : {E : Type 0} (r : Result Bool E) → ¬ AreEnds given.sides a b → IfOk r TellsFlips → IfOk r (λ answer. OnFalse answer (LinkNone p v a b))
  flips_other (Err e) none h = tt
  flips_other (Ok true) none h = tt
  flips_other (Ok false) none h = λ ps t u are left right. go ps t u are left right
    where
      go : (ps : List (List Term)) (t u : Term) → ArePremises p v ps → RefersTo p.symbols.now v a t → RefersTo p.symbols.now v b u
          → EqualUpToFlips t u ⊎ AreSidesOfPremise ps t u → ⊥
      go ps t u are left right (inl flips) = absurd (let clash : false ≡ true = (h t u left right).1 flips in cc)
      go ps t u are left right (inr sides) = none_sides p v table is_table one given a b none ps t u are left right sides

module _ (p : Site) (v : TermsView) (lefts rights : List ℕ) (a b c d : ℕ) (left : lefts ≡ a ∷ b ∷ []) (right : rights ≡ c ∷ d ∷ []) where
  zip_two : (ps : List (List Term)) (ts us : List Term) → ArePremises p v ps → ReferToAll p.symbols.now v (a ∷ b ∷ []) ts → ReferToAll p.symbols.now v (c ∷ d ∷ []) us
      → LinkBoth p v a c → LinkBoth p v b d → AllZip (IsLinked ps) ts us
  zip_two ps [] us are h k one two = absurd h
  zip_two ps (t ∷ []) us are h k one two = absurd h.1
  zip_two ps (t ∷ (w ∷ (z ∷ ts))) us are h k one two = absurd h.1.1
  zip_two ps (t ∷ (w ∷ [])) [] are h k one two = absurd k
  zip_two ps (t ∷ (w ∷ [])) (x ∷ []) are h k one two = absurd k.1
  zip_two ps (t ∷ (w ∷ [])) (x ∷ (y ∷ (z ∷ us))) are h k one two = absurd k.1.1
  zip_two ps (t ∷ (w ∷ [])) (x ∷ (y ∷ [])) are h k one two = (one ps t x are h.0 k.0, (two ps w y are h.1.0 k.1.0, tt))

  pub both_matched : LinkBoth p v a c → LinkBoth p v b d → AreMatchedArguments p v lefts rights
  both_matched one two x =
      zip_two x.premises x.ts x.us x.are (subst (λ rs. ReferToAll p.symbols.now v rs x.ts) left x.lefts_refer)
      (subst (λ rs. ReferToAll p.symbols.now v rs x.us) right x.rights_refer) one two

  not_zip_first : (ps : List (List Term)) (ts us : List Term) → ArePremises p v ps → ReferToAll p.symbols.now v (a ∷ b ∷ []) ts
      → ReferToAll p.symbols.now v (c ∷ d ∷ []) us → LinkNone p v a c → ¬ AllZip (IsLinked ps) ts us
  not_zip_first ps [] us are h k none zipped = absurd h
  not_zip_first ps (t ∷ ts) [] are h k none zipped = absurd k
  not_zip_first ps (t ∷ ts) (x ∷ us) are h k none zipped = none ps t x are h.0 k.0 zipped.0

  not_zip_second : (ps : List (List Term)) (ts us : List Term) → ArePremises p v ps → ReferToAll p.symbols.now v (a ∷ b ∷ []) ts
      → ReferToAll p.symbols.now v (c ∷ d ∷ []) us → LinkNone p v b d → ¬ AllZip (IsLinked ps) ts us
  not_zip_second ps [] us are h k none zipped = absurd h
  not_zip_second ps (t ∷ []) us are h k none zipped = absurd h.1
  not_zip_second ps (t ∷ (w ∷ ts)) [] are h k none zipped = absurd k
  not_zip_second ps (t ∷ (w ∷ ts)) (x ∷ []) are h k none zipped = absurd k.1
  not_zip_second ps (t ∷ (w ∷ ts)) (x ∷ (y ∷ us)) are h k none zipped = none ps w y are h.1.0 k.1.0 zipped.1.0

  pub first_crossed : LinkNone p v a c → AreCrossedArguments p v lefts rights
  first_crossed none x = go x.linked
    where
      go : AllZip (IsLinked x.premises) x.ts x.us ⊎ AreCrossed x.head x.premises x.ts x.us → AreCrossed x.head x.premises x.ts x.us
      go (inr k) = k
      go (inl zipped) =
          absurd (not_zip_first x.premises x.ts x.us x.are (subst (λ rs. ReferToAll p.symbols.now v rs x.ts) left x.lefts_refer)
          (subst (λ rs. ReferToAll p.symbols.now v rs x.us) right x.rights_refer) none zipped)

  pub second_crossed : LinkNone p v b d → AreCrossedArguments p v lefts rights
  second_crossed none x = go x.linked
    where
      go : AllZip (IsLinked x.premises) x.ts x.us ⊎ AreCrossed x.head x.premises x.ts x.us → AreCrossed x.head x.premises x.ts x.us
      go (inr k) = k
      go (inl zipped) =
          absurd (not_zip_second x.premises x.ts x.us x.are (subst (λ rs. ReferToAll p.symbols.now v rs x.ts) left x.lefts_refer)
          (subst (λ rs. ReferToAll p.symbols.now v rs x.us) right x.rights_refer) none zipped)

  -- by a test of the second place
  pub second_matched : (answer : Bool) → LinkBoth p v a c → OnTrue answer (LinkBoth p v b d) → OnTrue answer (AreMatchedArguments p v lefts rights)
  second_matched true one two = both_matched one two
  second_matched false one two = tt

  pub second_other : (answer : Bool) → OnFalse answer (LinkNone p v b d) → OnFalse answer (AreCrossedArguments p v lefts rights)
  second_other true none = tt
  second_other false none = second_crossed none
