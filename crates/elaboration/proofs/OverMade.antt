-- What is made for a command of a proof over a vocabulary is over it.
use Rattle.std.proofs.Common.{◌≡◌, ◌<◌, ◌⊎◌, inl, inr, ℕ, zero, suc, Bool, List, [], ◌∷◌, ◌++◌, flat_map, slice_get, Some, refl, sym, ap, subst, Contains}
use Rattle.std.specs.List.{AllByRecursion}
use Rattle.std.proofs.lemmas.List.Elements.{Contains-append_left, Contains-append_right}
use Rattle.pair_pool.specs.Views.{IsOneToOne}
use Rattle.sym_table.specs.Table.{Table, IsTable}
use Rattle.term_model.proofs.Lists.{contains_cases, contains_head, contains_later, contains_none, terms_of-list_of}
use Rattle.term_model.specs.Flips.{equality, EqualUpToFlips, AllEqualUpToFlips, same, operations, calls, flipped, none, each}
use Rattle.term_model.specs.Terms.{Var, Term, numeral, variable, operation, call, let_in, Terms, no_terms, term, terms_of, list_of, not_of}
use Rattle.term_pool.proofs.TermLemmas.{equal_where}
use Rattle.term_pool.specs.Reading.{arguments_of}
use Rattle.term_pool.specs.Views.{TermsView, RefersTo}
use Rattle.rule_model.specs.Contexts.{images}
use Rattle.rule_model.specs.Reading.{clause_at, premises_at}
use Rattle.rule_model.specs.Replacement.{Replacement}
use Rattle.rule_model.specs.Substitution.{put_in, AreClosed}
use Rattle.elaboration_laws.specs.StrictBlocks.{AnchorsStand}
use Rattle.elaborator.specs.Sources.{own_anchors}
use Rattle.readable_proofs.specs.Names.{Vocabulary}
use Rattle.readable_proofs.specs.TermsOver.{IsTermOver, AreTermsOver}
use Rattle.equality_steps.specs.declared.site.Site.{Site}
use Rattle.flip_steps.specs.Forms.{IsFormOf, AreFormsOf}
use Rattle.flip_steps.specs.Stages.{StandsBefore, IsStage, itself, refilled, formed as stage_formed, IsMadeFrom}
use Rattle.flip_steps.specs.Stages.{IsMadeFor as IsMadeForTerm, stage, equated as stages_equated}
use Rattle.flip_steps.specs.Subterms.{IsWithin, whole, argument, with_arguments}
use Rattle.equality_blocks.specs.Commands.{IsLiteralOfCommand, clause_of_command}
use Rattle.equality_blocks.specs.Counts.{IsRootOf, literal as root_literal, asserted as root_asserted, side as root_side}
use Rattle.equality_blocks.specs.Made.{IsMadeForPair, left, right, equated as pair_equated, turned as pair_turned, exchanged}
use Rattle.equality_blocks.specs.Made.{IsStatedFor, paired, literal, formed, IsMadeFor, stated, denied, apart}
use Rattle.equality_blocks.specs.Pairs.{AreAssumed, AreConcluded, AreEquated, AreImplied, AreLinkedBy, AreMatched, AreOrdered, ArePaired, IsPutIn}
use Rattle.equality_blocks.specs.Pairs.{equated, implied, assumed, put_in_one, put_in_both, linked, arguments, outer, inner, reversed, turned}

-- of the law of `flip_steps`
abbrev pub FormsAreEqual : Type 0
FormsAreEqual = (s : Table) (v : TermsView) (t f : Term) → IsFormOf (StandsBefore s v) t f → EqualUpToFlips t f

-- of the law of `readable_proofs`
abbrev pub PutInIsOver : Type 0
PutInIsOver =
    (n : Vocabulary) (z : Replacement) (t : Term) → AreClosed z → AllByRecursion (λ b. IsTermOver n b.1) z → IsTermOver n t → IsTermOver n (put_in z t)

module _ (n : Vocabulary) where
  -- terms that are equal up to flips have the same functions, and the same lets
  mutual
    flips_over : (t u : Term) → EqualUpToFlips t u → IsTermOver n t → IsTermOver n u
    flips_over _ _ (same t) h = h
    flips_over _ _ (operations op ts us all) h = all_over ts us all h
    flips_over _ _ (calls f ts us all) h = (h.0, all_over ts us all h.1)
    flips_over _ _ (flipped a b c d one other) h = (flips_over b c other h.1.0, (flips_over a d one h.0, tt))

    all_over : (ts us : Terms) → AllEqualUpToFlips ts us → AreTermsOver n ts → AreTermsOver n us
    all_over _ _ none h = tt
    all_over _ _ (each t u ts us one rest) h = (flips_over t u one h.0, all_over ts us rest h.1)

  mutual
    flips_back : (t u : Term) → EqualUpToFlips t u → IsTermOver n u → IsTermOver n t
    flips_back _ _ (same t) h = h
    flips_back _ _ (operations op ts us all) h = all_back ts us all h
    flips_back _ _ (calls f ts us all) h = (h.0, all_back ts us all h.1)
    flips_back _ _ (flipped a b c d one other) h = (flips_back a d one h.1.0, (flips_back b c other h.0, tt))

    all_back : (ts us : Terms) → AllEqualUpToFlips ts us → AreTermsOver n us → AreTermsOver n ts
    all_back _ _ none h = tt
    all_back _ _ (each t u ts us one rest) h = (flips_back t u one h.0, all_back ts us rest h.1)

  among_over : (ts : Terms) (a : Term) → Contains (list_of ts) a → AreTermsOver n ts → IsTermOver n a
  among_over no_terms a has h = absurd (contains_none a has)
  among_over (term t ts) a has h = elim (contains_cases t a (list_of ts) has) [
    | inl is ↦ subst (IsTermOver n) is h.0
    | inr later ↦ among_over ts a later h.1
  ]

  argument_over : (t a : Term) → Contains (arguments_of t) a → IsTermOver n t → IsTermOver n a
  argument_over (numeral k) a has h = absurd (contains_none a has)
  argument_over (variable x) a has h = absurd (contains_none a has)
  argument_over (operation op ts) a has h = among_over ts a has h
  argument_over (call f ts) a has h = among_over ts a has h.1
  argument_over (let_in bs t) a has h = absurd (contains_none a has)

  within_over : (t u : Term) → IsWithin t u → IsTermOver n t → IsTermOver n u
  within_over t _ whole h = h
  within_over t _ (argument u a within has) h = argument_over u a has (within_over t u within h)

  equality_over : (a b : Term) → IsTermOver n a → IsTermOver n b → IsTermOver n (equality a b)
  equality_over a b h k = (h, (k, tt))

  denial_over : (t : Term) → IsTermOver n t → IsTermOver n (not_of t)
  denial_over t h = (h, tt)

  module _ (law : FormsAreEqual) (s : Table) (v : TermsView) where
    forms_over : (ts us : Terms) → AreFormsOf (StandsBefore s v) ts us → AreTermsOver n ts → AreTermsOver n us
    forms_over no_terms us e h = subst (AreTermsOver n) (sym e) tt
    forms_over (term t ts) no_terms e h = absurd e
    forms_over (term t ts) (term u us) e h = (flips_over t u (law s v t u e.0) h.0, forms_over ts us e.1 h.1)

    refilled_over : (t : Term) (us : Terms) → AreFormsOf (StandsBefore s v) (terms_of (arguments_of t)) us → IsTermOver n t → IsTermOver n (with_arguments t us)
    refilled_over (numeral k) us f h = h
    refilled_over (variable x) us f h = h
    refilled_over (operation op ts) us f h =
        forms_over ts us (subst (λ xs. AreFormsOf (StandsBefore s v) xs us) (terms_of-list_of ts) f) h
    refilled_over (call g ts) us f h =
        (h.0, forms_over ts us (subst (λ xs. AreFormsOf (StandsBefore s v) xs us) (terms_of-list_of ts) f) h.1)
    refilled_over (let_in bs t) us f h = h

    stage_over : (t x : Term) → IsStage s v t x → IsTermOver n t → IsTermOver n x
    stage_over t _ itself h = h
    stage_over t _ (refilled us f) h = refilled_over t us f h
    stage_over t _ (stage_formed f is) h = flips_over t f (law s v t f is) h

    for_term_over : (t x : Term) → IsMadeForTerm s v t x → IsTermOver n t → IsTermOver n x
    for_term_over t _ (stage x k) h = stage_over t x k h
    for_term_over t _ (stages_equated x y k l) h = equality_over x y (stage_over t x k h) (stage_over t y l h)

    module _ (table : IsTable s) (known : IsOneToOne v.pass) where
      one_over : (r : ℕ) (t u : Term) → RefersTo s v r t → RefersTo s v r u → IsTermOver n t → IsTermOver n u
      one_over r t u h k over = subst (IsTermOver n) ((equal_where s v table known r r t u h k).0 refl) over

      from_over : (root : ℕ) (t x : Term) → RefersTo s v root t → IsTermOver n t → IsMadeFrom s v root x → IsTermOver n x
      from_over root t x refers h m =
          let whole_over = one_over root t m.stands.whole refers m.stands.whole_refers h in
          let here = within_over m.stands.whole m.stands.term m.stands.within whole_over in
          for_term_over m.made.term x m.made.made (one_over m.from m.stands.term m.made.term m.stands.refers m.made.refers here)

  for_pair_over : (t u x : Term) → IsTermOver n t → IsTermOver n u → IsMadeForPair t u x → IsTermOver n x
  for_pair_over t u _ h k left = h
  for_pair_over t u _ h k right = k
  for_pair_over t u _ h k pair_equated = equality_over t u h k
  for_pair_over t u _ h k pair_turned = equality_over u t k h
  for_pair_over t u _ h k exchanged = equality_over (equality t u) (equality u t) (equality_over t u h k) (equality_over u t k h)

  at_place : (xs : List Term) (k : ℕ) (x : Term) → slice_get xs k ≡ Some x → Contains xs x
  at_place [] k x e = absurd (cc)
  at_place (y ∷ xs) zero x e = subst (Contains (y ∷ xs)) (some_one y x e) (contains_head y xs)
    where
      some_one : (a b : Term) → ◌≡◌ (Some a) (Some b) → a ≡ b
      some_one a b f = cc
  at_place (y ∷ xs) (suc k) x e = contains_later y x xs (at_place xs k x e)

  -- the literals of the command, and what the open anchors put in, are over the vocabulary
  module _ (law : FormsAreEqual) (puts : PutInIsOver) (p : Site) (v : TermsView) (table : IsTable p.symbols.now) (known : IsOneToOne v.pass)
      (literals : (t : Term) → IsLiteralOfCommand p v t → IsTermOver n t)
      (anchors_over : (anchors : List (List (Var × Term))) → AnchorsStand p.symbols.now v (own_anchors p.proof.now p.command) anchors →
      AreClosed (images anchors) × AllByRecursion (λ b. IsTermOver n b.1) (images anchors)) where
    abbrev pub AreOver : Term → Term → Type 0
    AreOver t u = IsTermOver n t × IsTermOver n u

    equated_over : (t u : Term) → AreEquated p v t u → AreOver t u
    equated_over t u (inl h) = let o = literals (equality t u) h in (o.0, o.1.0)
    equated_over t u (inr h) = let o = literals (not_of (equality t u)) h in (o.0.0, o.0.1.0)

    of_clause : (r : ℕ) (t : Term) → Contains (clause_of_command p) r → RefersTo p.symbols.now v r t → IsTermOver n t
    of_clause r t has refers =
        literals t
        (record {
          reference = r;
          among = Contains-append_left (clause_of_command p) (flat_map (clause_at p.proof.now) (premises_at p.proof.now p.command)) r has;
          refers = refers;
        })

    at_end : (before : List ℕ) (x y : ℕ) → clause_of_command p ≡ before ++ x ∷ y ∷ [] → Contains (clause_of_command p) x × Contains (clause_of_command p) y
    at_end before x y e = (
      subst (λ rs. Contains rs x) (sym e) (Contains-append_right before (x ∷ y ∷ []) x (contains_head x (y ∷ []))),
      subst (λ rs. Contains rs y) (sym e) (Contains-append_right before (x ∷ y ∷ []) y (contains_later x y (y ∷ []) (contains_head y []))),
    )

    implied_over : (t u : Term) → AreImplied p v t u → AreOver t u
    implied_over t u h =
        let both : Contains (clause_of_command p) h.denied × Contains (clause_of_command p) h.given =
        elim h.clause [ inl e ↦ at_end h.before h.denied h.given e | inr e ↦ (let f = at_end h.before h.given h.denied e in (f.1, f.0)) ] in
        let one = of_clause h.denied (not_of t) both.0 h.denied_refers in
        (one.0, of_clause h.given u both.1 h.given_refers)

    assumed_over : (t u : Term) → AreAssumed p v t u → AreOver t u
    assumed_over t u h =
        let first = h.first in
        let other = of_clause first.assumed u (subst (λ rs. Contains rs first.assumed) (sym first.clause) (contains_head first.assumed [])) first.assumed_refers in
        let one = flips_back first.term u first.equal other in
        (subst (IsTermOver n) ((equal_where p.symbols.now v table known h.reference h.reference first.term t first.refers h.refers).0 refl) one, other)

    put_in_over : (t u : Term) → IsPutIn p v t u → AreOver t u
    put_in_over t u h =
        let one : IsTermOver n t = elim h.side [ inl e ↦ (equated_over t h.other e).0 | inr e ↦ (equated_over h.other t e).1 ] in
        let both = anchors_over h.anchors h.anchors_stand in
        (one, subst (IsTermOver n) (sym h.is) (puts n (images h.anchors) t both.0 both.1 one))

    linked_over : (t u : Term) → AreLinkedBy p v t u → AreOver t u
    linked_over t u (equated h) = equated_over t u h
    linked_over t u (implied h) = implied_over t u h
    linked_over t u (assumed h) = assumed_over t u h
    linked_over t u (put_in_one h) = put_in_over t u h
    linked_over t u (put_in_both h) = ((put_in_over h.left t h.left_put_in).1, (put_in_over h.right u h.right_put_in).1)

    concluded_over : (t u : Term) → AreConcluded p v t u → AreOver t u
    concluded_over t u h =
        let there = subst (λ rs. Contains rs h.reference) (sym h.clause)
        (Contains-append_right h.before (h.reference ∷ []) h.reference (contains_head h.reference [])) in
        let o = of_clause h.reference (equality t u) there h.refers in
        (o.0, o.1.0)

    matched_over : (t u : Term) → AreMatched p v t u → AreOver t u
    matched_over t u (inl h) = concluded_over t u h
    matched_over t u (inr h) = implied_over t u h

    ordered_over : (t u : Term) → AreOrdered p v t u → AreOver t u
    ordered_over _ _ (linked t u h) = linked_over t u h
    ordered_over _ _ (arguments t u x y h k) =
        let o = matched_over t u h in (
          argument_over t x (at_place (arguments_of t) k.place x k.left) o.0,
          argument_over u y (at_place (arguments_of u) k.place y k.right) o.1,
        )
    ordered_over _ _ (outer a b c d h) = let o = matched_over (equality a b) (equality c d) h in (o.0.0, o.1.1.0)
    ordered_over _ _ (inner a b c d h) = let o = matched_over (equality a b) (equality c d) h in (o.0.1.0, o.1.0)
    ordered_over _ _ (reversed a b c d h) = let o = matched_over (equality a b) (equality c d) h in (o.0, equality_over b a o.0.1.0 o.0.0)
    ordered_over _ _ (turned a b c d h) = let o = matched_over (equality a b) (equality c d) h in (equality_over b a o.0.1.0 o.0.0, o.1)

    paired_over : (t u : Term) → ArePaired p v t u → AreOver t u
    paired_over t u (inl h) = ordered_over t u h
    paired_over t u (inr h) = let o = ordered_over u t h in (o.1, o.0)

    root_over : (root : ℕ) (x : Term) → IsRootOf p v root → IsMadeFrom p.symbols.now v root x → IsTermOver n x
    root_over root x (root_literal among) made =
        let t = made.stands.whole in
        from_over law p.symbols.now v table known root t x made.stands.whole_refers
        (literals t (record { reference = root; among = among; refers = made.stands.whole_refers })) made
    root_over root x (root_asserted u first) made =
        from_over law p.symbols.now v table known root first.term x first.refers
        (assumed_over first.term u (record { reference = root; first = first; refers = first.refers })).0 made
    root_over root x (root_side t u put refers) made = from_over law p.symbols.now v table known root u x refers (put_in_over t u put).1 made

    stated_over : (x : Term) → IsStatedFor p v x → IsTermOver n x
    stated_over _ (paired t u x h k) = let o = paired_over t u h in for_pair_over t u x o.0 o.1 k
    stated_over _ (literal x h) = literals x h
    stated_over _ (formed root x h k) = root_over root x h k

    pub made_over : (x : Term) → IsMadeFor p v x → IsTermOver n x
    made_over _ (stated x h) = stated_over x h
    made_over _ (denied t u h) = denial_over t (paired_over t u h).0
    made_over _ (apart t u h) = let o = paired_over t u h in denial_over (equality t u) (equality_over t u o.0 o.1)
