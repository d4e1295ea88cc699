-- Private. Clauses that applications of one head give: that they may be added, and what they owe.
use Rattle.std.proofs.Common.{◌≡◌, ◌≢◌, inl, inr, ℕ, false, List, [], ◌∷◌, ◌++◌, map, zip, Contains, refl, sym, ◌∙◌, ap, subst}
use Rattle.std.specs.List.{AllZip}
use Rattle.std.proofs.lemmas.List.Elements.{All-nil, All-cons, Contains-append_cases, Contains-append_left}
use Rattle.term_model.proofs.Lists.{contains_cases, contains_head, contains_later, contains_none}
use Rattle.term_model.proofs.Zips.{zip_weaken}
use Rattle.term_model.specs.declared.symbols.Op.{Op}
use Rattle.term_model.specs.declared.symbols.Sort.{Sort}
use Rattle.term_model.specs.Flips.{equality}
use Rattle.term_model.specs.Terms.{Term, not_of}
use Rattle.term_pool.proofs.References.{AreOne}
use Rattle.term_pool.specs.Views.{TermsView, KeepsTerms, RefersTo}
use Rattle.proof_store.specs.AddedSteps.{AddedStep}
use Rattle.proof_store.specs.declared.added.Link.{Link}
use Rattle.rule_model.specs.Congruence.{denials, operator}
use Rattle.equality_steps.specs.declared.site.Site.{Site}
use Rattle.equality_steps.specs.Blocks.{Extends}
use Rattle.equality_steps.specs.Denied.{AreApplied, ArePredicates, AreWay, congruent_clause}
use Rattle.equality_steps.specs.Given.{AreTurned}
use Rattle.equality_steps.specs.Links.{LinkEquates, LinkSays}
use Rattle.equality_steps.specs.Sites.{AreSides, IsSideAt}
use Rattle.equality_steps.proofs.SiteLemmas.{equality_fits, sides_turned}
use Rattle.equality_ways.specs.Sides.{ReferToBoth}
use Rattle.equality_blocks.specs.Made.{IsMadeFor, IsStatedFor, apart, paired, stated}
use Rattle.equality_blocks.specs.Made.{equated as pair_equated, right as pair_right}
use Rattle.equality_blocks.specs.Pairs.{ArePaired, reversed, turned}
use Rattle.equality_blocks.proofs.StayLemmas.{made_later, paired_later}
use Rattle.elab_denials.specs.Matching.{left_of, right_of}
use Rattle.elab_denials.specs.Owing.{AreOpposedOn, HasDenial, IsGiven, IsOwed, IsOwing, SaysResolvent}
use Rattle.elab_denials.specs.Stating.{AreStated, AreTurnable, IsExchangeable, IsMadeWay, SaysLed, SaysWith}
use Rattle.elab_denials.specs.Walking.{IsEqualityGiven}
use Rattle.elab_denials.specs.Working.{IsMadeEquality, IsPlaceAt}
use Rattle.elab_denials.proofs.OwingLemmas.{HaveOthers, LinksStay, given_later, left_kept, right_kept}
use Rattle.elab_denials.proofs.WorkLemmas.{later, place_later}

pub zip_parts : (es : List (Term × Term)) → zip (map (λ (e : Term × Term). e.0) es) (map (λ (e : Term × Term). e.1) es) ≡ es
zip_parts [] = refl
zip_parts ((a, b) ∷ es) = ap (λ zs. (a, b) ∷ zs) (zip_parts es)

-- what the denials of some pairs are
module _ (p : Site) (v : TermsView) (one : AreOne p.symbols.now v) where
  place_denied : (q : ℕ × ℕ) (t u : Term) → IsPlaceAt p v q.0 q.1 → RefersTo p.symbols.now v q.0 t → RefersTo p.symbols.now v q.1 u
      → IsMadeFor p v (not_of (equality t u))
  place_denied q t u h l r =
      let first = (one q.0 q.0 h.left t h.left_refers l).0 refl in
      let second = (one q.1 q.1 h.right u h.right_refers r).0 refl in
      subst (λ x. IsMadeFor p v (not_of (equality t x))) second
      (subst (λ x. IsMadeFor p v (not_of (equality x h.right))) first
      (apart h.left h.right h.paired))

  -- each denial is of a pair, and each pair has one
  pub denial_owed : (pairs : List (ℕ × ℕ)) (es : List (Term × Term)) → AllZip (ReferToBoth p.symbols.now v) pairs es
      → ((q : ℕ × ℕ) → Contains pairs q → IsPlaceAt p v q.0 q.1) → (x : Term) → Contains (denials es) x → IsOwed p v pairs x
  denial_owed [] [] h places x has = absurd (contains_none x has)
  denial_owed [] (e ∷ es) h places x has = absurd h
  denial_owed (q ∷ pairs) [] h places x has = absurd h
  denial_owed (q ∷ pairs) (e ∷ es) h places x has = elim (contains_cases (not_of (equality e.0 e.1)) x (denials es) has) [
    | inl here ↦ record {
      pair = q;
      among = contains_head q pairs;
      denies = record { left = e.0; right = e.1; left_refers = h.0.0; right_refers = h.0.1; is = sym here };
      made = subst (IsMadeFor p v) here (place_denied q e.0 e.1 (places q (contains_head q pairs)) h.0.0 h.0.1);
    }
    | inr below ↦
        let rest = denial_owed pairs es h.1 (λ r there. places r (contains_later q r pairs there)) x below in
        record { pair = rest.pair; among = contains_later q rest.pair pairs rest.among; denies = rest.denies; made = rest.made }
  ]

  pub pair_denied : (pairs : List (ℕ × ℕ)) (es : List (Term × Term)) → AllZip (ReferToBoth p.symbols.now v) pairs es
      → (q : ℕ × ℕ) → Contains pairs q → HasDenial p v (denials es) q
  pair_denied [] [] h q has = absurd (contains_none q has)
  pair_denied [] (e ∷ es) h q has = absurd h
  pair_denied (r ∷ pairs) [] h q has = absurd h
  pair_denied (r ∷ pairs) (e ∷ es) h q has = elim (contains_cases r q pairs has) [
    | inl here ↦ record {
      literal = not_of (equality e.0 e.1);
      among = contains_head (not_of (equality e.0 e.1)) (denials es);
      denies = record {
        left = e.0;
        right = e.1;
        left_refers = subst (λ (x : ℕ × ℕ). RefersTo p.symbols.now v x.0 e.0) here h.0.0;
        right_refers = subst (λ (x : ℕ × ℕ). RefersTo p.symbols.now v x.1 e.1) here h.0.1;
        is = refl;
      };
    }
    | inr below ↦
        let rest = pair_denied pairs es h.1 q below in
        record { literal = rest.literal; among = contains_later (not_of (equality e.0 e.1)) rest.literal (denials es) rest.among; denies = rest.denies }
  ]

  -- where the command's clause has the other literals
  pub owing_with : (steps : List AddedStep) (link : Link) (pairs : List (ℕ × ℕ)) (rest : List Term) → SaysWith p v steps link pairs rest
      → ((q : ℕ × ℕ) → Contains pairs q → IsPlaceAt p v q.0 q.1) → ((x : Term) → Contains rest x → IsGiven p v x) → IsOwing p v steps link pairs
  owing_with steps link pairs rest h places given = record {
    clause = denials h.es ++ rest;
    says = h.says;
    each = λ x has. elim (Contains-append_cases (denials h.es) rest x has) [
      | inl owed ↦ inr (denial_owed pairs h.es h.refer places x owed)
      | inr last ↦ inl (given x last)
    ];
    all = λ q has.
        let d = pair_denied pairs h.es h.refer q has in
        record { literal = d.literal; among = Contains-append_left (denials h.es) rest d.literal d.among; denies = d.denies };
  }

  -- the sides at each place
  arguments_fit : (pairs : List (ℕ × ℕ)) (es : List (Term × Term)) → AllZip (ReferToBoth p.symbols.now v) pairs es
      → ((q : ℕ × ℕ) → Contains pairs q → IsPlaceAt p v q.0 q.1)
      → AllZip (AreSides p) (map (λ (e : Term × Term). e.0) es) (map (λ (e : Term × Term). e.1) es)
  arguments_fit [] [] h places = tt
  arguments_fit [] (e ∷ es) h places = absurd h
  arguments_fit (q ∷ pairs) [] h places = absurd h
  arguments_fit (q ∷ pairs) (e ∷ es) h places =
      let place = places q (contains_head q pairs) in (
        subst (AreSides p e.0) ((one q.1 q.1 place.right e.1 place.right_refers h.0.1).0 refl)
            (subst (λ x. AreSides p x place.right) ((one q.0 q.0 place.left e.0 place.left_refers h.0.0).0 refl) place.sides),
        arguments_fit pairs es h.1 (λ r there. places r (contains_later q r pairs there)),
      )

  module _ (a b : ℕ) (pairs : List (ℕ × ℕ)) (h : AreStated p v a b pairs) where
    pub stated_applied : AreApplied p v a b
    stated_applied = record {
      head = h.are_applied.head;
      ts = map (λ (e : Term × Term). e.0) h.are_applied.es;
      us = map (λ (e : Term × Term). e.1) h.are_applied.es;
      some = some_firsts h.are_applied.es h.are_applied.some;
      left_refers = h.are_applied.left_refers;
      right_refers = h.are_applied.right_refers;
      sides = h.sides;
      arguments = arguments_fit pairs h.are_applied.es h.are_applied.refer h.places;
    }
      where
        some_firsts : (es : List (Term × Term)) → es ≢ [] → map (λ (e : Term × Term). e.0) es ≢ []
        some_firsts [] some e = some refl
        some_firsts (x ∷ es) some e = cc

    pub stated_made : (x : Term)
        → Contains (congruent_clause h.are_applied.head (map (λ (e : Term × Term). e.0) h.are_applied.es) (map (λ (e : Term × Term). e.1) h.are_applied.es)) x
        → IsMadeFor p v x
    stated_made x has =
        let whole = equality (left_of h.are_applied.head h.are_applied.es) (right_of h.are_applied.head h.are_applied.es) in
        elim (Contains-append_cases (denials h.are_applied.es) (whole ∷ []) x
        (subst (λ zs. Contains (denials zs ++ whole ∷ []) x) (zip_parts h.are_applied.es) has)) [
          | inl owed ↦ (denial_owed pairs h.are_applied.es h.are_applied.refer h.places x owed).made
          | inr last ↦ elim (contains_cases whole x [] last) [
            | inl here ↦ subst (IsMadeFor p v) here
                (stated whole (paired (left_of h.are_applied.head h.are_applied.es) (right_of h.are_applied.head h.are_applied.es) whole h.paired pair_equated))
            | inr none ↦ absurd (contains_none x none)
          ]
        ]

    pub stated_predicates : h.sides.sort ≡ Sort.Bool → ArePredicates p v a b
    unfolding stated_applied
    stated_predicates e = record {
      applied_are = stated_applied;
      left = subst (λ s. IsSideAt p s (left_of h.are_applied.head h.are_applied.es)) e h.sides.left;
      right = subst (λ s. IsSideAt p s (right_of h.are_applied.head h.are_applied.es)) e h.sides.right;
    }

pub both_later : (p : Site) (v w : TermsView) → KeepsTerms v w → (pairs : List (ℕ × ℕ)) (es : List (Term × Term)) → AllZip (ReferToBoth p.symbols.now v) pairs es
    → AllZip (ReferToBoth p.symbols.now w) pairs es
both_later p v w keeps pairs es h =
    zip_weaken (ReferToBoth p.symbols.now v) (ReferToBoth p.symbols.now w)
    (λ (q : ℕ × ℕ) (e : Term × Term) both. (later p v w keeps q.0 e.0 both.0, later p v w keeps q.1 e.1 both.1)) pairs es h

-- what the step says that states two applications
pub stated_says : (p : Site) (v w : TermsView) → AreOne p.symbols.now v → KeepsTerms v w → (a b : ℕ) (pairs : List (ℕ × ℕ)) (h : AreStated p v a b pairs)
    (steps : List AddedStep) (link : Link) (t u : Term) → RefersTo p.symbols.now v a t → RefersTo p.symbols.now v b u
    → LinkSays p w steps link (congruent_clause h.are_applied.head (map (λ (e : Term × Term). e.0) h.are_applied.es) (map (λ (e : Term × Term). e.1) h.are_applied.es))
    → SaysWith p w steps link pairs (equality t u ∷ [])
stated_says p v w one keeps a b pairs h steps link t u left right says =
    let l = left_of h.are_applied.head h.are_applied.es in
    let r = right_of h.are_applied.head h.are_applied.es in
    record {
      es = h.are_applied.es;
      refer = both_later p v w keeps pairs h.are_applied.es h.are_applied.refer;
      says = subst (λ x. LinkSays p w steps link (denials h.are_applied.es ++ equality t x ∷ [])) ((one b b r u h.are_applied.right_refers right).0 refl)
          (subst (λ x. LinkSays p w steps link (denials h.are_applied.es ++ equality x r ∷ [])) ((one a a l t h.are_applied.left_refers left).0 refl)
          (subst (λ zs. LinkSays p w steps link (denials zs ++ equality l r ∷ [])) (zip_parts h.are_applied.es) says));
    }

-- what goes on being so
pub stated_later : (p : Site) (v w : TermsView) → KeepsTerms v w → (a b : ℕ) (pairs : List (ℕ × ℕ)) → AreStated p v a b pairs → AreStated p w a b pairs
stated_later p v w keeps a b pairs h =
    let l = left_of h.are_applied.head h.are_applied.es in
    let r = right_of h.are_applied.head h.are_applied.es in
    record {
      are_applied = record {
        head = h.are_applied.head;
        es = h.are_applied.es;
        some = h.are_applied.some;
        left_refers = later p v w keeps a l h.are_applied.left_refers;
        right_refers = later p v w keeps b r h.are_applied.right_refers;
        refer = both_later p v w keeps pairs h.are_applied.es h.are_applied.refer;
      };
      places = λ q has. place_later p v w keeps q.0 q.1 (h.places q has);
      sides = h.sides;
      paired = paired_later p v w keeps l r h.paired;
    }

-- a way over two equalities
module _ (p : Site) (v : TermsView) (a b c : ℕ) (h : IsMadeWay p v a b c) where
  pub way_terms : List Term
  way_terms = not_of (equality h.one h.two) ∷ not_of (equality h.two h.three) ∷ equality h.one h.three ∷ []

  pub way_here : AreWay p v (a ∷ b ∷ c ∷ [])
  way_here = record {
    sort = h.sort;
    first = h.one;
    others = h.two ∷ h.three ∷ [];
    refer = (h.one_refers, (h.two_refers, (h.three_refers, tt)));
    some = λ e. cc;
    first_fits = h.one_fits;
    fit = All-cons (IsSideAt p h.sort) h.two (h.three ∷ []) h.two_fits (All-cons (IsSideAt p h.sort) h.three [] h.three_fits (All-nil (IsSideAt p h.sort)));
  }

  pub way_made : (x : Term) → Contains (not_of (equality h.one h.two) ∷ not_of (equality h.two h.three) ∷ equality h.one h.three ∷ []) x → IsMadeFor p v x
  way_made x has = elim (contains_cases (not_of (equality h.one h.two)) x (not_of (equality h.two h.three) ∷ equality h.one h.three ∷ []) has) [
    | inl e ↦ subst (IsMadeFor p v) e (apart h.one h.two h.first)
    | inr more ↦ elim (contains_cases (not_of (equality h.two h.three)) x (equality h.one h.three ∷ []) more) [
      | inl e ↦ subst (IsMadeFor p v) e (apart h.two h.three h.second)
      | inr last ↦ elim (contains_cases (equality h.one h.three) x [] last) [
        | inl e ↦ subst (IsMadeFor p v) e (stated (equality h.one h.three) (paired h.one h.three (equality h.one h.three) h.whole pair_equated))
        | inr none ↦ absurd (contains_none x none)
      ]
    ]
  ]

  module _ (one : AreOne p.symbols.now v) where
    pub way_same : (t u w : Term) → RefersTo p.symbols.now v a t → RefersTo p.symbols.now v b u → RefersTo p.symbols.now v c w
        → (h.one ≡ t) × (h.two ≡ u) × (h.three ≡ w)
    way_same t u w l m r = ((one a a h.one t h.one_refers l).0 refl, (one b b h.two u h.two_refers m).0 refl, (one c c h.three w h.three_refers r).0 refl)

first_same : (a b x y : Term) → not_of (equality a b) ≡ not_of (equality x y) → a ≡ x
first_same a b x y e = cc

-- `(= a b)` leads on
module _ (p : Site) (v w : TermsView) (keeps : KeepsTerms v w) (same : AreOne p.symbols.now v) (old steps : List AddedStep) (links : LinksStay)
    (more : Extends old steps) (a b c : ℕ) (h : IsMadeWay p v a b c) (first link : Link) (equates : LinkEquates p v old first a b)
    (says : LinkSays p w steps link (not_of (equality h.one h.two) ∷ not_of (equality h.two h.three) ∷ equality h.one h.three ∷ [])) where
  way_clause : List Term
  way_clause = not_of (equality h.one h.two) ∷ not_of (equality h.two h.three) ∷ equality h.one h.three ∷ []

  first_says : LinkSays p w steps first (equality h.one h.two ∷ [])
  first_says =
      subst (λ x. LinkSays p w steps first (equality h.one x ∷ [])) ((same b b equates.right h.two equates.right_refers h.two_refers).0 refl)
      (subst (λ x. LinkSays p w steps first (equality x equates.right ∷ [])) ((same a a equates.left h.one equates.left_refers h.one_refers).0 refl)
      (links p v w old steps first (equality equates.left equates.right ∷ []) keeps more equates.says))

  pub led_opposed : AreOpposedOn p w steps link first (a, b)
  led_opposed = record {
    one = h.one;
    other = h.two;
    one_refers = later p v w keeps a h.one h.one_refers;
    other_refers = later p v w keeps b h.two h.two_refers;
    left_clause = not_of (equality h.one h.two) ∷ not_of (equality h.two h.three) ∷ equality h.one h.three ∷ [];
    left_says = says;
    left_has = contains_head (not_of (equality h.one h.two)) (not_of (equality h.two h.three) ∷ equality h.one h.three ∷ []);
    left_made = λ x has. made_later p v w keeps x (way_made p v a b c h x has);
    right_clause = equality h.one h.two ∷ [];
    right_says = first_says;
    right_has = contains_head (equality h.one h.two) [];
    right_made = λ x has. elim (contains_cases (equality h.one h.two) x [] has) [
      | inl e ↦ subst (IsMadeFor p w) e (made_later p v w keeps (equality h.one h.two)
          (stated (equality h.one h.two) (paired h.one h.two (equality h.one h.two) h.first pair_equated)))
      | inr none ↦ absurd (contains_none x none)
    ];
  }

  -- what is left
  pub led_says : HaveOthers → (z : TermsView) (new : List AddedStep) (next : Link)
      → ((ts us : List Term) (t u : Term) → LinkSays p w steps link ts → LinkSays p w steps first us → RefersTo p.symbols.now w a t → RefersTo p.symbols.now w b u
      → SaysResolvent p z new next ts us (equality t u)) → SaysLed p z new next h.one h.two h.three
  led_says others z new next resolvent =
      let r =
      resolvent (not_of (equality h.one h.two) ∷ not_of (equality h.two h.three) ∷ equality h.one h.three ∷ []) (equality h.one h.two ∷ []) h.one h.two says
      first_says (later p v w keeps a h.one h.one_refers) (later p v w keeps b h.two h.two_refers)
      in record {
        clause = r.clause;
        says = r.says;
        has = left_kept (not_of (equality h.one h.two) ∷ not_of (equality h.two h.three) ∷ equality h.one h.three ∷ []) (equality h.one h.two ∷ []) r.clause
            (equality h.one h.two) (not_of (equality h.two h.three)) r.is
            (contains_later (not_of (equality h.one h.two)) (not_of (equality h.two h.three)) (not_of (equality h.two h.three) ∷ equality h.one h.three ∷ [])
            (contains_head (not_of (equality h.two h.three)) (equality h.one h.three ∷ [])))
            (λ e. h.apart (sym (first_same h.two h.three h.one h.two e)));
        each = λ x has. elim (others (not_of (equality h.one h.two) ∷ not_of (equality h.two h.three) ∷ equality h.one h.three ∷ []) (equality h.one h.two ∷ [])
            (equality h.one h.two) false r.clause x r.is has) [
              | inl was ↦ elim (contains_cases (not_of (equality h.one h.two)) x (not_of (equality h.two h.three) ∷ equality h.one h.three ∷ []) was.0) [
                | inl e ↦ absurd (was.1 (sym e))
                | inr below ↦ elim (contains_cases (not_of (equality h.two h.three)) x (equality h.one h.three ∷ []) below) [
                  | inl e ↦ inl (sym e)
                  | inr last ↦ elim (contains_cases (equality h.one h.three) x [] last) [ inl e ↦ inr (sym e) | inr none ↦ absurd (contains_none x none) ]
                ]
              ]
              | inr was ↦ elim (contains_cases (equality h.one h.two) x [] was.0) [ inl e ↦ absurd (was.1 (sym e)) | inr none ↦ absurd (contains_none x none) ]
            ];
      }

-- equalities that are crossed
module _ (p : Site) (v : TermsView) (a b : ℕ) (pairs : List (ℕ × ℕ)) (h : AreTurnable p v a b pairs) where
  pub turnable_exchangeable : (q : ℕ × ℕ) → q ≡ (h.outer.0, h.inner.0) → IsExchangeable p v a q
  turnable_exchangeable q is = record {
    one = h.one;
    two = h.two;
    one_refers = subst (λ (x : ℕ × ℕ). RefersTo p.symbols.now v x.0 h.one) (sym is) h.one_refers;
    two_refers = subst (λ (x : ℕ × ℕ). RefersTo p.symbols.now v x.1 h.two) (sym is) h.two_refers;
    whole_refers = h.left_refers;
    sides = h.left_sides;
    paired = inl (reversed h.one h.two h.three h.four h.matched);
  }

  module _ (w : TermsView) (keeps : KeepsTerms v w) (turn : ℕ) (refers : RefersTo p.symbols.now w turn (equality h.two h.one)) where
    pub turnable_stated : AreStated p w turn b pairs
    turnable_stated = record {
      are_applied = record {
        head = operator Op.Equal;
        es = (h.two, h.three) ∷ (h.one, h.four) ∷ [];
        some = λ e. cc;
        left_refers = refers;
        right_refers = later p v w keeps b (equality h.three h.four) h.right_refers;
        refer = subst (λ qs. AllZip (ReferToBoth p.symbols.now w) qs ((h.two, h.three) ∷ (h.one, h.four) ∷ [])) (sym h.pairs_are) (
          (later p v w keeps h.inner.0 h.two h.two_refers, later p v w keeps h.inner.1 h.three h.three_refers),
          ((later p v w keeps h.outer.0 h.one h.one_refers, later p v w keeps h.outer.1 h.four h.four_refers), tt),
        );
      };
      places = λ q has. place_later p v w keeps q.0 q.1 (h.places q has);
      sides = record {
        sort = Sort.Bool;
        left = equality_fits p h.two h.one (sides_turned p h.one h.two h.left_sides);
        right = equality_fits p h.three h.four h.right_sides;
      };
      paired = paired_later p v w keeps (equality h.two h.one) (equality h.three h.four) (inl (turned h.one h.two h.three h.four h.matched));
    }

    pub turnable_truths : turnable_stated.sides.sort ≡ Sort.Bool
    unfolding turnable_stated
    turnable_truths = refl

    pub turnable_way : IsMadeWay p w a turn b
    turnable_way = record {
      sort = Sort.Bool;
      one = equality h.one h.two;
      two = equality h.two h.one;
      three = equality h.three h.four;
      one_refers = later p v w keeps a (equality h.one h.two) h.left_refers;
      two_refers = refers;
      three_refers = later p v w keeps b (equality h.three h.four) h.right_refers;
      one_fits = equality_fits p h.one h.two h.left_sides;
      two_fits = equality_fits p h.two h.one (sides_turned p h.one h.two h.left_sides);
      three_fits = equality_fits p h.three h.four h.right_sides;
      first = paired_later p v w keeps (equality h.one h.two) (equality h.two h.one) (inl (reversed h.one h.two h.three h.four h.matched));
      second = paired_later p v w keeps (equality h.two h.one) (equality h.three h.four) (inl (turned h.one h.two h.three h.four h.matched));
      whole = paired_later p v w keeps (equality h.one h.two) (equality h.three h.four) h.paired;
      apart = λ e. let is : h.one ≡ h.two = cc in h.apart is;
    }

  -- what is left of the two clauses
  module _ (w : TermsView) (keeps : KeepsTerms v w) (one : AreOne p.symbols.now w) (turn : ℕ) (refers : RefersTo p.symbols.now w turn (equality h.two h.one))
      (steps : List AddedStep) (half second : Link)
      (led : SaysLed p w steps half (equality h.one h.two) (equality h.two h.one) (equality h.three h.four))
      (says : SaysWith p w steps second pairs (equality (equality h.two h.one) (equality h.three h.four) ∷ [])) where
    places_there : (q : ℕ × ℕ) → Contains pairs q → IsPlaceAt p w q.0 q.1
    places_there q has = place_later p v w keeps q.0 q.1 (h.places q has)

    pub turnable_opposed : AreOpposedOn p w steps half second (turn, b)
    turnable_opposed =
        let way = turnable_way w keeps turn refers in
        record {
          one = equality h.two h.one;
          other = equality h.three h.four;
          one_refers = refers;
          other_refers = later p v w keeps b (equality h.three h.four) h.right_refers;
          left_clause = led.clause;
          left_says = led.says;
          left_has = led.has;
          left_made = λ x has. elim (led.each x has) [
            | inl e ↦ subst (IsMadeFor p w) (sym e) (apart (equality h.two h.one) (equality h.three h.four) atom_paired)
            | inr e ↦ subst (IsMadeFor p w) (sym e) (stated (equality (equality h.one h.two) (equality h.three h.four)) whole_stated)
          ];
          right_clause = denials says.es ++ equality (equality h.two h.one) (equality h.three h.four) ∷ [];
          right_says = says.says;
          right_has = last_there (denials says.es);
          right_made = λ x has. elim (Contains-append_cases (denials says.es) (equality (equality h.two h.one) (equality h.three h.four) ∷ []) x has) [
            | inl owed ↦ (denial_owed p w one pairs says.es says.refer places_there x owed).made
            | inr last ↦ elim (contains_cases (equality (equality h.two h.one) (equality h.three h.four)) x [] last) [
              | inl e ↦ subst (IsMadeFor p w) e (stated (equality (equality h.two h.one) (equality h.three h.four)) atom_stated)
              | inr none ↦ absurd (contains_none x none)
            ]
          ];
        }
      where
        atom_paired : ArePaired p w (equality h.two h.one) (equality h.three h.four)
        atom_paired = paired_later p v w keeps (equality h.two h.one) (equality h.three h.four) (inl (turned h.one h.two h.three h.four h.matched))

        atom_stated : IsStatedFor p w (equality (equality h.two h.one) (equality h.three h.four))
        atom_stated =
            paired (equality h.two h.one) (equality h.three h.four) (equality (equality h.two h.one) (equality h.three h.four)) atom_paired pair_equated

        whole_stated : IsStatedFor p w (equality (equality h.one h.two) (equality h.three h.four))
        whole_stated =
            paired (equality h.one h.two) (equality h.three h.four) (equality (equality h.one h.two) (equality h.three h.four))
            (paired_later p v w keeps (equality h.one h.two) (equality h.three h.four) h.paired)
            pair_equated

        last_there : (xs : List Term) → Contains (xs ++ equality (equality h.two h.one) (equality h.three h.four) ∷ [])
            (equality (equality h.two h.one) (equality h.three h.four))
        last_there [] = contains_head (equality (equality h.two h.one) (equality h.three h.four)) []
        last_there (x ∷ xs) =
            contains_later x (equality (equality h.two h.one) (equality h.three h.four)) (xs ++ equality (equality h.two h.one) (equality h.three h.four) ∷ [])
            (last_there xs)

    pub turnable_owing : HaveOthers → IsGiven p v (equality (equality h.one h.two) (equality h.three h.four)) → (z : TermsView) → KeepsTerms w z
        → AreOne p.symbols.now z → (new : List AddedStep) (next : Link)
        → SaysResolvent p z new next led.clause (denials says.es ++ equality (equality h.two h.one) (equality h.three h.four) ∷ [])
        (equality (equality h.two h.one) (equality h.three h.four)) → IsOwing p z new next pairs
    turnable_owing others given z more same new next r = record {
      clause = r.clause;
      says = r.says;
      each = λ x has. elim (others led.clause (denials says.es ++ atom ∷ []) atom false r.clause x r.is has) [
        | inl was ↦ elim (led.each x was.0) [
          | inl e ↦ absurd (was.1 e)
          | inr e ↦ inl (subst (IsGiven p z) (sym e)
              (given_later p w z more (equality (equality h.one h.two) (equality h.three h.four))
              (given_later p v w keeps (equality (equality h.one h.two) (equality h.three h.four)) given)))
        ]
        | inr was ↦ elim (Contains-append_cases (denials says.es) (atom ∷ []) x was.0) [
          | inl owed ↦ inr (denial_owed p z same pairs says.es refer places_then x owed)
          | inr last ↦ elim (contains_cases atom x [] last) [ inl e ↦ absurd (was.1 (sym e)) | inr none ↦ absurd (contains_none x none) ]
        ]
      ];
      all = λ q has.
          let d = pair_denied p z same pairs says.es refer q has in
          record {
            literal = d.literal;
            among = right_kept led.clause (denials says.es ++ atom ∷ []) r.clause atom d.literal r.is
                (Contains-append_left (denials says.es) (atom ∷ []) d.literal d.among)
                (λ e. no_denial d.denies.left d.denies.right (sym d.denies.is ∙ e));
            denies = d.denies;
          };
    }
      where
        atom : Term
        atom = equality (equality h.two h.one) (equality h.three h.four)

        refer : AllZip (ReferToBoth p.symbols.now z) pairs says.es
        refer = both_later p w z more pairs says.es says.refer

        places_then : (q : ℕ × ℕ) → Contains pairs q → IsPlaceAt p z q.0 q.1
        places_then q has = place_later p w z more q.0 q.1 (places_there q has)

        no_denial : (x y : Term) → not_of (equality x y) ≡ atom → ⊥
        no_denial x y e = cc

-- the equality that the command's clause has
pub equality_there : (p : Site) (v : TermsView) → AreOne p.symbols.now v → (q : ℕ × ℕ) (t u : Term) → IsEqualityGiven p v q → RefersTo p.symbols.now v q.0 t
    → RefersTo p.symbols.now v q.1 u → IsGiven p v (equality t u)
equality_there p v one q t u h left right =
    subst (λ x. IsGiven p v (equality t x)) ((one q.1 q.1 h.right u h.right_refers right).0 refl)
    (subst (λ x. IsGiven p v (equality x h.right)) ((one q.0 q.0 h.left t h.left_refers left).0 refl) h.given)

pub only_given : (p : Site) (v : TermsView) (t : Term) → IsGiven p v t → (x : Term) → Contains (t ∷ []) x → IsGiven p v x
only_given p v t h x has = elim (contains_cases t x [] has) [ inl e ↦ subst (IsGiven p v) e h | inr none ↦ absurd (contains_none x none) ]

-- an equality that may be exchanged, as more is known
module _ (p : Site) (v w : TermsView) (keeps : KeepsTerms v w) (whole : ℕ) (q : ℕ × ℕ) (h : IsExchangeable p v whole q) where
  pub exchangeable_turned : IsMadeEquality p v q.1 q.0
  exchangeable_turned = record {
    left = h.two;
    right = h.one;
    left_refers = h.two_refers;
    right_refers = h.one_refers;
    made = stated (equality h.two h.one) (paired (equality h.one h.two) (equality h.two h.one) (equality h.two h.one) h.paired pair_right);
  }

  module _ (turn : ℕ) (refers : RefersTo p.symbols.now w turn (equality h.two h.one)) where
    pub exchangeable_given : AreTurned p w whole turn
    exchangeable_given = record {
      left = h.one;
      right = h.two;
      whole_refers = later p v w keeps whole (equality h.one h.two) h.whole_refers;
      turned_refers = refers;
      sides = h.sides;
    }

    pub exchangeable_made : IsMadeEquality p w whole turn
    exchangeable_made = record {
      left = equality h.one h.two;
      right = equality h.two h.one;
      left_refers = later p v w keeps whole (equality h.one h.two) h.whole_refers;
      right_refers = refers;
      made = stated (equality (equality h.one h.two) (equality h.two h.one))
          (paired (equality h.one h.two) (equality h.two h.one) (equality (equality h.one h.two) (equality h.two h.one))
          (paired_later p v w keeps (equality h.one h.two) (equality h.two h.one) h.paired) pair_equated);
    }

-- links say what they did
pub equates_later : (p : Site) (v w : TermsView) → LinksStay → KeepsTerms v w → (old new : List AddedStep) → Extends old new → (link : Link) (a b : ℕ)
    → LinkEquates p v old link a b → LinkEquates p w new link a b
equates_later p v w links keeps old new more link a b h = record {
  left = h.left;
  right = h.right;
  left_refers = later p v w keeps a h.left h.left_refers;
  right_refers = later p v w keeps b h.right h.right_refers;
  says = links p v w old new link (equality h.left h.right ∷ []) keeps more h.says;
}

pub with_later : (p : Site) (v w : TermsView) → LinksStay → KeepsTerms v w → (old new : List AddedStep) → Extends old new → (link : Link) (pairs : List (ℕ × ℕ))
    (rest : List Term) → SaysWith p v old link pairs rest → SaysWith p w new link pairs rest
with_later p v w links keeps old new more link pairs rest h = record {
  es = h.es;
  refer = both_later p v w keeps pairs h.es h.refer;
  says = links p v w old new link (denials h.es ++ rest) keeps more h.says;
}

-- the sides of two pairs, as they are read
two_same : (xs : List (ℕ × ℕ)) (a b x y : ℕ × ℕ) → xs ≡ a ∷ b ∷ [] → xs ≡ x ∷ y ∷ [] → (a ≡ x) × (b ≡ y)
two_same xs a b x y e f = let both : a ∷ b ∷ [] ≡ x ∷ y ∷ [] = sym e ∙ f in (cc, cc)

pub pair_is : (xs ys : List (ℕ × ℕ)) (a b x y one other q : ℕ × ℕ) → ys ≡ xs → xs ≡ a ∷ b ∷ [] → ys ≡ x ∷ y ∷ [] → one ≡ a → other ≡ b
    → q ≡ (other.0, one.0) → q ≡ (y.0, x.0)
pair_is xs ys a b x y one other q same e f first second is =
    let both = two_same xs a b x y e (sym same ∙ f) in
    is ∙ (ap (λ (z : ℕ × ℕ). (z.0, one.0)) (second ∙ both.1) ∙ ap (λ (z : ℕ × ℕ). (y.0, z.0)) (first ∙ both.0))

three_same : (xs : List (ℕ × ℕ)) (a b d x y z : ℕ × ℕ) → xs ≡ a ∷ b ∷ d ∷ [] → xs ≡ x ∷ y ∷ z ∷ [] → d ≡ z
three_same xs a b d x y z e f = let both : a ∷ b ∷ d ∷ [] ≡ x ∷ y ∷ z ∷ [] = sym e ∙ f in cc

pub third_is : (xs ys : List (ℕ × ℕ)) (a b d x y z q : ℕ × ℕ) → ys ≡ xs → xs ≡ a ∷ b ∷ d ∷ [] → ys ≡ x ∷ y ∷ z ∷ [] → q ≡ d → q ≡ z
third_is xs ys a b d x y z q same e f is = is ∙ three_same xs a b d x y z e (sym same ∙ f)
