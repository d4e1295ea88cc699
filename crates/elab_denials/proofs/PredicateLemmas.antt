-- Private. Two predicates of which the command's clause denies one and has the other: what is stated of them, and what that owes.
use Rattle.std.proofs.Common.{◌≡◌, ◌≢◌, ◌⊎◌, inl, inr, ℕ, Bool, true, false, List, [], ◌∷◌, ◌++◌, length, map}
use Rattle.std.proofs.Common.{Option, Contains, refl, sym, ◌∙◌, ap, subst, arith}
use Rattle.std.proofs.lemmas.List.Elements.{Contains-append_cases, Contains-append_left, Contains-append_right}
use Rattle.term_model.proofs.Lists.{contains_cases, contains_head, contains_later, contains_none}
use Rattle.term_model.specs.declared.symbols.Sort.{Sort}
use Rattle.term_model.specs.Flips.{equality}
use Rattle.term_model.specs.Sorts.{IsOf}
use Rattle.term_model.specs.Terms.{Term, not_of}
use Rattle.term_pool.proofs.References.{AreOne}
use Rattle.term_pool.specs.Views.{TermsView, IsTerm, KeepsTerms, RefersTo, ReferToAll}
use Rattle.proof_store.specs.AddedSteps.{AddedStep}
use Rattle.proof_store.specs.declared.added.Link.{Link}
use Rattle.rule_model.specs.declared.rules.Rule.{Rule}
use Rattle.rule_model.specs.declared.kinds.Family.{Family}
use Rattle.rule_model.specs.declared.rules.Mode.{Mode}
use Rattle.rule_model.specs.Congruence.{AreCongruent, Denies, Equates, GivesPredicates, HangTogetherDenied, denials, units}
use Rattle.rule_model.specs.Reading.{clause_at, premise_clauses}
use Rattle.equality_steps.specs.declared.site.Site.{Site}
use Rattle.equality_steps.specs.Denied.{ArePredicates, implied_clause}
use Rattle.equality_steps.specs.Links.{LinkSays}
use Rattle.equality_steps.specs.Sites.{AreLiteralsAt}
use Rattle.equality_ways.specs.declared.table.Table.{Table}
use Rattle.equality_ways.specs.Sides.{AreSidesOfDenials}
use Rattle.equality_ways.specs.Tables.{IsTableOf}
use Rattle.equality_ways.specs.Ways.{AreEnds}
use Rattle.flip_steps.specs.Subterms.{whole, argument}
use Rattle.equality_blocks.specs.Commands.{IsToElaborate, clause_of_command, rule_of_command}
use Rattle.equality_blocks.specs.Made.{IsMadeFor, denied, paired, stated}
use Rattle.equality_blocks.specs.Made.{equated as pair_equated, right as pair_right}
use Rattle.equality_blocks.specs.Pairs.{AreImplied, implied, linked}
use Rattle.elab_denials.specs.declared.matching.Match.{Match}
use Rattle.elab_denials.specs.declared.predicates.Plan.{Plan}
use Rattle.elab_denials.specs.Implying.{AreImplyingBy, AreLastTwo, AreOpened, AreStatedTruths, AreTwo, EndsInTwo, GivesOther, IsBegunBy, IsBegunImplied, IsPlanned}
use Rattle.elab_denials.specs.Matching.{AreLinkedAt, AreMatchedBy, IsMatchOf, Links, left_of, right_of}
use Rattle.elab_denials.specs.Owing.{HasDenial, IsGiven, IsOwed, IsOwing}
use Rattle.elab_denials.specs.Stating.{AreReadyBy, AreStated, AreTurnable, IsNarrow, SaysWith}
use Rattle.elab_denials.specs.Walking.{AreGivenDenials}
use Rattle.elab_denials.specs.Working.{IsMadeEquality, IsPlaceAt}
use Rattle.elab_denials.proofs.StateLemmas.{both_later, denial_owed, pair_denied, stated_predicates, turnable_stated, turnable_truths, zip_parts}
use Rattle.elab_denials.proofs.ConditionLemmas.{met_rule}
use Rattle.elab_denials.proofs.CongruentLemmas.{denied_there, links_here, own_clause}
use Rattle.elab_denials.proofs.ReadyLemmas.{AreJoined, linked_here, narrow_here, ready_here, repairable_here}
use Rattle.elab_denials.proofs.WalkLemmas.{ends_place, given_fits, under_not}
use Rattle.elab_denials.proofs.WorkLemmas.{later, place_later, refer_among}

module _ (p : Site) (v : TermsView) (one : AreOne p.symbols.now v) (a b : ℕ) (pairs : List (ℕ × ℕ)) (h : AreStatedTruths p v a b pairs) where
  pub predicates_here : ArePredicates p v a b
  predicates_here = stated_predicates p v one a b pairs h.stated h.truths

  pub implied_made : (x : Term)
      → Contains (implied_clause h.stated.are_applied.head (map (λ (e : Term × Term). e.0) h.stated.are_applied.es)
      (map (λ (e : Term × Term). e.1) h.stated.are_applied.es)) x → IsMadeFor p v x
  implied_made x has =
      let l = left_of h.stated.are_applied.head h.stated.are_applied.es in
      let r = right_of h.stated.are_applied.head h.stated.are_applied.es in
      elim (Contains-append_cases (denials h.stated.are_applied.es) (not_of l ∷ r ∷ []) x
      (subst (λ zs. Contains (denials zs ++ not_of l ∷ r ∷ []) x) (zip_parts h.stated.are_applied.es) has)) [
        | inl owed ↦ (denial_owed p v one pairs h.stated.are_applied.es h.stated.are_applied.refer h.stated.places x owed).made
        | inr last ↦ elim (contains_cases (not_of l) x (r ∷ []) last) [
          | inl here ↦ subst (IsMadeFor p v) here (denied l r h.stated.paired)
          | inr more ↦ elim (contains_cases r x [] more) [
            | inl here ↦ subst (IsMadeFor p v) here (stated r (paired l r r h.stated.paired pair_right))
            | inr none ↦ absurd (contains_none x none)
          ]
        ]
      ]

-- what the step says
pub implied_says : (p : Site) (v w : TermsView) → AreOne p.symbols.now v → KeepsTerms v w → (a b : ℕ) (pairs : List (ℕ × ℕ)) (h : AreStatedTruths p v a b pairs)
    (steps : List AddedStep) (link : Link) (t u : Term) → RefersTo p.symbols.now v a t → RefersTo p.symbols.now v b u
    → LinkSays p w steps link (implied_clause h.stated.are_applied.head (map (λ (e : Term × Term). e.0) h.stated.are_applied.es)
    (map (λ (e : Term × Term). e.1) h.stated.are_applied.es)) → SaysWith p w steps link pairs (not_of t ∷ u ∷ [])
implied_says p v w one keeps a b pairs h steps link t u left right says =
    let es = h.stated.are_applied.es in
    let l = left_of h.stated.are_applied.head es in
    let r = right_of h.stated.are_applied.head es in
    record {
      es = es;
      refer = both_later p v w keeps pairs es h.stated.are_applied.refer;
      says = subst (λ x. LinkSays p w steps link (denials es ++ not_of t ∷ x ∷ [])) ((one b b r u h.stated.are_applied.right_refers right).0 refl)
          (subst (λ x. LinkSays p w steps link (denials es ++ not_of x ∷ r ∷ [])) ((one a a l t h.stated.are_applied.left_refers left).0 refl)
          (subst (λ zs. LinkSays p w steps link (denials zs ++ not_of l ∷ r ∷ [])) (zip_parts es) says));
    }

pub both_given : (p : Site) (v : TermsView) (t u : Term) → IsGiven p v t → IsGiven p v u → (x : Term) → Contains (t ∷ u ∷ []) x → IsGiven p v x
both_given p v t u h k x has = elim (contains_cases t x (u ∷ []) has) [
  | inl e ↦ subst (IsGiven p v) e h
  | inr more ↦ elim (contains_cases u x [] more) [ inl e ↦ subst (IsGiven p v) e k | inr none ↦ absurd (contains_none x none) ]
]

-- two equalities that are linked crosswise
module _ (p : Site) (v : TermsView) (a b : ℕ) (pairs : List (ℕ × ℕ)) (h : AreOpened p v a b pairs) where
  abbrev pub last : ℕ × ℕ
  last = (h.turnable.inner.0, h.turnable.outer.0)

  pub opened_equality : IsMadeEquality p v h.turnable.inner.0 h.turnable.outer.0
  opened_equality = record {
    left = h.place.left;
    right = h.place.right;
    left_refers = h.place.left_refers;
    right_refers = h.place.right_refers;
    made = stated (equality h.place.left h.place.right)
        (paired h.place.left h.place.right (equality h.place.left h.place.right) h.place.paired pair_equated);
  }

  module _ (w : TermsView) (keeps : KeepsTerms v w) (turn : ℕ) (refers : RefersTo p.symbols.now w turn (equality h.turnable.two h.turnable.one)) where
    pub opened_stated : AreStatedTruths p w turn b h.crossed
    opened_stated = record {
      stated = turnable_stated p v a b h.crossed h.turnable w keeps turn refers;
      truths = turnable_truths p v a b h.crossed h.turnable w keeps turn refers;
    }

  -- what the step owes
  module _ (w : TermsView) (same : AreOne p.symbols.now w) (keeps : KeepsTerms v w) (steps : List AddedStep) (link : Link)
      (says : SaysWith p w steps link h.crossed (not_of (equality h.turnable.two h.turnable.one) ∷ equality h.turnable.three h.turnable.four ∷ []))
      (given : IsGiven p w (equality h.turnable.three h.turnable.four)) where
    among_crossed : (q : ℕ × ℕ) → Contains h.crossed q → Contains pairs q
    among_crossed q has =
        subst (λ qs. Contains qs q) (sym h.pairs_are)
        (elim (contains_cases h.turnable.inner q (h.turnable.outer ∷ []) (subst (λ qs. Contains qs q) h.turnable.pairs_are has)) [
          | inl e ↦ subst (Contains (h.turnable.inner ∷ h.turnable.outer ∷ last ∷ [])) e (contains_head h.turnable.inner (h.turnable.outer ∷ last ∷ []))
          | inr more ↦ contains_later h.turnable.inner q (h.turnable.outer ∷ last ∷ []) (elim (contains_cases h.turnable.outer q [] more) [
            | inl e ↦ subst (Contains (h.turnable.outer ∷ last ∷ [])) e (contains_head h.turnable.outer (last ∷ []))
            | inr none ↦ absurd (contains_none q none)
          ])
        ])

    last_there : Contains pairs last
    last_there =
        subst (λ qs. Contains qs last) (sym h.pairs_are)
        (contains_later h.turnable.inner last (h.turnable.outer ∷ last ∷ []) (contains_later h.turnable.outer last (last ∷ []) (contains_head last [])))

    places_then : (q : ℕ × ℕ) → Contains h.crossed q → IsPlaceAt p w q.0 q.1
    places_then q has = place_later p v w keeps q.0 q.1 (h.turnable.places q has)

    two_refers : RefersTo p.symbols.now w h.turnable.inner.0 h.turnable.two
    two_refers = later p v w keeps h.turnable.inner.0 h.turnable.two h.turnable.two_refers

    one_refers : RefersTo p.symbols.now w h.turnable.outer.0 h.turnable.one
    one_refers = later p v w keeps h.turnable.outer.0 h.turnable.one h.turnable.one_refers

    atom_owed : IsOwed p w pairs (not_of (equality h.turnable.two h.turnable.one))
    atom_owed = record {
      pair = last;
      among = last_there;
      denies = record { left = h.turnable.two; right = h.turnable.one; left_refers = two_refers; right_refers = one_refers; is = refl };
      made = (denial_owed p w same (last ∷ []) ((h.turnable.two, h.turnable.one) ∷ []) ((two_refers, one_refers), tt)
          (λ q has. elim (contains_cases last q [] has) [
            | inl e ↦ subst (λ (x : ℕ × ℕ). IsPlaceAt p w x.0 x.1) e (place_later p v w keeps h.turnable.inner.0 h.turnable.outer.0 h.place)
            | inr none ↦ absurd (contains_none q none)
          ]) (not_of (equality h.turnable.two h.turnable.one)) (contains_head (not_of (equality h.turnable.two h.turnable.one)) [])).made;
    }

    more_owed : (x : Term) → IsOwed p w h.crossed x → IsOwed p w pairs x
    more_owed x k = record { pair = k.pair; among = among_crossed k.pair k.among; denies = k.denies; made = k.made }

    pub opened_owing : IsOwing p w steps link pairs
    opened_owing = record {
      clause = denials says.es ++ not_of (equality h.turnable.two h.turnable.one) ∷ equality h.turnable.three h.turnable.four ∷ [];
      says = says.says;
      each = λ x has. elim (Contains-append_cases (denials says.es)
          (not_of (equality h.turnable.two h.turnable.one) ∷ equality h.turnable.three h.turnable.four ∷ []) x has) [
            | inl owed ↦ inr (more_owed x (denial_owed p w same h.crossed says.es says.refer places_then x owed))
            | inr rest ↦ elim (contains_cases (not_of (equality h.turnable.two h.turnable.one)) x (equality h.turnable.three h.turnable.four ∷ []) rest) [
              | inl e ↦ inr (subst (IsOwed p w pairs) e atom_owed)
              | inr more ↦ elim (contains_cases (equality h.turnable.three h.turnable.four) x [] more) [
                | inl e ↦ inl (subst (IsGiven p w) e given)
                | inr none ↦ absurd (contains_none x none)
              ]
            ]
          ];
      all = λ q has. all_there q (subst (λ qs. Contains qs q) h.pairs_are has);
    }
      where
        rest_there : HasDenial p w (denials says.es ++ not_of (equality h.turnable.two h.turnable.one) ∷ equality h.turnable.three h.turnable.four ∷ []) last
        rest_there = record {
          literal = not_of (equality h.turnable.two h.turnable.one);
          among = behind (denials says.es);
          denies = record { left = h.turnable.two; right = h.turnable.one; left_refers = two_refers; right_refers = one_refers; is = refl };
        }
          where
            behind : (xs : List Term)
                → Contains (xs ++ not_of (equality h.turnable.two h.turnable.one) ∷ equality h.turnable.three h.turnable.four ∷ [])
                (not_of (equality h.turnable.two h.turnable.one))
            behind [] = contains_head (not_of (equality h.turnable.two h.turnable.one)) (equality h.turnable.three h.turnable.four ∷ [])
            behind (x ∷ xs) =
                contains_later x (not_of (equality h.turnable.two h.turnable.one))
                (xs ++ not_of (equality h.turnable.two h.turnable.one) ∷ equality h.turnable.three h.turnable.four ∷ []) (behind xs)

        front_there : (q : ℕ × ℕ) → Contains h.crossed q
            → HasDenial p w (denials says.es ++ not_of (equality h.turnable.two h.turnable.one) ∷ equality h.turnable.three h.turnable.four ∷ []) q
        front_there q has =
            let d = pair_denied p w same h.crossed says.es says.refer q has in
            record {
              literal = d.literal;
              among = Contains-append_left (denials says.es) (not_of (equality h.turnable.two h.turnable.one) ∷ equality h.turnable.three h.turnable.four ∷ [])
                  d.literal d.among;
              denies = d.denies;
            }

        all_there : (q : ℕ × ℕ) → Contains (h.turnable.inner ∷ h.turnable.outer ∷ last ∷ []) q
            → HasDenial p w (denials says.es ++ not_of (equality h.turnable.two h.turnable.one) ∷ equality h.turnable.three h.turnable.four ∷ []) q
        all_there q has = elim (contains_cases h.turnable.inner q (h.turnable.outer ∷ last ∷ []) has) [
          | inl e ↦ front_there q (subst (λ qs. Contains qs q) (sym h.turnable.pairs_are)
              (subst (Contains (h.turnable.inner ∷ h.turnable.outer ∷ [])) e (contains_head h.turnable.inner (h.turnable.outer ∷ []))))
          | inr more ↦ elim (contains_cases h.turnable.outer q (last ∷ []) more) [
            | inl e ↦ front_there q (subst (λ qs. Contains qs q) (sym h.turnable.pairs_are)
                (contains_later h.turnable.inner q (h.turnable.outer ∷ []) (subst (Contains (h.turnable.outer ∷ [])) e (contains_head h.turnable.outer []))))
            | inr end ↦ elim (contains_cases last q [] end) [
              | inl e ↦ subst (HasDenial p w (denials says.es ++ not_of (equality h.turnable.two h.turnable.one) ∷ equality h.turnable.three h.turnable.four ∷ [])) e rest_there
              | inr none ↦ absurd (contains_none q none)
            ]
          ]
        ]

-- the last two literals of a clause
pub ends_there : (clause : List ℕ) (q r : ℕ) → AreLastTwo clause q r → (x : ℕ) → (x ≡ q) ⊎ (x ≡ r) → Contains clause x
ends_there clause q r ends x which = elim ends.is [
  | inl e ↦ subst (λ xs. Contains xs x) (sym e) (Contains-append_right ends.before (q ∷ r ∷ []) x (elim which [
    | inl f ↦ subst (Contains (q ∷ r ∷ [])) (sym f) (contains_head q (r ∷ []))
    | inr f ↦ subst (Contains (q ∷ r ∷ [])) (sym f) (contains_later q r (r ∷ []) (contains_head r []))
  ]))
  | inr e ↦ subst (λ xs. Contains xs x) (sym e) (Contains-append_right ends.before (r ∷ q ∷ []) x (elim which [
    | inl f ↦ subst (Contains (r ∷ q ∷ [])) (sym f) (contains_later r q (q ∷ []) (contains_head q []))
    | inr f ↦ subst (Contains (r ∷ q ∷ [])) (sym f) (contains_head r (q ∷ []))
  ]))
]

pub ends_term : (p : Site) (v : TermsView) → IsToElaborate p v → (q r : ℕ) → AreLastTwo (clause_of_command p) q r → (x : ℕ) → (x ≡ q) ⊎ (x ≡ r)
    → IsTerm p.symbols.now v x
ends_term p v h q r ends x which =
    let found = refer_among p v (clause_of_command p) (clause_at h.proof p.command) x (own_clause p v h) (ends_there (clause_of_command p) q r ends x which) in
    record { means = found.term; refers = found.refers }

pub under_same : (a b : Term) → not_of a ≡ not_of b → b ≡ a
under_same a b e = cc

pub front_same : (xs ys : List ℕ) (x y : ℕ) → xs ++ x ∷ [] ≡ ys ++ y ∷ [] → xs ≡ ys
front_same [] [] x y e = refl
front_same [] (b ∷ []) x y e = absurd cc
front_same [] (b ∷ d ∷ ys) x y e = absurd cc
front_same (a ∷ []) [] x y e = absurd cc
front_same (a ∷ d ∷ xs) [] x y e = absurd cc
front_same (a ∷ xs) (b ∷ ys) x y e =
    let first : a ≡ b = cc in
    let rest : xs ++ x ∷ [] ≡ ys ++ y ∷ [] = cc in
    ap (λ z. z ∷ xs) first ∙ ap (λ zs. b ∷ zs) (front_same xs ys x y rest)

-- two predicates of which the command's clause denies one and has the other are joined
module _ (p : Site) (v : TermsView) (literals : AreLiteralsAt p v (clause_of_command p)) (one : AreOne p.symbols.now v)
    (rule : rule_of_command p ≡ Rule.EqCongruentPred) (q r : ℕ) (ends : AreLastTwo (clause_of_command p) q r) (t u : Term)
    (denied_refers : RefersTo p.symbols.now v q (not_of t)) (given_refers : RefersTo p.symbols.now v r u) where
  both_there : (x : ℕ) → (x ≡ q) ⊎ (x ≡ r) → Contains (clause_of_command p) x
  both_there x which = ends_there (clause_of_command p) q r ends x which

  pub denied_given : IsGiven p v (not_of t)
  denied_given = record { reference = q; among = both_there q (inl refl); refers = denied_refers }

  pub other_given : IsGiven p v u
  other_given = record { reference = r; among = both_there r (inr refl); refers = given_refers }

  implied_here : AreImplied p v t u
  implied_here = record {
    rule = rule;
    before = ends.before;
    denied = q;
    given = r;
    clause = ends.is;
    denied_refers = denied_refers;
    given_refers = given_refers;
  }

  pub joined_implied : AreJoined p v t u
  joined_implied = record {
    paired = inl (linked t u (implied implied_here));
    matched = inr implied_here;
    sides = record {
      sort = Sort.Bool;
      left = under_not p v t (given_fits p v literals one (not_of t) denied_given);
      right = given_fits p v literals one u other_given;
    };
    left_in = record {
      root = q;
      among = both_there q (inl refl);
      whole = not_of t;
      refers = denied_refers;
      within = argument (not_of t) t whole (contains_head t []);
    };
    right_in = record { root = r; among = both_there r (inr refl); whole = u; refers = given_refers; within = whole };
  }

  truth : IsOf t Sort.Bool
  truth = (under_not p v t (given_fits p v literals one (not_of t) denied_given)).0

  -- what steps begin with
  module _ (sort_once : (x : Term) (s z : Sort) → IsOf x s → IsOf x z → s ≡ z) (sides : List (Option (ℕ × ℕ))) (given : AreGivenDenials p v sides)
      (table : Table) (is_table : IsTableOf sides table) (a : ℕ) (left : RefersTo p.symbols.now v a t) where
    pub begun_straight : (m : Match) → IsMatchOf p v sides a r m → m.crossed ≡ false → IsBegunImplied p v table m
    begun_straight m found e =
        let left_is : RefersTo p.symbols.now v m.left t = subst (λ x. RefersTo p.symbols.now v x t) (sym found.left_is) left in
        let right_is : RefersTo p.symbols.now v m.right u = subst (λ x. RefersTo p.symbols.now v x u) (sym found.right_is) given_refers in
        let here : AreMatchedBy p v sides a r m.pairs.items m.crossed = found.matched in
        let at_match : AreMatchedBy p v sides m.left m.right m.pairs.items m.crossed =
        subst (λ x. AreMatchedBy p v sides m.left x m.pairs.items m.crossed) (sym found.right_is)
        (subst (λ x. AreMatchedBy p v sides x r m.pairs.items m.crossed) (sym found.left_is) here) in
        let ready : AreReadyBy p v m.left m.right m.pairs.items m.crossed =
        ready_here p v literals one sides given m.left m.right m.pairs.items t u left_is right_is joined_implied m.crossed at_match in
        let stated : AreStated p v m.left m.right m.pairs.items = subst (AreReadyBy p v m.left m.right m.pairs.items) e ready in
        record {
          repairable = repairable_here p v literals one sides given a r m.pairs.items t u left given_refers joined_implied table is_table m.crossed here;
          imply = record {
            left = t;
            right = u;
            left_refers = left_is;
            right_refers = right_is;
            denied = denied_given;
            given = other_given;
            ready = subst (AreImplyingBy p v m.left m.right m.pairs.items) (sym e) (record {
              stated = stated;
              truths =
                  let l = left_of stated.are_applied.head stated.are_applied.es in
                  sort_once l stated.sides.sort Sort.Bool stated.sides.left.0
                  (subst (λ x. IsOf x Sort.Bool) ((one m.left m.left t l left_is stated.are_applied.left_refers).0 refl) truth);
            });
          };
          narrow = narrow_here p v literals one sides given a r m.pairs.items t u left given_refers joined_implied m.crossed here;
        }

    module _ (ts : List Term) (stands : ReferToAll p.symbols.now v (clause_of_command p) ts) (are : AreSidesOfDenials p.symbols.now v sides ts) where
      denied_among : Contains ts (not_of t)
      denied_among =
          let found = refer_among p v (clause_of_command p) ts q stands (both_there q (inl refl)) in
          subst (Contains ts) ((one q q found.term (not_of t) found.refers denied_refers).0 refl) found.among

      pub begun_crossed : (m : Match) (more : Match) → IsMatchOf p v sides a r m → m.crossed ≡ true → more.left ≡ m.left → more.right ≡ m.right → more.crossed ≡ true
          → ((x y : ℕ × ℕ) → m.pairs.items ≡ x ∷ y ∷ [] → more.pairs.items ≡ x ∷ y ∷ (x.0, y.0) ∷ []) → IsBegunImplied p v table more
      begun_crossed m more found e left_same right_same crossed_is pushed = record {
        repairable = record {
          sides = sides;
          is_table = is_table;
          denied = given;
          places = λ x has. elim (three_cases x has) [
            | inl before ↦ turnable.places x before
            | inr last ↦ subst (λ (z : ℕ × ℕ). IsPlaceAt p v z.0 z.1) last place
          ];
          linked = λ x has. elim (three_cases x has) [
            | inl before ↦ linked_here p v literals one sides given a r m.pairs.items t u left given_refers joined_implied m.crossed found.matched x before
            | inr last ↦ subst (λ (z : ℕ × ℕ). AreLinkedAt p v sides z.0 z.1) last (inl last_ends)
          ];
        };
        imply = record {
          left = t;
          right = u;
          left_refers = subst (λ x. RefersTo p.symbols.now v x t) (sym (left_same ∙ found.left_is)) left;
          right_refers = subst (λ x. RefersTo p.symbols.now v x u) (sym (right_same ∙ found.right_is)) given_refers;
          denied = denied_given;
          given = other_given;
          ready = subst (AreImplyingBy p v more.left more.right more.pairs.items) (sym crossed_is) opened;
        };
        narrow = record {
          root = narrow.root;
          among = narrow.among;
          whole = narrow.whole;
          refers = narrow.refers;
          term = narrow.term;
          within = narrow.within;
          few = let long = ap length pairs_are in omega (arith, long);
        };
      }
        where
          turnable : AreTurnable p v a r m.pairs.items
          turnable =
              subst (AreReadyBy p v a r m.pairs.items) e
              (ready_here p v literals one sides given a r m.pairs.items t u left given_refers joined_implied m.crossed found.matched)

          narrow : IsNarrow p v (length m.pairs.items)
          narrow = narrow_here p v literals one sides given a r m.pairs.items t u left given_refers joined_implied m.crossed found.matched

          pairs_are : more.pairs.items ≡ turnable.inner ∷ turnable.outer ∷ (turnable.inner.0, turnable.outer.0) ∷ []
          pairs_are = pushed turnable.inner turnable.outer turnable.pairs_are

          t_is : t ≡ equality turnable.one turnable.two
          t_is = (one a a t (equality turnable.one turnable.two) left turnable.left_refers).0 refl

          last_ends : AreEnds sides turnable.inner.0 turnable.outer.0
          last_ends =
              inr (denied_there p v one sides ts are turnable.one turnable.two turnable.outer.0 turnable.inner.0
              (subst (λ x. Contains ts (not_of x)) t_is denied_among) turnable.one_refers turnable.two_refers)

          place : IsPlaceAt p v turnable.inner.0 turnable.outer.0
          place = ends_place p v literals one sides given turnable.inner.0 turnable.outer.0 last_ends

          three_cases : (x : ℕ × ℕ) → Contains more.pairs.items x → Contains m.pairs.items x ⊎ ((turnable.inner.0, turnable.outer.0) ≡ x)
          three_cases x has =
              elim (contains_cases turnable.inner x (turnable.outer ∷ (turnable.inner.0, turnable.outer.0) ∷ []) (subst (λ xs. Contains xs x) pairs_are has)) [
                | inl f ↦ inl (subst (λ xs. Contains xs x) (sym turnable.pairs_are)
                    (subst (Contains (turnable.inner ∷ turnable.outer ∷ [])) f (contains_head turnable.inner (turnable.outer ∷ []))))
                | inr below ↦ elim (contains_cases turnable.outer x ((turnable.inner.0, turnable.outer.0) ∷ []) below) [
                  | inl f ↦ inl (subst (λ xs. Contains xs x) (sym turnable.pairs_are)
                      (contains_later turnable.inner x (turnable.outer ∷ []) (subst (Contains (turnable.outer ∷ [])) f (contains_head turnable.outer []))))
                  | inr last ↦ elim (contains_cases (turnable.inner.0, turnable.outer.0) x [] last) [ inl f ↦ inr f | inr none ↦ absurd (contains_none x none) ]
                ]
              ]

          opened : AreOpened p v more.left more.right more.pairs.items
          opened =
              subst (λ x. AreOpened p v more.left x more.pairs.items) (sym (right_same ∙ found.right_is))
              (subst (λ x. AreOpened p v x r more.pairs.items) (sym (left_same ∙ found.left_is))
              (record { crossed = m.pairs.items; turnable = turnable; pairs_are = pairs_are; place = place }))

-- the last two of some references
record HasLastTwo (p : Site) (v : TermsView) (rs : List ℕ) (t u : Term) : Type 0 where
  front : List ℕ
  one : ℕ
  other : ℕ
  is : rs ≡ front ++ one ∷ other ∷ []
  one_refers : RefersTo p.symbols.now v one t
  other_refers : RefersTo p.symbols.now v other u

has_last_two : (p : Site) (v : TermsView) (rs : List ℕ) (ts : List Term) (t u : Term) → ReferToAll p.symbols.now v rs (ts ++ t ∷ u ∷ [])
    → HasLastTwo p v rs t u
has_last_two p v [] [] t u h = absurd h
has_last_two p v [] (x ∷ ts) t u h = absurd h
has_last_two p v (r ∷ []) [] t u h = absurd h.1
has_last_two p v (r ∷ q ∷ []) [] t u h = record { front = []; one = r; other = q; is = refl; one_refers = h.0; other_refers = h.1.0 }
has_last_two p v (r ∷ q ∷ x ∷ rs) [] t u h = absurd h.1.1
has_last_two p v (r ∷ rs) (x ∷ ts) t u h =
    let more = has_last_two p v rs ts t u h.1 in
    record {
      front = r ∷ more.front;
      one = more.one;
      other = more.other;
      is = ap (λ qs. r ∷ qs) more.is;
      one_refers = more.one_refers;
      other_refers = more.other_refers;
    }

snoc_two : (xs ys : List ℕ) (a b x y : ℕ) → xs ++ a ∷ b ∷ [] ≡ ys ++ x ∷ y ∷ [] → (a ≡ x) × (b ≡ y)
snoc_two [] [] a b x y e = (cc, cc)
snoc_two [] (z ∷ []) a b x y e = absurd cc
snoc_two [] (z ∷ w ∷ ys) a b x y e = absurd (short ys e)
  where
    short : (zs : List ℕ) → a ∷ b ∷ [] ≡ z ∷ w ∷ (zs ++ x ∷ y ∷ []) → ⊥
    short [] f = cc
    short (k ∷ zs) f = cc
snoc_two (z ∷ []) [] a b x y e = absurd cc
snoc_two (z ∷ w ∷ xs) [] a b x y e = absurd (short xs e)
  where
    short : (zs : List ℕ) → z ∷ w ∷ (zs ++ a ∷ b ∷ []) ≡ x ∷ y ∷ [] → ⊥
    short [] f = cc
    short (k ∷ zs) f = cc
snoc_two (z ∷ xs) (w ∷ ys) a b x y e = let rest : xs ++ a ∷ b ∷ [] ≡ ys ++ x ∷ y ∷ [] = cc in snoc_two xs ys a b x y rest

pub ends_one : (clause : List ℕ) (q r : ℕ) → EndsInTwo clause q r → AreLastTwo clause q r
ends_one clause q r h = record { before = h.before; is = inl h.is }

pub ends_other : (clause : List ℕ) (q r : ℕ) → EndsInTwo clause q r → AreLastTwo clause r q
ends_other clause q r h = record { before = h.before; is = inr h.is }

module _ (p : Site) (v : TermsView) (one : AreOne p.symbols.now v) (g : GivesOther p v) where
  -- the clause has two literals
  pub gives_two : ((front : List ℕ) (q r : ℕ) → clause_of_command p ≢ front ++ q ∷ r ∷ []) → ⊥
  gives_two none = elim g.rest_is [ inl e ↦ go (not_of g.left) g.right e | inr e ↦ go g.right (not_of g.left) e ]
    where
      go : (t u : Term) → g.rest ≡ t ∷ u ∷ [] → ⊥
      go t u e =
          let two =
          has_last_two p v (clause_of_command p) (denials g.es) t u
          (subst (λ xs. ReferToAll p.symbols.now v (clause_of_command p) (denials g.es ++ xs)) e g.stands)
          in none two.front two.one two.other two.is

  -- what the two are
  last_are : (q r : ℕ) → EndsInTwo (clause_of_command p) q r → (t u : Term) → g.rest ≡ t ∷ u ∷ [] → RefersTo p.symbols.now v q t × RefersTo p.symbols.now v r u
  last_are q r h t u e =
      let two =
      has_last_two p v (clause_of_command p) (denials g.es) t u
      (subst (λ xs. ReferToAll p.symbols.now v (clause_of_command p) (denials g.es ++ xs)) e g.stands)
      in
      let same = snoc_two two.front h.before two.one two.other q r (sym two.is ∙ h.is) in (
        subst (λ x. RefersTo p.symbols.now v x t) same.0 two.one_refers,
        subst (λ x. RefersTo p.symbols.now v x u) same.1 two.other_refers,
      )

  -- one of the two orders is matched
  pub gives_either : (sides : List (Option (ℕ × ℕ))) → AreSidesOfDenials p.symbols.now v sides (denials g.es ++ g.rest) → (q r : ℕ)
      → EndsInTwo (clause_of_command p) q r
      → ((premises : List (List Term)) (t u : Term) → Links p v sides premises → RefersTo p.symbols.now v q (not_of t) → RefersTo p.symbols.now v r u
      → ¬ AreCongruent (HangTogetherDenied Mode.Check) premises t u)
      → ((premises : List (List Term)) (t u : Term) → Links p v sides premises → RefersTo p.symbols.now v r (not_of t) → RefersTo p.symbols.now v q u
      → ¬ AreCongruent (HangTogetherDenied Mode.Check) premises t u) → ⊥
  gives_either sides are q r h none neither =
      let links = links_here p v one sides (denials g.es ++ g.rest) g.es g.rest are refl in
      elim g.rest_is [
        | inl e ↦ (let both = last_are q r h (not_of g.left) g.right e in none (units g.es) g.left g.right links both.0 both.1 g.congruent)
        | inr e ↦ (let both = last_are q r h g.right (not_of g.left) e in neither (units g.es) g.left g.right links both.1 both.0 g.congruent)
      ]

-- what an eq_congruent_pred meets in check mode
pub predicates_met : (p : Site) (v : TermsView) (h : IsToElaborate p v) → rule_of_command p ≡ Rule.EqCongruentPred
    → Denies (GivesPredicates Mode.Check) (premise_clauses h.proof p.command) (clause_at h.proof p.command)
predicates_met p v h rule = met_rule p v h Family.Congruence Rule.EqCongruentPred rule refl (λ k closes. closes)

pub gives_other : (p : Site) (v : TermsView) (premises : List (List Term)) (ts : List Term) → ReferToAll p.symbols.now v (clause_of_command p) ts
    → Denies (GivesPredicates Mode.Check) premises ts → ¬ Denies (Equates (AreCongruent (HangTogetherDenied Mode.Check))) premises ts → GivesOther p v
gives_other p v premises ts refer h none = elim h.given [
  | inl equates ↦ absurd (none (record {
    sides = h.sides;
    rest = h.rest;
    none = h.none;
    literals = h.literals;
    given = record { left = equates.left; right = equates.right; literal = equates.literal; given = equates.given.congruent };
  }))
  | inr other ↦ elim other [
    | inl implies ↦ record {
      es = h.sides;
      rest = h.rest;
      stands = subst (ReferToAll p.symbols.now v (clause_of_command p)) h.literals refer;
      left = implies.left;
      right = implies.right;
      rest_is = inl implies.literals;
      congruent = implies.given;
    }
    | inr back ↦ record {
      es = h.sides;
      rest = h.rest;
      stands = subst (ReferToAll p.symbols.now v (clause_of_command p)) h.literals refer;
      left = back.left;
      right = back.right;
      rest_is = inr back.literals;
      congruent = back.given;
    }
  ]
]

-- what holds of both ways to begin
pub planned_narrow : (p : Site) (v : TermsView) (plan : Plan) → IsPlanned p v plan → IsNarrow p v (length plan.found.pairs.items)
planned_narrow p v plan h = go plan.implies h
  where
    go : (implies : Bool) → IsBegunBy p v plan.table plan.found implies → IsNarrow p v (length plan.found.pairs.items)
    go true k = k.narrow
    go false k = k.narrow

pub opened_of : (p : Site) (v : TermsView) (a b : ℕ) (pairs : List (ℕ × ℕ)) (crossed : Bool) → crossed ≡ true → AreImplyingBy p v a b pairs crossed
    → AreOpened p v a b pairs
opened_of p v a b pairs true e h = h
opened_of p v a b pairs false e h = absurd (let clash : ◌≡◌ {A = Bool} false true = e in cc)

pub crossed_two : (p : Site) (v : TermsView) (sides : List (Option (ℕ × ℕ))) (a b : ℕ) (m : Match) → IsMatchOf p v sides a b m → m.crossed ≡ true
    → AreTwo m.pairs.items
crossed_two p v sides a b m h e =
    let k : AreMatchedBy p v sides a b m.pairs.items true = subst (AreMatchedBy p v sides a b m.pairs.items) e h.matched in
    record { one = k.crosswise.inner; other = k.crosswise.outer; is = k.crosswise.pairs_are }
