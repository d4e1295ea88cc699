-- Private. Ways over the equalities that a command's clause denies.
use Rattle.std.proofs.Common.{◌≡◌, ◌≢◌, ◌⊎◌, inl, inr, ◌<◌, ◌≤◌, ◌+◌, ℕ, Bool, true, false, List, [], ◌∷◌, ◌++◌, length, drop, get_or, slice_get}
use Rattle.std.proofs.Common.{Option, Some, All, Contains, refl, sym, ◌∙◌, ap, subst}
use Rattle.std.specs.List.{AllZip}
use Rattle.std.proofs.lemmas.List.{drop_all, drop_more}
use Rattle.std.proofs.lemmas.List.Elements.{All-nil, All-cons, All-contains, Contains-append_cases, Contains-push_cases}
use Rattle.std.proofs.lemmas.Option.{get_or_from_slice_get, slice_get_within}
use Rattle.term_model.proofs.Lists.{contains_cases, contains_head, contains_later, contains_none}
use Rattle.term_model.specs.declared.symbols.Op.{Op}
use Rattle.term_model.specs.declared.symbols.Sort.{Sort}
use Rattle.term_model.specs.Flips.{equality}
use Rattle.term_model.specs.Sorts.{AreOf, IsOf, application_sort}
use Rattle.term_model.specs.Terms.{Term, no_terms, not_of, term}
use Rattle.term_pool.proofs.References.{AreOne}
use Rattle.term_pool.proofs.PlacedCells.{lacks_more, places_more}
use Rattle.term_pool.specs.Placing.{LacksCellOf, PlacesCellsOf}
use Rattle.term_pool.specs.Views.{TermsView, KeepsTerms, RefersTo, ReferToAll}
use Rattle.proof_store.specs.AddedSteps.{AddedStep}
use Rattle.proof_store.specs.declared.added.Link.{Link}
use Rattle.rule_model.specs.Congruence.{denials}
use Rattle.equality_steps.specs.declared.site.Site.{Site}
use Rattle.equality_steps.specs.Links.{LinkSays}
use Rattle.equality_steps.specs.Denied.{AreWay, last_from, neighbors, way_clause}
use Rattle.equality_steps.specs.Sites.{AreLiteralsAt, IsLiteralAt, IsSideAt, IsTermAt}
use Rattle.equality_steps.proofs.SiteLemmas.{sides_fit}
use Rattle.equality_ways.specs.declared.pairs.Used.{Used}
use Rattle.equality_ways.specs.Sides.{AreSidesOfDenial, AreSidesOfDenials}
use Rattle.equality_ways.specs.Ways.{AreEnds, IsWayOver, LeadsTo, turned_if}
use Rattle.flip_steps.specs.Subterms.{whole, argument}
use Rattle.equality_blocks.specs.Commands.{IsLiteralOfCommand, clause_of_command}
use Rattle.equality_blocks.specs.Counts.{literal}
use Rattle.equality_blocks.specs.Made.{IsMadeFor, apart}
use Rattle.equality_blocks.specs.Pairs.{linked}
use Rattle.equality_blocks.specs.Pairs.{equated as linked_equated}
use Rattle.equality_blocks.proofs.StayLemmas.{made_later}
use Rattle.elab_denials.proofs.OwingLemmas.{denied_later, given_later, given_made, has_later, owed_later}
use Rattle.elab_denials.proofs.WorkLemmas.{place_later, refer_among}
use Rattle.elab_denials.specs.declared.transitive.Plan.{Plan}
use Rattle.elab_denials.specs.Owing.{AreRepairable, HasDenial, IsDenialGiven, IsDenialOf, IsGiven, IsOwed, IsOwing}
use Rattle.elab_denials.specs.Walking.{AreGivenDenials, IsPlan, IsTrailOver, IsWayGiven, last_of, pairs_from}
use Rattle.elab_denials.specs.Working.{IsPlaceAt, IsRootedAt, LacksRoom, Went}

-- references that lead on
pairs_push : (a : ℕ) (bs : List ℕ) (n : ℕ) → pairs_from a (bs ++ n ∷ []) ≡ pairs_from a bs ++ (last_of a bs, n) ∷ []
pairs_push a [] n = refl
pairs_push a (b ∷ bs) n = ap (λ ps. (a, b) ∷ ps) (pairs_push b bs n)

last_push : (a : ℕ) (bs : List ℕ) (n : ℕ) → last_of a (bs ++ n ∷ []) ≡ n
last_push a [] n = refl
last_push a (b ∷ bs) n = last_push b bs n

there : {X : Type 0} (xs : List X) (k : ℕ) (x : X) → slice_get xs k ≡ Some x → Contains xs x
there xs k x e = (k, slice_get_within xs k x e, get_or_from_slice_get xs k x x e)

ends_over : (sides : List (Option (ℕ × ℕ))) (k : ℕ) (turned : Bool) (a b : ℕ) → slice_get sides k ≡ Some (Some (turned_if turned (a, b))) → AreEnds sides a b
ends_over sides k true a b e = inr (there sides k (Some (b, a)) e)
ends_over sides k false a b e = inl (there sides k (Some (a, b)) e)

pub trail_none : (sides : List (Option (ℕ × ℕ))) (from : ℕ) (refs : List ℕ) (pairs : List (ℕ × ℕ)) → refs ≡ from ∷ [] → pairs ≡ []
    → IsTrailOver sides (from, from) refs pairs
trail_none sides from refs pairs one none = record {
  others = [];
  refs_are = one;
  pairs_are = none;
  last = refl;
  linked = λ q has. absurd (contains_none q (subst (λ ps. Contains ps q) none has));
}

trail_push : (sides : List (Option (ℕ × ℕ))) (from last next : ℕ) (refs : List ℕ) (pairs : List (ℕ × ℕ)) → AreEnds sides last next
    → IsTrailOver sides (from, last) refs pairs → IsTrailOver sides (from, next) (refs ++ next ∷ []) (pairs ++ (last, next) ∷ [])
trail_push sides from last next refs pairs ends h = record {
  others = h.others ++ next ∷ [];
  refs_are = ap (λ rs. rs ++ next ∷ []) h.refs_are;
  pairs_are =
      ap (λ ps. ps ++ (last, next) ∷ []) h.pairs_are
      ∙ (ap (λ x. pairs_from from h.others ++ (x, next) ∷ []) (sym h.last) ∙ sym (pairs_push from h.others next));
  last = last_push from h.others next;
  linked = λ q has. elim (Contains-push_cases pairs (last, next) q has) [
    | inl before ↦ h.linked q before
    | inr e ↦ subst (λ (x : ℕ × ℕ). AreEnds sides x.0 x.1) e ends
  ];
}

-- the next step of a way
pub way_splits : (sides : List (Option (ℕ × ℕ))) (way : List Used) (last to place : ℕ) (used : Used) → place < length way → used ≡ get_or way place used
    → IsWayOver sides last to (drop place way) → (next : ℕ) × LeadsTo sides used last next × IsWayOver sides next to (drop (place + 1) way)
way_splits sides way last to place used below is h =
    subst (IsWayOver sides last to) (drop_more way place used below ∙ ap (λ u. u ∷ drop (place + 1) way) (sym is)) h

pub trail_next : (sides : List (Option (ℕ × ℕ))) (way : List Used) (from last to place : ℕ) (used : Used) (pair : ℕ × ℕ) (refs : List ℕ) (pairs : List (ℕ × ℕ))
    → place < length way → used ≡ get_or way place used → ((next : ℕ) → LeadsTo sides used last next → pair ≡ (last, next))
    → IsTrailOver sides (from, last) refs pairs → IsWayOver sides last to (drop place way)
    → IsTrailOver sides (from, pair.1) (refs ++ pair.1 ∷ []) (pairs ++ pair ∷ []) × IsWayOver sides pair.1 to (drop (place + 1) way)
trail_next sides way from last to place used pair refs pairs below is told h more =
    let step = way_splits sides way last to place used below is more in
    let same = told step.0 step.1 in
    let next : pair.1 ≡ step.0 = ap (λ (x : ℕ × ℕ). x.1) same in (
      subst (λ (x : ℕ × ℕ). IsTrailOver sides (from, x.1) (refs ++ x.1 ∷ []) (pairs ++ x ∷ [])) (sym same)
          (trail_push sides from last step.0 refs pairs (ends_over sides used.place used.turned last step.0 step.1) h),
      subst (λ n. IsWayOver sides n to (drop (place + 1) way)) (sym next) step.2,
    )

pub way_ends : (sides : List (Option (ℕ × ℕ))) (way : List Used) (last to place : ℕ) → length way ≤ place → IsWayOver sides last to (drop place way) → last ≡ to
way_ends sides way last to place past h = subst (IsWayOver sides last to) (drop_all place way past) h

-- sides of equalities that a clause denies
zip_here : {X Y : Type 0} (R : X → Y → Type 0) (xs : List X) (ys : List Y) (x : X) → AllZip R xs ys → Contains xs x → (y : Y) × Contains ys y × R x y
zip_here R [] ys x z h = absurd (contains_none x h)
zip_here R (v ∷ xs) [] x z h = absurd z
zip_here R (v ∷ xs) (w ∷ ys) x z h =
    elim (contains_cases v x xs h) [
      | inl e ↦ (w, contains_head w ys, subst (λ a. R a w) e z.0)
      | inr later ↦ (let rest = zip_here R xs ys x z.1 later in (rest.0, contains_later w rest.0 ys rest.1, rest.2))
    ]

zip_back : {X Y : Type 0} (R : X → Y → Type 0) (xs : List X) (ys : List Y) (y : Y) → AllZip R xs ys → Contains ys y → (x : X) × Contains xs x × R x y
zip_back R [] [] y z h = absurd (contains_none y h)
zip_back R [] (w ∷ ys) y z h = absurd z
zip_back R (v ∷ xs) [] y z h = absurd z
zip_back R (v ∷ xs) (w ∷ ys) y z h =
    elim (contains_cases w y ys h) [
      | inl e ↦ (v, contains_head v xs, subst (R v) e z.0)
      | inr later ↦ (let rest = zip_back R xs ys y z.1 later in (rest.0, contains_later v rest.0 xs rest.1, rest.2))
    ]

in_first : (xs ys : List ℕ) (r : ℕ) → Contains xs r → Contains (xs ++ ys) r
in_first [] ys r has = absurd (contains_none r has)
in_first (x ∷ xs) ys r has = elim (contains_cases x r xs has) [
  | inl here ↦ subst (Contains (x ∷ (xs ++ ys))) here (contains_head x (xs ++ ys))
  | inr below ↦ contains_later x r (xs ++ ys) (in_first xs ys r below)
]

module _ (p : Site) (v : TermsView) where
  pub given_there : (ts : List Term) (t : Term) → ReferToAll p.symbols.now v (clause_of_command p) ts → Contains ts t → IsGiven p v t
  given_there ts t stands has =
      let found = zip_back (RefersTo p.symbols.now v) (clause_of_command p) ts t stands has in
      record { reference = found.0; among = found.1; refers = found.2 }

  pub denials_given : (sides : List (Option (ℕ × ℕ))) (ts : List Term) → ReferToAll p.symbols.now v (clause_of_command p) ts
      → AreSidesOfDenials p.symbols.now v sides ts → AreGivenDenials p v sides
  denials_given sides ts stands are q has =
      let found = zip_here (AreSidesOfDenial p.symbols.now v) sides ts (Some q) are has in
      let e = found.2.0 in
      record {
        literal = found.0;
        given = given_there ts found.0 stands found.1;
        denies = record { left = e.0; right = e.1; left_refers = found.2.1.0; right_refers = found.2.1.1; is = found.2.2 };
      }

  -- such sides are a place of the command
  pub given_fits : AreLiteralsAt p v (clause_of_command p) → AreOne p.symbols.now v → (t : Term) → IsGiven p v t → IsLiteralAt p t
  given_fits literals same t h =
      let found = refer_among p v (clause_of_command p) literals.clause h.reference literals.refer h.among in
      subst (IsLiteralAt p) ((same h.reference h.reference found.term t found.refers h.refers).0 refl)
      (All-contains (IsLiteralAt p) literals.clause found.term literals.fit found.among)

  pub under_not : (t : Term) → IsLiteralAt p (not_of t) → IsLiteralAt p t
  under_not t h = (only h.0.sorts h.0.arguments h.0.is, λ x free. h.1 x (inl free))
    where
      only : (ss : List Sort) → AreOf (term t no_terms) ss → application_sort Op.Not ss ≡ Some Sort.Bool → IsOf t Sort.Bool
      only [] k e = absurd k
      only (Sort.Bool ∷ ss) k e = k.0
      only (Sort.Int ∷ ss) k e = absurd cc
      only (Sort.Declared n ∷ ss) k e = absurd cc

  pub literal_given : (t : Term) → IsGiven p v t → IsLiteralOfCommand p v t
  literal_given t h = record { reference = h.reference; among = in_first (clause_of_command p) _ h.reference h.among; refers = h.refers }

  denial_place : AreLiteralsAt p v (clause_of_command p) → AreOne p.symbols.now v → (q : ℕ × ℕ) → IsDenialGiven p v q → IsPlaceAt p v q.0 q.1
  denial_place literals same q h = record {
    left = t;
    right = u;
    left_refers = h.denies.left_refers;
    right_refers = h.denies.right_refers;
    sides = sides_fit p t u (under_not (equality t u) (given_fits literals same (not_of (equality t u)) given));
    paired = inl (linked t u (linked_equated (inr (literal_given (not_of (equality t u)) given))));
    back = inr (linked t u (linked_equated (inr (literal_given (not_of (equality t u)) given))));
    left_in = rooted q.0 t h.denies.left_refers (contains_head t (u ∷ []));
    right_in = rooted q.1 u h.denies.right_refers (contains_later t u (u ∷ []) (contains_head u []));
  }
    where
      t : Term
      t = h.denies.left

      u : Term
      u = h.denies.right

      given : IsGiven p v (not_of (equality t u))
      given = subst (IsGiven p v) h.denies.is h.given

      rooted : (r : ℕ) (x : Term) → RefersTo p.symbols.now v r x → Contains (t ∷ u ∷ []) x → IsRootedAt p v r
      rooted r x refers has = record {
        root = given.reference;
        is = literal (in_first (clause_of_command p) _ given.reference given.among);
        stands = record {
          whole = not_of (equality t u);
          whole_refers = given.refers;
          term = x;
          refers = refers;
          within = argument (equality t u) x (argument (not_of (equality t u)) (equality t u) whole (contains_head (equality t u) [])) has;
        };
      }

  place_back : (a b : ℕ) → IsPlaceAt p v a b → IsPlaceAt p v b a
  place_back a b h = record {
    left = h.right;
    right = h.left;
    left_refers = h.right_refers;
    right_refers = h.left_refers;
    sides = record { sort = h.sides.sort; left = h.sides.right; right = h.sides.left };
    paired = h.back;
    back = h.paired;
    left_in = h.right_in;
    right_in = h.left_in;
  }

  pub ends_place : AreLiteralsAt p v (clause_of_command p) → AreOne p.symbols.now v → (sides : List (Option (ℕ × ℕ))) → AreGivenDenials p v sides → (a b : ℕ)
      → AreEnds sides a b → IsPlaceAt p v a b
  ends_place literals same sides given a b (inl h) = denial_place literals same (a, b) (given (a, b) h)
  ends_place literals same sides given a b (inr h) = place_back b a (denial_place literals same (b, a) (given (b, a) h))

-- The terms of references that lead on from one place to the next.
pub record AreTermsFrom (p : Site) (v : TermsView) (a : ℕ) (t : Term) (others : List ℕ) : Type 0 where
  pub rest : List Term
  pub refer : ReferToAll p.symbols.now v others rest
  pub some : others ≢ [] → rest ≢ []
  pub sides : (sort : Sort) → IsSideAt p sort t → All (IsSideAt p sort) rest
  pub each : (x : Term) → Contains (denials (neighbors t rest)) x → (q : ℕ × ℕ) × Contains (pairs_from a others) q × IsDenialOf p v q x × IsMadeFor p v x
  pub all : (q : ℕ × ℕ) → Contains (pairs_from a others) q → HasDenial p v (denials (neighbors t rest)) q
  pub last_refers : RefersTo p.symbols.now v (last_of a others) (last_from t rest)

abbrev pub HaveOneSort : Type 0
HaveOneSort = (t : Term) (s u : Sort) → IsOf t s → IsOf t u → s ≡ u

module _ (one : HaveOneSort) (p : Site) (v : TermsView) (same : AreOne p.symbols.now v) where
  -- one reference more
  terms_next : (a b : ℕ) (t : Term) (bs : List ℕ) → RefersTo p.symbols.now v a t → (place : IsPlaceAt p v a b) → AreTermsFrom p v b place.right bs
      → AreTermsFrom p v a t (b ∷ bs)
  terms_next a b t bs refers place more = record {
    rest = u ∷ more.rest;
    refer = (place.right_refers, more.refer);
    some = λ some none. absurd (let e : u ∷ more.rest ≡ [] = none in cc);
    sides = λ sort h. let fits = next_side sort h in All-cons (IsSideAt p sort) u more.rest fits (more.sides sort fits);
    each = λ x has. elim (contains_cases first x (denials (neighbors u more.rest)) has) [
      | inl here ↦ subst (λ y. (q : ℕ × ℕ) × Contains (pairs_from a (b ∷ bs)) q × IsDenialOf p v q y × IsMadeFor p v y) here
          ((a, b), contains_head (a, b) (pairs_from b bs), denies, made)
      | inr later ↦ (let found = more.each x later in (found.0, contains_later (a, b) found.0 (pairs_from b bs) found.1, found.2, found.3))
    ];
    all = λ q has. elim (contains_cases (a, b) q (pairs_from b bs) has) [
      | inl here ↦ record {
        literal = first;
        among = contains_head first (denials (neighbors u more.rest));
        denies = subst (λ x. IsDenialOf p v x first) here denies;
      }
      | inr later ↦ (let found = more.all q later in
          record { literal = found.literal; among = contains_later first found.literal (denials (neighbors u more.rest)) found.among; denies = found.denies })
    ];
    last_refers = more.last_refers;
  }
    where
      u : Term
      u = place.right

      left_is : place.left ≡ t
      left_is = (same a a place.left t place.left_refers refers).0 refl

      first : Term
      first = not_of (equality t u)

      denies : IsDenialOf p v (a, b) (not_of (equality t u))
      denies = record { left = t; right = u; left_refers = refers; right_refers = place.right_refers; is = refl }

      made : IsMadeFor p v (not_of (equality t u))
      made = subst (λ y. IsMadeFor p v (not_of (equality y u))) left_is (apart place.left u place.paired)

      next_side : (sort : Sort) → IsSideAt p sort t → IsSideAt p sort u
      next_side sort h =
          let same_sort : place.sides.sort ≡ sort = one t place.sides.sort sort (subst (λ y. IsOf y place.sides.sort) left_is place.sides.left.0) h.0 in
          subst (λ s. IsSideAt p s u) same_sort place.sides.right

  terms_from : (a : ℕ) (t : Term) (others : List ℕ) → RefersTo p.symbols.now v a t → ((q : ℕ × ℕ) → Contains (pairs_from a others) q → IsPlaceAt p v q.0 q.1)
      → AreTermsFrom p v a t others
  terms_from a t [] refers places = record {
    rest = [];
    refer = tt;
    some = λ none. absurd (none refl);
    sides = λ sort h. All-nil (IsSideAt p sort);
    each = λ x has. absurd (contains_none x has);
    all = λ q has. absurd (contains_none q has);
    last_refers = refers;
  }
  terms_from a t (b ∷ bs) refers places =
      let place : IsPlaceAt p v a b = places (a, b) (contains_head (a, b) (pairs_from b bs)) in
      terms_next a b t bs refers place
      (terms_from b place.right bs place.right_refers (λ q has. places q (contains_later (a, b) q (pairs_from b bs) has)))

-- what eq_transitive makes of a way
pub record IsTold (p : Site) (v : TermsView) (ends : ℕ × ℕ) (refs : List ℕ) (pairs : List (ℕ × ℕ)) : Type 0 where
  pub first : Term
  pub rest : List Term
  pub refer : ReferToAll p.symbols.now v refs (first ∷ rest)
  pub way : AreWay p v refs
  pub made : (x : Term) → Contains (way_clause first rest) x → IsMadeFor p v x
  pub each : (x : Term) → Contains (way_clause first rest) x → IsGiven p v x ⊎ IsOwed p v pairs x
  pub all : (q : ℕ × ℕ) → Contains pairs q → HasDenial p v (way_clause first rest) q

some_pairs : (a : ℕ) (bs : List ℕ) → pairs_from a bs ≢ [] → bs ≢ []
some_pairs a [] some e = some refl
some_pairs a (b ∷ bs) some e = absurd cc

has_more : (p : Site) (v : TermsView) (xs ys : List Term) (q : ℕ × ℕ) → HasDenial p v xs q → HasDenial p v (xs ++ ys) q
has_more p v xs ys q h = record { literal = h.literal; among = in_left xs ys h.literal h.among; denies = h.denies }
  where
    in_left : (xs ys : List Term) (r : Term) → Contains xs r → Contains (xs ++ ys) r
    in_left [] ys r has = absurd (contains_none r has)
    in_left (x ∷ xs) ys r has = elim (contains_cases x r xs has) [
      | inl here ↦ subst (Contains (x ∷ (xs ++ ys))) here (contains_head x (xs ++ ys))
      | inr below ↦ contains_later x r (xs ++ ys) (in_left xs ys r below)
    ]

first_side : (p : Site) (v : TermsView) → AreOne p.symbols.now v → (a b : ℕ) (t : Term) → RefersTo p.symbols.now v a t → IsPlaceAt p v a b
    → (sort : Sort) × IsSideAt p sort t
first_side p v same a b t refers h =
    (h.sides.sort, subst (IsSideAt p h.sides.sort) ((same a a h.left t h.left_refers refers).0 refl) h.sides.left)

pub told_way : HaveOneSort → (p : Site) (v : TermsView) → AreOne p.symbols.now v → AreLiteralsAt p v (clause_of_command p)
    → (ends : ℕ × ℕ) (refs : List ℕ) (pairs : List (ℕ × ℕ)) → pairs ≢ [] → IsWayGiven p v ends refs pairs → IsTold p v ends refs pairs
told_way one p v same literals ends refs pairs some h = record {
  first = t;
  rest = terms.rest;
  refer = refer;
  way = record {
    sort = side.0;
    first = t;
    others = terms.rest;
    refer = refer;
    some = terms.some some_others;
    first_fits = side.1;
    fit = terms.sides side.0 side.1;
  };
  made = λ x has. elim (Contains-append_cases (denials (neighbors t terms.rest)) (equality t (last_from t terms.rest) ∷ []) x has) [
    | inl owes ↦ (terms.each x owes).3
    | inr last ↦ given_made p v x (last_given x last)
  ];
  each = λ x has. elim (Contains-append_cases (denials (neighbors t terms.rest)) (equality t (last_from t terms.rest) ∷ []) x has) [
    | inl owes ↦ (let found = terms.each x owes in
        inr (record { pair = found.0; among = subst (λ ps. Contains ps found.0) (sym h.trail.pairs_are) found.1; denies = found.2; made = found.3 }))
    | inr last ↦ inl (last_given x last)
  ];
  all = λ q has.
      has_more p v (denials (neighbors t terms.rest)) (equality t (last_from t terms.rest) ∷ []) q
      (terms.all q (subst (λ ps. Contains ps q) h.trail.pairs_are has));
}
  where
    t : Term
    t = h.given.left

    others : List ℕ
    others = h.trail.others

    some_others : others ≢ []
    some_others = some_pairs ends.0 others (subst (λ ps. ps ≢ []) h.trail.pairs_are some)

    places : (q : ℕ × ℕ) → Contains (pairs_from ends.0 others) q → IsPlaceAt p v q.0 q.1
    places q has = ends_place p v literals same h.sides h.denied q.0 q.1 (h.trail.linked q (subst (λ ps. Contains ps q) (sym h.trail.pairs_are) has))

    terms : AreTermsFrom p v ends.0 t others
    terms = terms_from one p v same ends.0 t others h.given.left_refers places

    refer : ReferToAll p.symbols.now v refs (t ∷ terms.rest)
    refer = subst (λ rs. ReferToAll p.symbols.now v rs (t ∷ terms.rest)) (sym h.trail.refs_are) (h.given.left_refers, terms.refer)

    side : (sort : Sort) × IsSideAt p sort t
    side = go others some_others places
      where
        go : (bs : List ℕ) → bs ≢ [] → ((q : ℕ × ℕ) → Contains (pairs_from ends.0 bs) q → IsPlaceAt p v q.0 q.1) → (sort : Sort) × IsSideAt p sort t
        go [] none f = absurd (none refl)
        go (b ∷ bs) none f = first_side p v same ends.0 b t h.given.left_refers (f (ends.0, b) (contains_head (ends.0, b) (pairs_from b bs)))

    last_is : last_from t terms.rest ≡ h.given.right
    last_is = (same (last_of ends.0 others) ends.1 (last_from t terms.rest) h.given.right terms.last_refers h.given.right_refers).0 h.trail.last

    last_given : (x : Term) → Contains (equality t (last_from t terms.rest) ∷ []) x → IsGiven p v x
    last_given x has = elim (contains_cases (equality t (last_from t terms.rest)) x [] has) [
      | inl here ↦ subst (IsGiven p v) (ap (equality t) (sym last_is) ∙ here) h.given.given
      | inr none ↦ absurd (contains_none x none)
    ]

-- where the ends are one, the command's clause has what is equal to itself
pub told_one : (p : Site) (v : TermsView) → AreOne p.symbols.now v → (ends : ℕ × ℕ) (refs : List ℕ) → IsWayGiven p v ends refs [] → (t : Term)
    → RefersTo p.symbols.now v ends.0 t → IsGiven p v (equality t t)
told_one p v same ends refs h t refers =
    let ends_one : ends.0 ≡ ends.1 = go h.trail.others h.trail.pairs_are h.trail.last in
    let left : h.given.left ≡ t = (same ends.0 ends.0 h.given.left t h.given.left_refers refers).0 refl in
    let right : h.given.right ≡ t = (same ends.1 ends.0 h.given.right t h.given.right_refers refers).0 (sym ends_one) in
    subst (λ x. IsGiven p v (equality t x)) right (subst (λ x. IsGiven p v (equality x h.given.right)) left h.given.given)
  where
    go : (bs : List ℕ) → [] ≡ pairs_from ends.0 bs → last_of ends.0 bs ≡ ends.1 → ends.0 ≡ ends.1
    go [] none last = last
    go (b ∷ bs) none last = absurd cc

-- what follows from a plan
pub plan_way : (p : Site) (v : TermsView) (plan : Plan) → IsPlan p v plan → IsWayGiven p v plan.ends plan.trail.refs.items plan.trail.pairs.items
plan_way p v plan h = record { sides = h.sides; trail = h.trail; denied = h.denied; given = h.given }

pub plan_repairable : (p : Site) (v w : TermsView) (plan : Plan) → AreOne p.symbols.now v → AreLiteralsAt p v (clause_of_command p) → KeepsTerms v w
    → IsPlan p v plan → AreRepairable p w plan.table plan.trail.pairs.items
plan_repairable p v w plan same literals keeps h = record {
  sides = h.sides;
  is_table = h.is_table;
  denied = λ q has. denied_later p v w keeps q (h.denied q has);
  places = λ q has. place_later p v w keeps q.0 q.1 (ends_place p v literals same h.sides h.denied q.0 q.1 (h.trail.linked q has));
  linked = λ q has. inl (h.trail.linked q has);
}

-- a whole clause is placed
pub went_clause : (p : Site) (v w : TermsView) (ts : List Term) → KeepsTerms v w → ((x : Term) → Contains ts x → IsMadeFor p v x)
    → PlacesCellsOf p.symbols.now v.pass w.pass (Contains ts) → Went p v w
went_clause p v w ts keeps made placed = record {
  keeps = keeps;
  placed = places_more p.symbols.now v.pass w.pass (Contains ts) (IsMadeFor p w) (λ x has. made_later p v w keeps x (made x has)) placed;
}

pub lacks_clause : (p : Site) (v w : TermsView) (ts : List Term) → KeepsTerms v w → ((x : Term) → Contains ts x → IsMadeFor p v x)
    → LacksCellOf p.symbols.now w.pass (Contains ts) → LacksRoom p w
lacks_clause p v w ts keeps made lacks = lacks_more p.symbols.now w.pass (Contains ts) (IsMadeFor p w) (λ x has. made_later p v w keeps x (made x has)) lacks

-- the step that has the clause of a way owes its denials
pub owing_way : (p : Site) (v w : TermsView) (ends : ℕ × ℕ) (refs : List ℕ) (pairs : List (ℕ × ℕ)) (steps : List AddedStep) (link : Link) → KeepsTerms v w
    → (told : IsTold p v ends refs pairs) → LinkSays p w steps link (way_clause told.first told.rest) → IsOwing p w steps link pairs
owing_way p v w ends refs pairs steps link keeps told says = record {
  clause = way_clause told.first told.rest;
  says = says;
  each = λ x has. elim (told.each x has) [ inl a ↦ inl (given_later p v w keeps x a) | inr a ↦ inr (owed_later p v w keeps pairs x a) ];
  all = λ q has. has_later p v w keeps (way_clause told.first told.rest) q (told.all q has);
}

pub owing_one : (p : Site) (w : TermsView) (steps : List AddedStep) (link : Link) (t : Term) → LinkSays p w steps link (equality t t ∷ [])
    → IsGiven p w (equality t t) → IsOwing p w steps link []
owing_one p w steps link t says given = record {
  clause = equality t t ∷ [];
  says = says;
  each = λ x has. elim (contains_cases (equality t t) x [] has) [ inl e ↦ inl (subst (IsGiven p w) e given) | inr none ↦ absurd (contains_none x none) ];
  all = λ q has. absurd (contains_none q has);
}

-- a term that the command equates with itself
pub record IsOneGiven (p : Site) (v : TermsView) (a : ℕ) : Type 0 where
  pub term : Term
  pub refers : RefersTo p.symbols.now v a term
  pub given : IsGiven p v (equality term term)
  pub side : IsTermAt p v a

pub one_given : (p : Site) (v : TermsView) → AreOne p.symbols.now v → AreLiteralsAt p v (clause_of_command p) → (ends : ℕ × ℕ) (refs : List ℕ)
    (pairs : List (ℕ × ℕ)) → pairs ≡ [] → IsWayGiven p v ends refs pairs → IsOneGiven p v ends.0
one_given p v same literals ends refs pairs none h =
    let t = h.given.left in
    let given = told_one p v same ends refs (subst (IsWayGiven p v ends refs) none h) t h.given.left_refers in
    let sides = sides_fit p t t (given_fits p v literals same (equality t t) given) in
    record {
      term = t;
      refers = h.given.left_refers;
      given = given;
      side = record { sort = sides.sort; term = t; refers = h.given.left_refers; fits = sides.left };
    }
