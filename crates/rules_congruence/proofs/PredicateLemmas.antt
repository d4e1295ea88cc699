-- Literals of Bool, and clauses that deny equalities before their last two literals.
use Rattle.std.proofs.Common.{◌≡◌, ◌≢◌, ◌↔◌, ◌⊎◌, inl, inr, ℕ, Bool, true, List, All, [], ◌∷◌, ◌++◌, refl, sym, ap, ◌∙◌, subst, IsTrue}
use Rattle.std.specs.Borrow.{Bor}
use Rattle.std.proofs.lemmas.List.Elements.{All-nil, All-cons, All-head, All-tail}
use Rattle.rule_model.specs.Clausal.{as_it_stands}
use Rattle.rule_model.specs.Congruence.{Equates, Implies, IsImplied, AreCongruent, AreCongruentTruths, units, denials, Denies, Head}
use Rattle.rule_model.proofs.Joining.{equal_sorts}
use Rattle.sort_check.specs.WellSorted.{IsWellSortedTerm}
use Rattle.sort_check.proofs.Leaves.{sorted_is_term}
use Rattle.sym_table.specs.Table.{Table}
use Rattle.term_model.specs.declared.symbols.Sort.{Sort}
use Rattle.term_model.specs.Flips.{equality}
use Rattle.term_model.specs.Sorts.{IsOf, IsWellSorted}
use Rattle.term_model.specs.Terms.{Term, not_of}
use Rattle.term_model.proofs.Sorting.{one_sort, when-same}
use Rattle.term_parts.specs.Parts.{AreSidesOf}
use Rattle.term_pool.specs.Views.{TermsView, RefersTo, IsTerm, ReferToAll}
use Rattle.term_pool.proofs.References.{AreOne}
use Rattle.rules_congruence.specs.Clauses.{lists_of}
use Rattle.rules_congruence.specs.Predicates.{GivesOther, GivesPredicate}
use Rattle.rules_congruence.specs.declared.uses.Uses.{Uses}
use Rattle.rules_congruence.specs.Sides.{IsGiven, AreDenied}
use Rattle.rules_congruence.specs.Steps.{AreTerms}
use Rattle.rules_congruence.specs.Uses.{Together}
use Rattle.term_parts.specs.Judging.{ReferToClauses}
use Rattle.rules_congruence.proofs.Literals.{same_last, same_denials, denied_equalities}
use Rattle.rules_congruence.proofs.Referring.{zip_split}
use Rattle.rules_congruence.proofs.TurningLemmas.{premised_none}

-- a well-sorted equality is of Bool
equality_sort : (t u : Term) → IsWellSorted (equality t u) → IsOf (equality t u) Sort.Bool
equality_sort t u h = subst (IsOf (equality t u)) (when-same _ Sort.Bool h.sort h.of.is) h.of

-- references that stand for well-sorted terms
module _ (s : Table) (v : TermsView) where
  pub sorted_are_terms : (rs : List ℕ) → All (IsWellSortedTerm s v) rs → AreTerms s v rs
  sorted_are_terms [] h = All-nil (IsTerm s v)
  sorted_are_terms (r ∷ rs) h =
      All-cons (IsTerm s v) r rs
      (sorted_is_term s v r (All-head (IsWellSortedTerm s v) r rs h))
      (sorted_are_terms rs (All-tail (IsWellSortedTerm s v) r rs h))

  pub last_sorted : (clause front : List ℕ) (r : ℕ) → clause ≡ front ++ r ∷ [] → All (IsWellSortedTerm s v) clause → IsWellSortedTerm s v r
  last_sorted clause front r is all = go front (subst (All (IsWellSortedTerm s v)) is all)
    where
      go : (front : List ℕ) → All (IsWellSortedTerm s v) (front ++ r ∷ []) → IsWellSortedTerm s v r
      go [] h = All-head (IsWellSortedTerm s v) r [] h
      go (q ∷ rs) h = go rs (All-tail (IsWellSortedTerm s v) q (rs ++ r ∷ []) h)

  -- the sides of a literal
  pub left_sorted : (r : ℕ) (p : ℕ × ℕ) → IsWellSortedTerm s v r → ((t : Term) → RefersTo s v r t → AreSidesOf s v as_it_stands p t) → IsWellSortedTerm s v p.0
  left_sorted r p h sides =
      let both = sides h.means h.refers in
      let sorts = equal_sorts both.left both.right (equality_sort both.left both.right (subst IsWellSorted both.is h.sorted)) in
      record { means = both.left; refers = both.left_refers; sorted = record { sort = sorts.sort; of = sorts.first } }

  pub equality_of : AreOne s v → (r : ℕ) → IsWellSortedTerm s v r → (t a b : Term) → RefersTo s v r t → t ≡ equality a b → IsOf (equality a b) Sort.Bool
  equality_of same r h t a b refers is = equality_sort a b (subst IsWellSorted ((same r r h.means t h.refers refers).0 refl ∙ is) h.sorted)

-- two sides of Bool
pub right_sort : (t u : Term) → IsOf (equality t u) Sort.Bool → IsOf t Sort.Bool → IsOf u Sort.Bool
right_sort t u h left =
    let sorts = equal_sorts t u h in subst (IsOf u) (one_sort t sorts.sort Sort.Bool sorts.first left) sorts.second

pub truths_by : {P : Type 0} (how : Head → List (List Term) → List Term → List Term → Type 0) (ps : List (List Term)) (t u : Term) → IsOf t Sort.Bool → IsOf u Sort.Bool → P ↔ AreCongruent how ps t u → P ↔ AreCongruentTruths how ps t u
truths_by how ps t u left right both = (
  λ h. record { left_sort = left; right_sort = right; congruent = both.0 h },
  λ h. both.1 h.congruent,
)

pub no_truths : (how : Head → List (List Term) → List Term → List Term → Type 0) (ps : List (List Term)) (t a b : Term) → t ≡ equality a b → ¬ IsOf a Sort.Bool → ¬ Equates (AreCongruentTruths how) ps (t ∷ [])
no_truths how ps t a b is fails h =
    let e : equality a b ∷ [] ≡ equality h.left h.right ∷ [] = ap (λ x. x ∷ []) (sym is) ∙ h.literal in
    let f : a ≡ h.left = cc in
    fails (subst (λ x. IsOf x Sort.Bool) (sym f) h.given.left_sort)

-- one literal that is denied, and another
pub implies_both : {P : Type 0} (related : List (List Term) → Term → Term → Type 0) (ps : List (List Term)) (t a u : Term) → t ≡ not_of a → P ↔ related ps a u → P ↔ Implies related ps (t ∷ u ∷ [])
implies_both related ps t a u is both = (
  λ h. record { left = a; right = u; literals = ap (λ x. x ∷ u ∷ []) is; given = both.0 h },
  λ h.
      let e : not_of a ∷ u ∷ [] ≡ not_of h.left ∷ h.right ∷ [] = ap (λ x. x ∷ u ∷ []) (sym is) ∙ h.literals in
      let f : a ≡ h.left = cc in
      let g : u ≡ h.right = cc in
      both.1 (subst (λ x. related ps x u) (sym f) (subst (λ x. related ps h.left x) (sym g) h.given)),
)

pub implies_none : (related : List (List Term) → Term → Term → Type 0) (ps : List (List Term)) (t u : Term) → ((a : Term) → t ≢ not_of a) → ¬ Implies related ps (t ∷ u ∷ [])
implies_none related ps t u fails h = fails h.left (let e = h.literals in cc)

pub implied_turned : (related : List (List Term) → Term → Term → Type 0) (ps : List (List Term)) (t u : Term) → Implies related ps (u ∷ t ∷ []) ↔ IsImplied related ps (t ∷ u ∷ [])
implied_turned related ps t u = (
  λ h.
      let e : u ∷ t ∷ [] ≡ not_of h.left ∷ h.right ∷ [] = h.literals in
      let f : u ≡ not_of h.left = cc in
      let g : t ≡ h.right = cc in
      record { left = h.left; right = h.right; literals = rw (f, g) refl; given = h.given },
  λ h.
      let e : t ∷ u ∷ [] ≡ h.right ∷ not_of h.left ∷ [] = h.literals in
      let f : u ≡ not_of h.left = cc in
      let g : t ≡ h.right = cc in
      record { left = h.left; right = h.right; literals = rw (f, g) refl; given = h.given },
)

pub gives_first : (uses : Uses) (ps : List (List Term)) (ts : List Term) → Implies (AreCongruent (Together uses)) ps ts → GivesOther uses ps ts
gives_first Uses.Any ps ts h = inl h
gives_first Uses.Differing ps ts h = h
gives_first Uses.Each ps ts h = h

pub gives_second : (b : Bool) (ps : List (List Term)) (t u : Term) → ¬ Implies (AreCongruent (Together Uses.Any)) ps (t ∷ u ∷ []) → IsTrue b ↔ Implies (AreCongruent (Together Uses.Any)) ps (u ∷ t ∷ []) → IsTrue b ↔ GivesOther Uses.Any ps (t ∷ u ∷ [])
gives_second b ps t u none both = (
  λ h. inr ((implied_turned (AreCongruent (Together Uses.Any)) ps t u).0 (both.0 h)),
  λ h. elim h [ inl first ↦ absurd (none first) | inr second ↦ both.1 ((implied_turned (AreCongruent (Together Uses.Any)) ps t u).1 second) ],
)

pub gives_none : (uses : Uses) (ps : List (List Term)) (ts : List Term) → uses ≢ Uses.Any → ¬ Implies (AreCongruent (Together uses)) ps ts → ¬ GivesOther uses ps ts
gives_none Uses.Any ps ts other none h = other refl
gives_none Uses.Differing ps ts other none h = none h
gives_none Uses.Each ps ts other none h = none h

-- a condition that holds of clauses of two literals alone
abbrev pub IsOfTwo : (List (List Term) → List Term → Type 0) → Type 0
IsOfTwo condition = (ps : List (List Term)) (ts : List Term) → condition ps ts → (t : Term) × (u : Term) × (ts ≡ t ∷ u ∷ [])

implies_two : (related : List (List Term) → Term → Term → Type 0) → IsOfTwo (Implies related)
implies_two related ps ts h = (not_of h.left, h.right, h.literals)

implied_two : (related : List (List Term) → Term → Term → Type 0) → IsOfTwo (IsImplied related)
implied_two related ps ts h = (h.right, not_of h.left, h.literals)

pub gives_two : (uses : Uses) → IsOfTwo (GivesOther uses)
gives_two Uses.Any ps ts (inl h) = implies_two (AreCongruent (Together Uses.Any)) ps ts h
gives_two Uses.Any ps ts (inr h) = implied_two (AreCongruent (Together Uses.Any)) ps ts h
gives_two Uses.Differing ps ts h = implies_two (AreCongruent (Together Uses.Differing)) ps ts h
gives_two Uses.Each ps ts h = implies_two (AreCongruent (Together Uses.Each)) ps ts h

-- the last two items of a list
two_more : {X : Type 0} (xs : List X) (x y : X) → xs ++ x ∷ y ∷ [] ≡ (xs ++ x ∷ []) ++ y ∷ []
two_more [] x y = refl
two_more (w ∷ xs) x y = ap (λ l. w ∷ l) (two_more xs x y)

pub record IsTwoMore (s : Table) (v : TermsView) (front : List ℕ) (q r : ℕ) (ts : List Term) : Type 0 where
  pub before : List Term
  pub first : Term
  pub second : Term
  pub is : ts ≡ (before ++ first ∷ []) ++ second ∷ []
  pub before_zip : ReferToAll s v front before
  pub first_zip : RefersTo s v q first
  pub second_zip : RefersTo s v r second

pub split_two : (s : Table) (v : TermsView) (clause front : List ℕ) (q r : ℕ) (ts : List Term) → clause ≡ (front ++ q ∷ []) ++ r ∷ [] → ReferToAll s v clause ts → IsTwoMore s v front q r ts
split_two s v clause front q r ts is refer =
    let last = zip_split (RefersTo s v) (front ++ q ∷ []) r ts (subst (λ rs. ReferToAll s v rs ts) is refer) in
    let first = zip_split (RefersTo s v) front q last.front last.front_zip in
    record {
      before = first.front;
      first = first.last;
      second = last.last;
      is = last.is ∙ ap (λ xs. xs ++ last.last ∷ []) first.is;
      before_zip = first.front_zip;
      first_zip = first.last_zip;
      second_zip = last.last_zip;
    }

-- the literals of such a condition
rest_of : (condition : List (List Term) → List Term → Type 0) → IsOfTwo condition → (ps : List (List Term)) (ts : List Term) (h : Denies condition ps ts) → (t : Term) × (u : Term) × (h.rest ≡ t ∷ u ∷ []) × (ts ≡ (denials h.sides ++ t ∷ []) ++ u ∷ [])
rest_of condition of_two ps ts h =
    let last = of_two (units h.sides) h.rest h.given in
    (last.0, last.1, last.2, h.literals ∙ ap (λ xs. denials h.sides ++ xs) last.2 ∙ two_more (denials h.sides) last.0 last.1)

pub denies_two : {P : Type 0} (s : Table) (v : TermsView) (condition : List (List Term) → List Term → Type 0) → IsOfTwo condition → (pairs : List (ℕ × ℕ)) (ps : List (List Term)) (ts before : List Term) (t u : Term) → ps ≡ [] → ts ≡ (before ++ t ∷ []) ++ u ∷ [] → AreDenied s v pairs before → ((qs : List (List Term)) → IsGiven s v pairs true qs → P ↔ condition qs (t ∷ u ∷ [])) → P ↔ Denies condition ps ts
denies_two s v condition of_two pairs ps ts before t u none is denied by =
    let given : IsGiven s v pairs true (units denied.equalities) = record {
      equalities = denied.equalities;
      refer = denied.refer;
      gathered = denied_equalities denied.equalities;
    } in
    let both = by (units denied.equalities) given in (
      λ h. record {
        sides = denied.equalities;
        rest = t ∷ u ∷ [];
        none = none;
        literals = is ∙ ap (λ xs. (xs ++ t ∷ []) ++ u ∷ []) denied.are ∙ sym (two_more (denials denied.equalities) t u);
        given = both.0 h;
      },
      λ h.
          let last = rest_of condition of_two ps ts h in
          let second = same_last (before ++ t ∷ []) (denials h.sides ++ last.0 ∷ []) u last.1 (sym is ∙ last.3) in
          let first = same_last before (denials h.sides) t last.0 second.0 in
          let same = same_denials denied.equalities h.sides (sym denied.are ∙ first.0) in
          both.1 (subst (λ es. condition (units es) (t ∷ u ∷ [])) (sym same)
          (subst (λ x. condition (units h.sides) (x ∷ u ∷ [])) (sym first.1)
          (subst (λ x. condition (units h.sides) (last.0 ∷ x ∷ [])) (sym second.1) (subst (condition (units h.sides)) last.2 h.given)))),
    )

pub denies_two_none : (condition : List (List Term) → List Term → Type 0) → IsOfTwo condition → (ps : List (List Term)) (ts before : List Term) (t u : Term) → ts ≡ (before ++ t ∷ []) ++ u ∷ [] → ((sides : List (Term × Term)) → before ≢ denials sides) → ¬ Denies condition ps ts
denies_two_none condition of_two ps ts before t u is fails h =
    let last = rest_of condition of_two ps ts h in
    let second = same_last (before ++ t ∷ []) (denials h.sides ++ last.0 ∷ []) u last.1 (sym is ∙ last.3) in
    fails h.sides (same_last before (denials h.sides) t last.0 second.0).0

pub not_denying_two : (s : Table) (v : TermsView) (condition : List (List Term) → List Term → Type 0) → IsOfTwo condition → (premises : List (Bor (List ℕ))) (clause : List ℕ) (ps : List (List Term)) (ts : List Term) → ((front : List ℕ) (q r : ℕ) → lists_of premises ≡ [] → clause ≢ (front ++ q ∷ []) ++ r ∷ []) → ReferToClauses s v premises ps → ReferToAll s v clause ts → ¬ Denies condition ps ts
not_denying_two s v condition of_two premises clause ps ts fails refer_ps refer_ts h =
    let last = rest_of condition of_two ps ts h in
    let second = last_of clause (denials h.sides ++ last.0 ∷ []) last.1 (subst (ReferToAll s v clause) last.3 refer_ts) in
    let first = last_of second.0 (denials h.sides) last.0 second.3 in
    fails first.0 first.1 second.1 (premised_none s v premises ps h.none refer_ps) (second.2 ∙ ap (λ xs. xs ++ second.1 ∷ []) first.2)
  where
    last_of : (rs : List ℕ) (us : List Term) (u : Term) → ReferToAll s v rs (us ++ u ∷ []) → (front : List ℕ) × (r : ℕ) × (rs ≡ front ++ r ∷ []) × ReferToAll s v front us
    last_of [] [] u z = absurd z
    last_of [] (w ∷ us) u z = absurd z
    last_of (r ∷ []) [] u z = ([], r, refl, tt)
    last_of (r ∷ (q ∷ rs)) [] u z = absurd z.1
    last_of (r ∷ rs) (w ∷ us) u z =
        let rest = last_of rs us u z.1 in (r ∷ rest.0, rest.1, ap (λ xs. r ∷ xs) rest.2, (z.0, rest.3))

-- denied equalities before one condition or another
pub denies_either : (one other : List (List Term) → List Term → Type 0) (ps : List (List Term)) (ts : List Term) → Denies one ps ts ⊎ Denies other ps ts → Denies (λ qs us. one qs us ⊎ other qs us) ps ts
denies_either one other ps ts (inl h) = record { sides = h.sides; rest = h.rest; none = h.none; literals = h.literals; given = inl h.given }
denies_either one other ps ts (inr h) = record { sides = h.sides; rest = h.rest; none = h.none; literals = h.literals; given = inr h.given }

pub either_denies : (one other : List (List Term) → List Term → Type 0) (ps : List (List Term)) (ts : List Term) → Denies (λ qs us. one qs us ⊎ other qs us) ps ts → Denies one ps ts ⊎ Denies other ps ts
either_denies one other ps ts h =
    elim h.given [
      | inl given ↦ inl (record { sides = h.sides; rest = h.rest; none = h.none; literals = h.literals; given = given })
      | inr given ↦ inr (record { sides = h.sides; rest = h.rest; none = h.none; literals = h.literals; given = given })
    ]

pub first_denies : (uses : Uses) (ps : List (List Term)) (ts : List Term) → Denies (Equates (AreCongruentTruths (Together uses))) ps ts → Denies (GivesPredicate uses) ps ts
first_denies uses ps ts h = denies_either (Equates (AreCongruentTruths (Together uses))) (GivesOther uses) ps ts (inl h)

pub second_denies : (uses : Uses) (b : Bool) (ps : List (List Term)) (ts : List Term) → ¬ Denies (Equates (AreCongruentTruths (Together uses))) ps ts → IsTrue b ↔ Denies (GivesOther uses) ps ts → IsTrue b ↔ Denies (GivesPredicate uses) ps ts
second_denies uses b ps ts none both = (
  λ h. denies_either (Equates (AreCongruentTruths (Together uses))) (GivesOther uses) ps ts (inr (both.0 h)),
  λ h. elim (either_denies (Equates (AreCongruentTruths (Together uses))) (GivesOther uses) ps ts h) [ inl first ↦ absurd (none first) | inr second ↦ both.1 second ],
)
