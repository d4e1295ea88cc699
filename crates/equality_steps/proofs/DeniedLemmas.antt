-- Private. Clauses that deny equalities: how they come together, and what the rules without premises ask of them.
use Rattle.std.proofs.Common.{◌≡◌, ◌≢◌, inl, inr, ◌<◌, ◌≤◌, ◌+◌, ℕ, zero, suc, List, [], ◌∷◌, ◌++◌, take, get_or, length, zip}
use Rattle.std.proofs.Common.{All, Contains, refl, sym, ◌∙◌, ap, subst, arith, append_assoc, append-nil}
use Rattle.std.proofs.lemmas.List.Elements.{All-nil, All-cons, All-head, All-tail, Contains-append_left, Contains-append_right}
use Rattle.std.specs.List.{AllZip}
use Rattle.pair_pool.specs.Trees.{Tree, leaf, cell}
use Rattle.pair_pool.specs.Views.{PassView, IsListed}
use Rattle.sym_table.specs.Leaf.{operator}
use Rattle.sym_table.specs.Table.{Table, IsTable}
use Rattle.term_model.specs.declared.symbols.Op.{Op}
use Rattle.term_model.specs.declared.symbols.Sort.{Sort}
use Rattle.term_model.specs.Flips.{equality}
use Rattle.term_model.specs.Terms.{Term, operation, no_terms, not_of}
use Rattle.term_model.proofs.Lists.{list_of-terms_of, contains_cases, contains_head, contains_later, contains_none}
use Rattle.term_model.proofs.Zips.{zip_at, zip_append, zip_length, zip_weaken}
use Rattle.term_pool.proofs.Keeping.{terms-refl, terms-trans}
use Rattle.term_pool.proofs.PlacedCells.{places_none, places_of_term, places_more, places_more_then, lacks_more}
use Rattle.term_pool.specs.Building.{IsCellIn}
use Rattle.term_pool.specs.Placing.{PlacesTerm, LacksRoomFor, PlacesCellsOf, LacksCellOf}
use Rattle.term_pool.specs.Reading.{arguments_of, IsLet}
use Rattle.term_pool.specs.StandsFor.{nil_tree}
use Rattle.term_pool.specs.Views.{TermsView, KeepsTerms, RefersTo, ReferToAll, IsTerm}
use Rattle.rule_model.specs.Congruence.{Head, applied, denials, units, ArePlaces, IsChain}
use Rattle.rule_model.specs.Congruence as congruence
use Rattle.equality_steps.specs.Clauses.{AddsLiterals}
use Rattle.equality_steps.specs.Denied.{neighbors, last_from}
use Rattle.equality_steps.specs.declared.site.Site.{Site}
use Rattle.equality_steps.specs.Sites.{AreSides, IsLiteralAt, IsSideAt}
use Rattle.equality_steps.proofs.SiteLemmas.{equality_fits, negation_fits}

-- cells of a term are cells of its negation
module _ (s : Table) (table : IsTable s) where
  cell_under : (pass : PassView) (a b : ℕ) (tree : Tree) → IsCellIn pass a b tree → IsCellIn pass a b (cell (leaf 4) (cell tree nil_tree))
  cell_under pass a b tree h = record {
    first = h.first;
    second = h.second;
    first_known = h.first_known;
    second_known = h.second_known;
    part = inr (inr (inr (inl h.part)));
  }

  pub places_under : (old new : PassView) (t : Term) → PlacesTerm s old new t → PlacesTerm s old new (not_of t)
  places_under old new t h = record {
    tree = cell (leaf 4) (cell h.tree nil_tree);
    stands = (table.begins 4 (operator Op.Not) refl, (h.stands, refl));
    placed = λ r a b placed. elim (h.placed r a b placed) [ inl before ↦ inl before | inr here ↦ inr (cell_under new a b h.tree here) ];
  }

  pub lacks_under : (new : PassView) (t : Term) → LacksRoomFor s new t → LacksRoomFor s new (not_of t)
  lacks_under new t h = record {
    tree = cell (leaf 4) (cell h.tree nil_tree);
    stands = (table.begins 4 (operator Op.Not) refl, (h.stands, refl));
    full = record { first = h.full.first; second = h.full.second; wanted = cell_under new _ _ h.tree h.full.wanted; full = h.full.full };
  }

-- literals behind literals
module _ (s : Table) where
  pub adds_none : (v : TermsView) (clause : List ℕ) → AddsLiterals s v clause clause []
  adds_none v clause = record { more = []; is = sym (append-nil clause); stand = tt }

  later : (v w : TermsView) → KeepsTerms v w → (rs : List ℕ) (ts : List Term) → ReferToAll s v rs ts → ReferToAll s w rs ts
  later v w keeps rs ts h =
      zip_weaken (RefersTo s v) (RefersTo s w) (λ r t x. record { tree = x.tree; known = keeps.pass.grows r x.tree x.known; stands = x.stands }) rs ts h

  pub adds_then : (v w : TermsView) → KeepsTerms v w → (a b d : List ℕ) (ts us : List Term) → AddsLiterals s v a b ts → AddsLiterals s w b d us
      → AddsLiterals s w a d (ts ++ us)
  adds_then v w keeps a b d ts us h k = record {
    more = h.more ++ k.more;
    is = k.is ∙ (ap (λ xs. xs ++ k.more) h.is ∙ append_assoc a h.more k.more);
    stand = zip_append (RefersTo s w) h.more ts k.more us (later v w keeps h.more ts h.stand) k.stand;
  }

  -- all of a clause that was empty
  pub adds_whole : (v : TermsView) (clause : List ℕ) (ts : List Term) → AddsLiterals s v [] clause ts → ReferToAll s v clause ts
  adds_whole v clause ts h = subst (λ rs. ReferToAll s v rs ts) (sym h.is) h.stand

-- what is placed for some literals is for more
pub places_left : (s : Table) (old new : PassView) (ts us : List Term) → PlacesCellsOf s old new (Contains ts) → PlacesCellsOf s old new (Contains (ts ++ us))
places_left s old new ts us h = places_more s old new (Contains ts) (Contains (ts ++ us)) (Contains-append_left ts us) h

pub places_right : (s : Table) (old new : PassView) (ts us : List Term) → PlacesCellsOf s old new (Contains us) → PlacesCellsOf s old new (Contains (ts ++ us))
places_right s old new ts us h = places_more s old new (Contains us) (Contains (ts ++ us)) (Contains-append_right ts us) h

abbrev pub blank : Term
blank = operation Op.True no_terms

-- the denials of the first places, one more
abbrev pub denial_at : List Term → List Term → ℕ → Term
denial_at ts us i = not_of (equality (get_or ts i blank) (get_or us i blank))

denials_next : (ts us : List Term) (i : ℕ) → i < length ts → i < length us
    → denials (zip (take (suc i) ts) (take (suc i) us)) ≡ denials (zip (take i ts) (take i us)) ++ denial_at ts us i ∷ []
denials_next [] us i h k = absurd (omega arith)
denials_next (t ∷ ts) [] i h k = absurd (omega arith)
denials_next (t ∷ ts) (u ∷ us) zero h k = refl
denials_next (t ∷ ts) (u ∷ us) (suc i) h k = ap (λ xs. not_of (equality t u) ∷ xs) (denials_next ts us i (omega arith) (omega arith))

denials_more : (ts us : List Term) (i : ℕ) → i < length ts → i < length us
    → denials (zip (take (i + 1) ts) (take (i + 1) us)) ≡ denials (zip (take i ts) (take i us)) ++ denial_at ts us i ∷ []
denials_more ts us i h k =
    ap (λ n. denials (zip (take n ts) (take n us))) (let e : i + 1 ≡ suc i = omega arith in e) ∙ denials_next ts us i h k

denial_among : (ts us : List Term) (i : ℕ) → i < length ts → i < length us → Contains (denials (zip ts us)) (denial_at ts us i)
denial_among [] us i h k = absurd (omega arith)
denial_among (t ∷ ts) [] i h k = absurd (omega arith)
denial_among (t ∷ ts) (u ∷ us) zero h k = contains_head (not_of (equality t u)) (denials (zip ts us))
denial_among (t ∷ ts) (u ∷ us) (suc i) h k =
    contains_later (not_of (equality t u)) (denial_at ts us i) (denials (zip ts us)) (denial_among ts us i (omega arith) (omega arith))

-- as many as there are in the second list
denials_whole : (ts us : List Term) (n : ℕ) → n ≡ length us → n ≤ length ts → denials (zip (take n ts) (take n us)) ≡ denials (zip ts us)
denials_whole ts [] zero h k = none ts
  where
    none : (xs : List Term) → [] ≡ denials (zip xs [])
    none [] = refl
    none (x ∷ xs) = refl
denials_whole ts (u ∷ us) zero h k = absurd (omega arith)
denials_whole ts [] (suc n) h k = absurd (omega arith)
denials_whole [] (u ∷ us) (suc n) h k = absurd (omega arith)
denials_whole (t ∷ ts) (u ∷ us) (suc n) h k =
    ap (λ xs. not_of (equality t u) ∷ xs) (denials_whole ts us n (omega arith) (omega arith))

-- arguments of applications
pub no_let_applied : (head : Head) (ts : List Term) → IsLet (applied head ts) → ⊥
no_let_applied (congruence.operator op) ts is = is
no_let_applied (congruence.function f) ts is = is

pub arguments_applied : (head : Head) (ts : List Term) → arguments_of (applied head ts) ≡ ts
arguments_applied (congruence.operator op) ts = list_of-terms_of ts
arguments_applied (congruence.function f) ts = list_of-terms_of ts

-- a way
pub zip_neighbors : (t : Term) (us : List Term) → zip (t ∷ us) us ≡ neighbors t us
zip_neighbors t [] = refl
zip_neighbors t (u ∷ us) = ap (λ xs. (t, u) ∷ xs) (zip_neighbors u us)

pub last_item : (t : Term) (us : List Term) → get_or (t ∷ us) (length us) blank ≡ last_from t us
last_item t [] = refl
last_item t (u ∷ us) = last_item u us

pub way_chain : (t : Term) (us : List Term) → IsChain (units (neighbors t us)) t (last_from t us)
way_chain t [] = refl
way_chain t (u ∷ us) = (u, refl, way_chain u us)

pub units_some : (t : Term) (us : List Term) → us ≢ [] → units (neighbors t us) ≢ []
units_some t [] some e = some refl
units_some t (u ∷ us) some e = cc

pub are_places : (ts us : List Term) → length ts ≡ length us → ArePlaces (units (zip ts us)) ts us
are_places [] [] e = refl
are_places [] (u ∷ us) e = absurd (omega arith)
are_places (t ∷ ts) [] e = absurd (omega arith)
are_places (t ∷ ts) (u ∷ us) e = (units (zip ts us), refl, are_places ts us (omega arith))

module _ (p : Site) where
  denial_fits : (t u : Term) → AreSides p t u → IsLiteralAt p (not_of (equality t u))
  denial_fits t u h = negation_fits p (equality t u) (equality_fits p t u h)

  pub denials_fit : (ts us : List Term) → AllZip (AreSides p) ts us → All (IsLiteralAt p) (denials (zip ts us))
  denials_fit [] us h = All-nil (IsLiteralAt p)
  denials_fit (t ∷ ts) [] h = absurd h
  denials_fit (t ∷ ts) (u ∷ us) h =
      All-cons (IsLiteralAt p) (not_of (equality t u)) (denials (zip ts us)) (denial_fits t u h.0) (denials_fit ts us h.1)

  pub way_fits : (sort : Sort) (t : Term) (us : List Term) → IsSideAt p sort t → All (IsSideAt p sort) us
      → All (IsLiteralAt p) (denials (neighbors t us)) × IsSideAt p sort (last_from t us)
  way_fits sort t [] h all = (All-nil (IsLiteralAt p), h)
  way_fits sort t (u ∷ us) h all =
      let here = All-head (IsSideAt p sort) u us all in
      let rest = way_fits sort u us here (All-tail (IsSideAt p sort) u us all) in
      let sides : AreSides p t u = record { sort = sort; left = h; right = here } in (
        All-cons (IsLiteralAt p) (not_of (equality t u)) (denials (neighbors u us)) (denial_fits t u sides) rest.0,
        rest.1,
      )

-- what is known of denials that are added in turn
pub record AreDenied (s : Table) (left right : List ℕ) (v w : TermsView) (old now : List ℕ) (place : ℕ) : Type 0 where
  pub keeps : KeepsTerms v w
  pub added : (ts us : List Term) → ReferToAll s v left ts → ReferToAll s v right us
      → AddsLiterals s w old now (denials (zip (take place ts) (take place us)))
  pub placed : (ts us : List Term) → ReferToAll s v left ts → ReferToAll s v right us → PlacesCellsOf s v.pass w.pass (Contains (denials (zip ts us)))

pub none_denied : (s : Table) (left right : List ℕ) (v : TermsView) (old : List ℕ) → AreDenied s left right v v old old 0
none_denied s left right v old = record {
  keeps = terms-refl v;
  added = λ ts us l r. adds_none s v old;
  placed = λ ts us l r. places_none s v.pass v.pass (Contains (denials (zip ts us))) refl;
}

module _ (s : Table) (left right : List ℕ) (v w x : TermsView) (old now : List ℕ) (place a b : ℕ) (below : place < length right)
    (long : length right ≤ length left) (a_is : a ≡ get_or left place a) (b_is : b ≡ get_or right place b) (h : AreDenied s left right v w old now place)
    (keeps : KeepsTerms w x) where
  left_here : (ts : List Term) → ReferToAll s v left ts → RefersTo s w a (get_or ts place blank)
  left_here ts l =
      let there = zip_at (RefersTo s v) left ts place a blank l (omega arith) in
      let refers = subst (λ r. RefersTo s v r (get_or ts place blank)) (sym a_is) there in
      record { tree = refers.tree; known = h.keeps.pass.grows a refers.tree refers.known; stands = refers.stands }

  right_here : (us : List Term) → ReferToAll s v right us → RefersTo s w b (get_or us place blank)
  right_here us r =
      let there = zip_at (RefersTo s v) right us place b blank r below in
      let refers = subst (λ q. RefersTo s v q (get_or us place blank)) (sym b_is) there in
      record { tree = refers.tree; known = h.keeps.pass.grows b refers.tree refers.known; stands = refers.stands }

  here_among : (ts us : List Term) → ReferToAll s v left ts → ReferToAll s v right us → (t : Term) → Contains (denial_at ts us place ∷ []) t
      → Contains (denials (zip ts us)) t
  here_among ts us l r t has =
      let lefts = zip_length (RefersTo s v) left ts l in
      let rights = zip_length (RefersTo s v) right us r in
      elim (contains_cases (denial_at ts us place) t [] has) [
        | inl same ↦ subst (Contains (denials (zip ts us))) same (denial_among ts us place (omega arith) (omega arith))
        | inr none ↦ absurd (contains_none t none)
      ]

  pub denied_placed : ((t u : Term) → RefersTo s w a t → RefersTo s w b u → PlacesCellsOf s w.pass x.pass (Contains (not_of (equality t u) ∷ [])))
      → (ts us : List Term) → ReferToAll s v left ts → ReferToAll s v right us → PlacesCellsOf s v.pass x.pass (Contains (denials (zip ts us)))
  denied_placed placed ts us l r =
      places_more_then s v.pass w.pass x.pass (Contains (denials (zip ts us))) keeps.pass (h.placed ts us l r)
      (places_more s w.pass x.pass (Contains (denial_at ts us place ∷ [])) (Contains (denials (zip ts us))) (here_among ts us l r)
      (placed (get_or ts place blank) (get_or us place blank) (left_here ts l) (right_here us r)))

  pub denied_lacks : ((t u : Term) → RefersTo s w a t → RefersTo s w b u → LacksCellOf s x.pass (Contains (not_of (equality t u) ∷ [])))
      → (ts us : List Term) → ReferToAll s v left ts → ReferToAll s v right us → LacksCellOf s x.pass (Contains (denials (zip ts us)))
  denied_lacks lacks ts us l r =
      lacks_more s x.pass (Contains (denial_at ts us place ∷ [])) (Contains (denials (zip ts us))) (here_among ts us l r)
      (lacks (get_or ts place blank) (get_or us place blank) (left_here ts l) (right_here us r))

  pub keeps_both : KeepsTerms v x
  keeps_both = terms-trans v w x h.keeps keeps

  pub denied_more : (new : List ℕ) → ((t u : Term) → RefersTo s w a t → RefersTo s w b u → AddsLiterals s x now new (not_of (equality t u) ∷ []))
      → ((t u : Term) → RefersTo s w a t → RefersTo s w b u → PlacesCellsOf s w.pass x.pass (Contains (not_of (equality t u) ∷ [])))
      → AreDenied s left right v x old new (place + 1)
  denied_more new added placed = record {
    keeps = keeps_both;
    added = λ ts us l r.
        let lefts = zip_length (RefersTo s v) left ts l in
        let rights = zip_length (RefersTo s v) right us r in
        subst (AddsLiterals s x old new) (sym (denials_more ts us place (omega arith) (omega arith)))
        (adds_then s w x keeps old now new (denials (zip (take place ts) (take place us))) (denial_at ts us place ∷ []) (h.added ts us l r)
        (added (get_or ts place blank) (get_or us place blank) (left_here ts l) (right_here us r)));
    placed = denied_placed placed;
  }

-- all places
pub denied_whole : (s : Table) (left right : List ℕ) (v w : TermsView) (old now : List ℕ) (place : ℕ) → place ≡ length right → length right ≤ length left
    → AreDenied s left right v w old now place → (ts us : List Term) → ReferToAll s v left ts → ReferToAll s v right us
    → AddsLiterals s w old now (denials (zip ts us))
denied_whole s left right v w old now place whole long h ts us l r =
    let lefts = zip_length (RefersTo s v) left ts l in
    let rights = zip_length (RefersTo s v) right us r in
    subst (AddsLiterals s w old now) (denials_whole ts us place (omega arith) (omega arith)) (h.added ts us l r)

-- a denial by its two cells' terms
pub denial_placed : (s : Table) → IsTable s → (v w x : TermsView) (t u : Term) → PlacesTerm s v.pass w.pass (equality t u)
    → PlacesTerm s w.pass x.pass (not_of (equality t u)) → KeepsTerms w x → PlacesCellsOf s v.pass x.pass (Contains (not_of (equality t u) ∷ []))
denial_placed s table v w x t u one other keeps =
    let here = contains_head (not_of (equality t u)) [] in
    places_more_then s v.pass w.pass x.pass (Contains (not_of (equality t u) ∷ [])) keeps.pass
    (places_of_term s v.pass w.pass (Contains (not_of (equality t u) ∷ [])) (not_of (equality t u)) here
    (places_under s table v.pass w.pass (equality t u) one))
    (places_of_term s w.pass x.pass (Contains (not_of (equality t u) ∷ [])) (not_of (equality t u)) here other)

-- what one call placed for some literals, and another one for those behind them
pub placed_then : (s : Table) (v w x : TermsView) (ts us : List Term) → KeepsTerms w x → PlacesCellsOf s v.pass w.pass (Contains ts)
    → PlacesCellsOf s w.pass x.pass (Contains us) → PlacesCellsOf s v.pass x.pass (Contains (ts ++ us))
placed_then s v w x ts us keeps h k =
    places_more_then s v.pass w.pass x.pass (Contains (ts ++ us)) keeps.pass (places_left s v.pass w.pass ts us h) (places_right s w.pass x.pass ts us k)

pub lacks_left : (s : Table) (new : PassView) (ts us : List Term) → LacksCellOf s new (Contains ts) → LacksCellOf s new (Contains (ts ++ us))
lacks_left s new ts us h = lacks_more s new (Contains ts) (Contains (ts ++ us)) (Contains-append_left ts us) h

pub lacks_right : (s : Table) (new : PassView) (ts us : List Term) → LacksCellOf s new (Contains us) → LacksCellOf s new (Contains (ts ++ us))
lacks_right s new ts us h = lacks_more s new (Contains us) (Contains (ts ++ us)) (Contains-append_right ts us) h

pub term_later : (s : Table) (v w : TermsView) → KeepsTerms v w → (r : ℕ) → IsTerm s v r → IsTerm s w r
term_later s v w keeps r h = record {
  means = h.means;
  refers = record { tree = h.refers.tree; known = keeps.pass.grows r h.refers.tree h.refers.known; stands = h.refers.stands };
}

pub refer_later : (s : Table) (v w : TermsView) → KeepsTerms v w → (rs : List ℕ) (ts : List Term) → ReferToAll s v rs ts → ReferToAll s w rs ts
refer_later = later

-- a call that placed something behind two that did not
pub unplaced_before : (s : Table) (v w x y : TermsView) (P : Term → Type 0) → w.pass.placed ≡ v.pass.placed → x.pass.placed ≡ w.pass.placed
    → PlacesCellsOf s x.pass y.pass P → PlacesCellsOf s v.pass y.pass P
unplaced_before s v w x y P e f h r a b placed = elim (h r a b placed) [
  | inl before ↦ inl (subst (λ ls. IsListed ls r a b) (f ∙ e) before)
  | inr here ↦ inr here
]
