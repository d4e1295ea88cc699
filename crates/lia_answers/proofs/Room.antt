-- Private. The pool of a question has room for negations of its assertions.
use Rattle.std.proofs.Common.{◌≡◌, ◌⊎◌, inl, inr, ◌≤◌, ◌<◌, ◌+◌, ◌*◌, ℕ, zero, suc, List, [], ◌∷◌, ◌++◌, length, get_or}
use Rattle.std.proofs.Common.{take, map, Contains, refl, sym, ap, subst, ◌∙◌, arith}
use Rattle.std.specs.List.{AllZip, AllByRecursion}
use Rattle.std.proofs.lemmas.List.{take_more, map-append}
use Rattle.std.proofs.lemmas.List.Elements.{Contains-append_right}
use Rattle.std.proofs.lemmas.Slice.Zip.{all_zipped_more}
use Rattle.pair_pool.specs.Views.{PassView, IsPlaced, IsOneToOne, HasListsInOrder}
use Rattle.sym_table.specs.Table.{Table, IsTable}
use Rattle.term_model.specs.Terms.{Term, not_of}
use Rattle.term_model.proofs.Lists.{contains_head, contains_later}
use Rattle.term_model.proofs.Zips.{zip_weaken}
use Rattle.term_pool.proofs.Keeping.{in_later}
use Rattle.term_pool.specs.Placing.{PlacesTerm, LacksRoomFor, IsWantedCell, LacksCellOf}
use Rattle.term_pool.specs.Views.{TermsView, RefersTo, ReferToAll, KeepsPass, KeepsTerms}
use Rattle.question_cells.specs.SymbolTrees.{HaveFewCells}
use Rattle.lia_answers.specs.Negating.{HoldsOnly, HaveNegations, IsPoolFull}

-- ---- lists in step, up to an item and with it
pub record IsSplit {A B : Type 0} (R : A → B → Type 0) (xs : List A) (i : ℕ) (x : A) (ys : List B) : Type 0 where
  pub front : List B
  pub here : B
  pub rest : List B
  pub whole : ys ≡ front ++ here ∷ rest
  pub zip : AllZip R (take i xs) front
  pub is : R x here

pub split : {A B : Type 0} (R : A → B → Type 0) (xs : List A) (i : ℕ) (x : A) (ys : List B) → AllZip R xs ys → i < length xs
    → x ≡ get_or xs i x → IsSplit R xs i x ys
split R [] i x ys zip below e = absurd (omega (arith, below))
split R (y ∷ xs) i x [] zip below e = absurd zip
split R (y ∷ xs) zero x (z ∷ ys) zip below e =
    record { front = []; here = z; rest = ys; whole = refl; zip = tt; is = subst (λ w. R w z) (sym e) zip.0 }
split R (y ∷ xs) (suc i) x (z ∷ ys) zip below e =
    let more = split R xs i x ys zip.1 (omega (arith, below)) e in
    record { front = z ∷ more.front; here = more.here; rest = more.rest; whole = ap (λ zs. z ∷ zs) more.whole; zip = (zip.0, more.zip); is = more.is }

pub record IsEnd {A B : Type 0} (R : A → B → Type 0) (xs : List A) (x : A) (ys : List B) : Type 0 where
  pub front : List B
  pub last : B
  pub whole : ys ≡ front ++ last ∷ []
  pub zip : AllZip R xs front
  pub is : R x last

pub end_of : {A B : Type 0} (R : A → B → Type 0) (xs : List A) (x : A) (ys : List B) → AllZip R (xs ++ x ∷ []) ys → IsEnd R xs x ys
end_of R [] x [] zip = absurd zip
end_of R [] x (y ∷ []) zip = record { front = []; last = y; whole = refl; zip = tt; is = zip.0 }
end_of R [] x (y ∷ z ∷ ys) zip = absurd zip.1
end_of R (w ∷ xs) x [] zip = absurd zip
end_of R (w ∷ xs) x (y ∷ ys) zip =
    let more = end_of R xs x ys zip.1 in
    record { front = y ∷ more.front; last = more.last; whole = ap (λ zs. y ∷ zs) more.whole; zip = (zip.0, more.zip); is = more.is }

-- ---- what negations are among some terms
pub front_negated : (terms front rest : List Term) → HaveNegations terms (front ++ rest) → HaveNegations terms front
front_negated terms [] rest all = tt
front_negated terms (t ∷ front) rest all = (all.0, front_negated terms front rest all.1)

pub here_negated : (terms front rest : List Term) (t : Term) → HaveNegations terms (front ++ t ∷ rest) → Contains terms (not_of t)
here_negated terms [] rest t all = all.0
here_negated terms (u ∷ front) rest t all = here_negated terms front rest t all.1

-- all negations of terms are among them and others
all_later : {X : Type 0} (x : X) (xs ys : List X) → AllByRecursion (Contains xs) ys → AllByRecursion (Contains (x ∷ xs)) ys
all_later x xs [] all = tt
all_later x xs (y ∷ ys) all = (contains_later x y xs all.0, all_later x xs ys all.1)

all_there : (ts rest : List Term) → AllByRecursion (Contains (map not_of ts ++ rest)) (map not_of ts)
all_there [] rest = tt
all_there (t ∷ ts) rest = (contains_head (not_of t) (map not_of ts ++ rest), all_later (not_of t) (map not_of ts ++ rest) (map not_of ts) (all_there ts rest))

of_mapped : (terms ts : List Term) → AllByRecursion (Contains terms) (map not_of ts) → HaveNegations terms ts
of_mapped terms [] all = tt
of_mapped terms (t ∷ ts) all = (all.0, of_mapped terms ts all.1)

pub have_negations : (ts rest : List Term) → HaveNegations (map not_of ts ++ rest) ts
have_negations ts rest = of_mapped (map not_of ts ++ rest) ts (all_there ts rest)

-- what stands in a pool of some terms alone stands in it of these and others
pub holds_more : (s : Table) (pass : PassView) (front terms : List Term) → HoldsOnly s pass terms → HoldsOnly s pass (front ++ terms)
holds_more s pass front terms held r a b placed =
    let c = held r a b placed in
    record { whole = c.whole; wanted = Contains-append_right front terms c.whole c.wanted; tree = c.tree; stands = c.stands; cell = c.cell }

-- ---- one negation
module _ (s : Table) (old new : PassView) (terms : List Term) (t : Term) (there : Contains terms (not_of t)) (keeps : KeepsPass old new) where
  moved : (a b : ℕ) → IsWantedCell s old (Contains terms) a b → IsWantedCell s new (Contains terms) a b
  moved a b c = record { whole = c.whole; wanted = c.wanted; tree = c.tree; stands = c.stands; cell = in_later old new keeps a b c.tree c.cell }

  pub still_held : PlacesTerm s old new (not_of t) → HoldsOnly s old terms → HoldsOnly s new terms
  still_held p held r a b placed =
      elim (p.placed r a b placed) [
        | inl before ↦ moved a b (held r a b before)
        | inr cell ↦ record { whole = not_of t; wanted = there; tree = p.tree; stands = p.stands; cell = cell }
      ]

  pub lacks : LacksRoomFor s new (not_of t) → LacksCellOf s new (Contains terms)
  lacks l = record { whole = not_of t; wanted = there; tree = l.tree; stands = l.stands; full = l.full }

-- ---- what references stand for stays
pub stays : (s : Table) (v w : TermsView) (r : ℕ) (t : Term) → KeepsTerms v w → RefersTo s v r t → RefersTo s w r t
stays s v w r t keeps h = record { tree = h.tree; known = keeps.pass.grows r h.tree h.known; stands = h.stands }

pub all_stay : (s : Table) (v w : TermsView) (rs : List ℕ) (ts : List Term) → KeepsTerms v w → ReferToAll s v rs ts → ReferToAll s w rs ts
all_stay s v w rs ts keeps zip = zip_weaken (RefersTo s v) (RefersTo s w) (λ r t h. stays s v w r t keeps h) rs ts zip

-- ---- one turn
module _ (s : Table) (v mid new : TermsView) (refs : List ℕ) (k r : ℕ) (mid_keeps : KeepsTerms v mid) (new_keeps : KeepsTerms mid new) (below : k < length refs)
    (is : r ≡ get_or refs k r) where
  ends : (ts : List Term) → ReferToAll s v (take (k + 1) refs) ts → IsEnd (RefersTo s v) (take k refs) r ts
  ends ts zip =
      end_of (RefersTo s v) (take k refs) r ts (subst (λ rs. ReferToAll s v rs ts) (take_more refs k r below ∙ ap (λ z. take k refs ++ z ∷ []) (sym is)) zip)

  pub clause_more : (clause : List ℕ) (negation : ℕ) → ((t : Term) → RefersTo s mid r t → RefersTo s new negation (not_of t))
      → ((ts : List Term) → ReferToAll s v (take k refs) ts → ReferToAll s mid clause (map not_of ts))
      → (ts : List Term) → ReferToAll s v (take (k + 1) refs) ts → ReferToAll s new (clause ++ negation ∷ []) (map not_of ts)
  clause_more clause negation term so_far ts zip =
      let e = ends ts zip in
      subst (ReferToAll s new (clause ++ negation ∷ [])) (sym (ap (map not_of) e.whole ∙ map-append not_of e.front (e.last ∷ [])))
      (all_zipped_more (RefersTo s new) clause (map not_of e.front) negation (not_of e.last)
      (all_stay s mid new clause (map not_of e.front) new_keeps (so_far e.front e.zip))
      (term e.last (stays s v mid r e.last mid_keeps e.is)))

  pub held_more : ((t : Term) → RefersTo s mid r t → PlacesTerm s mid.pass new.pass (not_of t))
      → ((terms ts : List Term) → ReferToAll s v (take k refs) ts → HaveNegations terms ts → HoldsOnly s v.pass terms → HoldsOnly s mid.pass terms)
      → (terms ts : List Term) → ReferToAll s v (take (k + 1) refs) ts → HaveNegations terms ts → HoldsOnly s v.pass terms → HoldsOnly s new.pass terms
  held_more placed so_far terms ts zip negated holds =
      let e = ends ts zip in
      let here = subst (HaveNegations terms) e.whole negated in
      still_held s mid.pass new.pass terms e.last (here_negated terms e.front [] e.last here) new_keeps.pass
      (placed e.last (stays s v mid r e.last mid_keeps e.is))
      (so_far terms e.front e.zip (front_negated terms e.front (e.last ∷ []) here) holds)

  -- ---- no room
  pub full : ((t : Term) → RefersTo s mid r t → PlacesTerm s mid.pass new.pass (not_of t))
      → ((t : Term) → RefersTo s mid r t → LacksRoomFor s new.pass (not_of t))
      → ((terms ts : List Term) → ReferToAll s v (take k refs) ts → HaveNegations terms ts → HoldsOnly s v.pass terms → HoldsOnly s mid.pass terms)
      → ((pass : PassView) (terms : List Term) (most : ℕ) → pass.shares ≡ 65 → IsOneToOne pass → HasListsInOrder pass
      → ((q a b : ℕ) → IsPlaced pass q a b → IsWantedCell s pass (Contains terms) a b) → LacksCellOf s pass (Contains terms) → HaveFewCells terms most
      → pass.places ≤ most)
      → IsOneToOne new.pass → HasListsInOrder new.pass → IsPoolFull s v refs
  full placed lack so_far few one order terms ts most zip negated shares holds cells =
      let e = split (RefersTo s v) refs k r ts zip below is in
      let here = subst (HaveNegations terms) e.whole negated in
      let there = here_negated terms e.front e.rest e.here here in
      let refers = stays s v mid r e.here mid_keeps e.is in
      let held =
      still_held s mid.pass new.pass terms e.here there new_keeps.pass (placed e.here refers)
      (so_far terms e.front e.zip (front_negated terms e.front (e.here ∷ e.rest) here) holds) in
      let none = lacks s mid.pass new.pass terms e.here there new_keeps.pass (lack e.here refers) in
      let places : new.pass.places ≡ v.pass.places = new_keeps.pass.places ∙ mid_keeps.pass.places in
      subst (λ n. n ≤ most) places
      (few new.pass terms most (new_keeps.pass.shares ∙ mid_keeps.pass.shares ∙ shares) one order held none cells)

-- ---- terms and their negations have few cells
pub room_left : (places bytes most used : ℕ) → 4 * bytes ≤ places → 4096 ≤ places → used ≤ 8 → most ≡ bytes + 2 * used → places ≤ most → ⊥
room_left places bytes most used room some few is full = omega (arith, room, some, few, is, full)
