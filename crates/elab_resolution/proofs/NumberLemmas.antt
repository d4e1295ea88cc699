-- References with numbers: one more, how many there may be, and what stays.
use Rattle.std.proofs.Common.{◌≡◌, ◌≢◌, inl, inr, ◌+◌, ◌<◌, ◌≤◌, ◌^◌, ℕ, suc, Bool, true, false, eqb, List, [], ◌∷◌, ◌++◌}
use Rattle.std.proofs.Common.{length, get_or, Option, Some, None}
use Rattle.std.proofs.Common.{refl, sym, ◌∙◌, ap, append_assoc, arith}
use Rattle.std.specs.List.{AllByRecursion, IsDistinct, list_any}
use Rattle.std.proofs.lemmas.Bool.{cases_eq, eqb-true}
use Rattle.std.proofs.lemmas.List.{append-nil, length-append, get_or_append_left, get_or_push}
use Rattle.std.proofs.lemmas.Map.Steps.{length-le_from_distinct_below}
use Rattle.pair_pool.specs.Views.{HasListsInOrder, IsOneToOne}
use Rattle.sym_table.specs.Table.{Table}
use Rattle.term_model.specs.Terms.{Term}
use Rattle.term_model.proofs.Zips.{zip_at, zip_length, zip_push, zip_weaken}
use Rattle.term_pool.specs.Views.{TermsView, KeepsTerms, RefersTo, ReferToAll}
use Rattle.term_pool.proofs.References.{AreOne}
use Rattle.elab_resolution.specs.Levels.{IsNextLevel, numbered, truth_term}
use Rattle.elab_resolution.specs.Numbered.{AddsNumber, IsNumbering, KeepsNumbers, number_in, reference_of}
use Rattle.elab_resolution.specs.declared.numbering.Numbering.{Numbering}
use Rattle.elab_resolution.proofs.LevelLemmas.{below_or_last, levels_more}

pub refers_later : (s : Table) (v w : TermsView) (r : ℕ) (t : Term) → KeepsTerms v w → RefersTo s v r t → RefersTo s w r t
refers_later s v w r t keeps h = record { tree = h.tree; known = keeps.pass.grows r h.tree h.known; stands = h.stands }

pub all_refer_later : (s : Table) (v w : TermsView) → KeepsTerms v w → (rs : List ℕ) (ts : List Term) → ReferToAll s v rs ts → ReferToAll s w rs ts
all_refer_later s v w keeps = zip_weaken (RefersTo s v) (RefersTo s w) (λ r t h. refers_later s v w r t keeps h)

abbrev pub numbering_later : (s : Table) (v w : TermsView) (n : Numbering) → KeepsTerms v w → IsNumbering s v n → IsNumbering s w n
numbering_later s v w n keeps h = record {
  terms = h.terms;
  refer = all_refer_later s v w keeps n.refs.items h.terms h.refer;
  levels = h.levels;
  found = h.found;
  finds = h.finds;
}

module _ {s : Table} {v : TermsView} {n : Numbering} (h : IsNumbering s v n) where
  pub sizes : length n.refs.items ≡ length n.nots.items
  sizes = zip_length (RefersTo s v) n.refs.items h.terms h.refer ∙ h.levels.size

  -- a number's reference stands for its term
  pub refers_at : (k : ℕ) → k < length n.nots.items → RefersTo s v (reference_of n.refs.items k) (numbered h.terms k)
  refers_at k below = zip_at (RefersTo s v) n.refs.items h.terms k 0 truth_term h.refer (let e = sizes in omega arith)

  -- a term that has no number is none of these
  pub not_numbered : (AreOne s v) → (r : ℕ) (t : Term) → RefersTo s v r t → number_in n r ≡ None → (k : ℕ) → k < length n.nots.items → numbered h.terms k ≢ t
  not_numbered one r t refers none k below e =
      let same : reference_of n.refs.items k ≡ r = (one (reference_of n.refs.items k) r (numbered h.terms k) t (refers_at k below) refers).1 e in
      let found = h.finds k (let z = sizes in omega arith) in
      absurd (go (sym (ap (number_in n) same ∙ none) ∙ found))
    where
      go : None ≡ Some k → ⊥
      go e = cc

  -- and one that is none of these has no number
  pub has_none : (AreOne s v) → (r : ℕ) (t : Term) → RefersTo s v r t → ((k : ℕ) → k < length n.nots.items → numbered h.terms k ≢ t) → number_in n r ≡ None
  has_none one r t refers new = go (number_in n r) refl
    where
      go : (o : Option ℕ) → number_in n r ≡ o → number_in n r ≡ None
      go None e = e
      go (Some k) e =
          let there = h.found r k e in
          let below : k < length n.nots.items = let z = sizes in let b = there.0 in omega arith in
          absurd (new k below ((one (reference_of n.refs.items k) r (numbered h.terms k) t (refers_at k below) refers).0 there.1))

pub some_same : (j k : ℕ) → Some j ≡ Some k → j ≡ k
some_same j k e = cc

-- one reference more
pub numbering_more : (s : Table) (v : TermsView) (old new : Numbering) (h : IsNumbering s v old) (r x : ℕ) (t : Term) → RefersTo s v r t
    → IsNextLevel old.nots.items h.terms x t → number_in old r ≡ None → AddsNumber old new r x → IsNumbering s v new
numbering_more s v old new h r x t refers next none adds = record {
  terms = h.terms ++ t ∷ [];
  refer = rw adds.refs (zip_push (RefersTo s v) old.refs.items h.terms r t h.refer refers);
  levels = rw adds.nots (levels_more old.nots.items h.terms x t h.levels next);
  found = found;
  finds = finds;
}
  where
    refs : List ℕ
    refs = old.refs.items

    long : length new.refs.items ≡ length refs + 1
    long = ap length adds.refs ∙ length-append refs (r ∷ [])

    kept : (k : ℕ) → k < length refs → reference_of new.refs.items k ≡ reference_of refs k
    kept k below = ap (λ rs. reference_of rs k) adds.refs ∙ get_or_append_left refs (r ∷ []) 0 k below

    last : (k : ℕ) → k ≡ length refs → reference_of new.refs.items k ≡ r
    last k e = ap (λ rs. reference_of rs k) adds.refs ∙ get_or_push refs r 0 k (sym e)

    found : (q k : ℕ) → number_in new q ≡ Some k → (k < length new.refs.items) × (reference_of new.refs.items k ≡ q)
    found q k is = elim (cases_eq q r) [
      | inl same ↦
          let at : length refs ≡ k = some_same (length refs) k (sym adds.here ∙ (ap (number_in new) (sym same) ∙ is)) in
          (let l = long in omega arith, last k (sym at) ∙ sym same)
      | inr apart ↦
          let before = h.found q k (sym (adds.others q apart) ∙ is) in
          (let l = long in let b = before.0 in omega arith, kept k before.0 ∙ before.1)
    ]

    finds : (k : ℕ) → k < length new.refs.items → number_in new (reference_of new.refs.items k) ≡ Some k
    finds k within = elim (below_or_last k (length refs) (let l = long in omega arith)) [
      | inl less ↦
          let before = h.finds k less in
          ap (number_in new) (kept k less) ∙ (adds.others (reference_of refs k) (apart k before) ∙ before)
      | inr same ↦ ap (number_in new) (last k same) ∙ (adds.here ∙ ap Some (sym same))
    ]
      where
        clash : (k : ℕ) → None ≡ Some k → ⊥
        clash k e = cc

        apart : (k : ℕ) → number_in old (reference_of refs k) ≡ Some k → reference_of refs k ≢ r
        apart k before e = clash k (sym none ∙ (ap (number_in old) (sym e) ∙ before))

-- references that are found by different numbers differ
distinct : (find : ℕ → Option ℕ) (xs : List ℕ) (m : ℕ) → ((k : ℕ) → k < length xs → find (get_or xs k 0) ≡ Some (m + k)) → IsDistinct eqb xs
unfolding IsDistinct
distinct find [] m finds = tt
distinct find (x ∷ xs) m finds = (
  differ xs 0 (λ k below. finds (suc k) (omega arith) ∙ ap Some (omega arith)),
  distinct find xs (m + 1) (λ k below. finds (suc k) (omega arith) ∙ ap Some (omega arith)),
)
  where
    here : find x ≡ Some m
    here = finds 0 (omega arith) ∙ ap Some (omega arith)

    same : (y k : ℕ) → find y ≡ Some (m + suc k) → x ≡ y → ⊥
    same y k there e = let f : m ≡ m + suc k = some_same m (m + suc k) (sym here ∙ (ap find e ∙ there)) in absurd (omega arith)

    differ : (ys : List ℕ) (i : ℕ) → ((k : ℕ) → k < length ys → find (get_or ys k 0) ≡ Some (m + suc (i + k))) → AllByRecursion (λ y. eqb x y ≡ false) ys
    differ [] i there = tt
    differ (y ∷ ys) i there =
        (go (eqb x y) refl, differ ys (i + 1) (λ k below. there (suc k) (omega arith) ∙ ap Some (omega arith)))
      where
        go : (b : Bool) → eqb x y ≡ b → eqb x y ≡ false
        go false e = e
        go true e = absurd (same y i (there 0 (omega arith) ∙ ap Some (omega arith)) (eqb-true x y e))

all_low : (s : Table) (v : TermsView) (m : ℕ) → ((r : ℕ) (t : Term) → RefersTo s v r t → r < m) → (rs : List ℕ) (ts : List Term) → ReferToAll s v rs ts
    → (q : ℕ) → list_any (eqb q) rs ≡ true → q < m
all_low s v m low [] ts h q e = absurd (cc)
all_low s v m low (r ∷ rs) [] h q e = absurd h
all_low s v m low (r ∷ rs) (t ∷ ts) h q e = go (eqb q r) refl (all_low s v m low rs ts h.1 q)
  where
    go : (b : Bool) → eqb q r ≡ b → (list_any (eqb q) rs ≡ true → q < m) → q < m
    go true d rest = let less : r < m = low r t h.0 in let same : q ≡ r = eqb-true q r d in omega arith
    go false d rest = rest (rw d at e)

-- there are fewer numbers than references
pub numbers_few : (s : Table) (v : TermsView) (n : Numbering) → IsOneToOne v.pass → HasListsInOrder v.pass → IsNumbering s v n
    → length n.refs.items ≤ 2 ^ 30 + 2 ^ 26
numbers_few s v n one lists h =
    let size = lists.size in
    let most = length-le_from_distinct_below n.refs.items (2 ^ 30 + v.pass.places)
    (distinct (number_in n) n.refs.items 0 (λ k below. h.finds k below ∙ ap Some (omega arith)))
    (all_low s v (2 ^ 30 + v.pass.places) (λ r t refers. one.bound r refers.tree refers.known) n.refs.items h.terms h.refer) in
    omega arith

pub keeps_none : (n : Numbering) → KeepsNumbers n n
keeps_none n = record { more_nots = []; nots = sym (append-nil n.nots.items); more_refs = []; refs = sym (append-nil n.refs.items) }

pub keeps_then : (a b c : Numbering) → KeepsNumbers a b → KeepsNumbers b c → KeepsNumbers a c
keeps_then a b c h k = record {
  more_nots = h.more_nots ++ k.more_nots;
  nots = k.nots ∙ (ap (λ ns. ns ++ k.more_nots) h.nots ∙ append_assoc a.nots.items h.more_nots k.more_nots);
  more_refs = h.more_refs ++ k.more_refs;
  refs = k.refs ∙ (ap (λ rs. rs ++ k.more_refs) h.refs ∙ append_assoc a.refs.items h.more_refs k.more_refs);
}

pub keeps_one : (a b : Numbering) (r x : ℕ) → AddsNumber a b r x → KeepsNumbers a b
keeps_one a b r x adds = record { more_nots = x ∷ []; nots = adds.nots; more_refs = r ∷ []; refs = adds.refs }

-- what stays
pub reference_stays : (a b : Numbering) → KeepsNumbers a b → (k : ℕ) → k < length a.refs.items → reference_of b.refs.items k ≡ reference_of a.refs.items k
reference_stays a b kept k below =
    ap (λ rs. reference_of rs k) kept.refs ∙ get_or_append_left a.refs.items kept.more_refs 0 k below

pub longer : (a b : Numbering) → KeepsNumbers a b → length a.refs.items ≤ length b.refs.items
longer a b kept = let e = ap length kept.refs ∙ length-append a.refs.items kept.more_refs in omega arith
