-- The numbers of assertions.
use Rattle.std.proofs.Common.{◌≡◌, ◌↔◌, inl, inr, ℕ, Bool, true, false, if◌then◌else◌, nat_eq, List, [], ◌∷◌, ◌++◌, Contains, All, Any, IsTrue, refl, sym, subst, arith}
use Rattle.std.specs.List.{list_any}
use Rattle.std.proofs.lemmas.List.Elements.{All-weaker, Contains-push, Contains-push_cases}
use Rattle.indexmap.specs.IndexSet.{insert_key}
use Rattle.pair_pool.specs.Views.{PassView, Knows, IsKnown, IsOneToOne, Grows}
use Rattle.sym_table.specs.Leaf.{operator}
use Rattle.sym_table.specs.Table.{Table, IsTable}
use Rattle.term_model.specs.declared.symbols.Op.{Op}
use Rattle.term_model.specs.Flips.{EqualUpToFlips, same as itself}
use Rattle.term_model.specs.Terms.{Term}
use Rattle.term_model.proofs.Basics.{any_here, any_later, any_cases}
use Rattle.term_model.proofs.Lists.{contains_none, contains_cases, contains_head, contains_later, any_of}
use Rattle.term_pool.specs.Pairs.{same_terms}
use Rattle.term_pool.specs.Views.{TermsView, RefersTo, ReferToAll}
use Rattle.term_pool.proofs.FlipLemmas.{flips_are}
use Rattle.term_pool.proofs.OneTerm.{one_term}
use Rattle.flip_keys.specs.declared.memory.Item.TheVariants as Item
use Rattle.flip_keys.specs.declared.numbering.Keys.{Keys}
use Rattle.flip_keys.specs.KeyTables.{AreClassKeys, HasKeyNumber, HasMore, InsertsNumber, IsOfOne, HasFoundNumber, HasJust, AreFound}
use Rattle.flip_keys.proofs.EqualNumbers.{terms_both}
use Rattle.flip_keys.proofs.Walking.{has_later}

pub contains_before : {X : Type 0} (xs : List X) (y x : X) → Contains xs x → Contains (xs ++ y ∷ []) x
contains_before [] y x h = absurd (contains_none x h)
contains_before (z ∷ xs) y x h =
    elim (contains_cases z x xs h) [
      | inl e ↦ subst (Contains (z ∷ (xs ++ y ∷ []))) e (contains_head z (xs ++ y ∷ []))
      | inr later ↦ contains_later z x (xs ++ y ∷ []) (contains_before xs y x later)
    ]

module _ (p q : PassView) (old new : Keys) (grows : Grows p q) (more : HasMore old new) where
  pub numbered_later : (r k : ℕ) → HasKeyNumber p old r k → HasKeyNumber q new r k
  numbered_later r k h = has_later p q old.classes.keys new.classes.keys grows more (Item.Term r) k h

  pub found_later : (references numbers : List ℕ) → AreFound p old references numbers → AreFound q new references numbers
  found_later references numbers h = record {
    each = λ r there. let f = h.each r there in record { number = f.number; numbered = numbered_later r f.number f.numbered; found = f.found };
    only = λ k there. let f = h.only k there in record { reference = f.reference; there = f.there; numbered = numbered_later f.reference k f.numbered };
  }

pub one_found : (p : PassView) (keys : Keys) (references before after : List ℕ) (r k : ℕ) → AreFound p keys references before → HasKeyNumber p keys r k → InsertsNumber before k after → AreFound p keys (references ++ r ∷ []) after
one_found p keys references before after r k h numbered inserts = record {
  each = λ x there. elim (Contains-push_cases references r x there) [
    | inl earlier ↦ (let f = h.each x earlier in record { number = f.number; numbered = f.numbered; found = inserts.stays f.number f.found })
    | inr e ↦ subst (HasFoundNumber p keys after) e (record { number = k; numbered = numbered; found = inserts.here })
  ];
  only = λ n there. elim (inserts.only n there) [
    | inl earlier ↦ (let f = h.only n earlier in record { reference = f.reference; there = contains_before references r f.reference f.there; numbered = f.numbered })
    | inr e ↦ subst (IsOfOne p keys (references ++ r ∷ [])) (sym e) (record { reference = r; there = Contains-push references r; numbered = numbered })
  ];
}

-- the term at the place of a reference, and the reference at the place of a term
module _ (s : Table) (v : TermsView) where
  term_at : (rs : List ℕ) (ts : List Term) (P : Term → Type 0) (r : ℕ) → ReferToAll s v rs ts → Contains rs r → ((t : Term) → RefersTo s v r t → P t) → Any P ts
  term_at [] ts P r refer there f = absurd (contains_none r there)
  term_at (x ∷ rs) [] P r refer there f = absurd refer
  term_at (x ∷ rs) (t ∷ ts) P r refer there f =
      elim (contains_cases x r rs there) [
        | inl e ↦ any_here P t ts (f t (subst (λ y. RefersTo s v y t) e refer.0))
        | inr later ↦ any_later P t ts (term_at rs ts P r refer.1 later f)
      ]

  pub reference_at : (rs : List ℕ) (ts : List Term) (P : Term → Type 0) (Q : Type 0) → ReferToAll s v rs ts → Any P ts → ((r : ℕ) (t : Term) → Contains rs r → RefersTo s v r t → P t → Q) → Q
  reference_at [] [] P Q refer (k, y, below, same, h) f = absurd (omega (arith, below))
  reference_at [] (t ∷ ts) P Q refer any f = absurd refer
  reference_at (x ∷ rs) [] P Q refer any f = absurd refer
  reference_at (x ∷ rs) (t ∷ ts) P Q refer any f =
      elim (any_cases P t ts any) [
        | inl h ↦ f x t (contains_head x rs) refer.0 h
        | inr h ↦ reference_at rs ts P Q refer.1 h (λ r u there. f r u (contains_later x r rs there))
      ]

  -- two references have one number exactly where their terms are equal up to flips
  pub one_number : IsTable s → IsOneToOne v.pass → (keys : Keys) → AreClassKeys v.pass keys → (a r k l : ℕ) → HasKeyNumber v.pass keys a k → HasKeyNumber v.pass keys r l → (t u : Term) → RefersTo s v a t → RefersTo s v r u → (k ≡ l) ↔ EqualUpToFlips t u
  one_number table one keys good a r k l p q t u left right =
      let both = terms_both (Knows v.pass) keys.classes.keys one.one_tree one.one_reference good.apart p.tree q.tree k l p.number q.number in
      let flips = flips_are s v 9 a r (same_terms 9 p.tree q.tree) table (table.begins 9 (operator Op.Equal) refl)
      (λ x y known other. rw (one.one_tree a x p.tree known p.known, one.one_tree r y q.tree other q.known) refl) t u left right in
      (λ e. flips.0 (both.0 e), λ h. both.1 (flips.1 h))

  pub asserted_is : IsTable s → IsOneToOne v.pass → (keys : Keys) → AreClassKeys v.pass keys → (references numbers : List ℕ) → AreFound v.pass keys references numbers → (r k : ℕ) → HasKeyNumber v.pass keys r k → (b : Bool) → IsTrue b ↔ Contains numbers k → (ts : List Term) (t : Term) → ReferToAll s v references ts → RefersTo s v r t → IsTrue b ↔ Any (λ a. EqualUpToFlips a t) ts
  asserted_is table one keys good references numbers found r k numbered b test ts t refer right = (
    λ e.
        let f = found.only k (test.0 e) in
        term_at references ts (λ a. EqualUpToFlips a t) f.reference refer f.there
        (λ a left. (one_number table one keys good f.reference r k k f.numbered numbered a t left right).0 refl),
    λ any.
        reference_at references ts (λ a. EqualUpToFlips a t) (IsTrue b) refer any
        (λ x a there left flips.
        let f = found.each x there in
        let same = (one_number table one keys good x r f.number k f.numbered numbered a t left right).1 flips in
        test.1 (subst (Contains numbers) same f.found)),
  )

  -- an assertion, asked for as it stands
  pub stands_there : IsTable s → IsOneToOne v.pass → (references placed : List ℕ) → HasJust references placed → (r : ℕ) → Contains placed r → (ts : List Term) (t : Term) → ReferToAll s v references ts → RefersTo s v r t → Any (λ a. EqualUpToFlips a t) ts
  stands_there table one references placed just r there ts t refer right =
      term_at references ts (λ a. EqualUpToFlips a t) r refer (just.only r there) (λ u left.
      let same_tree = one.one_tree r right.tree left.tree right.known left.known in
      let e = one_term s table left.tree t u (rw same_tree at right.stands) left.stands in
      rw e (itself u))

  -- a term stands among the assertions exactly where its reference is one of theirs
  module _ (same : (p q : ℕ) (t u : Term) → RefersTo s v p t → RefersTo s v q u → (p ≡ q) ↔ (t ≡ u)) (r : ℕ) (t : Term) (right : RefersTo s v r t) where
    term_stands : (rs : List ℕ) (ts : List Term) → ReferToAll s v rs ts → Contains rs r → Contains ts t
    term_stands [] ts refer there = absurd (contains_none r there)
    term_stands (x ∷ rs) [] refer there = absurd refer
    term_stands (x ∷ rs) (u ∷ ts) refer there =
        elim (contains_cases x r rs there) [
          | inl e ↦ subst (Contains (u ∷ ts)) ((same x r u t refer.0 right).0 e) (contains_head u ts)
          | inr later ↦ contains_later u t ts (term_stands rs ts refer.1 later)
        ]

    reference_stands : (rs : List ℕ) (ts : List Term) → ReferToAll s v rs ts → Contains ts t → Contains rs r
    reference_stands [] [] refer there = absurd (contains_none t there)
    reference_stands [] (u ∷ ts) refer there = absurd refer
    reference_stands (x ∷ rs) [] refer there = absurd refer
    reference_stands (x ∷ rs) (u ∷ ts) refer there =
        elim (contains_cases u t ts there) [
          | inl e ↦ subst (Contains (x ∷ rs)) ((same x r u t refer.0 right).1 e) (contains_head x rs)
          | inr later ↦ contains_later x r rs (reference_stands rs ts refer.1 later)
        ]

    pub as_it_stands : (references placed : List ℕ) → HasJust references placed → (ts : List Term) → ReferToAll s v references ts → Contains placed r ↔ Contains ts t
    as_it_stands references placed just ts refer =
        (λ there. term_stands references ts refer (just.only r there), λ h. just.each r (reference_stands references ts refer h))

-- references stay known
pub all_known_later : (p q : PassView) → Grows p q → (rs : List ℕ) → All (IsKnown p) rs → All (IsKnown q) rs
all_known_later p q grows = All-weaker (IsKnown p) (IsKnown q) (λ r h. record { tree = h.tree; stands = grows r h.tree h.stands })

-- a set of references, and one reference more
pub just_more : (references before after : List ℕ) (r : ℕ) → HasJust references before → InsertsNumber before r after → HasJust (references ++ r ∷ []) after
just_more references before after r just inserts = record {
  each = λ x there. elim (Contains-push_cases references r x there) [
    | inl earlier ↦ inserts.stays x (just.each x earlier)
    | inr e ↦ subst (Contains after) e inserts.here
  ];
  only = λ x there. elim (inserts.only x there) [
    | inl earlier ↦ contains_before references r x (just.only x earlier)
    | inr e ↦ subst (Contains (references ++ r ∷ [])) (sym e) (Contains-push references r)
  ];
}

pub inserts : (ks : List ℕ) (k : ℕ) → InsertsNumber ks k (insert_key nat_eq ks k)
inserts ks k = go (list_any (nat_eq k) ks) refl
  where
    go : (b : Bool) → list_any (nat_eq k) ks ≡ b → InsertsNumber ks k (if b then ks else ks ++ k ∷ [])
    go true e = record { stays = λ n h. h; here = any_of k ks e; only = λ n h. inl h }
    go false e = record {
      stays = λ n h. contains_before ks k n h;
      here = Contains-push ks k;
      only = λ n h. elim (Contains-push_cases ks k n h) [ inl earlier ↦ inl earlier | inr same ↦ inr (sym same) ];
    }
