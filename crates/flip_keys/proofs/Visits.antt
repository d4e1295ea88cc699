-- What visits of terms and of lists come to.
use Rattle.std.proofs.Common.{◌≡◌, ◌≢◌, inl, inr, ℕ, ◌<◌, ◌^◌, Bool, true, false, List, Option, Some, None, nat_eq, refl, sym, ap, ◌∙◌, subst, arith}
use Rattle.std.proofs.lemmas.Bool.Decides.{nat_tests}
use Rattle.pair_pool.specs.Trees.{Tree, leaf, cell}
use Rattle.pair_pool.specs.Views.{PassView, Knows, IsOneToOne, HasPartsOfTrees}
use Rattle.term_pool.specs.Heights.{is_let_head}
use Rattle.term_pool.specs.Pairs.{same_tree}
use Rattle.term_pool.specs.StandsFor.{nil_tree}
use Rattle.term_pool.specs.Trees.{depth}
use Rattle.term_pool.proofs.HeightLemmas.{head_is_let}
use Rattle.term_pool.proofs.PairLemmas.{IsSplit, tree_same}
use Rattle.term_pool.proofs.ReadingLemmas.{leaf_of}
use Rattle.flip_keys.specs.declared.classes.Class.{Class}
use Rattle.flip_keys.specs.declared.memory.Both.TheVariants as Both
use Rattle.flip_keys.specs.declared.memory.Item.{Item}
use Rattle.flip_keys.specs.declared.memory.Item.TheVariants.{Term, List as ListOf}
use Rattle.flip_keys.specs.declared.visiting.Visit.TheVariants as Visit
use Rattle.flip_keys.specs.Classes.{side_class, is_pair, is_equality_list, IsAlone, IsTermNumber, IsListNumber}
use Rattle.flip_keys.specs.Numbers.{IsNumberedAt}
use Rattle.flip_keys.specs.Walks.{Memo, number_remembered, IsBoth, IsItemBelow, IsItemVisit, AreListItems, AreEqualitySides, HasOtherHead}
use Rattle.flip_keys.proofs.EqualNumbers.{IsCellNumber}

module _ (p : PassView) (one : IsOneToOne p) (parts : HasPartsOfTrees p) where
  alone_there : (r k : ℕ) (classes : List Class) (t : Tree) → Knows p r t → IsNumberedAt classes k (Class.Alone r) → IsAlone (Knows p) classes t k
  alone_there r k classes t known here = record { reference = r; known = known; class = here }

  -- leaves
  pub leaf_term : (memo : Memo) (r : ℕ) → r < 2 ^ 30 → IsItemVisit p memo (Term r) (Visit.Done (Class.Alone r))
  leaf_term memo r low classes right k here t known =
      let is = leaf_of p one parts r t known low in
      subst (λ u. IsTermNumber (Knows p) classes u k) (sym is) (alone_there r k classes (leaf r) (subst (Knows p r) is known) here)

  pub leaf_list : (memo : Memo) (r : ℕ) → r < 2 ^ 30 → IsItemVisit p memo (ListOf r) (Visit.Done (Class.Alone r))
  leaf_list memo r low classes right k here t known =
      let is = leaf_of p one parts r t known low in
      subst (λ u. IsListNumber (Knows p) classes u k) (sym is) (alone_there r k classes (leaf r) (subst (Knows p r) is known) here)

  whole_is : (r a b : ℕ) (h : IsSplit p r a b) (t : Tree) → Knows p r t → t ≡ cell h.head h.list
  whole_is r a b h t known = one.one_tree r t (cell h.head h.list) known h.whole

  -- a let
  pub let_term : (memo : Memo) (r a b : ℕ) → IsSplit p r a b → a ≡ 1 → IsItemVisit p memo (Term r) (Visit.Done (Class.Alone r))
  let_term memo r a b h e classes right k here t known =
      let is = whole_is r a b h t known in
      let head : h.head ≡ leaf 1 = leaf_of p one parts 1 h.head (subst (λ n. Knows p n h.head) e h.first) (omega arith) in
      subst (λ u. IsTermNumber (Knows p) classes u k) (sym is)
      (subst (λ x. IsTermNumber (Knows p) classes (cell x h.list) k) (sym head)
      (alone_there r k classes (cell (leaf 1) h.list) (subst (λ x. Knows p r (cell x h.list)) head h.whole) here))

  pub no_let : (r a b : ℕ) → IsSplit p r a b → a ≢ 1 → HasOtherHead p r
  no_let r a b h apart s t known =
      let e = one.one_tree r (cell s t) (cell h.head h.list) known h.whole in
      let f : s ≡ h.head = cc in
      let test : nat_eq a 1 ≡ false = grind (arith, nat_tests) in
      ap is_let_head f ∙ sym (head_is_let p one parts a h.head h.first) ∙ test

  first_less : (r a b : ℕ) → IsSplit p r a b → (s t : Tree) → Knows p r s → Knows p a t → depth t < depth s
  first_less r a b h s t known part =
      let e = whole_is r a b h s known in
      let f = one.one_tree a t h.head part h.first in
      rw (e, f) (omega arith)

  second_less : (r a b : ℕ) → IsSplit p r a b → (s t : Tree) → Knows p r s → Knows p b t → depth t < depth s
  second_less r a b h s t known part =
      let e = whole_is r a b h s known in
      let f = one.one_tree b t h.list part h.second in
      rw (e, f) (omega arith)

  -- lists
  pub list_part : (memo : Memo) (r a b : ℕ) (z : Item) → IsSplit p r a b → IsBoth memo (Term a) (ListOf b) (Both.Part z) → IsItemVisit p memo (ListOf r) (Visit.Part z)
  list_part memo r a b z h found = (
    elim found.0 [
      | inl e ↦ subst (IsItemBelow p (ListOf r)) (sym e) (record { known = record { tree = h.head; stands = h.first }; less = first_less r a b h })
      | inr e ↦ subst (IsItemBelow p (ListOf r)) (sym e) (record { known = record { tree = h.list; stands = h.second }; less = second_less r a b h })
    ],
    found.1,
  )

  pub list_done : (memo : Memo) (r a b m n : ℕ) → IsSplit p r a b → IsBoth memo (Term a) (ListOf b) (Both.Numbers m n) → IsItemVisit p memo (ListOf r) (Visit.Done (Class.Arguments m n))
  list_done memo r a b m n h found classes right k here t known =
      let first = right (Term a) m found.0 in
      let rest = right (ListOf b) n found.1 in
      let e = one.one_tree a first.tree h.head first.known h.first in
      let f = one.one_tree b rest.tree h.list rest.known h.second in
      subst (λ u. IsListNumber (Knows p) classes u k) (sym (whole_is r a b h t known))
      (m, n, subst (λ u. IsTermNumber (Knows p) classes u m) e first.number, subst (λ u. IsListNumber (Knows p) classes u n) f rest.number, here)

  -- equalities of two terms
  pub sides_part : (memo : Memo) (r a b : ℕ) (q : ℕ × ℕ) (z : Item) → IsSplit p r a b → AreEqualitySides p a b (Some q) → IsBoth memo (Term q.0) (Term q.1) (Both.Part z) → IsItemVisit p memo (Term r) (Visit.Part z)
  sides_part memo r a b q z h (head, (s, t, list, left, right)) found = (
    elim found.0 [
      | inl e ↦ subst (IsItemBelow p (Term r)) (sym e) (record { known = record { tree = s; stands = left }; less = λ x y known part. left_less x y known part })
      | inr e ↦ subst (IsItemBelow p (Term r)) (sym e) (record { known = record { tree = t; stands = right }; less = λ x y known part. right_less x y known part })
    ],
    found.1,
  )
    where
      list_is : h.list ≡ cell s (cell t nil_tree)
      list_is = one.one_tree b h.list (cell s (cell t nil_tree)) h.second list

      left_less : (x y : Tree) → Knows p r x → Knows p q.0 y → depth y < depth x
      left_less x y known part =
          let e = whole_is r a b h x known in
          let f = one.one_tree q.0 y s part left in
          let g = list_is in
          rw (e, f, g) (omega arith)

      right_less : (x y : Tree) → Knows p r x → Knows p q.1 y → depth y < depth x
      right_less x y known part =
          let e = whole_is r a b h x known in
          let f = one.one_tree q.1 y t part right in
          let g = list_is in
          rw (e, f, g) (omega arith)

  pub sides_done : (memo : Memo) (r a b : ℕ) (q : ℕ × ℕ) (m n : ℕ) → IsSplit p r a b → AreEqualitySides p a b (Some q) → IsBoth memo (Term q.0) (Term q.1) (Both.Numbers m n) → IsItemVisit p memo (Term r) (Visit.Done (side_class m n))
  sides_done memo r a b q m n h (head, (s, t, list, left, right)) found classes are k here u known =
      let one_number = are (Term q.0) m found.0 in
      let other_number = are (Term q.1) n found.1 in
      let e = one.one_tree q.0 one_number.tree s one_number.known left in
      let f = one.one_tree q.1 other_number.tree t other_number.known right in
      let head_is : h.head ≡ leaf 9 = leaf_of p one parts 9 h.head (subst (λ x. Knows p x h.head) head h.first) (omega arith) in
      let list_is : h.list ≡ cell s (cell t nil_tree) = one.one_tree b h.list (cell s (cell t nil_tree)) h.second list in
      subst (λ x. IsTermNumber (Knows p) classes x k) (sym (whole_is r a b h u known))
      (subst (λ x. IsTermNumber (Knows p) classes (cell x h.list) k) (sym head_is)
      (subst (λ x. IsTermNumber (Knows p) classes (cell (leaf 9) x) k) (sym list_is)
      (m, n, subst (λ x. IsTermNumber (Knows p) classes x m) e one_number.number, subst (λ x. IsTermNumber (Knows p) classes x n) f other_number.number, here)))

  -- other applications
  pub application_part : (memo : Memo) (r a b : ℕ) → IsSplit p r a b → number_remembered memo (ListOf b) ≡ None → IsItemVisit p memo (Term r) (Visit.Part (ListOf b))
  application_part memo r a b h unmet =
      (record { known = record { tree = h.list; stands = h.second }; less = second_less r a b h }, unmet)

  pub application_done : (memo : Memo) (r a b n : ℕ) → IsSplit p r a b → HasOtherHead p r → AreEqualitySides p a b None → number_remembered memo (ListOf b) ≡ Some n → IsItemVisit p memo (Term r) (Visit.Done (Class.Application a n))
  application_done memo r a b n h other none found classes right k here t known =
      let list = right (ListOf b) n found in
      let e = one.one_tree b list.tree h.list list.known h.second in
      let number : IsCellNumber (Knows p) classes false false h.head h.list k = (a, n, h.first, subst (λ u. IsListNumber (Knows p) classes u n) e list.number, here) in
      subst (λ u. IsTermNumber (Knows p) classes u k) (sym (whole_is r a b h t known))
      (subst (λ x. IsCellNumber (Knows p) classes x (is_equality_list h.head h.list) h.head h.list k) (sym (other h.head h.list h.whole))
      (subst (λ z. IsCellNumber (Knows p) classes false z h.head h.list k) (sym (none h.head h.list h.first h.second)) number))

  -- the sides of what is no equality of two terms
  pub other_head : (a b : ℕ) → a ≢ 9 → AreEqualitySides p a b None
  other_head a b apart s t head list = go (same_tree s (leaf 9)) refl
    where
      go : (x : Bool) → same_tree s (leaf 9) ≡ x → is_equality_list s t ≡ false
      go true e = absurd (apart (parts.leaf_number a 9 (subst (Knows p a) (tree_same s (leaf 9) e) head)).0)
      go false e = rw e refl

  pub other_list : (a b : ℕ) → AreListItems p b None → AreEqualitySides p a b None
  other_list a b none s t head list = go s t list
    where
      pair_false : (s t : Tree) → is_pair t ≡ false → is_equality_list s t ≡ false
      pair_false s t e = go (same_tree s (leaf 9)) refl
        where
          go : (x : Bool) → same_tree s (leaf 9) ≡ x → is_equality_list s t ≡ false
          go true f = rw (f, e) refl
          go false f = rw f refl

      go : (s t : Tree) → Knows p b t → is_equality_list s t ≡ false
      go s (leaf k) known = pair_false s (leaf k) refl
      go s (cell x (leaf k)) known = pair_false s (cell x (leaf k)) refl
      go s (cell x (cell y end)) known = pair_false s (cell x (cell y end)) (by_end (same_tree end nil_tree) refl)
        where
          by_end : (z : Bool) → same_tree end nil_tree ≡ z → same_tree end nil_tree ≡ false
          by_end true e = absurd (none x y (subst (λ w. Knows p b (cell x (cell y w))) (tree_same end nil_tree e) known))
          by_end false e = e

  pub sides_by_items : (a b : ℕ) (found : Option (ℕ × ℕ)) → a ≡ 9 → AreListItems p b found → AreEqualitySides p a b found
  sides_by_items a b None e items = other_list a b items
  sides_by_items a b (Some q) e items = (e, items)
