-- What has a number keeps it, and two trees have one number exactly where they are equal up to flips.
use Rattle.std.proofs.Common.{◌≡◌, ◌≢◌, ◌↔◌, ◌⊎◌, inl, inr, ℕ, ◌≤◌, Bool, true, false, ◌&&◌, ◌||◌, if◌then◌else◌, nat_le, List, Some, slice_get, Decides, refl, sym, ap, ◌∙◌, subst, arith}
use Rattle.std.proofs.lemmas.Bool.{and_parts, or_cases}
use Rattle.pair_pool.specs.Trees.{Tree, leaf, cell}
use Rattle.sym_table.specs.Names.{AreApart}
use Rattle.term_model.proofs.Arities.{nat_le_decides}
use Rattle.term_pool.specs.Heights.{is_let_head}
use Rattle.term_pool.specs.Pairs.{same_tree, same_terms, same_lists, crossed}
use Rattle.term_pool.specs.StandsFor.{nil_tree}
use Rattle.term_pool.proofs.PairLemmas.{tree_refl, tree_same, terms_refl}
use Rattle.flip_keys.specs.declared.classes.Class.{Class}
use Rattle.flip_keys.specs.Classes.{least, most, side_class, is_pair, is_equality_list, IsAlone, pick, IsTermNumber, IsListNumber, IsSidesNumber}
use Rattle.flip_keys.specs.Numbers.{IsNumberedAt, KeepsNumbers}

-- a cell that is a term, where it is known whether it is a let and whether it is an equality of two terms
abbrev pub IsCellNumber : (ℕ → Tree → Type 0) → List Class → Bool → Bool → Tree → Tree → ℕ → Type 0
IsCellNumber K C x z a c k =
    pick x (IsAlone K C (cell a c) k)
    (pick z (IsSidesNumber K C c k)
    ((r : ℕ) × (n : ℕ) × K r a × IsListNumber K C c n × IsNumberedAt C k (Class.Application r n)))

-- as classes and references come to be more
module _ (K J : ℕ → Tree → Type 0) (C D : List Class) (knows : (r : ℕ) (t : Tree) → K r t → J r t) (keeps : KeepsNumbers C D) where
  alone_later : (t : Tree) (k : ℕ) → IsAlone K C t k → IsAlone J D t k
  alone_later t k h = record {
    reference = h.reference;
    known = knows h.reference t h.known;
    class = keeps k (Class.Alone h.reference) h.class;
  }

  mutual
    pub term_later : (t : Tree) (k : ℕ) → IsTermNumber K C t k → IsTermNumber J D t k
    term_later (leaf j) k h = alone_later (leaf j) k h
    term_later (cell a c) k h = go (is_let_head a) (is_equality_list a c) (λ n. list_later c n) (sides_later c k) h
      where
        go : (x z : Bool) → ((n : ℕ) → IsListNumber K C c n → IsListNumber J D c n) → (IsSidesNumber K C c k → IsSidesNumber J D c k) → IsCellNumber K C x z a c k → IsCellNumber J D x z a c k
        go true z list sides h = alone_later (cell a c) k h
        go false true list sides h = sides h
        go false false list sides h =
            (h.0, h.1, knows h.0 a h.2, list h.1 h.3, keeps k (Class.Application h.0 h.1) h.4)

    pub list_later : (t : Tree) (k : ℕ) → IsListNumber K C t k → IsListNumber J D t k
    list_later (leaf j) k h = alone_later (leaf j) k h
    list_later (cell a c) k h =
        (h.0, h.1, term_later a h.0 h.2, list_later c h.1 h.3, keeps k (Class.Arguments h.0 h.1) h.4)

    sides_later : (t : Tree) (k : ℕ) → IsSidesNumber K C t k → IsSidesNumber J D t k
    sides_later (leaf j) k h = h
    sides_later (cell a (leaf j)) k h = h
    sides_later (cell a (cell b end)) k h =
        (h.0, h.1, term_later a h.0 h.2, term_later b h.1 h.3, keeps k (side_class h.0 h.1) h.4)

-- tests
false_true : ◌≡◌ {A = Bool} false true → ⊥
false_true e = cc

or_right : (x : Bool) → (x || true) ≡ true
or_right true = refl
or_right false = refl

-- the lower and the higher of two numbers tell them but for their order
least_most : (m n p q : ℕ) → least m n ≡ least p q → most m n ≡ most p q → ((m ≡ p) × (n ≡ q)) ⊎ ((m ≡ q) × (n ≡ p))
least_most m n p q = go (nat_le m n) (nat_le p q)
  where
    go : (x y : Bool) → (if x then m else n) ≡ (if y then p else q) → (if x then n else m) ≡ (if y then q else p) → ((m ≡ p) × (n ≡ q)) ⊎ ((m ≡ q) × (n ≡ p))
    go true true e f = inl (e, f)
    go true false e f = inr (e, f)
    go false true e f = inr (f, e)
    go false false e f = inl (f, e)

turned : (m n : ℕ) → (least m n ≡ least n m) × (most m n ≡ most n m)
turned m n = go (nat_le m n) (nat_le n m) (nat_le_decides m n) (nat_le_decides n m)
  where
    go : (x y : Bool) → Decides x (m ≤ n) → Decides y (n ≤ m) → ((if x then m else n) ≡ (if y then n else m)) × ((if x then n else m) ≡ (if y then m else n))
    go true true d e =
        let low = d.0 refl in
        let high = e.0 refl in
        let same : m ≡ n = omega (arith, low, high) in
        (same, sym same)
    go true false d e = (refl, refl)
    go false true d e = (refl, refl)
    go false false d e = absurd (apart (λ low. let f = d.1 low in cc) (λ high. let f = e.1 high in cc))
      where
        apart : ¬ (m ≤ n) → ¬ (n ≤ m) → ⊥
        apart f g = grind arith

turned_class : (m n : ℕ) → side_class m n ≡ side_class n m
turned_class m n = let t = turned m n in let e = t.0 in let f = t.1 in rw (e, f) refl

side_classes : (m n p q : ℕ) → side_class m n ≡ side_class p q → ((m ≡ p) × (n ≡ q)) ⊎ ((m ≡ q) × (n ≡ p))
side_classes m n p q e = least_most m n p q (cc) (cc)

-- lists of two
crossed_pair : (c d : Tree) → crossed 9 c d ≡ true → (is_pair c ≡ true) × (is_pair d ≡ true)
crossed_pair (leaf j) d e = absurd (cc)
crossed_pair (cell a (leaf j)) d e = absurd (cc)
crossed_pair (cell a (cell b end)) (leaf k) e = absurd (cc)
crossed_pair (cell a (cell b end)) (cell c (leaf k)) e = absurd (cc)
crossed_pair (cell a (cell b end)) (cell c (cell d rest)) e = and_parts _ _ (and_parts _ _ e).0

lists_end : (e r : Tree) → same_lists 9 e r ≡ true → same_tree e nil_tree ≡ same_tree r nil_tree
lists_end (leaf j) r h = ap (λ t. same_tree t nil_tree) (tree_same (leaf j) r h)
lists_end (cell a b) (leaf k) h = absurd (cc)
lists_end (cell a b) (cell c d) h = refl

lists_pair : (c d : Tree) → same_lists 9 c d ≡ true → is_pair c ≡ is_pair d
lists_pair (leaf j) (leaf k) h = refl
lists_pair (leaf j) (cell b d) h = absurd (cc)
lists_pair (cell a c) (leaf k) h = absurd (cc)
lists_pair (cell a (leaf j)) (cell b (leaf k)) h = refl
lists_pair (cell a (leaf j)) (cell b (cell d r)) h = absurd (false_true (and_parts (same_terms 9 a b) (same_lists 9 (leaf j) (cell d r)) h).1)
lists_pair (cell a (cell c e)) (cell b (leaf k)) h = absurd (false_true (and_parts (same_terms 9 a b) (same_lists 9 (cell c e) (leaf k)) h).1)
lists_pair (cell a (cell c e)) (cell b (cell d r)) h =
    lists_end e r (and_parts _ _ (and_parts (same_terms 9 a b) (same_lists 9 (cell c e) (cell d r)) h).1).1

equality_is : (a c : Tree) → is_equality_list a c ≡ true → (a ≡ leaf 9) × (is_pair c ≡ true)
equality_is a c e = let both = and_parts (same_tree a (leaf 9)) (is_pair c) e in (tree_same a (leaf 9) both.0, both.1)

no_equality : (c : Tree) → is_pair c ≡ true → is_equality_list (leaf 9) c ≡ true
no_equality c e = rw e refl

-- Where a reference has one tree and a tree one reference, and a class one number, two trees have one number exactly where
-- they are equal up to flips.
module _ (K : ℕ → Tree → Type 0) (C : List Class) (one_tree : (r : ℕ) (s t : Tree) → K r s → K r t → s ≡ t) (one_reference : (p q : ℕ) (t : Tree) → K p t → K q t → p ≡ q) (apart : AreApart C) where
  class_is : (k l : ℕ) (c d : Class) → IsNumberedAt C k c → IsNumberedAt C l d → k ≡ l → c ≡ d
  class_is k l c d h i e = let f : Some c ≡ Some d = sym h ∙ ap (slice_get C) e ∙ i in cc

  unlike : {P : Type 0} (k l : ℕ) (c d : Class) → IsNumberedAt C k c → IsNumberedAt C l d → c ≢ d → ¬ P → (k ≡ l) ↔ P
  unlike k l c d h i other none = (λ e. absurd (other (class_is k l c d h i e)), λ p. absurd (none p))

  alone_both : (t u : Tree) (k l : ℕ) → IsAlone K C t k → IsAlone K C u l → (k ≡ l) ↔ (t ≡ u)
  alone_both t u k l p q = (
    λ e.
        let f = class_is k l (Class.Alone p.reference) (Class.Alone q.reference) p.class q.class e in
        let g : p.reference ≡ q.reference = cc in
        one_tree q.reference t u (subst (λ r. K r t) g p.known) q.known,
    λ e.
        let g = one_reference p.reference q.reference u (subst (K p.reference) e p.known) q.known in
        apart k l (Class.Alone q.reference) (subst (λ r. IsNumberedAt C k (Class.Alone r)) g p.class) q.class,
  )

  -- a term that is not alone
  record IsOther (l : ℕ) : Type 0 where
    class : Class
    here : IsNumberedAt C l class
    other : (r : ℕ) → Class.Alone r ≢ class

  sides_class : (c : Tree) (k : ℕ) → IsSidesNumber K C c k → (m : ℕ) × (n : ℕ) × IsNumberedAt C k (side_class m n)
  sides_class (leaf j) k h = absurd h
  sides_class (cell a (leaf j)) k h = absurd h
  sides_class (cell a (cell b end)) k h = (h.0, h.1, h.4)

  is_other : (z : Bool) (a c : Tree) (k : ℕ) → IsCellNumber K C false z a c k → IsOther k
  is_other true a c k h =
      let s = sides_class c k h in record { class = side_class s.0 s.1; here = s.2; other = λ r e. cc }
  is_other false a c k h = record { class = Class.Application h.0 h.1; here = h.4; other = λ r e. cc }

  alone_other : {P : Type 0} (t : Tree) (k l : ℕ) → IsAlone K C t k → IsOther l → ¬ P → (k ≡ l) ↔ P
  alone_other t k l p q none = unlike k l (Class.Alone p.reference) q.class p.class q.here (q.other p.reference) none

  other_alone : {P : Type 0} (t : Tree) (k l : ℕ) → IsOther k → IsAlone K C t l → ¬ P → (k ≡ l) ↔ P
  other_alone t k l p q none = unlike k l p.class (Class.Alone q.reference) p.here q.class (λ e. p.other q.reference (sym e)) none

  leaf_cell : (t a c : Tree) (k l : ℕ) → t ≢ cell a c → IsAlone K C t k → IsTermNumber K C (cell a c) l → k ≡ l → ⊥
  leaf_cell t a c k l differ p q = go (is_let_head a) (is_equality_list a c) q
    where
      go : (x z : Bool) → IsCellNumber K C x z a c l → k ≡ l → ⊥
      go true z h e = differ ((alone_both t (cell a c) k l p h).0 e)
      go false z h e = (alone_other {P = ⊥} t k l p (is_other z a c l h) (λ n. n)).0 e

  -- one number of what is equal, for two trees
  abbrev AreOneTerm : Tree → Tree → Type 0
  AreOneTerm t u = (m n : ℕ) → IsTermNumber K C t m → IsTermNumber K C u n → (m ≡ n) ↔ (same_terms 9 t u ≡ true)

  two_sides : (a b e c d r : Tree) (k l : ℕ) → AreOneTerm a c → AreOneTerm b d → AreOneTerm a d → AreOneTerm b c → is_pair (cell a (cell b e)) ≡ true → is_pair (cell c (cell d r)) ≡ true → IsSidesNumber K C (cell a (cell b e)) k → IsSidesNumber K C (cell c (cell d r)) l → (k ≡ l) ↔ ((same_lists 9 (cell a (cell b e)) (cell c (cell d r)) || crossed 9 (cell a (cell b e)) (cell c (cell d r))) ≡ true)
  two_sides a b e c d r k l ac bd ad bc left right p q = (forth, back)
    where
      ends : same_lists 9 e r ≡ true
      ends = let f = tree_same e nil_tree left in let g = tree_same r nil_tree right in rw (f, g) refl

      forth : k ≡ l → (same_lists 9 (cell a (cell b e)) (cell c (cell d r)) || crossed 9 (cell a (cell b e)) (cell c (cell d r))) ≡ true
      forth same =
          elim (side_classes p.0 p.1 q.0 q.1 (class_is k l (side_class p.0 p.1) (side_class q.0 q.1) p.4 q.4 same)) [
            | inl h ↦ (let f = (ac p.0 q.0 p.2 q.2).0 h.0 in let g = (bd p.1 q.1 p.3 q.3).0 h.1 in let i = ends in rw (f, g, i) refl)
            | inr h ↦ (let f = (ad p.0 q.1 p.2 q.3).0 h.0 in let g = (bc p.1 q.0 p.3 q.2).0 h.1 in let i = left in let j = right in rw (i, j, f, g) (or_right _))
          ]

      back : (same_lists 9 (cell a (cell b e)) (cell c (cell d r)) || crossed 9 (cell a (cell b e)) (cell c (cell d r))) ≡ true → k ≡ l
      back h =
          elim (or_cases _ _ h) [
            | inl lists ↦ (
                let first = and_parts (same_terms 9 a c) (same_lists 9 (cell b e) (cell d r)) lists in
                let second = and_parts (same_terms 9 b d) (same_lists 9 e r) first.1 in
                let f = (ac p.0 q.0 p.2 q.2).1 first.0 in
                let g = (bd p.1 q.1 p.3 q.3).1 second.0 in
                apart k l (side_class q.0 q.1) (subst (λ m. IsNumberedAt C k (side_class m q.1)) f (subst (λ n. IsNumberedAt C k (side_class p.0 n)) g p.4)) q.4)
            | inr cross ↦ (
                let both = and_parts (same_terms 9 a d) (same_terms 9 b c) (and_parts (same_tree e nil_tree && same_tree r nil_tree) (same_terms 9 a d && same_terms 9 b c) cross).1 in
                let f = (ad p.0 q.1 p.2 q.3).1 both.0 in
                let g = (bc p.1 q.0 p.3 q.2).1 both.1 in
                let here = subst (λ m. IsNumberedAt C k (side_class m q.0)) f (subst (λ n. IsNumberedAt C k (side_class p.0 n)) g p.4) in
                apart k l (side_class q.0 q.1) (subst (λ x. IsNumberedAt C k x) (turned_class q.1 q.0) here) q.4)
          ]

  cells_both : (a c b d : Tree) (k l : ℕ) → ((m n : ℕ) → IsListNumber K C c m → IsListNumber K C d n → (m ≡ n) ↔ (same_lists 9 c d ≡ true)) → (is_pair c ≡ true → is_pair d ≡ true → IsSidesNumber K C c k → IsSidesNumber K C d l → (k ≡ l) ↔ ((same_lists 9 c d || crossed 9 c d) ≡ true)) → IsTermNumber K C (cell a c) k → IsTermNumber K C (cell b d) l → (k ≡ l) ↔ (same_terms 9 (cell a c) (cell b d) ≡ true)
  cells_both a c b d k l lists sides = go (is_let_head a) refl (is_let_head b) refl (is_equality_list a c) refl (is_equality_list b d) refl
    where
      parts : same_terms 9 (cell a c) (cell b d) ≡ true → (same_tree a b ≡ true) × ((if is_let_head a then same_tree c d else (same_lists 9 c d || (same_tree a (leaf 9) && crossed 9 c d))) ≡ true)
      parts h = and_parts (same_tree a b) _ h

      heads : same_terms 9 (cell a c) (cell b d) ≡ true → a ≡ b
      heads h = tree_same a b (parts h).0

      lets : (x y : Bool) → is_let_head a ≡ x → is_let_head b ≡ y → x ≢ y → same_terms 9 (cell a c) (cell b d) ≡ true → ⊥
      lets x y e f differ h = differ (sym e ∙ ap is_let_head (heads h) ∙ f)

      -- what is behind equal heads that are no let's
      behind : is_let_head a ≡ false → same_terms 9 (cell a c) (cell b d) ≡ true → (same_lists 9 c d ≡ true) ⊎ ((a ≡ leaf 9) × (crossed 9 c d ≡ true))
      behind e h =
          let more : (same_lists 9 c d || (same_tree a (leaf 9) && crossed 9 c d)) ≡ true = rw e at (parts h).1 in
          elim (or_cases (same_lists 9 c d) (same_tree a (leaf 9) && crossed 9 c d) more) [
            | inl f ↦ inl f
            | inr f ↦ (let both = and_parts (same_tree a (leaf 9)) (crossed 9 c d) f in inr (tree_same a (leaf 9) both.0, both.1))
          ]

      pairs : is_let_head a ≡ false → same_terms 9 (cell a c) (cell b d) ≡ true → is_equality_list a c ≡ is_equality_list b d
      pairs e h =
          elim (behind e h) [
            | inl f ↦ (let same = heads h in let lists = lists_pair c d f in rw (same, lists) refl)
            | inr f ↦ (let same = heads h in let both = crossed_pair c d f.1 in let one = both.0 in let two = both.1 in rw (same, one, two) refl)
          ]

      go : (x : Bool) → is_let_head a ≡ x → (y : Bool) → is_let_head b ≡ y → (z : Bool) → is_equality_list a c ≡ z → (w : Bool) → is_equality_list b d ≡ w → IsCellNumber K C x z a c k → IsCellNumber K C y w b d l → (k ≡ l) ↔ (same_terms 9 (cell a c) (cell b d) ≡ true)
      go true ex true ey z ez w ew p q =
          let both = alone_both (cell a c) (cell b d) k l p q in (
            λ e. subst (λ t. same_terms 9 (cell a c) t ≡ true) (both.0 e) (terms_refl 9 (cell a c)),
            λ h. both.1 (let list = tree_same c d (rw ex at (parts h).1) in let head = heads h in cc),
          )
      go true ex false ey z ez w ew p q = alone_other (cell a c) k l p (is_other w b d l q) (lets true false ex ey (λ e. cc))
      go false ex true ey z ez w ew p q = other_alone (cell b d) k l (is_other z a c k p) q (lets false true ex ey (λ e. cc))
      go false ex false ey true ez true ew p q =
          let one = equality_is a c ez in
          let two = equality_is b d ew in
          let both = sides one.1 two.1 p q in
          let left = one.0 in
          let right = two.0 in
          let is : same_terms 9 (cell a c) (cell b d) ≡ (same_lists 9 c d || crossed 9 c d) = rw (left, right) refl in
          (λ e. is ∙ both.0 e, λ h. both.1 (sym is ∙ h))
      go false ex false ey true ez false ew p q =
          let s = sides_class c k p in
          unlike k l (side_class s.0 s.1) (Class.Application q.0 q.1) s.2 q.4 (λ e. cc) (λ h. let f = sym ez ∙ pairs ex h ∙ ew in cc)
      go false ex false ey false ez true ew p q =
          let s = sides_class d l q in
          unlike k l (Class.Application p.0 p.1) (side_class s.0 s.1) p.4 s.2 (λ e. cc) (λ h. let f = sym ez ∙ pairs ex h ∙ ew in cc)
      go false ex false ey false ez false ew p q = (
        λ e.
            let f = class_is k l (Class.Application p.0 p.1) (Class.Application q.0 q.1) p.4 q.4 e in
            let head : p.0 ≡ q.0 = cc in
            let list : p.1 ≡ q.1 = cc in
            let same = one_tree q.0 a b (subst (λ r. K r a) head p.2) q.2 in
            let test : same_tree a b ≡ true = subst (λ t. same_tree a t ≡ true) same (tree_refl a) in
            let more = (lists p.1 q.1 p.3 q.3).0 list in
            rw (test, ex, more) refl,
        λ h.
            elim (behind ex h) [
              | inl f ↦ (
                  let head = one_reference p.0 q.0 b (subst (K p.0) (heads h) p.2) q.2 in
                  let list = (lists p.1 q.1 p.3 q.3).1 f in
                  apart k l (Class.Application q.0 q.1) (subst (λ r. IsNumberedAt C k (Class.Application r q.1)) head (subst (λ n. IsNumberedAt C k (Class.Application p.0 n)) list p.4)) q.4)
              | inr f ↦ absurd (let both = crossed_pair c d f.1 in let clash = sym ez ∙ subst (λ t. is_equality_list t c ≡ true) (sym f.0) (no_equality c both.0) in cc)
            ],
      )

  list_cells : (a c b d : Tree) (k l : ℕ) → AreOneTerm a b → ((m n : ℕ) → IsListNumber K C c m → IsListNumber K C d n → (m ≡ n) ↔ (same_lists 9 c d ≡ true)) → IsListNumber K C (cell a c) k → IsListNumber K C (cell b d) l → (k ≡ l) ↔ (same_lists 9 (cell a c) (cell b d) ≡ true)
  list_cells a c b d k l terms lists p q = (
    λ e.
        let f = class_is k l (Class.Arguments p.0 p.1) (Class.Arguments q.0 q.1) p.4 q.4 e in
        let first : p.0 ≡ q.0 = cc in
        let rest : p.1 ≡ q.1 = cc in
        let one = (terms p.0 q.0 p.2 q.2).0 first in
        let two = (lists p.1 q.1 p.3 q.3).0 rest in
        rw (one, two) refl,
    λ h.
        let both = and_parts (same_terms 9 a b) (same_lists 9 c d) h in
        let first = (terms p.0 q.0 p.2 q.2).1 both.0 in
        let rest = (lists p.1 q.1 p.3 q.3).1 both.1 in
        apart k l (Class.Arguments q.0 q.1) (subst (λ r. IsNumberedAt C k (Class.Arguments r q.1)) first (subst (λ n. IsNumberedAt C k (Class.Arguments p.0 n)) rest p.4)) q.4,
  )

  mutual
    pub terms_both : (t u : Tree) (k l : ℕ) → IsTermNumber K C t k → IsTermNumber K C u l → (k ≡ l) ↔ (same_terms 9 t u ≡ true)
    terms_both (leaf i) (leaf j) k l p q =
        let both = alone_both (leaf i) (leaf j) k l p q in (
          λ e. subst (λ t. same_tree (leaf i) t ≡ true) (both.0 e) (tree_refl (leaf i)),
          λ h. both.1 (tree_same (leaf i) (leaf j) h),
        )
    terms_both (leaf i) (cell b d) k l p q = (λ e. absurd (leaf_cell (leaf i) b d k l (λ f. cc) p q e), λ h. absurd (cc))
    terms_both (cell a c) (leaf j) k l p q = (λ e. absurd (leaf_cell (leaf j) a c l k (λ f. cc) q p (sym e)), λ h. absurd (cc))
    terms_both (cell a c) (cell b d) k l p q = cells_both a c b d k l (λ m n. lists_both c d m n) (sides_both c d k l) p q

    lists_both : (t u : Tree) (k l : ℕ) → IsListNumber K C t k → IsListNumber K C u l → (k ≡ l) ↔ (same_lists 9 t u ≡ true)
    lists_both (leaf i) (leaf j) k l p q =
        let both = alone_both (leaf i) (leaf j) k l p q in (
          λ e. subst (λ t. same_tree (leaf i) t ≡ true) (both.0 e) (tree_refl (leaf i)),
          λ h. both.1 (tree_same (leaf i) (leaf j) h),
        )
    lists_both (leaf i) (cell b d) k l p q =
        unlike k l (Class.Alone p.reference) (Class.Arguments q.0 q.1) p.class q.4 (λ e. cc) (λ h. cc)
    lists_both (cell a c) (leaf j) k l p q =
        unlike k l (Class.Arguments p.0 p.1) (Class.Alone q.reference) p.4 q.class (λ e. cc) (λ h. cc)
    lists_both (cell a c) (cell b d) k l p q = list_cells a c b d k l (λ m n. terms_both a b m n) (λ m n. lists_both c d m n) p q

    sides_both : (t u : Tree) (k l : ℕ) → is_pair t ≡ true → is_pair u ≡ true → IsSidesNumber K C t k → IsSidesNumber K C u l → (k ≡ l) ↔ ((same_lists 9 t u || crossed 9 t u) ≡ true)
    sides_both (leaf i) u k l left right p q = absurd p
    sides_both (cell a (leaf i)) u k l left right p q = absurd p
    sides_both (cell a (cell b e)) (leaf j) k l left right p q = absurd q
    sides_both (cell a (cell b e)) (cell c (leaf j)) k l left right p q = absurd q
    sides_both (cell a (cell b e)) (cell c (cell d r)) k l left right p q =
        two_sides a b e c d r k l (λ m n. terms_both a c m n) (λ m n. terms_both b d m n) (λ m n. terms_both a d m n) (λ m n. terms_both b c m n) left right p q
