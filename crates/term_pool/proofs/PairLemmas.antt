-- Cited by crates above. Pairs of trees that are equal up to flips, and the walk over pairs of references.
use Rattle.std.proofs.Common.{◌≡◌, ◌≢◌, ℕ, ◌<◌, ◌≤◌, ◌^◌, ◌⊎◌, inl, inr, refl, sym, ◌∙◌, ap, arith, List, [], ◌∷◌, ◌++◌, Bool, true, false, ◌&&◌, ◌||◌, if◌then◌else◌, nat_eq, nat_lt, Option, Some, None}
use Rattle.std.proofs.lemmas.Bool.Decides.{nat_tests}
use Rattle.std.proofs.lemmas.Bool.{eqb-true, eq-eqb}
use Rattle.pair_pool.specs.Trees.{Tree, leaf, cell}
use Rattle.pair_pool.specs.Views.{PassView, Knows, IsKnown, IsOneToOne, HasPartsOfTrees}
use Rattle.term_pool.specs.declared.flips.Reading.{Reading}
use Rattle.term_pool.specs.declared.flips.Pair.{Pair}
use Rattle.term_pool.specs.declared.flips.Visit.{Visit}
use Rattle.term_pool.specs.declared.flips.Visit.TheVariants.{Part, Done}
use Rattle.term_pool.specs.StandsFor.{nil_tree}
use Rattle.term_pool.specs.Trees.{depth}
use Rattle.term_pool.specs.Views.{IsKnownCell}
use Rattle.term_pool.specs.Heights.{is_let_head}
use Rattle.term_pool.specs.Pairs.{same_tree, same_terms, same_lists, crossed, same_as, as_terms, as_lists, Answers, answer_of, IsAnswer, AreAnswers, looked, both_of, AreCells, IsPairBelow, IsJudged, IsCrossed, AreTwoItems, RemembersPair}
use Rattle.term_pool.proofs.Depth.{is_cell}
use Rattle.term_pool.proofs.HeightLemmas.{head_is_let}
use Rattle.term_pool.proofs.ReadingLemmas.{leaf_of}
use Rattle.term_pool.proofs.Ways.{IsWay, way_start, way_unmet, way_here, way_end, way_down, way_up}

-- the test of trees
pub tree_refl : (t : Tree) → same_tree t t ≡ true
tree_refl (leaf k) = eq-eqb k k refl
tree_refl (cell a b) = let x = tree_refl a in let y = tree_refl b in rw (x, y) refl

pub tree_same : (s t : Tree) → same_tree s t ≡ true → s ≡ t
tree_same (leaf j) (leaf k) e = ap (λ (n : ℕ). leaf n) (eqb-true j k e)
tree_same (leaf j) (cell c d) e = absurd (cc)
tree_same (cell a b) (leaf k) e = absurd (cc)
tree_same (cell a b) (cell c d) e = go (same_tree a c) refl e (tree_same a c) (tree_same b d)
  where
    go : (x : Bool) → same_tree a c ≡ x → (x && same_tree b d) ≡ true → (same_tree a c ≡ true → a ≡ c) → (same_tree b d ≡ true → b ≡ d) → cell a b ≡ cell c d
    go true f g left right = let first = left f in let second = right g in cc
    go false f g left right = absurd (cc)

pub tree_other : (s t : Tree) → s ≢ t → same_tree s t ≡ false
tree_other s t apart = go (same_tree s t) refl
  where
    go : (x : Bool) → same_tree s t ≡ x → same_tree s t ≡ false
    go true e = absurd (apart (tree_same s t e))
    go false e = e

either_true : (b c : Bool) → (if b then true else (true || c)) ≡ true
either_true true c = refl
either_true false c = refl

mutual
  pub terms_refl : (equal : ℕ) (t : Tree) → same_terms equal t t ≡ true
  terms_refl equal (leaf k) = tree_refl (leaf k)
  terms_refl equal (cell a b) =
      let head = tree_refl a in
      let list = tree_refl b in
      let items = lists_refl equal b in rw (head, list, items) (either_true (is_let_head a) (same_tree a (leaf equal) && crossed equal b b))

  pub lists_refl : (equal : ℕ) (t : Tree) → same_lists equal t t ≡ true
  lists_refl equal (leaf k) = tree_refl (leaf k)
  lists_refl equal (cell a b) =
      let first = terms_refl equal a in let rest = lists_refl equal b in rw (first, rest) refl

same_refl : (equal : ℕ) (x : Reading) (t : Tree) → same_as equal x t t ≡ true
same_refl equal Reading.Terms t = terms_refl equal t
same_refl equal Reading.Lists t = lists_refl equal t

-- a leaf is equal to itself alone
leaf_leaf : (equal : ℕ) (x : Reading) (j k : ℕ) → j ≢ k → same_as equal x (leaf j) (leaf k) ≡ false
leaf_leaf equal Reading.Terms j k apart = tree_other (leaf j) (leaf k) (λ e. apart (cc))
leaf_leaf equal Reading.Lists j k apart = tree_other (leaf j) (leaf k) (λ e. apart (cc))

leaf_cell : (equal : ℕ) (x : Reading) (j : ℕ) (c d : Tree) → same_as equal x (leaf j) (cell c d) ≡ false
leaf_cell equal Reading.Terms j c d = refl
leaf_cell equal Reading.Lists j c d = refl

cell_leaf : (equal : ℕ) (x : Reading) (k : ℕ) (c d : Tree) → same_as equal x (cell c d) (leaf k) ≡ false
cell_leaf equal Reading.Terms k c d = refl
cell_leaf equal Reading.Lists k c d = refl

leaf_apart : (p : PassView) → IsOneToOne p → HasPartsOfTrees p → (equal : ℕ) (x : Pair) → x.left ≢ x.right → (x.left < 2 ^ 30) ⊎ (x.right < 2 ^ 30) → IsAnswer p equal x false
leaf_apart p one parts equal x apart low (leaf j) (leaf k) known other =
    let e = (parts.leaf_number x.left j known).0 in
    let f = (parts.leaf_number x.right k other).0 in
    sym (leaf_leaf equal x.reading j k (λ g. apart (e ∙ g ∙ sym f)))
leaf_apart p one parts equal x apart low (leaf j) (cell c d) known other = sym (leaf_cell equal x.reading j c d)
leaf_apart p one parts equal x apart low (cell a b) (leaf k) known other = sym (cell_leaf equal x.reading k a b)
leaf_apart p one parts equal x apart low (cell a b) (cell c d) known other = absurd (go low)
  where
    go : (x.left < 2 ^ 30) ⊎ (x.right < 2 ^ 30) → ⊥
    go (inl h) = let high = one.high x.left a b known in omega arith
    go (inr h) = let high = one.high x.right c d other in omega arith

-- what a look-up finds is the answer, and where it finds none the pair is one of cells that was not judged
pub record IsOpen (p : PassView) (memo : Answers) (x : Pair) : Type 0 where
  pub cells : AreCells p x
  pub unmet : answer_of memo x ≡ None

abbrev pub IsLook : PassView → ℕ → Answers → Pair → Option Bool → Type 0
IsLook p equal memo x None = IsOpen p memo x
IsLook p equal memo x (Some b) = IsAnswer p equal x b

pub look_is : (p : PassView) → IsOneToOne p → HasPartsOfTrees p → (equal : ℕ) (memo : Answers) → AreAnswers p equal memo → (x : Pair) → IsKnown p x.left → IsKnown p x.right → IsLook p equal memo x (looked memo x)
look_is p one parts equal memo right x known other = go (nat_eq x.left x.right) refl
  where
    found : (x.left ≢ x.right) → 2 ^ 30 ≤ x.left → 2 ^ 30 ≤ x.right → (o : Option Bool) → answer_of memo x ≡ o → IsLook p equal memo x o
    found apart high high2 None e = record {
      cells = record {
        one = is_cell p parts x.left known.tree known.stands high;
        other = is_cell p parts x.right other.tree other.stands high2;
        apart = apart;
      };
      unmet = e;
    }
    found apart high high2 (Some b) e = right x b e

    cells : x.left ≢ x.right → (b c : Bool) → nat_lt x.left (2 ^ 30) ≡ b → nat_lt x.right (2 ^ 30) ≡ c → IsLook p equal memo x (if (b || c) then Some false else answer_of memo x)
    cells apart true c e f = leaf_apart p one parts equal x apart (inl (grind (arith, nat_tests)))
    cells apart false true e f = leaf_apart p one parts equal x apart (inr (grind (arith, nat_tests)))
    cells apart false false e f =
        found apart (grind (arith, nat_tests)) (grind (arith, nat_tests)) (answer_of memo x) refl

    go : (b : Bool) → nat_eq x.left x.right ≡ b → IsLook p equal memo x (if b then Some true else (if (nat_lt x.left (2 ^ 30) || nat_lt x.right (2 ^ 30)) then Some false else answer_of memo x))
    go true e =
        let same : x.left ≡ x.right = eqb-true x.left x.right e in
        λ s t k l.
        let tree : s ≡ t = one.one_tree x.right s t (rw same at k) l in
        sym (rw tree (same_refl equal x.reading t))
    go false e = cells (λ same. let f = eq-eqb x.left x.right same in cc) _ _ refl refl

-- what visiting two pairs comes to
abbrev pub AreBoth : PassView → ℕ → Answers → Pair → Pair → Visit → Type 0
AreBoth p equal memo x y (Part z) = ((z ≡ x) ⊎ (z ≡ y)) × IsOpen p memo z
AreBoth p equal memo x y (Done b) =
    (s t u v : Tree) → Knows p x.left s → Knows p x.right t → Knows p y.left u → Knows p y.right v →
    b ≡ (same_as equal x.reading s t && same_as equal y.reading u v)

pub both_are : (p : PassView) (equal : ℕ) (memo : Answers) (x y : Pair) (m n : Option Bool) → IsLook p equal memo x m → IsLook p equal memo y n → AreBoth p equal memo x y (both_of x m y n)
both_are p equal memo x y None n h k = (inl refl, h)
both_are p equal memo x y (Some false) n h k = λ s t u v a b c d. rw (← h s t a b) refl
both_are p equal memo x y (Some true) None h k = (inr refl, k)
both_are p equal memo x y (Some true) (Some e) h k = λ s t u v a b c d. rw (← h s t a b, ← k u v c d) refl

-- a reference of a cell, and those of its parts
pub record IsSplit (p : PassView) (r a b : ℕ) : Type 0 where
  pub head : Tree
  pub list : Tree
  pub whole : Knows p r (cell head list)
  pub first : Knows p a head
  pub second : Knows p b list

pub split_of : (p : PassView) (r a b : ℕ) → IsKnownCell p r → ((s t : Tree) → Knows p r (cell s t) → Knows p a s) → ((s t : Tree) → Knows p r (cell s t) → Knows p b t) → IsSplit p r a b
split_of p r a b c first second =
    record { head = c.first; list = c.second; whole = c.stands; first = first _ _ c.stands; second = second _ _ c.stands }

first_known : (p : PassView) (r a b : ℕ) → IsSplit p r a b → IsKnown p a
first_known p r a b h = record { tree = h.head; stands = h.first }

pub rest_known : (p : PassView) (r a b : ℕ) → IsSplit p r a b → IsKnown p b
rest_known p r a b h = record { tree = h.list; stands = h.second }

-- what a stands for is less deep than what r does
Deeper : PassView → ℕ → ℕ → Type 0
Deeper p r a = (s u : Tree) → Knows p r s → Knows p a u → depth u < depth s

first_deeper : (p : PassView) → IsOneToOne p → (r a b : ℕ) → IsSplit p r a b → Deeper p r a
unfolding Deeper
first_deeper p one r a b h s u k l =
    let e : s ≡ cell h.head h.list = one.one_tree r _ _ k h.whole in
    let f : u ≡ h.head = one.one_tree a _ _ l h.first in
    rw (e, f) (omega arith)

second_deeper : (p : PassView) → IsOneToOne p → (r a b : ℕ) → IsSplit p r a b → Deeper p r b
unfolding Deeper
second_deeper p one r a b h s u k l =
    let e : s ≡ cell h.head h.list = one.one_tree r _ _ k h.whole in
    let f : u ≡ h.list = one.one_tree b _ _ l h.second in
    rw (e, f) (omega arith)

below_pair : (p : PassView) (x z : Pair) → Deeper p x.left z.left → Deeper p x.right z.right → AreCells p z → IsPairBelow p x z
unfolding Deeper
below_pair p x z left right cells = record {
  cells = cells;
  less = λ s t u v k l m n. let a = left s u k m in let b = right t v l n in omega arith;
}

-- the pairs of the walk
pub below_further : (p : PassView) (x y z : Pair) → IsPairBelow p x y → IsPairBelow p y z → IsPairBelow p x z
below_further p x y z h k = record {
  cells = k.cells;
  less = λ s t u v a b c d.
      let e = h.cells.one in
      let f = h.cells.other in
      let m = h.less s t _ _ a b e.stands f.stands in
      let n = k.less _ _ u v e.stands f.stands c d in
      omega arith;
}

pub below_never : (p : PassView) (x : Pair) → IsPairBelow p x x → ⊥
below_never p x h =
    let c = h.cells.one in
    let d = h.cells.other in
    let less = h.less _ _ _ _ c.stands d.stands c.stands d.stands in omega arith

-- two lists are judged by their first items and by the others
pub lists_judged : (p : PassView) → IsOneToOne p → HasPartsOfTrees p → (equal : ℕ) (memo : Answers) → AreAnswers p equal memo → (r a b q c d : ℕ) → IsSplit p r a b → IsSplit p q c d → IsJudged p equal memo (as_lists r q) (both_of (as_terms a c) (looked memo (as_terms a c)) (as_lists b d) (looked memo (as_lists b d)))
lists_judged p one parts equal memo right r a b q c d h k =
    go _
    (both_are p equal memo (as_terms a c) (as_lists b d) _ _
    (look_is p one parts equal memo right (as_terms a c) (first_known p r a b h) (first_known p q c d k))
    (look_is p one parts equal memo right (as_lists b d) (rest_known p r a b h) (rest_known p q c d k)))
  where
    firsts : AreCells p (as_terms a c) → IsPairBelow p (as_lists r q) (as_terms a c)
    firsts cells = below_pair p (as_lists r q) (as_terms a c) (first_deeper p one r a b h) (first_deeper p one q c d k) cells

    rests : AreCells p (as_lists b d) → IsPairBelow p (as_lists r q) (as_lists b d)
    rests cells = below_pair p (as_lists r q) (as_lists b d) (second_deeper p one r a b h) (second_deeper p one q c d k) cells

    go : (v : Visit) → AreBoth p equal memo (as_terms a c) (as_lists b d) v → IsJudged p equal memo (as_lists r q) v
    go (Part z) (inl e, unjudged) = (rw e (firsts (rw e at unjudged.cells)), unjudged.unmet)
    go (Part z) (inr e, unjudged) = (rw e (rests (rw e at unjudged.cells)), unjudged.unmet)
    go (Done v) both = λ s t m n.
        let e : s ≡ cell h.head h.list = one.one_tree r _ _ m h.whole in
        let f : t ≡ cell k.head k.list = one.one_tree q _ _ n k.whole in
        rw (e, f) (both h.head k.head h.list k.list h.first k.first h.second k.second)

-- lists that have no two items
second_false : (x y : Bool) → ((x && false) && y) ≡ false
second_false true y = refl
second_false false y = refl

pub crossed_left : (p : PassView) (equal : ℕ) (memo : Answers) (list others : ℕ) → AreTwoItems p list None → IsCrossed p equal memo list others (Done false)
crossed_left p equal memo list others none (leaf j) t k l = refl
crossed_left p equal memo list others none (cell a (leaf j)) t k l = refl
crossed_left p equal memo list others none (cell a (cell b end)) (leaf j) k l = refl
crossed_left p equal memo list others none (cell a (cell b end)) (cell c (leaf j)) k l = refl
crossed_left p equal memo list others none (cell a (cell b end)) (cell c (cell d rest)) k l =
    let no : same_tree end nil_tree ≡ false = tree_other end nil_tree (λ e. none a b (rw e at k)) in
    sym (ap (λ (x : Bool). (x && same_tree rest nil_tree) && (same_terms equal a d && same_terms equal b c)) no)

pub crossed_right : (p : PassView) (equal : ℕ) (memo : Answers) (list others : ℕ) → AreTwoItems p others None → IsCrossed p equal memo list others (Done false)
crossed_right p equal memo list others none (leaf j) t k l = refl
crossed_right p equal memo list others none (cell a (leaf j)) t k l = refl
crossed_right p equal memo list others none (cell a (cell b end)) (leaf j) k l = refl
crossed_right p equal memo list others none (cell a (cell b end)) (cell c (leaf j)) k l = refl
crossed_right p equal memo list others none (cell a (cell b end)) (cell c (cell d rest)) k l =
    let no : same_tree rest nil_tree ≡ false = tree_other rest nil_tree (λ e. none c d (rw e at l)) in
    sym (ap (λ (x : Bool). (same_tree end nil_tree && x) && (same_terms equal a d && same_terms equal b c)) no ∙ second_false (same_tree end nil_tree) (same_terms equal a d && same_terms equal b c))

-- the items of a list that has two, as those of a cell and of the cell behind it
pub items_of_two : (p : PassView) → IsOneToOne p → HasPartsOfTrees p → (r a b c d : ℕ) → IsSplit p r a b → IsSplit p b c d → d ≡ 0 → AreTwoItems p r (Some (a, c))
items_of_two p one parts r a b c d h k e = go k.list k.second refl
  where
    go : (end : Tree) → Knows p d end → end ≡ k.list → AreTwoItems p r (Some (a, c))
    go (leaf n) known f =
        let zero : d ≡ n = (parts.leaf_number d n known).0 in
        let nil : leaf n ≡ nil_tree = ap (λ (m : ℕ). leaf m) (sym zero ∙ e) in
        let whole : h.list ≡ cell k.head k.list = one.one_tree b _ _ h.second k.whole in
        let at : Knows p r (cell h.head (cell k.head nil_tree)) = rw (whole, ← f, nil) at h.whole in
        (h.head, k.head, at, h.first, k.first)
    go (cell s t) known f = let high = one.high d s t known in absurd (omega arith)

item_deeper : (p : PassView) → IsOneToOne p → (r m : ℕ) (a b end : Tree) → Knows p r (cell a (cell b end)) → Knows p m a ⊎ Knows p m b → Deeper p r m
unfolding Deeper
item_deeper p one r m a b end whole (inl known) s u k l =
    let e : s ≡ cell a (cell b end) = one.one_tree r _ _ k whole in
    let f : u ≡ a = one.one_tree m _ _ l known in
    rw (e, f) (omega arith)
item_deeper p one r m a b end whole (inr known) s u k l =
    let e : s ≡ cell a (cell b end) = one.one_tree r _ _ k whole in
    let f : u ≡ b = one.one_tree m _ _ l known in
    rw (e, f) (omega arith)

pub crossed_judged : (p : PassView) → IsOneToOne p → HasPartsOfTrees p → (equal : ℕ) (memo : Answers) → AreAnswers p equal memo → (list others : ℕ) (m n : ℕ × ℕ) → AreTwoItems p list (Some m) → AreTwoItems p others (Some n) → IsCrossed p equal memo list others (both_of (as_terms m.0 n.1) (looked memo (as_terms m.0 n.1)) (as_terms m.1 n.0) (looked memo (as_terms m.1 n.0)))
crossed_judged p one parts equal memo right list others m n (a, b, whole, am, bm) (c, d, others_whole, cn, dn) =
    go _
    (both_are p equal memo (as_terms m.0 n.1) (as_terms m.1 n.0) _ _
    (look_is p one parts equal memo right (as_terms m.0 n.1) (record { tree = a; stands = am }) (record { tree = d; stands = dn }))
    (look_is p one parts equal memo right (as_terms m.1 n.0) (record { tree = b; stands = bm }) (record { tree = c; stands = cn })))
  where
    outer : AreCells p (as_terms m.0 n.1) → IsPairBelow p (as_lists list others) (as_terms m.0 n.1)
    outer cells =
        below_pair p (as_lists list others) (as_terms m.0 n.1)
        (item_deeper p one list m.0 a b nil_tree whole (inl am))
        (item_deeper p one others n.1 c d nil_tree others_whole (inr dn)) cells

    inner : AreCells p (as_terms m.1 n.0) → IsPairBelow p (as_lists list others) (as_terms m.1 n.0)
    inner cells =
        below_pair p (as_lists list others) (as_terms m.1 n.0)
        (item_deeper p one list m.1 a b nil_tree whole (inr bm))
        (item_deeper p one others n.0 c d nil_tree others_whole (inl cn)) cells

    go : (v : Visit) → AreBoth p equal memo (as_terms m.0 n.1) (as_terms m.1 n.0) v → IsCrossed p equal memo list others v
    go (Part z) (inl e, unjudged) = (rw e (outer (rw e at unjudged.cells)), unjudged.unmet)
    go (Part z) (inr e, unjudged) = (rw e (inner (rw e at unjudged.cells)), unjudged.unmet)
    go (Done v) both = λ s t k l.
        let e : s ≡ cell a (cell b nil_tree) = one.one_tree list _ _ k whole in
        let f : t ≡ cell c (cell d nil_tree) = one.one_tree others _ _ l others_whole in
        rw (e, f) (both a d b c am dn bm cn)

deeper_pair : (p : PassView) → IsOneToOne p → (r a b q c d : ℕ) → IsSplit p r a b → IsSplit p q c d → (z : Pair) → IsPairBelow p (as_lists b d) z → IsPairBelow p (as_terms r q) z
unfolding Deeper
deeper_pair p one r a b q c d h k z v = record {
  cells = v.cells;
  less = λ s t u w m n f g.
      let x = second_deeper p one r a b h s h.list m h.second in
      let y = second_deeper p one q c d k t k.list n k.second in
      let less = v.less h.list k.list u w h.second k.second f g in
      omega arith;
}

-- two terms are judged by their heads and by their arguments
abbrev whole_test : ℕ → Tree → Tree → Tree → Tree → Bool
whole_test equal head list other others =
    same_tree head other
    && (if is_let_head head then same_tree list others
    else (same_lists equal list others || (same_tree head (leaf equal) && crossed equal list others)))

terms_are : (p : PassView) → IsOneToOne p → (equal r a b q c d : ℕ) (h : IsSplit p r a b) (k : IsSplit p q c d) (x : Bool) → x ≡ whole_test equal h.head h.list k.head k.list → IsAnswer p equal (as_terms r q) x
terms_are p one equal r a b q c d h k x is s t m n =
    let e : s ≡ cell h.head h.list = one.one_tree r _ _ m h.whole in
    let f : t ≡ cell k.head k.list = one.one_tree q _ _ n k.whole in
    rw (e, f) is

heads_same : (p : PassView) → IsOneToOne p → (r a b q c d : ℕ) (h : IsSplit p r a b) (k : IsSplit p q c d) → a ≡ c → h.head ≡ k.head
heads_same p one r a b q c d h k e = one.one_tree c _ _ (rw e at h.first) k.first

heads_apart : (p : PassView) → IsOneToOne p → (r a b q c d : ℕ) (h : IsSplit p r a b) (k : IsSplit p q c d) → a ≢ c → same_tree h.head k.head ≡ false
heads_apart p one r a b q c d h k apart =
    tree_other h.head k.head (λ e. apart (one.one_reference a c k.head (rw e at h.first) k.first))

-- the lists of different terms with one head are different
lists_apart : (p : PassView) → IsOneToOne p → (r a b q c d : ℕ) (h : IsSplit p r a b) (k : IsSplit p q c d) → r ≢ q → a ≡ c → same_tree h.list k.list ≡ false
lists_apart p one r a b q c d h k apart e =
    tree_other h.list k.list
    (λ f.
    let g = heads_same p one r a b q c d h k e in
    let whole : cell h.head h.list ≡ cell k.head k.list = cc in
    apart (one.one_reference r q (cell k.head k.list) (rw whole at h.whole) k.whole))

pub other_heads : (p : PassView) → IsOneToOne p → HasPartsOfTrees p → (equal r a b q c d : ℕ) → IsSplit p r a b → IsSplit p q c d → r ≢ q → ((a ≢ c) ⊎ (a ≡ 1)) → IsAnswer p equal (as_terms r q) false
other_heads p one parts equal r a b q c d h k apart (inl e) =
    terms_are p one equal r a b q c d h k false (rw (heads_apart p one r a b q c d h k e) refl)
other_heads p one parts equal r a b q c d h k apart (inr e) = go (nat_eq a c) refl
  where
    go : (b2 : Bool) → nat_eq a c ≡ b2 → IsAnswer p equal (as_terms r q) false
    go false f =
        terms_are p one equal r a b q c d h k false
        (rw (heads_apart p one r a b q c d h k (λ g. let t = eq-eqb a c g in cc)) refl)
    go true f =
        let same = eqb-true a c f in
        let is_let : is_let_head h.head ≡ true = sym (head_is_let p one parts a h.head h.first) ∙ eq-eqb a 1 e in
        let heads : same_tree h.head k.head ≡ true =
        ap (λ (x : Tree). same_tree h.head x) (sym (heads_same p one r a b q c d h k same)) ∙ tree_refl h.head in
        terms_are p one equal r a b q c d h k false
        (rw (heads, is_let, lists_apart p one r a b q c d h k apart same) refl)

-- one head that is no let's
pub record HaveHead (p : PassView) (a c : ℕ) : Type 0 where
  pub same : a ≡ c
  pub no_let : a ≢ 1

with_head : (p : PassView) → IsOneToOne p → HasPartsOfTrees p → (equal r a b q c d : ℕ) (h : IsSplit p r a b) (k : IsSplit p q c d) → HaveHead p a c → (x : Bool) → x ≡ (same_lists equal h.list k.list || (same_tree h.head (leaf equal) && crossed equal h.list k.list)) → IsAnswer p equal (as_terms r q) x
with_head p one parts equal r a b q c d h k head x is =
    let no_let : is_let_head h.head ≡ false =
    sym (head_is_let p one parts a h.head h.first) ∙ eqb-other a 1 head.no_let in
    let heads : same_tree h.head k.head ≡ true =
    ap (λ (y : Tree). same_tree h.head y) (sym (heads_same p one r a b q c d h k head.same)) ∙ tree_refl h.head in
    terms_are p one equal r a b q c d h k x (rw (heads, no_let) is)
  where
    eqb-other : (m n : ℕ) → m ≢ n → nat_eq m n ≡ false
    eqb-other m n apart = grind (arith, nat_tests)

pub equal_lists : (p : PassView) → IsOneToOne p → HasPartsOfTrees p → (equal : ℕ) (memo : Answers) (r a b q c d : ℕ) → IsSplit p r a b → IsSplit p q c d → HaveHead p a c → IsAnswer p equal (as_lists b d) true → IsAnswer p equal (as_terms r q) true
equal_lists p one parts equal memo r a b q c d h k head answer =
    with_head p one parts equal r a b q c d h k head true
    (let lists = answer h.list k.list h.second k.second in rw (← lists) refl)

pub open_lists : (p : PassView) → IsOneToOne p → (memo : Answers) (r a b q c d : ℕ) → IsSplit p r a b → IsSplit p q c d → IsOpen p memo (as_lists b d) → IsPairBelow p (as_terms r q) (as_lists b d) × (answer_of memo (as_lists b d) ≡ None)
open_lists p one memo r a b q c d h k o =
    (below_pair p (as_terms r q) (as_lists b d) (second_deeper p one r a b h) (second_deeper p one q c d k) o.cells, o.unmet)

pub no_equality : (p : PassView) → IsOneToOne p → HasPartsOfTrees p → (equal r a b q c d : ℕ) → IsSplit p r a b → IsSplit p q c d → HaveHead p a c → a ≢ equal → IsAnswer p equal (as_lists b d) false → IsAnswer p equal (as_terms r q) false
no_equality p one parts equal r a b q c d h k head apart answer =
    with_head p one parts equal r a b q c d h k head false
    (let lists = answer h.list k.list h.second k.second in
    let other : same_tree h.head (leaf equal) ≡ false = go h.head h.first in rw (← lists, other) refl)
  where
    go : (t : Tree) → Knows p a t → same_tree t (leaf equal) ≡ false
    go (leaf n) known =
        let e = (parts.leaf_number a n known).0 in tree_other (leaf n) (leaf equal) (λ f. apart (e ∙ (cc)))
    go (cell s t) known = refl

pub equality_judged : (p : PassView) → IsOneToOne p → HasPartsOfTrees p → (equal : ℕ) (memo : Answers) (r a b q c d : ℕ) → IsSplit p r a b → IsSplit p q c d → HaveHead p a c → a ≡ equal → equal < 2 ^ 30 → IsAnswer p equal (as_lists b d) false → (v : Visit) → IsCrossed p equal memo b d v → IsJudged p equal memo (as_terms r q) v
equality_judged p one parts equal memo r a b q c d h k head is low answer (Part z) v =
    (deeper_pair p one r a b q c d h k z v.0, v.1)
equality_judged p one parts equal memo r a b q c d h k head is low answer (Done x) v =
    with_head p one parts equal r a b q c d h k head x
    (let lists = answer h.list k.list h.second k.second in
    let here : h.head ≡ leaf equal = leaf_of p one parts equal h.head (rw is at h.first) low in
    let test : same_tree h.head (leaf equal) ≡ true = ap (λ (t : Tree). same_tree t (leaf equal)) here ∙ tree_refl (leaf equal) in
    rw (← lists, test) (v h.list k.list h.second k.second))

-- the look at the lists of two terms
pub lists_look : (p : PassView) → IsOneToOne p → HasPartsOfTrees p → (equal : ℕ) (memo : Answers) → AreAnswers p equal memo → (r a b q c d : ℕ) → IsSplit p r a b → IsSplit p q c d → (x : Pair) (found : Option Bool) → x ≡ as_lists b d → found ≡ looked memo x → IsLook p equal memo (as_lists b d) found
lists_look p one parts equal memo right r a b q c d h k x found e f =
    rw (f, e) (look_is p one parts equal memo right (as_lists b d) (rest_known p r a b h) (rest_known p q c d k))

-- pairs are one or different
same_reading : (x y : Reading) → (x ≡ y) ⊎ (x ≢ y)
same_reading Reading.Terms Reading.Terms = inl refl
same_reading Reading.Terms Reading.Lists = inr (λ e. cc)
same_reading Reading.Lists Reading.Terms = inr (λ e. cc)
same_reading Reading.Lists Reading.Lists = inl refl

same_number : (m n : ℕ) → (m ≡ n) ⊎ (m ≢ n)
same_number m n = grind arith

same_pair : (x y : Pair) → (x ≡ y) ⊎ (x ≢ y)
same_pair x y = go (same_reading x.reading y.reading) (same_number x.left y.left) (same_number x.right y.right)
  where
    go : (x.reading ≡ y.reading) ⊎ (x.reading ≢ y.reading) → (x.left ≡ y.left) ⊎ (x.left ≢ y.left) → (x.right ≡ y.right) ⊎ (x.right ≢ y.right) → (x ≡ y) ⊎ (x ≢ y)
    go (inl a) (inl b) (inl c) = inl (λ i. record { reading = a i; left = b i; right = c i })
    go (inr a) b c = inr (λ e. a (ap (λ (z : Pair). z.reading) e))
    go (inl a) (inr b) c = inr (λ e. b (ap (λ (z : Pair). z.left) e))
    go (inl a) (inl b) (inr c) = inr (λ e. c (ap (λ (z : Pair). z.right) e))

-- the pair was judged
IsMet : Answers → Pair → Type 0
IsMet memo x = (b : Bool) × (answer_of memo x ≡ Some b)

none_unmet : (memo : Answers) (x : Pair) → answer_of memo x ≡ None → IsMet memo x → ⊥
unfolding IsMet
none_unmet memo x e (b, f) = let g : None ≡ Some b = sym e ∙ f in absurd (cc)

unmet_none : (memo : Answers) (x : Pair) → (IsMet memo x → ⊥) → answer_of memo x ≡ None
unfolding IsMet
unmet_none memo x h = go (answer_of memo x) refl
  where
    go : (o : Option Bool) → answer_of memo x ≡ o → answer_of memo x ≡ None
    go None e = e
    go (Some b) e = absurd (h (b, e))

met_more : (old new : Answers) (at : Pair) (b : Bool) → RemembersPair old new at b → (x : Pair) → IsMet new x → IsMet old x ⊎ (x ≡ at)
unfolding IsMet
met_more old new at b h x (c, e) = go (same_pair x at)
  where
    go : (x ≡ at) ⊎ (x ≢ at) → ((d : Bool) × (answer_of old x ≡ Some d)) ⊎ (x ≡ at)
    go (inl same) = inr same
    go (inr other) = inl (c, sym (h.others x other) ∙ e)

answers_more : (p : PassView) (equal : ℕ) (old new : Answers) (at : Pair) (b : Bool) → AreAnswers p equal old → RemembersPair old new at b → IsAnswer p equal at b → AreAnswers p equal new
answers_more p equal old new at b right h answer x c e = go (same_pair x at)
  where
    go : (x ≡ at) ⊎ (x ≢ at) → IsAnswer p equal x c
    go (inl same) =
        let here : answer_of new x ≡ Some b = rw same h.here in
        let f : Some b ≡ Some c = sym here ∙ e in
        let g : b ≡ c = cc in
        rw (same, ← g) answer
    go (inr other) = right x c (sym (h.others x other) ∙ e)

-- Where the walk is: the answers are right, and the pairs on the way down are not judged.
pub record IsWalk (p : PassView) (equal : ℕ) (memo : Answers) (root : Pair) (items : List Pair) : Type 0 where
  right : AreAnswers p equal memo
  cells : AreCells p root
  way : IsWay (IsPairBelow p) (IsMet memo) root items

pub walk_answers : (p : PassView) (equal : ℕ) (memo : Answers) (root : Pair) (items : List Pair) → IsWalk p equal memo root items → AreAnswers p equal memo
walk_answers p equal memo root items h = h.right

pub walk_cells : (p : PassView) (equal : ℕ) (memo : Answers) (root at : Pair) (way : List Pair) → IsWalk p equal memo root (way ++ at ∷ []) → AreCells p at
walk_cells p equal memo root at way h =
    way_here (IsPairBelow p) (AreCells p) (λ x y b. b.cells) (IsMet memo) root at way h.cells h.way

pub walk_new : (p : PassView) (equal : ℕ) (memo : Answers) (root at : Pair) (way : List Pair) → IsWalk p equal memo root (way ++ at ∷ []) → answer_of memo at ≡ None
walk_new p equal memo root at way h = unmet_none memo at (way_unmet (IsPairBelow p) (IsMet memo) root at way h.way)

no_answers : (p : PassView) (equal : ℕ) (memo : Answers) → memo.entries ≡ [] → AreAnswers p equal memo
no_answers p equal memo e x b f = let g : None ≡ Some b = sym (nothing x) ∙ f in absurd (cc)
  where
    nothing : (x : Pair) → answer_of memo x ≡ None
    nothing x = rw e refl

pub look_first : (p : PassView) → IsOneToOne p → HasPartsOfTrees p → (equal : ℕ) (memo : Answers) → memo.entries ≡ [] → (r q : ℕ) → IsKnown p r → IsKnown p q → (x : Pair) (found : Option Bool) → x ≡ as_terms r q → found ≡ looked memo x → IsLook p equal memo (as_terms r q) found
look_first p one parts equal memo e r q known other x found f g =
    rw (g, f) (look_is p one parts equal memo (no_answers p equal memo e) (as_terms r q) known other)

pub walk_start : (p : PassView) (equal : ℕ) (memo : Answers) → memo.entries ≡ [] → (root : Pair) → IsOpen p memo root → IsWalk p equal memo root (root ∷ [])
walk_start p equal memo e root h = record {
  right = no_answers p equal memo e;
  cells = h.cells;
  way = way_start (IsPairBelow p) (IsMet memo) root (none_unmet memo root h.unmet);
}

pub walk_down : (p : PassView) (equal : ℕ) (memo : Answers) (root at part : Pair) (way : List Pair) → IsWalk p equal memo root (way ++ at ∷ []) → IsPairBelow p at part → answer_of memo part ≡ None → IsWalk p equal memo root ((way ++ at ∷ []) ++ part ∷ [])
walk_down p equal memo root at part way h k e = record {
  right = h.right;
  cells = h.cells;
  way = way_down (IsPairBelow p) (below_further p) (IsMet memo) root at part way h.way k (none_unmet memo part e);
}

pub walk_up : (p : PassView) (equal : ℕ) (old new : Answers) (root at above : Pair) (b : Bool) (way : List Pair) → IsWalk p equal old root ((way ++ above ∷ []) ++ at ∷ []) → RemembersPair old new at b → IsAnswer p equal at b → IsWalk p equal new root (way ++ above ∷ [])
walk_up p equal old new root at above b way h more answer = record {
  right = answers_more p equal old new at b h.right more answer;
  cells = h.cells;
  way = way_up (IsPairBelow p) (below_never p) (IsMet old) (IsMet new) root above at way (met_more old new at b more) h.way;
}

pub walk_end : (p : PassView) (equal : ℕ) (memo : Answers) (root at : Pair) (way : List Pair) → way ≡ [] → IsWalk p equal memo root (way ++ at ∷ []) → at ≡ root
walk_end p equal memo root at way e h = way_end (IsPairBelow p) (IsMet memo) root at way e h.way
