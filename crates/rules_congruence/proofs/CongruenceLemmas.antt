-- Arguments that are linked.
use Rattle.std.proofs.Common.{◌≡◌, ◌≢◌, ◌↔◌, inl, inr, ◌<◌, ◌+◌, ℕ, suc, Bool, false, List, [], ◌∷◌, length, get_or, refl, sym, ap, ◌∙◌, subst, arith, IsTrue, Some}
use Rattle.std.specs.List.{AllZip}
use Rattle.std.proofs.lemmas.Bool.{cases_lt}
use Rattle.std.proofs.lemmas.List.Elements.{All-head, All-tail}
use Rattle.rule_model.specs.Congruence.{Head, operator, function, IsLinked, AreLinked, AreCrossed}
use Rattle.sym_table.specs.Leaf.{Leaf}
use Rattle.sym_table.specs.Table.{Table, IsLeaf}
use Rattle.term_model.specs.declared.symbols.Op.{Op}
use Rattle.term_model.specs.Terms.{Term, numeral}
use Rattle.term_pool.specs.Views.{TermsView, RefersTo, IsTerm, ReferToAll}
use Rattle.rules_congruence.specs.Applications.{leaf_of, AreApplied}
use Rattle.rules_congruence.specs.Steps.{AreTerms}
use Rattle.rules_congruence.specs.Uses.{ArePairs}
use Rattle.rules_congruence.specs.declared.uses.Uses.{Uses}
use Rattle.rules_congruence.proofs.TailLemmas.{uncut_of_two, uncut_to_two}
use Rattle.term_model.proofs.Zips.{zip_at, zip_length}

pub not_as_long : (s : Table) (v : TermsView) (P : Term → Term → Type 0) (ls rs : List ℕ) (ts us : List Term) → length ls ≢ length rs → ReferToAll s v ls ts → ReferToAll s v rs us → ¬ AllZip P ts us
not_as_long s v P ls rs ts us apart left right zip =
    apart (zip_length (RefersTo s v) ls ts left ∙ zip_length P ts us zip ∙ sym (zip_length (RefersTo s v) rs us right))

pub not_linked_at : (s : Table) (v : TermsView) (P : Term → Term → Type 0) (ls rs : List ℕ) (ts us : List Term) (place l r : ℕ) (b : Bool) → place < length ls → length ls ≡ length rs → ((d : ℕ) → get_or ls place d ≡ l) → ((d : ℕ) → get_or rs place d ≡ r) → ReferToAll s v ls ts → ReferToAll s v rs us → ((t u : Term) → RefersTo s v l t → RefersTo s v r u → IsTrue b ↔ P t u) → b ≡ false → ¬ AllZip P ts us
not_linked_at s v P ls rs ts us place l r b below long is at left right linked e zip =
    let same = zip_length (RefersTo s v) ls ts left in
    let d = numeral 0 in
    let here = subst (λ x. RefersTo s v x (get_or ts place d)) (is l) (zip_at (RefersTo s v) ls ts place l d left below) in
    let there = subst (λ x. RefersTo s v x (get_or us place d)) (at r) (zip_at (RefersTo s v) rs us place r d right (omega (arith, below, long))) in
    let both = zip_at P ts us place d d zip (omega (arith, below, same)) in
    let clash = sym e ∙ (linked (get_or ts place d) (get_or us place d) here there).1 both in
    cc

pub linked_more : (s : Table) (v : TermsView) (P : Term → Term → Type 0) (ls rs : List ℕ) (place l r k : ℕ) (t u : Term) → ((d : ℕ) → get_or ls place d ≡ l) → ((d : ℕ) → get_or rs place d ≡ r) → k < place + 1 → (k < place → P t u) → ((t u : Term) → RefersTo s v l t → RefersTo s v r u → P t u) → RefersTo s v (get_or ls k 0) t → RefersTo s v (get_or rs k 0) u → P t u
linked_more s v P ls rs place l r k t u is at below before here left right =
    elim (cases_lt k place) [
      | inl under ↦ before under
      | inr after ↦ (let same : k ≡ place = omega (arith, below, after) in
          here t u (subst (λ x. RefersTo s v x t) (ap (λ j. get_or ls j 0) same ∙ is 0) left) (subst (λ x. RefersTo s v x u) (ap (λ j. get_or rs j 0) same ∙ at 0) right))
    ]

pub linked_all : (s : Table) (v : TermsView) (P : Term → Term → Type 0) (ls rs : List ℕ) (ts us : List Term) → length ls ≡ length rs → ReferToAll s v ls ts → ReferToAll s v rs us → ((k : ℕ) (t u : Term) → k < length ls → RefersTo s v (get_or ls k 0) t → RefersTo s v (get_or rs k 0) u → P t u) → AllZip P ts us
linked_all s v P [] [] [] [] long left right each = tt
linked_all s v P [] [] [] (u ∷ us) long left right each = absurd right
linked_all s v P [] [] (t ∷ ts) us long left right each = absurd left
linked_all s v P [] (r ∷ rs) ts us long left right each = absurd (omega (arith, long))
linked_all s v P (l ∷ ls) [] ts us long left right each = absurd (omega (arith, long))
linked_all s v P (l ∷ ls) (r ∷ rs) [] us long left right each = absurd left
linked_all s v P (l ∷ ls) (r ∷ rs) (t ∷ ts) [] long left right each = absurd right
linked_all s v P (l ∷ ls) (r ∷ rs) (t ∷ ts) (u ∷ us) long left right each = (
  each 0 t u (omega arith) left.0 right.0,
  linked_all s v P ls rs ts us (omega (arith, long)) left.1 right.1 (λ k x y below one other. each (suc k) x y (omega (arith, below)) one other),
)

-- the sides of two equalities
pub equal_head : (s : Table) (k : ℕ) (head : Head) → IsLeaf s k (leaf_of head) → IsLeaf s k (Leaf.operator Op.Equal) → head ≡ operator Op.Equal
equal_head s k (operator op) leaf equal =
    let e : Some (Leaf.operator op) ≡ Some (Leaf.operator Op.Equal) = sym leaf ∙ equal in
    let f : op ≡ Op.Equal = cc in
    ap operator f
equal_head s k (function f) leaf equal = absurd (let e : Some (leaf_of (function f)) ≡ Some (Leaf.operator Op.Equal) = sym leaf ∙ equal in cc)

-- a list of two
pub record IsTwo (s : Table) (v : TermsView) (p : ℕ × ℕ) (ts : List Term) : Type 0 where
  pub one : Term
  pub two : Term
  pub is : ts ≡ one ∷ two ∷ []
  pub one_refers : RefersTo s v p.0 one
  pub two_refers : RefersTo s v p.1 two

pub two_terms : (s : Table) (v : TermsView) (rs : List ℕ) (p : ℕ × ℕ) (ts : List Term) → rs ≡ p.0 ∷ p.1 ∷ [] → ReferToAll s v rs ts → IsTwo s v p ts
two_terms s v rs p ts is refer = go ts (subst (λ xs. ReferToAll s v xs ts) is refer)
  where
    go : (ts : List Term) → ReferToAll s v (p.0 ∷ p.1 ∷ []) ts → IsTwo s v p ts
    go [] h = absurd h
    go (t ∷ []) h = absurd h.1
    go (t ∷ (u ∷ [])) h = record { one = t; two = u; is = refl; one_refers = h.0; two_refers = h.1.0 }
    go (t ∷ (u ∷ (w ∷ ts))) h = absurd h.1.1

two_references : (s : Table) (v : TermsView) (rs : List ℕ) (a b : Term) → ReferToAll s v rs (a ∷ b ∷ []) → (p : ℕ) × (q : ℕ) × (rs ≡ p ∷ q ∷ [])
two_references s v [] a b h = absurd h
two_references s v (p ∷ []) a b h = absurd h.1
two_references s v (p ∷ (q ∷ [])) a b h = (p, q, refl)
two_references s v (p ∷ (q ∷ (r ∷ rs))) a b h = absurd h.1.1

pub not_crossed : (s : Table) (v : TermsView) (uses : Uses) (k : ℕ) (ls rs : List ℕ) (t u : Term) (ps : List (List Term)) (a : AreApplied s v uses k ls rs t u) → ((pairs : (ℕ × ℕ) × (ℕ × ℕ)) → ¬ ArePairs s k ls rs pairs) → ¬ AreCrossed a.head ps a.ts a.us
not_crossed s v uses k ls rs t u ps a none h =
    let whole = uncut_to_two s v uses ls rs a.ts a.us a.cut (ap length h.one) in
    let left = two_references s v ls h.a h.b (subst (ReferToAll s v ls) h.one whole.0) in
    let right = two_references s v rs h.c h.d (subst (ReferToAll s v rs) h.other whole.1) in
    none ((left.0, left.1), (right.0, right.1))
    (record { equal = subst (λ x. IsLeaf s k (leaf_of x)) h.equal a.leaf; left = left.2; right = right.2 })

pub crossed_by : {P : Type 0} (s : Table) (v : TermsView) (uses : Uses) (k : ℕ) (ls rs : List ℕ) (t u : Term) (ps : List (List Term)) (a : AreApplied s v uses k ls rs t u) (pairs : (ℕ × ℕ) × (ℕ × ℕ)) → ArePairs s k ls rs pairs → ((x y z w : Term) → RefersTo s v pairs.0.0 x → RefersTo s v pairs.0.1 y → RefersTo s v pairs.1.0 z → RefersTo s v pairs.1.1 w → P ↔ (IsLinked ps x w × IsLinked ps y z)) → P ↔ AreCrossed a.head ps a.ts a.us
crossed_by s v uses k ls rs t u ps a pairs are linked =
    let whole = uncut_of_two s v uses ls rs a.ts a.us a.cut (ap length are.left) in
    let left = two_terms s v ls pairs.0 a.ts are.left whole.0 in
    let right = two_terms s v rs pairs.1 a.us are.right whole.1 in
    let by = linked left.one left.two right.one right.two left.one_refers left.two_refers right.one_refers right.two_refers in (
      λ h. record {
        a = left.one;
        b = left.two;
        c = right.one;
        d = right.two;
        equal = equal_head s k a.head a.leaf are.equal;
        one = left.is;
        other = right.is;
        outer = (by.0 h).0;
        inner = (by.0 h).1;
      },
      λ h.
          let e : left.one ∷ left.two ∷ [] ≡ h.a ∷ h.b ∷ [] = sym left.is ∙ h.one in
          let f : right.one ∷ right.two ∷ [] ≡ h.c ∷ h.d ∷ [] = sym right.is ∙ h.other in
          let p : left.one ≡ h.a = cc in
          let q : left.two ≡ h.b = cc in
          let x : right.one ≡ h.c = cc in
          let y : right.two ≡ h.d = cc in
          by.1 (rw (p, y) h.outer, rw (q, x) h.inner),
    )

-- linked place by place, or crosswise
pub linked_or_crossed : {P : Type 0} (head : Head) (ps : List (List Term)) (ts us : List Term) → ¬ AllZip (IsLinked ps) ts us → P ↔ AreCrossed head ps ts us → P ↔ AreLinked head ps ts us
linked_or_crossed {P} head ps ts us fails by = (λ h. inr (by.0 h), back)
  where
    back : AreLinked head ps ts us → P
    back (inl zip) = absurd (fails zip)
    back (inr cross) = by.1 cross

pub not_linked : (head : Head) (ps : List (List Term)) (ts us : List Term) → ¬ AllZip (IsLinked ps) ts us → ¬ AreCrossed head ps ts us → ¬ AreLinked head ps ts us
not_linked head ps ts us fails apart (inl zip) = fails zip
not_linked head ps ts us fails apart (inr cross) = apart cross

pub head_term : (s : Table) (v : TermsView) (rs : List ℕ) (p : ℕ × ℕ) → rs ≡ p.0 ∷ p.1 ∷ [] → AreTerms s v rs → IsTerm s v p.0 × IsTerm s v p.1
head_term s v rs p is all =
    let both = subst (AreTerms s v) is all in
    (All-head (IsTerm s v) p.0 (p.1 ∷ []) both, All-head (IsTerm s v) p.1 [] (All-tail (IsTerm s v) p.0 (p.1 ∷ []) both))
