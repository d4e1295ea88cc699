-- What bindings put in for leaves, by references and as trees.
use Rattle.std.proofs.Common.{◌≡◌, ◌≢◌, ℕ, suc, ◌<◌, ◌≤◌, ◌-◌, ◌==◌, ◌⊎◌, inl, inr, List, [], ◌∷◌, length, get_or, drop, drop-cons, Option, Some, None, Bool, true, false, nat_eq, eqb, if◌then◌else◌, refl, sym, ◌∙◌, ap, subst, arith}
use Rattle.std.specs.HashMap.{get}
use Rattle.std.proofs.lemmas.Bool.Decides.{eqb_tells}
use Rattle.pair_pool.specs.Trees.{Tree, leaf}
use Rattle.pair_pool.specs.Views.{PassView, Knows}
use Rattle.rule_model.specs.Replacement.{Replacement, replaced_by}
use Rattle.rule_model.specs.Substitution.{put_in}
use Rattle.sym_table.specs.Leaf.{Leaf}
use Rattle.sym_table.specs.Table.{Table, IsLeaf, IsTable}
use Rattle.term_model.proofs.Tests.{var_eq_decides}
use Rattle.term_model.proofs.Basics.{same_some}
use Rattle.term_model.specs.Terms.{Var, var_eq, Term}
use Rattle.term_pool.specs.Building.{PlacesOnlyIn, IsFullIn}
use Rattle.term_pool.specs.StandsFor.{variable_leaf, StandsFor}
use Rattle.term_pool.specs.Views.{TermsView, RefersTo}
use Rattle.contexts.specs.Becoming.{becomes, Images, IsImageAt, AreImages, HasImages}
use Rattle.contexts.specs.Firsts.{first_for}
use Rattle.contexts.specs.PutIn.{StandForReplacement, AreReplacementBy}
use Rattle.term_pool.specs.Placing.{PlacesTerm, LacksRoomFor}
use Rattle.term_pool.proofs.Keeping.{placed-none}
use Rattle.term_pool.proofs.Leaves.{one_variable, one_leaf}
use Rattle.contexts.proofs.Standing.{PutsFor, becomes_stands}

-- a map of the first bindings
pub first_none : (images : Images) (bs : List (ℕ × ℕ)) (n : ℕ) → images.entries ≡ [] → n ≡ length bs → (k : ℕ) → get nat_eq images k ≡ first_for (drop n bs) k
first_none images bs n e f k = none ∙ sym (ap (λ (z : List (ℕ × ℕ)). first_for z k) (all bs n f))
  where
    none : get nat_eq images k ≡ None
    none = rw e

    all : (xs : List (ℕ × ℕ)) (m : ℕ) → m ≡ length xs → drop m xs ≡ []
    all [] m e = rw e
    all (x ∷ xs) m e = rw e (all xs (length xs) refl)

pub first_more : (old new : Images) (bs : List (ℕ × ℕ)) (at : ℕ) (b : ℕ × ℕ) → 0 < at → at ≤ length bs → b ≡ get_or bs (at - 1) b → get nat_eq new b.0 ≡ Some b.1 → ((k : ℕ) → k ≢ b.0 → get nat_eq new k ≡ get nat_eq old k) → ((k : ℕ) → get nat_eq old k ≡ first_for (drop at bs) k) → (k : ℕ) → get nat_eq new k ≡ first_for (drop (at - 1) bs) k
first_more old new bs at b above inside is here others before k =
    go (eqb b.0 k) (eqb_tells b.0 k) ∙ sym (ap (λ (z : List (ℕ × ℕ)). first_for z k) split)
  where
    split : drop (at - 1) bs ≡ b ∷ drop at bs
    split =
        let back : suc (at - 1) ≡ at = omega arith in
        let within : at - 1 < length bs = omega arith in
        let parts = drop-cons bs (at - 1) b within in
        cc

    go : (t : Bool) → ((t ≡ true) × (b.0 ≡ k)) ⊎ ((t ≡ false) × (b.0 ≢ k)) → get nat_eq new k ≡ (if t then Some b.1 else first_for (drop at bs) k)
    go true (inl both) = subst (λ j. get nat_eq new j ≡ Some b.1) both.1 here
    go true (inr both) = absurd (let z = both.0 in cc)
    go false (inl both) = absurd (let z = both.0 in cc)
    go false (inr both) = others k (λ e. both.1 (sym e)) ∙ before k

-- the trees of what is put in
pub record HasTrees (s : Table) (v : TermsView) (bs : List (ℕ × ℕ)) (q : Replacement) : Type 0 where
  pub trees : ℕ → Tree
  pub are : (k : ℕ) → IsImageAt v.pass (first_for bs k) k (trees k)
  pub variables : (k : ℕ) (x : Var) → IsLeaf s k (variable_leaf x) → StandsFor s (trees k) (replaced_by q x)
  pub others : (k : ℕ) (l : Leaf) → IsLeaf s k l → ((x : Var) → ¬ (l ≡ variable_leaf x)) → trees k ≡ leaf k

more_trees : (s : Table) → IsTable s → (v : TermsView) (b : ℕ × ℕ) (bs : List (ℕ × ℕ)) (x : Var) (t : Term) (q : Replacement) → IsLeaf s b.0 (variable_leaf x) → RefersTo s v b.1 t → HasTrees s v bs q → HasTrees s v (b ∷ bs) ((x, t) ∷ q)
more_trees s table v b bs x t q here refers h = record {
  trees = λ k. if b.0 == k then refers.tree else h.trees k;
  are = λ k. at (b.0 == k) k (h.are k);
  variables = λ k y is. put_at k y is (eqb b.0 k) (var_eq x y) refl (eqb_tells b.0 k) refl;
  others = λ k l is never. stays k l is never (eqb b.0 k) (eqb_tells b.0 k);
}
  where
    at : (c : Bool) (k : ℕ) → IsImageAt v.pass (first_for bs k) k (h.trees k) → IsImageAt v.pass (if c then Some b.1 else first_for bs k) k (if c then refers.tree else h.trees k)
    at true k before = refers.known
    at false k before = before

    put_at : (k : ℕ) (y : Var) → IsLeaf s k (variable_leaf y) → (c d : Bool) → eqb b.0 k ≡ c → ((c ≡ true) × (b.0 ≡ k)) ⊎ ((c ≡ false) × (b.0 ≢ k)) → var_eq x y ≡ d → StandsFor s (if c then refers.tree else h.trees k) (if d then t else replaced_by q y)
    put_at k y is true true e tells f = refers.stands
    put_at k y is true false e (inl both) f =
        absurd (let same = one_variable s k x y (subst (λ j. IsLeaf s j (variable_leaf x)) both.1 here) is in let g = (var_eq_decides x y).1 same in cc)
    put_at k y is true false e (inr both) f = absurd (let z = both.0 in cc)
    put_at k y is false true e (inl both) f = absurd (let z = both.0 in cc)
    put_at k y is false true e (inr both) f = absurd (both.1 (one_leaf s table b.0 k x y here is ((var_eq_decides x y).0 f)))
    put_at k y is false false e tells f = h.variables k y is

    stays : (k : ℕ) (l : Leaf) → IsLeaf s k l → ((y : Var) → ¬ (l ≡ variable_leaf y)) → (c : Bool) → ((c ≡ true) × (b.0 ≡ k)) ⊎ ((c ≡ false) × (b.0 ≢ k)) → (if c then refers.tree else h.trees k) ≡ leaf k
    stays k l is never true (inl both) = absurd (never x (same_some (sym is ∙ subst (λ j. IsLeaf s j (variable_leaf x)) both.1 here)))
    stays k l is never true (inr both) = absurd (let z = both.0 in cc)
    stays k l is never false (inl both) = absurd (let z = both.0 in cc)
    stays k l is never false (inr both) = h.others k l is never

pub trees_of : (s : Table) → IsTable s → (v : TermsView) (bs : List (ℕ × ℕ)) (q : Replacement) → StandForReplacement s v bs q → HasTrees s v bs q
trees_of s table v [] [] h = record { trees = leaf; are = λ k. refl; variables = λ k x is. is; others = λ k l is never. refl }
trees_of s table v [] (c ∷ q) h = absurd h
trees_of s table v (b ∷ bs) [] h = absurd h
trees_of s table v (b ∷ bs) (c ∷ q) h = more_trees s table v b bs c.0 c.1 q h.0.variable h.0.term (trees_of s table v bs q h.1)

module _ (s : Table) (table : IsTable s) (v : TermsView) (bs : List (ℕ × ℕ)) (images : Images) (firsts : (k : ℕ) → get nat_eq images k ≡ first_for bs k) where
  images_are : (q : Replacement) (h : StandForReplacement s v bs q) → AreImages v.pass images (trees_of s table v bs q h).trees
  images_are q h k =
      let t = trees_of s table v bs q h in
      subst (λ (o : Option ℕ). IsImageAt v.pass o k (t.trees k)) (sym (firsts k)) (t.are k)

  pub have_images : AreReplacementBy s v bs → HasImages v.pass images
  have_images h = record { trees = (trees_of s table v bs h.means h.are).trees; are = images_are h.means h.are }

  puts_for : (q : Replacement) (h : StandForReplacement s v bs q) → PutsFor s (trees_of s table v bs q h).trees [] q
  puts_for q h = let t = trees_of s table v bs q h in record { variables = t.variables; others = t.others }

  stands_for : (q : Replacement) (h : StandForReplacement s v bs q) (r : ℕ) (t : Term) (refers : RefersTo s v r t) → StandsFor s (becomes (trees_of s table v bs q h).trees [] refers.tree) (put_in q t)
  stands_for q h r t refers = becomes_stands s table (trees_of s table v bs q h).trees t refers.tree [] q (puts_for q h) refers.stands

  pub term_is : (w : TermsView) (r i : ℕ) → ((f : ℕ → Tree) (t : Tree) → AreImages v.pass images f → Knows v.pass r t → Knows w.pass i (becomes f [] t)) → (t : Term) (q : Replacement) → RefersTo s v r t → StandForReplacement s v bs q → RefersTo s w i (put_in q t)
  term_is w r i image t q refers h = record {
    tree = becomes (trees_of s table v bs q h).trees [] refers.tree;
    known = image (trees_of s table v bs q h).trees refers.tree (images_are q h) refers.known;
    stands = stands_for q h r t refers;
  }

  pub places_are : (new : PassView) (r : ℕ) → ((f : ℕ → Tree) (t : Tree) → AreImages v.pass images f → Knows v.pass r t → PlacesOnlyIn v.pass new (becomes f [] t)) → (t : Term) (q : Replacement) → RefersTo s v r t → StandForReplacement s v bs q → PlacesTerm s v.pass new (put_in q t)
  places_are new r placed t q refers h = record {
    tree = becomes (trees_of s table v bs q h).trees [] refers.tree;
    stands = stands_for q h r t refers;
    placed = placed (trees_of s table v bs q h).trees refers.tree (images_are q h) refers.known;
  }

  pub room_lacks : (new : PassView) (r : ℕ) → ((f : ℕ → Tree) (t : Tree) → AreImages v.pass images f → Knows v.pass r t → IsFullIn new (becomes f [] t)) → (t : Term) (q : Replacement) → RefersTo s v r t → StandForReplacement s v bs q → LacksRoomFor s new (put_in q t)
  room_lacks new r full t q refers h = record {
    tree = becomes (trees_of s table v bs q h).trees [] refers.tree;
    stands = stands_for q h r t refers;
    full = full (trees_of s table v bs q h).trees refers.tree (images_are q h) refers.known;
  }

-- where nothing was placed
pub places_none : (s : Table) → IsTable s → (v : TermsView) (bs : List (ℕ × ℕ)) (r : ℕ) (t : Term) (q : Replacement) → RefersTo s v r t → StandForReplacement s v bs q → PlacesTerm s v.pass v.pass (put_in q t)
places_none s table v bs r t q refers h =
    let trees = trees_of s table v bs q h in
    record {
      tree = becomes trees.trees [] refers.tree;
      stands = becomes_stands s table trees.trees t refers.tree [] q (record { variables = trees.variables; others = trees.others }) refers.stands;
      placed = placed-none v.pass v.pass (becomes trees.trees [] refers.tree) refl;
    }
