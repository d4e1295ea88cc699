-- Cited by crates above. What a walk remembers is right for the next one.
use Rattle.std.proofs.Common.{◌≡◌, ◌<◌, ◌≤◌, ◌^◌, ℕ, List, [], length, Option, Some, None, nat_eq, arith, refl, sym, ◌∙◌, subst}
use Rattle.std.specs.HashMap.{get}
use Rattle.pair_pool.specs.Trees.{Tree}
use Rattle.pair_pool.specs.Views.{PassView, Knows, IsOneToOne, HasPartsOfTrees}
use Rattle.term_pool.specs.Views.{KeepsPass}
use Rattle.contexts.specs.declared.closed.Closed.{Closed}
use Rattle.contexts.specs.declared.memo.Memo.{Memo}
use Rattle.contexts.specs.declared.places.Place.{Place}
use Rattle.contexts.specs.declared.places.Place.TheVariants.{Term}
use Rattle.contexts.specs.Becoming.{becomes, Images, IsImageAt, AreImages, HasImages, Look, look_of}
use Rattle.contexts.specs.Closed.{found_for, IsClosedFor}
use Rattle.contexts.specs.Layers.{shadowed}
use Rattle.contexts.specs.Places.{Lists, IsMemory, IsReady, IsWalked, leaf_there}
use Rattle.contexts.specs.Remembering.{remembered, RemembersNoMore}
use Rattle.contexts.proofs.ClosedLemmas.{found_none}
use Rattle.contexts.proofs.Visiting.{looked, unseen_high}
use Rattle.contexts.proofs.Walking.{images_later}

image_later : (p q : PassView) → KeepsPass p q → (o : Option ℕ) (k : ℕ) (t : Tree) → IsImageAt p o k t → IsImageAt q o k t
image_later p q keeps None k t e = e
image_later p q keeps (Some r) k t e = keeps.grows r t e

-- the trees of images are those that the pass knows
pub same_images : (p : PassView) → IsOneToOne p → (images : Images) (f g : ℕ → Tree) → AreImages p images f → AreImages p images g → f ≡ g
same_images p one images f g a b = λ i. λ k. at k i
  where
    go : (k : ℕ) (o : Option ℕ) → IsImageAt p o k (f k) → IsImageAt p o k (g k) → f k ≡ g k
    go k None c d = c ∙ sym d
    go k (Some r) c d = one.one_tree r (f k) (g k) c d

    at : (k : ℕ) → f k ≡ g k
    at k = go k (get nat_eq images k) (a k) (b k)

pub ready_of_walked : (p : PassView) (images : Images) (lists : Lists) (memo : Memo) → IsWalked p (look_of images) lists memo → IsReady p images lists memo
ready_of_walked p images lists memo h = record { trees = h.trees; are = h.are; right = h.right }

pub right_for : (p : PassView) → IsOneToOne p → (images : Images) (lists : Lists) (memo : Memo) → IsWalked p (look_of images) lists memo → (f : ℕ → Tree) → AreImages p images f → IsMemory p f lists memo
right_for p one images lists memo h f are = subst (λ g. IsMemory p g lists memo) (same_images p one images h.trees f h.are are) h.right

pub have_images : (p : PassView) (images : Images) (lists : Lists) (memo : Memo) → IsWalked p (look_of images) lists memo → HasImages p images
have_images p images lists memo h = record { trees = h.trees; are = h.are }

pub walked_later : (p q : PassView) → KeepsPass p q → (put : Look) (lists : Lists) (memo : Memo) → IsWalked p put lists memo → IsWalked q put lists memo
walked_later p q k put lists memo h = record {
  trees = h.trees;
  are = λ n. image_later p q k (put n) n (h.trees n) (h.are n);
  right = λ place r found.
      let b = h.right place r found in
      record { tree = b.tree; known = k.grows _ b.tree b.known; is = k.grows r _ b.is; inside = b.inside };
  first = h.first;
  some = h.some;
}

-- after more was walked over
pub walked_more : (p q : PassView) → KeepsPass p q → (images : Images) (lists after : Lists) (memo new : Memo) → IsWalked p (look_of images) lists memo → ((f : ℕ → Tree) → AreImages p images f → IsMemory q f after new) → shadowed after 0 ≡ [] → 0 < length after → IsWalked q (look_of images) after new
walked_more p q k images lists after memo new h right first some = record {
  trees = h.trees;
  are = images_later p q k images h.trees h.are;
  right = right h.trees h.are;
  first = first;
  some = some;
}

pub memory_same : (p : PassView) (f : ℕ → Tree) (lists : Lists) (old new : Memo) → RemembersNoMore old new → IsMemory p f lists old → IsMemory p f lists new
memory_same p f lists old new less right place r found = right place r (less place r found)

-- nothing is remembered yet
pub walked_start : (lists : Lists) (memo : Memo) → ((place : Place) → remembered memo place ≡ None) → shadowed lists 0 ≡ [] → length lists ≡ 1 → (pass : PassView) (put : Look) (f : ℕ → Tree) → ((k : ℕ) → IsImageAt pass (put k) k (f k)) → IsWalked pass put lists memo
walked_start lists memo empty first one pass put f are = record {
  trees = f;
  are = are;
  right = λ place r found. absurd (let none = empty place in cc);
  first = first;
  some = omega arith;
}

pub no_some : (o : Option ℕ) → ((x : ℕ) → o ≡ Some x → ⊥) → o ≡ None
no_some None h = refl
no_some (Some x) h = absurd (h x refl)

-- the root is looked up
module _ (p : PassView) (images : Images) (lists : Lists) (memo : Memo) (closed : Closed) (r : ℕ) (found : Option ℕ) (low : r < 2 ^ 30 → found ≡ Some (leaf_there images lists (Term r 0))) (high : 2 ^ 30 ≤ r → found ≡ found_for closed memo (Term r 0)) where
  pub none_high : found ≡ None → 2 ^ 30 ≤ r
  none_high e = unseen_high r found _ low e

  pub none_unmet : found ≡ None → remembered memo (Term r 0) ≡ None
  none_unmet e = found_none closed memo (Term r 0) (sym (high (none_high e)) ∙ e)

  pub found_done : IsOneToOne p → HasPartsOfTrees p → IsClosedFor p (look_of images) closed → IsWalked p (look_of images) lists memo → (d : ℕ) → found ≡ Some d → (f : ℕ → Tree) (t : Tree) → AreImages p images f → Knows p r t → Knows p d (becomes f [] t)
  found_done one parts marks h d e f t are known =
      subst (λ (hidden : List ℕ). Knows p d (becomes f hidden t)) h.first
      (looked p one parts images lists memo closed marks f are (right_for p one images lists memo h f are) (Term r 0) found d low high e t known)
