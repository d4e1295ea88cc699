-- The walk that puts references in: the places on the way, what is remembered, and what is placed.
use Rattle.std.proofs.Common.{◌≡◌, ◌≢◌, ℕ, ◌<◌, ◌≤◌, ◌^◌, ◌⊎◌, inl, inr, List, [], ◌∷◌, ◌++◌, length, take, ◌-◌, Option, Some, None, Bool, true, false, if◌then◌else◌, nat_eq, refl, sym, ◌∙◌, ap, subst, arith}
use Rattle.std.specs.HashMap.{get}
use Rattle.std.specs.List.{AllByRecursion}
use Rattle.pair_pool.specs.Trees.{Tree, cell}
use Rattle.pair_pool.specs.Views.{PassView, Knows, IsOneToOne, HasPartsOfTrees}
use Rattle.term_pool.specs.Building.{PlacesOnlyIn, IsFullIn}
use Rattle.term_pool.specs.Heights.{is_let_head}
use Rattle.term_pool.specs.Trees.{IsPartOf, depth}
use Rattle.term_pool.specs.Views.{KeepsPass}
use Rattle.contexts.specs.declared.memo.Memo.{Memo}
use Rattle.contexts.specs.declared.places.Place.{Place}
use Rattle.contexts.specs.declared.places.Place.TheVariants.{Term, Bindings}
use Rattle.contexts.specs.Becoming.{becomes, let_becomes, Images, IsImageAt, AreImages, HasImages}
use Rattle.contexts.specs.Layers.{shadowed, KeepsLayers}
use Rattle.contexts.specs.Places.{Lists, layer_of, HasPlaceShape, becomes_there, IsSpot, HasBecome, IsMemory, IsUnder, PlacesImage, LacksRoomForImage, IsReady}
use Rattle.contexts.specs.Remembering.{reference_of, remembered, Remembers}
use Rattle.contexts.specs.Shapes.{IsShaped}
use Rattle.term_pool.proofs.Keeping.{part-refl, part-trans, placed-trans, placed-none, placed-larger, full-larger}
use Rattle.contexts.proofs.Visiting.{lists_same, split}

-- what is known stays known
pub images_later : (p q : PassView) → KeepsPass p q → (images : Images) (f : ℕ → Tree) → AreImages p images f → AreImages q images f
images_later p q k images f h n = go (get nat_eq images n) (h n)
  where
    go : (found : Option ℕ) → IsImageAt p found n (f n) → IsImageAt q found n (f n)
    go None e = e
    go (Some r) e = k.grows r (f n) e

-- a place on the way
pub record IsOn (o p : PassView) (images : Images) (lists : Lists) (memo : Memo) (root : Place) (whole : Tree) (x : Place) : Type 0 where
  tree : Tree
  known : Knows p (reference_of x) tree
  shape : HasPlaceShape x tree
  high : 2 ^ 30 ≤ reference_of x
  inside : layer_of x < length lists
  unmet : remembered memo x ≡ None
  part : (f : ℕ → Tree) → AreImages o images f → IsPartOf (becomes_there f lists x tree) (becomes_there f lists root whole)

record IsDeeper (p : PassView) (x y : Place) : Type 0 where
  upper : Tree
  upper_known : Knows p (reference_of x) upper
  lower : Tree
  lower_known : Knows p (reference_of y) lower
  less : depth lower < depth upper

Descends : PassView → List Place → Type 0
Descends p [] = Unit {0}
Descends p (x ∷ xs) = AllByRecursion (IsDeeper p x) xs × Descends p xs

Starts : Place → List Place → Type 0
Starts root [] = ⊥
Starts root (x ∷ xs) = x ≡ root

pub record IsWalk (o p : PassView) (images : Images) (lists : Lists) (memo : Memo) (root : Place) (whole : Tree) (way : List Place) : Type 0 where
  pub root_inside : layer_of root < length lists
  on : AllByRecursion (IsOn o p images lists memo root whole) way
  descends : Descends p way
  starts : Starts root way

-- what is remembered is right, and nothing is placed but cells of what the root becomes
pub record GoesRight (o p : PassView) (f : ℕ → Tree) (lists : Lists) (memo : Memo) (root : Place) (whole : Tree) : Type 0 where
  pub right : IsMemory p f lists memo
  pub placed : PlacesOnlyIn o p (becomes_there f lists root whole)

-- lists
last_of : (P : Place → Type 0) → (xs : List Place) (at : Place) → AllByRecursion P (xs ++ at ∷ []) → P at
last_of P [] at h = h.0
last_of P (x ∷ xs) at h = last_of P xs at h.1

front_of : (P : Place → Type 0) → (xs : List Place) (at : Place) → AllByRecursion P (xs ++ at ∷ []) → AllByRecursion P xs
front_of P [] at h = tt
front_of P (x ∷ xs) at h = (h.0, front_of P xs at h.1)

push_all : (P : Place → Type 0) → (xs : List Place) (at : Place) → AllByRecursion P xs → P at → AllByRecursion P (xs ++ at ∷ [])
push_all P [] at h e = (e, tt)
push_all P (x ∷ xs) at h e = (h.0, push_all P xs at h.1 e)

each : (P Q : Place → Type 0) → (xs : List Place) → ((x : Place) → P x → Q x) → AllByRecursion P xs → AllByRecursion Q xs
each P Q [] f h = tt
each P Q (x ∷ xs) f h = (f x h.0, each P Q xs f h.1)

deeper_later : (p q : PassView) → KeepsPass p q → (x y : Place) → IsDeeper p x y → IsDeeper q x y
deeper_later p q k x y h = record {
  upper = h.upper;
  upper_known = k.grows (reference_of x) h.upper h.upper_known;
  lower = h.lower;
  lower_known = k.grows (reference_of y) h.lower h.lower_known;
  less = h.less;
}

descends_later : (p q : PassView) → KeepsPass p q → (xs : List Place) → Descends p xs → Descends q xs
unfolding Descends
descends_later p q k [] h = tt
descends_later p q k (x ∷ xs) h = (each (IsDeeper p x) (IsDeeper q x) xs (deeper_later p q k x) h.0, descends_later p q k xs h.1)

descends_front : (p : PassView) (xs : List Place) (at : Place) → Descends p (xs ++ at ∷ []) → Descends p xs
unfolding Descends
descends_front p [] at h = tt
descends_front p (x ∷ xs) at h = (front_of (IsDeeper p x) xs at h.0, descends_front p xs at h.1)

descends_push : (p : PassView) (xs : List Place) (y : Place) → Descends p xs → AllByRecursion (λ x. IsDeeper p x y) xs → Descends p (xs ++ y ∷ [])
unfolding Descends
descends_push p [] y h k = (tt, tt)
descends_push p (x ∷ xs) y h k = (push_all (IsDeeper p x) xs y h.0 k.0, descends_push p xs y h.1 k.1)

further : (p : PassView) → IsOneToOne p → (x y z : Place) → IsDeeper p x y → IsDeeper p y z → IsDeeper p x z
further p one x y z h k = record {
  upper = h.upper;
  upper_known = h.upper_known;
  lower = k.lower;
  lower_known = k.lower_known;
  less = let e = ap depth (one.one_tree (reference_of y) h.lower k.upper h.lower_known k.upper_known) in let a = h.less in let b = k.less in omega arith;
}

below_all : (p : PassView) → IsOneToOne p → (xs : List Place) (at y : Place) → Descends p (xs ++ at ∷ []) → IsDeeper p at y → AllByRecursion (λ x. IsDeeper p x y) (xs ++ at ∷ [])
unfolding Descends
below_all p one [] at y h k = (k, tt)
below_all p one (x ∷ xs) at y h k = (further p one x at y (last_of (IsDeeper p x) xs at h.0) k, below_all p one xs at y h.1 k)

deeper_apart : (p : PassView) → IsOneToOne p → (x y : Place) → IsDeeper p x y → x ≢ y
deeper_apart p one x y h e =
    let same = ap depth (one.one_tree (reference_of y) h.upper h.lower (subst (λ z. Knows p (reference_of z) h.upper) e h.upper_known) h.lower_known) in
    let less = h.less in
    omega arith

starts_push : (root : Place) (xs : List Place) (at : Place) → Starts root xs → Starts root (xs ++ at ∷ [])
unfolding Starts
starts_push root [] at h = absurd h
starts_push root (x ∷ xs) at h = h

starts_front : (root : Place) (xs : List Place) (y at : Place) → Starts root ((xs ++ y ∷ []) ++ at ∷ []) → Starts root (xs ++ y ∷ [])
unfolding Starts
starts_front root [] y at h = h
starts_front root (x ∷ xs) y at h = h

-- where nothing more is found, nothing is where nothing was
none_left : (old new : Option ℕ) → ((d : ℕ) → new ≡ Some d → old ≡ Some d) → old ≡ None → new ≡ None
none_left old None more e = refl
none_left old (Some d) more e = absurd (let was = more d refl in cc)

-- a place stays on the way
on_later : (o p q : PassView) (images : Images) (before after : Lists) (old new : Memo) (root : Place) (whole : Tree) → KeepsPass p q → KeepsLayers before after → layer_of root < length before → (x : Place) → (remembered old x ≡ None → remembered new x ≡ None) → IsOn o p images before old root whole x → IsOn o q images after new root whole x
on_later o p q images before after old new root whole k keeps root_inside x same h = record {
  tree = h.tree;
  known = k.grows (reference_of x) h.tree h.known;
  shape = h.shape;
  high = h.high;
  inside = let i = h.inside in let m = keeps.more in omega arith;
  unmet = same h.unmet;
  part = λ f are.
      subst (λ z. IsPartOf z (becomes_there f after root whole)) (sym (lists_same f before after keeps x h.tree h.inside))
      (subst (λ z. IsPartOf (becomes_there f before x h.tree) z) (sym (lists_same f before after keeps root whole root_inside)) (h.part f are));
}

becomes_cell : (f : ℕ → Tree) (lists : Lists) (x : Place) (a b : Tree) → (c : Tree) × (d : Tree) × (becomes_there f lists x (cell a b) ≡ cell c d)
becomes_cell f lists (Term r layer) a b = go (is_let_head a)
  where
    go : (is_let : Bool) → (c : Tree) × (d : Tree) × ((if is_let then cell a (let_becomes f (shadowed lists layer) b) else cell (becomes f (shadowed lists layer) a) (becomes f (shadowed lists layer) b)) ≡ cell c d)
    go true = (_, _, refl)
    go false = (_, _, refl)
becomes_cell f lists (Bindings r layer) a b = (_, _, refl)

-- the walk begins
pub walk_start : (o : PassView) (images : Images) (lists : Lists) (memo : Memo) (r : ℕ) (way : List Place) → remembered memo (Term r 0) ≡ None → 0 < length lists → (h : IsShaped o r) → 2 ^ 30 ≤ r → way ≡ [] → IsWalk o o images lists memo (Term r 0) h.tree (way ++ Term r 0 ∷ [])
unfolding Descends Starts
walk_start o images lists memo r way unmet some h high none = rw none (record {
  root_inside = some;
  on = (
    record {
      tree = h.tree;
      known = h.known;
      shape = h.shape;
      high = high;
      inside = some;
      unmet = unmet;
      part = λ f are. part-refl (becomes_there f lists (Term r 0) h.tree);
    },
    tt,
  );
  descends = (tt, tt);
  starts = refl;
})

pub right_start : (o : PassView) (f : ℕ → Tree) (lists : Lists) (memo : Memo) (root : Place) (whole : Tree) → IsMemory o f lists memo → GoesRight o o f lists memo root whole
right_start o f lists memo root whole right = record {
  right = right;
  placed = placed-none o o (becomes_there f lists root whole) refl;
}

module _ (o p : PassView) (one : IsOneToOne p) (images : Images) (before : Lists) (memo : Memo) (root : Place) (whole : Tree) (way : List Place) (at : Place) (w : IsWalk o p images before memo root whole (way ++ at ∷ [])) where
  here : IsOn o p images before memo root whole at
  here = last_of (IsOn o p images before memo root whole) way at w.on

  pub walk_spot : IsSpot p before at
  walk_spot = record { tree = here.tree; known = here.known; shape = here.shape; high = here.high; inside = here.inside }

  pub walk_unmet : remembered memo at ≡ None
  walk_unmet = here.unmet

  -- another place has to be visited first
  pub walk_down : (q : PassView) (after : Lists) (part : Place) → KeepsPass o p → KeepsPass p q → KeepsLayers before after → IsUnder p images after memo at part → IsWalk o q images after memo root whole ((way ++ at ∷ []) ++ part ∷ [])
  walk_down q after part k₀ k keeps u = record {
    root_inside = let i = w.root_inside in let m = keeps.more in omega arith;
    on = push_all (IsOn o q images after memo root whole) (way ++ at ∷ []) part
        (each (IsOn o p images before memo root whole) (IsOn o q images after memo root whole) (way ++ at ∷ []) (λ x h. on_later o p q images before after memo memo root whole k keeps w.root_inside x (λ e. e) h) w.on)
        (record {
          tree = u.spot.tree;
          known = k.grows (reference_of part) u.spot.tree u.spot.known;
          shape = u.spot.shape;
          high = u.spot.high;
          inside = u.spot.inside;
          unmet = u.unmet;
          part = λ f are.
              part-trans (becomes_there f after part u.spot.tree) (becomes_there f after at here.tree) (becomes_there f after root whole)
              (u.part f (images_later o p k₀ images f are) here.tree u.spot.tree here.known u.spot.known)
              (subst (λ z. IsPartOf z (becomes_there f after root whole)) (sym (lists_same f before after keeps at here.tree here.inside))
              (subst (λ z. IsPartOf (becomes_there f before at here.tree) z) (sym (lists_same f before after keeps root whole w.root_inside)) (here.part f are)));
        });
    descends = descends_later p q k ((way ++ at ∷ []) ++ part ∷ [])
        (descends_push p (way ++ at ∷ []) part w.descends
        (below_all p one way at part w.descends
        (record {
          upper = here.tree;
          upper_known = here.known;
          lower = u.spot.tree;
          lower_known = u.spot.known;
          less = u.less here.tree u.spot.tree here.known u.spot.known;
        })));
    starts = starts_push root (way ++ at ∷ []) part w.starts;
  }

  -- a visit goes on placing only what belongs to the whole
  whole_part : (f : ℕ → Tree) → AreImages o images f → IsPartOf (becomes_there f before at here.tree) (becomes_there f before root whole)
  whole_part f are = here.part f are

  pub places_more : (q : PassView) (f : ℕ → Tree) → KeepsPass p q → AreImages o images f → PlacesOnlyIn o p (becomes_there f before root whole) → PlacesImage p q f before at → PlacesOnlyIn o q (becomes_there f before root whole)
  places_more q f k are old new =
      placed-trans o p q (becomes_there f before root whole) k old
      (placed-larger p q (becomes_there f before at here.tree) (becomes_there f before root whole) (whole_part f are) (new here.tree here.known))

  pub lacks_more : (q : PassView) (f : ℕ → Tree) → AreImages o images f → LacksRoomForImage p q f before at → IsFullIn q (becomes_there f before root whole)
  lacks_more q f are full = full-larger q (becomes_there f before at here.tree) (becomes_there f before root whole) (whole_part f are) (full here.tree here.known)

  pub memory_kept : (q : PassView) (f : ℕ → Tree) (after : Lists) → KeepsPass p q → KeepsLayers before after → IsMemory p f before memo → IsMemory q f after memo
  memory_kept q f after k keeps right place r found =
      let b = right place r found in
      record {
        tree = b.tree;
        known = k.grows (reference_of place) b.tree b.known;
        is = subst (Knows q r) (sym (lists_same f before after keeps place b.tree b.inside)) (k.grows r (becomes_there f before place b.tree) b.is);
        inside = let i = b.inside in let m = keeps.more in omega arith;
      }

  pub memory_more : (q : PassView) (f : ℕ → Tree) (after : Lists) (new : Memo) (d : ℕ) → KeepsPass p q → KeepsLayers before after → ((x y : Place) → (x ≡ y) ⊎ (x ≢ y)) → IsMemory p f before memo → Remembers memo new at d → ((t : Tree) → Knows p (reference_of at) t → Knows q d (becomes_there f before at t)) → IsMemory q f after new
  memory_more q f after new d k keeps decides right noted done place r found = go (decides place at)
    where
      same_some : {X : Type 0} {a b : X} → Some a ≡ Some b → a ≡ b
      same_some g = cc

      go : (place ≡ at) ⊎ (place ≢ at) → HasBecome q f after place r
      go (inr other) = memory_kept q f after k keeps right place r (noted.others place other r found)
      go (inl same) =
          let is : d ≡ r = same_some (sym noted.here ∙ subst (λ z. remembered new z ≡ Some r) same found) in
          subst (λ z. HasBecome q f after z r) (sym same)
          (record {
            tree = here.tree;
            known = k.grows (reference_of at) here.tree here.known;
            is = subst (λ n. Knows q n (becomes_there f after at here.tree)) is
                (subst (Knows q d) (sym (lists_same f before after keeps at here.tree here.inside)) (done here.tree here.known));
            inside = let i = here.inside in let m = keeps.more in omega arith;
          })

  -- what a place becomes is a cell
  pub made_high : (q : PassView) → IsOneToOne q → HasPartsOfTrees q → KeepsPass p q → (d : ℕ) → IsReady p images before memo → ((f : ℕ → Tree) → AreImages p images f → IsMemory p f before memo → (t : Tree) → Knows p (reference_of at) t → Knows q d (becomes_there f before at t)) → 2 ^ 30 ≤ d
  made_high q one_q parts k d ready done =
      let s = split q parts (reference_of at) (HasPlaceShape at) here.tree (k.grows (reference_of at) here.tree here.known) here.shape here.high in
      let same = one_q.one_tree (reference_of at) (cell s.first s.second) here.tree s.known (k.grows (reference_of at) here.tree here.known) in
      let c = becomes_cell ready.trees before at s.first s.second in
      one_q.high d c.0 c.1
      (subst (Knows q d) c.2
      (subst (λ t. Knows q d (becomes_there ready.trees before at t)) (sym same) (done ready.trees ready.are ready.right here.tree here.known)))

pub right_lists : (o p : PassView) (f : ℕ → Tree) (before after : Lists) (root : Place) (whole : Tree) → KeepsLayers before after → layer_of root < length before → PlacesOnlyIn o p (becomes_there f before root whole) → PlacesOnlyIn o p (becomes_there f after root whole)
right_lists o p f before after root whole keeps inside h = subst (PlacesOnlyIn o p) (sym (lists_same f before after keeps root whole inside)) h

-- a place is done
unmet_after : (o p q : PassView) (images : Images) (before after : Lists) (old new : Memo) (root : Place) (whole : Tree) → IsOneToOne p → KeepsPass p q → KeepsLayers before after → layer_of root < length before → (at : Place) → ((x : Place) → x ≢ at → (d : ℕ) → remembered new x ≡ Some d → remembered old x ≡ Some d) → (xs : List Place) → Descends p (xs ++ at ∷ []) → AllByRecursion (IsOn o p images before old root whole) xs → AllByRecursion (IsOn o q images after new root whole) xs
unfolding Descends
unmet_after o p q images before after old new root whole one k keeps inside at others [] d h = tt
unmet_after o p q images before after old new root whole one k keeps inside at others (x ∷ xs) d h = (
  on_later o p q images before after old new root whole k keeps inside x (none_left (remembered old x) (remembered new x) (others x (deeper_apart p one x at (last_of (IsDeeper p x) xs at d.0)))) h.0,
  unmet_after o p q images before after old new root whole one k keeps inside at others xs d.1 h.1,
)

pub walk_up : (o p q : PassView) → IsOneToOne p → (images : Images) (before after : Lists) (old new : Memo) (root : Place) (whole : Tree) (way : List Place) (above at : Place) (d : ℕ) → KeepsPass p q → KeepsLayers before after → Remembers old new at d → IsWalk o p images before old root whole ((way ++ above ∷ []) ++ at ∷ []) → IsWalk o q images after new root whole (way ++ above ∷ [])
walk_up o p q one images before after old new root whole way above at d k keeps noted w = record {
  root_inside = let i = w.root_inside in let m = keeps.more in omega arith;
  on = unmet_after o p q images before after old new root whole one k keeps w.root_inside at noted.others (way ++ above ∷ []) w.descends
      (front_of (IsOn o p images before old root whole) (way ++ above ∷ []) at w.on);
  descends = descends_later p q k (way ++ above ∷ []) (descends_front p (way ++ above ∷ []) at w.descends);
  starts = starts_front root way above at w.starts;
}

pub walk_root : (o p : PassView) (images : Images) (lists : Lists) (memo : Memo) (root : Place) (whole : Tree) (way : List Place) (at : Place) → way ≡ [] → IsWalk o p images lists memo root whole (way ++ at ∷ []) → at ≡ root
unfolding Starts
walk_root o p images lists memo root whole way at none w = only way none w.starts
  where
    only : (xs : List Place) → xs ≡ [] → Starts root (xs ++ at ∷ []) → at ≡ root
    only [] e s = s
    only (x ∷ xs) e s = absurd cc

pub no_places : (xs ys : List Place) (n : ℕ) → n ≡ 0 → ys ≡ take (n - 1) xs → xs ≡ ys ++ [] → xs ≡ []
no_places xs ys n z rest whole = whole ∙ rw (rest, z)

-- what the root becomes
pub at_root : (o : PassView) → IsOneToOne o → (r : ℕ) (lists : Lists) (f : ℕ → Tree) (whole t : Tree) → Knows o r whole → Knows o r t → shadowed lists 0 ≡ [] → (P : Tree → Type 0) → P (becomes_there f lists (Term r 0) whole) → P (becomes f [] t)
at_root o one r lists f whole t known known_t first P h =
    subst (λ (u : Tree). P (becomes f [] u)) (one.one_tree r whole t known known_t)
    (subst (λ (hidden : List ℕ). P (becomes f hidden whole)) first h)

pub ready_of : (o p : PassView) → KeepsPass o p → (images : Images) (lists : Lists) (memo : Memo) (root : Place) (whole : Tree) → HasImages o images → ((f : ℕ → Tree) → AreImages o images f → GoesRight o p f lists memo root whole) → IsReady p images lists memo
ready_of o p k images lists memo root whole has right = record {
  trees = has.trees;
  are = images_later o p k images has.trees has.are;
  right = (right has.trees has.are).right;
}

pub root_done : (p q : PassView) (f : ℕ → Tree) (lists : Lists) (at : Place) (r : ℕ) (whole : Tree) (d : ℕ) → at ≡ Term r 0 → ((t : Tree) → Knows p (reference_of at) t → Knows q d (becomes_there f lists at t)) → Knows p r whole → Knows q d (becomes_there f lists (Term r 0) whole)
root_done p q f lists at r whole d same done known =
    subst (λ (z : Place). Knows q d (becomes_there f lists z whole)) same
    (done whole (subst (λ (z : Place). Knows p (reference_of z) whole) (sym same) known))
