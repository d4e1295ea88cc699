-- Visits of places.
use Rattle.std.proofs.Common.{◌≡◌, ℕ, ◌<◌, ◌≤◌, ◌^◌, ◌⊎◌, inl, inr, List, ◌++◌, length, Option, Some, None, Result, Ok, Err, IsErrAnd, Bool, true, false, nat_eq, if◌then◌else◌, refl, sym, ◌∙◌, ap, subst, arith}
use Rattle.std.specs.HashMap.{get}
use Rattle.std.specs.List.{list_any}
use Rattle.pair_pool.specs.Trees.{Tree, leaf, cell}
use Rattle.pair_pool.specs.Views.{PassView, Knows, IsKnown, IsOneToOne, HasPartsOfTrees}
use Rattle.term_model.proofs.Basics.{same_some}
use Rattle.term_pool.specs.Building.{PlacesOnlyIn, IsFullIn}
use Rattle.term_pool.specs.Heights.{is_let_head}
use Rattle.term_pool.specs.Trees.{IsPartOf, depth, pair_leaves}
use Rattle.term_pool.specs.Views.{IsKnownCell}
use Rattle.term_pool.specs.declared.stop.TermStop.{TermStop}
use Rattle.contexts.specs.declared.closed.Closed.{Closed}
use Rattle.contexts.specs.declared.memo.Memo.{Memo}
use Rattle.contexts.specs.declared.places.Place.{Place}
use Rattle.contexts.specs.declared.places.Place.TheVariants.{Term, Bindings}
use Rattle.contexts.specs.declared.places.Visit.{Visit}
use Rattle.contexts.specs.declared.places.Visit.TheVariants.{Part, Done}
use Rattle.contexts.specs.Becoming.{image, becomes, bindings_become, Images, IsImageAt, AreImages, look_of}
use Rattle.contexts.specs.Closed.{is_closed, found_for, IsClosedFor}
use Rattle.contexts.specs.Hiding.{Hides}
use Rattle.contexts.specs.Layers.{shadowed, KeepsLayers}
use Rattle.contexts.specs.Places.{Lists, layer_of, HasPlaceShape, becomes_there, IsSpot, image_of_leaf, leaf_there, other, IsMemory, IsUnder, HasDone, PlacesImage, LacksRoomForImage, IsReady, Visits, HasLetHead}
use Rattle.contexts.specs.Remembering.{reference_of, remembered}
use Rattle.contexts.specs.Shapes.{HasShape, HasLetShape, HasListShape, IsShaped, IsLetRest, IsBindingList}
use Rattle.contexts.proofs.Agreeing.{becomes_agree}
use Rattle.contexts.proofs.ClosedLemmas.{closed_same, found_none}
use Rattle.term_pool.proofs.Keeping.{placed-none}
use Rattle.term_pool.proofs.Depth.{is_cell}
use Rattle.contexts.proofs.References.{from_true, from_false}
use Rattle.contexts.proofs.Standing.{if_true, if_false}

-- the tree of a place that is a cell
pub record IsSplit (p : PassView) (r : ℕ) (P : Tree → Type 0) : Type 0 where
  pub first : Tree
  pub second : Tree
  pub known : Knows p r (cell first second)
  pub shape : P (cell first second)

pub split : (p : PassView) → HasPartsOfTrees p → (r : ℕ) (P : Tree → Type 0) (t : Tree) → Knows p r t → P t → 2 ^ 30 ≤ r → IsSplit p r P
split p parts r P (leaf k) known shape high = let e = parts.leaf_number r k known in absurd (omega (arith, e.0, e.1))
split p parts r P (cell a b) known shape high = record { first = a; second = b; known = known; shape = shape }

pub spot_cell : (p : PassView) → HasPartsOfTrees p → (lists : Lists) (place : Place) → IsSpot p lists place → IsKnownCell p (reference_of place)
spot_cell p parts lists place h = is_cell p parts (reference_of place) h.tree h.known h.high

-- what a look-up finds is what the place becomes
pub image_known : (p : PassView) (images : Images) (f : ℕ → Tree) → AreImages p images f → (hidden : List ℕ) (k : ℕ) → Knows p k (leaf k) → Knows p (image_of_leaf images hidden k) (image f hidden k)
image_known p images f are hidden k itself = go (list_any (nat_eq k) hidden) (get nat_eq images k) (are k)
  where
    go : (b : Bool) (o : Option ℕ) → IsImageAt p o k (f k) → Knows p (if b then k else other o k) (if b then leaf k else f k)
    go true o at = itself
    go false None at = subst (Knows p k) (sym at) itself
    go false (Some r) at = at

at_memory : (p : PassView) → IsOneToOne p → (f : ℕ → Tree) (lists : Lists) (memo : Memo) → IsMemory p f lists memo → (place : Place) (d : ℕ) → remembered memo place ≡ Some d → (t : Tree) → Knows p (reference_of place) t → Knows p d (becomes_there f lists place t)
at_memory p one f lists memo right place d e t known =
    let m = right place d e in
    subst (λ x. Knows p d (becomes_there f lists place x)) (one.one_tree (reference_of place) m.tree t m.known known) m.is

pub looked : (p : PassView) → IsOneToOne p → HasPartsOfTrees p → (images : Images) (lists : Lists) (memo : Memo) (closed : Closed) → IsClosedFor p (look_of images) closed → (f : ℕ → Tree) → AreImages p images f → IsMemory p f lists memo → (place : Place) (found : Option ℕ) (d : ℕ) → (reference_of place < 2 ^ 30 → found ≡ Some (leaf_there images lists place)) → (2 ^ 30 ≤ reference_of place → found ≡ found_for closed memo place) → found ≡ Some d → (t : Tree) → Knows p (reference_of place) t → Knows p d (becomes_there f lists place t)
looked p one parts images lists memo closed marks f are right (Term r layer) found d low high e (leaf k) known =
    let n = parts.leaf_number r k known in
    let less : r < 2 ^ 30 = omega (arith, n.0, n.1) in
    let is = same_some (sym (low less) ∙ e) in
    subst (λ x. Knows p x (image f (shadowed lists layer) k)) is
    (subst (λ j. Knows p (image_of_leaf images (shadowed lists layer) j) (image f (shadowed lists layer) k)) (sym n.0)
    (image_known p images f are (shadowed lists layer) k (subst (λ j. Knows p j (leaf k)) n.0 known)))
looked p one parts images lists memo closed marks f are right (Bindings r layer) found d low high e (leaf k) known =
    let n = parts.leaf_number r k known in
    let less : r < 2 ^ 30 = omega (arith, n.0, n.1) in
    subst (λ x. Knows p x (leaf k)) (same_some (sym (low less) ∙ e)) known
looked p one parts images lists memo closed marks f are right (Bindings r layer) found d low high e (cell a b) known =
    let above : 2 ^ 30 ≤ r = one.high r a b known in
    at_memory p one f lists memo right (Bindings r layer) d (sym (high above) ∙ e) (cell a b) known
looked p one parts images lists memo closed marks f are right (Term r layer) found d low high e (cell a b) known =
    let above : 2 ^ 30 ≤ r = one.high r a b known in
    go (is_closed closed r) refl (sym (high above) ∙ e)
  where
    go : (t : Bool) → is_closed closed r ≡ t → (if t then Some r else remembered memo (Term r layer)) ≡ Some d → Knows p d (becomes f (shadowed lists layer) (cell a b))
    go true told is =
        subst (Knows p d) (sym (closed_same p images closed marks f are r told one (cell a b) known (shadowed lists layer)))
        (subst (λ x. Knows p x (cell a b)) (same_some is) known)
    go false untold is = at_memory p one f lists memo right (Term r layer) d is (cell a b) known

low_or_high : (r : ℕ) → (r < 2 ^ 30) ⊎ (2 ^ 30 ≤ r)
low_or_high r = grind arith

-- a look-up that finds nothing was at a cell that is not remembered
pub unseen_high : (r : ℕ) (found : Option ℕ) (d : ℕ) → (r < 2 ^ 30 → found ≡ Some d) → found ≡ None → 2 ^ 30 ≤ r
unseen_high r found d low e = go (low_or_high r)
  where
    go : (r < 2 ^ 30) ⊎ (2 ^ 30 ≤ r) → 2 ^ 30 ≤ r
    go (inl h) = absurd (let f = low h in cc)
    go (inr h) = h

-- a part that was not found has to be visited first
pub under : (p : PassView) → IsOneToOne p → (images : Images) (lists : Lists) (memo : Memo) (closed : Closed) (x y : Place) (found : Option ℕ) → (reference_of y < 2 ^ 30 → found ≡ Some (leaf_there images lists y)) → (2 ^ 30 ≤ reference_of y → found ≡ found_for closed memo y) → found ≡ None → (s t : Tree) → Knows p (reference_of x) s → Knows p (reference_of y) t → HasPlaceShape y t → layer_of y < length lists → depth t < depth s → ((f : ℕ → Tree) → AreImages p images f → IsPartOf (becomes_there f lists y t) (becomes_there f lists x s)) → IsUnder p images lists memo x y
under p one images lists memo closed x y found low high e s t known_s known_t shape inside less part =
    let above = unseen_high (reference_of y) found _ low e in
    record {
      spot = record { tree = t; known = known_t; shape = shape; high = above; inside = inside };
      unmet = found_none closed memo y (sym (high above) ∙ e);
      less = λ s' t' ks kt.
          let es = ap depth (one.one_tree (reference_of x) s' s ks known_s) in
          let et = ap depth (one.one_tree (reference_of y) t' t kt known_t) in
          omega arith;
      part = λ f are s' t' ks kt.
          subst (λ z. IsPartOf (becomes_there f lists y t') (becomes_there f lists x z)) (one.one_tree (reference_of x) s s' known_s ks)
          (subst (λ z. IsPartOf (becomes_there f lists y z) (becomes_there f lists x s)) (one.one_tree (reference_of y) t t' known_t kt) (part f are));
    }

-- the four outcomes of a visit
pub visit_part : (p : PassView) (images : Images) (before after : Lists) (memo : Memo) (x y : Place) → IsUnder p images after memo x y → Visits p p images before after memo x (Ok (Part y))
visit_part p images before after memo x y h = record {
  visit = h;
  done = λ f are right. tt;
  placed = λ f are right t known. placed-none p p (becomes_there f before x t) refl;
  full = tt;
}

pub visit_stops : (p q : PassView) (images : Images) (before after : Lists) (memo : Memo) (x : Place) (e : TermStop) → ((f : ℕ → Tree) → AreImages p images f → IsMemory p f before memo → PlacesImage p q f before x) → (e ≡ TermStop.PoolFull → (f : ℕ → Tree) → AreImages p images f → IsMemory p f before memo → LacksRoomForImage p q f before x) → Visits p q images before after memo x (Err e)
visit_stops p q images before after memo x e placed full = record { visit = tt; done = tt; placed = placed; full = full }

pub visit_done : (p q : PassView) (images : Images) (before after : Lists) (memo : Memo) (x : Place) (n : ℕ) → ((f : ℕ → Tree) → AreImages p images f → IsMemory p f before memo → HasDone p q f before x (Done n)) → ((f : ℕ → Tree) → AreImages p images f → IsMemory p f before memo → PlacesImage p q f before x) → Visits p q images before after memo x (Ok (Done n))
visit_done p q images before after memo x n done placed = record { visit = tt; done = done; placed = placed; full = tt }

-- at the only tree of a reference
at_tree : (p : PassView) → IsOneToOne p → (r : ℕ) (s : Tree) → Knows p r s → (P : Tree → Type 0) → P s → (t : Tree) → Knows p r t → P t
at_tree p one r s known P h t known_t = subst P (one.one_tree r s t known known_t) h

-- lists that became more
pub lists_same : (f : ℕ → Tree) (before after : Lists) → KeepsLayers before after → (x : Place) (t : Tree) → layer_of x < length before → becomes_there f after x t ≡ becomes_there f before x t
lists_same f before after keeps (Term r layer) t inside = ap (λ (D : List ℕ). becomes f D t) (keeps.same layer inside)
lists_same f before after keeps (Bindings r layer) t inside = ap (λ (D : List ℕ). bindings_become f D t) (keeps.same layer inside)

pub memory_lists : (p : PassView) (f : ℕ → Tree) (before after : Lists) → KeepsLayers before after → (memo : Memo) → IsMemory p f before memo → IsMemory p f after memo
memory_lists p f before after keeps memo right place r found =
    let h = right place r found in
    record {
      tree = h.tree;
      known = h.known;
      is = subst (Knows p r) (sym (lists_same f before after keeps place h.tree h.inside)) h.is;
      inside = let more = keeps.more in let inside = h.inside in omega arith;
    }

-- what the place x becomes is composed of what the places y and z become
pub record IsComposed (p : PassView) (images : Images) (before after : Lists) (x y z : Place) (compose : Tree → Tree → Tree) : Type 0 where
  pub keeps : KeepsLayers before after
  pub inside : layer_of x < length before
  pub tree : Tree
  pub known : Knows p (reference_of x) tree
  pub first : Tree
  pub first_known : Knows p (reference_of y) first
  pub first_shape : HasPlaceShape y first
  pub first_inside : layer_of y < length after
  pub first_less : depth first < depth tree
  pub second : Tree
  pub second_known : Knows p (reference_of z) second
  pub second_shape : HasPlaceShape z second
  pub second_inside : layer_of z < length after
  pub second_less : depth second < depth tree
  pub is :
      (f : ℕ → Tree) → AreImages p images f →
      becomes_there f before x tree ≡ compose (becomes_there f after y first) (becomes_there f after z second)

module _ (p : PassView) (one : IsOneToOne p) (parts : HasPartsOfTrees p) (images : Images) (before after : Lists) (memo : Memo) (closed : Closed) (marks : IsClosedFor p (look_of images) closed) (x y z : Place) (compose : Tree → Tree → Tree) (h : IsComposed p images before after x y z compose) where
  after_is : (f : ℕ → Tree) → AreImages p images f → becomes_there f after x h.tree ≡ compose (becomes_there f after y h.first) (becomes_there f after z h.second)
  after_is f are = lists_same f before after h.keeps x h.tree h.inside ∙ h.is f are

  pub first_missing : ((s t : Tree) → IsPartOf s (compose s t)) → (found : Option ℕ) → (reference_of y < 2 ^ 30 → found ≡ Some (leaf_there images after y)) → (2 ^ 30 ≤ reference_of y → found ≡ found_for closed memo y) → found ≡ None → Visits p p images before after memo x (Ok (Part y))
  first_missing part found low high e =
      visit_part p images before after memo x y
      (under p one images after memo closed x y found low high e h.tree h.first h.known h.first_known h.first_shape h.first_inside h.first_less
      (λ f are. subst (IsPartOf (becomes_there f after y h.first)) (sym (after_is f are)) (part (becomes_there f after y h.first) (becomes_there f after z h.second))))

  pub second_missing : ((s t : Tree) → IsPartOf t (compose s t)) → (found : Option ℕ) → (reference_of z < 2 ^ 30 → found ≡ Some (leaf_there images after z)) → (2 ^ 30 ≤ reference_of z → found ≡ found_for closed memo z) → found ≡ None → Visits p p images before after memo x (Ok (Part z))
  second_missing part found low high e =
      visit_part p images before after memo x z
      (under p one images after memo closed x z found low high e h.tree h.second h.known h.second_known h.second_shape h.second_inside h.second_less
      (λ f are. subst (IsPartOf (becomes_there f after z h.second)) (sym (after_is f are)) (part (becomes_there f after y h.first) (becomes_there f after z h.second))))

  -- what both have become
  pub first_is : (found : Option ℕ) (d : ℕ) → (reference_of y < 2 ^ 30 → found ≡ Some (leaf_there images after y)) → (2 ^ 30 ≤ reference_of y → found ≡ found_for closed memo y) → found ≡ Some d → (f : ℕ → Tree) → AreImages p images f → IsMemory p f before memo → Knows p d (becomes_there f after y h.first)
  first_is found d low high e f are right =
      looked p one parts images after memo closed marks f are (memory_lists p f before after h.keeps memo right) y found d low high e h.first h.first_known

  pub second_is : (found : Option ℕ) (d : ℕ) → (reference_of z < 2 ^ 30 → found ≡ Some (leaf_there images after z)) → (2 ^ 30 ≤ reference_of z → found ≡ found_for closed memo z) → found ≡ Some d → (f : ℕ → Tree) → AreImages p images f → IsMemory p f before memo → Knows p d (becomes_there f after z h.second)
  second_is found d low high e f are right =
      looked p one parts images after memo closed marks f are (memory_lists p f before after h.keeps memo right) z found d low high e h.second h.second_known

  at_whole : (f : ℕ → Tree) → AreImages p images f → (P : Tree → Type 0) → P (compose (becomes_there f after y h.first) (becomes_there f after z h.second)) → (t : Tree) → Knows p (reference_of x) t → P (becomes_there f before x t)
  at_whole f are P k t known = at_tree p one (reference_of x) h.tree h.known (λ u. P (becomes_there f before x u)) (subst P (sym (h.is f are)) k) t known

  pub both_done : (q : PassView) (d e n : ℕ) → ((f : ℕ → Tree) → AreImages p images f → IsMemory p f before memo → Knows p d (becomes_there f after y h.first)) → ((f : ℕ → Tree) → AreImages p images f → IsMemory p f before memo → Knows p e (becomes_there f after z h.second)) → ((s t : Tree) → Knows p d s → Knows p e t → Knows q n (compose s t) × PlacesOnlyIn p q (compose s t)) → Visits p q images before after memo x (Ok (Done n))
  both_done q d e n first second made =
      visit_done p q images before after memo x n
      (λ f are right. at_whole f are (Knows q n) (made (becomes_there f after y h.first) (becomes_there f after z h.second) (first f are right) (second f are right)).0)
      (λ f are right. at_whole f are (PlacesOnlyIn p q) (made (becomes_there f after y h.first) (becomes_there f after z h.second) (first f are right) (second f are right)).1)

  pub both_stop : (q : PassView) (r : Result Visit TermStop) (P : TermStop → Type 0) (d e : ℕ) → IsErrAnd r P → ((f : ℕ → Tree) → AreImages p images f → IsMemory p f before memo → Knows p d (becomes_there f after y h.first)) → ((f : ℕ → Tree) → AreImages p images f → IsMemory p f before memo → Knows p e (becomes_there f after z h.second)) → ((s t : Tree) → Knows p d s → Knows p e t → IsFullIn q (compose s t) × PlacesOnlyIn p q (compose s t)) → Visits p q images before after memo x r
  both_stop q (Ok v) P d e err first second lacks = absurd err
  both_stop q (Err s) P d e err first second lacks =
      visit_stops p q images before after memo x s
      (λ f are right. at_whole f are (PlacesOnlyIn p q) (lacks (becomes_there f after y h.first) (becomes_there f after z h.second) (first f are right) (second f are right)).1)
      (λ is f are right. at_whole f are (IsFullIn q) (lacks (becomes_there f after y h.first) (becomes_there f after z h.second) (first f are right) (second f are right)).0)

pub image_is_known : (p : PassView) (images : Images) (lists : Lists) (memo : Memo) (d : ℕ) (T : (ℕ → Tree) → Tree) → IsReady p images lists memo → ((f : ℕ → Tree) → AreImages p images f → IsMemory p f lists memo → Knows p d (T f)) → IsKnown p d
image_is_known p images lists memo d T ready h = record { tree = T ready.trees; stands = h ready.trees ready.are ready.right }

-- a cell that is no let
pub plain_composed : (p : PassView) (images : Images) (lists : Lists) (r a b layer : ℕ) (k : IsSplit p r HasShape) → ((s t : Tree) → Knows p r (cell s t) → Knows p a s) → ((s t : Tree) → Knows p r (cell s t) → Knows p b t) → HasLetHead p r false → layer < length lists → IsComposed p images lists lists (Term r layer) (Term a layer) (Term b layer) cell
plain_composed p images lists r a b layer k first second head inside =
    let no = head k.first k.second k.known in
    let shapes = from_false (is_let_head k.first) (HasLetShape k.second) (HasShape k.first × HasShape k.second) no k.shape in
    record {
      keeps = record { more = omega arith; same = λ n below. refl };
      inside = inside;
      tree = cell k.first k.second;
      known = k.known;
      first = k.first;
      first_known = first k.first k.second k.known;
      first_shape = shapes.0;
      first_inside = inside;
      first_less = omega arith;
      second = k.second;
      second_known = second k.first k.second k.known;
      second_shape = shapes.1;
      second_inside = inside;
      second_less = omega arith;
      is = λ f are. if_false (is_let_head k.first) _ _ no;
    }

-- a list of bindings
pub record IsBindingSplit (p : PassView) (r binding var value rest : ℕ) : Type 0 where
  pub name : ℕ
  pub term : Tree
  pub others : Tree
  pub known : Knows p r (cell (cell (leaf name) term) others)
  pub binding_known : Knows p binding (cell (leaf name) term)
  pub var_known : Knows p var (leaf name)
  pub value_known : Knows p value term
  pub rest_known : Knows p rest others
  pub term_shape : HasShape term
  pub others_shape : HasListShape others

pub bindings_composed : (p : PassView) (images : Images) (lists : Lists) (r binding var value rest layer : ℕ) (k : IsBindingSplit p r binding var value rest) → layer < length lists → IsComposed p images lists lists (Bindings r layer) (Term value layer) (Bindings rest layer) (λ s t. cell (cell (leaf k.name) s) t)
bindings_composed p images lists r binding var value rest layer k inside = record {
  keeps = record { more = omega arith; same = λ n below. refl };
  inside = inside;
  tree = cell (cell (leaf k.name) k.term) k.others;
  known = k.known;
  first = k.term;
  first_known = k.value_known;
  first_shape = k.term_shape;
  first_inside = inside;
  first_less = omega arith;
  second = k.others;
  second_known = k.rest_known;
  second_shape = k.others_shape;
  second_inside = inside;
  second_less = omega arith;
  is = λ f are. refl;
}

-- a let
pub record IsLetSplit (p : PassView) (r head rest list body : ℕ) : Type 0 where
  pub top : Tree
  pub bindings : Tree
  pub under : Tree
  pub known : Knows p r (cell top (cell bindings under))
  pub is_let : is_let_head top ≡ true
  pub head_known : Knows p head top
  pub rest_known : Knows p rest (cell bindings under)
  pub list_known : Knows p list bindings
  pub body_known : Knows p body under
  pub list_shape : HasListShape bindings
  pub body_shape : HasShape under

pub let_composed : (p : PassView) (images : Images) (before after : Lists) (r head rest list body layer inner : ℕ) (k : IsLetSplit p r head rest list body) → KeepsLayers before after → layer < length before → inner < length after → Hides p images (shadowed before layer) list body (shadowed after inner) → IsComposed p images before after (Term r layer) (Bindings list layer) (Term body inner) (λ s t. cell k.top (cell s t))
let_composed p images before after r head rest list body layer inner k keeps inside inside_inner hides = record {
  keeps = keeps;
  inside = inside;
  tree = cell k.top (cell k.bindings k.under);
  known = k.known;
  first = k.bindings;
  first_known = k.list_known;
  first_shape = k.list_shape;
  first_inside = let more = keeps.more in omega arith;
  first_less = omega arith;
  second = k.under;
  second_known = k.body_known;
  second_shape = k.body_shape;
  second_inside = inside_inner;
  second_less = omega arith;
  is = is;
}
  where
    is : (f : ℕ → Tree) → AreImages p images f → becomes_there f before (Term r layer) (cell k.top (cell k.bindings k.under)) ≡ cell k.top (cell (becomes_there f after (Bindings list layer) k.bindings) (becomes_there f after (Term body inner) k.under))
    is f are =
        if_true (is_let_head k.top) _ _ k.is_let
        ∙ ap (λ z. cell k.top (cell z (becomes f (shadowed before layer ++ pair_leaves k.bindings) k.under))) (sym (lists_same f before after keeps (Bindings list layer) k.bindings inside))
        ∙ ap (λ z. cell k.top (cell (bindings_become f (shadowed after layer) k.bindings) z))
        (sym (becomes_agree f k.under (shadowed after inner) (shadowed before layer ++ pair_leaves k.bindings) k.body_shape (λ j free. hides f are k.bindings k.under k.list_known k.list_shape k.body_known j free)))

pub plain_of_spot : (p : PassView) → HasPartsOfTrees p → (images : Images) (lists : Lists) (r a b layer : ℕ) → IsSpot p lists (Term r layer) → ((s t : Tree) → Knows p r (cell s t) → Knows p a s) → ((s t : Tree) → Knows p r (cell s t) → Knows p b t) → HasLetHead p r false → IsComposed p images lists lists (Term r layer) (Term a layer) (Term b layer) cell
plain_of_spot p parts images lists r a b layer spot first second head =
    plain_composed p images lists r a b layer (split p parts r HasShape spot.tree spot.known spot.shape spot.high) first second head spot.inside

pub bindings_split : (p : PassView) → HasPartsOfTrees p → (lists : Lists) (r binding var value rest layer : ℕ) → IsSpot p lists (Bindings r layer) → ((s t : Tree) → Knows p r (cell s t) → Knows p binding s) → ((s t : Tree) → Knows p r (cell s t) → Knows p rest t) → ((s t : Tree) → Knows p binding (cell s t) → Knows p var s) → ((s t : Tree) → Knows p binding (cell s t) → Knows p value t) → IsBindingSplit p r binding var value rest
bindings_split p parts lists r binding var value rest layer spot first second third fourth = go spot.tree spot.known spot.shape
  where
    go : (t : Tree) → Knows p r t → HasListShape t → IsBindingSplit p r binding var value rest
    go (leaf j) known shape = let high = spot.high in let e = parts.leaf_number r j known in absurd (omega (arith, e.0, e.1))
    go (cell (leaf j) b) known shape = absurd shape.0
    go (cell (cell (cell c d) t) b) known shape = absurd shape.0
    go (cell (cell (leaf j) t) b) known shape =
        let pair = first (cell (leaf j) t) b known in
        record {
          name = j;
          term = t;
          others = b;
          known = known;
          binding_known = pair;
          var_known = third (leaf j) t pair;
          value_known = fourth (leaf j) t pair;
          rest_known = second (cell (leaf j) t) b known;
          term_shape = shape.0;
          others_shape = shape.1;
        }

pub binding_is_cell : (p : PassView) → HasPartsOfTrees p → (lists : Lists) (r binding rest layer : ℕ) → IsSpot p lists (Bindings r layer) → ((s t : Tree) → Knows p r (cell s t) → Knows p binding s) → ((s t : Tree) → Knows p r (cell s t) → Knows p rest t) → IsKnownCell p binding
binding_is_cell p parts lists r binding rest layer spot first second = go spot.tree spot.known spot.shape
  where
    go : (t : Tree) → Knows p r t → HasListShape t → IsKnownCell p binding
    go (leaf j) known shape = let high = spot.high in let e = parts.leaf_number r j known in absurd (omega (arith, e.0, e.1))
    go (cell (leaf j) b) known shape = absurd shape.0
    go (cell (cell c t) b) known shape = record { first = c; second = t; stands = first (cell c t) b known }

pub let_rest_of : (p : PassView) → HasPartsOfTrees p → (lists : Lists) (r head rest layer : ℕ) → IsSpot p lists (Term r layer) → HasLetHead p r true → ((s t : Tree) → Knows p r (cell s t) → Knows p rest t) → IsLetRest p rest
let_rest_of p parts lists r head rest layer spot is second = go spot.tree spot.known spot.shape
  where
    go : (t : Tree) → Knows p r t → HasShape t → IsLetRest p rest
    go (leaf j) known shape = let high = spot.high in let e = parts.leaf_number r j known in absurd (omega (arith, e.0, e.1))
    go (cell a b) known shape = record {
      tree = b;
      known = second a b known;
      shape = from_true (is_let_head a) (HasLetShape b) (HasShape a × HasShape b) (is a b known) shape;
    }

pub let_split : (p : PassView) → HasPartsOfTrees p → (lists : Lists) (r head rest list body layer : ℕ) → IsSpot p lists (Term r layer) → HasLetHead p r true → ((s t : Tree) → Knows p r (cell s t) → Knows p head s) → ((s t : Tree) → Knows p r (cell s t) → Knows p rest t) → ((s t : Tree) → Knows p rest (cell s t) → Knows p list s) → ((s t : Tree) → Knows p rest (cell s t) → Knows p body t) → IsLetSplit p r head rest list body
let_split p parts lists r head rest list body layer spot is first second third fourth = go spot.tree spot.known spot.shape
  where
    go : (t : Tree) → Knows p r t → HasShape t → IsLetSplit p r head rest list body
    go (leaf j) known shape = let high = spot.high in let e = parts.leaf_number r j known in absurd (omega (arith, e.0, e.1))
    go (cell a (leaf j)) known shape = absurd (from_true (is_let_head a) ⊥ (HasShape a × HasShape (leaf j)) (is a (leaf j) known) shape)
    go (cell a (cell b c)) known shape =
        let inner = from_true (is_let_head a) (HasLetShape (cell b c)) (HasShape a × HasShape (cell b c)) (is a (cell b c) known) shape in
        let below = second a (cell b c) known in
        record {
          top = a;
          bindings = b;
          under = c;
          known = known;
          is_let = is a (cell b c) known;
          head_known = first a (cell b c) known;
          rest_known = below;
          list_known = third b c below;
          body_known = fourth b c below;
          list_shape = inner.0;
          body_shape = inner.1;
        }

pub split_list : (p : PassView) (r head rest list body : ℕ) → IsLetSplit p r head rest list body → IsBindingList p list
split_list p r head rest list body k = record { tree = k.bindings; known = k.list_known; shape = k.list_shape }

pub split_body : (p : PassView) (r head rest list body : ℕ) → IsLetSplit p r head rest list body → IsShaped p body
split_body p r head rest list body k = record { tree = k.under; known = k.body_known; shape = k.body_shape }
