-- Private. The places that the walk visits, what it remembers of them, and what a visit comes to.
use Rattle.std.specs.Prelude.{◌≡◌, ◌<◌, ◌≤◌, ◌^◌, ℕ, List, [], length, Option, Some, None, Result, IfOk, IfErr, nat_eq, if◌then◌else◌, Vec, Bool}
use Rattle.std.specs.HashMap.{get}
use Rattle.std.specs.List.{list_any}
use Rattle.std.specs.declared.alloc.Global.{Global}
use Rattle.pair_pool.specs.Trees.{Tree, cell}
use Rattle.pair_pool.specs.Views.{PassView, Knows}
use Rattle.term_pool.specs.Building.{PlacesOnlyIn, IsFullIn}
use Rattle.term_pool.specs.Heights.{is_let_head}
use Rattle.term_pool.specs.Trees.{IsPartOf, depth}
use Rattle.term_pool.specs.declared.stop.TermStop.{TermStop}
use Rattle.contexts.specs.declared.memo.Memo.{Memo}
use Rattle.contexts.specs.declared.places.Place.{Place}
use Rattle.contexts.specs.declared.places.Place.TheVariants.{Term, Bindings}
use Rattle.contexts.specs.declared.places.Visit.{Visit}
use Rattle.contexts.specs.declared.places.Visit.TheVariants.{Part, Done}
use Rattle.contexts.specs.Becoming.{becomes, bindings_become, Images, Look, IsImageAt, AreImages}
use Rattle.contexts.specs.Layers.{shadowed}
use Rattle.contexts.specs.Remembering.{reference_of, remembered}
use Rattle.contexts.specs.Shapes.{HasShape, HasListShape}

-- the number of the list of what lets around a place hide
abbrev pub layer_of : Place → ℕ
layer_of (Term r layer) = layer
layer_of (Bindings r layer) = layer

-- numbered lists of hidden leaves
abbrev pub Lists : Type 0
Lists = List (Vec ℕ Global)

-- the shape of what stands there, and what it becomes
abbrev pub HasPlaceShape : Place → Tree → Type 0
HasPlaceShape (Term r layer) t = HasShape t
HasPlaceShape (Bindings r layer) t = HasListShape t

abbrev pub becomes_there : (ℕ → Tree) → Lists → Place → Tree → Tree
becomes_there f lists (Term r layer) t = becomes f (shadowed lists layer) t
becomes_there f lists (Bindings r layer) t = bindings_become f (shadowed lists layer) t

-- a cell stands there, and its list is one of these
pub record IsSpot (pass : PassView) (lists : Lists) (place : Place) : Type 0 where
  pub tree : Tree
  pub known : Knows pass (reference_of place) tree
  pub shape : HasPlaceShape place tree
  pub high : 2 ^ 30 ≤ reference_of place
  pub inside : layer_of place < length lists

-- what is found of a leaf
abbrev pub other : Option ℕ → ℕ → ℕ
other None k = k
other (Some r) k = r

abbrev pub image_of_leaf : Images → List ℕ → ℕ → ℕ
image_of_leaf images hidden k = if list_any (nat_eq k) hidden then k else other (get nat_eq images k) k

abbrev pub leaf_there : Images → Lists → Place → ℕ
leaf_there images lists (Term r layer) = image_of_leaf images (shadowed lists layer) r
leaf_there images lists (Bindings r layer) = r

pub record HasBecome (pass : PassView) (f : ℕ → Tree) (lists : Lists) (place : Place) (r : ℕ) : Type 0 where
  pub tree : Tree
  pub known : Knows pass (reference_of place) tree
  pub is : Knows pass r (becomes_there f lists place tree)
  pub inside : layer_of place < length lists

abbrev pub IsMemory : PassView → (ℕ → Tree) → Lists → Memo → Type 0
IsMemory pass f lists memo = (place : Place) (r : ℕ) → remembered memo place ≡ Some r → HasBecome pass f lists place r

-- y is a place that is not remembered, less deep than x, and what stands there becomes a part of what x becomes
pub record IsUnder (pass : PassView) (images : Images) (lists : Lists) (memo : Memo) (x y : Place) : Type 0 where
  pub spot : IsSpot pass lists y
  pub unmet : remembered memo y ≡ None
  pub less : (s t : Tree) → Knows pass (reference_of x) s → Knows pass (reference_of y) t → depth t < depth s
  pub part :
      (f : ℕ → Tree) → AreImages pass images f → (s t : Tree) → Knows pass (reference_of x) s →
      Knows pass (reference_of y) t → IsPartOf (becomes_there f lists y t) (becomes_there f lists x s)

-- a visit of the place x has come to what it becomes, or found a place that is yet to be visited
abbrev pub IsVisit : PassView → Images → Lists → Memo → Place → Visit → Type 0
IsVisit pass images lists memo x (Done r) = Unit {0}
IsVisit pass images lists memo x (Part y) = IsUnder pass images lists memo x y

abbrev pub HasDone : PassView → PassView → (ℕ → Tree) → Lists → Place → Visit → Type 0
HasDone old new f lists x (Part y) = Unit {0}
HasDone old new f lists x (Done r) =
    (t : Tree) → Knows old (reference_of x) t → Knows new r (becomes_there f lists x t)

-- nothing is placed but cells of what the place becomes
abbrev pub PlacesImage : PassView → PassView → (ℕ → Tree) → Lists → Place → Type 0
PlacesImage old new f lists x = (t : Tree) → Knows old (reference_of x) t → PlacesOnlyIn old new (becomes_there f lists x t)

abbrev pub LacksRoomForImage : PassView → PassView → (ℕ → Tree) → Lists → Place → Type 0
LacksRoomForImage old new f lists x = (t : Tree) → Knows old (reference_of x) t → IsFullIn new (becomes_there f lists x t)

-- the images are those of some trees, and what is remembered has become of them
pub record IsReady (pass : PassView) (images : Images) (lists : Lists) (memo : Memo) : Type 0 where
  pub trees : ℕ → Tree
  pub are : AreImages pass images trees
  pub right : IsMemory pass trees lists memo

-- what is remembered has become of places where this is put in for leaves, and the first list hides none
pub record IsWalked (pass : PassView) (put : Look) (lists : Lists) (memo : Memo) : Type 0 where
  pub trees : ℕ → Tree
  pub are : (k : ℕ) → IsImageAt pass (put k) k (trees k)
  pub right : IsMemory pass trees lists memo
  pub first : shadowed lists 0 ≡ []
  pub some : 0 < length lists

-- what a visit of the place comes to, where the lists have become more
pub record Visits (old new : PassView) (images : Images) (before after : Lists) (memo : Memo) (place : Place) (result : Result Visit TermStop) : Type 0 where
  pub visit : IfOk result (IsVisit old images after memo place)
  pub done :
      IfOk result (λ v. (f : ℕ → Tree) → AreImages old images f → IsMemory old f before memo → HasDone old new f before place v)
  pub placed : (f : ℕ → Tree) → AreImages old images f → IsMemory old f before memo → PlacesImage old new f before place
  pub full :
      IfErr result (λ e. e ≡ TermStop.PoolFull → (f : ℕ → Tree) → AreImages old images f → IsMemory old f before memo →
      LacksRoomForImage old new f before place)

-- the head of the cell r is that of a let, or it is not
abbrev pub HasLetHead : PassView → ℕ → Bool → Type 0
HasLetHead pass r is_let = (a b : Tree) → Knows pass r (cell a b) → is_let_head a ≡ is_let
