-- Putting images in for leaves, and the loop that joins what the parts of each cell have become.
use Rattle.std.proofs.Common.{◌≡◌, ℕ, ◌<◌, ◌≤◌, ◌+◌, ◌^◌, ◌⊎◌, inl, inr, max, refl, ◌∙◌, ap, arith, List, [], ◌∷◌, ◌++◌, length, get_or, take, Some, None, Option, Bool, ◌&&◌, nat_eq}
use Rattle.std.specs.HashMap.{get}
use Rattle.pair_pool.specs.Trees.{Tree, leaf, cell}
use Rattle.pair_pool.specs.Views.{PassView, Knows, IsKnown, IsOneToOne, HasPartsOfTrees, HasListsInOrder}
use Rattle.term_pool.specs.declared.putting.Image.{Image}
use Rattle.term_pool.specs.Trees.{IsPartOf}
use Rattle.term_pool.specs.Views.{KeepsPass}
use Rattle.term_pool.specs.Building.{PlacesOnlyIn, Interns, Refuses, LacksRoom}
use Rattle.term_pool.specs.Putting.{Piece, put, CellImages, IsImageOfPiece, IsLowPiece, IsImageOf, ArePiecesOfLeaves, HasPieceImages, PlacesPiece}
use Rattle.term_pool.specs.Images.{joined_image, AreImages}
use Rattle.term_pool.specs.Listings.{tree_of, listed_tree, trees_of, cell_at, AddsCells}
use Rattle.term_pool.specs.declared.listing.ListedCell.{ListedCell}
use Rattle.term_pool.proofs.ListingLemmas.{has_all, StandsAt}
use Rattle.std.proofs.lemmas.Bool.{cases_lt}
use Rattle.std.proofs.lemmas.List.{get_or_append_left, get_or_push, length_push}
use Rattle.term_pool.proofs.Members.{has_last}
use Rattle.term_pool.proofs.Depth.{depth-bound}
use Rattle.term_pool.proofs.Keeping.{keeps-refl, part-refl, part-trans, placed-none, placed-trans}
use Rattle.term_pool.proofs.BuildingLemmas.{placed-larger, lacks-larger, lacks_on, interned, refused}

-- what is known stays known
pub image_later : (p q : PassView) → KeepsPass p q → (d : Image) (x : Piece) → IsImageOfPiece p d x → IsImageOfPiece q d x
image_later p q k d x h = record { known = k.grows _ _ h.known; height = h.height; highest = h.highest; plain = h.plain }

pub images_later : (p q : PassView) → KeepsPass p q → (images : CellImages) (f : ℕ → Piece) → ArePiecesOfLeaves p images f → ArePiecesOfLeaves q images f
images_later p q k images f h n = go (get nat_eq images n) (h n)
  where
    go : (found : Option Image) → IsImageOf p found n (f n) → IsImageOf q found n (f n)
    go None e = e
    go (Some d) e = (image_later p q k d (f n) e.0, e.1)

-- heights are bounded by depths
pub put-within : (f : ℕ → Piece) → ((k : ℕ) → IsLowPiece (f k)) → (t : Tree) → IsLowPiece (put f t)
put-within f h (leaf k) = h k
put-within f h (cell a b) =
    let x = put-within f h a in
    let y = put-within f h b in
    record { height = omega arith; highest = omega arith }

pieces_within : (p : PassView) (images : CellImages) (f : ℕ → Piece) → ArePiecesOfLeaves p images f → (k : ℕ) → IsLowPiece (f k)
pieces_within p images f h k = go (get nat_eq images k) (h k)
  where
    go : (found : Option Image) → IsImageOf p found k (f k) → IsLowPiece (f k)
    go None e = rw e (record { height = omega arith; highest = omega arith })
    go (Some d) e = e.1

pub image_below : (p : PassView) → IsOneToOne p → HasPartsOfTrees p → HasListsInOrder p → (images : CellImages) (f : ℕ → Piece) → ArePiecesOfLeaves p images f → (t : Tree) (d : Image) → IsImageOfPiece p d (put f t) → d.highest < 2 ^ 31
image_below p one parts order images f h t d i =
    let b = depth-bound p one parts d.term (put f t).tree i.known in
    let w = put-within f (pieces_within p images f h) t in
    omega arith

-- a part becomes a part
pub put-part : (f : ℕ → Piece) (s t : Tree) → IsPartOf s t → IsPartOf (put f s).tree (put f t).tree
put-part f s (leaf k) h = rw h (part-refl (f k).tree)
put-part f s (cell a b) (inl e) = inl (ap (λ (x : Tree). (put f x).tree) e)
put-part f s (cell a b) (inr (inl h)) = inr (inl (put-part f s a h))
put-part f s (cell a b) (inr (inr h)) = inr (inr (put-part f s b h))

-- joining what the parts have become
join_is : (p q : PassView) (f : ℕ → Piece) (s t : Tree) (a b d : Image) → IsImageOfPiece p a (put f s) → IsImageOfPiece p b (put f t) → Interns p q a.term b.term d.term → d ≡ joined_image d.term a b → IsImageOfPiece q d (put f (cell s t))
join_is p q f s t a b d x y i e = record {
  known = i.stands (put f s).tree (put f t).tree x.known y.known;
  height = ap (λ (z : Image). z.height) e ∙ ap (λ (n : ℕ). n + 1) y.highest;
  highest = ap (λ (z : Image). z.highest) e ∙ ap (λ (n : ℕ). max n b.highest) x.height ∙ ap (λ (n : ℕ). max (put f s).height n) y.highest;
  plain = ap (λ (z : Image). z.plain) e ∙ ap (λ (c : Bool). c && b.plain) x.plain ∙ ap (λ (c : Bool). (put f s).plain && c) y.plain;
}

pub are_later : (p q : PassView) → KeepsPass p q → (f : ℕ → Piece) (made : List Image) (trees : List Tree) → AreImages p f made trees → AreImages q f made trees
are_later p q k f made trees h =
    record { each = h.each; are = λ n d less. image_later p q k _ _ (h.are n d less) }

pub are_more : (p : PassView) (f : ℕ → Piece) (made : List Image) (trees : List Tree) (d : Image) (t : Tree) → AreImages p f made trees → IsImageOfPiece p d (put f t) → AreImages p f (made ++ d ∷ []) (trees ++ t ∷ [])
are_more p f made trees d t h i = record {
  each = omega (arith, length_push made d, length_push trees t);
  are = λ n e less. go n e less (cases_lt n (length trees));
}
  where
    go : (n : ℕ) (e : Image) → n < length (trees ++ t ∷ []) → (n < length trees) ⊎ (length trees ≤ n) → IsImageOfPiece p (get_or (made ++ d ∷ []) n e) (put f (get_or (trees ++ t ∷ []) n (leaf 0)))
    go n e less (inl old) =
        rw (get_or_append_left made (d ∷ []) e n (rw h.each old), get_or_append_left trees (t ∷ []) (leaf 0) n old) (h.are n e old)
    go n e less (inr past) =
        let last : length trees ≡ n = omega (arith, length_push trees t) in
        rw (get_or_push made d e n (h.each ∙ last), get_or_push trees t (leaf 0) n last) i

-- Where the loop is: the images are right, and nothing was placed but cells of what the tree becomes.
pub record IsPutting (old new : PassView) (f : ℕ → Piece) (made : List Image) (trees : List Tree) (r : ℕ) : Type 0 where
  pub are : AreImages new f made trees
  pub placed : PlacesPiece old new f r

-- at a cell of what r is, whose parts have become a and b
pub record IsJoining (old new : PassView) (images : CellImages) (r : ℕ) (made : List Image) (trees : List Tree) (c : ListedCell) (a b : Image) : Type 0 where
  pub keeps : KeepsPass old new
  pub below : (t : Tree) → Knows old r t → IsPartOf (listed_tree trees c) t
  pub right : (f : ℕ → Piece) → ArePiecesOfLeaves old images f → IsPutting old new f made trees r
  pub first : (f : ℕ → Piece) → ArePiecesOfLeaves old images f → IsImageOfPiece new a (put f (tree_of trees c.first))
  pub second : (f : ℕ → Piece) → ArePiecesOfLeaves old images f → IsImageOfPiece new b (put f (tree_of trees c.second))

pub listed_below : (p : PassView) (r : ℕ) (cells : List ListedCell) (i : ℕ) → StandsAt cells i → ((t : Tree) → Knows p r t → AddsCells [] (trees_of cells) t) → (t : Tree) → Knows p r t → IsPartOf (listed_tree (trees_of (take i cells)) (cell_at cells i)) t
listed_below p r cells i s adds t known =
    go ((adds t known).only _ (has_all cells (i + 1) _ (rw s.more (has_last (trees_of (take i cells)) (listed_tree (trees_of (take i cells)) (cell_at cells i))))))
  where
    go : ⊥ ⊎ IsPartOf (listed_tree (trees_of (take i cells)) (cell_at cells i)) t → IsPartOf (listed_tree (trees_of (take i cells)) (cell_at cells i)) t
    go (inl none) = absurd none
    go (inr part) = part

module _ (old new : PassView) (images : CellImages) (r : ℕ) (made : List Image) (trees : List Tree) (c : ListedCell) (a b : Image) (h : IsJoining old new images r made trees c a b) where
  pub parts_ready : IsOneToOne new → HasPartsOfTrees new → HasListsInOrder new → HasPieceImages old images → IsKnown new a.term × IsKnown new b.term × (b.highest < 2 ^ 31)
  parts_ready one parts order has =
      let first = h.first has.pieces has.are in
      let second = h.second has.pieces has.are in
      let are = images_later old new h.keeps images has.pieces has.are in (
        record { tree = (put has.pieces (tree_of trees c.first)).tree; stands = first.known },
        record { tree = (put has.pieces (tree_of trees c.second)).tree; stands = second.known },
        image_below new one parts order images has.pieces are (tree_of trees c.second) b second,
      )

  inside : (f : ℕ → Piece) (t : Tree) → Knows old r t → (u : Tree) → IsPartOf u (put f (listed_tree trees c)).tree → IsPartOf u (put f t).tree
  inside f t known u part = part-trans u _ _ part (put-part f (listed_tree trees c) t (h.below t known))

  nothing : (f : ℕ → Piece) → PlacesOnlyIn new new (put f (listed_tree trees c)).tree
  nothing f = placed-none new new (put f (listed_tree trees c)).tree refl

  pub joining_lacks : (q : PassView) → Refuses new q a.term b.term → (f : ℕ → Piece) → ArePiecesOfLeaves old images f → (t : Tree) → Knows old r t → LacksRoom old q (put f t).tree
  joining_lacks q refuses f are t known =
      let lacks = refused new new q a.term b.term _ _ (keeps-refl new) (nothing f) (h.first f are).known (h.second f are).known refuses in
      lacks_on old new q (put f t).tree h.keeps ((h.right f are).placed t known) (lacks-larger new q _ _ (inside f t known) lacks)

  pub joining_places : (q : PassView) (n : ℕ) → Interns new q a.term b.term n → (f : ℕ → Piece) → ArePiecesOfLeaves old images f → PlacesPiece old q f r
  joining_places q n i f are t known =
      let built = interned new new q a.term b.term n _ _ (keeps-refl new) (nothing f) (h.first f are).known (h.second f are).known i in
      placed-trans old new q (put f t).tree i.keeps ((h.right f are).placed t known) (placed-larger new q _ _ (inside f t known) built.placed)

  pub joining_more : (q : PassView) (d : Image) → Interns new q a.term b.term d.term → d ≡ joined_image d.term a b → (f : ℕ → Piece) → ArePiecesOfLeaves old images f → IsPutting old q f (made ++ d ∷ []) (trees ++ listed_tree trees c ∷ []) r
  joining_more q d i e f are = record {
    are = are_more q f made trees d (listed_tree trees c) (are_later new q i.keeps f made trees (h.right f are).are)
        (join_is new q f (tree_of trees c.first) (tree_of trees c.second) a b d (h.first f are) (h.second f are) i e);
    placed = joining_places q d.term i f are;
  }
