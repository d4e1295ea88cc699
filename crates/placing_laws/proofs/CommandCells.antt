-- Private. Each cell that may be placed for a command, but for those of images, is one of the counted.
use Rattle.std.proofs.Common.{inl, inr, ℕ}
use Rattle.pair_pool.specs.Trees.{Tree}
use Rattle.term_model.specs.Flips.{equality}
use Rattle.term_model.specs.Terms.{Term, not_of}
use Rattle.term_pool.specs.StandsFor.{StandsFor}
use Rattle.term_pool.specs.Trees.{IsCellTree, IsPartOf}
use Rattle.term_pool.specs.Views.{TermsView}
use Rattle.flip_steps.specs.Stages.{IsMadeFrom}
use Rattle.equality_steps.specs.declared.site.Site.{Site}
use Rattle.equality_blocks.specs.Commands.{IsLiteralOfCommand}
use Rattle.equality_blocks.specs.Counts.{IsRootOf, literal as root_literal, asserted as root_asserted, side as root_side}
use Rattle.equality_blocks.specs.Made.{IsMadeFor, stated, denied, apart, paired, literal as stated_literal, formed}
use Rattle.equality_blocks.specs.Pairs.{AreAssumed}
use Rattle.equality_blocks.specs.Pairs.{AreOrdered, ArePaired}
use Rattle.equality_blocks.specs.Pairs.{linked, arguments, outer, inner, reversed, turned}
use Rattle.equality_blocks.specs.Pairs.{AreLinkedBy, equated as linked_equated, implied, assumed, put_in_one, put_in_both}
use Rattle.placing_laws.specs.Placed.{literal, asserted, side}
use Rattle.placing_laws.proofs.AtMost.{has_left}
use Rattle.placing_laws.proofs.FormedCells.{IsBroughtAt, IsLeafCell, made_from}
use Rattle.placing_laws.proofs.OwnCells.{AreOwnCells, Counting, HasPairTrees, IsPlacedCell}
use Rattle.placing_laws.proofs.OwnCells.{by_literal, by_own, linked_pair, of_pair, own_literal, own_term}
use Rattle.placing_laws.proofs.MatchedPairs.{argument_pair, assumed_pair, implied_pair, inner_pair, outer_pair, reversed_pair, turned_pair}
use Rattle.placing_laws.proofs.PutInPairs.{both_put_pair, put_pair, side_leaf}
use Rattle.placing_laws.proofs.PairCells.{IsOfPair, in_order, in_turn, left_denied, right_denied, equality_denied, turned_denied}
use Rattle.placing_laws.proofs.PairCells.{equal_cells}
use Rattle.placing_laws.proofs.PairCells.{pair_cells}

module _ (p : Site) (v : TermsView) (counting : Counting p v) where
  abbrev IsPlaced : Tree → Type 0
  IsPlaced = IsPlacedCell p v counting

  abbrev AreOwn : Tree → Type 0
  AreOwn = AreOwnCells p v counting

  abbrev HasPair : Term → Term → Type 0
  HasPair = HasPairTrees p v counting

  -- each pair
  linked_by_pair : (t u : Term) → AreLinkedBy p v t u → HasPair t u
  linked_by_pair t u (linked_equated h) = linked_pair p v counting t u h
  linked_by_pair t u (implied h) = implied_pair p v counting t u h
  linked_by_pair t u (assumed h) = assumed_pair p v counting t u h
  linked_by_pair t u (put_in_one h) = put_pair p v counting t u h
  linked_by_pair t u (put_in_both h) = both_put_pair p v counting t u h

  ordered_pair : (t u : Term) → AreOrdered p v t u → HasPair t u
  ordered_pair _ _ (linked t u h) = linked_by_pair t u h
  ordered_pair _ _ (arguments t u x y h k) = argument_pair p v counting t u x y h k
  ordered_pair _ _ (outer a b c d h) = outer_pair p v counting a b c d h
  ordered_pair _ _ (inner a b c d h) = inner_pair p v counting a b c d h
  ordered_pair _ _ (reversed a b c d h) = reversed_pair p v counting a b c d h
  ordered_pair _ _ (turned a b c d h) = turned_pair p v counting a b c d h

  -- what is made for a pair in either order
  abbrev IsOfEither : Term → Term → Term → Type 0
  IsOfEither t u x = IsOfPair t u x × IsOfPair u t x

  paired_cells : (t u x : Term) (tree part : Tree) → ArePaired p v t u → IsOfEither t u x → StandsFor p.symbols.now tree x → IsCellTree part
      → IsPartOf part tree
      → IsPlaced part
  paired_cells t u x tree part (inl h) made stands is inside = of_pair p v counting t u x tree part (ordered_pair t u h) made.0 stands is inside
  paired_cells t u x tree part (inr h) made stands is inside = of_pair p v counting u t x tree part (ordered_pair u t h) made.1 stands is inside

  -- what is made of what stands in a term of the command
  abbrev IsBrought : Tree → Tree → Type 0
  IsBrought = IsBroughtAt p.symbols.now v counting.table counting.one

  by_term : (tree x : Tree) → AreOwn tree → IsBrought tree x → IsPlaced x
  by_term tree x own (key, (is, inside), by) = inl (key, own key is inside, inl by)

  literal_leaf : (t : Term) (h : IsLiteralOfCommand p v t) (x : Tree) → IsLeafCell h.refers.tree x → IsPlaced x
  literal_leaf t h x k =
      by_literal p v counting h.reference x h.among
      (inr (h.refers.tree, record { number = k.number; is = k.is; known = h.refers.known }, k.there))

  asserted_leaf : (t u : Term) (h : AreAssumed p v t u) (x : Tree) → IsLeafCell h.refers.tree x → IsPlaced x
  asserted_leaf t u h x k =
      let right = h.first.assumed_refers in
      inr (inr (inl (inr (
        (h.refers.tree, right.tree),
        record { left = t; right = u; are = h; left_stands = h.refers.stands; right_stands = right.stands },
        has_left (equal_cells h.refers.tree h.refers.tree) (pair_cells h.refers.tree right.tree) x k.there,
      ))))

  formed_cells : (root : ℕ) (x : Term) (tree part : Tree) → IsRootOf p v root → IsMadeFrom p.symbols.now v root x → StandsFor p.symbols.now tree x
      → IsCellTree part
      → IsPartOf part tree → IsPlaced part
  formed_cells root x tree part (root_literal among) made stands is inside =
      let refers = made.stands.whole_refers in
      let h : IsLiteralOfCommand p v made.stands.whole = record { reference = root; among = among; refers = refers } in
      elim (made_from p.symbols.now v counting.table counting.one root made.stands.whole x refers.tree tree part made refers refers.stands stands is inside) [
        | inl by ↦ by_term refers.tree part (own_literal p v counting made.stands.whole h) by
        | inr only ↦ literal_leaf made.stands.whole h part only
      ]
  formed_cells root x tree part (root_asserted u first) made stands is inside =
      let refers = made.stands.whole_refers in
      let h : AreAssumed p v made.stands.whole u = record { reference = root; first = first; refers = refers } in
      elim (made_from p.symbols.now v counting.table counting.one root made.stands.whole x refers.tree tree part made refers refers.stands stands is inside) [
        | inl by ↦ by_term refers.tree part (own_term p v counting made.stands.whole refers.tree (asserted u h) refers.stands) by
        | inr only ↦ asserted_leaf made.stands.whole u h part only
      ]
  formed_cells root x tree part (root_side t u put refers) made stands is inside =
      elim (made_from p.symbols.now v counting.table counting.one root u x refers.tree tree part made refers refers.stands stands is inside) [
        | inl by ↦ by_term refers.tree part (own_term p v counting u refers.tree (side t put) refers.stands) by
        | inr only ↦ side_leaf p v counting t u put refers.tree part refers.stands only
      ]

  -- each cell of a term that is made for the command is counted
  pub made_cells : (x : Term) (tree part : Tree) → IsMadeFor p v x → StandsFor p.symbols.now tree x → IsCellTree part → IsPartOf part tree → IsPlaced part
  made_cells _ tree part (stated _ (paired t u x h k)) stands is inside = paired_cells t u x tree part h (in_order x k, in_turn x k) stands is inside
  made_cells _ tree part (stated _ (stated_literal x h)) stands is inside =
      by_own p v counting part (own_term p v counting x tree (literal h) stands part is inside)
  made_cells _ tree part (stated _ (formed root x h k)) stands is inside = formed_cells root x tree part h k stands is inside
  made_cells _ tree part (denied t u h) stands is inside = paired_cells t u (not_of t) tree part h (left_denied, right_denied) stands is inside
  made_cells _ tree part (apart t u h) stands is inside =
      paired_cells t u (not_of (equality t u)) tree part h (equality_denied, turned_denied) stands is inside
