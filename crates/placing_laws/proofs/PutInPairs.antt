-- Private. The pairs of a refl: all their cells are counted.
use Rattle.std.proofs.Common.{◌≡◌, ◌⊎◌, inl, inr, ℕ, List, Contains, refl, ◌∙◌, ap, subst}
use Rattle.pair_pool.specs.Trees.{Tree}
use Rattle.term_model.specs.Terms.{Term}
use Rattle.term_pool.specs.CellCounts.{Has}
use Rattle.term_pool.specs.StandsFor.{StandsFor}
use Rattle.term_pool.specs.Views.{TermsView}
use Rattle.placing_laws.proofs.OneTrees.{one_tree}
use Rattle.term_pool.proofs.OneTerm.{one_term}
use Rattle.elaboration_laws.proofs.Ones.{one_anchors}
use Rattle.elaborator.specs.Sources.{own_anchors}
use Rattle.rule_model.specs.Contexts.{images}
use Rattle.rule_model.specs.Substitution.{put_in}
use Rattle.equality_steps.specs.declared.site.Site.{Site}
use Rattle.equality_blocks.specs.Commands.{literals_of_command}
use Rattle.equality_blocks.specs.Pairs.{AreBothPutIn, AreEquated}
use Rattle.equality_blocks.specs.Pairs.{IsPutIn}
use Rattle.placing_laws.specs.Placed.{side}
use Rattle.placing_laws.proofs.AtMost.{has_among}
use Rattle.placing_laws.proofs.CommandPairs.{ArePutIn}
use Rattle.placing_laws.proofs.CommandPairs.{FourTrees, put_in_cells, put_in_lists, twice_cells}
use Rattle.placing_laws.proofs.FormedCells.{IsLeafCell}
use Rattle.placing_laws.proofs.OwnCells.{AreOwnCells, Counting, HasPairTrees, IsPlacedCell, equated_trees, own_pair, own_term}
use Rattle.placing_laws.proofs.PairCells.{equal_cells, joint_cells}
use Rattle.placing_laws.proofs.PairCells.{pair_cells, pair_cases, not_cells, right_not}
use Rattle.placing_laws.proofs.Places.{has_of}

module _ (p : Site) (v : TermsView) (counting : Counting p v) where
  abbrev IsPlaced : Tree → Type 0
  IsPlaced = IsPlacedCell p v counting

  abbrev AreOwn : Tree → Type 0
  AreOwn = AreOwnCells p v counting

  abbrev HasPair : Term → Term → Type 0
  HasPair = HasPairTrees p v counting

  -- the sides of a refl
  record HasPutInTrees (t u put_t put_u : Term) : Type 0 where
    reference : ℕ
    among : Contains (literals_of_command p) reference
    sides : FourTrees
    are : ArePutIn p v reference sides
    t_stands : StandsFor p.symbols.now sides.0.0 t
    t_put : StandsFor p.symbols.now sides.0.1 put_t
    u_stands : StandsFor p.symbols.now sides.1.0 u
    u_put : StandsFor p.symbols.now sides.1.1 put_u
    t_own : AreOwn sides.0.0
    t_put_own : AreOwn sides.0.1
    u_own : AreOwn sides.1.0
    u_put_own : AreOwn sides.1.1

  put_in_trees : (t u put_t put_u : Term) → AreEquated p v t u → (h : IsPutIn p v t put_t) (k : IsPutIn p v u put_u) → put_u ≡ put_in (images h.anchors) u
      → HasPutInTrees t u put_t put_u
  put_in_trees t u put_t put_u equated h k is =
      let e = equated_trees p v counting t u equated in
      let left = counting.all put_t (side t h) in
      let right = counting.all put_u (side u k) in
      record {
        reference = e.reference;
        among = e.among;
        sides = ((e.left, left.0), (e.right, right.0));
        are = record {
          rule = h.rule;
          left = t;
          right = u;
          equates = e.equates;
          anchors = h.anchors;
          anchors_stand = h.anchors_stand;
          left_stands = e.left_stands;
          left_put = subst (StandsFor p.symbols.now left.0) h.is left.2;
          right_stands = e.right_stands;
          right_put = subst (StandsFor p.symbols.now right.0) is right.2;
        };
        t_stands = e.left_stands;
        t_put = left.2;
        u_stands = e.right_stands;
        u_put = right.2;
        t_own = e.left_own;
        t_put_own = own_term p v counting put_t left.0 (side t h) left.2;
        u_own = e.right_own;
        u_put_own = own_term p v counting put_u right.0 (side u k) right.2;
      }

  by_put_in : (t u put_t put_u : Term) (k : HasPutInTrees t u put_t put_u) (x : Tree) → Has (put_in_cells k.sides) x → IsPlaced x
  by_put_in t u put_t put_u k x there = inr (inr (inl (inl (k.reference, has_of (literals_of_command p) k.reference k.among, (k.sides, k.are, there)))))

  -- the other side with the same images put in
  put_other : (t u other : Term) (h : IsPutIn p v t u) → AreEquated p v t other ⊎ AreEquated p v other t → IsPutIn p v other (put_in (images h.anchors) other)
  put_other t u other h equated = record {
    rule = h.rule;
    anchors = h.anchors;
    anchors_stand = h.anchors_stand;
    other = t;
    side = elim equated [ inl e ↦ inr e | inr e ↦ inl e ];
    is = refl;
  }

  left_put : (t u other : Term) (h : IsPutIn p v t u) → AreEquated p v t other → HasPutInTrees t other u (put_in (images h.anchors) other)
  left_put t u other h equated =
      put_in_trees t other u (put_in (images h.anchors) other) equated h (put_other t u other h (inl equated)) refl

  right_put : (t u other : Term) (h : IsPutIn p v t u) → AreEquated p v other t → HasPutInTrees other t (put_in (images h.anchors) other) u
  unfolding put_other
  right_put t u other h equated =
      put_in_trees other t (put_in (images h.anchors) other) u equated (put_other t u other h (inr equated)) h h.is

  first_put_pair : (t u put_t put_u : Term) → HasPutInTrees t u put_t put_u → HasPair t put_t
  first_put_pair t u put_t put_u k =
      own_pair p v counting t put_t k.sides.0.0 k.sides.0.1 k.t_stands k.t_put k.t_own k.t_put_own
      (λ x there. by_put_in t u put_t put_u k x (has_among (put_in_lists k.sides) (pair_cells k.sides.0.0 k.sides.0.1) x (inl refl) there))

  second_put_pair : (t u put_t put_u : Term) → HasPutInTrees t u put_t put_u → HasPair u put_u
  second_put_pair t u put_t put_u k =
      own_pair p v counting u put_u k.sides.1.0 k.sides.1.1 k.u_stands k.u_put k.u_own k.u_put_own
      (λ x there. by_put_in t u put_t put_u k x (has_among (put_in_lists k.sides) (pair_cells k.sides.1.0 k.sides.1.1) x (inr (inl refl)) there))

  pub put_pair : (t u : Term) → IsPutIn p v t u → HasPair t u
  put_pair t u h = elim h.side [
    | inl equated ↦ first_put_pair t h.other u (put_in (images h.anchors) h.other) (left_put t u h.other h equated)
    | inr equated ↦ second_put_pair h.other t (put_in (images h.anchors) h.other) u (right_put t u h.other h equated)
  ]

  pub both_put_pair : (t u : Term) → AreBothPutIn p v t u → HasPair t u
  both_put_pair t u h =
      own_pair p v counting t u k.sides.0.1 k.sides.1.1 k.t_put k.u_put k.t_put_own k.u_put_own
      (λ x there. cells x (pair_cases k.sides.0.1 k.sides.1.1 x there))
    where
      anchors : h.right_put_in.anchors ≡ h.left_put_in.anchors
      anchors =
          one_anchors p.symbols.now v counting.one (one_term p.symbols.now counting.table.table) (own_anchors p.proof.now p.command) h.right_put_in.anchors
          h.left_put_in.anchors
          h.right_put_in.anchors_stand h.left_put_in.anchors_stand

      k : HasPutInTrees h.left h.right t u
      k =
          put_in_trees h.left h.right t u h.equated h.left_put_in h.right_put_in
          (h.right_put_in.is ∙ ap (λ z. put_in (images z) h.right) anchors)

      in_list : (xs : List Tree) (x : Tree) → Has (put_in_lists k.sides) xs → Has xs x → IsPlaced x
      in_list xs x which there = by_put_in h.left h.right t u k x (has_among (put_in_lists k.sides) xs x which there)

      cells : (x : Tree) → Has (joint_cells k.sides.0.1 k.sides.1.1) x ⊎ (Has (not_cells k.sides.0.1) x ⊎ Has (not_cells k.sides.1.1) x) → IsPlaced x
      cells x (inl there) = in_list (joint_cells k.sides.0.1 k.sides.1.1) x (inr (inr (inl refl))) there
      cells x (inr (inl there)) = in_list (pair_cells k.sides.0.0 k.sides.0.1) x (inl refl) (right_not k.sides.0.0 k.sides.0.1 x there)
      cells x (inr (inr there)) = in_list (pair_cells k.sides.1.0 k.sides.1.1) x (inr (inl refl)) (right_not k.sides.1.0 k.sides.1.1 x there)

  -- the equality of a side with the images put in and itself
  twice_first : (t u put_t put_u : Term) (k : HasPutInTrees t u put_t put_u) (x : Tree) → Has (equal_cells k.sides.0.1 k.sides.0.1) x → IsPlaced x
  twice_first t u put_t put_u k x there = go there
    where
      in_list : (xs : List Tree) → Has (put_in_lists k.sides) xs → Has xs x → IsPlaced x
      in_list xs which has = by_put_in t u put_t put_u k x (has_among (put_in_lists k.sides) xs x which has)

      go : Has (equal_cells k.sides.0.1 k.sides.0.1) x → IsPlaced x
      go (inl e) = in_list (twice_cells k.sides.0.1) (inr (inr (inr (inl refl)))) (inl e)
      go (inr (inl e)) = in_list (twice_cells k.sides.0.1) (inr (inr (inr (inl refl)))) (inr (inl e))
      go (inr (inr (inl e))) = in_list (pair_cells k.sides.0.0 k.sides.0.1) (inl refl) (right_not k.sides.0.0 k.sides.0.1 x (inr (inl e)))
      go (inr (inr (inr none))) = absurd none

  twice_second : (t u put_t put_u : Term) (k : HasPutInTrees t u put_t put_u) (x : Tree) → Has (equal_cells k.sides.1.1 k.sides.1.1) x → IsPlaced x
  twice_second t u put_t put_u k x there = go there
    where
      in_list : (xs : List Tree) → Has (put_in_lists k.sides) xs → Has xs x → IsPlaced x
      in_list xs which has = by_put_in t u put_t put_u k x (has_among (put_in_lists k.sides) xs x which has)

      go : Has (equal_cells k.sides.1.1 k.sides.1.1) x → IsPlaced x
      go (inl e) = in_list (twice_cells k.sides.1.1) (inr (inr (inr (inr (inl refl))))) (inl e)
      go (inr (inl e)) = in_list (twice_cells k.sides.1.1) (inr (inr (inr (inr (inl refl))))) (inr (inl e))
      go (inr (inr (inl e))) = in_list (pair_cells k.sides.1.0 k.sides.1.1) (inr (inl refl)) (right_not k.sides.1.0 k.sides.1.1 x (inr (inl e)))
      go (inr (inr (inr none))) = absurd none

  pub side_leaf : (t u : Term) (h : IsPutIn p v t u) (tree x : Tree) → StandsFor p.symbols.now tree u → IsLeafCell tree x → IsPlaced x
  side_leaf t u h tree x stands leaf_cell = elim h.side [
    | inl equated ↦
        (let k = left_put t u h.other h equated in
        twice_first t h.other u (put_in (images h.anchors) h.other) k x (at_tree k.sides.0.1 k.t_put))
    | inr equated ↦
        (let k = right_put t u h.other h equated in
        twice_second h.other t (put_in (images h.anchors) h.other) u k x (at_tree k.sides.1.1 k.u_put))
  ]
    where
      at_tree : (own : Tree) → StandsFor p.symbols.now own u → Has (equal_cells own own) x
      at_tree own own_stands = subst (λ z. Has (equal_cells z z) x) (one_tree p.symbols.now counting.table u tree own stands own_stands) leaf_cell.there
