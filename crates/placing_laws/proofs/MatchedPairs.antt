-- Private. The pairs of a rule of congruence and of an assume: all their cells are counted.
use Rattle.std.proofs.Common.{◌≡◌, inl, inr, ℕ, List, [], ◌∷◌, ◌++◌, flat_map, Contains, refl, sym, subst}
use Rattle.std.proofs.lemmas.List.Elements.{Contains-append_left, Contains-append_right}
use Rattle.pair_pool.specs.Trees.{Tree, cell}
use Rattle.term_model.specs.Flips.{equality}
use Rattle.term_model.specs.Terms.{Term, not_of}
use Rattle.term_model.proofs.Lists.{contains_head, contains_later}
use Rattle.term_pool.specs.CellCounts.{Has}
use Rattle.term_pool.specs.StandsFor.{StandsFor}
use Rattle.term_pool.specs.Trees.{IsCellTree, IsPartOf}
use Rattle.term_pool.specs.Views.{TermsView, RefersTo}
use Rattle.term_pool.proofs.Keeping.{part-refl, part-trans}
use Rattle.rule_model.specs.Reading.{clause_at, premises_at}
use Rattle.equality_steps.specs.declared.site.Site.{Site}
use Rattle.equality_blocks.specs.Commands.{clause_of_command, literals_of_command}
use Rattle.equality_blocks.specs.Pairs.{AreAssumed, AreAtOnePlace, AreConcluded}
use Rattle.equality_blocks.specs.Pairs.{AreImplied, AreMatched}
use Rattle.placing_laws.specs.Placed.{literal, asserted}
use Rattle.placing_laws.proofs.AtMost.{has_among, has_right}
use Rattle.placing_laws.proofs.CommandPairs.{AreArguments, AreMatchedBy, AreMatchedTrees, Ending, given_last, denied_last, equality_last}
use Rattle.placing_laws.proofs.CommandPairs.{IsCrossedCell, IsOfNamed}
use Rattle.placing_laws.proofs.CommandPairs.{FourTrees, crossed_cells, crossed_lists}
use Rattle.placing_laws.proofs.CountedCells.{IsByCell}
use Rattle.placing_laws.proofs.OwnCells.{AreOwnCells, Counting, HasPairTrees, IsPlacedCell}
use Rattle.placing_laws.proofs.OwnCells.{by_own, of_equality, own_literal, own_pair, own_part, own_term}
use Rattle.placing_laws.proofs.PairCells.{equal_cells, equal_stands, equal_tree, equal_tree_of}
use Rattle.placing_laws.proofs.PairCells.{equal_parts, pair_cells, not_tree, not_tree_of}
use Rattle.placing_laws.proofs.Places.{IsAtPlace, place_of_argument, rest_part}
use Rattle.placing_laws.proofs.StageCells.{rest_of}

module _ (p : Site) (v : TermsView) (counting : Counting p v) where
  abbrev IsPlaced : Tree → Type 0
  IsPlaced = IsPlacedCell p v counting

  abbrev AreOwn : Tree → Type 0
  AreOwn = AreOwnCells p v counting

  abbrev HasPair : Term → Term → Type 0
  HasPair = HasPairTrees p v counting

  -- literals of the clause
  clause_among : (r : ℕ) → Contains (clause_of_command p) r → Contains (literals_of_command p) r
  clause_among r there = Contains-append_left (clause_of_command p) (flat_map (clause_at p.proof.now) (premises_at p.proof.now p.command)) r there

  ends_in : (before after : List ℕ) (r : ℕ) → clause_of_command p ≡ before ++ after → Contains after r → Contains (literals_of_command p) r
  ends_in before after r e there = clause_among r (subst (λ rs. Contains rs r) (sym e) (Contains-append_right before after r there))

  -- the first asserted term and the assumed one
  pub assumed_pair : (t u : Term) → AreAssumed p v t u → HasPair t u
  assumed_pair t u h =
      let f = h.first in
      let among : Contains (literals_of_command p) f.assumed =
      clause_among f.assumed (subst (λ rs. Contains rs f.assumed) (sym f.clause) (contains_head f.assumed []))
      in
      let right = f.assumed_refers in
      own_pair p v counting t u h.refers.tree right.tree h.refers.stands right.stands
      (own_term p v counting t h.refers.tree (asserted u h) h.refers.stands)
      (own_term p v counting u right.tree (literal (record { reference = f.assumed; among = among; refers = right })) right.stands)
      (λ x there. inr (inr (inl (inr (
        (h.refers.tree, right.tree),
        record { left = t; right = u; are = h; left_stands = h.refers.stands; right_stands = right.stands },
        has_right (equal_cells h.refers.tree h.refers.tree) (pair_cells h.refers.tree right.tree) x there,
      )))))

  -- matched terms
  record HasMatchedTrees (t u : Term) : Type 0 where
    ending : Ending
    matched : AreMatchedBy p v ending t u
    left : Tree
    right : Tree
    left_stands : StandsFor p.symbols.now left t
    right_stands : StandsFor p.symbols.now right u
    left_own : AreOwn left
    right_own : AreOwn right

  implied_trees : (ending : Ending) (t u : Term) (denied given : ℕ) → AreMatchedBy p v ending t u → Contains (literals_of_command p) denied
      → Contains (literals_of_command p) given → RefersTo p.symbols.now v denied (not_of t) → RefersTo p.symbols.now v given u → HasMatchedTrees t u
  implied_trees ending t u d g matched first second left right =
      let e = not_tree_of p.symbols.now counting.table left.tree t left.stands in
      let whole : AreOwn left.tree = own_literal p v counting (not_of t) (record { reference = d; among = first; refers = left }) in
      record {
        ending = ending;
        matched = matched;
        left = e.inner;
        right = right.tree;
        left_stands = e.stands;
        right_stands = right.stands;
        left_own = own_part p v counting e.inner (not_tree e.inner) (inr (inr (inr (inl (part-refl e.inner))))) (subst AreOwn e.is whole);
        right_own = own_literal p v counting u (record { reference = g; among = second; refers = right });
      }

  given_trees : (t u : Term) (h : AreImplied p v t u) → clause_of_command p ≡ h.before ++ h.denied ∷ h.given ∷ [] → HasMatchedTrees t u
  given_trees t u h e =
      implied_trees given_last t u h.denied h.given
      (record {
        before = h.before;
        denied = h.denied;
        given = h.given;
        clause = e;
        implied = record { rule = h.rule; denied_refers = h.denied_refers; given_refers = h.given_refers };
      })
      (ends_in h.before (h.denied ∷ h.given ∷ []) h.denied e (contains_head h.denied (h.given ∷ [])))
      (ends_in h.before (h.denied ∷ h.given ∷ []) h.given e (contains_later h.denied h.given (h.given ∷ []) (contains_head h.given []))) h.denied_refers
      h.given_refers

  denied_trees : (t u : Term) (h : AreImplied p v t u) → clause_of_command p ≡ h.before ++ h.given ∷ h.denied ∷ [] → HasMatchedTrees t u
  denied_trees t u h e =
      implied_trees denied_last t u h.denied h.given
      (record {
        before = h.before;
        denied = h.denied;
        given = h.given;
        clause = e;
        implied = record { rule = h.rule; denied_refers = h.denied_refers; given_refers = h.given_refers };
      })
      (ends_in h.before (h.given ∷ h.denied ∷ []) h.denied e (contains_later h.given h.denied (h.denied ∷ []) (contains_head h.denied [])))
      (ends_in h.before (h.given ∷ h.denied ∷ []) h.given e (contains_head h.given (h.denied ∷ []))) h.denied_refers h.given_refers

  concluded_trees : (t u : Term) → AreConcluded p v t u → HasMatchedTrees t u
  concluded_trees t u h =
      let among = ends_in h.before (h.reference ∷ []) h.reference h.clause (contains_head h.reference []) in
      let e = of_equality p v counting h.reference t u h.refers.tree among (inl h.refers) h.refers.stands
      (own_literal p v counting (equality t u) (record { reference = h.reference; among = among; refers = h.refers })) in
      record {
        ending = equality_last;
        matched = h;
        left = e.left;
        right = e.right;
        left_stands = e.left_stands;
        right_stands = e.right_stands;
        left_own = e.left_own;
        right_own = e.right_own;
      }

  matched_trees : (t u : Term) → AreMatched p v t u → HasMatchedTrees t u
  matched_trees t u (inl h) = concluded_trees t u h
  matched_trees t u (inr h) = elim h.clause [ inl e ↦ given_trees t u h e | inr e ↦ denied_trees t u h e ]

  as_matched : (t u : Term) (m : HasMatchedTrees t u) → AreMatchedTrees p v m.ending (m.left, m.right)
  as_matched t u m = record { left = t; right = u; matched = m.matched; left_stands = m.left_stands; right_stands = m.right_stands }

  -- what is given and what is denied
  pub implied_pair : (t u : Term) → AreImplied p v t u → HasPair t u
  unfolding given_trees implied_trees denied_trees
  implied_pair t u h = elim h.clause [
    | inl e ↦ (let m = given_trees t u h e in of_matched m (λ x there. inr (inr (inr (inl (inl (inl ((m.left, m.right), as_matched t u m, there))))))))
    | inr e ↦ (let m = denied_trees t u h e in of_matched m (λ x there. inr (inr (inr (inl (inr (inl ((m.left, m.right), as_matched t u m, there))))))))
  ]
    where
      of_matched : (m : HasMatchedTrees t u) → ((x : Tree) → Has (pair_cells m.left m.right) x → IsPlaced x) → HasPair t u
      of_matched m both = own_pair p v counting t u m.left m.right m.left_stands m.right_stands m.left_own m.right_own both

  -- arguments of matched terms
  of_argument : (ending : Ending) (key x : Tree) → IsOfNamed (AreArguments p v ending key) x → IsByCell p v counting.table counting.one key x
  of_argument given_last key x h = inr (inl h)
  of_argument denied_last key x h = inr (inr (inl h))
  of_argument equality_last key x h = inr (inr (inr h))

  pub argument_pair : (t u x y : Term) → AreMatched p v t u → AreAtOnePlace t u x y → HasPair x y
  argument_pair t u x y h k =
      own_pair p v counting x y one_at.tree other_at.tree one_at.stands other_at.stands
      (own_part p v counting one_at.tree (cell one_at.tree one_at.rest) (inr (inl (part-refl one_at.tree))) key_own)
      (own_part p v counting other_at.tree (cell other_at.tree other_at.rest) (inr (inl (part-refl other_at.tree)))
      (own_part p v counting (cell other_at.tree other_at.rest) m.right
      (part-trans (cell other_at.tree other_at.rest) (rest_of m.right) m.right other_at.part (rest_part m.right)) m.right_own))
      (λ z there. inl (
        cell one_at.tree one_at.rest,
        key_own (cell one_at.tree one_at.rest) tt (inl refl),
        of_argument m.ending (cell one_at.tree one_at.rest) z ((one_at.tree, other_at.tree), are, there),
      ))
    where
      m : HasMatchedTrees t u
      m = matched_trees t u h

      one_at : IsAtPlace p.symbols.now (rest_of m.left) k.place x
      one_at = place_of_argument p.symbols.now t m.left k.place x m.left_stands k.left

      other_at : IsAtPlace p.symbols.now (rest_of m.right) k.place y
      other_at = place_of_argument p.symbols.now u m.right k.place y m.right_stands k.right

      key_own : AreOwn (cell one_at.tree one_at.rest)
      key_own =
          own_part p v counting (cell one_at.tree one_at.rest) m.left
          (part-trans (cell one_at.tree one_at.rest) (rest_of m.left) m.left one_at.part (rest_part m.left)) m.left_own

      are : AreArguments p v m.ending (cell one_at.tree one_at.rest) (one_at.tree, other_at.tree)
      are = record {
        wholes = (m.left, m.right);
        matched = as_matched t u m;
        place = k.place;
        rest = one_at.rest;
        other_rest = other_at.rest;
        key_is = refl;
        left_is = one_at.is;
        right_is = other_at.is;
      }

  -- matched equalities
  by_crossed : (ending : Ending) (x : Tree) → IsCrossedCell p v ending x → IsPlaced x
  by_crossed given_last x h = inr (inr (inr (inl (inl (inr h)))))
  by_crossed denied_last x h = inr (inr (inr (inl (inr (inr h)))))
  by_crossed equality_last x h = inr (inr (inr (inr h)))

  module _ (a b c d : Term) (h : AreMatched p v (equality a b) (equality c d)) where
    record HasCrossedTrees : Type 0 where
      sides : FourTrees
      a_stands : StandsFor p.symbols.now sides.0.0 a
      b_stands : StandsFor p.symbols.now sides.0.1 b
      c_stands : StandsFor p.symbols.now sides.1.0 c
      d_stands : StandsFor p.symbols.now sides.1.1 d
      left_own : AreOwn (equal_tree sides.0.0 sides.0.1)
      right_own : AreOwn (equal_tree sides.1.0 sides.1.1)
      crossed : (x : Tree) → Has (crossed_cells sides) x → IsPlaced x

    crossed_trees : HasCrossedTrees
    crossed_trees =
        let m = matched_trees (equality a b) (equality c d) h in
        let e = equal_tree_of p.symbols.now counting.table m.left a b m.left_stands in
        let f = equal_tree_of p.symbols.now counting.table m.right c d m.right_stands in
        record {
          sides = ((e.first, e.second), (f.first, f.second));
          a_stands = e.first_stands;
          b_stands = e.second_stands;
          c_stands = f.first_stands;
          d_stands = f.second_stands;
          left_own = subst AreOwn e.is m.left_own;
          right_own = subst AreOwn f.is m.right_own;
          crossed = λ x there. by_crossed m.ending x (
            ((e.first, e.second), (f.first, f.second)),
            record {
              a = a;
              b = b;
              c = c;
              d = d;
              matched = m.matched;
              a_stands = e.first_stands;
              b_stands = e.second_stands;
              c_stands = f.first_stands;
              d_stands = f.second_stands;
            },
            there,
          );
        }

    first_own : (s t : Tree) → AreOwn (equal_tree s t) → AreOwn s
    first_own s t own = own_part p v counting s (equal_tree s t) (inr (inr (inr (inl (part-refl s))))) own

    second_own : (s t : Tree) → AreOwn (equal_tree s t) → AreOwn t
    second_own s t own = own_part p v counting t (equal_tree s t) (inr (inr (inr (inr (inr (inl (part-refl t))))))) own

    pub outer_pair : HasPair a d
    outer_pair =
        let k = crossed_trees in
        own_pair p v counting a d k.sides.0.0 k.sides.1.1 k.a_stands k.d_stands (first_own k.sides.0.0 k.sides.0.1 k.left_own)
        (second_own k.sides.1.0 k.sides.1.1 k.right_own)
        (λ x there. k.crossed x (has_among (crossed_lists k.sides) (pair_cells k.sides.0.0 k.sides.1.1) x (inl refl) there))

    pub inner_pair : HasPair b c
    inner_pair =
        let k = crossed_trees in
        own_pair p v counting b c k.sides.0.1 k.sides.1.0 k.b_stands k.c_stands (second_own k.sides.0.0 k.sides.0.1 k.left_own)
        (first_own k.sides.1.0 k.sides.1.1 k.right_own)
        (λ x there. k.crossed x (has_among (crossed_lists k.sides) (pair_cells k.sides.0.1 k.sides.1.0) x (inr (inl refl)) there))

    -- the first equality turned round
    turned_cells : (k : HasCrossedTrees) (x : Tree) → IsCellTree x → IsPartOf x (equal_tree k.sides.0.1 k.sides.0.0) → IsPlaced x
    turned_cells k x is inside = elim (equal_parts k.sides.0.1 k.sides.0.0 x is inside) [
      | inl below ↦ elim below [
        | inl one_side ↦ by_own p v counting x (second_own k.sides.0.0 k.sides.0.1 k.left_own x is one_side)
        | inr other ↦ by_own p v counting x (first_own k.sides.0.0 k.sides.0.1 k.left_own x is other)
      ]
      | inr new ↦ k.crossed x (has_among (crossed_lists k.sides) (equal_cells k.sides.0.1 k.sides.0.0) x (inr (inr (inr (inr (inl refl))))) new)
    ]

    pub reversed_pair : HasPair (equality a b) (equality b a)
    reversed_pair =
        let k = crossed_trees in
        record {
          left = equal_tree k.sides.0.0 k.sides.0.1;
          right = equal_tree k.sides.0.1 k.sides.0.0;
          left_stands = equal_stands p.symbols.now counting.table a b k.sides.0.0 k.sides.0.1 k.a_stands k.b_stands;
          right_stands = equal_stands p.symbols.now counting.table b a k.sides.0.1 k.sides.0.0 k.b_stands k.a_stands;
          left_cells = λ x is inside. by_own p v counting x (k.left_own x is inside);
          right_cells = turned_cells k;
          both = λ x there. k.crossed x
              (has_among (crossed_lists k.sides) (pair_cells (equal_tree k.sides.0.0 k.sides.0.1) (equal_tree k.sides.0.1 k.sides.0.0)) x
              (inr (inr (inl refl))) there);
        }

    pub turned_pair : HasPair (equality b a) (equality c d)
    turned_pair =
        let k = crossed_trees in
        record {
          left = equal_tree k.sides.0.1 k.sides.0.0;
          right = equal_tree k.sides.1.0 k.sides.1.1;
          left_stands = equal_stands p.symbols.now counting.table b a k.sides.0.1 k.sides.0.0 k.b_stands k.a_stands;
          right_stands = equal_stands p.symbols.now counting.table c d k.sides.1.0 k.sides.1.1 k.c_stands k.d_stands;
          left_cells = turned_cells k;
          right_cells = λ x is inside. by_own p v counting x (k.right_own x is inside);
          both = λ x there. k.crossed x
              (has_among (crossed_lists k.sides) (pair_cells (equal_tree k.sides.0.1 k.sides.0.0) (equal_tree k.sides.1.0 k.sides.1.1)) x
              (inr (inr (inr (inl refl)))) there);
        }
