-- Private. What names a pair of terms of a command: a literal, its rule and its last literals, or a cell of a list of arguments. Each names
-- one pair of trees, and so few cells are made for it.
use Rattle.std.proofs.Common.{◌≡◌, ◌⊎◌, inl, inr, ℕ, List, [], ◌∷◌, ◌++◌, Contains, refl, sym, ◌∙◌, ap, subst, arith}
use Rattle.pair_pool.specs.Trees.{Tree, leaf, cell}
use Rattle.pair_pool.specs.Views.{IsOneToOne, Knows}
use Rattle.term_model.specs.Flips.{EqualUpToFlips, equality}
use Rattle.term_model.specs.Terms.{Var, Term, not_of}
use Rattle.term_model.proofs.Lists.{contains_head, contains_later}
use Rattle.term_pool.specs.CellCounts.{Has}
use Rattle.term_pool.specs.StandsFor.{StandsFor, nil_tree}
use Rattle.term_pool.specs.Views.{TermsView, RefersTo}
use Rattle.term_pool.proofs.OneTerm.{one_term}
use Rattle.placing_laws.proofs.OneTrees.{IsTreeTable, one_tree}
use Rattle.term_pool.proofs.TermLemmas.{equal_where}
use Rattle.elaboration_laws.specs.StrictBlocks.{AnchorsStand}
use Rattle.elaboration_laws.proofs.Ones.{one_anchors}
use Rattle.elaborator.specs.Sources.{own_anchors}
use Rattle.equality_steps.specs.declared.site.Site.{Site}
use Rattle.rule_model.specs.declared.rules.Rule.{Rule}
use Rattle.rule_model.specs.Contexts.{images}
use Rattle.rule_model.specs.Substitution.{put_in}
use Rattle.equality_blocks.specs.Commands.{clause_of_command, rule_of_command}
use Rattle.equality_blocks.specs.Pairs.{AreAssumed, AreConcluded, IsOther}
use Rattle.placing_laws.specs.Counts.{AtMost}
use Rattle.placing_laws.proofs.AtMost.{all_of, of_either, of_one, of_only_one}
use Rattle.placing_laws.proofs.PairCells.{equal_cells, equal_tree, equal_tree_of, joint_cells, not_tree, not_tree_of, pair_cells}
use Rattle.placing_laws.proofs.Places.{last_and_two, list_behind, one_last, one_last_two, one_place}
use Rattle.placing_laws.proofs.StageCells.{rest_of}

abbrev pub TwoTrees : Type 0
TwoTrees = Tree × Tree

same_two : (x y : TwoTrees) → x.0 ≡ y.0 → x.1 ≡ y.1 → x ≡ y
same_two (a, b) (c, d) e f = ap (λ z. (z, b)) e ∙ ap (λ z. (c, z)) f

abbrev pub FourTrees : Type 0
FourTrees = TwoTrees × TwoTrees

same_four : (x y : FourTrees) → x.0 ≡ y.0 → x.1 ≡ y.1 → x ≡ y
same_four (a, b) (c, d) e f = ap (λ z. (z, b)) e ∙ ap (λ z. (c, z)) f

abbrev cells_of_two : TwoTrees → List Tree
cells_of_two pair = pair_cells pair.0 pair.1

-- a cell that is made for the pair that something names
abbrev pub IsOfNamed : (TwoTrees → Type 0) → Tree → Type 0
IsOfNamed Names x = (pair : TwoTrees) × Names pair × Has (cells_of_two pair) x

pub few_of_named : (Names : TwoTrees → Type 0) → ((x y : TwoTrees) → Names x → Names y → x ≡ y) → AtMost 16 (IsOfNamed Names)
few_of_named Names one = of_one Names cells_of_two 16 one (λ pair. omega arith)

-- of the sides of a refl, each before what it is with the images put in: the pairs of these, the pair of what they are with them, and
-- of this each one's equality to itself
abbrev pub twice_cells : Tree → List Tree
twice_cells a = equal_tree a a ∷ cell a (cell a nil_tree) ∷ []

abbrev pub put_in_lists : FourTrees → List (List Tree)
put_in_lists sides =
    pair_cells sides.0.0 sides.0.1 ∷ pair_cells sides.1.0 sides.1.1 ∷ joint_cells sides.0.1 sides.1.1 ∷ twice_cells sides.0.1 ∷ twice_cells sides.1.1 ∷ []

abbrev pub put_in_cells : FourTrees → List Tree
put_in_cells sides = all_of (put_in_lists sides)

-- of a pair of equalities: the sides crosswise, the first one and the same turned round, and this and the second one
abbrev pub crossed_lists : FourTrees → List (List Tree)
crossed_lists sides =
    pair_cells sides.0.0 sides.1.1 ∷ pair_cells sides.0.1 sides.1.0
    ∷ pair_cells (equal_tree sides.0.0 sides.0.1) (equal_tree sides.0.1 sides.0.0)
    ∷ pair_cells (equal_tree sides.0.1 sides.0.0) (equal_tree sides.1.0 sides.1.1) ∷ equal_cells sides.0.1 sides.0.0 ∷ []

abbrev pub crossed_cells : FourTrees → List Tree
crossed_cells sides = all_of (crossed_lists sides)

-- of an assumed term and the first one asserted
abbrev pub assumed_cells : TwoTrees → List Tree
assumed_cells pair = equal_cells pair.0 pair.0 ++ pair_cells pair.0 pair.1

-- how a clause of a rule of congruence matches two terms: it ends in what is given, in what is denied, or in their equality
pub data Ending : Type 0 where
  given_last : Ending
  denied_last : Ending
  equality_last : Ending

module _ (p : Site) (v : TermsView) where
  -- the literal equates the two terms, or denies that they are equal
  abbrev pub Equates : ℕ → Term → Term → Type 0
  Equates r t u = RefersTo p.symbols.now v r (equality t u) ⊎ RefersTo p.symbols.now v r (not_of (equality t u))

  pub record AreImpliedBy (before : List ℕ) (denied given : ℕ) (t u : Term) : Type 0 where
    pub rule : rule_of_command p ≡ Rule.EqCongruentPred
    pub denied_refers : RefersTo p.symbols.now v denied (not_of t)
    pub given_refers : RefersTo p.symbols.now v given u

  pub record AreGivenLast (t u : Term) : Type 0 where
    pub before : List ℕ
    pub denied : ℕ
    pub given : ℕ
    pub clause : clause_of_command p ≡ before ++ denied ∷ given ∷ []
    pub implied : AreImpliedBy before denied given t u

  pub record AreDeniedLast (t u : Term) : Type 0 where
    pub before : List ℕ
    pub denied : ℕ
    pub given : ℕ
    pub clause : clause_of_command p ≡ before ++ given ∷ denied ∷ []
    pub implied : AreImpliedBy before denied given t u

  abbrev pub AreMatchedBy : Ending → Term → Term → Type 0
  AreMatchedBy given_last t u = AreGivenLast t u
  AreMatchedBy denied_last t u = AreDeniedLast t u
  AreMatchedBy equality_last t u = AreConcluded p v t u

  -- the trees of the two
  pub record AreEquatedTrees (r : ℕ) (pair : TwoTrees) : Type 0 where
    pub left : Term
    pub right : Term
    pub equates : Equates r left right
    pub left_stands : StandsFor p.symbols.now pair.0 left
    pub right_stands : StandsFor p.symbols.now pair.1 right

  pub record AreMatchedTrees (ending : Ending) (pair : TwoTrees) : Type 0 where
    pub left : Term
    pub right : Term
    pub matched : AreMatchedBy ending left right
    pub left_stands : StandsFor p.symbols.now pair.0 left
    pub right_stands : StandsFor p.symbols.now pair.1 right

  pub record AreAssumedTrees (pair : TwoTrees) : Type 0 where
    pub left : Term
    pub right : Term
    pub are : AreAssumed p v left right
    pub left_stands : StandsFor p.symbols.now pair.0 left
    pub right_stands : StandsFor p.symbols.now pair.1 right

  -- matched equalities, with their sides
  pub record AreCrossed (ending : Ending) (sides : FourTrees) : Type 0 where
    pub a : Term
    pub b : Term
    pub c : Term
    pub d : Term
    pub matched : AreMatchedBy ending (equality a b) (equality c d)
    pub a_stands : StandsFor p.symbols.now sides.0.0 a
    pub b_stands : StandsFor p.symbols.now sides.0.1 b
    pub c_stands : StandsFor p.symbols.now sides.1.0 c
    pub d_stands : StandsFor p.symbols.now sides.1.1 d

  -- the sides of a refl, each with what it is with the images put in
  pub record ArePutIn (r : ℕ) (sides : FourTrees) : Type 0 where
    pub rule : rule_of_command p ≡ Rule.Refl
    pub left : Term
    pub right : Term
    pub equates : Equates r left right
    pub anchors : List (List (Var × Term))
    pub anchors_stand : AnchorsStand p.symbols.now v (own_anchors p.proof.now p.command) anchors
    pub left_stands : StandsFor p.symbols.now sides.0.0 left
    pub left_put : StandsFor p.symbols.now sides.0.1 (put_in (images anchors) left)
    pub right_stands : StandsFor p.symbols.now sides.1.0 right
    pub right_put : StandsFor p.symbols.now sides.1.1 (put_in (images anchors) right)

  -- arguments of matched terms at one place, of which the first one is the first item of a cell
  pub record AreArguments (ending : Ending) (key : Tree) (pair : TwoTrees) : Type 0 where
    pub wholes : TwoTrees
    pub matched : AreMatchedTrees ending wholes
    pub place : ℕ
    pub rest : Tree
    pub other_rest : Tree
    pub key_is : key ≡ cell pair.0 rest
    pub left_is : list_behind place (rest_of wholes.0) ≡ cell pair.0 rest
    pub right_is : list_behind place (rest_of wholes.1) ≡ cell pair.1 other_rest

  -- the literal is a leaf
  pub record IsLeafLiteral (r : ℕ) (tree : Tree) : Type 0 where
    pub number : ℕ
    pub is : tree ≡ leaf number
    pub known : Knows v.pass r tree

  -- the cells that they name
  abbrev pub IsLiteralCell : ℕ → Tree → Type 0
  IsLiteralCell r x = IsOfNamed (AreEquatedTrees r) x ⊎ ((tree : Tree) × IsLeafLiteral r tree × Has (equal_cells tree tree) x)

  abbrev pub IsPutInCell : ℕ → Tree → Type 0
  IsPutInCell r x = (sides : FourTrees) × ArePutIn r sides × Has (put_in_cells sides) x

  abbrev pub IsAssumedCell : Tree → Type 0
  IsAssumedCell x = (pair : TwoTrees) × AreAssumedTrees pair × Has (assumed_cells pair) x

  abbrev pub IsCrossedCell : Ending → Tree → Type 0
  IsCrossedCell ending x = (sides : FourTrees) × AreCrossed ending sides × Has (crossed_cells sides) x

  abbrev pub IsArgumentCell : Tree → Tree → Type 0
  IsArgumentCell key x =
      IsOfNamed (AreArguments given_last key) x ⊎ (IsOfNamed (AreArguments denied_last key) x ⊎ IsOfNamed (AreArguments equality_last key) x)

  module _ (table : IsTreeTable p.symbols.now) (one : IsOneToOne v.pass) where
    pub one_referred : (r q : ℕ) (t u : Term) → r ≡ q → RefersTo p.symbols.now v r t → RefersTo p.symbols.now v q u → t ≡ u
    one_referred r q t u e h k = (equal_where p.symbols.now v table.table one r q t u h k).0 e

    one_tree_of : (x y : Tree) (t u : Term) → t ≡ u → StandsFor p.symbols.now x t → StandsFor p.symbols.now y u → x ≡ y
    one_tree_of x y t u e h k = one_tree p.symbols.now table u x y (subst (StandsFor p.symbols.now x) e h) k

    -- one pair is equated, and one matched in each way
    one_equated : (r : ℕ) (t u x y : Term) → Equates r t u → Equates r x y → (t ≡ x) × (u ≡ y)
    one_equated r t u x y (inl h) (inl k) = let e = one_referred r r (equality t u) (equality x y) refl h k in (cc, cc)
    one_equated r t u x y (inr h) (inr k) = let e = one_referred r r (not_of (equality t u)) (not_of (equality x y)) refl h k in (cc, cc)
    one_equated r t u x y (inl h) (inr k) = let e = one_referred r r (equality t u) (not_of (equality x y)) refl h k in absurd (cc)
    one_equated r t u x y (inr h) (inl k) = let e = one_referred r r (not_of (equality t u)) (equality x y) refl h k in absurd (cc)

    one_equated_trees : (r : ℕ) (x y : TwoTrees) → AreEquatedTrees r x → AreEquatedTrees r y → x ≡ y
    one_equated_trees r x y h k =
        let e = one_equated r h.left h.right k.left k.right h.equates k.equates in
        same_two x y (one_tree_of x.0 y.0 h.left k.left e.0 h.left_stands k.left_stands) (one_tree_of x.1 y.1 h.right k.right e.1 h.right_stands k.right_stands)

    one_denied : (d f : ℕ) (t x : Term) → d ≡ f → RefersTo p.symbols.now v d (not_of t) → RefersTo p.symbols.now v f (not_of x) → t ≡ x
    one_denied d f t x same h k = let e = one_referred d f (not_of t) (not_of x) same h k in cc

    one_matched : (ending : Ending) (t u x y : Term) → AreMatchedBy ending t u → AreMatchedBy ending x y → (t ≡ x) × (u ≡ y)
    one_matched given_last t u x y h k =
        let e = one_last_two h.before k.before h.denied h.given k.denied k.given (sym h.clause ∙ k.clause) in (
          one_denied h.denied k.denied t x e.0 h.implied.denied_refers k.implied.denied_refers,
          one_referred h.given k.given u y e.1 h.implied.given_refers k.implied.given_refers,
        )
    one_matched denied_last t u x y h k =
        let e = one_last_two h.before k.before h.given h.denied k.given k.denied (sym h.clause ∙ k.clause) in (
          one_denied h.denied k.denied t x e.1 h.implied.denied_refers k.implied.denied_refers,
          one_referred h.given k.given u y e.0 h.implied.given_refers k.implied.given_refers,
        )
    one_matched equality_last t u x y h k =
        let same = one_last h.before k.before h.reference k.reference (sym h.clause ∙ k.clause) in
        let e = one_referred h.reference k.reference (equality t u) (equality x y) same h.refers k.refers in
        (cc, cc)

    one_matched_trees : (ending : Ending) (x y : TwoTrees) → AreMatchedTrees ending x → AreMatchedTrees ending y → x ≡ y
    one_matched_trees ending x y h k =
        let e = one_matched ending h.left h.right k.left k.right h.matched k.matched in
        same_two x y (one_tree_of x.0 y.0 h.left k.left e.0 h.left_stands k.left_stands) (one_tree_of x.1 y.1 h.right k.right e.1 h.right_stands k.right_stands)

    one_crossed : (ending : Ending) (x y : FourTrees) → AreCrossed ending x → AreCrossed ending y → x ≡ y
    one_crossed ending x y h k =
        let e = one_matched ending (equality h.a h.b) (equality h.c h.d) (equality k.a k.b) (equality k.c k.d) h.matched k.matched in
        let first = e.0 in
        let second = e.1 in
        let a : h.a ≡ k.a = cc in
        let b : h.b ≡ k.b = cc in
        let c : h.c ≡ k.c = cc in
        let d : h.d ≡ k.d = cc in
        same_four x y
        (same_two x.0 y.0 (one_tree_of x.0.0 y.0.0 h.a k.a a h.a_stands k.a_stands) (one_tree_of x.0.1 y.0.1 h.b k.b b h.b_stands k.b_stands))
        (same_two x.1 y.1 (one_tree_of x.1.0 y.1.0 h.c k.c c h.c_stands k.c_stands) (one_tree_of x.1.1 y.1.1 h.d k.d d h.d_stands k.d_stands))

    one_put_in : (r : ℕ) (x y : FourTrees) → ArePutIn r x → ArePutIn r y → x ≡ y
    one_put_in r x y h k =
        let e = one_equated r h.left h.right k.left k.right h.equates k.equates in
        let anchors : h.anchors ≡ k.anchors =
        one_anchors p.symbols.now v one (one_term p.symbols.now table.table) (own_anchors p.proof.now p.command) h.anchors k.anchors
        h.anchors_stand k.anchors_stand
        in
        let put = λ (t u : Term) (same : t ≡ u). ap (λ z. put_in (images z) t) anchors ∙ ap (put_in (images k.anchors)) same in
        same_four x y
        (same_two x.0 y.0 (one_tree_of x.0.0 y.0.0 h.left k.left e.0 h.left_stands k.left_stands)
        (one_tree_of x.0.1 y.0.1 (put_in (images h.anchors) h.left) (put_in (images k.anchors) k.left) (put h.left k.left e.0) h.left_put k.left_put))
        (same_two x.1 y.1 (one_tree_of x.1.0 y.1.0 h.right k.right e.1 h.right_stands k.right_stands)
        (one_tree_of x.1.1 y.1.1 (put_in (images h.anchors) h.right) (put_in (images k.anchors) k.right) (put h.right k.right e.1) h.right_put k.right_put))

    one_arguments : (ending : Ending) (key : Tree) (x y : TwoTrees) → AreArguments ending key x → AreArguments ending key y → x ≡ y
    one_arguments ending key x y h k =
        let wholes = one_matched_trees ending h.wholes k.wholes h.matched k.matched in
        let cells : cell x.0 h.rest ≡ cell y.0 k.rest = sym h.key_is ∙ k.key_is in
        let first : x.0 ≡ y.0 = cc in
        let left : list_behind h.place (rest_of k.wholes.0) ≡ cell y.0 k.rest =
        subst (λ (z : TwoTrees). list_behind h.place (rest_of z.0) ≡ cell y.0 k.rest) wholes (h.left_is ∙ cells)
        in
        let place : h.place ≡ k.place = one_place h.place k.place (rest_of k.wholes.0) y.0 k.rest left k.left_is in
        let right : list_behind k.place (rest_of k.wholes.1) ≡ cell x.1 h.other_rest =
        subst (λ n. list_behind n (rest_of k.wholes.1) ≡ cell x.1 h.other_rest) place
        (subst (λ (z : TwoTrees). list_behind h.place (rest_of z.1) ≡ cell x.1 h.other_rest) wholes h.right_is)
        in
        let others : cell x.1 h.other_rest ≡ cell y.1 k.other_rest = sym right ∙ k.right_is in
        let second : x.1 ≡ y.1 = cc in
        same_two x y first second

    -- one assertion is the first that is equal up to flips
    one_first : (u : Term) (before after more later : List ℕ) (r q : ℕ) (t x : Term) → before ++ r ∷ after ≡ more ++ q ∷ later
        → ((n : ℕ) → Contains before n → IsOther p v u n) → ((n : ℕ) → Contains more n → IsOther p v u n) → RefersTo p.symbols.now v r t → EqualUpToFlips t u
        → RefersTo p.symbols.now v q x → EqualUpToFlips x u → r ≡ q
    one_first u [] after [] later r q t x e first second rt et rx ex = cc
    one_first u [] after (n ∷ more) later r q t x e first second rt et rx ex =
        let same : r ≡ n = cc in
        let other = second n (contains_head n more) in
        let terms = one_referred n r other.term t (sym same) other.refers rt in
        absurd (other.differs (subst (λ z. EqualUpToFlips z u) (sym terms) et))
    one_first u (n ∷ before) after [] later r q t x e first second rt et rx ex =
        let same : n ≡ q = cc in
        let other = first n (contains_head n before) in
        let terms = one_referred n q other.term x same other.refers rx in
        absurd (other.differs (subst (λ z. EqualUpToFlips z u) (sym terms) ex))
    one_first u (n ∷ before) after (m ∷ more) later r q t x e first second rt et rx ex =
        let rest : before ++ r ∷ after ≡ more ++ q ∷ later = cc in
        one_first u before after more later r q t x rest (λ k there. first k (contains_later n k before there))
        (λ k there. second k (contains_later m k more there))
        rt et rx ex

    one_assumed_trees : (x y : TwoTrees) → AreAssumedTrees x → AreAssumedTrees y → x ≡ y
    one_assumed_trees x y h k =
        let f = h.are.first in
        let g = k.are.first in
        let clauses : f.assumed ∷ [] ≡ g.assumed ∷ [] = sym f.clause ∙ g.clause in
        let assumed : f.assumed ≡ g.assumed = cc in
        let right : h.right ≡ k.right = one_referred f.assumed g.assumed h.right k.right assumed f.assumed_refers g.assumed_refers in
        let others = subst (λ z. (n : ℕ) → Contains f.before n → IsOther p v z n) right f.others in
        let first : h.are.reference ≡ k.are.reference =
        one_first k.right f.before f.after g.before g.after h.are.reference k.are.reference f.term g.term (sym f.asserted ∙ g.asserted) others g.others f.refers
        (subst (EqualUpToFlips f.term) right f.equal) g.refers g.equal
        in
        let left : h.left ≡ k.left = one_referred h.are.reference k.are.reference h.left k.left first h.are.refers k.are.refers in
        same_two x y (one_tree_of x.0 y.0 h.left k.left left h.left_stands k.left_stands)
        (one_tree_of x.1 y.1 h.right k.right right h.right_stands k.right_stands)

    one_leaf : (r : ℕ) (x y : Tree) → IsLeafLiteral r x → IsLeafLiteral r y → x ≡ y
    one_leaf r x y h k = one.one_tree r x y h.known k.known

    -- a literal that equates is no leaf
    no_leaf : (r k : ℕ) (t u : Term) → Equates r t u → Knows v.pass r (leaf k) → ⊥
    no_leaf r k t u (inl h) known =
        let e = equal_tree_of p.symbols.now table h.tree t u h.stands in
        let same : leaf k ≡ equal_tree e.first e.second = one.one_tree r (leaf k) h.tree known h.known ∙ e.is in
        absurd (cc)
    no_leaf r k t u (inr h) known =
        let e = not_tree_of p.symbols.now table h.tree (equality t u) h.stands in
        let same : leaf k ≡ not_tree e.inner = one.one_tree r (leaf k) h.tree known h.known ∙ e.is in
        absurd (cc)

    -- how many cells each names
    pub few_literal_cells : (r : ℕ) → AtMost 16 (IsLiteralCell r)
    few_literal_cells r =
        of_only_one (IsOfNamed (AreEquatedTrees r)) (λ x. (tree : Tree) × IsLeafLiteral r tree × Has (equal_cells tree tree) x) 16
        (λ x z h k. no_leaf r k.1.number h.1.left h.1.right h.1.equates (subst (Knows v.pass r) k.1.is k.1.known))
        (few_of_named (AreEquatedTrees r) (one_equated_trees r))
        (of_one (IsLeafLiteral r) (λ tree. equal_cells tree tree) 16 (one_leaf r) (λ tree. omega arith))

    pub few_put_in_cells : (r : ℕ) → AtMost 48 (IsPutInCell r)
    few_put_in_cells r = of_one (ArePutIn r) put_in_cells 48 (one_put_in r) (λ sides. omega arith)

    pub few_assumed_cells : AtMost 19 IsAssumedCell
    few_assumed_cells = of_one AreAssumedTrees assumed_cells 19 one_assumed_trees (λ pair. omega arith)

    pub few_crossed_cells : (ending : Ending) → AtMost 67 (IsCrossedCell ending)
    few_crossed_cells ending = of_one (AreCrossed ending) crossed_cells 67 (one_crossed ending) (λ sides. omega arith)

    pub few_implied_cells : (ending : Ending) → AtMost 16 (IsOfNamed (AreMatchedTrees ending))
    few_implied_cells ending = few_of_named (AreMatchedTrees ending) (one_matched_trees ending)

    -- a clause does not end in what is denied and in an equality
    pub denied_or_equal : (t u x y : Term) → AreDeniedLast t u → AreConcluded p v x y → ⊥
    denied_or_equal t u x y h k =
        let same = last_and_two h.before k.before h.given h.denied k.reference (sym h.clause ∙ k.clause) in
        let e = one_referred h.denied k.reference (not_of t) (equality x y) same h.implied.denied_refers k.refers in
        absurd (cc)

    pub denied_or_given : (t u x a b : Term) → AreDeniedLast t u → AreGivenLast x (equality a b) → ⊥
    denied_or_given t u x a b h k =
        let same = one_last_two h.before k.before h.given h.denied k.denied k.given (sym h.clause ∙ k.clause) in
        let e = one_referred h.denied k.given (not_of t) (equality a b) same.1 h.implied.denied_refers k.implied.given_refers in
        absurd (cc)

    pub few_argument_cells : (key : Tree) → AtMost 32 (IsArgumentCell key)
    few_argument_cells key =
        of_either (IsOfNamed (AreArguments given_last key)) (λ x. IsOfNamed (AreArguments denied_last key) x ⊎ IsOfNamed (AreArguments equality_last key) x)
        16 16
        (few_of_named (AreArguments given_last key) (one_arguments given_last key))
        (of_only_one (IsOfNamed (AreArguments denied_last key)) (IsOfNamed (AreArguments equality_last key)) 16
        (λ x z h k. denied_or_equal h.1.matched.left h.1.matched.right k.1.matched.left k.1.matched.right h.1.matched.matched k.1.matched.matched)
        (few_of_named (AreArguments denied_last key) (one_arguments denied_last key))
        (few_of_named (AreArguments equality_last key) (one_arguments equality_last key)))
