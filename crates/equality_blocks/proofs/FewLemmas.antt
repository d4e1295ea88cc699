-- Cited by crates above. Terms have a number of cells, an application has as many arguments at most, and so steps for a command are
-- few.
use Rattle.std.proofs.Common.{◌≡◌, ◌≢◌, ◌<◌, ◌≤◌, ◌+◌, ◌*◌, ◌⊎◌, inl, inr, ℕ, Bool, true, false, List, [], ◌∷◌, ◌++◌, length, nat_eq, Contains}
use Rattle.std.proofs.Common.{refl, sym, ◌∙◌, ap, subst, arith}
use Rattle.std.proofs.lemmas.Bool.{eqb-true, eq-eqb, true≢false}
use Rattle.std.proofs.lemmas.List.{length-append}
use Rattle.pair_pool.specs.Trees.{Tree, leaf, cell}
use Rattle.pair_pool.specs.Views.{IsOneToOne, Knows, PassView}
use Rattle.sym_table.specs.Leaf.{Leaf, operator}
use Rattle.sym_table.specs.Table.{Table}
use Rattle.term_model.proofs.Lists.{contains_cases, contains_head, contains_later, contains_none}
use Rattle.term_model.specs.Terms.{Term, numeral, variable, operation, call, let_in, Terms, no_terms, term, list_of}
use Rattle.term_pool.specs.CellCounts.{Has, AreApart, CountsCells, IsPartOfAny}
use Rattle.term_pool.specs.Reading.{arguments_of}
use Rattle.term_pool.specs.StandsFor.{StandsFor, StandsForApplication, StandsForList, function_leaf}
use Rattle.term_pool.specs.Trees.{IsCellTree, IsPartOf}
use Rattle.term_pool.specs.Views.{TermsView, IsTerm, KnowsAll, RefersTo}
use Rattle.term_pool.proofs.Keeping.{part-refl, part-trans}
use Rattle.equality_steps.specs.declared.site.Site.{Site}
use Rattle.flip_steps.specs.Subterms.{IsWithin, whole, argument}
use Rattle.equality_blocks.specs.Commands.{literals_of_command}
use Rattle.equality_blocks.specs.Counts.{IsFew, IsRootOf}

-- lists with what they have
has_left : {X : Type 0} (xs ys : List X) (x : X) → Has xs x → Has (xs ++ ys) x
has_left [] ys x h = absurd h
has_left (z ∷ xs) ys x (inl e) = inl e
has_left (z ∷ xs) ys x (inr h) = inr (has_left xs ys x h)

has_right : {X : Type 0} (xs ys : List X) (x : X) → Has ys x → Has (xs ++ ys) x
has_right [] ys x h = h
has_right (z ∷ xs) ys x h = inr (has_right xs ys x h)

has_either : {X : Type 0} (xs ys : List X) (x : X) → Has (xs ++ ys) x → Has xs x ⊎ Has ys x
has_either [] ys x h = inr h
has_either (z ∷ xs) ys x (inl e) = inl (inl e)
has_either (z ∷ xs) ys x (inr h) = elim (has_either xs ys x h) [ inl one ↦ inl (inr one) | inr other ↦ inr other ]

record IsSplitAt {X : Type 0} (xs : List X) (x : X) : Type 0 where
  before : List X
  after : List X
  is : xs ≡ before ++ x ∷ after

split_at : {X : Type 0} (xs : List X) (x : X) → Has xs x → IsSplitAt xs x
split_at [] x h = absurd h
split_at (z ∷ xs) x (inl e) = record { before = []; after = xs; is = ap (λ y. y ∷ xs) (sym e) }
split_at (z ∷ xs) x (inr h) = let k = split_at xs x h in record { before = z ∷ k.before; after = k.after; is = ap (λ ys. z ∷ ys) k.is }

-- what another list has, but for one item
other_side : {X : Type 0} (before after : List X) (x z : X) (xs : List X) → (Has xs x → ⊥) → Has xs z → Has (before ++ x ∷ after) z → Has (before ++ after) z
other_side before after x z xs apart there h = go (has_either before (x ∷ after) z h)
  where
    go : Has before z ⊎ Has (x ∷ after) z → Has (before ++ after) z
    go (inl one) = has_left before after z one
    go (inr (inl same)) = absurd (apart (subst (λ w. Has xs w) same there))
    go (inr (inr two)) = has_right before after z two

-- items that are apart, each of which another list has, are no more than its
pub apart_few : {X : Type 0} (xs ys : List X) → AreApart xs → ((x : X) → Has xs x → Has ys x) → length xs ≤ length ys
apart_few [] ys apart h = omega arith
apart_few (x ∷ xs) ys apart h =
    let k = split_at ys x (h x (inl refl)) in
    let rest = apart_few xs (k.before ++ k.after) apart.1
    (λ z there. other_side k.before k.after x z xs apart.0 there (subst (λ us. Has us z) k.is (h z (inr there)))) in
    let whole = ap length k.is in
    let one = length-append k.before (x ∷ k.after) in
    let two = length-append k.before k.after in
    omega (arith, rest, whole, one, two)

-- two trees are one or not
same_tree : (s t : Tree) → (s ≡ t) ⊎ (s ≢ t)
same_tree (leaf j) (leaf k) = go (nat_eq j k) refl
  where
    go : (b : Bool) → nat_eq j k ≡ b → (leaf j ≡ leaf k) ⊎ (leaf j ≢ leaf k)
    go true e = inl (ap leaf (eqb-true j k e))
    go false e = inr (λ same. let f : j ≡ k = cc in true≢false (sym (eq-eqb j k f) ∙ e))
same_tree (leaf j) (cell a b) = inr (λ e. cc)
same_tree (cell a b) (leaf k) = inr (λ e. cc)
same_tree (cell a b) (cell c d) = go (same_tree a c) (same_tree b d)
  where
    go : (a ≡ c) ⊎ (a ≢ c) → (b ≡ d) ⊎ (b ≢ d) → (cell a b ≡ cell c d) ⊎ (cell a b ≢ cell c d)
    go (inl e) (inl f) = inl (ap (λ x. cell x b) e ∙ ap (cell c) f)
    go (inl e) (inr n) = inr (λ same. n (cc))
    go (inr n) other = inr (λ same. n (cc))

has_or_not : (xs : List Tree) (t : Tree) → Has xs t ⊎ (Has xs t → ⊥)
has_or_not [] t = inr (λ h. h)
has_or_not (x ∷ xs) t = go (same_tree t x) (has_or_not xs t)
  where
    go : (t ≡ x) ⊎ (t ≢ x) → Has xs t ⊎ (Has xs t → ⊥) → Has (x ∷ xs) t ⊎ (Has (x ∷ xs) t → ⊥)
    go (inl e) other = inl (inl e)
    go (inr n) (inl h) = inl (inr h)
    go (inr n) (inr m) = inr (λ h. elim h [ inl e ↦ n e | inr k ↦ m k ])

-- a list without its repeats
record IsOnce (xs : List Tree) : Type 0 where
  items : List Tree
  apart : AreApart items
  fewer : (t : Tree) → Has items t → Has xs t
  all : (t : Tree) → Has xs t → Has items t

once : (xs : List Tree) → IsOnce xs
once [] = record { items = []; apart = tt; fewer = λ t h. h; all = λ t h. h }
once (x ∷ xs) = go (once xs) (has_or_not (once xs).items x)
  where
    go : (k : IsOnce xs) → Has k.items x ⊎ (Has k.items x → ⊥) → IsOnce (x ∷ xs)
    go k (inl there) = record {
      items = k.items;
      apart = k.apart;
      fewer = λ t h. inr (k.fewer t h);
      all = λ t h. elim h [ inl e ↦ subst (Has k.items) (sym e) there | inr later ↦ k.all t later ];
    }
    go k (inr new) = record {
      items = x ∷ k.items;
      apart = (new, k.apart);
      fewer = λ t h. elim h [ inl e ↦ inl e | inr later ↦ inr (k.fewer t later) ];
      all = λ t h. elim h [ inl e ↦ inl e | inr later ↦ inr (k.all t later) ];
    }

-- the cells of a tree, and of some
abbrev cells_in : Tree → List Tree
cells_in (leaf k) = []
cells_in (cell a b) = cell a b ∷ (cells_in a ++ cells_in b)

cells_sound : (t x : Tree) → Has (cells_in t) x → IsCellTree x × IsPartOf x t
cells_sound (leaf k) x h = absurd h
cells_sound (cell a b) x (inl e) = (subst IsCellTree (sym e) tt, inl e)
cells_sound (cell a b) x (inr h) = elim (has_either (cells_in a) (cells_in b) x h) [
  | inl one ↦ (let k = cells_sound a x one in (k.0, inr (inl k.1)))
  | inr other ↦ (let k = cells_sound b x other in (k.0, inr (inr k.1)))
]

cells_complete : (t x : Tree) → IsCellTree x → IsPartOf x t → Has (cells_in t) x
cells_complete (leaf k) x is part = absurd (subst IsCellTree part is)
cells_complete (cell a b) x is (inl e) = inl e
cells_complete (cell a b) x is (inr (inl h)) = inr (has_left (cells_in a) (cells_in b) x (cells_complete a x is h))
cells_complete (cell a b) x is (inr (inr h)) = inr (has_right (cells_in a) (cells_in b) x (cells_complete b x is h))

abbrev cells_among : List Tree → List Tree
cells_among [] = []
cells_among (t ∷ ts) = cells_in t ++ cells_among ts

among_sound : (ts : List Tree) (x : Tree) → Has (cells_among ts) x → IsCellTree x × IsPartOfAny x ts
among_sound [] x h = absurd h
among_sound (t ∷ ts) x h = elim (has_either (cells_in t) (cells_among ts) x h) [
  | inl one ↦ (let k = cells_sound t x one in (k.0, inl k.1))
  | inr other ↦ (let k = among_sound ts x other in (k.0, inr k.1))
]

among_complete : (ts : List Tree) (x : Tree) → IsCellTree x → IsPartOfAny x ts → Has (cells_among ts) x
among_complete [] x is h = absurd h
among_complete (t ∷ ts) x is (inl h) = has_left (cells_in t) (cells_among ts) x (cells_complete t x is h)
among_complete (t ∷ ts) x is (inr h) = has_right (cells_in t) (cells_among ts) x (among_complete ts x is h)

-- trees have a number of cells
pub record HaveCells (trees : List Tree) : Type 0 where
  pub cells : ℕ
  pub count : CountsCells trees cells

pub have_cells : (trees : List Tree) → HaveCells trees
have_cells trees =
    let k = once (cells_among trees) in
    record {
      cells = length k.items;
      count = record {
        cells = k.items;
        apart = k.apart;
        sound = λ t h. among_sound trees t (k.fewer t h);
        complete = λ t is h. k.all t (among_complete trees t is h);
        count = refl;
      };
    }

-- the cells of a list of terms: one for each
abbrev size_of : Tree → ℕ
size_of (leaf k) = 1
size_of (cell a b) = 1 + (size_of a + size_of b)

abbrev spine : Terms → Tree → List Tree
spine no_terms list = []
spine (term t ts) (leaf k) = []
spine (term t ts) (cell a b) = cell a b ∷ spine ts b

module _ (s : Table) where
  spine_long : (ts : Terms) (list : Tree) → StandsForList s list ts → length (spine ts list) ≡ length (list_of ts)
  spine_long no_terms list h = refl
  spine_long (term t ts) (leaf k) h = absurd h
  spine_long (term t ts) (cell a b) h = let rest = spine_long ts b h.1 in omega (arith, rest)

  spine_small : (ts : Terms) (list x : Tree) → Has (spine ts list) x → size_of x ≤ size_of list
  spine_small no_terms list x h = absurd h
  spine_small (term t ts) (leaf k) x h = absurd h
  spine_small (term t ts) (cell a b) x (inl e) = let same = ap size_of e in omega (arith, same)
  spine_small (term t ts) (cell a b) x (inr h) = let rest = spine_small ts b x h in omega (arith, rest)

  spine_apart : (ts : Terms) (list : Tree) → AreApart (spine ts list)
  spine_apart no_terms list = tt
  spine_apart (term t ts) (leaf k) = tt
  spine_apart (term t ts) (cell a b) = (λ h. let small = spine_small ts b (cell a b) h in absurd (omega (arith, small)), spine_apart ts b)

  spine_part : (ts : Terms) (list x : Tree) → Has (spine ts list) x → IsCellTree x × IsPartOf x list
  spine_part no_terms list x h = absurd h
  spine_part (term t ts) (leaf k) x h = absurd h
  spine_part (term t ts) (cell a b) x (inl e) = (subst IsCellTree (sym e) tt, inl e)
  spine_part (term t ts) (cell a b) x (inr h) = let k = spine_part ts b x h in (k.0, inr (inr k.1))

  few_applied : (l : Leaf) (ts : Terms) (tree : Tree) (trees : List Tree) (n : ℕ) → StandsForApplication s tree l ts → IsPartOfAny tree trees → CountsCells trees n
      → ((x : Tree) → IsPartOf x tree → IsPartOfAny x trees) → length (list_of ts) ≤ n
  few_applied l no_terms tree trees n stands part counts inside = omega arith
  few_applied l (term t ts) (leaf k) trees n stands part counts inside = absurd stands
  few_applied l (term t ts) (cell head list) trees n stands part counts inside =
      let few = apart_few (spine (term t ts) list) counts.cells (spine_apart (term t ts) list)
      (λ x h. let k = spine_part (term t ts) list x h in counts.complete x k.0 (inside x (inr (inr k.1)))) in
      let long = spine_long (term t ts) list stands.1 in
      let count = counts.count in
      omega (arith, few, long, count)

  few_arguments : (t : Term) (tree : Tree) (trees : List Tree) (n : ℕ) → StandsFor s tree t → IsPartOfAny tree trees → CountsCells trees n
      → ((x : Tree) → IsPartOf x tree → IsPartOfAny x trees) → length (arguments_of t) ≤ n
  few_arguments (numeral k) tree trees n stands part counts inside = omega arith
  few_arguments (variable x) tree trees n stands part counts inside = omega arith
  few_arguments (operation op ts) tree trees n stands part counts inside = few_applied (operator op) ts tree trees n stands part counts inside
  few_arguments (call f ts) tree trees n stands part counts inside = few_applied (function_leaf f) ts tree trees n stands part counts inside
  few_arguments (let_in bs u) tree trees n stands part counts inside = omega arith

-- the tree of what stands in a term is a part of its tree
record HasPart (s : Table) (tree : Tree) (t : Term) : Type 0 where
  part : Tree
  stands : StandsFor s part t
  is : IsPartOf part tree

module _ (s : Table) where
  list_part : (ts : Terms) (list : Tree) (a : Term) → StandsForList s list ts → Contains (list_of ts) a → HasPart s list a
  list_part no_terms list a stands there = absurd (contains_none a there)
  list_part (term t ts) (leaf k) a stands there = absurd stands
  list_part (term t ts) (cell first rest) a (here, later) there = go (λ k. list_part ts rest a later k) (contains_cases t a (list_of ts) there)
    where
      go : (Contains (list_of ts) a → HasPart s rest a) → (t ≡ a) ⊎ Contains (list_of ts) a → HasPart s (cell first rest) a
      go behind (inl e) = record { part = first; stands = subst (StandsFor s first) e here; is = inr (inl (part-refl first)) }
      go behind (inr k) = let found = behind k in record { part = found.part; stands = found.stands; is = inr (inr found.is) }

  application_part : (l : Leaf) (ts : Terms) (tree : Tree) (a : Term) → StandsForApplication s tree l ts → Contains (list_of ts) a → HasPart s tree a
  application_part l no_terms tree a stands there = absurd (contains_none a there)
  application_part l (term t ts) (leaf k) a stands there = absurd stands
  application_part l (term t ts) (cell head list) a (here, later) there =
      let found = list_part (term t ts) list a later there in
      record { part = found.part; stands = found.stands; is = inr (inr found.is) }

  argument_part : (t a : Term) (tree : Tree) → StandsFor s tree t → Contains (arguments_of t) a → HasPart s tree a
  argument_part (numeral n) a tree stands there = absurd (contains_none a there)
  argument_part (variable x) a tree stands there = absurd (contains_none a there)
  argument_part (operation op ts) a tree stands there = application_part (operator op) ts tree a stands there
  argument_part (call f ts) a tree stands there = application_part (function_leaf f) ts tree a stands there
  argument_part (let_in bs u) a tree stands there = absurd (contains_none a there)

  within_part : (t u : Term) (tree : Tree) → IsWithin t u → StandsFor s tree t → HasPart s tree u
  within_part t _ tree whole stands = record { part = tree; stands = stands; is = part-refl tree }
  within_part t _ tree (argument u a h there) stands =
      let outer = within_part t u tree h stands in
      let inner = argument_part u a outer.part outer.stands there in
      record { part = inner.part; stands = inner.stands; is = part-trans inner.part outer.part tree inner.is outer.is }

-- the trees of known references
record HasTree (pass : PassView) (trees : List Tree) (r : ℕ) : Type 0 where
  tree : Tree
  known : Knows pass r tree
  part : (t : Tree) → IsPartOf t tree → IsPartOfAny t trees

root_tree : (pass : PassView) (roots : List ℕ) (trees : List Tree) (r : ℕ) → KnowsAll pass roots trees → Contains roots r → HasTree pass trees r
root_tree pass [] trees r h there = absurd (contains_none r there)
root_tree pass (x ∷ roots) [] r h there = absurd h
root_tree pass (x ∷ roots) (tree ∷ trees) r h there = go (λ k. root_tree pass roots trees r h.1 k) (contains_cases x r roots there)
  where
    go : (Contains roots r → HasTree pass trees r) → (x ≡ r) ⊎ Contains roots r → HasTree pass (tree ∷ trees) r
    go behind (inl e) = record { tree = tree; known = subst (λ z. Knows pass z tree) e h.0; part = λ t k. inl k }
    go behind (inr k) = let found = behind k in record { tree = found.tree; known = found.known; part = λ t z. inr (found.part t z) }

-- an application that stands in one of some terms has at most as many arguments as these have cells
pub few_places : (s : Table) (v : TermsView) → IsOneToOne v.pass → (roots : List ℕ) (trees : List Tree) (n : ℕ) → KnowsAll v.pass roots trees → CountsCells trees n
    → (root : ℕ) → Contains roots root → (t u : Term) → RefersTo s v root t → IsWithin t u → length (arguments_of u) ≤ n
few_places s v one roots trees n known counts root there t u refers within =
    let here = root_tree v.pass roots trees root known there in
    let same : refers.tree ≡ here.tree = one.one_tree root refers.tree here.tree refers.known here.known in
    let part = within_part s t u refers.tree within refers.stands in
    let inside : IsPartOf part.part here.tree = subst (IsPartOf part.part) same part.is in
    few_arguments s u part.part trees n part.stands (here.part part.part inside) counts
    (λ x k. here.part x (part-trans x part.part here.tree k inside))

-- terms have trees
pub record HaveTrees (v : TermsView) (rs : List ℕ) : Type 0 where
  pub trees : List Tree
  pub known : KnowsAll v.pass rs trees

pub have_trees : (s : Table) (v : TermsView) (rs : List ℕ) → ((r : ℕ) → Contains rs r → IsTerm s v r) → HaveTrees v rs
have_trees s v [] h = record { trees = []; known = tt }
have_trees s v (r ∷ rs) h =
    let here = (h r (contains_head r rs)).refers in
    let rest = have_trees s v rs (λ q there. h q (contains_later r q rs there)) in
    record { trees = here.tree ∷ rest.trees; known = (here.known, rest.known) }

-- How many steps there are for a command, by what is remembered of terms that stand in some roots, and by an application that does.
pub record IsCounted (p : Site) (v : TermsView) (roots : List ℕ) (remembered places n : ℕ) : Type 0 where
  pub are : (r : ℕ) → Contains roots r → IsRootOf p v r
  pub terms : (r : ℕ) → Contains roots r → IsTerm p.symbols.now v r
  pub few : (trees : List Tree) (m : ℕ) → KnowsAll v.pass roots trees → CountsCells trees m → remembered ≤ m
  pub narrow : (trees : List Tree) (m : ℕ) → KnowsAll v.pass roots trees → CountsCells trees m → places ≤ m
  pub bound : n ≤ 3 * remembered + 60 * (places + length (literals_of_command p) + 1)

pub few_of : (p : Site) (v : TermsView) (roots : List ℕ) (remembered places n : ℕ) → IsCounted p v roots remembered places n → IsFew p v n
few_of p v roots remembered places n h =
    let t = have_trees p.symbols.now v roots h.terms in
    let k = have_cells t.trees in
    record {
      roots = roots;
      are = h.are;
      trees = t.trees;
      known = t.known;
      cells = k.cells;
      count = k.count;
      few =
          let few = h.few t.trees k.cells t.known k.count in
          let narrow = h.narrow t.trees k.cells t.known k.count in
          let bound = h.bound in
          omega (arith, few, narrow, bound);
    }
