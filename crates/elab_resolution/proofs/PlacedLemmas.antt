-- Private. At most as many cells are placed as there are trees among which theirs are.
use Rattle.std.proofs.Common.{◌≡◌, ◌⊎◌, ◌≤◌, inl, inr, ℕ, suc, List, [], ◌∷◌, length, refl, sym, ◌∙◌, subst, arith}
use Rattle.pair_pool.specs.Trees.{Tree, leaf, cell}
use Rattle.pair_pool.specs.Views.{PassView, Grows, HasCell, HasListsInOrder, IsOneToOne, IsPlaced, Knows}
use Rattle.sym_table.specs.Table.{Table}
use Rattle.term_model.specs.Terms.{Term}
use Rattle.term_pool.specs.CellCounts.{Has, AreApart}
use Rattle.term_pool.specs.Placing.{IsWantedCell, PlacesCellsOf}
use Rattle.term_pool.specs.StandsFor.{StandsFor}
use Rattle.term_pool.specs.Trees.{IsCellTree, IsPartOf}
use Rattle.elab_resolution.specs.Placed.{IsNewlyPlaced, PlacesAtMost}

-- a list without one of its items
record Without {Y : Type 0} (ys : List Y) (y : Y) : Type 0 where
  others : List Y
  count : length ys ≡ suc (length others)
  each : (z : Y) → Has ys z → (z ≡ y) ⊎ Has others z

without_later : {Y : Type 0} (first : Y) (ys : List Y) (y : Y) → Without ys y → Without (first ∷ ys) y
without_later {Y} first ys y rest = record { others = first ∷ rest.others; count = omega (arith, rest.count); each = each }
  where
    behind : (z : Y) → (z ≡ y) ⊎ Has rest.others z → (z ≡ y) ⊎ Has (first ∷ rest.others) z
    behind z (inl same) = inl same
    behind z (inr there) = inr (inr there)

    each : (z : Y) → Has (first ∷ ys) z → (z ≡ y) ⊎ Has (first ∷ rest.others) z
    each z (inl same) = inr (inl same)
    each z (inr there) = behind z (rest.each z there)

without : {Y : Type 0} (ys : List Y) (y : Y) → Has ys y → Without ys y
without [] y there = absurd there
without (first ∷ ys) y (inl same) = record {
  others = ys;
  count = omega arith;
  each = λ z there. elim there [ inl here ↦ inl (here ∙ sym same) | inr later ↦ inr later ];
}
without (first ∷ ys) y (inr there) = without_later first ys y (without ys y there)

-- an item of the one list has an item of the other that is its own
abbrev HasOwn : {X Y : Type 0} → (X → Y → Type 0) → List X → List Y → Type 0
HasOwn {X} {Y} R xs ys = (x : X) → Has xs x → (y : Y) × Has ys y × R x y

own_others : {X Y : Type 0} (R : X → Y → Type 0) → ((x z : X) (y : Y) → R x y → R z y → x ≡ z) → (x : X) (xs : List X) (ys : List Y)
    → (Has xs x → ⊥) → HasOwn R (x ∷ xs) ys → (y : Y) → R x y → (rest : Without ys y) → HasOwn R xs rest.others
own_others {X} {Y} R one x xs ys other own y mine rest z there =
    let found = own z (inr there) in among found.0 found.2 (rest.each found.0 found.1)
  where
    among : (w : Y) → R z w → (w ≡ y) ⊎ Has rest.others w → (w : Y) × Has rest.others w × R z w
    among w is (inl same) = absurd (other (subst (Has xs) (one z x y (subst (R z) same is) mine) there))
    among w is (inr later) = (w, later, is)

-- Different items, each of which has one of a list that is its own, are no more than the list has.
pub no_more : {X Y : Type 0} (R : X → Y → Type 0) → ((x z : X) (y : Y) → R x y → R z y → x ≡ z) → (xs : List X) (ys : List Y) → AreApart xs
    → HasOwn R xs ys → length xs ≤ length ys
no_more R one [] ys apart own = omega arith
no_more R one (x ∷ xs) ys apart own =
    let mine = own x (inl refl) in
    let rest = without ys mine.0 mine.1 in
    let less = no_more R one xs rest.others apart.1 (own_others R one x xs ys apart.0 own mine.0 mine.2 rest) in
    omega (arith, less, rest.count)

-- the pass knows a reference of the tree
pub record HasReference (pass : PassView) (tree : Tree) : Type 0 where
  pub reference : ℕ
  pub known : Knows pass reference tree

-- each cell of a term that is wanted is known to the pass, or is one of these trees
abbrev pub AreKnownOrAmong : Table → PassView → (Term → Type 0) → List Tree → Type 0
AreKnownOrAmong s pass IsWanted trees =
    (t : Term) (tree part : Tree) → IsWanted t → StandsFor s tree t → IsCellTree part → IsPartOf part tree → HasReference pass part ⊎ Has trees part

-- a cell by its parts
record HasParts (pass : PassView) (r : ℕ) (s t : Tree) : Type 0 where
  first : ℕ
  second : ℕ
  cell_is : HasCell pass r first second
  first_known : Knows pass first s
  second_known : Knows pass second t

parts_of : (pass : PassView) (r : ℕ) (s t : Tree) → Knows pass r (cell s t) → HasParts pass r s t
unfolding Knows
parts_of pass r s t (a, b, h, k, l) = record { first = a; second = b; cell_is = h; first_known = k; second_known = l }

of_parts : (pass : PassView) (r a b : ℕ) (s t : Tree) → HasCell pass r a b → Knows pass a s → Knows pass b t → Knows pass r (cell s t)
unfolding Knows
of_parts pass r a b s t h k l = (a, b, h, k, l)

-- a part of a known tree is known
pub part_known : (pass : PassView) (tree part : Tree) (r : ℕ) → Knows pass r tree → IsPartOf part tree → HasReference pass part
part_known pass (leaf k) part r known is = record { reference = r; known = subst (Knows pass r) (sym is) known }
part_known pass (cell s t) part r known (inl is) = record { reference = r; known = subst (Knows pass r) (sym is) known }
part_known pass (cell s t) part r known (inr (inl is)) = let h = parts_of pass r s t known in part_known pass s part h.first h.first_known is
part_known pass (cell s t) part r known (inr (inr is)) = let h = parts_of pass r s t known in part_known pass t part h.second h.second_known is

module _ (old new : PassView) (grows : Grows old new) (one : IsOneToOne new) where
  -- a cell whose tree the old pass knew it knew as such
  was_known : (r a b : ℕ) (s t : Tree) → HasCell new r a b → Knows new a s → Knows new b t → HasReference old (cell s t) → HasCell old r a b
  was_known r a b s t here first second before =
      subst (λ q. HasCell old q a b) whole (subst (λ c. HasCell old h.reference c b) left (subst (HasCell old h.reference parts.first) right parts.cell_is))
    where
      h : HasReference old (cell s t)
      h = before

      parts : HasParts old h.reference s t
      parts = parts_of old h.reference s t h.known

      left : parts.first ≡ a
      left = one.one_reference parts.first a s (grows parts.first s parts.first_known) first

      right : parts.second ≡ b
      right = one.one_reference parts.second b t (grows parts.second t parts.second_known) second

      whole : h.reference ≡ r
      whole = one.one_reference h.reference r (cell s t) (grows h.reference (cell s t) h.known) (of_parts new r a b s t here first second)

  module _ (earlier : HasListsInOrder old) (later : HasListsInOrder new) (s : Table) (IsWanted : Term → Type 0) (trees : List Tree)
      (places : PlacesCellsOf s old new IsWanted) (among : AreKnownOrAmong s old IsWanted trees) where
    tree_of : (r : ℕ) → IsNewlyPlaced old new r → (t : Tree) × Has trees t × Knows new r t
    tree_of r h = go (places r h.first h.second h.placed)
      where
        known : HasCell new r h.first h.second
        known = later.placed r h.first h.second h.placed

        go : IsPlaced old r h.first h.second ⊎ IsWantedCell s new IsWanted h.first h.second → (t : Tree) × Has trees t × Knows new r t
        go (inl before) = absurd (h.unknown (earlier.placed r h.first h.second before))
        go (inr w) = elim (among w.whole w.tree (cell w.cell.first w.cell.second) w.wanted w.stands tt w.cell.part) [
          | inl before ↦
              absurd (h.unknown (was_known r h.first h.second w.cell.first w.cell.second known w.cell.first_known w.cell.second_known before))
          | inr there ↦ (
            cell w.cell.first w.cell.second,
            there,
            of_parts new r h.first h.second w.cell.first w.cell.second known w.cell.first_known w.cell.second_known,
          )
        ]

    pub places_few : PlacesAtMost old new (length trees)
    places_few cells apart each = no_more (Knows new) (λ x z y. one.one_reference x z y) cells trees apart (λ r there. tree_of r (each r there))
