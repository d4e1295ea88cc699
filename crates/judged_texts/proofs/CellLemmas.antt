-- Cited by crates above. Where a pool has no room for a cell of a term that is read, each of its places has another cell of such terms.
use Rattle.std.proofs.Common.{◌≡◌, ◌⊎◌, ℕ, ◌+◌, ◌^◌, ◌<◌, ◌≤◌, [], sym, inl, inr, arith}
use Rattle.std.proofs.lemmas.Bool.{cases_lt}
use Rattle.pair_pool.specs.Trees.{Tree, cell}
use Rattle.pair_pool.specs.Views.{PassView, IsListed, IsSeen, IsOneToOne, HasListsInOrder}
use Rattle.pair_pool.proofs.StateLemmas.{not_listed}
use Rattle.sym_table.specs.Table.{Table, IsTable, Keeps}
use Rattle.term_model.specs.Terms.{Term}
use Rattle.term_pool.specs.Views.{KeepsPass}
use Rattle.term_pool.specs.Placing.{PlacesCellsOf, LacksCellOf, IsWantedCell}
use Rattle.term_pool.proofs.PlacedCells.{cell_stays, cell_more}
use Rattle.judged_texts.specs.Cells.{IsCellOfRead, HasMoreCells}
use Rattle.judged_texts.specs.Pools.{HoldsOnly}

-- in a pass in which nothing stood, what was placed are cells of these terms
pub holds_placed : (s : Table) (old new : PassView) (P Q : Term → Type 0) → ((t : Term) → P t → Q t) → old.placed ≡ [] → PlacesCellsOf s old new P → HoldsOnly s new Q
holds_placed s old new P Q more nothing placed r a b p = elim (placed r a b p) [
  | inl before ↦ let none : IsListed [] r a b = rw nothing at before in absurd (not_listed r a b none)
  | inr is ↦ cell_more s new P Q more a b is
]

-- then more is placed
pub holds_more : (s z : Table) (old new : PassView) (P Q : Term → Type 0) → ((t : Term) → P t → Q t) → Keeps s z → KeepsPass old new → HoldsOnly s old Q → PlacesCellsOf z old new P → HoldsOnly z new Q
holds_more s z old new P Q more table keeps holds placed r a b p = elim (placed r a b p) [
  | inl before ↦ cell_stays s z old new Q table keeps a b (holds r a b before)
  | inr is ↦ cell_more z new P Q more a b is
]

-- what is held of terms of one kind is held of a wider one
pub holds_kind : (s : Table) (pass : PassView) (P Q : Term → Type 0) → ((t : Term) → P t → Q t) → HoldsOnly s pass P → HoldsOnly s pass Q
holds_kind s pass P Q more holds r a b p = cell_more s pass P Q more a b (holds r a b p)

pub more_cells_of : (P Q : Term → Type 0) (n : ℕ) → ((t : Term) → P t → Q t) → HasMoreCells P n → HasMoreCells Q n
more_cells_of P Q n more h = record {
  table = h.table;
  is_table = h.is_table;
  cells = h.cells;
  are = λ i within. let is = h.are i within in record { whole = is.whole; read = more is.whole is.read; tree = is.tree; stands = is.stands; part = is.part; is_cell = is.is_cell };
  apart = h.apart;
}

module _ (s : Table) (pass : PassView) (IsRead : Term → Type 0)
    (is_table : IsTable s) (all : pass.shares ≡ 65)
    (one : IsOneToOne pass) (order : HasListsInOrder pass)
    (holds : HoldsOnly s pass IsRead)
    (lacks : LacksCellOf s pass IsRead) where
  -- a cell that stands in the table is one of a term that is read
  abbrev IsOfText : ℕ → ℕ → Type 0
  IsOfText a b = IsWantedCell s pass IsRead a b

  of_text : (r a b : ℕ) → IsSeen pass r a b → IsOfText a b
  of_text r a b seen = holds r a b (order.whole all r a b seen)

  abbrev wanted : IsOfText lacks.full.first lacks.full.second
  wanted = record { whole = lacks.whole; wanted = lacks.wanted; tree = lacks.tree; stands = lacks.stands; cell = lacks.full.wanted }

  abbrev tree_of : (a b : ℕ) → IsOfText a b → Tree
  tree_of a b is = cell is.cell.first is.cell.second

  is_of_text : (a b : ℕ) (is : IsOfText a b) → IsCellOfRead s IsRead (tree_of a b is)
  is_of_text a b is = record { whole = is.whole; read = is.wanted; tree = is.tree; stands = is.stands; part = is.cell.part; is_cell = tt }

  -- equal trees are of one cell
  one_cell : (a b c d : ℕ) (p : IsOfText a b) (q : IsOfText c d) → tree_of a b p ≡ tree_of c d q → (a ≡ c) × (b ≡ d)
  one_cell a b c d p q e =
      let first : p.cell.first ≡ q.cell.first = cc in
      let second : p.cell.second ≡ q.cell.second = cc in
      (one.one_reference a c q.cell.first (rw first at p.cell.first_known) q.cell.first_known, one.one_reference b d q.cell.second (rw second at p.cell.second_known) q.cell.second_known)

  -- the parts of the cell at a place, and those of the one that is wanted where there is no such place
  abbrev Parts : ℕ → Type 0
  Parts i = (i < pass.places) ⊎ (pass.places ≤ i)

  abbrev first_at : (i : ℕ) → Parts i → ℕ
  first_at i (inl h) = (lacks.full.full i h).0
  first_at i (inr h) = lacks.full.first

  abbrev second_at : (i : ℕ) → Parts i → ℕ
  second_at i (inl h) = (lacks.full.full i h).1
  second_at i (inr h) = lacks.full.second

  abbrev at_place : (i : ℕ) (d : Parts i) → IsOfText (first_at i d) (second_at i d)
  at_place i (inl h) = let there = lacks.full.full i h in of_text (2 ^ 30 + i) there.0 there.1 there.2
  at_place i (inr h) = wanted

  abbrev cell_at : (i : ℕ) → Parts i → Tree
  cell_at i d = tree_of (first_at i d) (second_at i d) (at_place i d)

  other_place : (i j : ℕ) (d : Parts i) (e : Parts j) → i ≤ pass.places → j ≤ pass.places → (first_at i d ≡ first_at j e) × (second_at i d ≡ second_at j e) → i ≡ j
  other_place i j (inl h) (inl h') within within' same =
      let here = lacks.full.full i h in
      let there = lacks.full.full j h' in
      let seen : IsSeen pass (2 ^ 30 + i) there.0 there.1 = rw (same.0, same.1) at here.2 in
      omega (arith, order.one_place (2 ^ 30 + i) (2 ^ 30 + j) there.0 there.1 seen there.2)
  other_place i j (inl h) (inr h') within within' same = elim (lacks.full.full i h).3 [
    | inl differs ↦ absurd (differs same.0)
    | inr differs ↦ absurd (differs same.1)
  ]
  other_place i j (inr h) (inl h') within within' same = elim (lacks.full.full j h').3 [
    | inl differs ↦ absurd (differs (sym same.0))
    | inr differs ↦ absurd (differs (sym same.1))
  ]
  other_place i j (inr h) (inr h') within within' same = omega arith

  pub has_more_cells : (n : ℕ) → pass.places ≡ n → HasMoreCells IsRead n
  has_more_cells n e = record {
    table = s;
    is_table = is_table;
    cells = λ i. cell_at i (cases_lt i pass.places);
    are = λ i within. is_of_text _ _ (at_place i (cases_lt i pass.places));
    apart = λ i j within within' same. other_place i j (cases_lt i pass.places) (cases_lt j pass.places) (omega (arith, e, within)) (omega (arith, e, within'))
        (one_cell _ _ _ _ (at_place i (cases_lt i pass.places)) (at_place j (cases_lt j pass.places)) same);
  }
