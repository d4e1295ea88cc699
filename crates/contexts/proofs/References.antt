-- References of leaves and of cells, and lists of references.
use Rattle.std.proofs.Common.{◌≡◌, ℕ, ◌≤◌, ◌^◌, Bool, true, false, refl, sym, ◌∙◌, arith, ◌==◌}
use Rattle.pair_pool.specs.Trees.{Tree, leaf, cell}
use Rattle.pair_pool.specs.Views.{PassView, Knows, IsKnown, IsOneToOne, HasPartsOfTrees}
use Rattle.term_pool.specs.Heights.{is_let_head}
use Rattle.term_pool.specs.Views.{IsKnownCell}
use Rattle.term_pool.proofs.Depth.{is_cell}
use Rattle.std.proofs.lemmas.Bool.{eqb-true}
use Rattle.contexts.specs.Shapes.{Either, HasLetShape, IsShaped, IsLetRest}

-- tests in types
pub either_true : (b : Bool) (P Q : Type 0) → b ≡ true → P → Either b P Q
either_true true P Q e p = p
either_true false P Q e p = absurd cc

pub either_false : (b : Bool) (P Q : Type 0) → b ≡ false → Q → Either b P Q
either_false true P Q e q = absurd cc
either_false false P Q e q = q

pub from_true : (b : Bool) (P Q : Type 0) → b ≡ true → Either b P Q → P
from_true true P Q e h = h
from_true false P Q e h = absurd cc

pub from_false : (b : Bool) (P Q : Type 0) → b ≡ false → Either b P Q → Q
from_false true P Q e h = absurd cc
from_false false P Q e h = h

pub shaped_cell : (p : PassView) → HasPartsOfTrees p → (r : ℕ) → IsShaped p r → 2 ^ 30 ≤ r → IsKnownCell p r
shaped_cell p parts r h high = is_cell p parts r h.tree h.known high

pub rest_cell : (p : PassView) (r : ℕ) → IsLetRest p r → IsKnownCell p r
rest_cell p r h = go h.tree h.known h.shape
  where
    go : (t : Tree) → Knows p r t → HasLetShape t → IsKnownCell p r
    go (leaf k) known shape = absurd shape
    go (cell a b) known shape = record { first = a; second = b; stands = known }

pub known_shaped : (p : PassView) (r : ℕ) → IsShaped p r → IsKnown p r
known_shaped p r h = record { tree = h.tree; stands = h.known }

-- the head of a let has number 1, and no other first part of a cell has
pub head_other : (p : PassView) → HasPartsOfTrees p → (a : ℕ) (s : Tree) → Knows p a s → ¬ (a ≡ 1) → is_let_head s ≡ false
head_other p parts a (leaf j) known differs = go (j == 1) refl
  where
    go : (t : Bool) → (j == 1) ≡ t → (j == 1) ≡ false
    go false e = e
    go true e = absurd (differs ((parts.leaf_number a j known).0 ∙ eqb-true j 1 e))
head_other p parts a (cell c d) known differs = refl

pub head_of_let : (p : PassView) → IsOneToOne p → HasPartsOfTrees p → (a : ℕ) (s : Tree) → Knows p a s → a ≡ 1 → is_let_head s ≡ true
head_of_let p one parts a (leaf j) known same = let e : j ≡ 1 = sym (parts.leaf_number a j known).0 ∙ same in rw e
head_of_let p one parts a (cell c d) known same = let high = one.high a c d known in absurd (omega arith)
