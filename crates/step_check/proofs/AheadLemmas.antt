-- Lists of cells that are looked at: what holds of each of their references.
use Rattle.std.proofs.Common.{◌≡◌, ◌↔◌, ◌<◌, ◌≤◌, ◌^◌, ℕ, zero, suc, Bool, true, false, IsTrue, List, [], ◌∷◌, length, get_or, subst, sym, arith, inl, inr}
use Rattle.std.proofs.lemmas.Bool.{cases_lt}
use Rattle.std.specs.List.{AllByRecursion}
use Rattle.pair_pool.specs.Trees.{Tree, leaf, cell}
use Rattle.pair_pool.specs.Views.{PassView, HasPartsOfTrees, IsKnown, Knows}
use Rattle.sym_table.specs.Table.{Table}
use Rattle.term_pool.specs.Views.{TermsView, IsTerm, IsKnownCell}

pub all_at : {X : Type 0} (P : X → Type 0) (xs : List X) (k : ℕ) (q : X) → AllByRecursion P xs → k < length xs → q ≡ get_or xs k q → P q
all_at P [] k q h below is = absurd (omega (arith, below))
all_at P (x ∷ xs) zero q h below is = subst P (sym is) h.0
all_at P (x ∷ xs) (suc k) q h below is = all_at P xs k q h.1 (omega (arith, below)) is

pub all_more : {X : Type 0} (P Q : X → Type 0) (xs : List X) → ((x : X) → P x → Q x) → AllByRecursion P xs → AllByRecursion Q xs
all_more P Q [] more h = tt
all_more P Q (x ∷ xs) more h = (more x h.0, all_more P Q xs more h.1)

pub term_known : (s : Table) (v : TermsView) (r : ℕ) → IsTerm s v r → IsKnown v.pass r
term_known s v r t = record { tree = t.refers.tree; stands = t.refers.known }

pub no_leaf : (b : Bool) (r : ℕ) → (IsTrue b ↔ (r < 2 ^ 30)) → b ≡ false → 2 ^ 30 ≤ r
no_leaf b r tells e = elim (cases_lt r (2 ^ 30)) [
  | inl low ↦ (let yes : b ≡ true = tells.1 low in absurd cc)
  | inr high ↦ high
]

-- a reference that is known and no leaf is that of a cell, whose parts are known
pub known_cell : (p : PassView) → HasPartsOfTrees p → (r : ℕ) → IsKnown p r → 2 ^ 30 ≤ r → IsKnownCell p r
known_cell p parts r h high = go h.tree h.stands
  where
    go : (t : Tree) → Knows p r t → IsKnownCell p r
    go (leaf k) known = let e = parts.leaf_number r k known in absurd (omega (arith, e.0, e.1, high))
    go (cell a b) known = record { first = a; second = b; stands = known }

pub parts_known : (p : PassView) (r a b : ℕ) → IsKnownCell p r → ((s t : Tree) → Knows p r (cell s t) → Knows p a s) → ((s t : Tree) → Knows p r (cell s t) → Knows p b t) → IsKnown p a × IsKnown p b
parts_known p r a b c first second = (record { tree = c.first; stands = first c.first c.second c.stands }, record { tree = c.second; stands = second c.first c.second c.stands })
