-- Cited by crates above. Leaves of variables, and lets.
use Rattle.std.proofs.Common.{◌≡◌, ℕ, ap, refl}
use Rattle.sym_table.specs.Leaf.{Leaf}
use Rattle.sym_table.specs.Leaf as Leaf
use Rattle.sym_table.specs.Table.{Table, IsLeaf, IsTable}
use Rattle.sym_table.proofs.Tables.{one_symbol}
use Rattle.term_model.specs.Terms.{Var, Term, numeral, variable, operation, call, let_in, Bindings}
use Rattle.term_pool.specs.Reading.{IsLet}
use Rattle.term_pool.specs.StandsFor.{variable_leaf}

-- a leaf is that of one variable
pub leaf_variable : (x y : Var) → variable_leaf x ≡ variable_leaf y → x ≡ y
leaf_variable x y e = λ i. record { name = names e i; sort = sorts e i }
  where
    names : variable_leaf x ≡ variable_leaf y → x.name ≡ y.name
    names e = cc

    sorts : variable_leaf x ≡ variable_leaf y → x.sort ≡ y.sort
    sorts e = cc

pub one_variable : (s : Table) (k : ℕ) (x y : Var) → IsLeaf s k (variable_leaf x) → IsLeaf s k (variable_leaf y) → x ≡ y
one_variable s k x y g h = leaf_variable x y (one_symbol s k (variable_leaf x) (variable_leaf y) g h)

-- a variable has one leaf
pub one_leaf : (s : Table) → IsTable s → (j k : ℕ) (x y : Var) → IsLeaf s j (variable_leaf x) → IsLeaf s k (variable_leaf y) → x ≡ y → j ≡ k
one_leaf s table j k x y g h e =
    table.apart j k (variable_leaf x) (variable_leaf y) g h (ap (λ (z : Var). Leaf.kind_of 0 (variable_leaf z)) e) (ap (λ (z : Var). Leaf.name_of (variable_leaf z)) e)

-- a let is told by its bindings and its body
pub let_is : (t : Term) → IsLet t → (bs : Bindings) × (u : Term) × (t ≡ let_in bs u)
let_is (numeral n) h = absurd h
let_is (variable x) h = absurd h
let_is (operation op ts) h = absurd h
let_is (call f ts) h = absurd h
let_is (let_in bs u) h = (bs, u, refl)
