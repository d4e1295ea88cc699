-- Bindings have as many variables as values.
use Rattle.std.proofs.Common.{◌≡◌, ℕ, List, [], ◌∷◌, length, refl, arith}
use Rattle.term_model.specs.Terms.{Bindings, no_bindings, binding}
use Rattle.sym_table.specs.Table.{Table}
use Rattle.term_pool.specs.Building.{AreBindings}
use Rattle.term_pool.specs.Views.{TermsView}

pub bindings-length : (s : Table) (v : TermsView) (vars values : List ℕ) (bs : Bindings) → AreBindings s v vars values bs → length vars ≡ length values
bindings-length s v [] [] bs h = refl
bindings-length s v [] (r ∷ rs) bs h = absurd h
bindings-length s v (k ∷ ks) [] bs h = absurd h
bindings-length s v (k ∷ ks) (r ∷ rs) no_bindings h = absurd h
bindings-length s v (k ∷ ks) (r ∷ rs) (binding x t bs) h = let e = bindings-length s v ks rs bs h.2 in omega arith
