-- Public. The arguments that are kept of applications. Crates above name `AreRight`, which they get from `new` and which stays,
-- and what `place` says of a row.
use Rattle.std.specs.Prelude.{◌≡◌, ℕ, List, ◌∷◌, Option, Some, Contains, get_or}
use Rattle.pair_pool.specs.Trees.{Tree}
use Rattle.pair_pool.specs.Views.{Knows}
use Rattle.sym_table.specs.Table.{Table}
use Rattle.term_model.specs.Terms.{Term}
use Rattle.term_pool.specs.Reading.{arguments_of, IsLet}
use Rattle.term_pool.specs.StandsFor.{StandsFor}
use Rattle.term_pool.specs.Views.{TermsView, ReferToAll}
use Rattle.known_args.specs.declared.memory.KnownArgs.{KnownArgs}
use Rattle.known_args.specs.declared.memory.Place.{Place}

-- a row: the reference of an application, where there is one, and those of its arguments
abbrev pub RowView : Type 0
RowView = Option ℕ × List ℕ

-- the references are those of the arguments of what r stands for, by any table
pub record IsRowOf (v : TermsView) (r : ℕ) (items : List ℕ) : Type 0 where
  pub tree : Tree
  pub known : Knows v.pass r tree
  pub refer : (s : Table) (t : Term) → StandsFor s tree t → (IsLet t → ⊥) → ReferToAll s v items (arguments_of t)

-- each row that is there is that of its application
abbrev pub AreRows : TermsView → List RowView → Type 0
AreRows v rows = (row : RowView) (r : ℕ) → Contains rows row → row.0 ≡ Some r → IsRowOf v r row.1

-- the row at a place: that of the application that was read last, or one that is kept
abbrev pub row_at : KnownArgs → Place → RowView
row_at x Place.Last = x.last
row_at x (Place.Kept n) = get_or x.kept.items n x.last

-- all that is kept is right
abbrev pub AreRight : TermsView → KnownArgs → Type 0
AreRight v x = AreRows v (x.last ∷ x.kept.items)
