-- Public. What the names of shared terms have to be.
use Rattle.std.specs.Prelude.{◌≡◌, ℕ, false, List, Contains, bytes_eq}
use Rattle.sym_table.specs.Leaf.{Leaf, name_of}
use Rattle.sym_table.specs.Table.{Table, IsLeaf}
use Rattle.term_model.specs.Terms.{Var}
use Rattle.term_pool.specs.StandsFor.{variable_leaf}
use Rattle.term_pool.specs.Views.{TermsView}
use Rattle.problem_text.specs.Scripts.{Named}
use Rattle.problem_text.specs.Words.{is_among}
use Rattle.printed_proofs.specs.Naming.{IsPlan}
use Rattle.printed_proofs.specs.Shared.{Plan}
use Rattle.term_printer.specs.Names.{AreGiven}
use Rattle.term_printer.specs.declared.names.Names.{Names}

-- no leaf of the table has the name: no variable, function or operator
abbrev pub IsNoLeaf : Table → List ℕ → Type 0
IsNoLeaf s name = (k : ℕ) (l : Leaf) → IsLeaf s k l → bytes_eq name (name_of l) ≡ false

-- No name of the plan is that of a leaf.
abbrev pub HasNoLeaf : Table → Plan → Type 0
HasNoLeaf s plan = (n : Named) → Contains plan n → IsNoLeaf s n.name

-- the variable has a leaf
abbrev pub HasVariable : Table → Var → Type 0
HasVariable s x = (k : ℕ) × IsLeaf s k (variable_leaf x)

-- The table of names is in step with a plan, of which no name is taken by these or is that of a leaf, so none is given yet.
pub record HasPlan (s : Table) (v : TermsView) (names : Names) (taken : List (List ℕ)) : Type 0 where
  pub plan : Plan
  pub is_plan : IsPlan plan
  pub given : AreGiven plan s v names taken
  pub free : (n : Named) → Contains plan n → is_among taken n.name ≡ false
  pub no_leaf : HasNoLeaf s plan
