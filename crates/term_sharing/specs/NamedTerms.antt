-- Private. Terms that may have names, and names of numbers below one.
use Rattle.std.specs.Prelude.{◌≡◌, ◌≤◌, ◌<◌, ◌^◌, ℕ, false, List, [], Some, Contains}
use Rattle.sym_table.specs.Table.{Table}
use Rattle.term_model.specs.Sorts.{IsOf}
use Rattle.term_model.specs.Terms.{Term}
use Rattle.term_pool.specs.Views.{TermsView, RefersTo}
use Rattle.rule_model.specs.Replacement.{free_variables}
use Rattle.problem_text.specs.Scripts.{Named}
use Rattle.problem_text.specs.Words.{is_among}
use Rattle.sort_check.specs.WellSorted.{IsWellSortedTerm}
use Rattle.printed_proofs.specs.Shared.{Plan}
use Rattle.term_printer.specs.Names.{name_numbered, entry_at, AreGiven}
use Rattle.term_printer.specs.declared.names.Entry.{Entry}
use Rattle.term_printer.specs.declared.names.Names.{Names}
use Rattle.term_sharing.specs.Naming.{IsNoLeaf}

-- no variable is free in the term of the reference
abbrev pub IsClosed : Table → TermsView → ℕ → Type 0
IsClosed s v r = (t : Term) → RefersTo s v r t → free_variables t ≡ []

-- the reference is that of a cell, of a well-sorted term in which no variable is free
pub record MayHaveName (s : Table) (v : TermsView) (r : ℕ) : Type 0 where
  pub cell : 2 ^ 30 ≤ r
  pub term : IsWellSortedTerm s v r
  pub closed : IsClosed s v r

-- The term may have this name, which is that of a number below this one.
pub record IsNamedBelow (s : Table) (taken : List (List ℕ)) (next : ℕ) (n : Named) : Type 0 where
  pub number : ℕ
  pub few : number < next
  pub name : n.name ≡ name_numbered number
  pub sorted : IsOf n.meant.tree n.meant.sort
  pub closed : free_variables n.meant.tree ≡ []
  pub free : is_among taken n.name ≡ false
  pub no_leaf : IsNoLeaf s n.name

-- The table of names is in step with a plan whose names are those of numbers below this one.
pub record HasPlanBelow (s : Table) (v : TermsView) (names : Names) (taken : List (List ℕ)) (next : ℕ) : Type 0 where
  pub plan : Plan
  pub each : (n : Named) → Contains plan n → IsNamedBelow s taken next n
  pub distinct : (m n : Named) → Contains plan m → Contains plan n → m.name ≡ n.name → m ≡ n
  pub below : (r : ℕ) (e : Entry) → entry_at names r ≡ Some e → e.number < next
  pub given : AreGiven plan s v names taken
