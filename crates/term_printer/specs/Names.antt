-- Public. The names that a printer gives to terms: what its table says of a term, and when the table is in step with a plan.
use Rattle.std.specs.Prelude.{◌≡◌, ◌<◌, ◌+◌, ◌-◌, ◌^◌, ℕ, nat_eq, nat_lt, if◌then◌else◌, List, ◌++◌, true, Option, Some, None, decimal, codes, ⊤}
use Rattle.std.specs.Prelude.{slice_get, slice_index_or}
use Rattle.sym_table.specs.Table.{Table}
use Rattle.term_model.specs.Terms.{Term}
use Rattle.term_pool.specs.Views.{TermsView, RefersTo}
use Rattle.problem_text.specs.Scripts.{Named}
use Rattle.problem_text.specs.Words.{is_among}
use Rattle.printed_proofs.specs.Shared.{Plan, planned}
use Rattle.term_printer.specs.declared.names.Entry.{Entry}
use Rattle.term_printer.specs.declared.names.Names.{Names}
use Rattle.term_printer.specs.declared.names.Row.{Row}

-- the name of a number
abbrev pub name_numbered : ℕ → List ℕ
name_numbered k = codes "@c" ++ decimal k

-- the place of a reference in the table: that of its cell, and behind those the leaves
abbrev pub place_of : ℕ → ℕ
place_of r = if nat_lt r (2 ^ 30) then r + 2 ^ 30 else (if nat_lt r (2 ^ 31) then r - 2 ^ 30 else r)

-- the entry of a reference, where this is its row
abbrev pub entry_of : ℕ → Option Row → Option Entry
entry_of r None = None
entry_of r (Some row) = if nat_eq row.term r then Some row.entry else None

-- what the table says of the term of a reference
abbrev pub entry_at : Names → ℕ → Option Entry
entry_at names r = entry_of r (slice_get names.rows.items (slice_index_or names.slots.items (place_of r) 0))

-- the entry where the name is given
abbrev pub given_entry : Option Entry → Option Entry
given_entry None = None
given_entry (Some e) = Some (record { number = e.number; is_given = true })

-- the entry of a term that is planned as this, where these names are given
abbrev pub IsEntryOf : List (List ℕ) → Option Entry → Option Named → Type 0
IsEntryOf taken None None = ⊤
IsEntryOf taken None (Some n) = ⊥
IsEntryOf taken (Some e) None = ⊥
IsEntryOf taken (Some e) (Some n) = (n.name ≡ name_numbered e.number) × (is_among taken n.name ≡ e.is_given)

-- Where these names are taken, the table is in step with the plan: it has a name for just those references whose terms are planned, the
-- one that is planned, and says whether it is given. No leaf has a name, and no two references have one.
pub record AreGiven (plan : Plan) (s : Table) (v : TermsView) (names : Names) (taken : List (List ℕ)) : Type 0 where
  pub cells : (r : ℕ) → r < 2 ^ 30 → entry_at names r ≡ None
  pub apart :
      (q r : ℕ) (d e : Entry) → entry_at names q ≡ Some d → entry_at names r ≡ Some e → name_numbered d.number ≡ name_numbered e.number → q ≡ r
  pub in_step : (r : ℕ) (t : Term) → RefersTo s v r t → IsEntryOf taken (entry_at names r) (planned plan t)
