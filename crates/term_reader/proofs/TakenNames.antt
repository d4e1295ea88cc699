-- The names that a problem takes.
use Rattle.std.proofs.Common.{◌≡◌, ℕ, List, Option, Some, None, is_some, refl, ◌∙◌}
use Rattle.sym_table.specs.Table.{Table}
use Rattle.term_pool.specs.Views.{TermsView}
use Rattle.term_names.specs.Entries.{no_entries, lookup}
use Rattle.term_names.specs.Known.{base_entry}
use Rattle.term_reader.specs.ProblemViews.{ProblemView, IsProblemOf}
use Rattle.problem_text.specs.Scripts.{Script}
use Rattle.problem_text.specs.Words.{is_among}
use Rattle.term_names.specs.declared.entries.Entry.{Entry}
use Rattle.std.specs.Prelude.{option_map}
use Rattle.term_reader.proofs.GivenNames.{entry_where_taken}

-- a name that a problem has an entry for is one that it takes, and no other
pub taken_by_problem : (s : Table) (v : TermsView) (p : ProblemView) (sc : Script) → IsProblemOf s v p sc → (name : List ℕ)
    → is_some (lookup p.entries.names name) ≡ is_among sc.taken name
taken_by_problem s v p sc is name =
    go (lookup p.entries.names name) ∙ entry_where_taken s v (record { base = p.entries; own = no_entries }) sc name is.script
  where
    go : (o : Option Entry) → is_some o ≡ is_some (option_map base_entry o)
    go None = refl
    go (Some e) = refl
