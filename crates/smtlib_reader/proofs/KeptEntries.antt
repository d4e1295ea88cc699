-- What a reader of terms had of its own is what a problem has.
use Rattle.std.proofs.Common.{◌≡◌, List, Option, Some, None, subst}
use Rattle.std.specs.Prelude.{option_map, ℕ}
use Rattle.std.specs.Option.{option_or}
use Rattle.sym_table.specs.Table.{Table}
use Rattle.term_pool.specs.Views.{TermsView}
use Rattle.problem_text.specs.Scripts.{Script}
use Rattle.term_names.specs.declared.entries.Entry.{Entry}
use Rattle.term_names.specs.Entries.{EntriesView, no_entries, lookup}
use Rattle.term_names.specs.Known.{KnownView, own_entry, base_entry}
use Rattle.term_names.specs.Standing.{IsScript, IsNameMeant}
use Rattle.term_expansion.specs.SymbolsAndTerms.{both}

abbrev own_of : EntriesView → KnownView
own_of e = record { base = no_entries; own = e }

abbrev base_of : EntriesView → KnownView
base_of e = record { base = e; own = no_entries }

meant_still : (s : Table) (v : TermsView) (e : EntriesView) (sc : Script) (name : List ℕ) (o : Option Entry)
    → IsNameMeant (both s v) (own_of e) sc name (option_or (option_map own_entry o) None) → IsNameMeant (both s v) (base_of e) sc name (option_map base_entry o)
meant_still s v e sc name None is = is
meant_still s v e sc name (Some (Entry.Function leaf)) is = is
meant_still s v e sc name (Some Entry.Reserved) is = is
meant_still s v e sc name (Some (Entry.Macro n)) is = is
meant_still s v e sc name (Some (Entry.Named n)) is = is

pub script_of_own : (s : Table) (v : TermsView) (k : KnownView) (e : EntriesView) (sc : Script) → k.base ≡ no_entries → e ≡ k.own → IsScript (both s v) k sc
    → IsScript (both s v) (record { base = e; own = no_entries }) sc
script_of_own s v k e sc none same is =
    let own : IsScript (both s v) (own_of k.own) sc = subst (λ b. IsScript (both s v) (record { base = b; own = k.own }) sc) none is in
    rw same (record { sorts = own.sorts; built_in = own.built_in; names = λ name. meant_still s v k.own sc name (lookup k.own.names name) (own.names name) })
