-- The terms of a well-sorted proof, at each command and in each scope, and the references that stand for them.
use Rattle.std.proofs.Common.{ℕ, zero, suc, List, [], ◌∷◌, ◌++◌, map, slice_get, All}
use Rattle.std.specs.List.{AllByRecursion, AllZip}
use Rattle.std.specs.Option.{option_map_or}
use Rattle.std.proofs.lemmas.List.Elements.{All-nil, All-cons}
use Rattle.sym_table.specs.Table.{Table}
use Rattle.term_model.specs.declared.symbols.Sort.{Sort}
use Rattle.term_model.specs.Sorts.{IsWellSorted}
use Rattle.term_model.specs.Terms.{Var, Term}
use Rattle.term_model.proofs.Lists.{all_joined}
use Rattle.term_pool.specs.Bindings.{IsBindingOf}
use Rattle.term_pool.specs.Views.{TermsView, RefersTo}
use Rattle.rule_model.specs.Commands.{Line, entry_of, lines_in, ScopeEntry, scopes_in, scopes}
use Rattle.rule_model.specs.Proofs.{ProofItems, no_items, with_assume, with_step, with_subproof}
use Rattle.rule_model.specs.Reading.{clause_of, clause_at, bindings_at}
use Rattle.rule_model.specs.Scopes.{Nesting, outermost, inner}
use Rattle.rule_model.specs.Truth.{IsLiteralIn, IsBindingIn, AreWellSorted, IsWellSortedProof}
use Rattle.sort_check.specs.WellSorted.{IsWellSortedTerm}
use Rattle.term_sharing.specs.SortedProofs.{AreTermsSorted, AreValuesSorted}

abbrev IsSortedLine : Line Var Term → Type 0
IsSortedLine l = AllByRecursion IsWellSorted (clause_of l.command)

abbrev AreBoundSorted : List (Var × Term) → Type 0
AreBoundSorted bs = AllByRecursion (λ b. IsWellSorted b.1) bs

abbrev IsSortedScope : ScopeEntry Var Term → Type 0
IsSortedScope e = AreBoundSorted e.bindings

literals : (nesting : Nesting Var Term) (ts : List Term) → AllByRecursion (IsLiteralIn nesting) ts → AllByRecursion IsWellSorted ts
literals nesting [] h = tt
literals nesting (t ∷ ts) h = (record { sort = Sort.Bool; of = h.0.sort }, literals nesting ts h.1)

bound : (nesting : Nesting Var Term) (bs : List (Var × Term)) → AllByRecursion (IsBindingIn nesting) bs → AreBoundSorted bs
bound nesting [] h = tt
bound nesting (b ∷ bs) h = (record { sort = b.0.sort; of = h.0.sort }, bound nesting bs h.1)

sorted_lines : (nesting : Nesting Var Term) (items : ProofItems Var Term) → AreWellSorted nesting items
    → AllByRecursion IsSortedLine (lines_in nesting items)
sorted_lines nesting no_items h = tt
sorted_lines nesting (with_assume items id t) h =
    all_joined IsSortedLine (lines_in nesting items) _ (sorted_lines nesting items h.0) (literals nesting (t ∷ []) (h.1, tt), tt)
sorted_lines nesting (with_step items s) h =
    all_joined IsSortedLine (lines_in nesting items) _ (sorted_lines nesting items h.0) (literals nesting s.clause h.1, tt)
sorted_lines nesting (with_subproof items bindings proof s) h =
    let deep = inner nesting items bindings s in
    all_joined IsSortedLine (lines_in nesting items ++ lines_in deep proof) _
    (all_joined IsSortedLine (lines_in nesting items) (lines_in deep proof) (sorted_lines nesting items h.0) (sorted_lines deep proof h.2))
    (literals nesting s.clause h.3, tt)

sorted_scopes : (nesting : Nesting Var Term) (items : ProofItems Var Term) → AreWellSorted nesting items
    → AllByRecursion IsSortedScope (scopes_in nesting items)
sorted_scopes nesting no_items h = tt
sorted_scopes nesting (with_assume items id t) h = sorted_scopes nesting items h.0
sorted_scopes nesting (with_step items s) h = sorted_scopes nesting items h.0
sorted_scopes nesting (with_subproof items bindings proof s) h =
    all_joined IsSortedScope (scopes_in nesting items) _ (sorted_scopes nesting items h.0)
    (bound nesting bindings h.1, sorted_scopes (inner nesting items bindings s) proof h.2)

at_line : (lines : List (Line Var Term)) (i : ℕ) → AllByRecursion IsSortedLine lines
    → AllByRecursion IsWellSorted (option_map_or (λ e. clause_of e.command) (slice_get (map entry_of lines) i) [])
at_line [] i h = tt
at_line (l ∷ lines) zero h = h.0
at_line (l ∷ lines) (suc i) h = at_line lines i h.1

at_scope : (entries : List (ScopeEntry Var Term)) (k : ℕ) → AllByRecursion IsSortedScope entries
    → AreBoundSorted (option_map_or (λ (e : ScopeEntry Var Term). e.bindings) (slice_get entries k) [])
at_scope [] k h = tt
at_scope (e ∷ entries) zero h = h.0
at_scope (e ∷ entries) (suc k) h = at_scope entries k h.1

module _ (s : Table) (v : TermsView) where
  sorted_terms : (rs : List ℕ) (ts : List Term) → AllZip (RefersTo s v) rs ts → AllByRecursion IsWellSorted ts → All (IsWellSortedTerm s v) rs
  sorted_terms [] ts zip sorted = All-nil (IsWellSortedTerm s v)
  sorted_terms (r ∷ rs) [] zip sorted = absurd zip
  sorted_terms (r ∷ rs) (t ∷ ts) zip sorted =
      All-cons (IsWellSortedTerm s v) r rs (record { means = t; refers = zip.0; sorted = sorted.0 }) (sorted_terms rs ts zip.1 sorted.1)

  sorted_values : (bs : List (ℕ × ℕ)) (of : List (Var × Term)) → AllZip (IsBindingOf s v) bs of → AreBoundSorted of → AreValuesSorted s v bs
  sorted_values [] of zip sorted = All-nil (λ (b : ℕ × ℕ). IsWellSortedTerm s v b.1)
  sorted_values (b ∷ bs) [] zip sorted = absurd zip
  sorted_values (b ∷ bs) (c ∷ of) zip sorted =
      All-cons (λ (b : ℕ × ℕ). IsWellSortedTerm s v b.1) b bs (record { means = c.1; refers = zip.0.term; sorted = sorted.0 })
      (sorted_values bs of zip.1 sorted.1)

  pub are_sorted : (refs : ProofItems ℕ ℕ) (of : ProofItems Var Term) → ((i : ℕ) → AllZip (RefersTo s v) (clause_at refs i) (clause_at of i))
      → ((k : ℕ) → AllZip (IsBindingOf s v) (bindings_at refs k) (bindings_at of k)) → IsWellSortedProof of → AreTermsSorted s v refs
  are_sorted refs of clauses bindings h = record {
    clauses = λ i. sorted_terms (clause_at refs i) (clause_at of i) (clauses i) (at_line (lines_in outermost of) i (sorted_lines outermost of h));
    bindings = λ k. sorted_values (bindings_at refs k) (bindings_at of k) (bindings k) (at_scope (scopes of) k (tt, sorted_scopes outermost of h));
  }
