-- Private. Where a printer stands in a proof: what it meets next, and by which numbers that is found.
use Rattle.std.specs.Prelude.{◌≡◌, ◌<◌, ◌≤◌, ℕ, suc, ◌+◌, ◌^◌, ⊤, nat_eq, nat_lt, if◌then◌else◌, Option, Some, None, List, [], ◌∷◌, length, drop}
use Rattle.std.specs.List.{AllZip}
use Rattle.sym_table.specs.Table.{Table}
use Rattle.term_model.specs.Terms.{Var, Term}
use Rattle.term_pool.specs.Bindings.{IsBindingOf}
use Rattle.term_pool.specs.Views.{TermsView, RefersTo}
use Rattle.rule_model.specs.Commands.{Line, ScopeEntry, lines_in, scopes}
use Rattle.rule_model.specs.Proofs.{ProofItems, with_assume, with_step, with_subproof}
use Rattle.rule_model.specs.Proofs as proof
use Rattle.rule_model.specs.Reading.{rule_at, rule_name_at, clause_at, premises_at, discharged_at, pivots_at, ratios_at, scope_at, closes_at}
use Rattle.rule_model.specs.Reading.{bindings_at, last_inside_at}
use Rattle.rule_model.specs.Scopes.{Nesting, outermost, inner, own_bindings, scope_number, first_index, next_index, commands_in, subproofs_in}
use Rattle.proof_store.specs.Meaning.{IsPivotOf}
use Rattle.printed_proofs.specs.FileOrder.{Event, opens, reaches}

-- the index of the command that closes the scope of a number
abbrev pub closing_index : Nesting Var Term → ProofItems Var Term → ℕ → ℕ
closing_index nesting proof.no_items k = 0
closing_index nesting (with_assume items id t) k = closing_index nesting items k
closing_index nesting (with_step items s) k = closing_index nesting items k
closing_index nesting (with_subproof items bindings within s) k =
    if nat_lt k (scope_number (inner nesting items bindings s)) then closing_index nesting items k
    else (if nat_eq k (scope_number (inner nesting items bindings s)) then first_index nesting + commands_in items + commands_in within
    else closing_index (inner nesting items bindings s) within k)

-- Behind the last command directly inside it stands the command that closes a scope; in an empty scope that is the next command.
abbrev pub IsClosing : ℕ → Option ℕ → ℕ → Type 0
IsClosing next (Some last) closing = closing ≡ last + 1
IsClosing next None closing = closing ≡ next

-- one more than it is a number of 32 bits
abbrev pub LastIsFew : Option ℕ → Type 0
LastIsFew (Some last) = last + 1 < 2 ^ 32
LastIsFew None = ⊤

-- the next command stands in the scope of this number, or deeper
abbrev pub StandsIn : ℕ → List (Line Var Term) → Type 0
StandsIn number [] = ⊥
StandsIn number (l ∷ ls) = number ≤ scope_number l.scope.nesting

-- the next scope, which has this entry
pub record IsNextScope (closed_by : ℕ → ℕ) (opened next : ℕ) (lines : List (Line Var Term)) (e : ScopeEntry Var Term) (here : Nesting Var Term) : Type 0 where
  pub number : scope_number here ≡ suc opened
  pub bindings : e.bindings ≡ own_bindings here
  pub closing : IsClosing next e.last (closed_by (suc opened))
  pub within : closed_by (suc opened) < next + length lines
  pub deep : StandsIn (suc opened) lines

pub record IsNextLine (opened next : ℕ) (m l : Line Var Term) : Type 0 where
  pub same : m ≡ l
  pub index : next_index l.scope ≡ next
  pub open_already : scope_number l.scope.nesting ≤ opened

-- These events are met, where so many scopes are open already, where the next command has this index, and where these commands and
-- scopes are left.
abbrev pub AreNext : (ℕ → ℕ) → ℕ → ℕ → List (Line Var Term) → List (ScopeEntry Var Term) → List Event → Type 0
AreNext closed_by opened next lines entries [] = lines ≡ []
AreNext closed_by opened next lines [] (opens here ∷ es) = ⊥
AreNext closed_by opened next lines (e ∷ entries) (opens here ∷ es) =
    IsNextScope closed_by opened next lines e here × AreNext closed_by (suc opened) next lines entries es
AreNext closed_by opened next [] entries (reaches l ∷ es) = ⊥
AreNext closed_by opened next (m ∷ lines) entries (reaches l ∷ es) =
    IsNextLine opened next m l × AreNext closed_by opened (suc next) lines entries es

-- the events that are left of a proof
abbrev pub AreLeft : ProofItems Var Term → ℕ → ℕ → List Event → Type 0
AreLeft of opened next events =
    AreNext (closing_index outermost of) opened next (drop next (lines_in outermost of)) (drop (suc opened) (scopes of)) events

-- what a proof over references has at an index, and at a scope's number, is what the proof over terms has there
pub record Corresponds (s : Table) (v : TermsView) (refs : ProofItems ℕ ℕ) (of : ProofItems Var Term) (i : ℕ) : Type 0 where
  pub rule : rule_at refs i ≡ rule_at of i
  pub rule_name : rule_name_at refs i ≡ rule_name_at of i
  pub clause : AllZip (RefersTo s v) (clause_at refs i) (clause_at of i)
  pub premises : premises_at refs i ≡ premises_at of i
  pub discharged : discharged_at refs i ≡ discharged_at of i
  pub pivots : AllZip (IsPivotOf s v) (pivots_at refs i) (pivots_at of i)
  pub ratios : ratios_at refs i ≡ ratios_at of i
  pub scope : scope_at refs i ≡ scope_at of i
  pub closes : closes_at refs i ≡ closes_at of i
  pub bindings : AllZip (IsBindingOf s v) (bindings_at refs i) (bindings_at of i)
  pub last : last_inside_at refs i ≡ last_inside_at of i
  pub commands : commands_in refs ≡ commands_in of
  pub subproofs : subproofs_in refs ≡ subproofs_in of
