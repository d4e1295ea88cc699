-- Public. What is asked of a command that is elaborated, and the references of its literals.
use Rattle.std.specs.Prelude.{◌≡◌, ◌<◌, ◌++◌, ◌^◌, ℕ, false, List, length, flat_map, All, Contains}
use Rattle.pair_pool.specs.Views.{IsOneToOne}
use Rattle.sym_table.specs.Table.{IsTable}
use Rattle.term_model.specs.declared.symbols.Sort.{Sort}
use Rattle.term_model.specs.FreeVariables.{IsFree}
use Rattle.term_model.specs.Sorts.{IsOf}
use Rattle.term_model.specs.Terms.{Var, Term}
use Rattle.term_pool.specs.Views.{TermsView, RefersTo, ReferToAll}
use Rattle.proof_store.specs.Meaning.{StandForItems}
use Rattle.rule_model.specs.declared.rules.Mode.{Mode}
use Rattle.rule_model.specs.declared.rules.Rule.{Rule}
use Rattle.rule_model.specs.declared.statuses.Status.{Status}
use Rattle.rule_model.specs.Proofs.{ProofItems}
use Rattle.rule_model.specs.Reading.{clause_at, premises_at, rule_at, scope_at}
use Rattle.rule_model.specs.Scopes.{commands_in}
use Rattle.rule_model.specs.Statuses.{Checking, IsStatusAt}
use Rattle.rule_model.specs.Truth.{IsWellSortedProof}
use Rattle.rule_model.specs.WellFormed.{IsWellFormed}
use Rattle.equality_steps.specs.declared.site.Site.{Site}

-- check mode with these assertions
abbrev pub in_check_mode : List Term → Checking
in_check_mode assertions = record { mode = Mode.Check; unknown_are_holes = false; assertions = assertions }

-- a term of Bool in which no variable stands free
pub record IsClosedTruth (t : Term) : Type 0 where
  pub sort : IsOf t Sort.Bool
  pub closed : (x : Var) → ¬ IsFree x t

-- The references stand for a well-formed and well-sorted proof and for closed assertions of Bool, and the command of the site is Ok in
-- check mode. Its literals and its premises can be counted. Where it is an assume, it stands in the outermost scope: an assume inside a
-- subproof needs no elaboration.
pub record IsToElaborate (p : Site) (v : TermsView) : Type 0 where
  pub table : IsTable p.symbols.now
  pub known : IsOneToOne v.pass
  pub proof : ProofItems Var Term
  pub stand : StandForItems p.symbols.now v p.proof.now proof
  pub formed : IsWellFormed p.proof.now
  pub sorted : IsWellSortedProof proof
  pub assertions : List Term
  pub asserted : ReferToAll p.symbols.now v p.asserted.now assertions
  pub truths : All IsClosedTruth assertions
  pub within : p.command < commands_in p.proof.now
  pub few_literals : length (clause_at p.proof.now p.command) < 2 ^ 32
  pub few_premises : length (premises_at p.proof.now p.command) < 2 ^ 32
  pub ok : IsStatusAt (in_check_mode assertions) proof p.command Status.Ok
  pub outer : rule_at p.proof.now p.command ≡ Rule.Assume → scope_at p.proof.now p.command ≡ 0

abbrev pub rule_of_command : Site → Rule
rule_of_command p = rule_at p.proof.now p.command

abbrev pub clause_of_command : Site → List ℕ
clause_of_command p = clause_at p.proof.now p.command

-- the literals of the command, and of its premises' clauses
abbrev pub literals_of_command : Site → List ℕ
literals_of_command p = clause_of_command p ++ flat_map (clause_at p.proof.now) (premises_at p.proof.now p.command)

-- the term is one of these literals
pub record IsLiteralOfCommand (p : Site) (v : TermsView) (t : Term) : Type 0 where
  pub reference : ℕ
  pub among : Contains (literals_of_command p) reference
  pub refers : RefersTo p.symbols.now v reference t
