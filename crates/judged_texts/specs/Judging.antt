-- Public. What the judgement of a proof that was read comes to.
use Rattle.std.specs.Prelude.{◌≡◌, ℕ, List}
use Rattle.std.specs.List.{AllZip}
use Rattle.sym_table.specs.Table.{Table}
use Rattle.term_model.specs.Terms.{Var, Term}
use Rattle.term_pool.specs.Views.{TermsView, RefersTo}
use Rattle.rule_model.specs.declared.statuses.Status.{Status}
use Rattle.rule_model.specs.declared.statuses.Verdict.{Verdict}
use Rattle.rule_model.specs.Proofs.{ProofItems}
use Rattle.rule_model.specs.Reading.{id_at, rule_name_at, clause_at, premises_at, scope_at}
use Rattle.rule_model.specs.Scopes.{commands_in}
use Rattle.rule_model.specs.Statuses.{IsVerdict}
use Rattle.term_reader.specs.declared.flags.Flags.{Flags}
use Rattle.step_check.specs.Statuses.{AreStatusesOf}
use Rattle.judged_texts.specs.declared.judgement.Judgement.{Judgement}
use Rattle.judged_texts.specs.Naming.{NamesIds}

-- the two have the same commands
pub record Corresponds (s : Table) (v : TermsView) (refs : ProofItems ℕ ℕ) (proof : ProofItems Var Term) : Type 0 where
  pub count : commands_in refs ≡ commands_in proof
  pub ids : (i : ℕ) → id_at refs i ≡ id_at proof i
  pub rules : (i : ℕ) → rule_name_at refs i ≡ rule_name_at proof i
  pub scopes : (i : ℕ) → scope_at refs i ≡ scope_at proof i
  pub premises : (i : ℕ) → premises_at refs i ≡ premises_at proof i
  pub clauses : (i : ℕ) → AllZip (RefersTo s v) (clause_at refs i) (clause_at proof i)

-- The judgement of a proof over references, and the statuses and the verdict that it comes from.
pub record IsJudgedProof (flags : Flags) (s : Table) (v : TermsView) (asserted : List ℕ) (refs : ProofItems ℕ ℕ) (j : Judgement) : Type 0 where
  pub statuses : List Status
  pub of : Verdict
  pub are : AreStatusesOf flags s v asserted refs statuses
  pub verdict : IsVerdict statuses refs of
  pub named : NamesIds statuses refs of j
