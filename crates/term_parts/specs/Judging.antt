-- Public. What a rule judges and what is said of it: the steps for which references stand, and when an answer is theirs.
use Rattle.std.specs.Prelude.{◌≡◌, ◌↔◌, ℕ, List, All, Bool, true, false, IsTrue}
use Rattle.std.specs.Borrow.{Bor}
use Rattle.std.specs.List.{AllZip}
use Rattle.sym_table.specs.Table.{Table}
use Rattle.term_model.specs.Terms.{Term}
use Rattle.term_pool.specs.Views.{TermsView, IsTerm, ReferToAll}
use Rattle.rule_model.specs.Conditions.{AlwaysKeepsTruth, IsClauseOfTruths, IsTooWide, Met}
use Rattle.rule_model.specs.Judged.{Judged}
use Rattle.term_parts.specs.declared.answers.Answer.{Answer}
use Rattle.term_parts.specs.declared.steps.Step.{Step}

-- the references of each premise's literals stand for a clause, in order
abbrev pub ReferToClauses : Table → TermsView → List (Bor (List ℕ)) → List (List Term) → Type 0
ReferToClauses s v premises clauses = AllZip (λ references clause. ReferToAll s v references.now clause) premises clauses

-- the references stand for a clause whose literals are well-sorted terms of Bool
pub record StandForTruths (s : Table) (v : TermsView) (literals : List ℕ) : Type 0 where
  pub clause : List Term
  pub refer : ReferToAll s v literals clause
  pub truths : IsClauseOfTruths clause

-- each premise's literals are terms, and those of the step's own clause are well-sorted terms of Bool
pub record IsStepOf (s : Table) (v : TermsView) (step : Step) : Type 0 where
  pub premises : All (λ (references : Bor (List ℕ)). All (IsTerm s v) references.now) step.premises.now
  pub clause : StandForTruths s v step.clause.now

-- It has the step's mode and rule, and the step's references stand for its premises' clauses and for its clause. What else a
-- rule may look at is not said: pivots, coefficients, and what open anchors bind.
pub record StandsForStep (s : Table) (v : TermsView) (step : Step) (j : Judged) : Type 0 where
  pub mode : j.mode ≡ step.mode
  pub rule : j.rule ≡ step.rule
  pub premises : ReferToClauses s v step.premises.now j.premises
  pub clause : ReferToAll s v step.clause.now j.clause

-- the answer by a test
abbrev pub met_if : Bool → Answer
met_if true = Answer.Met
met_if false = Answer.NotMet

-- what an answer says, by whether numbers are too wide and whether a condition is met
abbrev pub Tells : Answer → Type 0 → Type 0 → Type 0
Tells Answer.Met IsWide IsMet = (¬ IsWide) × IsMet
Tells Answer.NotMet IsWide IsMet = (¬ IsWide) × (¬ IsMet)
Tells Answer.TooWide IsWide IsMet = IsWide

-- of each step of a kind, that its numbers are too wide, or else whether it meets the condition of its rule
abbrev pub TellsEach : (Judged → Type 0) → Answer → Type 0
TellsEach Is answer = (j : Judged) → Is j → Tells answer (IsTooWide j) (Met j)

-- each step of a kind keeps truth where it is met
abbrev pub KeepsTruthOfEach : (Judged → Type 0) → Answer → Type 0
KeepsTruthOfEach Is answer = answer ≡ Answer.Met → (j : Judged) → Is j → AlwaysKeepsTruth j

-- a test of the clauses for which the references of a step stand: of those of its premises, and of its own
abbrev pub TestsClauses : Table → TermsView → Step → (List (List Term) → List Term → Type 0) → Bool → Type 0
TestsClauses s v step Asks told =
    (ps : List (List Term)) (ts : List Term) → ReferToClauses s v step.premises.now ps → ReferToAll s v step.clause.now ts → IsTrue told ↔ Asks ps ts
