-- Cited by crates above. The judgement of a verdict on the two texts.
use Rattle.std.proofs.Common.{◌≡◌, ℕ, suc, List, [], ◌∷◌, refl, ◌∙◌}
use Rattle.sym_table.specs.Table.{Table}
use Rattle.term_model.specs.Terms.{Var, Term}
use Rattle.term_pool.specs.Views.{TermsView}
use Rattle.rule_model.specs.declared.statuses.Status.{Status}
use Rattle.rule_model.specs.declared.statuses.Verdict.{Verdict}
use Rattle.rule_model.specs.Proofs.{ProofItems}
use Rattle.judged_texts.specs.declared.judgement.Judgement.{Judgement}
use Rattle.judged_texts.specs.declared.judgement.Judgement.TheVariants.{Valid, Holey, NoEmptyClause, Faulty, TooWide, RefusedProblem, RefusedProof, PoolFull}
use Rattle.command_words.specs.declared.request.Options.{Options}
use Rattle.judged_texts.specs.Holes.{holes_from}
use Rattle.judged_texts.specs.Judgement.{IsCheckedAs, IsJudgement}
use Rattle.judged_texts.specs.Judging.{Corresponds, IsJudgedProof}
use Rattle.judged_texts.specs.Texts.{flags_of, IsReadProof}
use Rattle.judged_texts.proofs.VerdictLemmas.{verdict_stands}

-- the same commands have the same holes
holes_stand : (refs : ProofItems ℕ ℕ) (proof : ProofItems Var Term) (s : Table) (v : TermsView) → Corresponds s v refs proof → (i : ℕ) (statuses : List Status) → holes_from refs i statuses ≡ holes_from proof i statuses
holes_stand refs proof s v same i [] = refl
holes_stand refs proof s v same i (Status.Ok ∷ statuses) = holes_stand refs proof s v same (suc i) statuses
holes_stand refs proof s v same i (Status.Hole ∷ statuses) = rw (same.ids i, same.rules i, holes_stand refs proof s v same (suc i) statuses) refl
holes_stand refs proof s v same i (Status.Faulty cause ∷ statuses) = holes_stand refs proof s v same (suc i) statuses
holes_stand refs proof s v same i (Status.Wide ∷ statuses) = holes_stand refs proof s v same (suc i) statuses

module _ (problem : List ℕ) (options : Options) (text : List ℕ) (bits : ℕ) (s : Table) (v : TermsView) (asserted : List ℕ) (refs : ProofItems ℕ ℕ)
    (both : IsReadProof problem options text s v asserted refs) (same : Corresponds s v refs both.read.proof) where
  abbrev pub checked_as : (j : Judgement) (h : IsJudgedProof (flags_of options) s v asserted refs j) (of : Verdict) → h.of ≡ of
      → IsCheckedAs problem options text of
  checked_as j h of e = record {
    script = both.script;
    commands = both.read.proof;
    after = both.read.after;
    statuses = h.statuses;
    problem_text = both.problem_text;
    proof_text = both.read.stands;
    are = h.are both.read.proof both.script.assertions both.read.refer both.assertions;
    verdict = rw e at (verdict_stands s v refs both.read.proof same h.statuses h.of h.verdict);
  }

  pub judged_proof : (j : Judgement) → IsJudgedProof (flags_of options) s v asserted refs j → IsJudgement problem options text bits j
  judged_proof Valid h = checked_as Valid h Verdict.Valid h.named
  judged_proof (Holey holes) h = (checked_as (Holey holes) h Verdict.Holey h.named.0, h.named.1 ∙ holes_stand refs both.read.proof s v same 0 h.statuses)
  judged_proof NoEmptyClause h = checked_as NoEmptyClause h Verdict.NoEmpty h.named
  judged_proof (Faulty id cause) h = (h.named.0, checked_as (Faulty id cause) h (Verdict.InvalidAt h.named.0 cause) h.named.1, h.named.2 ∙ same.ids h.named.0)
  judged_proof (TooWide id) h = (h.named.0, checked_as (TooWide id) h (Verdict.Unknown h.named.0) h.named.1, h.named.2 ∙ same.ids h.named.0)
  judged_proof (RefusedProblem r) h = absurd h.named
  judged_proof (RefusedProof r) h = absurd h.named
  judged_proof PoolFull h = absurd h.named
