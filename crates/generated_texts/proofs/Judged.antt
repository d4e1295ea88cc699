-- Private. The judgement of a proof that was read is one of a proof.
use Rattle.std.proofs.Common.{ℕ, List}
use Rattle.sym_table.specs.Table.{Table}
use Rattle.term_pool.specs.Views.{TermsView}
use Rattle.rule_model.specs.Proofs.{ProofItems}
use Rattle.term_reader.specs.declared.flags.Flags.{Flags}
use Rattle.judged_texts.specs.declared.judgement.Judgement.{Judgement}
use Rattle.judged_texts.specs.declared.judgement.Judgement.TheVariants.{Valid, Holey, NoEmptyClause, Faulty, TooWide, RefusedProblem, RefusedProof, PoolFull}
use Rattle.judged_texts.specs.Judging.{IsJudgedProof}
use Rattle.generated_texts.specs.Summaries.{IsOfProof}

pub is_of_proof : (flags : Flags) (s : Table) (v : TermsView) (asserted : List ℕ) (refs : ProofItems ℕ ℕ) (j : Judgement) →
    IsJudgedProof flags s v asserted refs j → IsOfProof j
is_of_proof flags s v asserted refs Valid h = tt
is_of_proof flags s v asserted refs (Holey holes) h = tt
is_of_proof flags s v asserted refs NoEmptyClause h = tt
is_of_proof flags s v asserted refs (Faulty id cause) h = tt
is_of_proof flags s v asserted refs (TooWide id) h = tt
is_of_proof flags s v asserted refs (RefusedProblem r) h = absurd h.named
is_of_proof flags s v asserted refs (RefusedProof r) h = absurd h.named
is_of_proof flags s v asserted refs PoolFull h = absurd h.named
