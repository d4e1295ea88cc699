-- Private. What is said in place of an elaboration.
use Rattle.std.proofs.Common.{◌⊎◌, inl, inr, ℕ, List, None}
use Rattle.command_words.specs.declared.request.Options.{Options}
use Rattle.judged_texts.specs.declared.judgement.Judgement.{Judgement}
use Rattle.judged_texts.specs.declared.judgement.Judgement.TheVariants.{Valid, Holey, NoEmptyClause, Faulty, TooWide, RefusedProblem, RefusedProof, PoolFull}
use Rattle.elaborated_texts.specs.Elaborated.{IsJudgementInstead, NeedsRoomToElaborate}
use Rattle.judged_texts.specs.Judgement.{IsJudgement}
use Rattle.judged_texts.specs.Reading.{NeedsRoom}
use Rattle.elaborated_texts.specs.Statuses.{IsPrintedOf}
use Rattle.judged_texts.specs.Texts.{IsNotRead}
use Rattle.judged_texts.proofs.CellLemmas.{more_cells_of}

-- what was not read comes to this
pub not_read : (problem : List ℕ) (options : Options) (proof : List ℕ) (bits : ℕ) (j : Judgement) → IsNotRead problem options proof bits j
    → IsJudgement problem options proof bits j
not_read problem options proof bits (RefusedProblem r) h = h
not_read problem options proof bits (RefusedProof r) h = h
not_read problem options proof bits PoolFull h = h
not_read problem options proof bits Valid h = absurd h
not_read problem options proof bits (Holey holes) h = absurd h
not_read problem options proof bits NoEmptyClause h = absurd h
not_read problem options proof bits (Faulty id cause) h = absurd h
not_read problem options proof bits (TooWide id) h = absurd h

pub not_read_instead : (problem : List ℕ) (options : Options) (proof : List ℕ) (bits : ℕ) (j : Judgement) → IsNotRead problem options proof bits j
    → IsJudgementInstead problem options proof bits j
not_read_instead problem options proof bits (RefusedProblem r) h = h
not_read_instead problem options proof bits (RefusedProof r) h = h
not_read_instead problem options proof bits PoolFull h =
    inl (more_cells_of (NeedsRoom problem options proof) (NeedsRoomToElaborate problem options proof) _ (λ u k. inl k) h)
not_read_instead problem options proof bits Valid h = absurd h
not_read_instead problem options proof bits (Holey holes) h = absurd h
not_read_instead problem options proof bits NoEmptyClause h = absurd h
not_read_instead problem options proof bits (Faulty id cause) h = absurd h
not_read_instead problem options proof bits (TooWide id) h = absurd h

-- a judgement of which no elaboration is printed
pub judged_instead : (problem : List ℕ) (options : Options) (proof : List ℕ) (bits : ℕ) (j : Judgement) → IsPrintedOf j None
    → IsJudgement problem options proof bits j → IsJudgementInstead problem options proof bits j
judged_instead problem options proof bits Valid none h = cc
judged_instead problem options proof bits (Holey holes) none h = cc
judged_instead problem options proof bits NoEmptyClause none h = h
judged_instead problem options proof bits (Faulty id cause) none h = h
judged_instead problem options proof bits (TooWide id) none h = h
judged_instead problem options proof bits (RefusedProblem r) none h = h
judged_instead problem options proof bits (RefusedProof r) none h = h
judged_instead problem options proof bits PoolFull none h =
    inl (more_cells_of (NeedsRoom problem options proof) (NeedsRoomToElaborate problem options proof) _ (λ u k. inl k) h)

pub or_weaker : {A B C : Type 0} → (B → C) → A ⊎ B → A ⊎ C
or_weaker f (inl a) = inl a
or_weaker f (inr b) = inr (f b)
