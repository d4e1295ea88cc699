-- How filling ends, by pools of different sizes.
use Rattle.std.proofs.Common.{◌≡◌, ◌≢◌, inl, inr, ℕ, Bool, List, [], Vec, append-nil, sym, ◌∙◌, subst, true, false, true≢false, refl}
use Rattle.std.specs.declared.alloc.Global.{Global}
use Rattle.command_words.specs.declared.request.Options.{Options}
use Rattle.judged_texts.specs.declared.judgement.Hole.{Hole}
use Rattle.judged_texts.specs.declared.judgement.Judgement.{Judgement}
use Rattle.judged_texts.specs.declared.judgement.Judgement.TheVariants.{Valid, Holey, NoEmptyClause, Faulty, TooWide, RefusedProblem, RefusedProof, PoolFull}
use Rattle.rule_model.specs.declared.statuses.Verdict.{Verdict}
use Rattle.judged_texts.specs.Judgement.{IsCheckedAs, IsJudgement}
use Rattle.judged_texts.specs.Texts.{IsNotRead}
use Rattle.hole_fillers.specs.Benches.{Seat}
use Rattle.filled_texts.specs.declared.filling.End.{End}
use Rattle.filled_texts.specs.declared.filling.End.TheVariants as end
use Rattle.filled_texts.specs.declared.filling.ToFill.{ToFill}
use Rattle.filled_texts.specs.declared.asking.Stop.{Stop}
use Rattle.filled_texts.specs.Asking.{ArePut}
use Rattle.filled_texts.specs.Filled.{questions, AreAskedFirst, AreAskedInOrder, EndsFrom, IsJudgementWithoutHoles, StopsSo}
use Rattle.filled_texts.specs.ToFill.{is_full, FillsFrom}
use Rattle.filled_texts.proofs.ManyQuestions.{stops_behind}

-- what was not read is judged so
pub not_read : (problem : List ℕ) (options : Options) (proof : List ℕ) (bits : ℕ) (j : Judgement) → IsNotRead problem options proof bits j →
    IsJudgementWithoutHoles problem options proof bits j
not_read problem options proof bits (RefusedProblem r) h = h
not_read problem options proof bits (RefusedProof r) h = h
not_read problem options proof bits PoolFull h = h
not_read problem options proof bits Valid h = absurd h
not_read problem options proof bits (Holey holes) h = absurd h
not_read problem options proof bits NoEmptyClause h = absurd h
not_read problem options proof bits (Faulty id cause) h = absurd h
not_read problem options proof bits (TooWide id) h = absurd h

-- a judgement that names no holes
pub without_holes : (problem : List ℕ) (options : Options) (proof : List ℕ) (bits : ℕ) (j : Judgement) → ((holes : Vec Hole Global) → j ≢ Holey holes) →
    IsJudgement problem options proof bits j → IsJudgementWithoutHoles problem options proof bits j
without_holes problem options proof bits (RefusedProblem r) n h = h
without_holes problem options proof bits (RefusedProof r) n h = h
without_holes problem options proof bits PoolFull n h = h
without_holes problem options proof bits Valid n h = h
without_holes problem options proof bits (Holey holes) n h = absurd (n holes refl)
without_holes problem options proof bits NoEmptyClause n h = h
without_holes problem options proof bits (Faulty id cause) n h = h
without_holes problem options proof bits (TooWide id) n h = h

module _ (problem : List ℕ) (options : Options) (proof : List ℕ) (own most bits : ℕ) (old new : List Seat) where
  -- an end for which no larger pool is to be tried does not depend on the pool
  any_pool : (e : End) → is_full e ≡ false → EndsFrom problem options proof own bits old new e → EndsFrom problem options proof most bits old new e
  any_pool (end.Judged Valid) e h = h
  any_pool (end.Judged (Holey holes)) e h = h
  any_pool (end.Judged NoEmptyClause) e h = h
  any_pool (end.Judged (Faulty id cause)) e h = h
  any_pool (end.Judged (TooWide id)) e h = h
  any_pool (end.Judged (RefusedProblem r)) e h = h
  any_pool (end.Judged (RefusedProof r)) e h = h
  any_pool (end.Judged PoolFull) e h = absurd (true≢false e)
  any_pool (end.Asked asked) e h = h
  any_pool (end.Stopped stop) e h = h

  -- and else nobody was asked
  nobody : (e : End) → is_full e ≡ true → EndsFrom problem options proof own bits old new e → new ≡ old
  nobody (end.Judged j) e h = h.0
  nobody (end.Asked asked) e h = absurd (true≢false (sym e))
  nobody (end.Stopped stop) e h = absurd (true≢false (sym e))

module _ (t : ToFill) (own most : ℕ) (first before after : List Seat) (same : before ≡ first) (e : End) where
  pub ends : is_full e ≡ false → FillsFrom t own before after e → FillsFrom t most first after e
  ends not_full h =
      subst (λ x. FillsFrom t most x after e) same
      (any_pool t.texts.problem.now t.texts.options t.texts.proof.now own most t.most_bits before after e not_full h)

  pub goes_on : is_full e ≡ true → FillsFrom t own before after e → after ≡ first
  goes_on full h = nobody t.texts.problem.now t.texts.options t.texts.proof.now own most t.most_bits before after e full h ∙ same

  pub ends_at_last : FillsFrom t own before after e → FillsFrom t own first after e
  ends_at_last h = subst (λ x. FillsFrom t own x after e) same h

module _ (problem : List ℕ) (options : Options) (proof : List ℕ) (own bits : ℕ) (old new : List Seat) where
  stopped : (stop : Stop) → StopsSo problem options proof bits old new stop → AreAskedInOrder problem options proof bits old new
  stopped stop (inl h) = inl h.0
  stopped stop (inr h) = inr (record { checked = h.0; stop = stop; put = h.1 })

  all_first : (checked : IsCheckedAs problem options proof Verdict.Holey) (filled : List Bool) → ArePut (questions checked) old new filled →
      AreAskedFirst problem options proof bits old new
  all_first checked filled put = record {
    checked = checked;
    stop = Stop.Memory;
    put = stops_behind bits (questions checked) (questions checked) [] old new filled (sym (append-nil (questions checked))) put;
  }

  pub in_order : (e : End) → EndsFrom problem options proof own bits old new e → AreAskedInOrder problem options proof bits old new
  in_order (end.Judged j) h = inl h.0
  in_order (end.Asked asked) h = inr (all_first h.checked asked.filled.items h.put)
  in_order (end.Stopped stop) h = stopped stop h
