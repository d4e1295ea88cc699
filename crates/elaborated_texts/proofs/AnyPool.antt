-- An elaboration's end, by pools of different sizes.
use Rattle.std.proofs.Common.{◌≡◌, ℕ, List, sym, true, false, true≢false}
use Rattle.command_words.specs.declared.request.Options.{Options}
use Rattle.judged_texts.specs.declared.judgement.Judgement.TheVariants.{Valid, Holey, NoEmptyClause, Faulty, TooWide, RefusedProblem, RefusedProof, PoolFull}
use Rattle.elaborated_texts.specs.declared.elaborating.End.{End}
use Rattle.elaborated_texts.specs.declared.elaborating.End.TheVariants as end
use Rattle.named_proofs.specs.Written.{SinkView}
use Rattle.elaborated_texts.specs.Ending.{EndsSo}
use Rattle.elaborated_texts.specs.Making.{is_full}

-- An end for which no larger pool is to be tried does not depend on the pool.
module _ (problem : List ℕ) (options : Options) (proof : List ℕ) (bits most : ℕ) (first last : SinkView) where
  pub any_pool : (e : End) → is_full e ≡ false → EndsSo problem options proof bits first last e → EndsSo problem options proof most first last e
  any_pool (end.Instead Valid) e h = h
  any_pool (end.Instead (Holey holes)) e h = h
  any_pool (end.Instead NoEmptyClause) e h = h
  any_pool (end.Instead (Faulty id cause)) e h = h
  any_pool (end.Instead (TooWide id)) e h = h
  any_pool (end.Instead (RefusedProblem r)) e h = h
  any_pool (end.Instead (RefusedProof r)) e h = h
  any_pool (end.Instead PoolFull) e h = absurd (true≢false e)
  any_pool (end.Written status) e h = h
  any_pool end.Failed e h = h
  any_pool end.Memory e h = h

  -- and else nothing was written
  pub nothing_written : (e : End) → is_full e ≡ true → EndsSo problem options proof bits first last e → last ≡ first
  nothing_written (end.Instead j) e h = h.0
  nothing_written (end.Written status) e h = absurd (true≢false (sym e))
  nothing_written end.Failed e h = absurd (true≢false (sym e))
  nothing_written end.Memory e h = absurd (true≢false (sym e))
