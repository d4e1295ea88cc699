-- Private. What comes of two texts, by pools of different sizes.
use Rattle.std.proofs.Common.{◌≡◌, ℕ, List, false, true≢false}
use Rattle.command_words.specs.declared.request.Options.{Options}
use Rattle.judged_texts.specs.declared.judgement.Judgement.TheVariants.{Valid, Holey, NoEmptyClause, Faulty, TooWide, RefusedProblem, RefusedProof, PoolFull}
use Rattle.generated_texts.specs.declared.generating.Generated.{Generated}
use Rattle.generated_texts.specs.declared.generating.Generated.TheVariants as generated
use Rattle.generated_texts.specs.Generating.{is_full, ComesOfTexts}

-- What comes of them for which no larger pool is to be tried does not depend on the pool.
pub any_pool : (problem : List ℕ) (options : Options) (proof : List ℕ) (bits most : ℕ) (g : Generated) → is_full g ≡ false →
    ComesOfTexts problem options proof bits g → ComesOfTexts problem options proof most g
any_pool problem options proof bits most (generated.Summed summary) e h = h
any_pool problem options proof bits most (generated.Not Valid) e h = h
any_pool problem options proof bits most (generated.Not (Holey holes)) e h = h
any_pool problem options proof bits most (generated.Not NoEmptyClause) e h = h
any_pool problem options proof bits most (generated.Not (Faulty id cause)) e h = h
any_pool problem options proof bits most (generated.Not (TooWide id)) e h = h
any_pool problem options proof bits most (generated.Not (RefusedProblem r)) e h = h
any_pool problem options proof bits most (generated.Not (RefusedProof r)) e h = h
any_pool problem options proof bits most (generated.Not PoolFull) e h = absurd (true≢false e)
