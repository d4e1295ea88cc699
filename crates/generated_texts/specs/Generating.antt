-- Public. What comes of the generator's two texts.
use Rattle.std.specs.Prelude.{ℕ, Bool, true, false, List}
use Rattle.proof_gen.specs.Texts.{problem_text, proof_text}
use Rattle.command_words.specs.declared.request.Options.{Options}
use Rattle.judged_texts.specs.declared.judgement.Judgement.TheVariants.{PoolFull}
use Rattle.judged_texts.specs.Texts.{IsNotRead}
use Rattle.generated_texts.specs.Summaries.{no_options, IsSummary}
use Rattle.generated_texts.specs.declared.generating.Generated.{Generated}
use Rattle.generated_texts.specs.declared.generating.Generated.TheVariants as generated

-- Of two texts, where the largest pool has 2^bits places: their summary; or that one is refused, or that this pool is full, since more cells
-- need room.
abbrev pub ComesOfTexts : List ℕ → Options → List ℕ → ℕ → Generated → Type 0
ComesOfTexts problem options proof bits (generated.Summed summary) = IsSummary problem options proof summary
ComesOfTexts problem options proof bits (generated.Not judgement) = IsNotRead problem options proof bits judgement

-- The same of the two texts of n links. That these are never refused is not said here.
abbrev pub ComesOfLinks : ℕ → ℕ → Generated → Type 0
ComesOfLinks n bits = ComesOfTexts (problem_text n) no_options (proof_text n) bits

-- whether a larger pool is to be tried
abbrev pub is_full : Generated → Bool
is_full (generated.Not PoolFull) = true
is_full g = false
