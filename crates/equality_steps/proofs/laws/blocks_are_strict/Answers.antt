use Rattle.std.proofs.Common.{subst}
use Rattle.elaboration_laws.specs.StrictBlocks.{IsStrictStep}
use Rattle.elaborator.specs.Sources.{looked_of}
use Rattle.equality_steps.proofs.LawLemmas.{own_same, step_literals, strict_step}
use Rattle.equality_steps.proofs.laws.blocks_are_strict.Goals as goal

pub returns-clause-strict : goal.returns-clause-strict
returns-clause-strict c p v checking steps number a block refer there = strict_step p v checking steps number a block refer there

pub returns-clause-last : goal.returns-clause-last
returns-clause-last c p v checking steps number a block refer there none =
    subst (λ anchors. IsStrictStep p.symbols.now v checking (looked_of p.proof.now steps anchors a)) (own_same p.proof.now p.command none)
    (strict_step p v checking steps number a block refer there)

pub returns-clause-literals : goal.returns-clause-literals
returns-clause-literals c p v steps number a j table known block there stands = step_literals p v steps number a j table known block there stands
