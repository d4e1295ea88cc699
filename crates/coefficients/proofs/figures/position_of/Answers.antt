-- The first byte that is the one that is looked for, or none.
use Rattle.std.proofs.Common.{◌==◌, arith, sym, eq-eqb}
use Rattle.std.proofs.lemmas.List.Sums.{position_or_len_is}
use Rattle.coefficients.proofs.figures.position_of.Goals as goal

pub returns-else-word-len-clause-value : goal.returns-else-word-len-clause-value
returns-else-word-len-clause-value c =
    sym (position_or_len_is (λ b. b == c.args.byte) c.args.word.now c.bytes.len 0 c.bytes.invariant.within c.bytes.invariant.others (λ h. eq-eqb _ _ c.if-word-len.false))

pub returns-after-bytes-clause-value : goal.returns-after-bytes-clause-value
returns-after-bytes-clause-value c =
    sym (position_or_len_is (λ b. b == c.args.byte) c.args.word.now c.bytes.len 0 c.bytes.invariant.within c.bytes.invariant.others (λ h. absurd (omega arith)))
