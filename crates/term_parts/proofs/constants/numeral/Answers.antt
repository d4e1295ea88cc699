-- By the shape of the term.
use Rattle.std.proofs.Common.{FitsSigned, rules}
use Rattle.std.proofs.lemmas.Int.{to_z-of_z}
use Rattle.term_parts.proofs.ConstantLemmas.{numeral_shape, natural_shape, other_shape}
use Rattle.term_parts.proofs.constants.numeral.Goals as goal

pub returns-in-Num-clause-numeral : goal.returns-in-Num-clause-numeral
returns-in-Num-clause-numeral c t refers =
    let fits : FitsSigned mir.Syntax.w128 c.in-Num.n = search rules in
    rw (to_z-of_z _ _ fits) (numeral_shape c.args.symbols.now t c.in-Num.n (c.in-Num.ensures.shape t refers))

pub returns-in-Num-clause-natural : goal.returns-in-Num-clause-natural
returns-in-Num-clause-natural c =
    let fits : FitsSigned mir.Syntax.w128 c.in-Num.n = search rules in
    rw (to_z-of_z _ _ fits) (natural_shape c.args.symbols.now c.requires.means c.in-Num.n (c.in-Num.ensures.shape c.requires.means c.requires.refers))

pub returns-in_default-clause-numeral : goal.returns-in_default-clause-numeral
returns-in_default-clause-numeral c t refers = other_shape c.args.symbols.now t c.view.result (c.view.ensures.shape t refers) c.in_default.not-Num
