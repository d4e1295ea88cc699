use Rattle.std.proofs.Common.{◌-◌, ◌+◌, ◌∙◌, ◌&&◌, sym, ap, length, take, drop}
use Rattle.sexpr.specs.Words.{is_numeral}
use Rattle.sexpr.proofs.NumberForms.{ratio_cut}
use Rattle.sexpr.proofs.numbers.is_ratio.Goals as goal

pub returns-then-is_numeral : goal.returns-then-is_numeral
returns-then-is_numeral c =
    let word = c.args.word.now in
    let n = c.digits_len-len.result in
    c.is_numeral-then-is_numeral.ensures
    ∙ sym (ratio_cut word n c.digits_len-len.ensures.value c.if-len-word.true c.if-word-len-eq47.true
    ∙ ap (λ whole. whole && is_numeral (take (length word - (n + 1)) (drop (n + 1) word))) (sym c.is_numeral.ensures ∙ c.if-is_numeral.true))

pub returns-else-is_numeral : goal.returns-else-is_numeral
returns-else-is_numeral c =
    let word = c.args.word.now in
    let n = c.digits_len-len.result in
    c.if-is_numeral.false
    ∙ sym (ratio_cut word n c.digits_len-len.ensures.value c.if-len-word.true c.if-word-len-eq47.true
    ∙ ap (λ whole. whole && is_numeral (take (length word - (n + 1)) (drop (n + 1) word))) (sym c.is_numeral.ensures ∙ c.if-is_numeral.false))
