use Rattle.std.proofs.Common.{◌<◌, length, nat_eq, arith, ap, ◌∙◌}
use Rattle.std.proofs.lemmas.Bool.Decides.{nat_tests}
use Rattle.sexpr.proofs.NumberForms.{is_digits_is}
use Rattle.sexpr.proofs.numbers.is_digits.Goals as goal

pub returns-then-not-is_empty : goal.returns-then-not-is_empty
returns-then-not-is_empty c =
    let some : 0 < length c.args.word.now = grind (arith, nat_tests) in
    ap (λ n. nat_eq n (length c.args.word.now)) c.digits_len.ensures.value ∙ is_digits_is c.args.word.now some
