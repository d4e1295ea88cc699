use Rattle.std.proofs.Common.{◌≡◌, ◌<◌, length, arith}
use Rattle.std.proofs.lemmas.Bool.Decides.{nat_tests}
use Rattle.term_names.proofs.Alone.{macro_made, macro_takes}
use Rattle.term_names.proofs.using.macro_alone.Goals as goal

pub returns-then-is_empty : goal.returns-then-is_empty
returns-then-is_empty c =
    let none : length c.args.defined.now.parameters.items ≡ 0 = grind (arith, nat_tests, c.is_empty.ensures, c.if-is_empty.true, c.args.defined.now.parameters.ok.0) in
    λ s v m meant. macro_made s v c.args.defined.now m none meant

pub returns-else-is_empty : goal.returns-else-is_empty
returns-else-is_empty c =
    let some : 0 < length c.args.defined.now.parameters.items = grind (arith, nat_tests, c.is_empty.ensures, c.if-is_empty.false, c.args.defined.now.parameters.ok.0) in
    λ s v m meant. macro_takes s v c.args.defined.now m some meant
