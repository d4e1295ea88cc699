-- Public. The literals that the calls take: their atoms are numbers.
use Rattle.std.specs.Prelude.{ℕ}
use Rattle.rule_model.specs.declared.literal.Literal.{Literal}

abbrev pub Lit : Type 0
Lit = Literal ℕ
