-- Public. Constants of Int in terms: a numeral, or `(- n)` of one.
use Rattle.std.specs.Prelude.{ℤ, pos, neg_ℤ, Option, Some, None}
use Rattle.term_model.specs.declared.symbols.Op.{Op}
use Rattle.term_model.specs.Terms.{Term, numeral, operation, term, no_terms}

-- the number that a constant stands for
abbrev pub constant_of : Term → Option ℤ
constant_of (numeral n) = Some (pos n)
constant_of (operation Op.Minus (term (numeral n) no_terms)) = Some (neg_ℤ (pos n))
constant_of _ = None
