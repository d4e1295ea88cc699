-- Private. Numerals.
use Rattle.std.specs.Prelude.{ℤ, pos, Option, Some, None}
use Rattle.term_model.specs.Terms.{Term, numeral}

-- the number of a numeral
abbrev pub numeral_number : Term → Option ℤ
numeral_number (numeral n) = Some (pos n)
numeral_number _ = None
