use Rattle.std.proofs.Common.{◌≡◌, ◌<◌, ◌^◌, take, pos}
use Rattle.sexpr.specs.Words.{numeral_value}
use Rattle.text_items.proofs.numerals.numeral.Given as goal

abbrev pub invariant-digits : goal.invariant-digits
invariant-digits l = (l.value ≡ pos (numeral_value (take l.byte-index l.digits))) × (numeral_value (take l.byte-index l.digits) < 2 ^ 127)
