-- Private. The classes of bytes that the lexer's table holds.
use Rattle.std.specs.Prelude.{ℕ, if◌then◌else◌}
use Rattle.sexpr.specs.declared.bytes.Class.{Class}
use Rattle.sexpr.specs.declared.bytes.Class.TheVariants.{Other, White, Word}
use Rattle.sexpr.specs.Characters.{is_white, is_word_byte}

unfoldable pub class_of : ℕ → Class
class_of b = if is_white b then White else if is_word_byte b then Word else Other
