-- Private. Which tokens are brackets.
use Rattle.std.specs.Prelude.{Bool, true, false, Some, None, Ok, Err}
use Rattle.sexpr.specs.declared.lexing.TokenKind.{TokenKind}
use Rattle.sexpr.specs.declared.lexing.TokenKind.TheVariants.{Open, Close, Text, Quoted, Word}
use Rattle.sexpr.specs.Tokens.{Read}

abbrev pub is_close : TokenKind → Bool
is_close Open = false
is_close Close = true
is_close Text = false
is_close Quoted = false
is_close Word = false

abbrev pub is_bracket : TokenKind → Bool
is_bracket Open = true
is_bracket Close = true
is_bracket Text = false
is_bracket Quoted = false
is_bracket Word = false

abbrev pub is_open : TokenKind → Bool
is_open Open = true
is_open Close = false
is_open Text = false
is_open Quoted = false
is_open Word = false

-- what is read begins with a bracket
abbrev pub begins_bracket : Read → Bool
begins_bracket (Ok (Some t)) = is_bracket t.kind
begins_bracket (Ok None) = false
begins_bracket (Err refusal) = false
