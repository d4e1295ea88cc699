-- Public. What a lexer reads, and how far it has come.
use Rattle.std.specs.Prelude.{ℕ, List}
use Rattle.sexpr.specs.declared.lexing.Lexer.{Lexer}

-- the whole text
abbrev pub source : Lexer → List ℕ
source l = l.bytes.now

-- the place in the text from which the next read goes on
abbrev pub position : Lexer → ℕ
position l = l.place
