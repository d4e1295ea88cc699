-- Public. What the letters of a schema stand for.
use Rattle.std.specs.Prelude.{ℕ, Option, Some, None, ⊤}
use Rattle.sym_table.specs.Table.{Table}
use Rattle.term_model.specs.Terms.{Term}
use Rattle.term_pool.specs.Views.{TermsView, RefersTo}
use Rattle.rule_model.specs.declared.letter.Letter.{Letter}
use Rattle.schema_match.specs.declared.letters.Letters.{Letters}

-- what a letter stands for
abbrev pub slot : Letters → Letter → Option ℕ
slot letters Letter.A = letters.a
slot letters Letter.B = letters.b
slot letters Letter.C = letters.c
slot letters Letter.D = letters.d

-- a letter that is settled stands for this term
abbrev pub IsSettledAt : Table → TermsView → Option ℕ → Term → Type 0
IsSettledAt s v None t = ⊤
IsSettledAt s v (Some r) t = RefersTo s v r t

-- the letters that are settled stand for these terms
abbrev pub Agrees : Table → TermsView → Letters → (Letter → Term) → Type 0
Agrees s v letters f = (l : Letter) → IsSettledAt s v (slot letters l) (f l)
