-- Public. Parts of patterns in prefix order, and when terms are an instance of patterns.
use Rattle.std.specs.Prelude.{◌≡◌, ◌↔◌, List, [], ◌∷◌, map}
use Rattle.sym_table.specs.Table.{Table}
use Rattle.term_model.specs.Terms.{Term}
use Rattle.term_pool.specs.Views.{TermsView}
use Rattle.rule_model.specs.declared.letter.Letter.{Letter}
use Rattle.rule_model.specs.Schemas.{Pattern, letter, nullary, unary, binary, ternary, fill}
use Rattle.schema_match.specs.declared.letters.Letters.{Letters}
use Rattle.schema_match.specs.declared.part.Part.{Part}
use Rattle.schema_match.specs.declared.part.Part.TheVariants.{Any, Apply}
use Rattle.schema_match.specs.Letters.{Agrees}

-- the parts of a pattern, and then others
abbrev pub prefix : Pattern → List Part → List Part
prefix (letter l) rest = Any l ∷ rest
prefix (nullary op) rest = Apply op 0 ∷ rest
prefix (unary op p) rest = Apply op 1 ∷ prefix p rest
prefix (binary op p q) rest = Apply op 2 ∷ prefix p (prefix q rest)
prefix (ternary op p q r) rest = Apply op 3 ∷ prefix p (prefix q (prefix r rest))

-- the parts of patterns in order
abbrev pub parts_of : List Pattern → List Part
parts_of [] = []
parts_of (p ∷ ps) = prefix p (parts_of ps)

-- some terms, put in for the letters, give these terms
abbrev pub Fits : List Pattern → List Term → Type 0
Fits ps ts = (terms : Letter → Term) × (ts ≡ map (fill terms) ps)

-- these letters are what gives them: some terms agree with the letters, and those that do are those that give these terms
pub record Matches (s : Table) (v : TermsView) (letters : Letters) (ps : List Pattern) (ts : List Term) : Type 0 where
  pub terms : Letter → Term
  pub agrees : Agrees s v letters terms
  pub give : (f : Letter → Term) → (ts ≡ map (fill f) ps) ↔ Agrees s v letters f
