-- Public. Schemas of rules. A schema has letters, and a step is an instance of it where terms can be put in for them so
-- that its premises and its clause come out.
use Rattle.std.specs.Prelude.{◌≡◌, List, [], ◌∷◌, map, Option, Some, None}
use Rattle.term_model.specs.declared.symbols.Op.{Op}
use Rattle.term_model.specs.Terms.{Term, operation, no_terms, term}
use Rattle.rule_model.specs.declared.letter.Letter.{Letter}

-- a letter, or an operator over no pattern, or over one, two or three
pub data Pattern : Type 0 where
  letter : Letter → Pattern
  nullary : Op → Pattern
  unary : Op → Pattern → Pattern
  binary : Op → Pattern → Pattern → Pattern
  ternary : Op → Pattern → Pattern → Pattern → Pattern

-- the term that a pattern becomes where these terms are put in for its letters
abbrev pub fill : (Letter → Term) → Pattern → Term
fill terms (letter l) = terms l
fill terms (nullary op) = operation op no_terms
fill terms (unary op p) = operation op (term (fill terms p) no_terms)
fill terms (binary op p q) = operation op (term (fill terms p) (term (fill terms q) no_terms))
fill terms (ternary op p q r) =
    operation op (term (fill terms p) (term (fill terms q) (term (fill terms r) no_terms)))

-- the premises, each of which is a unit clause, and the literals of the clause in order
pub record Schema : Type 0 where
  pub premises : List Pattern
  pub clause : List Pattern

-- the schema of a rule without premises, and of a rule with one
abbrev pub tautology : List Pattern → Option Schema
tautology clause = Some (record { premises = []; clause = clause })

abbrev pub from : Pattern → List Pattern → Option Schema
from premise clause = Some (record { premises = premise ∷ []; clause = clause })

-- some terms, put in for the letters, give these premises' clauses and this clause
pub record IsInstance (schema : Schema) (premises : List (List Term)) (clause : List Term) : Type 0 where
  pub terms : Letter → Term
  pub units : premises ≡ map (λ p. fill terms p ∷ []) schema.premises
  pub literals : clause ≡ map (fill terms) schema.clause

-- the same of a rule that may have no schema: nothing is an instance of none
abbrev pub IsInstanceOf : Option Schema → List (List Term) → List Term → Type 0
IsInstanceOf (Some schema) premises clause = IsInstance schema premises clause
IsInstanceOf None premises clause = ⊥
