-- Public. The terms and the table of the worked examples.
use Rattle.std.specs.Prelude.{ℕ, pos, [], ◌∷◌}
use Rattle.term_model.specs.declared.symbols.Sort.{Sort}
use Rattle.term_model.specs.declared.symbols.Op.{Op}
use Rattle.term_model.specs.Terms.{Var, Term, numeral, operation, no_terms, term}
use Rattle.term_model.specs.Values.{Value, whole}
use Rattle.term_model.specs.Interpretations.{FunctionTable}

abbrev pub number : ℕ → Value
number n = whole (pos n)

-- `false`
abbrev pub falsehood : Term
falsehood = operation Op.False no_terms

-- `(- n)`
abbrev pub minus : ℕ → Term
minus n = operation Op.Minus (term (numeral n) no_terms)

-- the variables `x` and `y` of the sort Int
abbrev pub x : Var
x = record { name = 120 ∷ []; sort = Sort.Int }

abbrev pub y : Var
y = record { name = 121 ∷ []; sort = Sort.Int }

abbrev pub table : FunctionTable
table = record {
  rows = record { arguments = number 1 ∷ []; result = number 5 }
      ∷ record { arguments = number 1 ∷ []; result = number 6 } ∷ [];
  default = number 7;
}
