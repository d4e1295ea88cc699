-- Public. The built-in words, and the symbols of the operators.
use Rattle.std.specs.Prelude.{ℕ, List, [], ◌∷◌, Contains, codes}
use Rattle.term_model.specs.declared.symbols.Op.{Op}

-- the symbol by which a text names an operator (SMT-LIB 2.6, the theories Core and Ints)
abbrev pub operator_symbol : Op → List ℕ
operator_symbol Op.True = codes "true"
operator_symbol Op.False = codes "false"
operator_symbol Op.Not = codes "not"
operator_symbol Op.Implies = codes "=>"
operator_symbol Op.And = codes "and"
operator_symbol Op.Or = codes "or"
operator_symbol Op.Xor = codes "xor"
operator_symbol Op.Equal = codes "="
operator_symbol Op.Distinct = codes "distinct"
operator_symbol Op.Ite = codes "ite"
operator_symbol Op.Minus = codes "-"
operator_symbol Op.Plus = codes "+"
operator_symbol Op.Times = codes "*"
operator_symbol Op.Div = codes "div"
operator_symbol Op.Mod = codes "mod"
operator_symbol Op.LessEq = codes "<="
operator_symbol Op.Less = codes "<"
operator_symbol Op.GreaterEq = codes ">="
operator_symbol Op.Greater = codes ">"

-- the words that nobody declares, names or binds: the symbols of the operators, the reserved words `let` and
-- `!`, the built-in sorts, and the words of what is left out (quantifiers and the like, and the rest of the
-- theory Ints and of Reals_Ints)
abbrev pub built_in_words : List (List ℕ)
built_in_words =
    codes "true" ∷ codes "false" ∷ codes "not" ∷ codes "=>" ∷ codes "and" ∷ codes "or" ∷ codes "xor" ∷ codes "="
    ∷ codes "distinct" ∷ codes "ite" ∷ codes "-" ∷ codes "+" ∷ codes "*" ∷ codes "div" ∷ codes "mod" ∷ codes "<="
    ∷ codes "<" ∷ codes ">=" ∷ codes ">" ∷ codes "let" ∷ codes "!" ∷ codes "Bool" ∷ codes "Int" ∷ codes "forall" ∷ codes "exists"
    ∷ codes "choice" ∷ codes "lambda" ∷ codes "match" ∷ codes "_" ∷ codes "as" ∷ codes "abs" ∷ codes "/"
    ∷ codes "to_real" ∷ codes "to_int" ∷ codes "is_int" ∷ codes "divisible" ∷ []

-- the name is one of them
abbrev pub IsBuiltIn : List ℕ → Type 0
IsBuiltIn name = Contains built_in_words name
