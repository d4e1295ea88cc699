-- Public. The words of scripts (SMT-LIB 2.6, "Scripts" and "Commands") that are read, and those that are left out.
use Rattle.std.specs.Prelude.{ℕ, Bool, List, [], ◌∷◌, codes, bytes_eq, find, Option}
use Rattle.std.specs.List.{list_any}
use Rattle.term_model.specs.declared.symbols.Op.{Op}
use Rattle.sym_table.specs.Words.{operator_symbol, built_in_words}

-- the name is one of these
abbrev pub is_among : List (List ℕ) → List ℕ → Bool
is_among names name = list_any (bytes_eq name) names

-- nobody declares, names or binds a built-in word
abbrev pub is_built_in : List ℕ → Bool
is_built_in name = is_among built_in_words name

-- the operators of the theories Core and Ints, and the one of a name
abbrev pub operators : List Op
operators =
    Op.True ∷ Op.False ∷ Op.Not ∷ Op.Implies ∷ Op.And ∷ Op.Or ∷ Op.Xor ∷ Op.Equal ∷ Op.Distinct ∷ Op.Ite
    ∷ Op.Minus ∷ Op.Plus ∷ Op.Times ∷ Op.Div ∷ Op.Mod ∷ Op.LessEq ∷ Op.Less ∷ Op.GreaterEq ∷ Op.Greater ∷ []

abbrev pub operator_named : List ℕ → Option Op
operator_named name = find (λ op. bytes_eq (operator_symbol op) name) operators

-- The logics that may be set. None restricts the terms that follow it.
abbrev pub logics : List (List ℕ)
logics = codes "QF_UF" ∷ codes "QF_LIA" ∷ codes "QF_UFLIA" ∷ codes "QF_IDL" ∷ codes "QF_UFIDL" ∷ []

-- binders other than let, matching, indexed and qualified names, and the rest of Ints and Reals_Ints
abbrev pub left_out_words : List (List ℕ)
left_out_words =
    codes "forall" ∷ codes "exists" ∷ codes "choice" ∷ codes "lambda" ∷ codes "match" ∷ codes "_" ∷ codes "as"
    ∷ codes "abs" ∷ codes "/" ∷ codes "to_real" ∷ codes "to_int" ∷ codes "is_int" ∷ codes "divisible" ∷ []

-- the sorts of other theories
abbrev pub left_out_sorts : List (List ℕ)
left_out_sorts = codes "Real" ∷ codes "String" ∷ codes "RegLan" ∷ codes "Array" ∷ []

-- the commands of the standard that are not read
abbrev pub left_out_commands : List (List ℕ)
left_out_commands =
    codes "define-sort" ∷ codes "define-fun-rec" ∷ codes "define-funs-rec" ∷ codes "declare-datatype"
    ∷ codes "declare-datatypes" ∷ codes "push" ∷ codes "pop" ∷ codes "reset" ∷ codes "reset-assertions"
    ∷ codes "check-sat-assuming" ∷ codes "get-model" ∷ codes "get-value" ∷ codes "get-assertions"
    ∷ codes "get-assignment" ∷ codes "get-info" ∷ codes "get-option" ∷ codes "get-unsat-assumptions" ∷ codes "echo" ∷ []
