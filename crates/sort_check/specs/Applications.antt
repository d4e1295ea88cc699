-- Public. The symbols that head an application, and the sort that the application has (SMT-LIB 2.6, "Terms and
-- Formulas" and "Well-sorted terms").
use Rattle.std.specs.Prelude.{ℕ, List, Bool, true, false, IsTrue, Option, None}
use Rattle.term_model.specs.declared.symbols.Sort.{Sort}
use Rattle.term_model.specs.Sorts.{application_sort, call_sort}
use Rattle.sym_table.specs.declared.kind.Kind.{Kind}
use Rattle.sym_table.specs.Leaf.{Leaf, nil, let_head, operator, function, variable, numeral}
use Rattle.sym_table.specs.Table.{Table, LeafMeets}

-- whether the symbol is an operator or a declared function
abbrev pub is_head : Leaf → Bool
is_head nil = false
is_head let_head = false
is_head (operator op) = true
is_head (function name arguments target) = true
is_head (variable name sort) = false
is_head (numeral n) = false

-- leaf k is there, and stands for an operator or a declared function
abbrev pub IsHead : Table → ℕ → Type 0
IsHead s k = LeafMeets s k (λ l. IsTrue (is_head l))

-- whether the kind is that of an operator or a declared function
abbrev pub is_head_kind : Kind → Bool
is_head_kind Kind.Nil = false
is_head_kind Kind.Let = false
is_head_kind (Kind.Op op) = true
is_head_kind (Kind.Fun number) = true
is_head_kind (Kind.Var sort) = false
is_head_kind (Kind.Num n) = false

-- the sort of the symbol applied to arguments of these sorts, or none where it may not be applied to them
abbrev pub applied_sort : Leaf → List Sort → Option Sort
applied_sort nil ss = None
applied_sort let_head ss = None
applied_sort (operator op) ss = application_sort op ss
applied_sort (function name arguments target) ss =
    call_sort (record { name = name; arguments = arguments; target = target }) ss
applied_sort (variable name sort) ss = None
applied_sort (numeral n) ss = None
