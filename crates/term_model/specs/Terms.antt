-- Public. Terms as trees (SMT-LIB 2.6, "Terms and Formulas"). Macros and named terms are replaced, and attributes are
-- gone. Two terms are equal where the trees are. A declared sort is known by its number in the order of
-- declaration, from 0, so a term means the same wherever its text is read.
use Rattle.std.specs.Prelude.{ℕ, List, [], ◌∷◌, Bool, true, false, ◌&&◌, ◌==◌, bytes_eq}
use Rattle.term_model.specs.declared.symbols.Sort.{Sort}
use Rattle.term_model.specs.declared.symbols.Op.{Op}

-- a variable: a name, as its bytes, with a sort. One name with two sorts is two variables.
pub record Var : Type 0 where
  pub name : List ℕ
  pub sort : Sort

-- a declared function: its name, the sorts of its arguments and its target sort
pub record Fun : Type 0 where
  pub name : List ℕ
  pub arguments : List Sort
  pub target : Sort

-- whether two sorts, and two variables, are equal
abbrev pub sort_eq : Sort → Sort → Bool
sort_eq Sort.Bool Sort.Bool = true
sort_eq Sort.Int Sort.Int = true
sort_eq (Sort.Declared m) (Sort.Declared n) = m == n
sort_eq _ _ = false

abbrev pub var_eq : Var → Var → Bool
var_eq x y = bytes_eq x.name y.name && sort_eq x.sort y.sort

-- the terms, the lists of arguments, and the lists of bindings of a let
mutual
  pub data Term : Type 0 where
    numeral : ℕ → Term
    variable : Var → Term
    operation : Op → Terms → Term
    call : Fun → Terms → Term
    let_in : Bindings → Term → Term

  pub data Terms : Type 0 where
    no_terms : Terms
    term : Term → Terms → Terms

  pub data Bindings : Type 0 where
    no_bindings : Bindings
    binding : Var → Term → Bindings → Bindings

-- arguments as a list
abbrev pub list_of : Terms → List Term
list_of no_terms = []
list_of (term t ts) = t ∷ list_of ts

-- a list as arguments
abbrev pub terms_of : List Term → Terms
terms_of [] = no_terms
terms_of (t ∷ ts) = term t (terms_of ts)

-- `(not t)`
abbrev pub not_of : Term → Term
not_of t = operation Op.Not (term t no_terms)
