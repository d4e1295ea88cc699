-- Public. Well-sorted terms (SMT-LIB 2.6, section of that title): the arities and sorts of the operators, and the sort
-- of a term. That `div` and `mod` divide by a constant other than zero is a part of this, and a rule of this checker. That
-- a let names no variable twice is a rule for texts, and no part of this.
use Rattle.std.specs.Prelude.{◌≡◌, ℕ, List, [], ◌∷◌, length, nat_le, Bool, true, false, not, ◌==◌, ◌&&◌, if◌then◌else◌, Option, Some, None, ⊤}
use Rattle.std.specs.List.{list_all}
use Rattle.term_model.specs.declared.symbols.Sort.{Sort}
use Rattle.term_model.specs.declared.symbols.Op.{Op}
use Rattle.term_model.specs.Terms.{sort_eq, Fun, Term, numeral, variable, operation, call, let_in, Terms, no_terms, term, Bindings, no_bindings, binding}

-- this sort where the test says so
abbrev pub when : Bool → Sort → Option Sort
when b s = if b then Some s else None

-- whether two lists of sorts are equal
abbrev pub sorts_eq : List Sort → List Sort → Bool
sorts_eq [] [] = true
sorts_eq [] (t ∷ ts) = false
sorts_eq (s ∷ ss) [] = false
sorts_eq (s ∷ ss) (t ∷ ts) = sort_eq s t && sorts_eq ss ts

-- so many arguments or more, each of this sort
abbrev pub at_least : ℕ → Sort → List Sort → Bool
at_least n s ss = nat_le n (length ss) && list_all (sort_eq s) ss

-- all of one sort
abbrev pub of_one_sort : List Sort → Bool
of_one_sort [] = true
of_one_sort (s ∷ ss) = list_all (sort_eq s) ss

-- `ite` has a truth value and two terms of one sort, which is its own
abbrev pub choice_sort : List Sort → Option Sort
choice_sort (c ∷ s ∷ t ∷ []) = when (sort_eq Sort.Bool c && sort_eq s t) s
choice_sort _ = None

-- the sort of an operator applied to arguments of these sorts, or none where it may not be applied to them
-- (the theories Core and Ints)
abbrev pub application_sort : Op → List Sort → Option Sort
application_sort Op.True ss = when (sorts_eq [] ss) Sort.Bool
application_sort Op.False ss = when (sorts_eq [] ss) Sort.Bool
application_sort Op.Not ss = when (sorts_eq (Sort.Bool ∷ []) ss) Sort.Bool
application_sort Op.Implies ss = when (at_least 2 Sort.Bool ss) Sort.Bool
application_sort Op.And ss = when (at_least 1 Sort.Bool ss) Sort.Bool
application_sort Op.Or ss = when (at_least 1 Sort.Bool ss) Sort.Bool
application_sort Op.Xor ss = when (at_least 2 Sort.Bool ss) Sort.Bool
application_sort Op.Equal ss = when (nat_le 2 (length ss) && of_one_sort ss) Sort.Bool
application_sort Op.Distinct ss = when (nat_le 2 (length ss) && of_one_sort ss) Sort.Bool
application_sort Op.Ite ss = choice_sort ss
application_sort Op.Minus ss = when (at_least 1 Sort.Int ss) Sort.Int
application_sort Op.Plus ss = when (at_least 1 Sort.Int ss) Sort.Int
application_sort Op.Times ss = when (at_least 1 Sort.Int ss) Sort.Int
application_sort Op.Div ss = when (sorts_eq (Sort.Int ∷ Sort.Int ∷ []) ss) Sort.Int
application_sort Op.Mod ss = when (sorts_eq (Sort.Int ∷ Sort.Int ∷ []) ss) Sort.Int
application_sort Op.LessEq ss = when (at_least 2 Sort.Int ss) Sort.Bool
application_sort Op.Less ss = when (at_least 2 Sort.Int ss) Sort.Bool
application_sort Op.GreaterEq ss = when (at_least 2 Sort.Int ss) Sort.Bool
application_sort Op.Greater ss = when (at_least 2 Sort.Int ss) Sort.Bool

-- a constant other than zero: a numeral, or `(- n)` of one
abbrev pub is_divisor : Term → Bool
is_divisor (numeral n) = not (n == 0)
is_divisor (operation Op.Minus (term (numeral n) no_terms)) = not (n == 0)
is_divisor _ = false

-- whether the second of the arguments is such a constant
abbrev pub has_divisor : Terms → Bool
has_divisor (term m (term n ts)) = is_divisor n
has_divisor _ = false

-- `div` and `mod` divide by a constant other than zero alone; of the other operators nothing is asked
abbrev pub divides : Op → Terms → Bool
divides Op.Div ts = has_divisor ts
divides Op.Mod ts = has_divisor ts
divides _ ts = true

-- whether the term itself, but for what is inside it, divides so
abbrev pub divides_rightly : Term → Bool
divides_rightly (operation op ts) = divides op ts
divides_rightly _ = true

-- the sort of an operator applied to these arguments, which are of these sorts, or none
abbrev pub operation_sort : Op → Terms → List Sort → Option Sort
operation_sort op ts ss = if divides op ts then application_sort op ss else None

-- the sort of a declared function applied to arguments of these sorts, or none
abbrev pub call_sort : Fun → List Sort → Option Sort
call_sort f ss = when (sorts_eq f.arguments ss) f.target

-- the arguments have some sorts, and with these the application has this sort
pub record IsApplication (have : List Sort → Type 0) (sort_for : List Sort → Option Sort) (s : Sort) : Type 0 where
  pub sorts : List Sort
  pub arguments : have sorts
  pub is : sort_for sorts ≡ Some s

abbrev mutual
  -- the term is well sorted and of this sort
  pub IsOf : Term → Sort → Type 0
  IsOf (numeral n) s = s ≡ Sort.Int
  IsOf (variable x) s = s ≡ x.sort
  IsOf (operation op ts) s = IsApplication (AreOf ts) (operation_sort op ts) s
  IsOf (call f ts) s = IsApplication (AreOf ts) (call_sort f) s
  IsOf (let_in bs t) s = AreBound bs × IsOf t s

  pub AreOf : Terms → List Sort → Type 0
  AreOf no_terms [] = ⊤
  AreOf no_terms (s ∷ ss) = ⊥
  AreOf (term t ts) [] = ⊥
  AreOf (term t ts) (s ∷ ss) = IsOf t s × AreOf ts ss

  -- each term is well sorted and of its variable's sort
  pub AreBound : Bindings → Type 0
  AreBound no_bindings = ⊤
  AreBound (binding x t bs) = IsOf t x.sort × AreBound bs

-- a well-sorted term has some sort
pub record IsWellSorted (t : Term) : Type 0 where
  pub sort : Sort
  pub of : IsOf t sort
