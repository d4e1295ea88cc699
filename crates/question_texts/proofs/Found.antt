-- Private. What a name of a question means behind its declarations.
use Rattle.std.proofs.Common.{◌≡◌, refl, sym, ap, ◌∙◌, arith, ℕ, ◌<◌, ◌^◌, Bool, true, false, ◌||◌, List, [], ◌∷◌, ◌++◌, codes}
use Rattle.std.proofs.Common.{bytes_eq, length, map, find, if◌then◌else◌, cond, Some, None}
use Rattle.std.specs.List.{list_any, AllByRecursion}
use Rattle.sym_table.specs.Words.{operator_symbol}
use Rattle.term_model.specs.declared.symbols.Op.{Op}
use Rattle.term_model.specs.Terms.{Var, var_eq, Fun, variable}
use Rattle.rule_model.specs.TermTests.{fun_eq}
use Rattle.problem_text.specs.Names.{Bound, Place, itself, innermost, value, function, operator, meaning_of}
use Rattle.problem_text.specs.Scripts.{Script}
use Rattle.hole_fillers.specs.Questions.{Naming, place_among, name_with, asked_function, asked_variable, constant_for}
use Rattle.hole_fillers.proofs.Places.{Tells, Has, each_in_itself}
use Rattle.hole_fillers.proofs.Lookup.{functions_tell, variables_tell, place_within, one_named, one_variable}
use Rattle.question_texts.proofs.AskedNames.{same_name, name_same, operator_word}

-- behind the declarations of a question
pub record IsDeclared (n : Naming) (s : Script) : Type 0 where
  pub functions : s.functions ≡ map (asked_function n) n.functions ++ map (constant_for n) n.constants
  pub macros : s.macros ≡ []
  pub named : s.named ≡ []

abbrev has_name : List ℕ → Fun → Bool
has_name name g = bytes_eq g.name name

-- THE FIRST FUNCTION OF A NAME

module _ {X : Type 0} (called : X → Fun) where
  passed : (name : List ℕ) (xs : List X) (rest : List Fun) → ((x : X) → bytes_eq (called x).name name ≡ false) →
      find (has_name name) (map called xs ++ rest) ≡ find (has_name name) rest
  passed name [] rest differs = refl
  passed name (x ∷ xs) rest differs =
      let e = differs x in
      let more = passed name xs rest differs in
      rw e more

  found : (same : X → X → Bool) (tells : Tells same) (P : X → Type 0) (x : X) (xs : List X) (rest : List Fun) →
      ((y : X) → P y → (called y).name ≡ (called x).name → y ≡ x) → AllByRecursion P xs → Has same xs x →
      find (has_name (called x).name) (map called xs ++ rest) ≡ Some (called x)
  found same tells P x [] rest one all h = absurd cc
  found same tells P x (y ∷ xs) rest one all h =
      go (bytes_eq (called y).name (called x).name) refl (same x y) refl h (found same tells P x xs rest one all.1)
    where
      go : (b : Bool) → bytes_eq (called y).name (called x).name ≡ b → (a : Bool) → same x y ≡ a → (a || list_any (same x) xs) ≡ true →
          (Has same xs x → find (has_name (called x).name) (map called xs ++ rest) ≡ Some (called x)) →
          cond b (Some (called y)) (find (has_name (called x).name) (map called xs ++ rest)) ≡ Some (called x)
      go true e a d h more = ap (λ z. Some (called z)) (one y all.0 (same_name (called y).name (called x).name e))
      go false e true d h more =
          let names : bytes_eq (called y).name (called x).name ≡ true =
          ap (λ (z : X). bytes_eq (called z).name (called x).name) (sym (tells.is x y d)) ∙ name_same (called x).name in
          absurd cc
      go false e false d h more = more h

-- THE FUNCTIONS OF A QUESTION

module _ (n : Naming) (few_functions : length n.functions < 2 ^ 32) (few_variables : length n.variables < 2 ^ 32) where
  pub function_place : (f : Fun) → place_among fun_eq f n.functions < 2 ^ 64
  function_place f = omega (arith, few_functions, place_within fun_eq f n.functions)

  pub variable_place : (x : Var) → place_among var_eq x n.variables < 2 ^ 64
  variable_place x = omega (arith, few_variables, place_within var_eq x n.variables)

  module _ (among : AllByRecursion (Has var_eq n.variables) n.constants) (s : Script) (declared : IsDeclared n s) where
    find_function : (f : Fun) → Has fun_eq n.functions f → find (has_name (asked_function n f).name) s.functions ≡ Some (asked_function n f)
    find_function f has =
        ap (find (has_name (asked_function n f).name)) declared.functions
        ∙ found (asked_function n) fun_eq functions_tell (Has fun_eq n.functions) f n.functions (map (constant_for n) n.constants)
        (λ g there e. one_by_name g there e) (each_in_itself fun_eq functions_tell n.functions) has
      where
        one_by_name : (g : Fun) → Has fun_eq n.functions g → (asked_function n g).name ≡ (asked_function n f).name → g ≡ f
        one_by_name g there e = one_named n few_functions g f there has e

    find_constant : (x : Var) → Has var_eq n.variables x → Has var_eq n.constants x →
        find (has_name (constant_for n x).name) s.functions ≡ Some (constant_for n x)
    find_constant x named has =
        ap (find (has_name (constant_for n x).name)) declared.functions
        ∙ (passed (asked_function n) (constant_for n x).name n.functions (map (constant_for n) n.constants) (λ f. refl)
        ∙ (ap (find (has_name (constant_for n x).name)) (sym (all_of (map (constant_for n) n.constants)))
        ∙ found (constant_for n) var_eq variables_tell (Has var_eq n.variables) x n.constants []
        (λ y there e. one_variable n few_variables y x there named e) among has))
      where
        all_of : (fs : List Fun) → fs ++ [] ≡ fs
        all_of [] = refl
        all_of (f ∷ fs) = ap (λ gs. f ∷ gs) (all_of fs)

    find_none : (op : Op) → find (has_name (operator_symbol op)) s.functions ≡ None
    find_none op =
        ap (find (has_name (operator_symbol op))) declared.functions
        ∙ (passed (asked_function n) (operator_symbol op) n.functions (map (constant_for n) n.constants)
        (λ f. (operator_word op).no_function (place_among fun_eq f n.functions) (function_place f))
        ∙ constants n.constants)
      where
        constants : (xs : List Var) → find (has_name (operator_symbol op)) (map (constant_for n) xs) ≡ None
        constants [] = refl
        constants (x ∷ xs) =
            let e = (operator_word op).no_variable (place_among var_eq x n.variables) in
            let more = constants xs in
            rw e more

    -- WHAT NAMES MEAN

    pub function_means : (p : Place) (f : Fun) → Has fun_eq n.functions f → innermost p.scope (asked_function n f).name ≡ None →
        meaning_of p s (asked_function n f).name ≡ Some (function (asked_function n f))
    unfolding meaning_of
    function_means p f has none =
        let there = find_function f has in
        let macros = declared.macros in
        let named = declared.named in
        rw (none, named, macros, there) refl

    pub constant_means : (p : Place) (x : Var) → Has var_eq n.variables x → Has var_eq n.constants x →
        innermost p.scope (constant_for n x).name ≡ None → meaning_of p s (constant_for n x).name ≡ Some (function (constant_for n x))
    unfolding meaning_of
    constant_means p x named has none =
        let there = find_constant x named has in
        let macros = declared.macros in
        let given = declared.named in
        rw (none, given, macros, there) refl

    pub operator_means : (p : Place) (op : Op) → innermost p.scope (operator_symbol op) ≡ None →
        meaning_of p s (operator_symbol op) ≡ Some (operator op)
    unfolding meaning_of
    operator_means p op none =
        let there = find_none op in
        let macros = declared.macros in
        let named = declared.named in
        let is = (operator_word op).named in
        rw (none, named, macros, there, is) refl

pub bound_means : (p : Place) (s : Script) (x : Var) → innermost p.scope x.name ≡ Some (itself x) →
    meaning_of p s x.name ≡ Some (value (record { tree = variable x; sort = x.sort }))
unfolding meaning_of
bound_means p s x found = rw found refl

-- WHAT LETS BIND

abbrev pub scope_of : Naming → List Var → List Bound
scope_of n bound = map (λ x. itself (asked_variable n x)) bound

pub none_other : (n : Naming) (name : List ℕ) → ((k : ℕ) → bytes_eq (name_with (codes "v") k) name ≡ false) → (bound : List Var) →
    innermost (scope_of n bound) name ≡ None
none_other n name differs [] = refl
none_other n name differs (x ∷ bound) =
    let e = differs (place_among var_eq x n.variables) in
    let more = none_other n name differs bound in
    rw e more

pub bound_or_not : (n : Naming) → length n.variables < 2 ^ 32 → (bound : List Var) (x : Var) → AllByRecursion (Has var_eq n.variables) bound →
    Has var_eq n.variables x →
    innermost (scope_of n bound) (asked_variable n x).name ≡ (if list_any (var_eq x) bound then Some (itself (asked_variable n x)) else None)
bound_or_not n few [] x named has = refl
bound_or_not n few (y ∷ bound) x named has =
    go (bytes_eq (asked_variable n y).name (asked_variable n x).name) refl (var_eq x y) refl (bound_or_not n few bound x named.1 has)
  where
    go : (b : Bool) → bytes_eq (asked_variable n y).name (asked_variable n x).name ≡ b → (a : Bool) → var_eq x y ≡ a →
        innermost (scope_of n bound) (asked_variable n x).name ≡ (if list_any (var_eq x) bound then Some (itself (asked_variable n x)) else None) →
        cond b (Some (itself (asked_variable n y))) (innermost (scope_of n bound) (asked_variable n x).name)
        ≡ (if a || list_any (var_eq x) bound then Some (itself (asked_variable n x)) else None)
    go true e true d more = ap (λ z. Some (itself (asked_variable n z))) (sym (variables_tell.is x y d))
    go true e false d more =
        let same : y ≡ x = one_variable n few y x named.0 has (same_name (asked_variable n y).name (asked_variable n x).name e) in
        let f : var_eq x y ≡ true = ap (var_eq x) same ∙ variables_tell.alike x in
        absurd cc
    go false e true d more =
        let f : bytes_eq (asked_variable n y).name (asked_variable n x).name ≡ true =
        ap (λ z. bytes_eq (asked_variable n z).name (asked_variable n x).name) (sym (variables_tell.is x y d)) ∙ name_same (asked_variable n x).name in
        absurd cc
    go false e false d more = more
