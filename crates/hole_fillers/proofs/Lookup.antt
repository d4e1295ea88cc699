-- Cited by crates above. The tables of functions that have names of a question.
use Rattle.std.proofs.Common.{◌≡◌, refl, sym, ap, ◌∙◌, arith, ℕ, ◌+◌, ◌<◌, ◌^◌, Bool, true, false, not, ◌||◌, subst, if◌then◌else◌, List, [], ◌∷◌, length}
use Rattle.std.proofs.Common.{map, drop, decimal}
use Rattle.std.specs.List.{list_any, AllByRecursion}
use Rattle.sexpr.specs.Words.{numeral_value}
use Rattle.sexpr.proofs.PrintedNumerals.{decimal_is}
use Rattle.term_model.specs.declared.symbols.Sort.{Sort}
use Rattle.term_model.specs.Interpretations.{Row, RowFits, FunctionTable, TableFits}
use Rattle.term_model.specs.Terms.{Var, var_eq, Fun}
use Rattle.term_model.specs.Values.{Value, truth, whole, HasSort, HaveSorts}
use Rattle.term_model.proofs.Existence.{fun_eq_decides}
use Rattle.term_model.proofs.Tests.{var_eq_decides}
use Rattle.rule_model.specs.TermTests.{fun_eq}
use Rattle.hole_fillers.specs.Questions.{Naming, place_among, name_with, asked_sort, asked_function, asked_variable, constant_for}
use Rattle.hole_fillers.proofs.Places.{Tells, Has, one_place}

pub functions_tell : Tells fun_eq
functions_tell = record { is = λ f g e. (fun_eq_decides f g).0 e; alike = λ f. (fun_eq_decides f f).1 refl }

pub variables_tell : Tells var_eq
variables_tell = record { is = λ x y e. (var_eq_decides x y).0 e; alike = λ x. (var_eq_decides x x).1 refl }

-- a place is no greater than the length
pub place_within : {X : Type 0} (same : X → X → Bool) (x : X) (xs : List X) → place_among same x xs < length xs + 1
place_within same x [] = omega arith
place_within same x (y ∷ xs) = go (same x y) (place_within same x xs)
  where
    go : (b : Bool) → place_among same x xs < length xs + 1 → (if not b then 1 + place_among same x xs else 0) < length (y ∷ xs) + 1
    go true h = omega arith
    go false h = omega (arith, h)

-- names of one letter with one number
one_number : (c j k : ℕ) → j < 2 ^ 32 + 1 → k < 2 ^ 32 + 1 → name_with (c ∷ []) j ≡ name_with (c ∷ []) k → j ≡ k
one_number c j k few many e =
    let tails : decimal (j + 1) ≡ decimal (k + 1) = ap (drop 1) e in
    let first = decimal_is (j + 1) (omega (arith, few)) in
    let second = decimal_is (k + 1) (omega (arith, many)) in
    let same : j + 1 ≡ k + 1 = sym first.value ∙ ap numeral_value tails ∙ second.value in
    omega (arith, same)

pub one_named :
    (n : Naming) → length n.functions < 2 ^ 32 → (f g : Fun) → Has fun_eq n.functions f → Has fun_eq n.functions g →
    (asked_function n f).name ≡ (asked_function n g).name → f ≡ g
one_named n few f g h k e =
    one_place fun_eq functions_tell f g n.functions h k
    (one_number 102 (place_among fun_eq f n.functions) (place_among fun_eq g n.functions)
    (let w = place_within fun_eq f n.functions in omega (arith, few, w)) (let w = place_within fun_eq g n.functions in omega (arith, few, w)) e)

pub one_function :
    (n : Naming) → length n.functions < 2 ^ 32 → (f g : Fun) → Has fun_eq n.functions f → Has fun_eq n.functions g →
    asked_function n f ≡ asked_function n g → f ≡ g
one_function n few f g h k e = one_named n few f g h k (ap (λ q. q.name) e)

pub one_variable :
    (n : Naming) → length n.variables < 2 ^ 32 → (x y : Var) → Has var_eq n.variables x → Has var_eq n.variables y →
    (asked_variable n x).name ≡ (asked_variable n y).name → x ≡ y
one_variable n few x y h k e =
    one_place var_eq variables_tell x y n.variables h k
    (one_number 118 (place_among var_eq x n.variables) (place_among var_eq y n.variables)
    (let w = place_within var_eq x n.variables in omega (arith, few, w)) (let w = place_within var_eq y n.variables in omega (arith, few, w)) e)

-- a function's name is no variable's
pub other_letter : (n : Naming) (f : Fun) (x : Var) → asked_function n f ≡ constant_for n x → ⊥
other_letter n f x e = let names = ap (λ q. q.name) e in let heads : 102 ≡ 118 = ap head_of names in omega (arith, heads)
  where
    head_of : List ℕ → ℕ
    head_of [] = 0
    head_of (c ∷ cs) = c

-- WHAT IS LOOKED UP

abbrev pub looked_up : {X : Type 0} → (X → Fun) → (X → FunctionTable) → Fun → List X → FunctionTable → FunctionTable
looked_up name table g [] otherwise = otherwise
looked_up name table g (x ∷ xs) otherwise = if fun_eq (name x) g then table x else looked_up name table g xs otherwise

pub passed :
    {X : Type 0} (name : X → Fun) (table : X → FunctionTable) (g : Fun) (xs : List X) (otherwise : FunctionTable) →
    ((x : X) → name x ≡ g → ⊥) → looked_up name table g xs otherwise ≡ otherwise
passed name table g [] otherwise differs = refl
passed name table g (x ∷ xs) otherwise differs = go (fun_eq (name x) g) refl (passed name table g xs otherwise differs)
  where
    go : (b : Bool) → fun_eq (name x) g ≡ b → looked_up name table g xs otherwise ≡ otherwise →
        (if b then table x else looked_up name table g xs otherwise) ≡ otherwise
    go true e rest = absurd (differs x ((fun_eq_decides (name x) g).0 e))
    go false e rest = rest

-- the first of this name is the one, where no other one that is among all has its name
pub found :
    {X : Type 0} (same : X → X → Bool) (tells : Tells same) (name : X → Fun) (table : X → FunctionTable) (x : X) (xs : List X)
    (otherwise : FunctionTable) (P : X → Type 0) → ((y : X) → P y → name y ≡ name x → y ≡ x) → AllByRecursion P xs → Has same xs x →
    looked_up name table (name x) xs otherwise ≡ table x
found same tells name table x [] otherwise P one among h = absurd cc
found same tells name table x (y ∷ xs) otherwise P one among h =
    go (fun_eq (name y) (name x)) refl (same x y) refl h (found same tells name table x xs otherwise P one among.1)
  where
    go : (b : Bool) → fun_eq (name y) (name x) ≡ b → (a : Bool) → same x y ≡ a → (a || list_any (same x) xs) ≡ true →
        (Has same xs x → looked_up name table (name x) xs otherwise ≡ table x) →
        (if b then table y else looked_up name table (name x) xs otherwise) ≡ table x
    go true e a d h rest = ap table (one y among.0 ((fun_eq_decides (name y) (name x)).0 e))
    go false e true d h rest =
        let names : name y ≡ name x = ap name (sym (tells.is x y d)) in
        let k = (fun_eq_decides (name y) (name x)).1 names in absurd cc
    go false e false d h rest = rest h

pub looked_up_fits :
    {X : Type 0} (name : X → Fun) (table : X → FunctionTable) (g : Fun) (xs : List X) (otherwise : FunctionTable) →
    ((x : X) → TableFits (name x) (table x)) → TableFits g otherwise → TableFits g (looked_up name table g xs otherwise)
looked_up_fits name table g [] otherwise fits rest = rest
looked_up_fits name table g (x ∷ xs) otherwise fits rest = go (fun_eq (name x) g) refl (looked_up_fits name table g xs otherwise fits rest)
  where
    go : (b : Bool) → fun_eq (name x) g ≡ b → TableFits g (looked_up name table g xs otherwise) →
        TableFits g (if b then table x else looked_up name table g xs otherwise)
    go true e rest = subst (λ q. TableFits q (table x)) ((fun_eq_decides (name x) g).0 e) (fits x)
    go false e rest = rest

-- SORTS WITH NEW NAMES

pub same_sort : (n : Naming) (s : Sort) (v : Value) → HasSort s v → HasSort (asked_sort n s) v
same_sort n Sort.Bool v h = h
same_sort n Sort.Int v h = h
same_sort n (Sort.Declared k) (truth b) h = absurd h
same_sort n (Sort.Declared k) (whole z) h = tt

same_sorts : (n : Naming) (ss : List Sort) (vs : List Value) → HaveSorts ss vs → HaveSorts (map (asked_sort n) ss) vs
same_sorts n [] [] h = tt
same_sorts n [] (v ∷ vs) h = absurd h
same_sorts n (s ∷ ss) [] h = absurd h
same_sorts n (s ∷ ss) (v ∷ vs) h = (same_sort n s v h.0, same_sorts n ss vs h.1)

same_rows : (n : Naming) (f : Fun) (rows : List Row) → AllByRecursion (RowFits f) rows → AllByRecursion (RowFits (asked_function n f)) rows
same_rows n f [] h = tt
same_rows n f (row ∷ rows) h = (
  record { arguments = same_sorts n f.arguments row.arguments h.0.arguments; result = same_sort n f.target row.result h.0.result },
  same_rows n f rows h.1,
)

pub same_table : (n : Naming) (f : Fun) (table : FunctionTable) → TableFits f table → TableFits (asked_function n f) table
same_table n f table h = record { rows = same_rows n f table.rows h.rows; default = same_sort n f.target table.default h.default }
