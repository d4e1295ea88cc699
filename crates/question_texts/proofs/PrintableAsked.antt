-- Private. The terms of a question are printable behind its declarations.
use Rattle.std.proofs.Common.{◌≡◌, refl, sym, ap, subst, ◌∙◌, ℕ, ◌<◌, ◌^◌, Bool, true, false, ◌||◌, not, List, [], ◌∷◌, ◌++◌, codes, bytes_eq}
use Rattle.std.proofs.Common.{length, map, filter, if◌then◌else◌, Some, None}
use Rattle.std.proofs.lemmas.Bool.{or_parts}
use Rattle.std.proofs.lemmas.List.Folds.{list_any-append}
use Rattle.std.specs.List.{list_any, AllByRecursion}
use Rattle.sym_table.specs.Words.{operator_symbol}
use Rattle.term_model.specs.FreeVariables.{variables_of}
use Rattle.term_model.specs.Terms.{Var, var_eq, Fun, Term, numeral, variable, operation, call, let_in, Terms, no_terms, term, Bindings, no_bindings, binding}
use Rattle.rule_model.specs.Replacement.{binds, free_variables, free_among, free_bound}
use Rattle.rule_model.specs.TermTests.{fun_eq}
use Rattle.problem_text.specs.Names.{Bound, Place, place_inside, itself, innermost}
use Rattle.problem_text.specs.PrintedTerms.{bounds_in, BindsSome, IsPrintable, ArePrintable, AreBoundPrintable}
use Rattle.problem_text.specs.Scripts.{Script}
use Rattle.problem_text.specs.Words.{is_among}
use Rattle.hole_fillers.specs.Questions.{functions_in, functions_among, functions_bound, variables_in, variables_among, variables_bound, Naming, place_among, name_with}
use Rattle.hole_fillers.specs.Questions.{asked_function, asked_variable, constant_for, asked_term, asked_terms, asked_bindings}
use Rattle.hole_fillers.proofs.Places.{Has, all_left, all_right}
use Rattle.hole_fillers.proofs.Lookup.{variables_tell, one_variable}
use Rattle.question_texts.specs.Askable.{IsAskable, AreAskable, AreBoundAskable}
use Rattle.question_texts.proofs.AskedNames.{same_name, name_same, variable_symbol, variable_usable, variable_leads, function_leads, operator_word}
use Rattle.question_texts.proofs.Found.{IsDeclared, function_place, variable_place, function_means, constant_means, operator_means, bound_means, scope_of}
use Rattle.question_texts.proofs.Found.{none_other, bound_or_not}

-- among the variables of a list that pass
pub has_filtered : (test : Var → Bool) (x : Var) (ys : List Var) → Has var_eq ys x → test x ≡ true → Has var_eq (filter test ys) x
has_filtered test x [] h e = absurd cc
has_filtered test x (y ∷ ys) h e = go (var_eq x y) refl h (test y) refl (has_filtered test x ys)
  where
    go : (a : Bool) → var_eq x y ≡ a → (a || list_any (var_eq x) ys) ≡ true → (b : Bool) → test y ≡ b →
        (Has var_eq ys x → test x ≡ true → Has var_eq (filter test ys) x) → Has var_eq (if b then y ∷ filter test ys else filter test ys) x
    go true d h true f more = rw d refl
    go true d h false f more =
        let same : test x ≡ test y = ap test (variables_tell.is x y d) in
        absurd (let g : true ≡ false = sym e ∙ (same ∙ f) in cc)
    go false d h true f more = let g = more h e in rw (d, g) refl
    go false d h false f more = more h e

-- a variable that a let binds is among its variables
bound_there : (bs : Bindings) (x : Var) → list_any (var_eq x) (variables_of bs) ≡ false → binds bs x ≡ false
bound_there no_bindings x h = refl
bound_there (binding y t bs) x h =
    let parts = or_parts (var_eq x y) (list_any (var_eq x) (variables_of bs)) h in
    go (var_eq y x) refl parts (bound_there bs x parts.1)
  where
    go : (b : Bool) → var_eq y x ≡ b → (var_eq x y ≡ false) × (list_any (var_eq x) (variables_of bs) ≡ false) → binds bs x ≡ false →
        (b || binds bs x) ≡ false
    go true e parts more =
        let f : var_eq x y ≡ true = ap (var_eq x) (variables_tell.is y x e) ∙ variables_tell.alike x in
        let g = parts.0 in
        absurd (let k : true ≡ false = sym f ∙ g in cc)
    go false e parts more = more

all_both : {X : Type 0} (P : X → Type 0) (xs ys : List X) → AllByRecursion P xs → AllByRecursion P ys → AllByRecursion P (xs ++ ys)
all_both P [] ys h k = k
all_both P (x ∷ xs) ys h k = (h.0, all_both P xs ys h.1 k)

-- the variables of bindings are among those that stand in them
bound_named : (P : Var → Type 0) (bs : Bindings) → AllByRecursion P (variables_bound bs) → AllByRecursion P (variables_of bs)
bound_named P no_bindings h = tt
bound_named P (binding x t bs) h = (h.0, bound_named P bs (all_right P (variables_in t) (variables_bound bs) h.1))

module _ (n : Naming) (few_functions : length n.functions < 2 ^ 32) (few_variables : length n.variables < 2 ^ 32) where
  abbrev AreNamed : List Var → Type 0
  AreNamed xs = AllByRecursion (Has var_eq n.variables) xs

  abbrev HaveNames : List Fun → Type 0
  HaveNames fs = AllByRecursion (Has fun_eq n.functions) fs

  -- lets are kept, and those around bind these variables
  pub record IsInside (bound : List Var) (p : Place) : Type 0 where
    pub kept : p.settings.replaces_lets ≡ false
    pub scope : p.scope ≡ scope_of n bound
    pub named : AreNamed bound

  inside_bounds : (bound : List Var) (bs : Bindings) →
      map (λ b. itself b.variable) (bounds_in (asked_bindings n bound bs)) ≡ scope_of n (variables_of bs)
  inside_bounds bound no_bindings = refl
  inside_bounds bound (binding x t bs) = ap (λ r. itself (asked_variable n x) ∷ r) (inside_bounds bound bs)

  joined_scope : (xs ys : List Var) → scope_of n xs ++ scope_of n ys ≡ scope_of n (xs ++ ys)
  joined_scope [] ys = refl
  joined_scope (x ∷ xs) ys = ap (λ r. itself (asked_variable n x) ∷ r) (joined_scope xs ys)

  kept_scope : (bs : List Bound) (p : Place) → p.settings.replaces_lets ≡ false →
      (place_inside bs p).scope ≡ map (λ b. itself b.variable) bs ++ p.scope
  kept_scope bs p kept = rw kept refl

  inside : (bound : List Var) (bs : Bindings) (p : Place) → IsInside bound p → AreNamed (variables_of bs) →
      IsInside (variables_of bs ++ bound) (place_inside (bounds_in (asked_bindings n bound bs)) p)
  inside bound bs p h named = record {
    kept = h.kept;
    scope =
        kept_scope (bounds_in (asked_bindings n bound bs)) p h.kept
        ∙ (ap (λ r. r ++ p.scope) (inside_bounds bound bs)
        ∙ (ap (λ r. scope_of n (variables_of bs) ++ r) h.scope ∙ joined_scope (variables_of bs) bound));
    named = all_both (Has var_eq n.variables) (variables_of bs) bound named h.named;
  }

  -- a let whose variables have other names has other names in the question
  names_apart : (ys : List Var) (x : Var) → AreNamed ys → Has var_eq n.variables x → is_among (map (λ y. y.name) ys) x.name ≡ false →
      is_among (map (λ y. (asked_variable n y).name) ys) (asked_variable n x).name ≡ false
  names_apart [] x named has e = refl
  names_apart (y ∷ ys) x named has e =
      let parts = or_parts (bytes_eq x.name y.name) (is_among (map (λ y. y.name) ys) x.name) e in
      let more = names_apart ys x named.1 has parts.1 in
      go (bytes_eq (asked_variable n x).name (asked_variable n y).name) refl parts.0 more
    where
      go : (b : Bool) → bytes_eq (asked_variable n x).name (asked_variable n y).name ≡ b → bytes_eq x.name y.name ≡ false →
          is_among (map (λ y. (asked_variable n y).name) ys) (asked_variable n x).name ≡ false →
          (b || is_among (map (λ y. (asked_variable n y).name) ys) (asked_variable n x).name) ≡ false
      go true f other more =
          let same : x ≡ y = one_variable n few_variables x y has named.0 (same_name (asked_variable n x).name (asked_variable n y).name f) in
          let g : bytes_eq x.name y.name ≡ true = ap (λ (z : Var). bytes_eq x.name z.name) (sym same) ∙ name_same x.name in
          absurd (let k : true ≡ false = sym g ∙ other in cc)
      go false f other more = more

  module _ (among : AllByRecursion (Has var_eq n.variables) n.constants) (is_free : Var → Bool) (s : Script) (declared : IsDeclared n s)
      (constants : n.constants ≡ filter is_free n.variables) where
    -- what is free in this list and not bound is a constant
    abbrev AreConstants : List Var → List Var → Type 0
    AreConstants bound xs = (x : Var) → Has var_eq xs x → list_any (var_eq x) bound ≡ false → is_free x ≡ true

    constants_left : (bound xs ys : List Var) → AreConstants bound (xs ++ ys) → AreConstants bound xs
    constants_left bound xs ys h x has e =
        h x (list_any-append (var_eq x) xs ys ∙ (let f : list_any (var_eq x) xs ≡ true = has in rw f refl)) e

    constants_right : (bound xs ys : List Var) → AreConstants bound (xs ++ ys) → AreConstants bound ys
    constants_right bound xs ys h x has e = h x (list_any-append (var_eq x) xs ys ∙ or_right (list_any (var_eq x) xs) (list_any (var_eq x) ys) has) e
      where
        or_right : (a b : Bool) → b ≡ true → (a || b) ≡ true
        or_right true b f = refl
        or_right false b f = f

    constants_inside : (bound : List Var) (bs : Bindings) (xs : List Var) → AreConstants bound (filter (λ x. not (binds bs x)) xs) →
        AreConstants (variables_of bs ++ bound) xs
    constants_inside bound bs xs h x has e =
        let parts = or_parts (list_any (var_eq x) (variables_of bs)) (list_any (var_eq x) bound) (sym (list_any-append (var_eq x) (variables_of bs)
        bound) ∙ e) in
        let free : not (binds bs x) ≡ true = ap not (bound_there bs x parts.0) in
        h x (has_filtered (λ y. not (binds bs y)) x xs has free) parts.1

    constant_is : (x : Var) → Has var_eq n.variables x → is_free x ≡ true → Has var_eq n.constants x
    constant_is x has e = subst (λ xs. Has var_eq xs x) (sym constants) (has_filtered is_free x n.variables has e)

    none_here : (bound : List Var) (p : Place) (name : List ℕ) → IsInside bound p → ((k : ℕ) → bytes_eq (name_with (codes "v") k) name ≡ false) →
        innermost p.scope name ≡ None
    none_here bound p name h differs = ap (λ r. innermost r name) h.scope ∙ none_other n name differs bound

    variable_printable : (bound : List Var) (p : Place) (x : Var) (b : Bool) → list_any (var_eq x) bound ≡ b → IsInside bound p →
        Has var_eq n.variables x → (b ≡ false → is_free x ≡ true) →
        IsPrintable p s (if b then variable (asked_variable n x) else call (constant_for n x) no_terms)
    variable_printable bound p x true e h has free =
        let k = place_among var_eq x n.variables in
        let found : innermost p.scope (asked_variable n x).name ≡ Some (itself (asked_variable n x)) =
        ap (λ r. innermost r (asked_variable n x).name) h.scope
        ∙ (bound_or_not n few_variables bound x h.named has
        ∙ ap (λ c. if c then Some (itself (asked_variable n x)) else None) e) in (
          (variable_usable k, variable_symbol k (variable_place n few_functions few_variables x)),
          bound_means p s (asked_variable n x) found,
        )
    variable_printable bound p x false e h has free =
        let k = place_among var_eq x n.variables in
        let none : innermost p.scope (constant_for n x).name ≡ None =
        ap (λ r. innermost r (constant_for n x).name) h.scope
        ∙ (bound_or_not n few_variables bound x h.named has
        ∙ ap (λ c. if c then Some (itself (asked_variable n x)) else None) e) in (
          variable_leads k (variable_place n few_functions few_variables x),
          constant_means n few_functions few_variables among s declared p x has (constant_is x has (free refl)) none,
          tt,
        )

    mutual
      unfolding free_variables free_among free_bound

      pub printable : (t : Term) (bound : List Var) (p : Place) → IsInside bound p → IsAskable t → HaveNames (functions_in t) →
          AreNamed (variables_in t) → AreConstants bound (free_variables t) → IsPrintable p s (asked_term n bound t)
      printable (numeral k) bound p h a fs xs cs = a
      printable (variable x) bound p h a fs xs cs =
          variable_printable bound p x (list_any (var_eq x) bound) refl h xs.0 (λ e. cs x (let f = variables_tell.alike x in rw f refl) e)
      printable (operation op ts) bound p h a fs xs cs = (
        (operator_word op).leads,
        operator_means n few_functions few_variables among s declared p op (none_here bound p (operator_symbol op) h (operator_word op).no_variable),
        all_printable ts bound p h a fs xs cs,
      )
      printable (call f ts) bound p h a fs xs cs = (
        function_leads (place_among fun_eq f n.functions) (function_place n few_functions few_variables f),
        function_means n few_functions few_variables among s declared p f fs.0 (none_here bound p (asked_function n f).name h (λ k. refl)),
        all_printable ts bound p h a fs.1 xs cs,
      )
      printable (let_in bs t) bound p h a fs xs cs =
          let named = all_left (Has var_eq n.variables) (variables_bound bs) (variables_in t) xs in (
            h.kept,
            some_bound bs bound a.0,
            bound_printable bs [] bound p h a.1 tt (all_left (Has fun_eq n.functions) (functions_bound bs) (functions_in t) fs) named
                (constants_left bound (free_bound bs) (filter (λ x. not (binds bs x)) (free_variables t)) cs),
            printable t (variables_of bs ++ bound) (place_inside (bounds_in (asked_bindings n bound bs)) p)
                (inside bound bs p h (bound_named (Has var_eq n.variables) bs named)) a.2
                (all_right (Has fun_eq n.functions) (functions_bound bs) (functions_in t) fs)
                (all_right (Has var_eq n.variables) (variables_bound bs) (variables_in t) xs)
                (constants_inside bound bs (free_variables t)
                (constants_right bound (free_bound bs) (filter (λ x. not (binds bs x)) (free_variables t)) cs)),
          )

      all_printable : (ts : Terms) (bound : List Var) (p : Place) → IsInside bound p → AreAskable ts → HaveNames (functions_among ts) →
          AreNamed (variables_among ts) → AreConstants bound (free_among ts) → ArePrintable p s (asked_terms n bound ts)
      all_printable no_terms bound p h a fs xs cs = tt
      all_printable (term t ts) bound p h a fs xs cs = (
        printable t bound p h a.0 (all_left (Has fun_eq n.functions) (functions_in t) (functions_among ts) fs)
            (all_left (Has var_eq n.variables) (variables_in t) (variables_among ts) xs)
            (constants_left bound (free_variables t) (free_among ts) cs),
        all_printable ts bound p h a.1 (all_right (Has fun_eq n.functions) (functions_in t) (functions_among ts) fs)
            (all_right (Has var_eq n.variables) (variables_in t) (variables_among ts) xs)
            (constants_right bound (free_variables t) (free_among ts) cs),
      )

      bound_printable : (bs : Bindings) (earlier bound : List Var) (p : Place) → IsInside bound p →
          AreBoundAskable (map (λ y. y.name) earlier) bs → AreNamed earlier → HaveNames (functions_bound bs) → AreNamed (variables_bound bs) →
          AreConstants bound (free_bound bs) → AreBoundPrintable p s (map (λ y. (asked_variable n y).name) earlier) (asked_bindings n bound bs)
      bound_printable no_bindings earlier bound p h a named fs xs cs = tt
      bound_printable (binding x t bs) earlier bound p h a named fs xs cs = (
        variable_symbol (place_among var_eq x n.variables) (variable_place n few_functions few_variables x),
        names_apart earlier x named xs.0 a.0,
        printable t bound p h a.1 (all_left (Has fun_eq n.functions) (functions_in t) (functions_bound bs) fs)
            (all_left (Has var_eq n.variables) (variables_in t) (variables_bound bs) xs.1)
            (constants_left bound (free_variables t) (free_bound bs) cs),
        bound_printable bs (x ∷ earlier) bound p h a.2 (xs.0, named) (all_right (Has fun_eq n.functions) (functions_in t) (functions_bound bs) fs)
            (all_right (Has var_eq n.variables) (variables_in t) (variables_bound bs) xs.1)
            (constants_right bound (free_variables t) (free_bound bs) cs),
      )

      some_bound : (bs : Bindings) (bound : List Var) → BindsSome bs → BindsSome (asked_bindings n bound bs)
      some_bound no_bindings bound h = h
      some_bound (binding x t bs) bound h = h
