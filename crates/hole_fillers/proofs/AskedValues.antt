-- Private. A term of a question has the value of the term that it stands for.
use Rattle.std.proofs.Common.{◌≡◌, refl, sym, ap, subst, ◌∙◌, ◌<◌, ◌^◌, Bool, true, false, ◌||◌, if◌then◌else◌, List, [], ◌∷◌, ◌++◌, length, map}
use Rattle.std.specs.List.{list_any, AllByRecursion}
use Rattle.term_model.specs.FreeVariables.{variables_of}
use Rattle.term_model.specs.Interpretations.{Interpretation, FunctionTable, first_row}
use Rattle.term_model.specs.Meaning.{Valuation, value_at, value, values, bound}
use Rattle.term_model.specs.Operators.{meaning}
use Rattle.term_model.specs.Terms.{Var, var_eq, Fun, Term, numeral, variable, operation, call, let_in, Terms, no_terms, term, Bindings, no_bindings, binding}
use Rattle.term_model.specs.Values.{Value}
use Rattle.term_model.proofs.Tests.{var_eq_decides}
use Rattle.rule_model.specs.TermTests.{fun_eq}
use Rattle.hole_fillers.specs.Questions.{Naming, asked_function, asked_variable, constant_for, asked_term, asked_terms, asked_bindings, functions_in}
use Rattle.hole_fillers.specs.Questions.{functions_among, functions_bound, variables_in, variables_among, variables_bound}
use Rattle.hole_fillers.proofs.Places.{Has, all_left, all_right}
use Rattle.hole_fillers.proofs.Lookup.{one_variable}

-- J gives functions what I does, and constants the values of their variables.
pub record Interprets (I J : Interpretation) (r : Valuation) (n : Naming) : Type 0 where
  pub few : length n.variables < 2 ^ 32
  pub functions : (f : Fun) → Has fun_eq n.functions f → J.table (asked_function n f) ≡ I.table f
  pub constants : (x : Var) → Has var_eq n.variables x → J.table (constant_for n x) ≡ record { rows = []; default = value_at r x }

-- the variables of bindings, and these with new names
abbrev pub bound_by : Valuation → List Var
bound_by inner = map (λ b. b.0) inner

abbrev pub with_new_names : Naming → Valuation → Valuation
with_new_names n inner = map (λ b. (asked_variable n b.0, b.1)) inner

abbrev pub AreNamed : Naming → List Var → Type 0
AreNamed n xs = AllByRecursion (Has var_eq n.variables) xs

abbrev pub HaveNames : Naming → List Fun → Type 0
HaveNames n fs = AllByRecursion (Has fun_eq n.functions) fs

bound_value :
    (n : Naming) → length n.variables < 2 ^ 32 → (r inner : Valuation) (x : Var) → AreNamed n (bound_by inner) → Has var_eq n.variables x →
    list_any (var_eq x) (bound_by inner) ≡ true → value_at (with_new_names n inner) (asked_variable n x) ≡ value_at (inner ++ r) x
bound_value n few r [] x named has h = absurd cc
bound_value n few r (b ∷ inner) x named has h =
    go (var_eq b.0 x) refl (var_eq (asked_variable n b.0) (asked_variable n x)) refl h (bound_value n few r inner x named.1 has)
  where
    go : (same : Bool) → var_eq b.0 x ≡ same → (new : Bool) → var_eq (asked_variable n b.0) (asked_variable n x) ≡ new →
        (var_eq x b.0 || list_any (var_eq x) (bound_by inner)) ≡ true →
        (list_any (var_eq x) (bound_by inner) ≡ true → value_at (with_new_names n inner) (asked_variable n x) ≡ value_at (inner ++ r) x) →
        (if new then b.1 else value_at (with_new_names n inner) (asked_variable n x)) ≡ (if same then b.1 else value_at (inner ++ r) x)
    go true e true d h rest = refl
    go true e false d h rest =
        let k = (var_eq_decides (asked_variable n b.0) (asked_variable n x)).1 (ap (asked_variable n) ((var_eq_decides b.0 x).0 e)) in
        absurd cc
    go false e true d h rest =
        let names = ap (λ y. y.name) ((var_eq_decides (asked_variable n b.0) (asked_variable n x)).0 d) in
        let k = (var_eq_decides b.0 x).1 (one_variable n few b.0 x named.0 has names) in
        absurd cc
    go false e false d h rest = rest (later (var_eq x b.0) refl h)
      where
        later : (c : Bool) → var_eq x b.0 ≡ c → (c || list_any (var_eq x) (bound_by inner)) ≡ true → list_any (var_eq x) (bound_by inner) ≡ true
        later true k h = let back = (var_eq_decides b.0 x).1 (sym ((var_eq_decides x b.0).0 k)) in absurd cc
        later false k h = h

free_value :
    (r inner : Valuation) (x : Var) → list_any (var_eq x) (bound_by inner) ≡ false → value_at (inner ++ r) x ≡ value_at r x
free_value r [] x h = refl
free_value r (b ∷ inner) x h = go (var_eq b.0 x) refl (var_eq x b.0) refl h (free_value r inner x)
  where
    go : (same : Bool) → var_eq b.0 x ≡ same → (back : Bool) → var_eq x b.0 ≡ back → (back || list_any (var_eq x) (bound_by inner)) ≡ false →
        (list_any (var_eq x) (bound_by inner) ≡ false → value_at (inner ++ r) x ≡ value_at r x) →
        (if same then b.1 else value_at (inner ++ r) x) ≡ value_at r x
    go same e true d h rest = absurd cc
    go true e false d h rest = let k = (var_eq_decides x b.0).1 (sym ((var_eq_decides b.0 x).0 e)) in absurd cc
    go false e false d h rest = rest h

new_names_joined : (n : Naming) (front inner : Valuation) → with_new_names n (front ++ inner) ≡ with_new_names n front ++ with_new_names n inner
new_names_joined n [] inner = refl
new_names_joined n (b ∷ front) inner = ap (λ bs. (asked_variable n b.0, b.1) ∷ bs) (new_names_joined n front inner)

joined : (front inner r : Valuation) → (front ++ inner) ++ r ≡ front ++ (inner ++ r)
joined [] inner r = refl
joined (b ∷ front) inner r = ap (λ bs. b ∷ bs) (joined front inner r)

bound_of_let : (I : Interpretation) (r inner : Valuation) (bs : Bindings) → bound_by (bound I r bs ++ inner) ≡ variables_of bs ++ bound_by inner
bound_of_let I r inner no_bindings = refl
bound_of_let I r inner (binding x t bs) = ap (λ xs. x ∷ xs) (bound_of_let I r inner bs)

named_of_let : (n : Naming) (xs ys : List Var) → AreNamed n xs → AreNamed n ys → AreNamed n (xs ++ ys)
named_of_let n [] ys h k = k
named_of_let n (x ∷ xs) ys h k = (h.0, named_of_let n xs ys h.1 k)

bound_are_named : (n : Naming) (bs : Bindings) → AreNamed n (variables_bound bs) → AreNamed n (variables_of bs)
bound_are_named n no_bindings h = tt
bound_are_named n (binding x t bs) h =
    (h.0, bound_are_named n bs (all_right (Has var_eq n.variables) (variables_in t) (variables_bound bs) h.1))

at_variable :
    (I J : Interpretation) (r : Valuation) (n : Naming) → Interprets I J r n → (inner : Valuation) → AreNamed n (bound_by inner) → (x : Var) →
    Has var_eq n.variables x → (b : Bool) → list_any (var_eq x) (bound_by inner) ≡ b →
    value J (with_new_names n inner) (if b then variable (asked_variable n x) else call (constant_for n x) no_terms) ≡ value_at (inner ++ r) x
at_variable I J r n all inner named x has true e = bound_value n all.few r inner x named has e
at_variable I J r n all inner named x has false e =
    ap (λ (q : FunctionTable). first_row q.rows q.default []) (all.constants x has) ∙ sym (free_value r inner x e)

mutual
  pub asked_value :
      (I J : Interpretation) (r : Valuation) (n : Naming) → Interprets I J r n → (inner : Valuation) → AreNamed n (bound_by inner) → (t : Term) →
      HaveNames n (functions_in t) → AreNamed n (variables_in t) →
      value J (with_new_names n inner) (asked_term n (bound_by inner) t) ≡ value I (inner ++ r) t
  asked_value I J r n all inner named (numeral k) fs xs = refl
  asked_value I J r n all inner named (variable x) fs xs =
      at_variable I J r n all inner named x xs.0 (list_any (var_eq x) (bound_by inner)) refl
  asked_value I J r n all inner named (operation op ts) fs xs = ap (meaning op) (asked_values I J r n all inner named ts fs xs)
  asked_value I J r n all inner named (call f ts) fs xs =
      ap (λ (q : FunctionTable). first_row q.rows q.default (values J (with_new_names n inner) (asked_terms n (bound_by inner) ts))) (all.functions f fs.0)
      ∙ ap (first_row (I.table f).rows (I.table f).default) (asked_values I J r n all inner named ts fs.1 xs)
  asked_value I J r n all inner named (let_in bs t) fs xs =
      let front = bound I (inner ++ r) bs in
      let heads = asked_bound I J r n all inner named bs (all_left (Has fun_eq n.functions) (functions_bound bs) (functions_in t) fs)
      (all_left (Has var_eq n.variables) (variables_bound bs) (variables_in t) xs) in
      let names = bound_are_named n bs (all_left (Has var_eq n.variables) (variables_bound bs) (variables_in t) xs) in
      let deep = bound_of_let I (inner ++ r) inner bs in
      let body = asked_value I J r n all (front ++ inner)
      (subst (AreNamed n) (sym deep) (named_of_let n (variables_of bs) (bound_by inner) names named)) t
      (all_right (Has fun_eq n.functions) (functions_bound bs) (functions_in t) fs)
      (all_right (Has var_eq n.variables) (variables_bound bs) (variables_in t) xs) in
      ap (λ (q : Valuation). value J (q ++ with_new_names n inner) (asked_term n (variables_of bs ++ bound_by inner) t)) heads
      ∙ (ap (λ (q : Valuation). value J q (asked_term n (variables_of bs ++ bound_by inner) t)) (sym (new_names_joined n front inner))
      ∙ (ap (λ (q : List Var). value J (with_new_names n (front ++ inner)) (asked_term n q t)) (sym deep)
      ∙ (body ∙ ap (λ (q : Valuation). value I q t) (joined front inner r))))

  pub asked_values :
      (I J : Interpretation) (r : Valuation) (n : Naming) → Interprets I J r n → (inner : Valuation) → AreNamed n (bound_by inner) → (ts : Terms) →
      HaveNames n (functions_among ts) → AreNamed n (variables_among ts) →
      values J (with_new_names n inner) (asked_terms n (bound_by inner) ts) ≡ values I (inner ++ r) ts
  asked_values I J r n all inner named no_terms fs xs = refl
  asked_values I J r n all inner named (term t ts) fs xs =
      let e = asked_value I J r n all inner named t (all_left (Has fun_eq n.functions) (functions_in t) (functions_among ts) fs)
      (all_left (Has var_eq n.variables) (variables_in t) (variables_among ts) xs) in
      let f = asked_values I J r n all inner named ts (all_right (Has fun_eq n.functions) (functions_in t) (functions_among ts) fs)
      (all_right (Has var_eq n.variables) (variables_in t) (variables_among ts) xs) in
      ap (λ (v : Value). v ∷ values J (with_new_names n inner) (asked_terms n (bound_by inner) ts)) e
      ∙ ap (λ (vs : List Value). value I (inner ++ r) t ∷ vs) f

  pub asked_bound :
      (I J : Interpretation) (r : Valuation) (n : Naming) → Interprets I J r n → (inner : Valuation) → AreNamed n (bound_by inner) → (bs : Bindings) →
      HaveNames n (functions_bound bs) → AreNamed n (variables_bound bs) →
      bound J (with_new_names n inner) (asked_bindings n (bound_by inner) bs) ≡ with_new_names n (bound I (inner ++ r) bs)
  asked_bound I J r n all inner named no_bindings fs xs = refl
  asked_bound I J r n all inner named (binding x t bs) fs xs =
      let e = asked_value I J r n all inner named t (all_left (Has fun_eq n.functions) (functions_in t) (functions_bound bs) fs)
      (all_left (Has var_eq n.variables) (variables_in t) (variables_bound bs) xs.1) in
      let f = asked_bound I J r n all inner named bs (all_right (Has fun_eq n.functions) (functions_in t) (functions_bound bs) fs)
      (all_right (Has var_eq n.variables) (variables_in t) (variables_bound bs) xs.1) in
      ap (λ (v : Value). (asked_variable n x, v) ∷ bound J (with_new_names n inner) (asked_bindings n (bound_by inner) bs)) e
      ∙ ap (λ (q : Valuation). (asked_variable n x, value I (inner ++ r) t) ∷ q) f
