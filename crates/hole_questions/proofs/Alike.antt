-- Private. A state by leaves goes on as the state that it stands for.
use Rattle.std.proofs.Common.{◌≡◌, refl, sym, ap, subst, ◌∙◌, ℕ, nat_eq, zero, suc, ◌-◌, Bool, true, false, if◌then◌else◌, List, [], ◌∷◌, ◌++◌}
use Rattle.std.proofs.Common.{length, take, codes, slice_index_or}
use Rattle.std.proofs.Common.{eqb-true, eq-eqb}
use Rattle.std.specs.List.{list_any, AllZip}
use Rattle.sexpr.specs.Printing.{printed_symbol}
use Rattle.sym_table.specs.Leaf.{Leaf}
use Rattle.sym_table.specs.Table.{Table, IsLeaf, IsTable}
use Rattle.term_model.specs.Terms.{Var, var_eq, Fun}
use Rattle.term_model.specs.declared.symbols.Sort.{Sort}
use Rattle.term_model.proofs.Basics.{same_some}
use Rattle.term_model.proofs.Existence.{fun_eq_decides}
use Rattle.term_model.proofs.Tests.{var_eq_decides}
use Rattle.term_pool.specs.StandsFor.{variable_leaf, function_leaf}
use Rattle.rule_model.specs.TermTests.{fun_eq}
use Rattle.hole_fillers.specs.Questions.{place_among, name_with}
use Rattle.hole_questions.specs.States.{Piece, bytes, function, binder, variable, save, bind, restore, State, added, after, after_leaf, IsFunctionOf}
use Rattle.hole_questions.specs.States.{IsVariableOf, IsStateOf, IsPieceOf}

-- tests that say the same of what is in step
abbrev AreAlike : {X Y : Type 0} → (X → X → Bool) → (Y → Y → Bool) → (X → Y → Type 0) → Type 0
AreAlike {X} {Y} same_x same_y R = (a b : X) (c d : Y) → R a c → R b d → same_x a b ≡ same_y c d

module _ {X Y : Type 0} (same_x : X → X → Bool) (same_y : Y → Y → Bool) (R : X → Y → Type 0) (alike : AreAlike same_x same_y R) where
  pub any_alike : (a : X) (c : Y) → R a c → (xs : List X) (ys : List Y) → AllZip R xs ys → list_any (same_x a) xs ≡ list_any (same_y c) ys
  any_alike a c r [] [] h = refl
  any_alike a c r [] (y ∷ ys) h = absurd h
  any_alike a c r (x ∷ xs) [] h = absurd h
  any_alike a c r (x ∷ xs) (y ∷ ys) h =
      let e = alike a x c y r h.0 in
      let f = any_alike a c r xs ys h.1 in
      rw (e, f) refl

  place_alike : (a : X) (c : Y) → R a c → (xs : List X) (ys : List Y) → AllZip R xs ys → place_among same_x a xs ≡ place_among same_y c ys
  place_alike a c r [] [] h = refl
  place_alike a c r [] (y ∷ ys) h = absurd h
  place_alike a c r (x ∷ xs) [] h = absurd h
  place_alike a c r (x ∷ xs) (y ∷ ys) h =
      let e = alike a x c y r h.0 in
      let f = place_alike a c r xs ys h.1 in
      rw (e, f) refl

  one_more : (a : X) (c : Y) → R a c → (xs : List X) (ys : List Y) → AllZip R xs ys → AllZip R (xs ++ a ∷ []) (ys ++ c ∷ [])
  one_more a c r [] [] h = (r, tt)
  one_more a c r [] (y ∷ ys) h = absurd h
  one_more a c r (x ∷ xs) [] h = absurd h
  one_more a c r (x ∷ xs) (y ∷ ys) h = (h.0, one_more a c r xs ys h.1)

  choose : (p q : Bool) → p ≡ q → (xs vs : List X) (ys ws : List Y) → AllZip R xs ys → AllZip R vs ws →
      AllZip R (if p then xs else vs) (if q then ys else ws)
  choose true true e xs vs ys ws h k = h
  choose false false e xs vs ys ws h k = k
  choose true false e xs vs ys ws h k = absurd cc
  choose false true e xs vs ys ws h k = absurd cc

  added_alike : (a : X) (c : Y) → R a c → (xs : List X) (ys : List Y) → AllZip R xs ys → AllZip R (added same_x xs a) (added same_y ys c)
  added_alike a c r xs ys h =
      choose (list_any (same_x a) xs) (list_any (same_y c) ys) (any_alike a c r xs ys h) xs (xs ++ a ∷ []) ys (ys ++ c ∷ []) h (one_more a c r xs ys h)

  taken_alike : (n : ℕ) (xs : List X) (ys : List Y) → AllZip R xs ys → AllZip R (take n xs) (take n ys)
  taken_alike zero xs ys h = tt
  taken_alike (suc n) [] [] h = tt
  taken_alike (suc n) [] (y ∷ ys) h = absurd h
  taken_alike (suc n) (x ∷ xs) [] h = absurd h
  taken_alike (suc n) (x ∷ xs) (y ∷ ys) h = (h.0, taken_alike n xs ys h.1)

  pub length_alike : (xs : List X) (ys : List Y) → AllZip R xs ys → length xs ≡ length ys
  length_alike [] [] h = refl
  length_alike [] (y ∷ ys) h = absurd h
  length_alike (x ∷ xs) [] h = absurd h
  length_alike (x ∷ xs) (y ∷ ys) h = ap suc (length_alike xs ys h.1)

abbrev function_of : Leaf → Fun
function_of (Leaf.function name arguments target) = record { name = name; arguments = arguments; target = target }
function_of _ = record { name = []; arguments = []; target = Sort.Bool }

abbrev variable_of : Leaf → Var
variable_of (Leaf.variable name sort) = record { name = name; sort = sort }
variable_of _ = record { name = []; sort = Sort.Bool }

-- leaves of one thing are one, and a leaf is of one thing
one_leaf : (s : Table) → IsTable s → (j k : ℕ) (l : Leaf) → IsLeaf s j l → IsLeaf s k l → j ≡ k
one_leaf s table j k l h i = table.apart j k l l h i refl refl

same_as : (a b : Bool) → (a ≡ true → b ≡ true) → (b ≡ true → a ≡ true) → a ≡ b
same_as true b f g = sym (f refl)
same_as false true f g = g refl
same_as false false f g = refl

pub functions_alike : (s : Table) → IsTable s → AreAlike nat_eq fun_eq (IsFunctionOf s)
functions_alike s table j k f g h i =
    same_as (nat_eq j k) (fun_eq f g)
    (λ e. (fun_eq_decides f g).1 (one (subst (λ q. IsLeaf s q (function_leaf f)) (eqb-true j k e) h)))
    (λ e. eq-eqb j k (one_leaf s table j k (function_leaf f) h (subst (λ q. IsLeaf s k (function_leaf q)) (sym ((fun_eq_decides f g).0 e)) i)))
  where
    one : IsLeaf s k (function_leaf f) → f ≡ g
    one h = ap function_of (same_some (sym h ∙ i))

pub variables_alike : (s : Table) → IsTable s → AreAlike nat_eq var_eq (IsVariableOf s)
variables_alike s table j k x y h i =
    same_as (nat_eq j k) (var_eq x y)
    (λ e. (var_eq_decides x y).1 (one (subst (λ q. IsLeaf s q (variable_leaf x)) (eqb-true j k e) h)))
    (λ e. eq-eqb j k (one_leaf s table j k (variable_leaf x) h (subst (λ q. IsLeaf s k (variable_leaf q)) (sym ((var_eq_decides x y).0 e)) i)))
  where
    one : IsLeaf s k (variable_leaf x) → x ≡ y
    one h = ap variable_of (same_some (sym h ∙ i))

pub goes_on :
    (s : Table) → IsTable s → (old : State ℕ ℕ) (st : State Fun Var) (p : Piece ℕ ℕ) (q : Piece Fun Var) → IsStateOf s old st → IsPieceOf s p q →
    IsStateOf s (after_leaf old p) (after fun_eq var_eq st q)
goes_on s table old st (bytes a) (bytes b) h is = record {
  text = ap (λ t. t ++ a) h.text ∙ ap (λ t. st.text ++ t) is;
  functions = h.functions;
  variables = h.variables;
  free = h.free;
  bound = h.bound;
  saved = h.saved;
}
goes_on s table old st (function k) (function f) h is = record {
  text =
      ap (λ t. t ++ printed_symbol (name_with (codes "f") (place_among nat_eq k old.functions))) h.text
      ∙ ap (λ t. st.text ++ printed_symbol (name_with (codes "f") t))
      (place_alike nat_eq fun_eq (IsFunctionOf s) (functions_alike s table) k f is old.functions st.functions h.functions);
  functions = added_alike nat_eq fun_eq (IsFunctionOf s) (functions_alike s table) k f is old.functions st.functions h.functions;
  variables = h.variables;
  free = h.free;
  bound = h.bound;
  saved = h.saved;
}
goes_on s table old st (binder k) (binder x) h is = record {
  text =
      ap (λ t. t ++ printed_symbol (name_with (codes "v") (place_among nat_eq k old.variables))) h.text
      ∙ ap (λ t. st.text ++ printed_symbol (name_with (codes "v") t))
      (place_alike nat_eq var_eq (IsVariableOf s) (variables_alike s table) k x is old.variables st.variables h.variables);
  variables = added_alike nat_eq var_eq (IsVariableOf s) (variables_alike s table) k x is old.variables st.variables h.variables;
  functions = h.functions;
  free = h.free;
  bound = h.bound;
  saved = h.saved;
}
goes_on s table old st (variable k) (variable x) h is = record {
  text =
      ap (λ t. t ++ printed_symbol (name_with (codes "v") (place_among nat_eq k old.variables))) h.text
      ∙ ap (λ t. st.text ++ printed_symbol (name_with (codes "v") t))
      (place_alike nat_eq var_eq (IsVariableOf s) (variables_alike s table) k x is old.variables st.variables h.variables);
  variables = added_alike nat_eq var_eq (IsVariableOf s) (variables_alike s table) k x is old.variables st.variables h.variables;
  free =
      choose nat_eq var_eq (IsVariableOf s) (variables_alike s table) (list_any (nat_eq k) old.bound) (list_any (var_eq x) st.bound)
      (any_alike nat_eq var_eq (IsVariableOf s) (variables_alike s table) k x is old.bound st.bound h.bound) old.free (added nat_eq old.free k) st.free
      (added var_eq st.free x) h.free
      (added_alike nat_eq var_eq (IsVariableOf s) (variables_alike s table) k x is old.free st.free h.free);
  functions = h.functions;
  bound = h.bound;
  saved = h.saved;
}
goes_on s table old st save save h is = record {
  saved =
      ap (λ n. old.saved ++ n ∷ []) (length_alike nat_eq var_eq (IsVariableOf s) (variables_alike s table) old.bound st.bound h.bound)
      ∙ ap (λ l. l ++ length st.bound ∷ []) h.saved;
  text = h.text;
  functions = h.functions;
  variables = h.variables;
  free = h.free;
  bound = h.bound;
}
goes_on s table old st (bind k) (bind x) h is = record {
  bound = added_alike nat_eq var_eq (IsVariableOf s) (variables_alike s table) k x is old.bound st.bound h.bound;
  text = h.text;
  functions = h.functions;
  variables = h.variables;
  free = h.free;
  saved = h.saved;
}
goes_on s table old st restore restore h is = record {
  bound =
      subst (λ l. AllZip (IsVariableOf s) (take (slice_index_or old.saved (length old.saved - 1) 0) old.bound)
      (take (slice_index_or l (length l - 1) 0) st.bound)) h.saved
      (taken_alike nat_eq var_eq (IsVariableOf s) (variables_alike s table) (slice_index_or old.saved (length old.saved - 1) 0) old.bound st.bound h.bound);
  saved = ap (λ l. take (length l - 1) l) h.saved;
  text = h.text;
  functions = h.functions;
  variables = h.variables;
  free = h.free;
}
goes_on s table old st p q h is = absurd is
