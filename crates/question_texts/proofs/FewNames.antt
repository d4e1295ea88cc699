-- Private. A question that isn't too long has few names.
use Rattle.std.proofs.Common.{◌≡◌, refl, ap, arith, ℕ, ◌+◌, ◌<◌, ◌≤◌, ◌^◌, Bool, true, false, List, [], ◌∷◌, ◌++◌, codes, map}
use Rattle.std.proofs.Common.{flat_map, length, if◌then◌else◌}
use Rattle.std.proofs.lemmas.List.{length-append, length-map}
use Rattle.std.specs.List.{list_any}
use Rattle.sexpr.specs.Items.{Item, word, quoted, Items, no_items, item}
use Rattle.sexpr.specs.Printed.{printed, printed_all, printed_lines, symbol_item}
use Rattle.sexpr.specs.Printing.{is_plain_symbol}
use Rattle.sym_table.specs.Words.{operator_symbol}
use Rattle.term_model.specs.FreeVariables.{variables_of}
use Rattle.term_model.specs.Terms.{Var, var_eq, Term, numeral, variable, operation, call, let_in, Terms, no_terms, term, Bindings, no_bindings, binding}
use Rattle.problem_text.specs.PrintedTerms.{applied_item, term_item, term_items, pair_items}
use Rattle.hole_fillers.specs.Questions.{firsts_behind, variables_in, variables_among, variables_bound, Naming, naming_of, asked_term, asked_terms}
use Rattle.hole_fillers.specs.Questions.{asked_bindings, asked_variable, constant_for, asked_function, items_of, command_item, declared_sort_items}
use Rattle.hole_fillers.specs.Questions.{declared_function_item, assert_item, question_commands, question_text, most_bytes, HasFewNames}

firsts_few : {X : Type 0} (same : X → X → Bool) (seen xs : List X) → length (firsts_behind same seen xs) ≤ length seen + length xs
firsts_few same seen [] = omega arith
firsts_few same seen (x ∷ xs) = go (list_any (same x) seen) (firsts_few same seen xs) (firsts_few same (seen ++ x ∷ []) xs)
  where
    go : (b : Bool) → length (firsts_behind same seen xs) ≤ length seen + length xs →
        length (firsts_behind same (seen ++ x ∷ []) xs) ≤ length (seen ++ x ∷ []) + length xs →
        length (firsts_behind same (if b then seen else seen ++ x ∷ []) xs) ≤ length seen + length (x ∷ xs)
    go true h k = omega (arith, h)
    go false h k = omega (arith, k, length-append seen (x ∷ []))

-- LINES

lines_many : (is : List Item) → length is ≤ length (printed_lines (items_of is))
lines_many [] = omega arith
lines_many (i ∷ is) = omega (arith, lines_many is, length-append (printed i) (10 ∷ printed_lines (items_of is)))

lines_behind : (is js : List Item) → length (printed_lines (items_of js)) ≤ length (printed_lines (items_of (is ++ js)))
lines_behind [] js = omega arith
lines_behind (i ∷ is) js = omega (arith, lines_behind is js, length-append (printed i) (10 ∷ printed_lines (items_of (is ++ js))))

many_sorts : (k : ℕ) (ns : List ℕ) → length (declared_sort_items k ns) ≡ length ns
many_sorts k [] = refl
many_sorts k (n ∷ ns) = omega (arith, many_sorts (k + 1) ns)

-- VARIABLES

symbol_some : (b : ℕ) (name : List ℕ) → 1 ≤ length (printed (symbol_item (b ∷ name)))
symbol_some b name = go (is_plain_symbol (b ∷ name))
  where
    go : (plain : Bool) → 1 ≤ length (printed (if plain then word 0 (b ∷ name) else quoted 0 (124 ∷ ((b ∷ name) ++ 124 ∷ []))))
    go true = omega arith
    go false = omega arith

module _ (n : Naming) where
  applied_more : (name : List ℕ) (is : Items) (k : ℕ) → k ≤ length (printed_all (32 ∷ []) is) → k ≤ length (printed (applied_item name is))
  applied_more name no_items k h = omega (arith, h)
  applied_more name (item i is) k h =
      omega (
        arith,
        h,
        length-append (printed (symbol_item name)) (printed_all (32 ∷ []) (item i is)),
        length-append (printed (symbol_item name) ++ printed_all (32 ∷ []) (item i is)) (41 ∷ []),
      )

  variable_more : (x : Var) (b : Bool) →
      1 ≤ length (printed (term_item (if b then variable (asked_variable n x) else call (constant_for n x) no_terms)))
  variable_more x true = symbol_some 118 _
  variable_more x false = symbol_some 118 _

  mutual
    pub term_more : (bound : List Var) (t : Term) → length (variables_in t) ≤ length (printed (term_item (asked_term n bound t)))
    term_more bound (numeral k) = omega arith
    term_more bound (variable x) = variable_more x (list_any (var_eq x) bound)
    term_more bound (operation op ts) = applied_more (operator_symbol op) _ (length (variables_among ts)) (terms_more bound (32 ∷ []) ts)
    term_more bound (call f ts) = applied_more (asked_function n f).name _ (length (variables_among ts)) (terms_more bound (32 ∷ []) ts)
    term_more bound (let_in bs t) =
        let pairs = printed_all [] (pair_items (asked_bindings n bound bs)) in
        let inside = printed (term_item (asked_term n (variables_of bs ++ bound) t)) in
        let whole : printed (term_item (asked_term n bound (let_in bs t)))
        ≡ 40 ∷ ((codes "let" ++ (32 ∷ ((40 ∷ (pairs ++ 41 ∷ [])) ++ (32 ∷ (inside ++ []))))) ++ 41 ∷ []) = refl in
        omega (
          arith,
          pairs_more bound [] bs,
          term_more (variables_of bs ++ bound) t,
          length-append (variables_bound bs) (variables_in t),
          ap length whole,
          length-append (codes "let" ++ (32 ∷ ((40 ∷ (pairs ++ 41 ∷ [])) ++ (32 ∷ (inside ++ []))))) (41 ∷ []),
          length-append (codes "let") (32 ∷ ((40 ∷ (pairs ++ 41 ∷ [])) ++ (32 ∷ (inside ++ [])))),
          length-append (40 ∷ (pairs ++ 41 ∷ [])) (32 ∷ (inside ++ [])),
          length-append pairs (41 ∷ []),
          length-append inside [],
        )

    terms_more : (bound : List Var) (before : List ℕ) (ts : Terms) →
        length (variables_among ts) ≤ length (printed_all before (term_items (asked_terms n bound ts)))
    terms_more bound before no_terms = omega arith
    terms_more bound before (term t ts) =
        let first = printed (term_item (asked_term n bound t)) in
        let rest = printed_all (32 ∷ []) (term_items (asked_terms n bound ts)) in
        omega (
          arith,
          term_more bound t,
          terms_more bound (32 ∷ []) ts,
          length-append (variables_in t) (variables_among ts),
          length-append before (first
              ++ rest),
          length-append first rest,
        )

    pairs_more : (bound : List Var) (before : List ℕ) (bs : Bindings) →
        length (variables_bound bs) ≤ length (printed_all before (pair_items (asked_bindings n bound bs)))
    pairs_more bound before no_bindings = omega arith
    pairs_more bound before (binding x t bs) =
        let name = printed (symbol_item (asked_variable n x).name) in
        let value = printed (term_item (asked_term n bound t)) in
        let rest = printed_all (32 ∷ []) (pair_items (asked_bindings n bound bs)) in
        let whole : printed_all before (pair_items (asked_bindings n bound (binding x t bs)))
        ≡ before ++ ((40 ∷ ((name ++ (32 ∷ (value ++ []))) ++ 41 ∷ [])) ++ rest) = refl in
        omega (
          arith,
          term_more bound t,
          pairs_more bound (32 ∷ []) bs,
          length-append (variables_in t) (variables_bound bs),
          ap length whole,
          length-append before ((40 ∷ ((name ++ (32 ∷ (value ++ []))) ++ 41 ∷ [])) ++ rest),
          length-append (40 ∷ ((name ++ (32 ∷ (value ++ []))) ++ 41 ∷ [])) rest,
          length-append (name ++ (32 ∷ (value ++ []))) (41 ∷ []),
          length-append name (32 ∷ (value ++ [])),
          length-append value [],
        )

  asserts_more : (ts : List Term) (js : List Item) →
      length (flat_map variables_in ts) ≤ length (printed_lines (items_of (map (λ t. assert_item (asked_term n [] t)) ts ++ js)))
  asserts_more [] js = omega arith
  asserts_more (t ∷ ts) js =
      let inside = printed (term_item (asked_term n [] t)) in
      let rest = printed_lines (items_of (map (λ t. assert_item (asked_term n [] t)) ts ++ js)) in
      let whole : printed_lines (items_of (map (λ t. assert_item (asked_term n [] t)) (t ∷ ts) ++ js))
      ≡ (40 ∷ ((codes "assert" ++ (32 ∷ (inside ++ []))) ++ 41 ∷ [])) ++ 10 ∷ rest = refl in
      omega (
        arith,
        term_more [] t,
        asserts_more ts js,
        length-append (variables_in t) (flat_map variables_in ts),
        ap length whole,
        length-append (40 ∷ ((codes "assert" ++ (32 ∷ (inside ++ []))) ++ 41 ∷ [])) (10 ∷ rest),
        length-append (codes "assert" ++ (32 ∷ (inside ++ []))) (41 ∷ []),
        length-append (codes "assert") (32 ∷ (inside ++ [])),
        length-append inside [],
      )

-- ALL NAMES

module _ (asserted : List Term) (short : length (question_text asserted) ≤ most_bytes) where
  abbrev n : Naming
  n = naming_of asserted

  abbrev ss : List Item
  ss = declared_sort_items 0 n.sorts

  abbrev fs : List Item
  fs = map (λ f. declared_function_item (asked_function n f)) n.functions

  abbrev cs : List Item
  cs = map (λ x. declared_function_item (constant_for n x)) n.constants

  abbrev behind : List Item
  behind = map (λ t. assert_item (asked_term n [] t)) asserted ++ command_item (codes "check-sat") [] ∷ []

  commands : length (question_commands n asserted) ≤ most_bytes
  commands = omega (arith, short, lines_many (question_commands n asserted))

  pub few_sorts : length n.sorts < 2 ^ 32
  few_sorts = omega (arith, commands, many_sorts 0 n.sorts, length-append ss (fs ++ (cs ++ behind)))

  few_functions : length n.functions < 2 ^ 32
  few_functions =
      omega (
        arith,
        commands,
        length-append ss (fs ++ (cs ++ behind)),
        length-append fs (cs ++ behind),
        length-map n.functions (λ f. declared_function_item (asked_function n f)),
      )

  few_variables : length n.variables < 2 ^ 32
  few_variables =
      omega (
        arith,
        short,
        firsts_few var_eq [] (flat_map variables_in asserted),
        asserts_more n asserted (command_item (codes "check-sat") [] ∷ []),
        lines_behind ss (fs ++ (cs ++ behind)),
        lines_behind fs (cs ++ behind),
        lines_behind cs behind,
      )

  pub few : HasFewNames asserted
  few = record { functions = few_functions; variables = few_variables }
