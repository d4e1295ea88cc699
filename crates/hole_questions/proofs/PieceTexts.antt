-- Private. The pieces of a term have the text of the term of the question.
use Rattle.std.proofs.Common.{◌≡◌, refl, sym, ap, ◌∙◌, ℕ, Bool, true, false, if◌then◌else◌, List, [], ◌∷◌, ◌++◌, codes, decimal, flat_map}
use Rattle.std.proofs.lemmas.List.{append_assoc, append-nil}
use Rattle.std.proofs.lemmas.Grind.{flat_map-append}
use Rattle.std.specs.List.{list_any}
use Rattle.sexpr.specs.Printed.{symbol_item, printed, printed_all}
use Rattle.sexpr.specs.Printing.{printed_symbol}
use Rattle.sym_table.specs.Words.{operator_symbol}
use Rattle.term_model.specs.FreeVariables.{variables_of}
use Rattle.term_model.specs.Terms.{Var, var_eq, Fun, Term, numeral, operation, call, let_in, Terms, no_terms, term, Bindings, no_bindings, binding}
use Rattle.term_model.specs.Terms as model
use Rattle.problem_text.specs.PrintedTerms.{term_item, term_items, pair_items, applied_item}
use Rattle.hole_fillers.specs.Questions.{Naming, asked_term, asked_terms, asked_bindings, asked_function, asked_variable, constant_for, functions_in}
use Rattle.hole_fillers.specs.Questions.{functions_among, functions_bound}
use Rattle.hole_fillers.specs.Questions.{variables_in, variables_among, variables_bound}
use Rattle.hole_questions.specs.States.{Piece, bytes, function, variable, restore}
use Rattle.hole_questions.specs.Pieces.{term_pieces, applied_pieces, argument_pieces, pair_pieces, bind_pieces}
use Rattle.hole_questions.proofs.Texts.{piece_functions, piece_variables, piece_text}
use Rattle.hole_questions.proofs.PlainNames.{symbol_same}

-- WHAT IS NAMED

pub two_lists : {X : Type 0} (f : Piece Fun Var → List X) (ps qs : List (Piece Fun Var)) (a b : List X) → flat_map f ps ≡ a → flat_map f qs ≡ b →
    flat_map f (ps ++ qs) ≡ a ++ b
two_lists f ps qs a b e g = flat_map-append f ps qs ∙ (ap (λ x. x ++ flat_map f qs) e ∙ ap (λ x. a ++ x) g)

mutual
  pub term_functions : (t : Term) → flat_map piece_functions (term_pieces t) ≡ functions_in t
  term_functions (numeral n) = refl
  term_functions (model.variable x) = refl
  term_functions (operation op no_terms) = refl
  term_functions (operation op (term t ts)) =
      two_lists piece_functions (argument_pieces (term t ts)) (bytes (codes ")") ∷ []) (functions_among (term t ts)) [] (argument_functions (term t ts)) refl
      ∙ append-nil (functions_among (term t ts))
  term_functions (call f no_terms) = refl
  term_functions (call f (term t ts)) =
      ap (λ fs. f ∷ fs) (two_lists piece_functions (argument_pieces (term t ts)) (bytes (codes ")") ∷ []) (functions_among (term t ts)) []
      (argument_functions (term t ts)) refl
      ∙ append-nil (functions_among (term t ts)))
  term_functions (let_in bs t) =
      two_lists piece_functions (pair_pieces [] bs) _ (functions_bound bs) (functions_in t) (pair_functions [] bs)
      (two_lists piece_functions (bind_pieces bs) (term_pieces t ++ bytes (codes ")") ∷ restore ∷ []) [] (functions_in t) (bind_functions bs)
      (two_lists piece_functions (term_pieces t) (bytes (codes ")") ∷ restore ∷ []) (functions_in t) [] (term_functions t) refl
      ∙ append-nil (functions_in t)))

  argument_functions : (ts : Terms) → flat_map piece_functions (argument_pieces ts) ≡ functions_among ts
  argument_functions no_terms = refl
  argument_functions (term t ts) =
      two_lists piece_functions (term_pieces t) (argument_pieces ts) (functions_in t) (functions_among ts) (term_functions t) (argument_functions ts)

  pair_functions : (before : List ℕ) (bs : Bindings) → flat_map piece_functions (pair_pieces before bs) ≡ functions_bound bs
  pair_functions before no_bindings = refl
  pair_functions before (binding x t bs) =
      two_lists piece_functions (term_pieces t) (bytes (codes ")") ∷ pair_pieces (codes " ") bs) (functions_in t) (functions_bound bs) (term_functions t)
      (pair_functions (codes " ") bs)

  bind_functions : (bs : Bindings) → flat_map piece_functions (bind_pieces bs) ≡ []
  bind_functions no_bindings = refl
  bind_functions (binding x t bs) = bind_functions bs

mutual
  pub term_variables : (t : Term) → flat_map piece_variables (term_pieces t) ≡ variables_in t
  term_variables (numeral n) = refl
  term_variables (model.variable x) = refl
  term_variables (operation op no_terms) = refl
  term_variables (operation op (term t ts)) =
      two_lists piece_variables (argument_pieces (term t ts)) (bytes (codes ")") ∷ []) (variables_among (term t ts)) [] (argument_variables (term t ts)) refl
      ∙ append-nil (variables_among (term t ts))
  term_variables (call f no_terms) = refl
  term_variables (call f (term t ts)) =
      two_lists piece_variables (argument_pieces (term t ts)) (bytes (codes ")") ∷ []) (variables_among (term t ts)) [] (argument_variables (term t ts)) refl
      ∙ append-nil (variables_among (term t ts))
  term_variables (let_in bs t) =
      two_lists piece_variables (pair_pieces [] bs) _ (variables_bound bs) (variables_in t) (pair_variables [] bs)
      (two_lists piece_variables (bind_pieces bs) (term_pieces t ++ bytes (codes ")") ∷ restore ∷ []) [] (variables_in t) (bind_variables bs)
      (two_lists piece_variables (term_pieces t) (bytes (codes ")") ∷ restore ∷ []) (variables_in t) [] (term_variables t) refl
      ∙ append-nil (variables_in t)))

  argument_variables : (ts : Terms) → flat_map piece_variables (argument_pieces ts) ≡ variables_among ts
  argument_variables no_terms = refl
  argument_variables (term t ts) =
      two_lists piece_variables (term_pieces t) (argument_pieces ts) (variables_in t) (variables_among ts) (term_variables t) (argument_variables ts)

  pair_variables : (before : List ℕ) (bs : Bindings) → flat_map piece_variables (pair_pieces before bs) ≡ variables_bound bs
  pair_variables before no_bindings = refl
  pair_variables before (binding x t bs) =
      ap (λ xs. x ∷ xs) (two_lists piece_variables (term_pieces t) (bytes (codes ")") ∷ pair_pieces (codes " ") bs) (variables_in t) (variables_bound bs)
      (term_variables t) (pair_variables (codes " ") bs))

  bind_variables : (bs : Bindings) → flat_map piece_variables (bind_pieces bs) ≡ []
  bind_variables no_bindings = refl
  bind_variables (binding x t bs) = bind_variables bs

-- BYTES ONE AFTER ANOTHER

closed : (name rest : List ℕ) → name ++ (rest ++ 41 ∷ []) ≡ (name ++ rest) ++ 41 ∷ []
closed name rest = sym (append_assoc name rest (41 ∷ []))

let_bytes : (pairs body : List ℕ) →
    codes "(let (" ++ (pairs ++ (codes ") " ++ (body ++ 41 ∷ [])))
    ≡ 40 ∷ ((codes "let" ++ (32 ∷ ((40 ∷ (pairs ++ 41 ∷ [])) ++ (32 ∷ (body ++ []))))) ++ 41 ∷ [])
let_bytes pairs body = simp (append_assoc, append-nil)

pair_bytes : (before name value rest : List ℕ) →
    before ++ (40 ∷ (name ++ (32 ∷ (value ++ (41 ∷ rest))))) ≡ before ++ ((40 ∷ ((name ++ (32 ∷ (value ++ []))) ++ 41 ∷ [])) ++ rest)
pair_bytes before name value rest = simp (append_assoc, append-nil)

-- THE TEXT

module _ (n : Naming) where
  abbrev text : List (Piece Fun Var) → List ℕ
  text ps = flat_map (piece_text n.functions n.variables) ps

  two_texts : (ps qs : List (Piece Fun Var)) (a b : List ℕ) → text ps ≡ a → text qs ≡ b → text (ps ++ qs) ≡ a ++ b
  two_texts ps qs a b e g = two_lists (piece_text n.functions n.variables) ps qs a b e g

  named : (x : Var) → piece_text n.functions n.variables (variable x) ≡ printed (symbol_item (asked_variable n x).name)
  named x = sym (symbol_same (asked_variable n x).name)

  symbol_text : (bound : List Var) (p : Piece Fun Var) (name : List ℕ) (ts : Terms) → piece_text n.functions n.variables p ≡ printed (symbol_item name) →
      text (argument_pieces ts) ≡ printed_all (32 ∷ []) (term_items (asked_terms n bound ts)) →
      text (applied_pieces p ts) ≡ printed (applied_item name (term_items (asked_terms n bound ts)))
  symbol_text bound p name no_terms e f = append-nil (piece_text n.functions n.variables p) ∙ e
  symbol_text bound p name (term t ts) e f =
      let inside : text (argument_pieces (term t ts) ++ bytes (codes ")") ∷ []) ≡ printed_all (32 ∷ []) (term_items (asked_terms n bound (term t
      ts))) ++ 41 ∷ [] =
      two_texts (argument_pieces (term t ts)) (bytes (codes ")") ∷ []) (printed_all (32 ∷ []) (term_items (asked_terms n bound (term t ts)))) (41 ∷
      []) f refl in
      ap (λ b. 40 ∷ (piece_text n.functions n.variables p ++ b)) inside
      ∙ (ap (λ b. 40 ∷ (b ++ (printed_all (32 ∷ []) (term_items (asked_terms n bound (term t ts))) ++ 41 ∷ []))) e
      ∙ ap (λ b. 40 ∷ b) (closed (printed (symbol_item name)) (printed_all (32 ∷ []) (term_items (asked_terms n bound (term t ts))))))

  bind_text : (bs : Bindings) → text (bind_pieces bs) ≡ []
  bind_text no_bindings = refl
  bind_text (binding x t bs) = bind_text bs

  variable_text : (x : Var) (b : Bool) →
      piece_text n.functions n.variables (variable x) ++ []
      ≡ printed (term_item (if b then model.variable (asked_variable n x) else call (constant_for n x) no_terms))
  variable_text x true = append-nil (piece_text n.functions n.variables (variable x)) ∙ named x
  variable_text x false = append-nil (piece_text n.functions n.variables (variable x)) ∙ named x

  mutual
    pub term_text : (bound : List Var) (t : Term) → text (term_pieces t) ≡ printed (term_item (asked_term n bound t))
    term_text bound (numeral k) = append-nil (decimal k)
    term_text bound (model.variable x) = variable_text x (list_any (var_eq x) bound)
    term_text bound (operation op ts) =
        symbol_text bound (bytes (printed_symbol (operator_symbol op))) (operator_symbol op) ts (sym (symbol_same (operator_symbol op)))
        (argument_text bound ts)
    term_text bound (call f ts) =
        symbol_text bound (function f) (asked_function n f).name ts (sym (symbol_same (asked_function n f).name)) (argument_text bound ts)
    term_text bound (let_in bs t) =
        let pairs = printed_all [] (pair_items (asked_bindings n bound bs)) in
        let inside = printed (term_item (asked_term n (variables_of bs ++ bound) t)) in
        let body : text (term_pieces t ++ bytes (codes ")") ∷ restore ∷ []) ≡ inside ++ 41 ∷ [] =
        two_texts (term_pieces t) (bytes (codes ")") ∷ restore ∷ []) inside (41 ∷ []) (term_text (variables_of bs ++ bound) t) refl in
        let bodies : text (bind_pieces bs ++ (term_pieces t ++ bytes (codes ")") ∷ restore ∷ [])) ≡ inside ++ 41 ∷ [] =
        two_texts (bind_pieces bs) (term_pieces t ++ bytes (codes ")") ∷ restore ∷ []) [] (inside ++ 41 ∷ []) (bind_text bs) body in
        ap (λ b. codes "(let (" ++ b) (two_texts (pair_pieces [] bs) _ pairs (codes ") " ++ (inside ++ 41 ∷ [])) (pair_text bound [] bs)
        (ap (λ b. codes ") " ++ b) bodies))
        ∙ let_bytes pairs inside

    argument_text : (bound : List Var) (ts : Terms) → text (argument_pieces ts) ≡ printed_all (32 ∷ []) (term_items (asked_terms n bound ts))
    argument_text bound no_terms = refl
    argument_text bound (term t ts) =
        ap (λ b. 32 ∷ b) (two_texts (term_pieces t) (argument_pieces ts) (printed (term_item (asked_term n bound t)))
        (printed_all (32 ∷ []) (term_items (asked_terms n bound ts))) (term_text bound t) (argument_text bound ts))

    pair_text : (bound : List Var) (before : List ℕ) (bs : Bindings) →
        text (pair_pieces before bs) ≡ printed_all before (pair_items (asked_bindings n bound bs))
    pair_text bound before no_bindings = refl
    pair_text bound before (binding x t bs) =
        let value = printed (term_item (asked_term n bound t)) in
        let rest = printed_all (32 ∷ []) (pair_items (asked_bindings n bound bs)) in
        ap (λ b. before ++ (40 ∷ (piece_text n.functions n.variables (variable x) ++ (32 ∷ b))))
        (two_texts (term_pieces t) (bytes (codes ")") ∷ pair_pieces (codes " ") bs) value (41 ∷ rest) (term_text bound t)
        (ap (λ b. 41 ∷ b) (pair_text bound (codes " ") bs)))
        ∙ (ap (λ b. before ++ (40 ∷ (b ++ (32 ∷ (value ++ (41 ∷ rest)))))) (named x)
        ∙ pair_bytes before (printed (symbol_item (asked_variable n x).name)) value rest)
