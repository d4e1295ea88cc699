-- Private. What is written where nothing was written before.
use Rattle.std.proofs.Common.{◌≡◌, refl, sym, ap, subst, ◌∙◌, ℕ, ◌<◌, nat_eq, Bool, true, false, ◌||◌, ◌&&◌, not, List, [], ◌∷◌, ◌++◌, length, map}
use Rattle.std.proofs.Common.{flat_map, codes}
use Rattle.std.proofs.lemmas.List.{append-nil, append_assoc}
use Rattle.std.specs.List.{list_any, AllZip}
use Rattle.sexpr.specs.Printed.{printed, printed_lines}
use Rattle.sym_table.specs.Table.{Table, IsTable}
use Rattle.term_model.specs.Terms.{Var, var_eq, Fun, Term}
use Rattle.problem_text.specs.PrintedTerms.{term_item}
use Rattle.rule_model.specs.Replacement.{free_variables}
use Rattle.rule_model.specs.TermTests.{fun_eq}
use Rattle.hole_fillers.specs.Questions.{Naming, naming_of, firsts, functions_in, variables_in, asked_term, assert_item, items_of, most_bytes}
use Rattle.hole_questions.specs.Asserts.{asserts_text, IsWritten}
use Rattle.hole_questions.specs.States.{bytes, State, after_all, state_of, IsStateOf, IsFunctionOf, IsVariableOf}
use Rattle.hole_questions.specs.Pieces.{term_pieces, assert_pieces, question_pieces}
use Rattle.hole_questions.specs.Walks.{Writes, IsTooLong}
use Rattle.hole_questions.specs.declared.writer.Writer.{Writer}
use Rattle.hole_questions.proofs.Alike.{variables_alike, any_alike}
use Rattle.hole_questions.proofs.Texts.{piece_functions, piece_variables, piece_text, functions_after, variables_after, text_after}
use Rattle.hole_questions.proofs.PieceTexts.{two_lists, term_functions, term_variables, term_text}
use Rattle.hole_questions.proofs.Free.{question_frees}

abbrev pub empty_state : State Fun Var
empty_state = record { text = []; functions = []; variables = []; free = []; bound = []; saved = [] }

-- the names in assert lines
question_functions : (ts : List Term) → flat_map piece_functions (question_pieces ts) ≡ flat_map functions_in ts
question_functions [] = refl
question_functions (t ∷ ts) =
    two_lists piece_functions (assert_pieces t) (question_pieces ts) (functions_in t) (flat_map functions_in ts)
    (two_lists piece_functions (term_pieces t) (bytes (41 ∷ 10 ∷ []) ∷ []) (functions_in t) [] (term_functions t) refl ∙ append-nil (functions_in t))
    (question_functions ts)

question_variables : (ts : List Term) → flat_map piece_variables (question_pieces ts) ≡ flat_map variables_in ts
question_variables [] = refl
question_variables (t ∷ ts) =
    two_lists piece_variables (assert_pieces t) (question_pieces ts) (variables_in t) (flat_map variables_in ts)
    (two_lists piece_variables (term_pieces t) (bytes (41 ∷ 10 ∷ []) ∷ []) (variables_in t) [] (term_variables t) refl ∙ append-nil (variables_in t))
    (question_variables ts)

-- an assert line
line_bytes : (t rest : List ℕ) →
    codes "(assert " ++ ((t ++ (41 ∷ 10 ∷ [])) ++ rest) ≡ (40 ∷ ((codes "assert" ++ (32 ∷ (t ++ []))) ++ 41 ∷ [])) ++ 10 ∷ rest
line_bytes t rest =
    ap (λ b. codes "(assert " ++ b)
    (append_assoc t (41 ∷ 10 ∷ []) rest
    ∙ sym (ap (λ x. (x ++ 41 ∷ []) ++ 10 ∷ rest) (append-nil t) ∙ append_assoc t (41 ∷ []) (10 ∷ rest)))

lines_text : (n : Naming) (ts : List Term) →
    flat_map (piece_text n.functions n.variables) (question_pieces ts) ≡ printed_lines (items_of (map (λ t. assert_item (asked_term n [] t)) ts))
lines_text n [] = refl
lines_text n (t ∷ ts) =
    let inside = printed (term_item (asked_term n [] t)) in
    let rest = printed_lines (items_of (map (λ t. assert_item (asked_term n [] t)) ts)) in
    let line : flat_map (piece_text n.functions n.variables) (term_pieces t ++ bytes (41 ∷ 10 ∷ []) ∷ []) ≡ inside ++ (41 ∷ 10 ∷ []) =
    two_lists (piece_text n.functions n.variables) (term_pieces t) (bytes (41 ∷ 10 ∷ []) ∷ []) inside (41 ∷ 10 ∷ []) (term_text n [] t) refl in
    two_lists (piece_text n.functions n.variables) (assert_pieces t) (question_pieces ts) (codes "(assert " ++ (inside ++ (41 ∷ 10 ∷ []))) rest
    (ap (λ b. codes "(assert " ++ b) line) (lines_text n ts)
    ∙ (append_assoc (codes "(assert ") (inside ++ (41 ∷ 10 ∷ [])) rest ∙ line_bytes inside rest)

-- the state behind all assert lines
module _ (asserted : List Term) where
  abbrev end : State Fun Var
  end = after_all empty_state (question_pieces asserted)

  end_functions : end.functions ≡ (naming_of asserted).functions
  end_functions = functions_after empty_state (question_pieces asserted) ∙ ap (firsts fun_eq) (question_functions asserted)

  end_variables : end.variables ≡ (naming_of asserted).variables
  end_variables = variables_after empty_state (question_pieces asserted) ∙ ap (firsts var_eq) (question_variables asserted)

  end_text : end.text ≡ asserts_text asserted
  end_text =
      text_after (naming_of asserted).functions (naming_of asserted).variables empty_state (question_pieces asserted)
      (ap (firsts fun_eq) (question_functions asserted)) (ap (firsts var_eq) (question_variables asserted))
      ∙ lines_text (naming_of asserted) asserted

  all_free : (b : Bool) → (false || (b && not false)) ≡ b
  all_free true = refl
  all_free false = refl

  end_free : (x : Var) → list_any (var_eq x) end.free ≡ list_any (var_eq x) (flat_map free_variables asserted)
  end_free x = (question_frees asserted empty_state).free x ∙ all_free (list_any (var_eq x) (flat_map free_variables asserted))

  module _ (s : Table) (old new : Writer) (empty : state_of old ≡ record { text = []; functions = []; variables = []; free = []; bound = []; saved = [] }) where
    starts : IsStateOf s (state_of old) empty_state
    starts = subst (λ w. IsStateOf s w empty_state) (sym empty) (record { text = refl; functions = tt; variables = tt; free = tt; bound = tt; saved = refl })

    pub written : IsTable s → Writes s old new (question_pieces asserted) → IsWritten s new asserted
    written table wrote =
        let h = wrote empty_state starts in
        record {
          text = h.text ∙ end_text;
          functions = subst (λ fs. AllZip (IsFunctionOf s) new.functions.keys fs) end_functions h.functions;
          variables = subst (λ xs. AllZip (IsVariableOf s) new.variables.keys xs) end_variables h.variables;
          free = λ k x is.
              any_alike nat_eq var_eq (IsVariableOf s) (variables_alike s table) k x is new.free.keys end.free h.free ∙ end_free x;
        }

    pub too_long : IsTooLong s old (question_pieces asserted) → most_bytes < length (asserts_text asserted)
    too_long long = subst (λ t. most_bytes < length t) end_text (long empty_state starts)
