-- Private. The text of pieces, by the names that are given in all of them.
use Rattle.std.proofs.Common.{◌≡◌, refl, sym, ap, ◌∙◌, ℕ, true, List, [], ◌∷◌, ◌++◌, codes, flat_map}
use Rattle.std.proofs.lemmas.List.{append_assoc, append-nil}
use Rattle.sexpr.specs.Printing.{printed_symbol}
use Rattle.term_model.specs.Terms.{Var, var_eq, Fun}
use Rattle.term_model.proofs.Existence.{fun_eq_decides}
use Rattle.term_model.proofs.Tests.{var_eq_decides}
use Rattle.rule_model.specs.TermTests.{fun_eq}
use Rattle.hole_fillers.specs.Questions.{firsts_behind, place_among, name_with}
use Rattle.hole_questions.specs.States.{Piece, bytes, function, binder, variable, save, bind, restore, State, after, after_all}
use Rattle.hole_questions.proofs.Firsts.{place_first}

-- what is named in a piece
abbrev pub piece_functions : Piece Fun Var → List Fun
piece_functions (bytes b) = []
piece_functions (function f) = f ∷ []
piece_functions (binder x) = []
piece_functions (variable x) = []
piece_functions save = []
piece_functions (bind x) = []
piece_functions restore = []

abbrev pub piece_variables : Piece Fun Var → List Var
piece_variables (bytes b) = []
piece_variables (function f) = []
piece_variables (binder x) = x ∷ []
piece_variables (variable x) = x ∷ []
piece_variables save = []
piece_variables (bind x) = []
piece_variables restore = []

abbrev pub function_name : List Fun → Fun → List ℕ
function_name fs f = printed_symbol (name_with (codes "f") (place_among fun_eq f fs))

abbrev pub variable_name : List Var → Var → List ℕ
variable_name xs x = printed_symbol (name_with (codes "v") (place_among var_eq x xs))

abbrev pub piece_text : List Fun → List Var → Piece Fun Var → List ℕ
piece_text fs xs (bytes b) = b
piece_text fs xs (function f) = function_name fs f
piece_text fs xs (binder x) = variable_name xs x
piece_text fs xs (variable x) = variable_name xs x
piece_text fs xs save = []
piece_text fs xs (bind x) = []
piece_text fs xs restore = []

pub functions_after :
    (st : State Fun Var) (ps : List (Piece Fun Var)) → (after_all st ps).functions ≡ firsts_behind fun_eq st.functions (flat_map piece_functions ps)
functions_after st [] = refl
functions_after st (bytes b ∷ ps) = functions_after (after fun_eq var_eq st (bytes b)) ps
functions_after st (function f ∷ ps) = functions_after (after fun_eq var_eq st (function f)) ps
functions_after st (binder x ∷ ps) = functions_after (after fun_eq var_eq st (binder x)) ps
functions_after st (variable x ∷ ps) = functions_after (after fun_eq var_eq st (variable x)) ps
functions_after st (save ∷ ps) = functions_after (after fun_eq var_eq st save) ps
functions_after st (bind x ∷ ps) = functions_after (after fun_eq var_eq st (bind x)) ps
functions_after st (restore ∷ ps) = functions_after (after fun_eq var_eq st restore) ps

pub variables_after :
    (st : State Fun Var) (ps : List (Piece Fun Var)) → (after_all st ps).variables ≡ firsts_behind var_eq st.variables (flat_map piece_variables ps)
variables_after st [] = refl
variables_after st (bytes b ∷ ps) = variables_after (after fun_eq var_eq st (bytes b)) ps
variables_after st (function f ∷ ps) = variables_after (after fun_eq var_eq st (function f)) ps
variables_after st (binder x ∷ ps) = variables_after (after fun_eq var_eq st (binder x)) ps
variables_after st (variable x ∷ ps) = variables_after (after fun_eq var_eq st (variable x)) ps
variables_after st (save ∷ ps) = variables_after (after fun_eq var_eq st save) ps
variables_after st (bind x ∷ ps) = variables_after (after fun_eq var_eq st (bind x)) ps
variables_after st (restore ∷ ps) = variables_after (after fun_eq var_eq st restore) ps

same_function : (f : Fun) → fun_eq f f ≡ true
same_function f = (fun_eq_decides f f).1 refl

same_variable : (x : Var) → var_eq x x ≡ true
same_variable x = (var_eq_decides x x).1 refl

joined : (text name rest whole : List ℕ) → whole ≡ (text ++ name) ++ rest → whole ≡ text ++ (name ++ rest)
joined text name rest whole e = e ∙ append_assoc text name rest

module _ (fs : List Fun) (xs : List Var) where
  abbrev text_of : List (Piece Fun Var) → List ℕ
  text_of ps = flat_map (piece_text fs xs) ps

  variable_next :
      (st : State Fun Var) (x : Var) (ps : List (Piece Fun Var)) → firsts_behind var_eq st.variables (x ∷ flat_map piece_variables ps) ≡ xs →
      variable_name st.variables x ≡ variable_name xs x
  variable_next st x ps e =
      ap (λ k. printed_symbol (name_with (codes "v") k))
      (sym (place_first var_eq same_variable x st.variables (flat_map piece_variables ps)) ∙ ap (place_among var_eq x) e)

  function_next :
      (st : State Fun Var) (f : Fun) (ps : List (Piece Fun Var)) → firsts_behind fun_eq st.functions (f ∷ flat_map piece_functions ps) ≡ fs →
      function_name st.functions f ≡ function_name fs f
  function_next st f ps e =
      ap (λ k. printed_symbol (name_with (codes "f") k))
      (sym (place_first fun_eq same_function f st.functions (flat_map piece_functions ps)) ∙ ap (place_among fun_eq f) e)

  pub text_after :
      (st : State Fun Var) (ps : List (Piece Fun Var)) → firsts_behind fun_eq st.functions (flat_map piece_functions ps) ≡ fs →
      firsts_behind var_eq st.variables (flat_map piece_variables ps) ≡ xs → (after_all st ps).text ≡ st.text ++ flat_map (piece_text fs xs) ps
  text_after st [] ef ev = sym (append-nil st.text)
  text_after st (bytes b ∷ ps) ef ev =
      joined st.text b (text_of ps) (after_all st (bytes b ∷ ps)).text (text_after (after fun_eq var_eq st (bytes b)) ps ef ev)
  text_after st (function f ∷ ps) ef ev =
      joined st.text (function_name st.functions f) (text_of ps) (after_all st (function f ∷ ps)).text
      (text_after (after fun_eq var_eq st (function f)) ps ef ev)
      ∙ ap (λ t. st.text ++ (t ++ text_of ps)) (function_next st f ps ef)
  text_after st (binder x ∷ ps) ef ev =
      joined st.text (variable_name st.variables x) (text_of ps) (after_all st (binder x ∷ ps)).text
      (text_after (after fun_eq var_eq st (binder x)) ps ef ev)
      ∙ ap (λ t. st.text ++ (t ++ text_of ps)) (variable_next st x ps ev)
  text_after st (variable x ∷ ps) ef ev =
      joined st.text (variable_name st.variables x) (text_of ps) (after_all st (variable x ∷ ps)).text
      (text_after (after fun_eq var_eq st (variable x)) ps ef ev)
      ∙ ap (λ t. st.text ++ (t ++ text_of ps)) (variable_next st x ps ev)
  text_after st (save ∷ ps) ef ev = text_after (after fun_eq var_eq st save) ps ef ev
  text_after st (bind x ∷ ps) ef ev = text_after (after fun_eq var_eq st (bind x)) ps ef ev
  text_after st (restore ∷ ps) ef ev = text_after (after fun_eq var_eq st restore) ps ef ev
