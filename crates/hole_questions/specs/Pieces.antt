-- Private. The pieces of which the assert lines of a question are made.
use Rattle.std.specs.Prelude.{ℕ, List, [], ◌∷◌, ◌++◌, codes, decimal, flat_map}
use Rattle.sexpr.specs.Printing.{printed_symbol}
use Rattle.sym_table.specs.Words.{operator_symbol}
use Rattle.term_model.specs.Terms.{Var, Fun, Term, numeral, operation, call, let_in, Terms, no_terms, term, Bindings, no_bindings, binding}
use Rattle.term_model.specs.Terms as model
use Rattle.hole_questions.specs.States.{Piece, bytes, function, binder, variable, save, bind, restore}

abbrev mutual
  -- the pieces of a term
  pub term_pieces : Term → List (Piece Fun Var)
  term_pieces (numeral n) = bytes (decimal n) ∷ []
  term_pieces (model.variable x) = variable x ∷ []
  term_pieces (operation op ts) = applied_pieces (bytes (printed_symbol (operator_symbol op))) ts
  term_pieces (call f ts) = applied_pieces (function f) ts
  term_pieces (let_in bs t) =
      bytes (codes "(let (") ∷ (pair_pieces [] bs
      ++ (bytes (codes ") ") ∷ save ∷ (bind_pieces bs ++ (term_pieces t ++ bytes (codes ")") ∷ restore ∷ []))))

  -- a symbol with its arguments
  pub applied_pieces : Piece Fun Var → Terms → List (Piece Fun Var)
  applied_pieces p no_terms = p ∷ []
  applied_pieces p (term t ts) = bytes (codes "(") ∷ p ∷ ((bytes (codes " ") ∷ (term_pieces t ++ argument_pieces ts)) ++ bytes (codes ")") ∷ [])

  -- arguments, each behind a space
  pub argument_pieces : Terms → List (Piece Fun Var)
  argument_pieces no_terms = []
  argument_pieces (term t ts) = bytes (codes " ") ∷ (term_pieces t ++ argument_pieces ts)

  -- bindings, with this before the first one and a space before each other one
  pub pair_pieces : List ℕ → Bindings → List (Piece Fun Var)
  pair_pieces before no_bindings = []
  pair_pieces before (binding x t bs) =
      bytes before ∷ bytes (codes "(") ∷ binder x ∷ bytes (codes " ")
      ∷ (term_pieces t ++ bytes (codes ")") ∷ pair_pieces (codes " ") bs)

  -- their variables, as they are bound
  pub bind_pieces : Bindings → List (Piece Fun Var)
  bind_pieces no_bindings = []
  bind_pieces (binding x t bs) = bind x ∷ bind_pieces bs

-- a term behind a space
abbrev pub spaced_pieces : Term → List (Piece Fun Var)
spaced_pieces t = bytes (codes " ") ∷ term_pieces t

-- an assert line, and all of them
abbrev pub assert_pieces : Term → List (Piece Fun Var)
assert_pieces t = bytes (codes "(assert ") ∷ (term_pieces t ++ bytes (41 ∷ 10 ∷ []) ∷ [])

abbrev pub question_pieces : List Term → List (Piece Fun Var)
question_pieces asserted = flat_map assert_pieces asserted
