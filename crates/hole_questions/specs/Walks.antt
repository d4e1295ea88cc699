-- Private. What is left of a term, as tasks, and what a part of a walk writes.
use Rattle.std.specs.Prelude.{◌≡◌, ◌<◌, ℕ, Bool, true, false, List, [], ◌∷◌, ◌++◌, codes, decimal, flat_map, length, unsigned_abs, reverse, ⊤}
use Rattle.std.specs.List.{AllZip}
use Rattle.sexpr.specs.Printing.{printed_symbol}
use Rattle.sym_table.specs.Leaf.{Leaf, name_of}
use Rattle.sym_table.specs.Table.{Table}
use Rattle.term_model.specs.Terms.{Var, Fun, Term, Terms, Bindings}
use Rattle.term_pool.specs.Views.{TermsView, RefersTo}
use Rattle.hole_fillers.specs.Questions.{most_bytes}
use Rattle.hole_questions.specs.States.{Piece, bytes, function, variable, save, restore, State, after_all, state_of, IsStateOf}
use Rattle.hole_questions.specs.Pieces.{term_pieces, argument_pieces, pair_pieces, bind_pieces}
use Rattle.hole_questions.specs.declared.writer.Writer.{Writer}
use Rattle.term_walk.specs.Walks.{IsListOf, ArePairsOf}
use Rattle.term_walk.specs.declared.tasks.Task.{Task}

-- the piece that is a leaf
abbrev pub leaf_piece : ℕ → Leaf → Piece ℕ ℕ
leaf_piece k (Leaf.numeral n) = bytes (decimal (unsigned_abs n))
leaf_piece k (Leaf.function name arguments target) = function k
leaf_piece k (Leaf.variable name sort) = variable k
leaf_piece k l = bytes (printed_symbol (name_of l))

-- By the table, the pieces were written behind what was written before.
abbrev pub Writes : Table → Writer → Writer → List (Piece Fun Var) → Type 0
Writes s old new ps = (st : State Fun Var) → IsStateOf s (state_of old) st → IsStateOf s (state_of new) (after_all st ps)

-- With the pieces, what was written before would be longer than a question.
abbrev pub IsTooLong : Table → Writer → List (Piece Fun Var) → Type 0
IsTooLong s old ps = (st : State Fun Var) → IsStateOf s (state_of old) st → most_bytes < length (after_all st ps).text

-- the pieces were written, or would have been too long
abbrev pub WritesOrNot : Bool → Table → Writer → Writer → List (Piece Fun Var) → Type 0
WritesOrNot true s old new ps = Writes s old new ps
WritesOrNot false s old new ps = IsTooLong s old ps

-- WHAT IS LEFT

pub data Part : Type 0 where
  -- a term; arguments, each behind a space; bindings, with this before the first one and a space before each other one
  whole : Term → Part
  arguments : Terms → Part
  pairs : List ℕ → Bindings → Part
  -- the body of a let, behind the bracket that closes its bindings; their variables, as they are bound
  body : Bindings → Term → Part
  binds : Bindings → Part
  -- a bracket that closes a list, and one that closes a let
  close : Part
  end : Part

abbrev pub part_pieces : Part → List (Piece Fun Var)
part_pieces (whole t) = term_pieces t
part_pieces (arguments ts) = argument_pieces ts
part_pieces (pairs before bs) = pair_pieces before bs
part_pieces (body bs t) = bytes (codes ") ") ∷ save ∷ (bind_pieces bs ++ term_pieces t)
part_pieces (binds bs) = bind_pieces bs
part_pieces close = bytes (codes ")") ∷ []
part_pieces end = bytes (codes ")") ∷ restore ∷ []

-- the pieces of parts, of which the last one comes first
abbrev pub pieces_left : List Part → List (Piece Fun Var)
pieces_left parts = flat_map part_pieces (reverse parts)

-- the task is this part of a term
abbrev pub IsTask : Table → TermsView → Task → Part → Type 0
IsTask s v (Task.Term r) (whole t) = RefersTo s v r t
IsTask s v (Task.Arguments r) (arguments ts) = IsListOf s v r ts
IsTask s v (Task.FirstBindings r) (pairs before bs) = (before ≡ []) × ArePairsOf s v r bs
IsTask s v (Task.Bindings r) (pairs before bs) = (before ≡ codes " ") × ArePairsOf s v r bs
IsTask s v (Task.Body list r) (body bs t) = ArePairsOf s v list bs × RefersTo s v r t
IsTask s v (Task.Binds r) (binds bs) = ArePairsOf s v r bs
IsTask s v Task.Close close = ⊤
IsTask s v Task.End end = ⊤
IsTask s v _ _ = ⊥

pub record IsSomeTask (s : Table) (v : TermsView) (task : Task) : Type 0 where
  pub part : Part
  pub is : IsTask s v task part

-- Pieces at the front of the part were written, and those that are left are tasks, which were put behind the others.
pub record Performs (s : Table) (v : TermsView) (old_tasks new_tasks : List Task) (old new : Writer) (p : Part) : Type 0 where
  pub written : List (Piece Fun Var)
  pub tasks : List Task
  pub parts : List Part
  pub wrote : Writes s old new written
  pub put : new_tasks ≡ old_tasks ++ tasks
  pub are : AllZip (IsTask s v) tasks parts
  pub is : part_pieces p ≡ written ++ pieces_left parts

-- Pieces at the front of these were written, and those that are left are the tasks.
pub record ComesTo (s : Table) (v : TermsView) (tasks : List Task) (old new : Writer) (ps : List (Piece Fun Var)) : Type 0 where
  pub written : List (Piece Fun Var)
  pub parts : List Part
  pub wrote : Writes s old new written
  pub are : AllZip (IsTask s v) tasks parts
  pub is : ps ≡ written ++ pieces_left parts
