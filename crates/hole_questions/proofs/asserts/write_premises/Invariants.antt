use Rattle.std.proofs.Common.{◌≡◌, List, take, flat_map}
use Rattle.term_model.specs.Terms.{Term}
use Rattle.term_parts.specs.Judging.{ReferToClauses}
use Rattle.hole_fillers.specs.Questions.{clause_term}
use Rattle.hole_questions.specs.Pieces.{assert_pieces}
use Rattle.hole_questions.specs.Walks.{Writes}
use Rattle.hole_questions.proofs.asserts.write_premises.Given as goal

-- Those before this one are written.
abbrev pub invariant-clauses : goal.invariant-clauses
invariant-clauses l =
    ((ts : List (List Term)) → ReferToClauses l.symbols l.fn.terms l.clauses ts →
    Writes l.symbols l.fn.writer l.writer (flat_map (λ ts. assert_pieces (clause_term ts)) (take l.clause-index ts)))
    × (l.terms ≡ l.fn.terms)
