use Rattle.std.proofs.Common.{◌≡◌, List, take, flat_map}
use Rattle.term_model.specs.Terms.{Term, not_of}
use Rattle.term_pool.specs.Views.{ReferToAll}
use Rattle.hole_questions.specs.Pieces.{assert_pieces}
use Rattle.hole_questions.specs.Walks.{Writes}
use Rattle.hole_questions.proofs.asserts.write_denials.Given as goal

-- Those before this one are written.
abbrev pub invariant-literals : goal.invariant-literals
invariant-literals l =
    ((ts : List Term) → ReferToAll l.symbols l.fn.terms l.literals ts →
    Writes l.symbols l.fn.writer l.writer (flat_map (λ t. assert_pieces (not_of t)) (take l.literal-index ts)))
    × (l.terms ≡ l.fn.terms)
