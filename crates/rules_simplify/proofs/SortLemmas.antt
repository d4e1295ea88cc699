-- Each row of the tables of rewrites keeps sorts.
use Rattle.std.proofs.Common.{[], Contains}
use Rattle.term_model.specs.Interpretations.{Interpretation}
use Rattle.term_model.specs.Sorts.{IsWellSorted}
use Rattle.term_model.specs.Terms.{Term}
use Rattle.term_model.specs.Values.{some_value}
use Rattle.term_model.proofs.Sorting.{some_value_fits}
use Rattle.rule_model.specs.declared.letter.Letter.{Letter}
use Rattle.rule_model.specs.Rewriting.{RewriteRow, PassesGuard}
use Rattle.rule_model.specs.Schemas.{fill}
use Rattle.rule_model.proofs.Rewriting.{IsKept}
use Rattle.rule_model.proofs.Simplify.{AreKept, not_kept, implies_kept, equiv_kept, bool_kept, ite_kept, eq_kept, comp_kept}
use Rattle.rules_simplify.specs.declared.tables.Simplification.{Simplification}
use Rattle.rules_simplify.specs.Tables.{rows_of}
use Rattle.rules_simplify.proofs.ChainLemmas.{all_at}

-- an interpretation, since what keeps values under each of them keeps sorts
plain : Interpretation
plain = record {
  table = λ f. record { rows = []; default = some_value f.target };
  fits = λ f. record { rows = tt; default = some_value_fits f.target };
}

all_kept : (table : Simplification) → AreKept (rows_of table)
all_kept Simplification.Not = not_kept
all_kept Simplification.Implies = implies_kept
all_kept Simplification.Equiv = equiv_kept
all_kept Simplification.Bool = bool_kept
all_kept Simplification.Ite = ite_kept
all_kept Simplification.Equality = eq_kept
all_kept Simplification.Comparison = comp_kept

pub right_sorted : (table : Simplification) (row : RewriteRow) → Contains (rows_of table) row → (f : Letter → Term) → PassesGuard f row.guard → IsWellSorted (fill f row.left) → IsWellSorted (fill f row.right)
right_sorted table row there f passes w =
    record { sort = w.sort; of = (all_at IsKept (rows_of table) row (all_kept table) there plain [] f w.sort tt w.of passes).sort_is }
