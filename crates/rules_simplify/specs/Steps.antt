-- Private. In which way each rule of the family simplifies, and what a way asks of the clauses of a step.
use Rattle.std.specs.Prelude.{List, Option, Some, None}
use Rattle.term_model.specs.declared.symbols.Op.{Op}
use Rattle.term_model.specs.Terms.{Term}
use Rattle.rule_model.specs.declared.rules.Rule.{Rule}
use Rattle.rule_model.specs.Simplify.{MeetsJoining, MeetsSimplification}
use Rattle.rules_simplify.specs.declared.checks.Way.{Way}
use Rattle.rules_simplify.specs.declared.joins.Junction.{Junction}
use Rattle.rules_simplify.specs.declared.tables.Simplification.{Simplification}
use Rattle.rules_simplify.specs.Joins.{constant}
use Rattle.rules_simplify.specs.Tables.{rows_of}

-- a junction of an operator, by the constants that it leaves out and that absorb its arguments
abbrev pub junction : Op → Op → Op → Junction
junction op neutral absorbing = record { op = op; neutral = neutral; absorbing = absorbing }

abbrev pub way_of : Rule → Option Way
way_of Rule.AndSimplify = Some (Way.Joining (junction Op.And Op.True Op.False))
way_of Rule.OrSimplify = Some (Way.Joining (junction Op.Or Op.False Op.True))
way_of Rule.NotSimplify = Some (Way.Rewriting Simplification.Not)
way_of Rule.ImpliesSimplify = Some (Way.Rewriting Simplification.Implies)
way_of Rule.EquivSimplify = Some (Way.Rewriting Simplification.Equiv)
way_of Rule.BoolSimplify = Some (Way.Rewriting Simplification.Bool)
way_of Rule.IteSimplify = Some (Way.Rewriting Simplification.Ite)
way_of Rule.EqSimplify = Some (Way.Rewriting Simplification.Equality)
way_of Rule.CompSimplify = Some (Way.Rewriting Simplification.Comparison)
way_of rule = None

abbrev pub MeetsUnder : Junction → List (List Term) → List Term → Type 0
MeetsUnder j = MeetsJoining j.op (constant j.neutral) (constant j.absorbing)

abbrev pub MeetsByRows : Simplification → List (List Term) → List Term → Type 0
MeetsByRows table = MeetsSimplification (rows_of table)

abbrev pub MeetsBySome : Option Way → List (List Term) → List Term → Type 0
MeetsBySome (Some (Way.Joining j)) premises clause = MeetsUnder j premises clause
MeetsBySome (Some (Way.Rewriting table)) premises clause = MeetsByRows table premises clause
MeetsBySome None premises clause = ⊥
