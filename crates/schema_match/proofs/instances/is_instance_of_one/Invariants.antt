use Rattle.std.proofs.Common.{◌≡◌, List, drop}
use Rattle.term_model.specs.Terms.{Term}
use Rattle.term_pool.specs.Views.{ReferToAll}
use Rattle.rule_model.specs.Schemas.{Schema}
use Rattle.schema_match.specs.Schemas.{AreSchemas, IsInstanceOfOne}
use Rattle.term_parts.specs.Judging.{ReferToClauses}
use Rattle.schema_match.proofs.instances.is_instance_of_one.Given as goal

abbrev pub invariant-loop-schema : goal.invariant-loop-schema
invariant-loop-schema l = record {
  same : l.terms ≡ l.fn.terms;
  left : (of : List Schema) (ps : List (List Term)) (ts : List Term) → AreSchemas of l.schemas → ReferToClauses l.symbols l.fn.terms l.premises ps →
      ReferToAll l.symbols l.fn.terms l.clause ts → IsInstanceOfOne of ps ts → IsInstanceOfOne (drop l.schema-index of) ps ts;
}
