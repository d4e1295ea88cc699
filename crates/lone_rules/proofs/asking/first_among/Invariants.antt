use Rattle.std.proofs.Common.{◌≡◌, List}
use Rattle.term_model.specs.Terms.{Term}
use Rattle.term_pool.specs.Views.{ReferToAll}
use Rattle.known_args.specs.Rows.{AreRight}
use Rattle.lone_rules.specs.LoneRules.{AreUnmetTo}
use Rattle.lone_rules.proofs.asking.first_among.Given as goal

-- Those before this one are not met.
abbrev pub invariant-rules : goal.invariant-rules
invariant-rules l =
    ((ts : List Term) → ReferToAll l.symbols l.fn.terms l.clause ts → AreUnmetTo ts l.rules l.rule-index)
    × (l.terms ≡ l.fn.terms) × AreRight l.fn.terms l.scratches.known
