use Rattle.std.proofs.Common.{◌∙◌, sym}
use Rattle.rules_simplify.proofs.CheckLemmas.{has_way}
use Rattle.rules_simplify.proofs.checks.meets_by_way.Goals as goal

pub unreachable-requires : goal.unreachable-requires
unreachable-requires c = has_way c.args.step.rule c.requires.family (sym c.way_of.ensures ∙ c.in-None.is)
