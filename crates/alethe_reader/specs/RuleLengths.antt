-- Private. Rules that have a word.
use Rattle.std.specs.Prelude.{Bool, not, ◌&&◌}
use Rattle.rule_model.specs.declared.rules.Rule.{Rule}
use Rattle.rule_model.specs.RuleNames.{is_unknown}
use Rattle.rule_model.specs.Reading.{is_assume}

abbrev pub has_word : Rule → Bool
has_word rule = not (is_assume rule) && not (is_unknown rule)
