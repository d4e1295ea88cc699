-- The rule whose word it is.
use Rattle.std.proofs.Common.{◌≡◌, true, ◌∙◌, ap, sym, subst, slice_index_or}
use Rattle.std.specs.Str.{bytes_eq}
use Rattle.std.proofs.lemmas.Option.{slice_get-get_or}
use Rattle.std.proofs.lemmas.Slice.Eq.{bytes_eq-Decides}
use Rattle.rule_model.specs.declared.rules.Rule.{Rule}
use Rattle.rule_model.specs.RuleNames.{word_of, rule_named}
use Rattle.alethe_reader.proofs.RuleWords.{has_word_there}
use Rattle.alethe_reader.proofs.rules.found_by_length.Goals as goal

pub returns-then-eq : goal.returns-then-eq
returns-then-eq c =
    let rules = c.rules_of_length-rules.result.now in
    let r = slice_index_or rules c.rules.rule-index Rule.Assume in
    let worded = has_word_there rules c.rules.rule-index r c.rules.invariant.worded (slice_get-get_or rules c.rules.rule-index Rule.Assume c.rules-test.true) in
    let test = subst (λ w. bytes_eq w c.args.name.now ≡ true) c.word.ensures (sym c.eq.ensures ∙ c.if-eq.true) in
    let same : word_of r ≡ c.args.name.now = (bytes_eq-Decides (word_of r) c.args.name.now).0 test in
    sym (ap rule_named (sym same) ∙ c.rules_have_words.ensures.named r worded.0 worded.1)
