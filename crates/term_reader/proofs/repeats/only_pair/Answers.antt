use Rattle.std.proofs.Common.{◌+◌, ap, ◌∙◌}
use Rattle.problem_text.specs.Words.{is_built_in}
use Rattle.text_items.specs.Stepping.{name_in}
use Rattle.term_reader.proofs.RepeatLemmas.{only_stop, only_pass}
use Rattle.term_reader.proofs.repeats.only_pair.Goals as goal

pub returns-then-is_built_in : goal.returns-then-is_built_in
returns-then-is_built_in c =
    λ f last. only_stop c.args.items.now c.args.k c.args.body (name_in c.args.items.now (c.args.k + 1)) f c.is_built_in.result (c.is_built_in.ensures ∙ ap is_built_in c.pair_name.ensures) c.if-is_built_in.true

pub returns-else-is_built_in : goal.returns-else-is_built_in
returns-else-is_built_in c =
    λ f last. only_pass c.args.items.now c.args.k c.args.body (name_in c.args.items.now (c.args.k + 1)) f c.is_built_in.result last (c.is_built_in.ensures ∙ ap is_built_in c.pair_name.ensures) c.if-is_built_in.false
