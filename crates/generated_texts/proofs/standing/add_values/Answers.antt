use Rattle.std.proofs.Common.{◌++◌, ◌∙◌, ap, map}
use Rattle.generated_texts.proofs.ListLemmas.{take_whole}
use Rattle.generated_texts.proofs.standing.add_values.Goals as goal

pub returns : goal.returns
returns c = c.bindings.invariant ∙ ap (λ xs. c.args.list.now.items ++ map (λ b. b.1) xs) (take_whole _ _ c.bindings-test.false)
