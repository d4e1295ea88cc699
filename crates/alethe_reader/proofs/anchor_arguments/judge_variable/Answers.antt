-- By whether the name is built in, and whether it is bound.
use Rattle.std.proofs.Common.{◌∙◌, sym}
use Rattle.alethe_reader.proofs.JudgedNames.{built_is, built_refused, bound_refused, name_kept}
use Rattle.alethe_reader.proofs.anchor_arguments.judge_variable.Goals as goal

pub returns-then-is_built_in : goal.returns-then-is_built_in
returns-then-is_built_in c = built_refused _ _ _ _ (built_is _ _ c.is_built_in.ensures ∙ c.if-is_built_in.true) c.refused.ensures

pub returns-then-has : goal.returns-then-has
returns-then-has c = bound_refused _ _ _ _ (built_is _ _ c.is_built_in.ensures ∙ c.if-is_built_in.false) (sym c.has.ensures ∙ c.if-has.true) c.refused-then-has.ensures

pub returns : goal.returns
returns c = name_kept _ _ _ _ (built_is _ _ c.is_built_in.ensures ∙ c.if-is_built_in.false) (sym c.has.ensures ∙ c.if-has.false)
