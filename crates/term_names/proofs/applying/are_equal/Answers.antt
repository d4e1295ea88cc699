use Rattle.std.proofs.Common.{◌∙◌}
use Rattle.term_names.proofs.SortLists.{same_test}
use Rattle.term_names.proofs.applying.are_equal.Goals as goal

pub returns : goal.returns
returns c = c.eq.ensures ∙ same_test c.args.sorts.now c.args.others.now
