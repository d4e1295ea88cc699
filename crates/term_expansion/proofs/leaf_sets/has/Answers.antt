-- The test of the set's keys.
use Rattle.std.proofs.Common.{◌∙◌, sym}
use Rattle.term_model.proofs.Lists.{has_number}
use Rattle.term_expansion.proofs.leaf_sets.has.Goals as goal

pub returns : goal.returns
returns c =
    let test = has_number c.args.set.now.keys c.args.k in (λ e. test.0 (sym c.contains.ensures ∙ e), λ h. c.contains.ensures ∙ test.1 h)
