use Rattle.std.proofs.Common.{sym, ◌∙◌}
use Rattle.term_model.proofs.Lists.{has_number}
use Rattle.known_args.proofs.row.is_in.Goals as goal

pub returns : goal.returns
returns c =
    let there = has_number c.args.table.now.keys c.args.x in
    (λ e. there.0 (sym c.contains.ensures ∙ e), λ h. c.contains.ensures ∙ there.1 h)
