-- The rule stands in the command's row.
use Rattle.std.proofs.Common.{◌≡◌, slice_get, Some, subst}
use Rattle.std.specs.Option.{option_map}
use Rattle.proof_store.proofs.StoredLemmas.{row_rule}
use Rattle.proof_store.proofs.commands.Commands.rule.Goals as goal

pub returns : goal.returns
returns c =
    let at = subst (λ rows. slice_get rows c.args.i ≡ Some c.row_at.result) c.deref.ensures.value c.row_at.ensures in
    subst (λ l. option_map (λ s. s.rule) (slice_get l c.args.i) ≡ Some c.row_at.result.rule) c.self.view_is (row_rule c.self.inside.columns c.self.inside.names c.self.inside.rows.items c.args.i c.row_at.result at)
