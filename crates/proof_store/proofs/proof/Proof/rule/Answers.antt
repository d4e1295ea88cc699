-- The rule of the command's line.
use Rattle.std.proofs.Common.{◌≡◌, subst}
use Rattle.rule_model.specs.Reading.{rule_at}
use Rattle.proof_store.proofs.ReadingLemmas.{read_rule}
use Rattle.proof_store.proofs.proof.Proof.rule.Goals as goal

pub returns : goal.returns
returns c =
    subst (λ proof. c.rule.result ≡ rule_at proof c.args.i) c.self.view_is (read_rule c.self.inside.draft _ c.args.i c.self.invariant c.rule.result c.rule.ensures)
