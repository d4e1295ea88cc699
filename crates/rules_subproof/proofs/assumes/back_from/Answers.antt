use Rattle.std.proofs.Common.{◌≡◌, ◌∙◌, Some, sym, arith}
use Rattle.rule_model.specs.Reading.{closes_at}
use Rattle.rules_subproof.proofs.Deeper.{around_less}
use Rattle.rules_subproof.proofs.assumes.back_from.Goals as goal

pub returns-in-Some-clause-skipped : goal.returns-in-Some-clause-skipped
returns-in-Some-clause-skipped c m after before =
    let closes : closes_at c.args.proof.now c.args.j ≡ Some c.in-Some.inner = sym c.closes.ensures ∙ c.in-Some.is in
    let less = around_less c.args.proof.now c.args.j c.in-Some.inner closes in
    let inside = c.begin_of.ensures.inside m after before in omega arith
