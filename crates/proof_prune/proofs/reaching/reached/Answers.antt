use Rattle.std.proofs.Common.{◌≡◌, ◌+◌, ◌-◌, subst, arith}
use Rattle.proof_prune.specs.Marking.{AreMarksFrom}
use Rattle.proof_prune.proofs.Stepping.{all_are}
use Rattle.proof_prune.proofs.reaching.reached.Goals as goal

pub visit-requires-clause-within : goal.visit-requires-clause-within
visit-requires-clause-within c = let h = c.commands.invariant.1 in let t = c.commands-test.true in omega arith

pub visit-requires-clause-marks : goal.visit-requires-clause-marks
visit-requires-clause-marks c =
    let t = c.commands-test.true in
    let same : c.commands.i ≡ (c.commands.i - 1) + 1 = omega arith in
    subst (λ n. AreMarksFrom c.args.proof.now c.args.from n c.commands.marks.commands.items c.commands.marks.scopes.items) same c.commands.invariant.0

pub returns : goal.returns
returns c =
    all_are c.args.proof.now c.args.from c.commands.i c.commands.marks.commands.items c.commands.marks.scopes.items (let t = c.commands-test.false in omega arith) c.commands.invariant.0
