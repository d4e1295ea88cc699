use Rattle.std.proofs.Common.{◌≡◌, ◌-◌, ◌<◌, suc, refl, sym, subst, arith}
use Rattle.rule_model.specs.Reading.{scope_at}
use Rattle.rules_subproof.proofs.Scanning.{none_before, AreKnown}
use Rattle.rules_subproof.proofs.assumes.are_among.Goals as goal

pub returns-then-scope_of-scope : goal.returns-then-scope_of-scope
returns-then-scope_of-scope c =
    let some = c.commands-test.true in
    let within = c.commands.invariant.0 in
    let same : suc (c.commands.next - 1) ≡ c.commands.next = omega arith in
    let outside : scope_at c.args.proof.now (c.commands.next - 1) < c.args.scope = (let small = c.if-scope_of-scope.true in let is = c.scope_of.ensures in omega arith) in
    let known = subst (AreKnown c.args.proof.now c.args.i c.args.scope c.args.list.now) (sym same) c.commands.invariant.1 in
    (λ e. none_before c.args.proof.now c.args.i c.args.scope c.args.list.now c.requires.closes (c.commands.next - 1) (omega arith) outside known, λ all. refl)
