use Rattle.std.proofs.Common.{◌≡◌, ◌++◌, ◌∙◌, ap, sym, append_assoc, append-nil, arith}
use Rattle.std.proofs.Math.Numerals.{add-one}
use Rattle.rule_model.specs.Scopes.{commands_in}
use Rattle.generated_texts.specs.Standing.{standing_at, standing_to}
use Rattle.generated_texts.proofs.standing.gather.Goals as goal

pub commands-init : goal.commands-init
commands-init c = c.in_ok-list.ensures.items ∙ sym (append-nil c.args.assertions.now)

pub commands-preserved : goal.commands-preserved
commands-preserved c =
    let first = c.args.assertions.now in
    let proof = c.args.proof.now in
    c.in_ok-add_command.ensures
    ∙ (ap (λ xs. xs ++ standing_at proof c.commands.i) c.commands.invariant
    ∙ (append_assoc first (standing_to proof c.commands.i) (standing_at proof c.commands.i)
    ∙ ap (λ n. first ++ standing_to proof n) (sym (add-one c.commands.i))))

pub returns : goal.returns
returns c =
    let last : c.commands.i ≡ commands_in c.args.proof.now =
    omega (arith, c.commands-test.false, c.commands.auto.i-end, c.count-i-end.ensures.count) in
    c.commands.invariant ∙ ap (λ n. c.args.assertions.now ++ standing_to c.args.proof.now n) last
