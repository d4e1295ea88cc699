use Rattle.std.proofs.Common.{◌++◌, ◌∷◌, []}
use Rattle.rule_model.specs.declared.literal.Literal.TheVariants.{Always, Never}
use Rattle.rules_resolution.proofs.States.{state_same, same_with_always, same_with_never}
use Rattle.rules_resolution.proofs.work.falsify.Goals as goal

pub returns-in_ok-falsify_plain-in-Plain-clause-falsifies : goal.returns-in_ok-falsify_plain-in-Plain-clause-falsifies
returns-in_ok-falsify_plain-in-Plain-clause-falsifies c = rw c.in-Plain.is c.in_ok-falsify_plain-in-Plain.ensures.falsifies

pub returns-in-Always-clause-falsifies : goal.returns-in-Always-clause-falsifies
returns-in-Always-clause-falsifies c premises goal falses state =
    rw c.in-Always.is
    (state_same premises goal falses (falses ++ Always ∷ []) c.args.table.now _ _
    (same_with_always falses c.args.table.now) state)

pub returns-in-Never-clause-falsifies : goal.returns-in-Never-clause-falsifies
returns-in-Never-clause-falsifies c premises goal falses state =
    rw c.in-Never.is
    (state_same premises goal falses (falses ++ Never ∷ []) c.args.table.now _ _
    (same_with_never falses c.args.table.now) state)
