use Rattle.std.proofs.Common.{sym, ◌∙◌, subst, arith}
use Rattle.rule_model.specs.Scopes.{outermost}
use Rattle.rule_model.specs.WellFormed.{IsNewId}
use Rattle.accepted_replies.proofs.ReplyBuilding.{id_here}
use Rattle.accepted_replies.proofs.ReplyForm.{new_id}
use Rattle.accepted_replies.proofs.building.assume_next.Goals as goal

pub assume-requires-clause-id : goal.assume-requires-clause-id
assume-requires-clause-id c =
    let few = c.requires.few in
    id_here c.args.builder.now c.as_bytes.result.now c.requires.outer
    (subst (IsNewId outermost c.args.builder.now.items) (sym (c.as_bytes.ensures.value ∙ c.in_ok-id.ensures))
    (new_id c.args.builder.now.items c.args.count c.requires.count c.requires.numbered (omega (arith, few))))
