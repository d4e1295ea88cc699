use Rattle.std.proofs.Common.{◌≡◌, take}
use Rattle.rule_model.specs.Proofs.{no_items}
use Rattle.rule_model.specs.Scopes.{outermost, at}
use Rattle.accepted_replies.specs.Replies.{assumes_behind}
use Rattle.accepted_replies.proofs.building.assume_all.Given as goal

abbrev pub invariant-terms : goal.invariant-terms
invariant-terms l = l.builder ≡ at outermost (assumes_behind no_items (take l.k l.assumed))
