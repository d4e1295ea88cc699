use Rattle.rule_filler.proofs.Replies.{one_reply}
use Rattle.rule_filler.proofs.laws.replies_are_unique.Goals as goal

pub returns : goal.returns
returns c = λ question a b x y. one_reply c.texts_have_one_reading.ensures.script c.lone_rules_are_unique.ensures.one question a b x y
