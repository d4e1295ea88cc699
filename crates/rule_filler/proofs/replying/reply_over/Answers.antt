use Rattle.std.proofs.lemmas.Result.{IfOk-weaker}
use Rattle.rule_filler.proofs.DenialLemmas.{are_terms, denied_truths}
use Rattle.rule_filler.proofs.Replies.{by_first}
use Rattle.rule_filler.proofs.replying.reply_over.Goals as goal

pub by_one_rule-requires-clause-assumed : goal.by_one_rule-requires-clause-assumed
by_one_rule-requires-clause-assumed c =
    let denials = c.in_ok-denials.ensures.denials c.requires.clause c.requires.refer in
    rw (c.denials_of.ensures.same, c.deref.ensures.value) (are_terms c.args.symbols.now c.args.terms.now _ _ denials.assumed_refer)

pub by_one_rule-requires-clause-clause : goal.by_one_rule-requires-clause-clause
by_one_rule-requires-clause-clause c =
    let denials = c.in_ok-denials.ensures.denials c.requires.clause c.requires.refer in
    rw (c.denials_of.ensures.same, c.deref-2.ensures.value)
    (record { clause = _; refer = denials.clause_refer; truths = denied_truths c.requires.clause c.requires.truths })

pub returns : goal.returns
returns c =
    IfOk-weaker c.by_one_rule.result _ _
    (λ found given script sorts refers.
    by_first script _
    ((rw (c.denials_of.ensures.same, c.deref.ensures.value, c.deref-2.ensures.value) at given) script sorts
    (c.in_ok-denials.ensures.denials script.assertions refers)))
    c.by_one_rule.ensures.given
