use Rattle.std.proofs.Common.{◌∙◌, sym, subst}
use Rattle.rule_model.specs.declared.rules.Rule.{Rule}
use Rattle.rules_subproof.proofs.CheckLemmas.{IsClosingRule, closing_tells, none_closed, none_left}
use Rattle.rules_subproof.proofs.checks.check.Goals as goal

pub returns-in_default-clause-met : goal.returns-in_default-clause-met
returns-in_default-clause-met c of stand =
    let laws = c.commands_correspond.ensures in
    let s = c.args.symbols.now in
    let v = c.args.terms.now in
    let refs = c.args.proof.now in
    let i = c.args.i in
    none_closed c.args.mode of i (subst IsClosingRule (laws.rule s v refs of i stand) c.requires.family)
    (sym (laws.closes s v refs of i stand) ∙ (sym c.closes.ensures ∙ c.in_default.is))

pub returns-in-Subproof-clause-met : goal.returns-in-Subproof-clause-met
returns-in-Subproof-clause-met c of stand =
    let laws = c.commands_correspond.ensures in
    let s = c.args.symbols.now in
    let v = c.args.terms.now in
    let refs = c.args.proof.now in
    let i = c.args.i in
    rw c.answer_of.ensures
    (closing_tells c.args.mode of i Rule.Subproof c.in-Some.scope c.is_subproof.result
    (sym (laws.rule s v refs of i stand) ∙ (sym c.rule.ensures ∙ c.in-Subproof.is))
    (sym (laws.closes s v refs of i stand) ∙ (sym c.closes.ensures ∙ c.in-Some.is)) (c.is_subproof.ensures.met of stand))

pub returns-in_ok-met-in-Let-clause-met : goal.returns-in_ok-met-in-Let-clause-met
returns-in_ok-met-in-Let-clause-met c of stand =
    let laws = c.commands_correspond.ensures in
    let s = c.args.symbols.now in
    let v = c.args.terms.now in
    let refs = c.args.proof.now in
    let i = c.args.i in
    let closes = sym c.closes.ensures ∙ c.in-Some.is in
    rw c.answer_of-in-Let.ensures
    (closing_tells c.args.mode of i Rule.Let c.in-Some.scope c.in_ok-met-in-Let.met
    (sym (laws.rule s v refs of i stand) ∙ (sym c.rule.ensures ∙ c.in-Let.is))
    (sym (laws.closes s v refs of i stand) ∙ closes) (c.in_ok-met-in-Let.ensures.met of c.in-Some.scope closes stand))

pub unreachable-requires : goal.unreachable-requires
unreachable-requires c =
    none_left c.rule.result (subst IsClosingRule (sym c.rule.ensures) c.requires.family) c.in_default-rule.not-Subproof c.in_default-rule.not-Let
