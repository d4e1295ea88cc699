use Rattle.std.proofs.Common.{◌≡◌, ◌≤◌, ◌∙◌, false, ap, sym, subst, rules}
use Rattle.std.specs.Option.{is_some}
use Rattle.std.proofs.lemmas.Result.{IfOk-weaker, IfErr-weaker}
use Rattle.sym_table.proofs.Tables.{keeps_table}
use Rattle.rule_model.specs.Judged.{judged_at}
use Rattle.rule_model.specs.RuleNames.{kind_of}
use Rattle.rule_model.specs.Scopes.{subproofs_in}
use Rattle.term_pool.proofs.Keeping.{terms-trans}
use Rattle.step_check.specs.Statuses.{TellsMet}
use Rattle.step_check.proofs.Growing.{lacks_side, lacks_image, places_image, places_side}
use Rattle.step_check.proofs.JudgingLemmas.{answer_there, in_scope, none_is, step_is}
use Rattle.step_check.proofs.steps.answer_of_refl.Goals as goal

pub enter-requires-clause-scope : goal.enter-requires-clause-scope
enter-requires-clause-scope c =
    subst (λ k. k ≤ subproofs_in c.args.subject.now.proof.now) (sym c.scope_of-scope.ensures) (c.commands_stand_in_scopes.ensures c.args.subject.now.proof.now c.args.i)

pub meets-requires-clause-family : goal.meets-requires-clause-family
meets-requires-clause-family c = ap kind_of (c.step_at-step.ensures.rule ∙ c.requires.refl)

pub meets-requires-clause-step : goal.meets-requires-clause-step
meets-requires-clause-step c =
    let s = c.args.subject.now.symbols.now in
    let refs = c.args.subject.now.proof.now in
    let of = c.requires.kept.proof in
    let stand = c.requires.kept.stand in
    let now = c.proofs_stay.ensures s s c.args.terms.now c.enter.new.terms refs of (keeps_table s) c.enter.ensures.keeps stand in
    step_is (judged_at c.mode_of.result of c.args.i) (c.step_at-step.ensures.stands s c.enter.new.terms of now) (c.requires.sorted of stand)
    (rw (c.step_at-step.ensures.given, c.deref.ensures.value) (c.in_ok-premise_clauses.ensures.terms s c.enter.new.terms of now))

pub returns-in-Err-clause-placed : goal.returns-in-Err-clause-placed
returns-in-Err-clause-placed c of stand = places_image c.args.subject.now.symbols.now of c.args.terms.now.pass c.enter.new.terms.pass (c.enter.ensures.placed of stand)

pub returns-in-Err-clause-full : goal.returns-in-Err-clause-full
returns-in-Err-clause-full c is of stand = lacks_image c.args.subject.now.symbols.now of c.enter.new.terms.pass (c.in-Err.ensures.full (c.refused.ensures.full is) of stand)

pub returns-clause-met : goal.returns-clause-met
returns-clause-met c =
    let s = c.args.subject.now.symbols.now in
    let v = c.args.terms.now in
    let refs = c.args.subject.now.proof.now in
    let i = c.args.i in
    let laws = c.commands_correspond.ensures in
    let none : is_some c.closes.result ≡ false = search rules in
    rw c.mode_of.ensures at
    (IfOk-weaker c.meets.result _ (TellsMet c.mode_of.result s v refs i) (λ answer told of stand.
    let now = c.proofs_stay.ensures s s v c.enter.new.terms refs of (keeps_table s) c.enter.ensures.keeps stand in
    let closes = sym (c.closes.ensures ∙ laws.closes s v refs of i stand) ∙ none_is c.closes.result none in
    let here = c.in_default.ensures.scope ∙ (c.scope_of-scope.ensures ∙ laws.scope s v refs of i stand) in
    answer_there c.mode_of.result of i answer closes
    (told (judged_at c.mode_of.result of i)
    (in_scope refs of i c.mode_of.result c.enter.new.self now c.step_at-step.ensures.stands here (c.anchors_are_those_of_scopes.ensures of i closes))))
    c.meets.ensures.met)

pub returns-clause-placed : goal.returns-clause-placed
returns-clause-placed c of stand =
    let s = c.args.subject.now.symbols.now in
    let v = c.args.terms.now in
    let mid = c.enter.new.terms in
    let refs = c.args.subject.now.proof.now in
    let i = c.args.i in
    let laws = c.commands_correspond.ensures in
    let none : is_some c.closes.result ≡ false = search rules in
    let now = c.proofs_stay.ensures s s v mid refs of (keeps_table s) c.enter.ensures.keeps stand in
    let closes = sym (c.closes.ensures ∙ laws.closes s v refs of i stand) ∙ none_is c.closes.result none in
    let here = c.in_default.ensures.scope ∙ (c.scope_of-scope.ensures ∙ laws.scope s v refs of i stand) in
    places_side s of v.pass mid.pass c.meets.new.terms.pass i (sym (laws.rule s v refs of i stand) ∙ c.requires.refl)
    c.meets.ensures.keeps.pass (c.enter.ensures.placed of stand)
    (c.meets.ensures.placed (judged_at c.mode_of.result of i)
    (in_scope refs of i c.mode_of.result c.enter.new.self now c.step_at-step.ensures.stands here (c.anchors_are_those_of_scopes.ensures of i closes)))

pub returns-clause-full : goal.returns-clause-full
returns-clause-full c =
    let s = c.args.subject.now.symbols.now in
    let v = c.args.terms.now in
    let refs = c.args.subject.now.proof.now in
    let i = c.args.i in
    let laws = c.commands_correspond.ensures in
    let none : is_some c.closes.result ≡ false = search rules in
    IfErr-weaker c.meets.result _ _
    (λ e full is of stand.
    let now = c.proofs_stay.ensures s s v c.enter.new.terms refs of (keeps_table s) c.enter.ensures.keeps stand in
    let closes = sym (c.closes.ensures ∙ laws.closes s v refs of i stand) ∙ none_is c.closes.result none in
    let here = c.in_default.ensures.scope ∙ (c.scope_of-scope.ensures ∙ laws.scope s v refs of i stand) in
    lacks_side s of c.meets.new.terms.pass i (sym (laws.rule s v refs of i stand) ∙ c.requires.refl)
    (full is (judged_at c.mode_of.result of i)
    (in_scope refs of i c.mode_of.result c.enter.new.self now c.step_at-step.ensures.stands here (c.anchors_are_those_of_scopes.ensures of i closes))))
    c.meets.ensures.full

pub returns-clause-keeps : goal.returns-clause-keeps
returns-clause-keeps c = terms-trans _ _ _ c.enter.ensures.keeps c.meets.ensures.keeps
