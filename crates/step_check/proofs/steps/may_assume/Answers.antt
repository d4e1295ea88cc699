use Rattle.std.proofs.Common.{◌≡◌, ◌∙◌, sym, refl}
use Rattle.std.proofs.lemmas.Result.{IfOk-weaker}
use Rattle.term_pool.proofs.References.{refer_are_terms}
use Rattle.rule_model.specs.Reading.{clause_at, scope_at}
use Rattle.step_check.proofs.StatusLemmas.{inner_assume, outer_assume}
use Rattle.step_check.proofs.steps.may_assume.Goals as goal

pub returns-then-scope_of-ne0-clause-may : goal.returns-then-scope_of-ne0-clause-may
returns-then-scope_of-ne0-clause-may c of qs stand all =
    let scope = c.commands_correspond.ensures.scope c.args.subject.now.symbols.now c.args.terms.now c.args.subject.now.proof.now of c.args.i stand in
    (λ e. inner_assume c.args.subject.now.flags qs of c.args.i (λ outer. c.if-scope_of-ne0.true (c.scope_of.ensures ∙ scope ∙ outer)), λ h. refl)

pub are_asserted-requires-clause-clause : goal.are_asserted-requires-clause-clause
are_asserted-requires-clause-clause c =
    let stand = c.requires.stand in
    rw c.clause.ensures
    (refer_are_terms c.args.subject.now.symbols.now c.args.terms.now _ _ (c.terms_correspond.ensures.clause c.args.subject.now.symbols.now c.args.terms.now c.args.subject.now.proof.now stand.proof c.args.i stand.stand))

pub returns-clause-may : goal.returns-clause-may
returns-clause-may c =
    let s = c.args.subject.now.symbols.now in
    let v = c.args.terms.now in
    let refs = c.args.subject.now.proof.now in
    let i = c.args.i in
    IfOk-weaker c.are_asserted.result _ _ (λ told tells of qs stand all.
    let outer : scope_at of i ≡ 0 = sym (c.commands_correspond.ensures.scope s v refs of i stand) ∙ (sym c.scope_of.ensures ∙ c.if-scope_of-ne0.false) in
    outer_assume c.args.subject.now.flags qs of i told outer
    (tells qs (clause_at of i) all (rw c.clause.ensures (c.terms_correspond.ensures.clause s v refs of i stand)))) (rw c.mode_of-mode.ensures at c.are_asserted.ensures.asserted)
