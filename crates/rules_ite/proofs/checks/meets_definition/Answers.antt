use Rattle.std.proofs.Common.{◌↔◌, IsTrue, sym, subst}
use Rattle.std.proofs.lemmas.Result.{IfOk-weaker}
use Rattle.term_parts.proofs.JudgingLemmas.{truths_are_terms}
use Rattle.rules_ite.specs.Steps.{MeetsDefinition}
use Rattle.rules_ite.proofs.CheckLemmas.{clause_of_truths}
use Rattle.rules_ite.proofs.RuleLemmas.{choice_is, none_left}
use Rattle.rules_ite.proofs.checks.meets_definition.Goals as goal

pub is_instance-requires-clause-clause : goal.is_instance-requires-clause-clause
is_instance-requires-clause-clause c = truths_are_terms c.args.step.clause.now c.requires.step.clause

pub defines_connective-requires-clause-clause : goal.defines_connective-requires-clause-clause
defines_connective-requires-clause-clause c = truths_are_terms c.args.step.clause.now c.requires.step.clause

pub returns-in-Some-clause-meets : goal.returns-in-Some-clause-meets
returns-in-Some-clause-meets c =
    IfOk-weaker c.is_instance.result _ _ (λ b test ps ts premises clause.
    choice_is ps ts c.args.step.rule c.in-Some.parts b c.in-Some.ensures (λ of has. test of ps ts has premises clause)) c.is_instance.ensures.instance

pub returns-in-ConnectiveDef-clause-meets : goal.returns-in-ConnectiveDef-clause-meets
returns-in-ConnectiveDef-clause-meets c =
    let s = c.args.symbols.now in
    let v = c.args.terms.now in
    let one = c.equal_exactly_where_terms_are.ensures s c.leaves_differ.ensures.table in
    IfOk-weaker c.defines_connective.result _ _ (λ b test ps ts premises clause.
    subst (λ rule. IsTrue b ↔ MeetsDefinition rule ps ts) (sym c.in-ConnectiveDef.is)
    (test ps ts premises clause (clause_of_truths s v one c.args.step.clause.now ts c.requires.step.clause clause))) c.defines_connective.ensures.defines

pub returns-in-IteIntro-clause-meets : goal.returns-in-IteIntro-clause-meets
returns-in-IteIntro-clause-meets c = rw c.in-IteIntro.is c.meets_ite_intro.ensures.meets

pub returns-in-DistinctElim-clause-meets : goal.returns-in-DistinctElim-clause-meets
returns-in-DistinctElim-clause-meets c = rw c.in-DistinctElim.is c.meets_distinct_elim.ensures.meets

pub unreachable-requires : goal.unreachable-requires
unreachable-requires c =
    let left = c.in_default-rule in
    none_left c.args.step.rule c.requires.family c.in_default.ensures left.not-ConnectiveDef left.not-IteIntro left.not-DistinctElim
