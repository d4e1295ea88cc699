use Rattle.std.proofs.Common.{◌≡◌, [], sym, ◌∙◌, rules}
use Rattle.std.proofs.lemmas.Bool.{OnTrue_at, OnFalse_at}
use Rattle.std.proofs.lemmas.List.{nil_from_length}
use Rattle.std.proofs.lemmas.Option.{MatchOption-at_none}
use Rattle.std.proofs.lemmas.Result.{IfOk-weaker}
use Rattle.term_pool.proofs.References.{refer_are_terms}
use Rattle.rules_ite.proofs.IntroductionLemmas.{nothing_introduced, other_first, introduced_is, refer_first, refer_none, refers_is_known}
use Rattle.rules_ite.proofs.facts.introduces_choices.Goals as goal

pub returns-then-not-branch-clause-introduces : goal.returns-then-not-branch-clause-introduces
returns-then-not-branch-clause-introduces c t u left right =
    nothing_introduced t u (OnFalse_at c.if-not-branch.true c.in_ok-load_arguments.ensures.other u right)

pub returns-in_default-clause-introduces : goal.returns-in_default-clause-introduces
returns-in_default-clause-introduces c t u left right =
    let loaded = OnTrue_at c.if-not-branch.false c.in_ok-load_arguments.ensures.loaded u right in
    let none : c.as_slice.result.now ≡ [] = nil_from_length c.as_slice.result.now (MatchOption-at_none _ _ c.in_default.is c.split_first.ensures.cases) in
    absurd (refer_none c.args.symbols.now c.args.terms.now c.load_arguments.new.arguments.items loaded.first loaded.others (sym c.as_slice.ensures ∙ none) loaded.refer)

pub same_up_to_flips-requires-clause-other : goal.same_up_to_flips-requires-clause-other
same_up_to_flips-requires-clause-other c =
    let s = c.args.symbols.now in
    let v = c.args.terms.now in
    let loaded = OnTrue_at c.if-not-branch.false c.in_ok-load_arguments.ensures.loaded c.requires.right.means c.requires.right.refers in
    let items = sym c.as_slice.ensures ∙ c.in-Some.ensures.cases.0 in
    refers_is_known s v c.load_arguments.new.terms c.get.result loaded.first c.load_arguments.ensures.same
    (rw c.get.ensures (refer_first s v _ _ c.load_arguments.new.arguments.items loaded.first loaded.others items loaded.refer).0)

pub returns-then-not-branch-2-clause-introduces : goal.returns-then-not-branch-2-clause-introduces
returns-then-not-branch-2-clause-introduces c t u left right =
    let s = c.args.symbols.now in
    let v = c.args.terms.now in
    let loaded = OnTrue_at c.if-not-branch.false c.in_ok-load_arguments.ensures.loaded u right in
    let items = sym c.as_slice.ensures ∙ c.in-Some.ensures.cases.0 in
    let refer = refer_first s v _ _ c.load_arguments.new.arguments.items loaded.first loaded.others items loaded.refer in
    other_first t u loaded.first loaded.others loaded.is c.in_ok-same_up_to_flips.field-0
    ((rw c.load_arguments.ensures.same at c.in_ok-same_up_to_flips.ensures.same) t loaded.first left (rw c.get.ensures refer.0)) c.if-not-branch-2.true

pub are_facts-requires : goal.are_facts-requires
are_facts-requires c =
    let s = c.args.symbols.now in
    let v = c.args.terms.now in
    let kept : c.same_up_to_flips.new.self ≡ c.load_arguments.new.terms = search rules in
    let loaded = OnTrue_at c.if-not-branch.false c.in_ok-load_arguments.ensures.loaded c.requires.right.means c.requires.right.refers in
    let items = sym c.as_slice.ensures ∙ c.in-Some.ensures.cases.0 in
    rw (kept, c.load_arguments.ensures.same)
    (refer_are_terms s v _ loaded.others
    (refer_first s v _ _ c.load_arguments.new.arguments.items loaded.first loaded.others items loaded.refer).1)

pub returns-clause-introduces : goal.returns-clause-introduces
returns-clause-introduces c =
    let s = c.args.symbols.now in
    let v = c.args.terms.now in
    let kept : c.same_up_to_flips.new.self ≡ c.load_arguments.new.terms = search rules in
    IfOk-weaker c.are_facts.result _ _ (λ b test t u left right.
    let loaded = OnTrue_at c.if-not-branch.false c.in_ok-load_arguments.ensures.loaded u right in
    let items = sym c.as_slice.ensures ∙ c.in-Some.ensures.cases.0 in
    let refer = refer_first s v _ _ c.load_arguments.new.arguments.items loaded.first loaded.others items loaded.refer in
    let flips = (rw c.load_arguments.ensures.same at c.in_ok-same_up_to_flips.ensures.same) t loaded.first left (rw c.get.ensures refer.0) in
    introduced_is t u loaded.first loaded.others loaded.is b (flips.0 c.if-not-branch-2.false) (test loaded.others refer.1))
    (rw (kept, c.load_arguments.ensures.same) at c.are_facts.ensures.facts)
