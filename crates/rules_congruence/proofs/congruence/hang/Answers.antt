use Rattle.std.proofs.Common.{◌↔◌, ◌∙◌, inl, refl, sym, List, IsTrue}
use Rattle.rule_model.specs.Congruence.{IsLinked, AreLinked}
use Rattle.term_model.specs.Terms.{Term}
use Rattle.term_pool.specs.Views.{RefersTo}
use Rattle.rules_congruence.specs.Applications.{AreApplied}
use Rattle.rules_congruence.specs.Links.{TellsSides}
use Rattle.rules_congruence.specs.declared.uses.Uses.{Uses}
use Rattle.rules_congruence.proofs.CongruenceLemmas.{not_crossed, crossed_by, linked_or_crossed, not_linked, head_term}
use Rattle.rules_congruence.proofs.Options.{if_ok}
use Rattle.rules_congruence.proofs.TailLemmas.{linked_cut}
use Rattle.rules_congruence.proofs.congruence.hang.Goals as goal
use Rattle.term_parts.proofs.PartLemmas.{false_is}

pub returns-then-branch-clause-linked : goal.returns-then-branch-clause-linked
returns-then-branch-clause-linked c ps t u tells a =
    let zip = (rw (c.deref.ensures, c.deref-2.ensures) at c.in_ok-are_linked.ensures.linked) ps a.cut.prefix a.cut.others tells a.cut.left a.cut.right in
    let cut = linked_cut c.args.symbols.now c.args.terms.now Uses.Any c.args.both.now.left.items c.args.both.now.right.items a.ts a.us a.cut ps in
    (λ e. inl (cut.0 (zip.0 c.if-branch.true)), λ h. refl)

pub are_crosswise-requires-clause-left : goal.are_crosswise-requires-clause-left
are_crosswise-requires-clause-left c =
    rw c.are_linked.ensures.same
    (head_term c.args.symbols.now c.args.terms.now c.args.both.now.left.items c.in-Some.pairs.0 c.in-Some.ensures.pairs.left c.requires.lefts)

pub are_crosswise-requires-clause-right : goal.are_crosswise-requires-clause-right
are_crosswise-requires-clause-right c =
    rw c.are_linked.ensures.same
    (head_term c.args.symbols.now c.args.terms.now c.args.both.now.right.items c.in-Some.pairs.1 c.in-Some.ensures.pairs.right c.requires.rights)

pub returns-in_default-clause-linked : goal.returns-in_default-clause-linked
returns-in_default-clause-linked c ps t u tells a =
    let zip = (rw (c.deref.ensures, c.deref-2.ensures) at c.in_ok-are_linked.ensures.linked) ps a.cut.prefix a.cut.others tells a.cut.left a.cut.right in
    let cut = linked_cut c.args.symbols.now c.args.terms.now Uses.Any c.args.both.now.left.items c.args.both.now.right.items a.ts a.us a.cut ps in
    false_is (not_linked a.head ps a.ts a.us (λ h. let clash = sym c.if-branch.false ∙ zip.1 (cut.1 h) in cc)
    (not_crossed c.args.symbols.now c.args.terms.now Uses.Any c.args.both.now.head c.args.both.now.left.items c.args.both.now.right.items t u ps a c.in_default.ensures.other))

pub returns-clause-linked : goal.returns-clause-linked
returns-clause-linked c =
    if_ok (λ yes. (ps : List (List Term)) (x y z w : Term) → TellsSides c.args.symbols.now c.args.terms.now c.args.links.now ps → RefersTo c.args.symbols.now c.args.terms.now c.in-Some.pairs.0.0 x → RefersTo c.args.symbols.now c.args.terms.now c.in-Some.pairs.0.1 y → RefersTo c.args.symbols.now c.args.terms.now c.in-Some.pairs.1.0 z → RefersTo c.args.symbols.now c.args.terms.now c.in-Some.pairs.1.1 w → IsTrue yes ↔ (IsLinked ps x w × IsLinked ps y z))
    (λ yes. (ps : List (List Term)) (t u : Term) → TellsSides c.args.symbols.now c.args.terms.now c.args.links.now ps → (a : AreApplied c.args.symbols.now c.args.terms.now Uses.Any c.args.both.now.head c.args.both.now.left.items c.args.both.now.right.items t u) → IsTrue yes ↔ AreLinked a.head ps a.ts a.us)
    c.are_crosswise.result
    (λ yes h ps t u tells a.
    let zip = (rw (c.deref.ensures, c.deref-2.ensures) at c.in_ok-are_linked.ensures.linked) ps a.cut.prefix a.cut.others tells a.cut.left a.cut.right in
    let cut = linked_cut c.args.symbols.now c.args.terms.now Uses.Any c.args.both.now.left.items c.args.both.now.right.items a.ts a.us a.cut ps in
    linked_or_crossed a.head ps a.ts a.us (λ z. let clash = sym c.if-branch.false ∙ zip.1 (cut.1 z) in cc)
    (crossed_by c.args.symbols.now c.args.terms.now Uses.Any c.args.both.now.head c.args.both.now.left.items c.args.both.now.right.items t u ps a c.in-Some.pairs c.in-Some.ensures.pairs
    (λ x y z w one two three four. h ps x y z w tells one two three four)))
    (rw c.are_linked.ensures.same at c.are_crosswise.ensures.linked)
