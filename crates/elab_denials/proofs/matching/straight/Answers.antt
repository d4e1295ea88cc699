use Rattle.std.proofs.Common.{◌≡◌, ◌≢◌, ◌∙◌, [], List, arith, length, refl, rules, zip}
use Rattle.std.specs.List.{AllZip}
use Rattle.rule_model.specs.Congruence.{Head, applied}
use Rattle.term_model.specs.Terms.{Term}
use Rattle.term_pool.specs.Reading.{arguments_of}
use Rattle.term_pool.specs.Views.{RefersTo}
use Rattle.elab_denials.specs.Matching.{AreLinkedAt, AreLinkedTerms, AreStraight}
use Rattle.elab_denials.proofs.HeadLemmas.{head_is_no_let, no_let}
use Rattle.elab_denials.proofs.MatchLemmas.{no_arguments, none_long, none_more, not_straight, refer_terms, some_more, straight_here}
use Rattle.elab_denials.proofs.matching.straight.Goals as goal

pub returns-in_default-clause-none : goal.returns-in_default-clause-none
returns-in_default-clause-none c sides table head ts us some left right zipped =
    c.in_default.ensures.other (applied head ts) (applied head us) left right head ts us refl refl

pub returns-then-is_empty-clause-none : goal.returns-then-is_empty-clause-none
returns-then-is_empty-clause-none c sides table head ts us some left right zipped =
    let long : length c.in_ok-lefts.lefts.items ≡ 0 = grind arith in
    let none = none_long c.in_ok-lefts.lefts.items long in
    no_arguments c.args.at.now c.args.terms.now sides c.args.left c.args.right c.in_ok-lefts.lefts.items head ts none
    ((rw c.in-Some.ensures.same at c.in_ok-lefts.ensures.arguments) (applied head ts) left (no_let head ts (applied head ts) refl)) some

pub linked_pairs-requires-clause-lefts : goal.linked_pairs-requires-clause-lefts
linked_pairs-requires-clause-lefts c =
    let s = c.args.at.now.symbols.now in
    let l = c.requires.left in
    let r = c.requires.right in
    let heads = c.in-Some.ensures.head l.means r.means l.refers r.refers in
    let same = c.in_ok-rights.ensures.same ∙ (c.in_ok-lefts.ensures.same ∙ c.in-Some.ensures.same) in
    rw (same, c.deref.ensures.value) (refer_terms s c.args.terms.now c.in_ok-lefts.lefts.items (arguments_of l.means)
    ((rw c.in-Some.ensures.same at c.in_ok-lefts.ensures.arguments) l.means l.refers (head_is_no_let s c.in-Some._head l.means heads.0)))

pub linked_pairs-requires-clause-rights : goal.linked_pairs-requires-clause-rights
linked_pairs-requires-clause-rights c =
    let s = c.args.at.now.symbols.now in
    let l = c.requires.left in
    let r = c.requires.right in
    let heads = c.in-Some.ensures.head l.means r.means l.refers r.refers in
    let same = c.in_ok-rights.ensures.same ∙ (c.in_ok-lefts.ensures.same ∙ c.in-Some.ensures.same) in
    rw (same, c.deref-2.ensures.value) (refer_terms s c.args.terms.now c.in_ok-rights.rights.items (arguments_of r.means)
    ((rw (c.in_ok-lefts.ensures.same, c.in-Some.ensures.same) at c.in_ok-rights.ensures.arguments) r.means r.refers
    (head_is_no_let s c.in-Some._head r.means heads.1)))

pub returns-clause-straight : goal.returns-clause-straight
returns-clause-straight c sides table =
    let p = c.args.at.now in
    let v = c.args.terms.now in
    let s = p.symbols.now in
    let l = c.requires.left in
    let r = c.requires.right in
    let heads = c.in-Some.ensures.head l.means r.means l.refers r.refers in
    let same = c.in_ok-rights.ensures.same ∙ (c.in_ok-lefts.ensures.same ∙ c.in-Some.ensures.same) in
    let lefts = c.in_ok-lefts.lefts.items in
    let rights = c.in_ok-rights.rights.items in
    let some : lefts ≢ [] = search rules in
    some_more (λ pairs. pairs.items ≡ zip lefts rights) (λ pairs. AllZip (AreLinkedAt p v sides) lefts rights)
    (λ pairs. AreStraight p v sides c.args.left c.args.right pairs.items) c.in_ok-found.found
    (λ pairs is linked. straight_here p v sides c.args.left c.args.right c.in-Some._head l.means r.means lefts rights pairs.items l.refers r.refers heads.0
    heads.1
    ((rw c.in-Some.ensures.same at c.in_ok-lefts.ensures.arguments) l.means l.refers (head_is_no_let s c.in-Some._head l.means heads.0))
    ((rw (c.in_ok-lefts.ensures.same, c.in-Some.ensures.same) at c.in_ok-rights.ensures.arguments) r.means r.refers
    (head_is_no_let s c.in-Some._head r.means heads.1)) some is linked)
    (rw (c.deref.ensures.value, c.deref-2.ensures.value) at c.in_ok-found.ensures.pairs)
    ((rw (same, c.deref.ensures.value, c.deref-2.ensures.value) at c.in_ok-found.ensures.linked) sides table)

pub returns-clause-none : goal.returns-clause-none
returns-clause-none c sides table =
    let p = c.args.at.now in
    let v = c.args.terms.now in
    let same = c.in_ok-rights.ensures.same ∙ (c.in_ok-lefts.ensures.same ∙ c.in-Some.ensures.same) in
    let lefts = c.in_ok-lefts.lefts.items in
    let rights = c.in_ok-rights.rights.items in
    none_more (AllZip (AreLinkedAt p v sides) lefts rights → ⊥)
    ((head : Head) (ts us : List Term) → ts ≢ [] → RefersTo p.symbols.now v c.args.left (applied head ts) → RefersTo p.symbols.now v c.args.right (applied head us)
    → AllZip (AreLinkedTerms p v sides) ts us → ⊥) c.in_ok-found.found
    (λ none head ts us some left right. not_straight p v sides c.args.left c.args.right lefts rights head ts us
    ((rw c.in-Some.ensures.same at c.in_ok-lefts.ensures.arguments) (applied head ts) left (no_let head ts (applied head ts) refl))
    ((rw (c.in_ok-lefts.ensures.same, c.in-Some.ensures.same) at c.in_ok-rights.ensures.arguments) (applied head us) right
    (no_let head us (applied head us) refl)) none)
    ((rw (same, c.deref.ensures.value, c.deref-2.ensures.value) at c.in_ok-found.ensures.none) sides table)
