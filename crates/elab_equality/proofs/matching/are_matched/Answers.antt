use Rattle.elab_equality.proofs.CrossLemmas.{LinkBoth, LinkNone, first_crossed, first_term, second_matched, second_other, second_term, short_left, short_right}
use Rattle.elab_equality.proofs.GivenLemmas.{false_then, true_then}
use Rattle.elab_equality.proofs.matching.are_matched.Goals as goal

pub returns-in_default-clause-matched : goal.returns-in_default-clause-matched
returns-in_default-clause-matched c = short_left c.args.at.now c.args.terms.now c.args.lefts.now c.args.rights.now c.in_default.ensures.other

pub returns-in_default-two-clause-matched : goal.returns-in_default-two-clause-matched
returns-in_default-two-clause-matched c = short_right c.args.at.now c.args.terms.now c.args.lefts.now c.args.rights.now c.in_default-two.ensures.other

pub is_linked-requires-clause-left : goal.is_linked-requires-clause-left
is_linked-requires-clause-left c =
    let p = c.args.at.now in
    let v = c.args.terms.now in
    let h = c.requires.linked in
    first_term p v c.in-Some.left.0 c.in-Some.left.1 h.ts (rw c.in-Some.ensures.two at h.lefts_refer)

pub is_linked-requires-clause-right : goal.is_linked-requires-clause-right
is_linked-requires-clause-right c =
    let p = c.args.at.now in
    let v = c.args.terms.now in
    let h = c.requires.linked in
    first_term p v c.in-Some-two.right.0 c.in-Some-two.right.1 h.us (rw c.in-Some-two.ensures.two at h.rights_refer)

pub returns-then-not-first-clause-crossed : goal.returns-then-not-first-clause-crossed
returns-then-not-first-clause-crossed c =
    let p = c.args.at.now in
    let v = c.args.terms.now in
    let l = c.in-Some.left in
    let r = c.in-Some-two.right in
    first_crossed p v c.args.lefts.now c.args.rights.now l.0 l.1 r.0 r.1 c.in-Some.ensures.two c.in-Some-two.ensures.two
    (false_then c.in_ok-first.first (LinkNone p v l.0 r.0) c.if-not-first.true c.in_ok-first.ensures.other)

pub is_linked-requires-2-clause-given : goal.is_linked-requires-2-clause-given
is_linked-requires-2-clause-given c = rw c.in_ok-first.ensures.same c.requires.given

pub is_linked-requires-2-clause-left : goal.is_linked-requires-2-clause-left
is_linked-requires-2-clause-left c =
    let p = c.args.at.now in
    let v = c.args.terms.now in
    let h = c.requires.linked in
    rw c.in_ok-first.ensures.same (second_term p v c.in-Some.left.0 c.in-Some.left.1 h.ts (rw c.in-Some.ensures.two at h.lefts_refer))

pub is_linked-requires-2-clause-right : goal.is_linked-requires-2-clause-right
is_linked-requires-2-clause-right c =
    let p = c.args.at.now in
    let v = c.args.terms.now in
    let h = c.requires.linked in
    rw c.in_ok-first.ensures.same (second_term p v c.in-Some-two.right.0 c.in-Some-two.right.1 h.us (rw c.in-Some-two.ensures.two at h.rights_refer))

pub returns-clause-matched : goal.returns-clause-matched
returns-clause-matched c =
    let p = c.args.at.now in
    let v = c.args.terms.now in
    let l = c.in-Some.left in
    let r = c.in-Some-two.right in
    second_matched p v c.args.lefts.now c.args.rights.now l.0 l.1 r.0 r.1 c.in-Some.ensures.two c.in-Some-two.ensures.two c.in_ok-second.second
    (true_then c.in_ok-first.first (LinkBoth p v l.0 r.0) c.if-not-first.false c.in_ok-first.ensures.linked) (rw c.in_ok-first.ensures.same at c.in_ok-second.ensures.linked)

pub returns-clause-crossed : goal.returns-clause-crossed
returns-clause-crossed c =
    let p = c.args.at.now in
    let v = c.args.terms.now in
    let l = c.in-Some.left in
    let r = c.in-Some-two.right in
    second_other p v c.args.lefts.now c.args.rights.now l.0 l.1 r.0 r.1 c.in-Some.ensures.two c.in-Some-two.ensures.two c.in_ok-second.second
    (rw c.in_ok-first.ensures.same at c.in_ok-second.ensures.other)
