use Rattle.std.proofs.Common.{[], ◌∷◌, false}
use Rattle.term_model.specs.Flips.{equality}
use Rattle.elab_denials.proofs.OwingLemmas.{opposed_at, opposed_denied, opposed_equality, pivot_made, resolvent_made}
use Rattle.elab_denials.proofs.WorkLemmas.{done_step, extends_none}
use Rattle.elab_denials.proofs.resolving.resolved.Goals as goal

pub pivot_of-requires-clause-made : goal.pivot_of-requires-clause-made
pivot_of-requires-clause-made c =
    opposed_equality c.args.at.now c.args.terms.now c.args.work.now.block c.args.left c.args.right c.args.pair c.requires.opposed

pub pivot_of-requires-clause-denied : goal.pivot_of-requires-clause-denied
pivot_of-requires-clause-denied c =
    opposed_denied c.args.at.now c.args.terms.now c.args.work.now.block c.args.left c.args.right c.args.pair c.requires.opposed
    (c.equal_exactly_where_terms_are.ensures c.args.at.now.symbols.now c.leaves_differ.ensures.table)

pub resolution-requires-clause-block : goal.resolution-requires-clause-block
resolution-requires-clause-block c =
    c.blocks_stay.ensures.block c.args.at.now c.args.terms.now c.pivot_of.new.terms c.args.work.now.block c.in_ok-pivot.ensures.went.keeps c.requires.work.block

pub resolution-requires-clause-given : goal.resolution-requires-clause-given
resolution-requires-clause-given c =
    let o = c.requires.opposed in
    let e = c.in_ok-pivot.ensures in
    opposed_at c.args.at.now c.args.terms.now c.args.work.now.block c.args.left c.args.right c.args.pair o c.blocks_stay.ensures.link c.pivot_of.new.terms
    e.went.keeps c.in_ok-pivot.pivot.atom c.in_ok-pivot.pivot.negation (e.atom o.one o.other o.one_refers o.other_refers)
    (e.negation o.one o.other o.one_refers o.other_refers)

pub returns-clause-says : goal.returns-clause-says
returns-clause-says c ts us t u l r a b =
    let p = c.args.at.now in
    let v = c.args.terms.now in
    let w = c.pivot_of.new.terms in
    let e = c.in_ok-pivot.ensures in
    let steps = c.args.work.now.block in
    let found =
    c.in_ok-link.ensures.added ts us (equality t u)
    (c.blocks_stay.ensures.link p v w steps steps c.args.left ts e.went.keeps (extends_none steps) l)
    (c.blocks_stay.ensures.link p v w steps steps c.args.right us e.went.keeps (extends_none steps) r) (e.atom t u a b) in
    record { clause = found.clause; says = found.adds.says; is = found.resolvent }

pub returns-clause-done : goal.returns-clause-done
returns-clause-done c =
    let p = c.args.at.now in
    let v = c.args.terms.now in
    let w = c.pivot_of.new.terms in
    let o = c.requires.opposed in
    let e = c.in_ok-pivot.ensures in
    let steps = c.args.work.now.block in
    let atom = c.in_ok-pivot.pivot.atom in
    let refers = e.atom o.one o.other o.one_refers o.other_refers in
    let found =
    c.in_ok-link.ensures.added o.left_clause o.right_clause (equality o.one o.other)
    (c.blocks_stay.ensures.link p v w steps steps c.args.left o.left_clause e.went.keeps (extends_none steps) o.left_says)
    (c.blocks_stay.ensures.link p v w steps steps c.args.right o.right_clause e.went.keeps (extends_none steps) o.right_says) refers in
    done_step c.forms_stay.ensures p v w c.args.work.now c.resolution.new.block c.in_ok-link.link found.clause ((atom, false) ∷ []) e.went.keeps
    c.requires.work c.in_ok-link.ensures.block found.adds
    (resolvent_made p v steps c.args.left c.args.right c.args.pair o c.resolvents_have_other_literals.ensures w e.went.keeps found.clause found.resolvent)
    (pivot_made p v steps c.args.left c.args.right c.args.pair o w e.went.keeps atom refers)
