use Rattle.term_model.specs.Flips.{equality}
use Rattle.term_model.specs.Terms.{terms_of}
use Rattle.term_pool.proofs.PlacedCells.{places_of_term, lacks_for_term}
use Rattle.flip_steps.specs.Stages.{IsMadeAt}
use Rattle.flip_steps.specs.Subterms.{with_arguments}
use Rattle.flip_steps.proofs.EquateLemmas.{equates_of, grows_one, made_inner, stages_linked, stages_sides}
use Rattle.flip_steps.proofs.Results.{handed_on}
use Rattle.flip_steps.proofs.equating.equate_arguments.Goals as goal

pub cong-requires-clause-given : goal.cong-requires-clause-given
cong-requires-clause-given c =
    stages_linked c.args.at.now c.args.terms.now c.args.block.now c.leaves_differ.ensures.table c.one_to_one.ensures c.args.links.now c.args.stages.now
    c.requires.ready c.requires.apart

pub cong-requires-clause-sides : goal.cong-requires-clause-sides
cong-requires-clause-sides c =
    stages_sides c.args.at.now c.args.terms.now c.args.block.now c.leaves_differ.ensures.table c.one_to_one.ensures c.args.links.now c.args.stages.now
    c.requires.ready

pub returns-in_err-linked-clause-placed : goal.returns-in_err-linked-clause-placed
returns-in_err-linked-clause-placed c =
    let p = c.args.at.now in
    let s = p.symbols.now in
    let v = c.args.terms.now in
    let w = c.cong.new.terms in
    let h = c.requires.ready in
    let left = h.stages.given.term in
    let right = with_arguments h.stages.given.term (terms_of h.stages.given.us) in
    places_of_term s v.pass w.pass (IsMadeAt s w c.args.stages.now.whole) (equality left right)
    (made_inner p v c.args.block.now c.leaves_differ.ensures.table c.one_to_one.ensures c.args.links.now c.args.stages.now h w c.in_err-linked.ensures.keeps)
    (c.in_err-linked.ensures.placed left right h.stages.given.refers h.stages.refilled_refers)

pub returns-in_err-linked-clause-full : goal.returns-in_err-linked-clause-full
returns-in_err-linked-clause-full c =
    let p = c.args.at.now in
    let s = p.symbols.now in
    let v = c.args.terms.now in
    let w = c.cong.new.terms in
    let h = c.requires.ready in
    let left = h.stages.given.term in
    let right = with_arguments h.stages.given.term (terms_of h.stages.given.us) in
    handed_on c.from_residual.result _ _ c.from_residual.ensures.1
    (λ full. lacks_for_term s w.pass (IsMadeAt s w c.args.stages.now.whole) (equality left right)
    (made_inner p v c.args.block.now c.leaves_differ.ensures.table c.one_to_one.ensures c.args.links.now c.args.stages.now h w c.in_err-linked.ensures.keeps)
    (c.in_err-linked.ensures.full full left right h.stages.given.refers h.stages.refilled_refers))

pub returns-clause-linked : goal.returns-clause-linked
returns-clause-linked c =
    let p = c.args.at.now in
    let s = p.symbols.now in
    let v = c.args.terms.now in
    let w = c.cong.new.terms in
    let h = c.requires.ready in
    let left = h.stages.given.term in
    let right = with_arguments h.stages.given.term (terms_of h.stages.given.us) in
    equates_of p v w c.args.block.now c.cong.new.block c.in_ok-linked.linked c.args.stages.now.whole c.args.stages.now.refilled left right
    c.in_ok-linked.ensures.keeps h.stages.given.refers h.stages.refilled_refers
    (c.in_ok-linked.ensures.added left right h.stages.given.refers h.stages.refilled_refers)

pub returns-clause-grown : goal.returns-clause-grown
returns-clause-grown c =
    let p = c.args.at.now in
    let s = p.symbols.now in
    let v = c.args.terms.now in
    let w = c.cong.new.terms in
    let h = c.requires.ready in
    let left = h.stages.given.term in
    let right = with_arguments h.stages.given.term (terms_of h.stages.given.us) in
    grows_one p w c.args.block.now c.cong.new.block c.in_ok-linked.linked (equality left right)
    (IsMadeAt s w c.args.stages.now.whole) c.in_ok-linked.ensures.block
    (c.in_ok-linked.ensures.added left right h.stages.given.refers h.stages.refilled_refers)
    (made_inner p v c.args.block.now c.leaves_differ.ensures.table c.one_to_one.ensures c.args.links.now c.args.stages.now h w c.in_ok-linked.ensures.keeps)

pub returns-clause-placed : goal.returns-clause-placed
returns-clause-placed c =
    let p = c.args.at.now in
    let s = p.symbols.now in
    let v = c.args.terms.now in
    let w = c.cong.new.terms in
    let h = c.requires.ready in
    let left = h.stages.given.term in
    let right = with_arguments h.stages.given.term (terms_of h.stages.given.us) in
    places_of_term s v.pass w.pass (IsMadeAt s w c.args.stages.now.whole) (equality left right)
    (made_inner p v c.args.block.now c.leaves_differ.ensures.table c.one_to_one.ensures c.args.links.now c.args.stages.now h w c.in_ok-linked.ensures.keeps)
    (c.in_ok-linked.ensures.placed left right h.stages.given.refers h.stages.refilled_refers)
