use Rattle.std.proofs.Common.{refl, subst}
use Rattle.term_pool.proofs.PlacedCells.{lacks_more, places_more}
use Rattle.flip_steps.specs.Remembering.{GrowsBy}
use Rattle.flip_steps.specs.Stages.{IsMadeAt}
use Rattle.flip_steps.proofs.EquateLemmas.{formed_of, gathered_as, gathered_ready, placed_through, same_refilled}
use Rattle.flip_steps.proofs.Results.{handed_on, if_err}
use Rattle.flip_steps.proofs.equating.settle.Goals as goal

pub reach-requires-clause-forms : goal.reach-requires-clause-forms
reach-requires-clause-forms c =
    (gathered_as c.args.at.now c.args.terms.now c.args.block.now c.args.whole c.args.gathered.now.head c.args.gathered.now.forms.items c.deref.result.now
    c.args.gathered.now.links.items c.args.gathered.now.links.items c.deref.ensures.value refl c.requires.gathered).given

pub reach-requires-clause-same : goal.reach-requires-clause-same
reach-requires-clause-same c = λ is.
    same_refilled c.args.at.now c.args.terms.now c.args.block.now c.args.whole c.args.gathered.now.head c.deref.result.now c.args.gathered.now.links.items
    (gathered_as c.args.at.now c.args.terms.now c.args.block.now c.args.whole c.args.gathered.now.head c.args.gathered.now.forms.items c.deref.result.now
    c.args.gathered.now.links.items c.args.gathered.now.links.items c.deref.ensures.value refl c.requires.gathered) (c.is_same-is_same.ensures is)

pub returns-in_err-stages-clause-full : goal.returns-in_err-stages-clause-full
returns-in_err-stages-clause-full c = if_err c.from_residual.result _ (λ e is. c.in_err-stages.ensures.full)

pub equate-requires-clause-block : goal.equate-requires-clause-block
equate-requires-clause-block c =
    c.blocks_stay.ensures.block c.args.at.now c.args.terms.now c.reach.new.terms c.args.block.now c.in_ok-stages.ensures.keeps c.requires.block

pub equate-requires-clause-ready : goal.equate-requires-clause-ready
equate-requires-clause-ready c =
    gathered_ready c.blocks_stay.ensures.link c.args.at.now c.args.terms.now c.reach.new.terms c.args.block.now c.leaves_differ.ensures.table
    c.one_to_one-2.ensures c.in_ok-stages.ensures.keeps c.args.whole c.args.gathered.now.head c.deref.result.now c.deref-2.result.now
    (gathered_as c.args.at.now c.args.terms.now c.args.block.now c.args.whole c.args.gathered.now.head c.args.gathered.now.forms.items c.deref.result.now
    c.args.gathered.now.links.items c.deref-2.result.now c.deref.ensures.value c.deref-2.ensures.value c.requires.gathered) c.in_ok-stages.stages
    c.in_ok-stages.ensures.whole c.in_ok-stages.ensures.stages

pub returns-in_err-link-clause-placed : goal.returns-in_err-link-clause-placed
returns-in_err-link-clause-placed c =
    let s = c.args.at.now.symbols.now in
    let w = c.equate.new.terms in
    placed_through s c.args.terms.now c.reach.new.terms w c.args.whole c.in_err-link.ensures.keeps c.in_ok-stages.ensures.placed
    (places_more s c.reach.new.terms.pass w.pass (IsMadeAt s w c.in_ok-stages.stages.whole) (IsMadeAt s w c.args.whole)
    (λ x h. subst (λ r. IsMadeAt s w r x) c.in_ok-stages.ensures.whole h) c.in_err-link.ensures.placed)

pub returns-in_err-link-clause-full : goal.returns-in_err-link-clause-full
returns-in_err-link-clause-full c =
    let s = c.args.at.now.symbols.now in
    let w = c.equate.new.terms in
    handed_on c.from_residual-in_err-link.result _ _ c.from_residual-in_err-link.ensures.1
    (λ full. lacks_more s w.pass (IsMadeAt s w c.in_ok-stages.stages.whole) (IsMadeAt s w c.args.whole)
    (λ x h. subst (λ r. IsMadeAt s w r x) c.in_ok-stages.ensures.whole h) (c.in_err-link.ensures.full full))

pub returns-clause-formed : goal.returns-clause-formed
returns-clause-formed c =
    formed_of c.args.at.now c.reach.new.terms c.equate.new.terms c.args.block.now c.equate.new.block c.deref-2.result.now c.in_ok-stages.stages
    c.in_ok-link.link c.args.whole c.in_ok-stages.ensures.whole c.in_ok-link.ensures.keeps
    (gathered_ready c.blocks_stay.ensures.link c.args.at.now c.args.terms.now c.reach.new.terms c.args.block.now c.leaves_differ.ensures.table
    c.one_to_one-2.ensures c.in_ok-stages.ensures.keeps c.args.whole c.args.gathered.now.head c.deref.result.now c.deref-2.result.now
    (gathered_as c.args.at.now c.args.terms.now c.args.block.now c.args.whole c.args.gathered.now.head c.args.gathered.now.forms.items c.deref.result.now
    c.args.gathered.now.links.items c.deref-2.result.now c.deref.ensures.value c.deref-2.ensures.value c.requires.gathered) c.in_ok-stages.stages
    c.in_ok-stages.ensures.whole c.in_ok-stages.ensures.stages)
    c.in_ok-link.ensures.linked

pub returns-clause-grown : goal.returns-clause-grown
returns-clause-grown c =
    let p = c.args.at.now in
    let w = c.equate.new.terms in
    subst (λ r. GrowsBy p w c.args.block.now c.equate.new.block (IsMadeAt p.symbols.now w r) 3) c.in_ok-stages.ensures.whole c.in_ok-link.ensures.grown

pub returns-clause-placed : goal.returns-clause-placed
returns-clause-placed c =
    let s = c.args.at.now.symbols.now in
    let w = c.equate.new.terms in
    placed_through s c.args.terms.now c.reach.new.terms w c.args.whole c.in_ok-link.ensures.keeps c.in_ok-stages.ensures.placed
    (places_more s c.reach.new.terms.pass w.pass (IsMadeAt s w c.in_ok-stages.stages.whole) (IsMadeAt s w c.args.whole)
    (λ x h. subst (λ r. IsMadeAt s w r x) c.in_ok-stages.ensures.whole h) c.in_ok-link.ensures.placed)
