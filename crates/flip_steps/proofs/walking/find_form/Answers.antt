use Rattle.std.proofs.Common.{◌<◌, ◌++◌, ◌∷◌, [], subst}
use Rattle.term_pool.proofs.Ways.{none_left}
use Rattle.flip_steps.specs.Walks.{turns_left}
use Rattle.flip_steps.proofs.MemoryLemmas.{formed_found}
use Rattle.flip_steps.proofs.OrderLemmas.{keeps_then, refers_later}
use Rattle.flip_steps.proofs.Results.{handed_on}
use Rattle.flip_steps.proofs.WalkLemmas.{IsWalking, walk_lacks, walk_placed, walk_root, walk_start, walk_visitable, walk_visited}
use Rattle.flip_steps.proofs.walking.find_form.Goals as goal

pub visits-init : goal.visits-init
visits-init c =
    rw c.new-visits.ensures.items
    (walk_start c.args.at.now c.args.terms.now c.args.block.now c.args.forms.now c.args.root c.requires.side c.requires.block c.requires.forms)

pub visit-requires-clause-block : goal.visit-requires-clause-block
visit-requires-clause-block c = c.visits.invariant.block

pub visit-requires-clause-forms : goal.visit-requires-clause-forms
visit-requires-clause-forms c = c.visits.invariant.right

pub visit-requires-clause-visitable : goal.visit-requires-clause-visitable
visit-requires-clause-visitable c =
    walk_visitable c.args.at.now c.args.terms.now c.visits.terms c.args.block.now c.visits.block c.args.forms.now c.visits.forms c.args.root
    c.visits.visits.items c.leaves_differ.ensures.table c.terms_at.ensures.terms c.terms_at.ensures.parts c.one_to_one.ensures c.visits.next
    c.visits.invariant

pub returns-in_err-visit-clause-placed : goal.returns-in_err-visit-clause-placed
returns-in_err-visit-clause-placed c =
    walk_placed c.args.at.now c.args.terms.now c.visits.terms c.args.block.now c.visits.block c.args.forms.now c.visits.forms c.args.root
    c.visits.visits.items c.visits.next c.leaves_differ.ensures.table c.terms_at.ensures.terms c.terms_at.ensures.parts c.one_to_one.ensures
    c.visits.invariant c.visit.new.terms c.in_err-visit.ensures.keeps c.in_err-visit.ensures.placed

pub returns-in_err-visit-clause-full : goal.returns-in_err-visit-clause-full
returns-in_err-visit-clause-full c =
    handed_on c.from_residual.result _ _ c.from_residual.ensures.1
    (λ full. walk_lacks c.args.at.now c.args.terms.now c.visits.terms c.args.block.now c.visits.block c.args.forms.now c.visits.forms c.args.root
    c.visits.visits.items c.visits.next c.leaves_differ.ensures.table c.terms_at.ensures.terms c.terms_at.ensures.parts c.one_to_one.ensures
    c.visits.invariant c.visit.new.terms c.in_err-visit.ensures.keeps (c.in_err-visit.ensures.full full))

pub returns-in_err-visit-clause-keeps : goal.returns-in_err-visit-clause-keeps
returns-in_err-visit-clause-keeps c =
    keeps_then c.args.terms.now c.visits.terms c.visit.new.terms c.visits.invariant.keeps c.in_err-visit.ensures.keeps

pub visits-preserved : goal.visits-preserved
visits-preserved c =
    let walk = walk_visited c.args.at.now c.args.terms.now c.visits.terms c.args.block.now c.visits.block c.args.forms.now c.visits.forms c.args.root
    c.visits.visits.items c.leaves_differ.ensures.table c.terms_at.ensures.terms c.terms_at.ensures.parts c.one_to_one.ensures c.blocks_stay.ensures.link
    c.visits.next c.visit.new.terms c.visit.new.block c.visit.new.forms c.visit.new.visits.items c.visits.invariant c.in_ok-visit.ensures.keeps
    c.in_ok-visit.ensures.visit c.in_ok-visit.ensures.placed in
    subst (λ xs. IsWalking c.args.at.now c.args.terms.now c.visit.new.terms c.args.block.now c.visit.new.block c.args.forms.now c.visit.new.forms
    c.args.root xs) c.in-Some.ensures.items walk.0

pub visits-smaller : goal.visits-smaller
visits-smaller c =
    let walk = walk_visited c.args.at.now c.args.terms.now c.visits.terms c.args.block.now c.visits.block c.args.forms.now c.visits.forms c.args.root
    c.visits.visits.items c.leaves_differ.ensures.table c.terms_at.ensures.terms c.terms_at.ensures.parts c.one_to_one.ensures c.blocks_stay.ensures.link
    c.visits.next c.visit.new.terms c.visit.new.block c.visit.new.forms c.visit.new.visits.items c.visits.invariant c.in_ok-visit.ensures.keeps
    c.in_ok-visit.ensures.visit c.in_ok-visit.ensures.placed in
    subst (λ xs. turns_left c.args.at.now.symbols.now c.args.terms.now xs
    < turns_left c.args.at.now.symbols.now c.args.terms.now (c.visits.visits.items ++ c.visits.next ∷ [])) c.in-Some.ensures.items walk.1

pub known-requires : goal.known-requires
known-requires c =
    let walk = walk_visited c.args.at.now c.args.terms.now c.visits.terms c.args.block.now c.visits.block c.args.forms.now c.visits.forms c.args.root
    c.visits.visits.items c.leaves_differ.ensures.table c.terms_at.ensures.terms c.terms_at.ensures.parts c.one_to_one.ensures c.blocks_stay.ensures.link
    c.visits.next c.visit.new.terms c.visit.new.block c.visit.new.forms c.visit.new.visits.items c.visits.invariant c.in_ok-visit.ensures.keeps
    c.in_ok-visit.ensures.visit c.in_ok-visit.ensures.placed in
    let none = none_left c.visit.new.visits.items c.pop.new.self.items _ c.in-None.ensures.cases.0 c.in-None.ensures.rest c.in-None.ensures.items in
    walk_root c.args.at.now c.args.terms.now c.visit.new.terms c.args.block.now c.visit.new.block c.args.forms.now c.visit.new.forms c.args.root
    (subst (λ xs. IsWalking c.args.at.now c.args.terms.now c.visit.new.terms c.args.block.now c.visit.new.block c.args.forms.now c.visit.new.forms
    c.args.root xs) none walk.0)

pub returns-in-None-clause-formed : goal.returns-in-None-clause-formed
returns-in-None-clause-formed c =
    let walk = walk_visited c.args.at.now c.args.terms.now c.visits.terms c.args.block.now c.visits.block c.args.forms.now c.visits.forms c.args.root
    c.visits.visits.items c.leaves_differ.ensures.table c.terms_at.ensures.terms c.terms_at.ensures.parts c.one_to_one.ensures c.blocks_stay.ensures.link
    c.visits.next c.visit.new.terms c.visit.new.block c.visit.new.forms c.visit.new.visits.items c.visits.invariant c.in_ok-visit.ensures.keeps
    c.in_ok-visit.ensures.visit c.in_ok-visit.ensures.placed in
    let side = walk.0.side in
    formed_found c.args.at.now c.visit.new.terms c.visit.new.block c.leaves_differ.ensures.table c.one_to_one-in-None.ensures c.parts_of_trees.ensures
    c.visit.new.forms walk.0.right c.args.root side.term c.known.result
    (refers_later c.args.at.now.symbols.now c.args.terms.now c.visit.new.terms c.args.root side.term walk.0.keeps side.refers) c.known.ensures

pub returns-in-None-clause-block : goal.returns-in-None-clause-block
returns-in-None-clause-block c =
    let walk = walk_visited c.args.at.now c.args.terms.now c.visits.terms c.args.block.now c.visits.block c.args.forms.now c.visits.forms c.args.root
    c.visits.visits.items c.leaves_differ.ensures.table c.terms_at.ensures.terms c.terms_at.ensures.parts c.one_to_one.ensures c.blocks_stay.ensures.link
    c.visits.next c.visit.new.terms c.visit.new.block c.visit.new.forms c.visit.new.visits.items c.visits.invariant c.in_ok-visit.ensures.keeps
    c.in_ok-visit.ensures.visit c.in_ok-visit.ensures.placed in
    walk.0.block

pub returns-in-None-clause-forms : goal.returns-in-None-clause-forms
returns-in-None-clause-forms c =
    let walk = walk_visited c.args.at.now c.args.terms.now c.visits.terms c.args.block.now c.visits.block c.args.forms.now c.visits.forms c.args.root
    c.visits.visits.items c.leaves_differ.ensures.table c.terms_at.ensures.terms c.terms_at.ensures.parts c.one_to_one.ensures c.blocks_stay.ensures.link
    c.visits.next c.visit.new.terms c.visit.new.block c.visit.new.forms c.visit.new.visits.items c.visits.invariant c.in_ok-visit.ensures.keeps
    c.in_ok-visit.ensures.visit c.in_ok-visit.ensures.placed in
    walk.0.right

pub returns-in-None-clause-units : goal.returns-in-None-clause-units
returns-in-None-clause-units c =
    let walk = walk_visited c.args.at.now c.args.terms.now c.visits.terms c.args.block.now c.visits.block c.args.forms.now c.visits.forms c.args.root
    c.visits.visits.items c.leaves_differ.ensures.table c.terms_at.ensures.terms c.terms_at.ensures.parts c.one_to_one.ensures c.blocks_stay.ensures.link
    c.visits.next c.visit.new.terms c.visit.new.block c.visit.new.forms c.visit.new.visits.items c.visits.invariant c.in_ok-visit.ensures.keeps
    c.in_ok-visit.ensures.visit c.in_ok-visit.ensures.placed in
    walk.0.units

pub returns-in-None-clause-few : goal.returns-in-None-clause-few
returns-in-None-clause-few c =
    let walk = walk_visited c.args.at.now c.args.terms.now c.visits.terms c.args.block.now c.visits.block c.args.forms.now c.visits.forms c.args.root
    c.visits.visits.items c.leaves_differ.ensures.table c.terms_at.ensures.terms c.terms_at.ensures.parts c.one_to_one.ensures c.blocks_stay.ensures.link
    c.visits.next c.visit.new.terms c.visit.new.block c.visit.new.forms c.visit.new.visits.items c.visits.invariant c.in_ok-visit.ensures.keeps
    c.in_ok-visit.ensures.visit c.in_ok-visit.ensures.placed in
    walk.0.few

pub returns-in-None-clause-met : goal.returns-in-None-clause-met
returns-in-None-clause-met c =
    let walk = walk_visited c.args.at.now c.args.terms.now c.visits.terms c.args.block.now c.visits.block c.args.forms.now c.visits.forms c.args.root
    c.visits.visits.items c.leaves_differ.ensures.table c.terms_at.ensures.terms c.terms_at.ensures.parts c.one_to_one.ensures c.blocks_stay.ensures.link
    c.visits.next c.visit.new.terms c.visit.new.block c.visit.new.forms c.visit.new.visits.items c.visits.invariant c.in_ok-visit.ensures.keeps
    c.in_ok-visit.ensures.visit c.in_ok-visit.ensures.placed in
    walk.0.met

pub returns-in-None-clause-placed : goal.returns-in-None-clause-placed
returns-in-None-clause-placed c =
    let walk = walk_visited c.args.at.now c.args.terms.now c.visits.terms c.args.block.now c.visits.block c.args.forms.now c.visits.forms c.args.root
    c.visits.visits.items c.leaves_differ.ensures.table c.terms_at.ensures.terms c.terms_at.ensures.parts c.one_to_one.ensures c.blocks_stay.ensures.link
    c.visits.next c.visit.new.terms c.visit.new.block c.visit.new.forms c.visit.new.visits.items c.visits.invariant c.in_ok-visit.ensures.keeps
    c.in_ok-visit.ensures.visit c.in_ok-visit.ensures.placed in
    walk.0.placed

pub returns-in-None-clause-keeps : goal.returns-in-None-clause-keeps
returns-in-None-clause-keeps c =
    let walk = walk_visited c.args.at.now c.args.terms.now c.visits.terms c.args.block.now c.visits.block c.args.forms.now c.visits.forms c.args.root
    c.visits.visits.items c.leaves_differ.ensures.table c.terms_at.ensures.terms c.terms_at.ensures.parts c.one_to_one.ensures c.blocks_stay.ensures.link
    c.visits.next c.visit.new.terms c.visit.new.block c.visit.new.forms c.visit.new.visits.items c.visits.invariant c.in_ok-visit.ensures.keeps
    c.in_ok-visit.ensures.visit c.in_ok-visit.ensures.placed in
    walk.0.keeps
