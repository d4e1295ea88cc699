use Rattle.std.proofs.Common.{◌∙◌}
use Rattle.equality_blocks.specs.Made.{IsPlacedFor}
use Rattle.term_pool.proofs.ReadingLemmas.{keeps-same}
use Rattle.elab_equality.proofs.BindingLemmas.{closing_made}
use Rattle.elab_equality.proofs.ClosingLemmas.{pairs_here}
use Rattle.elab_equality.proofs.DoneLemmas.{memory_full, still_placed}
use Rattle.elab_equality.proofs.WorkLemmas.{done_err}
use Rattle.elab_equality.proofs.closing.close_let.Goals as goal

pub returns-in_err-given-clause-placed : goal.returns-in_err-given-clause-placed
returns-in_err-given-clause-placed c =
    still_placed c.args.at.now c.args.terms.now c.given.new.terms (IsPlacedFor c.args.at.now c.given.new.terms) c.in_err-given.ensures.same

pub returns-in_err-given-clause-full : goal.returns-in_err-given-clause-full
returns-in_err-given-clause-full c = memory_full _ c.from_residual.result c.from_residual.ensures.1

pub returns-in_err-given-clause-keeps : goal.returns-in_err-given-clause-keeps
returns-in_err-given-clause-keeps c = keeps-same c.args.terms.now c.given.new.terms c.in_err-given.ensures.same

pub read-requires-clause-job : goal.read-requires-clause-job
read-requires-clause-job c = rw c.in_ok-given.ensures.same c.requires.job

pub returns-in_err-x-clause-placed : goal.returns-in_err-x-clause-placed
returns-in_err-x-clause-placed c =
    still_placed c.args.at.now c.args.terms.now c.read.new.terms (IsPlacedFor c.args.at.now c.read.new.terms) (c.in_err-x.ensures.same ∙ c.in_ok-given.ensures.same)

pub returns-in_err-x-clause-full : goal.returns-in_err-x-clause-full
returns-in_err-x-clause-full c = memory_full _ c.from_residual-in_err-x.result c.from_residual-in_err-x.ensures.1

pub returns-in_err-x-clause-keeps : goal.returns-in_err-x-clause-keeps
returns-in_err-x-clause-keeps c = keeps-same c.args.terms.now c.read.new.terms (c.in_err-x.ensures.same ∙ c.in_ok-given.ensures.same)

pub link_values-requires-clause-work : goal.link_values-requires-clause-work
link_values-requires-clause-work c =
    rw (c.in_ok-x.ensures.same, c.in_ok-given.ensures.same)
    (c.new-work.ensures.work c.args.at.now c.args.terms.now (c.sites_of_commands.ensures c.args.at.now c.args.terms.now c.requires.job))

pub link_values-requires-clause-given : goal.link_values-requires-clause-given
link_values-requires-clause-given c = rw (c.in_ok-x.ensures.same, c.in_ok-given.ensures.same) c.in_ok-given.ensures.given

pub link_values-requires-clause-pairs : goal.link_values-requires-clause-pairs
link_values-requires-clause-pairs c =
    let read = rw c.in_ok-given.ensures.same at c.in_ok-x.ensures.read in
    rw (c.in_ok-x.ensures.same, c.in_ok-given.ensures.same, c.deref.ensures.value, c.deref-2.ensures.value)
    (pairs_here c.args.at.now c.args.terms.now c.requires.job c.proofs_stand_for_one.ensures.one c.in_ok-x.x.values.items c.in_ok-x.x.images.items read)

pub returns-in_err-links-clause-placed : goal.returns-in_err-links-clause-placed
returns-in_err-links-clause-placed c = (rw (c.in_ok-x.ensures.same, c.in_ok-given.ensures.same) at c.in_err-links.ensures.done).placed

pub returns-in_err-links-clause-full : goal.returns-in_err-links-clause-full
returns-in_err-links-clause-full c =
    (done_err c.link_values.new.self 0 c.from_residual-in_err-links.result c.in_err-links.ensures.done c.from_residual-in_err-links.ensures.1).full

pub returns-in_err-links-clause-keeps : goal.returns-in_err-links-clause-keeps
returns-in_err-links-clause-keeps c = (rw (c.in_ok-x.ensures.same, c.in_ok-given.ensures.same) at c.in_err-links.ensures.done).keeps

pub last_step-requires : goal.last_step-requires
last_step-requires c = c.requires.job.within

pub returns-in_err-last-clause-placed : goal.returns-in_err-last-clause-placed
returns-in_err-last-clause-placed c = (rw (c.in_ok-x.ensures.same, c.in_ok-given.ensures.same) at c.in_ok-links.ensures.done).placed

pub returns-in_err-last-clause-full : goal.returns-in_err-last-clause-full
returns-in_err-last-clause-full c = memory_full _ c.from_residual-in_err-last.result c.from_residual-in_err-last.ensures.1

pub returns-in_err-last-clause-keeps : goal.returns-in_err-last-clause-keeps
returns-in_err-last-clause-keeps c = (rw (c.in_ok-x.ensures.same, c.in_ok-given.ensures.same) at c.in_ok-links.ensures.done).keeps

pub returns-in_err-block-clause-placed : goal.returns-in_err-block-clause-placed
returns-in_err-block-clause-placed c = (rw (c.in_ok-x.ensures.same, c.in_ok-given.ensures.same) at c.in_ok-links.ensures.done).placed

pub returns-in_err-block-clause-full : goal.returns-in_err-block-clause-full
returns-in_err-block-clause-full c = memory_full _ c.from_residual-in_err-block.result c.from_residual-in_err-block.ensures.1

pub returns-in_err-block-clause-keeps : goal.returns-in_err-block-clause-keeps
returns-in_err-block-clause-keeps c = (rw (c.in_ok-x.ensures.same, c.in_ok-given.ensures.same) at c.in_ok-links.ensures.done).keeps

pub returns-clause-made : goal.returns-clause-made
returns-clause-made c =
    let p = c.args.at.now in
    let u = c.args.terms.now in
    let v = c.link_values.new.terms in
    let done = rw (c.in_ok-x.ensures.same, c.in_ok-given.ensures.same, c.deref.ensures.value) at c.in_ok-links.ensures.done in
    let linked = rw (c.deref.ensures.value, c.deref-2.ensures.value) at c.in_ok-links.ensures.linked in
    let read = rw c.in_ok-given.ensures.same at c.in_ok-x.ensures.read in
    closing_made p u v (c.commands_stay.ensures.command p u v done.keeps c.one_to_one-2.ensures c.requires.job) c.requires.rule done.keeps c.in_ok-x.x.values.items
    c.in_ok-x.x.images.items read c.new-work.result c.link_values.new.self c.new-work.ensures.block c.new-work.ensures.count c.proofs_stand_for_one.ensures.one
    c.parts_of_trees.ensures c.are_of_cells.ensures done.moved c.in_ok-links.links.items linked c.into_steps.result.items c.in_ok-block.block.items c.in_ok-last.last
    c.into_steps.ensures c.in_ok-last.ensures c.in_ok-block.ensures

pub returns-clause-placed : goal.returns-clause-placed
returns-clause-placed c = (rw (c.in_ok-x.ensures.same, c.in_ok-given.ensures.same) at c.in_ok-links.ensures.done).placed

pub returns-clause-keeps : goal.returns-clause-keeps
returns-clause-keeps c = (rw (c.in_ok-x.ensures.same, c.in_ok-given.ensures.same) at c.in_ok-links.ensures.done).keeps
