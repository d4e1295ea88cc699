use Rattle.elab_equality.proofs.CongLemmas.{cong_made}
use Rattle.elab_equality.proofs.DoneLemmas.{memory_full, still_placed}
use Rattle.elab_equality.proofs.WorkLemmas.{done_err}
use Rattle.equality_blocks.specs.Made.{IsPlacedFor}
use Rattle.term_pool.proofs.ReadingLemmas.{keeps-same}
use Rattle.std.proofs.Common.{◌∙◌}
use Rattle.elab_equality.proofs.matching.cong.Goals as goal

pub returns-in_err-given-clause-placed : goal.returns-in_err-given-clause-placed
returns-in_err-given-clause-placed c =
    still_placed c.args.at.now c.args.terms.now c.given.new.terms (IsPlacedFor c.args.at.now c.given.new.terms) c.in_err-given.ensures.same

pub returns-in_err-given-clause-full : goal.returns-in_err-given-clause-full
returns-in_err-given-clause-full c = memory_full _ c.from_residual.result c.from_residual.ensures.1

pub returns-in_err-given-clause-keeps : goal.returns-in_err-given-clause-keeps
returns-in_err-given-clause-keeps c = keeps-same c.args.terms.now c.given.new.terms c.in_err-given.ensures.same

pub read-requires-clause-job : goal.read-requires-clause-job
read-requires-clause-job c = rw c.in_ok-given.ensures.same c.requires.job

pub returns-in_err-x-clause-placed : goal.returns-in_err-x-clause-placed
returns-in_err-x-clause-placed c =
    still_placed c.args.at.now c.args.terms.now c.read.new.terms (IsPlacedFor c.args.at.now c.read.new.terms) (c.in_err-x.ensures.same ∙ c.in_ok-given.ensures.same)

pub returns-in_err-x-clause-full : goal.returns-in_err-x-clause-full
returns-in_err-x-clause-full c = memory_full _ c.from_residual-in_err-x.result c.from_residual-in_err-x.ensures.1

pub returns-in_err-x-clause-keeps : goal.returns-in_err-x-clause-keeps
returns-in_err-x-clause-keeps c = keeps-same c.args.terms.now c.read.new.terms (c.in_err-x.ensures.same ∙ c.in_ok-given.ensures.same)

pub add-requires-clause-job : goal.add-requires-clause-job
add-requires-clause-job c = rw (c.in_ok-x.ensures.same, c.in_ok-given.ensures.same) c.requires.job

pub add-requires-clause-work : goal.add-requires-clause-work
add-requires-clause-work c =
    rw (c.in_ok-x.ensures.same, c.in_ok-given.ensures.same)
    (c.new-work.ensures.work c.args.at.now c.args.terms.now (c.sites_of_commands.ensures c.args.at.now c.args.terms.now c.requires.job))

pub add-requires-clause-given : goal.add-requires-clause-given
add-requires-clause-given c = rw (c.in_ok-x.ensures.same, c.in_ok-given.ensures.same) c.in_ok-given.ensures.given

pub add-requires-clause-applications : goal.add-requires-clause-applications
add-requires-clause-applications c =
    rw (c.in_ok-x.ensures.same, c.in_ok-given.ensures.same) (rw c.in_ok-given.ensures.same at c.in_ok-x.ensures.read)

pub returns-in_err-_link-clause-placed : goal.returns-in_err-_link-clause-placed
returns-in_err-_link-clause-placed c = (rw (c.in_ok-x.ensures.same, c.in_ok-given.ensures.same) at c.in_err-_link.ensures.done).placed

pub returns-in_err-_link-clause-full : goal.returns-in_err-_link-clause-full
returns-in_err-_link-clause-full c =
    (done_err c.add.new.self 0 c.from_residual-in_err-_link.result c.in_err-_link.ensures.done c.from_residual-in_err-_link.ensures.1).full

pub returns-in_err-_link-clause-keeps : goal.returns-in_err-_link-clause-keeps
returns-in_err-_link-clause-keeps c = (rw (c.in_ok-x.ensures.same, c.in_ok-given.ensures.same) at c.in_err-_link.ensures.done).keeps

pub returns-clause-made : goal.returns-clause-made
returns-clause-made c =
    let p = c.args.at.now in
    let u = c.args.terms.now in
    let v = c.add.new.terms in
    let done = rw (c.in_ok-x.ensures.same, c.in_ok-given.ensures.same) at c.in_ok-_link.ensures.done in
    let read = rw c.in_ok-given.ensures.same at c.in_ok-x.ensures.read in
    cong_made p u v (c.commands_stay.ensures.command p u v done.keeps c.one_to_one.ensures c.requires.job) c.requires.rule done.keeps c.in_ok-x.x read
    c.new-work.result c.add.new.self c.new-work.ensures.block c.new-work.ensures.count done.moved c.in_ok-_link.ensures.ends
    (λ roots trees n cells known counts.
    c.are_of_cells.ensures p.symbols.now v roots trees n c.leaves_differ.ensures.table c.one_to_one.ensures c.parts_of_trees.ensures cells known counts)

pub returns-clause-placed : goal.returns-clause-placed
returns-clause-placed c = (rw (c.in_ok-x.ensures.same, c.in_ok-given.ensures.same) at c.in_ok-_link.ensures.done).placed

pub returns-clause-keeps : goal.returns-clause-keeps
returns-clause-keeps c = (rw (c.in_ok-x.ensures.same, c.in_ok-given.ensures.same) at c.in_ok-_link.ensures.done).keeps
