use Rattle.std.proofs.Common.{◌≡◌, ◌∙◌, length, arith}
use Rattle.step_check.specs.Chunks.{size_of_chunk}
use Rattle.step_check.proofs.ChunkLemmas.{sorted_of, chunk_said, places_some, lacks_some}
use Rattle.step_check.proofs.chunks.StepJobJob.chunk.Goals as goal

pub add_statuses-requires-clause-sorted : goal.add_statuses-requires-clause-sorted
add_statuses-requires-clause-sorted c =
    let job = c.args.self.now in
    sorted_of c.proofs_stay.ensures job.symbols.now c.args.terms.now c.args.terms.now job.problem.now.assertions job.proof.now c.requires.fits
    c.proofs_stand_for_one.ensures.one c.leaves_differ.ensures.table c.one_to_one.ensures

pub returns-in-Ok-clause-says : goal.returns-in-Ok-clause-says
returns-in-Ok-clause-says c =
    let job = c.args.self.now in
    let long = c.in-Ok.ensures.count in
    let size = c.range_of-first.ensures.size in
    let first = c.range_of-first.ensures.first in
    let count : length c.add_statuses.new.list.items ≡ size_of_chunk c.count.result c.args.k = omega (arith, long, size) in
    chunk_said c.proofs_stay.ensures job.symbols.now c.args.terms.now c.add_statuses.new.terms job.problem.now.assertions job.proof.now c.requires.fits
    c.add_statuses.ensures.keeps job.flags c.args.k c.range_of-first.result.0 c.add_statuses.new.list.items first (rw c.count.ensures.count at count)
    (rw c.requires.kept.references at c.in-Ok.ensures.each)

pub returns-in-Ok-clause-kept : goal.returns-in-Ok-clause-kept
returns-in-Ok-clause-kept c = record {
  references = c.add_statuses.ensures.references ∙ c.requires.kept.references;
  ready = c.in-Ok.ensures.ready;
  scopes = c.add_statuses.ensures.kept;
  arguments = c.add_statuses.ensures.right;
}

pub returns-in-Ok-clause-placed : goal.returns-in-Ok-clause-placed
returns-in-Ok-clause-placed c =
    let job = c.args.self.now in
    places_some c.proofs_stay.ensures job.symbols.now c.args.terms.now c.add_statuses.new.terms job.problem.now.assertions job.proof.now c.requires.fits
    c.add_statuses.ensures.keeps c.add_statuses.ensures.placed

pub returns-in-Err-clause-placed : goal.returns-in-Err-clause-placed
returns-in-Err-clause-placed c =
    let job = c.args.self.now in
    places_some c.proofs_stay.ensures job.symbols.now c.args.terms.now c.add_statuses.new.terms job.problem.now.assertions job.proof.now c.requires.fits
    c.add_statuses.ensures.keeps c.add_statuses.ensures.placed

pub returns-in-Err-clause-full : goal.returns-in-Err-clause-full
returns-in-Err-clause-full c is =
    let job = c.args.self.now in
    lacks_some c.proofs_stay.ensures job.symbols.now c.args.terms.now c.add_statuses.new.terms job.problem.now.assertions job.proof.now c.requires.fits
    c.add_statuses.ensures.keeps (c.in-Err.ensures.full is)
