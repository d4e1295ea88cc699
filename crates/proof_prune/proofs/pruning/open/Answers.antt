use Rattle.std.proofs.Common.{refl, arith}
use Rattle.proof_prune.specs.Pruning.{state_of, job_of}
use Rattle.proof_prune.proofs.Going.{within_now, opening_now}
use Rattle.proof_prune.proofs.pruning.open.Goals as goal

pub bounds-parts-scope : goal.bounds-parts-scope
bounds-parts-scope c = within_now (job_of c.args.parts.now) c.requires.job c.args.i (state_of c.args.written.now) c.requires.way c.requires.further

pub open_scope-requires : goal.open_scope-requires
open_scope-requires c = (opening_now (job_of c.args.parts.now) c.requires.job c.args.i (state_of c.args.written.now) c.requires.way c.requires.further _ refl).opening

pub returns-clause-way : goal.returns-clause-way
returns-clause-way c =
    (opening_now (job_of c.args.parts.now) c.requires.job c.args.i (state_of c.args.written.now) c.requires.way c.requires.further _ refl).way _ c.in_ok-open_scope.ensures

pub overflow_add-written : goal.overflow_add-written
overflow_add-written c =
    let w = (opening_now (job_of c.args.parts.now) c.requires.job c.args.i (state_of c.args.written.now) c.requires.way c.requires.further _ refl).opening.scope_within in
    let few = c.requires.job.few_scopes in omega arith
