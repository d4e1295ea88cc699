use Rattle.std.proofs.Common.{◌≡◌, length, slice_index, sym, ◌∙◌, ap, subst, arith}
use Rattle.rule_model.specs.Reading.{clause_at}
use Rattle.rule_model.specs.WellFormed.{IsNewId}
use Rattle.rule_model.specs.Writing.{add_assume}
use Rattle.proof_prune.specs.Pruning.{state_of, job_of}
use Rattle.proof_prune.proofs.Putting.{within_now, few_now, assume_id, assume_term, assume_put, first_is}
use Rattle.proof_prune.proofs.pruning.put_assume.Goals as goal

pub id-requires : goal.id-requires
id-requires c = within_now (job_of c.args.parts.now) c.requires.job c.args.i (state_of c.args.written.now) c.requires.at_line

pub clause-requires : goal.clause-requires
clause-requires c = within_now (job_of c.args.parts.now) c.requires.job c.args.i (state_of c.args.written.now) c.requires.at_line

pub bounds-clause-0 : goal.bounds-clause-0
bounds-clause-0 c =
    let some = assume_term (job_of c.args.parts.now) c.requires.job c.args.i (state_of c.args.written.now) c.requires.at_line c.requires.kept c.requires.assumed in
    let long = ap length c.clause.ensures in omega arith

pub assume-requires-clause-id : goal.assume-requires-clause-id
assume-requires-clause-id c =
    subst (IsNewId c.args.written.now.builder.nesting c.args.written.now.builder.items) (sym c.id.ensures)
    (assume_id (job_of c.args.parts.now) c.requires.job c.args.i (state_of c.args.written.now) c.requires.at_line c.requires.kept c.requires.assumed)

pub assume-requires-clause-few : goal.assume-requires-clause-few
assume-requires-clause-few c = few_now (job_of c.args.parts.now) c.requires.job c.args.i (state_of c.args.written.now) c.requires.at_line c.requires.kept

pub returns : goal.returns
returns c =
    let job = job_of c.args.parts.now in
    let s = state_of c.args.written.now in
    let some = assume_term job c.requires.job c.args.i s c.requires.at_line c.requires.kept c.requires.assumed in
    let long = ap length c.clause.ensures in
    let term = c.index-clause-0.result in
    let same : term ≡ slice_index (clause_at job.proof c.args.i) 0 =
    sym (ap (λ ts. slice_index ts 0) (sym c.clause.ensures) ∙ first_is c.clause.result.now term (omega arith) c.index-clause-0.is) in
    assume_put job c.requires.job c.args.i s c.requires.at_line c.requires.kept c.requires.assumed _ term same (c.in_ok-assume.ensures.written ∙ ap (λ x. add_assume s.builder x term) c.id.ensures)
