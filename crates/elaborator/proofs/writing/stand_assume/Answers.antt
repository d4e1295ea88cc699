use Rattle.std.proofs.Common.{◌≡◌, ◌+◌, length, slice_index, sym, ◌∙◌, ap, subst, arith}
use Rattle.rule_model.specs.Reading.{clause_at}
use Rattle.rule_model.specs.Scopes.{next_index}
use Rattle.rule_model.specs.Writing.{add_assume}
use Rattle.elaborator.specs.Names.{name_of}
use Rattle.elaborator.specs.Reached.{state_of, job_of, new_name, one_more, placed, IsReached, written_to}
use Rattle.elaborator.proofs.StandingSteps.{assume_stands}
use Rattle.elaborator.proofs.WritingCalls.{first_is, ok_reached, within_now, assume_has_term, assume_few}
use Rattle.elaborator.proofs.writing.stand_assume.Goals as goal

pub clause-requires : goal.clause-requires
clause-requires c = within_now (job_of c.args.parts.now) c.requires.job c.args.i (state_of c.args.written.now) c.requires.at_line

pub bounds-clause-0 : goal.bounds-clause-0
bounds-clause-0 c =
    let some = assume_has_term (job_of c.args.parts.now) c.requires.job c.args.i (state_of c.args.written.now) c.requires.at_line c.requires.assumed in
    let long = ap length c.clause.ensures in omega arith

pub put_assume-requires-clause-few : goal.put_assume-requires-clause-few
put_assume-requires-clause-few c =
    assume_few (job_of c.args.parts.now) c.requires.job c.args.i (state_of c.args.written.now) c.requires.at_line c.requires.assumed

pub returns : goal.returns
returns c =
    let job = job_of c.args.parts.now in
    let is = c.requires.job in
    let s = state_of c.args.written.now in
    let few = assume_few job is c.args.i s c.requires.at_line c.requires.assumed in
    let some = assume_has_term job is c.args.i s c.requires.at_line c.requires.assumed in
    let long = ap length c.clause.ensures in
    let term = c.index-clause-0.result in
    let reached = assume_stands job is c.args.i s c.requires.at_line c.requires.assumed c.requires.none few in
    let same : slice_index (clause_at job.proof c.args.i) 0 ≡ term =
    ap (λ ts. slice_index ts 0) (sym c.clause.ensures) ∙ first_is c.clause.result.now term (omega arith) c.index-clause-0.is in
    ok_reached job c.put_assume.result (written_to job.proof (c.args.i + 1)) (next_index s.builder) (state_of c.put_assume.new.written) (one_more (add_assume s.builder (name_of (new_name s)) term) s)
    c.put_assume.ensures.index c.put_assume.ensures.written
    (subst (λ x. IsReached job (written_to job.proof (c.args.i + 1)) (placed (next_index s.builder) (one_more (add_assume s.builder (name_of (new_name s)) x) s))) same reached)
