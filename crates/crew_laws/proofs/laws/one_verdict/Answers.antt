use Rattle.std.proofs.Common.{subst}
use Rattle.rule_model.specs.Scopes.{commands_in}
use Rattle.rule_model.specs.Statuses.{IsVerdict}
use Rattle.step_check.specs.Chunks.{chunks_of, statuses_in}
use Rattle.step_check.specs.Statuses.{checking}
use Rattle.term_pool.proofs.Keeping.{terms-refl}
use Rattle.crew_laws.specs.Made.{decoded}
use Rattle.crew_laws.proofs.Merging.{words_one_to_one, words_tell, said_by_words, made_are_done, one_list}
use Rattle.crew_laws.proofs.laws.one_verdict.Goals as goal

pub returns-clause-piece : goal.returns-clause-piece
returns-clause-piece c n pool w k piece other reached one two =
    let job = c.args.job.now in
    let pools = c.events_lead_to_good_states.ensures in
    let tell = words_tell pools.good pools.shared c.all_shares_all_cells.ensures n w reached in
    let said = said_by_words job pool w c.more_may_be_known.ensures.says tell in
    c.chunks_make_a_check.ensures.one_piece job.flags job.symbols.now (decoded pool w) job.problem.now.assertions job.proof.now k piece.items other.items
    c.leaves_differ.ensures.table (words_one_to_one pools.good pools.shared c.all_shares_all_cells.ensures n w reached) (said k piece one) (said k other two)

pub returns-clause-statuses : goal.returns-clause-statuses
returns-clause-statuses c pool w all reached made =
    let job = c.args.job.now in
    let n = chunks_of (commands_in job.proof.now) in
    let pools = c.events_lead_to_good_states.ensures in
    let tell = words_tell pools.good pools.shared c.all_shares_all_cells.ensures n w reached in
    c.chunks_make_a_check.ensures.statuses job.flags job.symbols.now (decoded pool w) (decoded pool w) job.problem.now.assertions job.proof.now all
    c.leaves_differ.ensures.table (words_one_to_one pools.good pools.shared c.all_shares_all_cells.ensures n w reached) (terms-refl (decoded pool w))
    (made_are_done job pool w (said_by_words job pool w c.more_may_be_known.ensures.says tell) all made)

pub returns-clause-verdict : goal.returns-clause-verdict
returns-clause-verdict c pool w all reached made proof assertions stand refer merged other statuses is_merged are is_other =
    let mine = returns-clause-statuses c pool w all reached made proof assertions stand refer in
    let same = one_list c.statuses_are_unique.ensures.status (checking c.args.job.now.flags assertions) proof (statuses_in all) statuses mine are in
    c.statuses_are_unique.ensures.verdict statuses proof merged other (subst (λ ss. IsVerdict ss proof merged) same is_merged) is_other
