use Rattle.term_parts.proofs.JudgingLemmas.{truths_are_terms}
use Rattle.rules_resolution.proofs.TermAnswers.{end_tells, stuck_tells}
use Rattle.rules_resolution.proofs.scratch.follows_in.Goals as goal

pub propagation_end-requires-clause-clause : goal.propagation_end-requires-clause-clause
propagation_end-requires-clause-clause c = truths_are_terms c.args.step.clause.now c.requires.step.clause

pub returns-in_default : goal.returns-in_default
returns-in_default c = record {
  follows = λ ps ts refer refers.
      end_tells ps ts _ c.in_ok-propagation_end.field-0 (c.in_ok-propagation_end.ensures.end ps ts refer refers) c.in_default.not-Stuck;
  same = c.in_ok-propagation_end.ensures.same;
}

pub returns-in-Stuck-clause-follows : goal.returns-in-Stuck-clause-follows
returns-in-Stuck-clause-follows c = λ ps ts refer refers.
    stuck_tells ps ts _ c.in_ok-propagation_end.field-0 (c.in_ok-propagation_end.ensures.end ps ts refer refers) c.in-Stuck.is
