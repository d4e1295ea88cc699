use Rattle.readable_proofs.proofs.DistinctNames.{function_taken}
use Rattle.readable_proofs.proofs.ReadScripts.{problem_good, well_named, ready}
use Rattle.readable_proofs.proofs.laws.scripts_are_well_named.Goals as goal

pub returns-clause-names : goal.returns-clause-names
returns-clause-names c = λ source replaces s h. well_named s (problem_good c.tokens_are_spelled.ensures.spelled source replaces s h).good

pub returns-clause-variables : goal.returns-clause-variables
returns-clause-variables c = λ source replaces s h. (problem_good c.tokens_are_spelled.ensures.spelled source replaces s h).good.own.names

pub returns-clause-taken : goal.returns-clause-taken
returns-clause-taken c = λ source replaces s f h there.
    function_taken s (problem_good c.tokens_are_spelled.ensures.spelled source replaces s h).good.distinct f there

pub returns-clause-ready : goal.returns-clause-ready
returns-clause-ready c = λ source replaces plan s h new. ready plan s (problem_good c.tokens_are_spelled.ensures.spelled source replaces s h).good new
