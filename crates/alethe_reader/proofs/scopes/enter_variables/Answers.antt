-- One variable more is in scope, until all are.
use Rattle.std.proofs.Common.{arith, subst}
use Rattle.std.proofs.lemmas.Slice.Zip.{AllZip-long}
use Rattle.term_pool.specs.Bindings.{IsBindingOf}
use Rattle.term_reader.specs.ProblemViews.{IsReaderOf}
use Rattle.alethe_reader.proofs.ScopeReading.{enters, entered_all}
use Rattle.alethe_reader.proofs.scopes.enter_variables.Goals as goal

pub variables-preserved : goal.variables-preserved
variables-preserved c s v sc p bs zip h =
    enters s v sc p _ bs c.variables.k _ _ _ zip c.variables-test.true (λ x leaf stands. c.in_ok-push.ensures.reader s v sc _ x leaf stands) (c.variables.invariant s v sc p bs zip h)

pub returns : goal.returns
returns c s v sc p bs zip h =
    subst (λ bounds. IsReaderOf s v c.variables.reader sc (record p { scope = bounds })) (entered_all bs p.scope c.variables.k (omega (arith, c.variables-test.false, AllZip-long (IsBindingOf s v) _ bs zip)))
    (c.variables.invariant s v sc p bs zip h)
