-- The variable had not been put in scope yet.
use Rattle.std.proofs.Common.{sym, subst, ◌∙◌}
use Rattle.term_reader.specs.ProblemViews.{IsReaderOf}
use Rattle.term_reader.specs.ReadingViews.{reader_in}
use Rattle.term_reader.proofs.PushedVariables.{reader_unpushed}
use Rattle.term_reader.proofs.single_terms.TermReader.pop.Goals as goal

pub returns-then-is_some : goal.returns-then-is_some
returns-then-is_some c =
    let r = c.self.inside in
    record {
      reader = λ s v sc p x outer h scope.
          reader_unpushed s v (reader_in r.settings r.reader) r.lately r.pushed.items c.pop.new.self.items c.pop.result sc p x outer c.pop.ensures.items
          (sym c.is_some.ensures ∙ c.if-is_some.true) scope (subst (λ q. IsReaderOf s v q sc p) (sym c.self.view_is) h);
    }
