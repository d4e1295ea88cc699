-- The reader knows what the problem names, and it holds nothing else.
use Rattle.std.proofs.Common.{[], ap, sym, subst, refl, reverse}
use Rattle.term_expansion.specs.SymbolsAndTerms.{both}
use Rattle.term_names.specs.Entries.{no_entries}
use Rattle.term_names.specs.InScope.{IsScope}
use Rattle.term_names.specs.Standing.{IsScript}
use Rattle.term_reader.specs.ProblemViews.{ProblemView}
use Rattle.term_reader.proofs.PushedVariables.{reader_settled}
use Rattle.term_reader.proofs.single_terms.TermReader.new.Goals as goal

pub returns : goal.returns
returns c s v sc h = reader_settled s v _ sc _ (record {
  none = ap reverse c.new-2.ensures.items;
  idle = record {
    script = rw c.new.ensures.own (subst (λ (p : ProblemView). IsScript (both s v) (record { base = p.entries; own = no_entries }) sc)
        (sym c.problem.view_is) h.script);
    scope = subst (λ es. IsScope (both s v) es []) (sym c.new.ensures.scope) tt;
    settings = refl;
    no_values = c.new.ensures.values;
    no_leaves = c.new.ensures.leaves;
    no_frames = c.new.ensures.frames;
  };
  lists = c.new-3.ensures (both s v) _ sc;
})
