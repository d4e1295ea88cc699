use Rattle.std.proofs.Common.{ℕ, List}
use Rattle.pair_pool.specs.Trees.{Tree}
use Rattle.pair_pool.specs.Views.{IsOneToOne}
use Rattle.sym_table.specs.Table.{IsTable}
use Rattle.term_pool.specs.CellCounts.{CountsCells}
use Rattle.term_pool.specs.Views.{TermsView}
use Rattle.equality_steps.specs.declared.site.Site.{Site}
use Rattle.placing_laws.specs.Placed.{HaveTermsOf}
use Rattle.placing_laws.proofs.OneTrees.{IsTreeTable}
use Rattle.placing_laws.proofs.OwnCells.{Counting}
use Rattle.placing_laws.proofs.PlacedCells.{few_all, few_apart}
use Rattle.placing_laws.proofs.laws.placed_cells_are_few.Goals as goal

abbrev over : (p : Site) (v : TermsView) (trees : List Tree) (n : ℕ) → IsTreeTable p.symbols.now → IsOneToOne v.pass → HaveTermsOf p v trees
    → CountsCells trees n → Counting p v
over p v trees n table one all counts = record { table = table; one = one; trees = trees; all = all; number = n; counts = counts }

pub returns : goal.returns
returns c = record {
  images_apart = λ p old new trees n table earlier later one places all counts.
      few_apart p old new earlier later places (over p new trees n (one_trees p table) one all counts);
  all = λ p old new trees n table earlier later one places all counts other.
      few_all p old new earlier later places (over p new trees n (one_trees p table) one all counts) other;
}
  where
    one_trees : (p : Site) → IsTable p.symbols.now → IsTreeTable p.symbols.now
    one_trees p table = record { table = table; one = λ a b t. c.trees_of_terms.ensures.one_tree p.symbols.now a b t table }
