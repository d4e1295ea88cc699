-- Private. Cells of a command go on being so as more terms are known.
use Rattle.std.proofs.Common.{ℕ}
use Rattle.term_pool.specs.Views.{TermsView, KeepsTerms}
use Rattle.equality_steps.specs.declared.site.Site.{Site}
use Rattle.flip_steps.proofs.OrderLemmas.{stands_later}
use Rattle.equality_blocks.specs.Counts.{IsCellOf}
use Rattle.equality_blocks.proofs.StayLemmas.{root_later}

pub cell_stays : (p : Site) (v w : TermsView) → KeepsTerms v w → (r : ℕ) → IsCellOf p v r → IsCellOf p w r
cell_stays p v w keeps r h = record {
  root = h.root;
  is = root_later p v w keeps h.root h.is;
  within = record { cell = h.within.cell; stands = stands_later p.symbols.now v w keeps h.root r h.within.stands };
}
