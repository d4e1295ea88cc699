use Rattle.std.proofs.Common.{◌≡◌}
use Rattle.term_pool.specs.declared.shape.Shape.{Shape}
use Rattle.bench_parts.proofs.TermLemmas.{keeps_references, counted, counts_stay}
use Rattle.bench_parts.proofs.terms.read.Goals as goal

pub arguments-init : goal.arguments-init
arguments-init c =
    let keeps = keeps_references c.args.terms.now c.view.new.self c.view.ensures.keeps in
    let is = c.in-App.is in
    let e : c.view.result ≡ Shape.App c.in-App.head c.in-App.count = cc in
    (counts_stay _ _ _ _ _ keeps (counted _ _ _ _ _ _ c.requires c.view.ensures.shape e), keeps)
