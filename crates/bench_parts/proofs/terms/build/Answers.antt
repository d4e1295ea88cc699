use Rattle.std.proofs.lemmas.List.Elements.{All-push}
use Rattle.term_pool.specs.Views.{IsTerm}
use Rattle.bench_parts.proofs.TermLemmas.{all_stay, one_more}
use Rattle.bench_parts.proofs.terms.build.Goals as goal

pub terms-preserved : goal.terms-preserved
terms-preserved c =
    let stay = all_stay _ _ c.application.new.terms _ c.application.ensures.keeps c.terms.invariant.0 in (
      rw c.in_ok-push.ensures.items (All-push (IsTerm c.args.symbols.now c.application.new.terms) c.terms.built.items c.in_ok-r.r stay c.in_ok-r.ensures.term),
      rw c.in_ok-push.ensures.items (one_more c.terms.built.items c.in_ok-r.r),
    )
