use Rattle.std.proofs.lemmas.List.Elements.{All-push}
use Rattle.term_pool.specs.Views.{IsTerm}
use Rattle.bench_parts.proofs.TermLemmas.{all_stay, one_more}
use Rattle.bench_parts.proofs.substitution.build.Goals as goal

pub terms-preserved : goal.terms-preserved
terms-preserved c =
    let stay = all_stay _ _ c.apply.new.terms _ c.apply.ensures.keeps c.terms.invariant.0 in (
      rw c.in_ok-push.ensures.items (All-push (IsTerm c.args.symbols.now c.apply.new.terms) c.terms.built.items c.in_ok-last.last stay c.in_ok-last.ensures.term),
      rw c.in_ok-push.ensures.items (one_more c.terms.built.items c.in_ok-last.last),
      c.in_ok-last.ensures.term,
    )
