use Rattle.std.proofs.Common.{sym, ◌∙◌, subst, take}
use Rattle.std.proofs.lemmas.List.{take_more, take_all}
use Rattle.std.specs.List.{AllZip}
use Rattle.term_model.proofs.Zips.{zip_push}
use Rattle.term_pool.specs.Views.{IsTerm}
use Rattle.elab_resolution.specs.Counted.{IsCountOf}
use Rattle.elab_resolution.proofs.counting.count_all.Goals as goal

pub count_nots-requires : goal.count_nots-requires
count_nots-requires c =
    rw c.roots.invariant.same
    (subst (IsTerm c.args.symbols.now c.args.terms.now) (sym c.root-item.is) (c.requires c.roots.root-index c.root-item.result c.roots-test.true))

pub roots-preserved : goal.roots-preserved
roots-preserved c =
    let s = c.args.symbols.now in
    let v = c.args.terms.now in
    let roots = c.args.roots.now in
    let i = c.roots.root-index in
    let r = c.root-item.result in
    record {
      same = c.count_nots.ensures.same ∙ c.roots.invariant.same;
      so_far =
          rw (take_more roots i r c.roots-test.true, ← c.root-item.is, c.in_ok-push.ensures.items)
          (zip_push (IsCountOf s v) (take i roots) c.roots.counted.items r c.count_nots.result c.roots.invariant.so_far
          (rw c.roots.invariant.same at c.count_nots.ensures.counted));
    }

pub returns-clause-counted : goal.returns-clause-counted
returns-clause-counted c =
    subst (λ rs. AllZip (IsCountOf c.args.symbols.now c.args.terms.now) rs c.roots.counted.items)
    (take_all c.roots.root-index c.args.roots.now c.roots-test.false) c.roots.invariant.so_far
