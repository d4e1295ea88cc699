use Rattle.std.proofs.Common.{take}
use Rattle.std.proofs.lemmas.List.{take_more}
use Rattle.std.specs.HashMap.{get}
use Rattle.std.specs.Prelude.{nat_eq}
use Rattle.elab_resolution.proofs.TopLemmas.{tops_more}
use Rattle.elab_resolution.proofs.tops.tops_of.Goals as goal

pub literals-preserved : goal.literals-preserved
literals-preserved c =
    let i = c.literals.literal-index in
    let x = c.literal-item.result in
    let e = c.in_ok-raise_top.ensures in
    rw (take_more c.args.literals.now i x c.literals-test.true, ← c.literal-item.is)
    (tops_more (take i c.args.literals.now) x (get nat_eq c.literals.tops) (get nat_eq c.raise_top.new.tops) c.literals.invariant e.here e.most e.some)
