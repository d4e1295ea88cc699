-- One item more, or not.
use Rattle.std.proofs.Common.{rules, ◌≡◌, get_or, pos, refl, to_z, of_z}
use Rattle.std.proofs.lemmas.Int.{to_z-of_z}
use mir.Syntax.{w128}
use Rattle.lia_rows.proofs.UsedLemmas.{used_step}
use Rattle.lia_rows.proofs.refuting.used_of.Goals as goal

pub multipliers-preserved : goal.multipliers-preserved
multipliers-preserved c =
    let ms = c.args.multipliers.now in
    let xs = c.args.assertions.now in
    let k = c.multipliers.k in
    let is : to_z w128 (of_z w128 (get_or ms k (pos 0))) ≡ get_or ms k (pos 0) = to_z-of_z w128 (get_or ms k (pos 0)) (search rules) in
    record {
      assertions =
          used_step ms xs c.multipliers.refutation.assertions.items c.add_used.new.refutation.assertions.items k _ (pos 0) c.index-assertions-k.result c.index-assertions-k.result c.requires
          c.multipliers-test.true is c.index-assertions-k.is c.in_ok-add_used.ensures.assertions c.multipliers.invariant.assertions;
      numbers =
          used_step ms ms c.multipliers.refutation.multipliers.items c.add_used.new.refutation.multipliers.items k _ (pos 0) _ (pos 0) refl
          c.multipliers-test.true is is c.in_ok-add_used.ensures.multipliers c.multipliers.invariant.numbers;
    }
