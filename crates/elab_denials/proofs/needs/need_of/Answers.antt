use Rattle.std.proofs.Common.{◌-◌, ◌↔◌, ◌∙◌, Contains, IsTrue, subst, drop, length, take}
use Rattle.elab_denials.proofs.NeedLemmas.{need_paying, need_turning, not_false}
use Rattle.elab_denials.proofs.SettleLemmas.{tail_whole}
use Rattle.elab_denials.proofs.needs.need_of.Goals as goal

pub returns-else-again : goal.returns-else-again
returns-else-again c =
    let pairs = c.args.pairs.now in
    record {
      need = λ sides table.
          need_turning sides pairs (take (length pairs - 1) (drop 1 pairs)) c.index-pairs-0.result c.sides-a.result c.is_among-again.result c.requires.some
          (tail_whole pairs 1) (c.sides-a.ensures ∙ c.index-pairs-0.is)
          (subst (λ y. IsTrue c.is_among-again.result ↔ Contains (take (length pairs - 1) (drop 1 pairs)) y) c.index-pairs-0.is c.is_among-again.ensures)
          c.if-again.false c.in-Some.used (c.in-Some.ensures.found sides table)
          (not_false c.in-Some.used.turned c.if-not-used.false);
    }

pub returns-else-again-2 : goal.returns-else-again-2
returns-else-again-2 c =
    let pairs = c.args.pairs.now in
    record {
      need = λ sides table.
          need_paying sides pairs (take (length pairs - 1) (drop 1 pairs)) c.index-pairs-0.result c.sides-a.result c.is_among-again-in-None.result
          c.requires.some (tail_whole pairs 1) (c.sides-a.ensures ∙ c.index-pairs-0.is)
          (subst (λ y. IsTrue c.is_among-again-in-None.result ↔ Contains (take (length pairs - 1) (drop 1 pairs)) y) c.index-pairs-0.is
          c.is_among-again-in-None.ensures) c.if-again-2.false (c.in-None.ensures.none sides table);
    }
