use Rattle.std.proofs.Common.{◌↔◌, IsTrue, ℕ, refl}
use Rattle.rule_model.specs.Congruence.{IsConnected}
use Rattle.rules_congruence.specs.Pairs.{AreEnds}
use Rattle.rules_congruence.specs.Ways.{IsNear}
use Rattle.rules_congruence.proofs.Options.{if_ok}
use Rattle.rules_congruence.proofs.WayLemmas.{connected_both, path_connects}
use Rattle.rules_congruence.proofs.TurningLemmas.{iff_trans}
use Rattle.rules_congruence.proofs.ways.is_connected.Goals as goal

pub returns-then-is_path : goal.returns-then-is_path
returns-then-is_path c =
    (λ e. path_connects c.args.pairs.now c.args.from c.args.to (c.is_path.ensures.0 c.if-is_path.true), λ way. refl)

pub returns : goal.returns
returns c =
    if_ok (λ yes. IsTrue yes ↔ IsConnected (IsNear c.in_ok-links.links.items) c.args.from c.args.to)
    (λ yes. IsTrue yes ↔ IsConnected (AreEnds {X = ℕ} c.args.pairs.now) c.args.from c.args.to)
    c.reaches.result
    (λ yes h. iff_trans h (connected_both (IsNear c.in_ok-links.links.items) (AreEnds {X = ℕ} c.args.pairs.now) c.in_ok-links.ensures.has c.args.from c.args.to))
    (rw c.deref.ensures.value at c.reaches.ensures)
