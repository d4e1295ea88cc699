use Rattle.std.proofs.Common.{◌∙◌, arith, length-take, length-append, length-drop}
use Rattle.file_ports.proofs.Reading.{longer-by_piece, consumed-by_piece}
use Rattle.file_ports.proofs.whole.read_whole.Goals as goal

pub returns-then-n-eq0-clause-within : goal.returns-then-n-eq0-clause-within
returns-then-n-eq0-clause-within g c = omega (arith, longer-by_piece _ _ _ _ _ _ c.in_ok-n.ensures.adds)

pub pieces-smaller : goal.pieces-smaller
pieces-smaller g c = omega (arith, longer-by_piece _ _ _ _ _ _ c.in_ok-n.ensures.adds)

pub pieces-preserved : goal.pieces-preserved
pieces-preserved g c = record {
  so_far = consumed-by_piece _ _ _ _ _ _ _ c.pieces.invariant.so_far c.in_ok-n.ensures.adds;
  within = omega arith;
  room = simp (length-take, length-append, length-drop) (omega arith);
  is_open = c.in_ok-n.ensures.still_open;
  count = omega arith;
  content = c.in_ok-n.ensures.content ∙ c.pieces.invariant.content;
  may_ask = λ asked. (
    λ may. (c.pieces.invariant.may_ask asked).0 ((c.in_ok-n.ensures.may_ask asked).0 may),
    λ may. (c.in_ok-n.ensures.may_ask asked).1 ((c.pieces.invariant.may_ask asked).1 may),
  );
}
