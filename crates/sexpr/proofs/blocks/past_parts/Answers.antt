use Rattle.std.proofs.Common.{sym, arith}
use Rattle.sexpr.proofs.FineBytes.{formed_white, formed_open, formed_close, formed_comment, formed_atom}
use Rattle.sexpr.proofs.blocks.past_parts.Goals as goal

pub loop-place-preserved-then-is_white : goal.loop-place-preserved-then-is_white
loop-place-preserved-then-is_white c = record {
  within = omega (arith, c.loop-place-test.true, c.requires.end);
  formed = formed_white c.args.bytes.now c.loop-place.place (omega (arith, c.loop-place-test.true, c.requires.end)) c.loop-place.depth c.loop-place.invariant.formed (sym c.if-is_white.ensures);
}

pub loop-place-preserved-then-byte-eq40 : goal.loop-place-preserved-then-byte-eq40
loop-place-preserved-then-byte-eq40 c = record {
  within = omega (arith, c.loop-place-test.true, c.requires.end);
  formed = formed_open c.args.bytes.now c.loop-place.place (omega (arith, c.loop-place-test.true, c.requires.end)) c.loop-place.depth c.loop-place.invariant.formed c.if-byte-eq40.true;
}

pub loop-place-preserved-then-byte-eq41 : goal.loop-place-preserved-then-byte-eq41
loop-place-preserved-then-byte-eq41 c = record {
  within = omega (arith, c.loop-place-test.true, c.requires.end);
  formed = formed_close c.args.bytes.now c.loop-place.place (omega (arith, c.loop-place-test.true, c.requires.end)) c.loop-place.depth c.loop-place.invariant.formed c.if-byte-eq41.true c.if-depth-eq0.false;
}

pub loop-place-preserved-then-byte-eq59 : goal.loop-place-preserved-then-byte-eq59
loop-place-preserved-then-byte-eq59 c =
    let ends = c.comment_end-place.ensures in
    record {
      within = ends.within;
      formed = formed_comment c.args.bytes.now c.loop-place.place (omega (arith, c.loop-place-test.true, c.requires.end)) c.loop-place.depth c.comment_end-place.result
          c.loop-place.invariant.formed (sym c.if-is_white.ensures) c.if-byte-eq59.true ends.after ends.rest;
    }

pub loop-place-preserved : goal.loop-place-preserved
loop-place-preserved c =
    let read = c.in-Ok.ensures in
    record {
      within = read.after.1;
      formed = formed_atom c.args.bytes.now c.loop-place.place (omega (arith, c.loop-place-test.true, c.requires.end)) c.loop-place.depth c.in-Ok.past
          c.loop-place.invariant.formed (sym c.if-is_white.ensures) c.if-byte-eq40.false c.if-byte-eq41.false c.if-byte-eq59.false read.after.0 read.value;
    }
