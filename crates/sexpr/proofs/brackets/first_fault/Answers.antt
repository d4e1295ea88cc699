use Rattle.std.proofs.Common.{sym, arith}
use Rattle.std.proofs.lemmas.Result.{err_from_is_err_and}
use Rattle.sexpr.proofs.PartByPart.{open_after_white, open_after_comment, open_after_bracket, stray_bracket, open_after_atom, fault_at_atom, formed_here, open_here}
use Rattle.sexpr.proofs.brackets.first_fault.Goals as goal

pub loop-place-preserved-then-is_white : goal.loop-place-preserved-then-is_white
loop-place-preserved-then-is_white c = record {
  within = omega (arith, c.loop-place-test.true);
  so_far = open_after_white c.args.bytes.now c.loop-place.place c.loop-place.lists c.loop-place.invariant.so_far c.loop-place-test.true (sym c.if-is_white.ensures);
}

pub returns-in_default-after : goal.returns-in_default-after
returns-in_default-after c =
    let step = rw c.token_of.ensures at c.in_default-after.ensures in
    stray_bracket c.args.bytes.now c.loop-place.place c.loop-place.lists c.loop-place.invariant.so_far
    c.in-Some.kind c.loop-place-test.true (sym c.if-is_white.ensures) c.in-Some.ensures (sym step)

pub loop-place-preserved-in-Some : goal.loop-place-preserved-in-Some
loop-place-preserved-in-Some c =
    let step = rw c.token_of.ensures at c.in-Some-after.ensures in
    record {
      within = omega (arith, c.loop-place-test.true);
      so_far = open_after_bracket c.args.bytes.now c.loop-place.place c.loop-place.lists c.loop-place.invariant.so_far
          c.in-Some.kind c.in-Some-after.after c.loop-place-test.true (sym c.if-is_white.ensures) c.in-Some.ensures step;
    }

pub loop-place-preserved-then-byte-eq59 : goal.loop-place-preserved-then-byte-eq59
loop-place-preserved-then-byte-eq59 c =
    let ends = c.comment_end-place.ensures in
    record {
      within = ends.within;
      so_far = open_after_comment c.args.bytes.now c.loop-place.place c.loop-place.lists c.loop-place.invariant.so_far
          c.comment_end-place.result c.loop-place-test.true (sym c.if-is_white.ensures) c.if-byte-eq59.true ends.after ends.rest;
    }

pub returns-in_err-place : goal.returns-in_err-place
returns-in_err-place c =
    let p = err_from_is_err_and c.from_residual.result c.from_residual.ensures.1 in
    let read = c.in_err-place.ensures in
    rw (p.1, p.2)
    (fault_at_atom c.args.bytes.now c.loop-place.place c.loop-place.lists c.loop-place.invariant.so_far
    _ c.loop-place-test.true (sym c.if-is_white.ensures) c.if-byte-eq59.false read.value read.cause)

pub loop-place-preserved : goal.loop-place-preserved
loop-place-preserved c =
    let read = c.in_ok-place.ensures in
    record {
      within = read.after.1;
      so_far = open_after_atom c.args.bytes.now c.loop-place.place c.loop-place.lists c.loop-place.invariant.so_far
          c.in_ok-place.place c.loop-place-test.true (sym c.if-is_white.ensures) c.in_default.ensures c.if-byte-eq59.false read.after.0 read.value;
    }

pub returns-then-lists-eq0 : goal.returns-then-lists-eq0
returns-then-lists-eq0 c =
    formed_here c.args.bytes.now c.loop-place.place c.loop-place.lists c.loop-place.invariant.so_far c.loop-place-test.false c.if-lists-eq0.true

pub returns-else-lists-eq0 : goal.returns-else-lists-eq0
returns-else-lists-eq0 c =
    open_here c.args.bytes.now c.loop-place.place c.loop-place.lists c.loop-place.invariant.so_far c.loop-place-test.false c.if-lists-eq0.false
