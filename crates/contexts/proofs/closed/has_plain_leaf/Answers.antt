use Rattle.std.proofs.Common.{refl, sym, ◌∙◌, arith}
use Rattle.contexts.proofs.Scanning.{scan_more, scan_all}
use Rattle.contexts.proofs.closed.has_plain_leaf.Goals as goal

pub bindings-init : goal.bindings-init
bindings-init c k plain = refl

pub bindings-preserved : goal.bindings-preserved
bindings-preserved c =
    scan_more c.args.closed.now c.args.bindings.now c.bindings.binding-index c.binding-item.result c.bindings-test.true c.binding-item.is
    (sym c.has_plain.ensures ∙ c.if-has_plain.false) c.bindings.invariant

pub returns : goal.returns
returns c e = scan_all c.args.closed.now c.args.bindings.now c.bindings.binding-index (omega arith) c.bindings.invariant
