use Rattle.std.proofs.Common.{sym, ap, ◌∙◌}
use Rattle.sexpr.proofs.ByteTable.{is_class_white, not_white, is_class_white-class_of}
use Rattle.sexpr.proofs.bytes.is_white.Goals as goal

pub returns-in-White : goal.returns-in-White
returns-in-White c = ap is_class_white c.in-White.ensures ∙ is_class_white-class_of c.args.byte

pub returns-in_default : goal.returns-in_default
returns-in_default c = sym (not_white _ c.in_default.not-White) ∙ ap is_class_white c.class_of.ensures ∙ is_class_white-class_of c.args.byte
