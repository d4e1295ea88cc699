use Rattle.std.proofs.Common.{refl, arith}
use Rattle.sexpr.specs.Characters.{is_white, is_word_byte, is_mark}
use Rattle.sexpr.specs.Classes.{class_of}
use Rattle.sexpr.specs.declared.bytes.TheConstants.{CLASSES}
use Rattle.sexpr.proofs.ByteTable.{class_in_table}
use Rattle.sexpr.proofs.bytes.class_of.Goals as goal

pub returns : goal.returns
unfolding class_of is_white is_word_byte is_mark
returns c = class_in_table class_of CLASSES c.args.byte refl refl (omega (arith, c.ranges.byte))
