use Rattle.std.proofs.Common.{sym, ap, ◌∙◌}
use Rattle.sexpr.proofs.ByteTable.{is_class_word, not_word, is_class_word-class_of}
use Rattle.sexpr.proofs.bytes.is_word_byte.Goals as goal

pub returns-in-Word : goal.returns-in-Word
returns-in-Word c = ap is_class_word c.in-Word.ensures ∙ is_class_word-class_of c.args.byte

pub returns-in_default : goal.returns-in_default
returns-in_default c = sym (not_word _ c.in_default.not-Word) ∙ ap is_class_word c.class_of.ensures ∙ is_class_word-class_of c.args.byte
