use Rattle.std.proofs.Common.{length}
use Rattle.text_items.proofs.one_pass.+pass_word.Given as goal

abbrev pub decreases-pass_word : goal.decreases-pass_word
decreases-pass_word l = length l.known.now
