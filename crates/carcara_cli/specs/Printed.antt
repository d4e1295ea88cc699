-- Public. What an answer prints, and the status with which it ends.
use Rattle.std.specs.Prelude.{ℕ, List, ◌++◌, codes}
use Rattle.judged_texts.specs.Printed.{line_end, text_of_judgement, status_of_judgement}
use Rattle.carcara_cli.specs.declared.answer.Answer.{Answer}
use Rattle.carcara_cli.specs.declared.answer.Answer.TheVariants.{Usage, ReadFault, TooLong, Judged}

abbrev pub text_of : Answer → List ℕ
text_of Usage = codes "usage: carcara (check | elaborate) PROOF PROBLEM [options] | carcara generate N [options]" ++ line_end
text_of ReadFault = codes "read fault" ++ line_end
text_of TooLong = codes "too long" ++ line_end
text_of (Judged j) = text_of_judgement j

abbrev pub status_of : Answer → ℕ
status_of Usage = 64
status_of ReadFault = 5
status_of TooLong = 9
status_of (Judged j) = status_of_judgement j
