-- Public. The words that name each cause of a refusal.
use Rattle.std.specs.Prelude.{ℕ, List, codes}
use Rattle.sexpr.specs.declared.causes.Cause.{Cause}
use Rattle.sexpr.specs.declared.causes.Cause.TheVariants.{BadByte, OpenList, StrayClose, UnknownCommand, BadCommand, UnknownName, Repeated, SortMismatch}
use Rattle.sexpr.specs.declared.causes.Cause.TheVariants.{LeftOut, WideNumber, TooHigh, NoStep, BadAnchor}

abbrev pub text_of_cause : Cause → List ℕ
text_of_cause BadByte = codes "bad byte"
text_of_cause OpenList = codes "open list"
text_of_cause StrayClose = codes "stray close"
text_of_cause UnknownCommand = codes "unknown command"
text_of_cause BadCommand = codes "bad command"
text_of_cause UnknownName = codes "unknown name"
text_of_cause Repeated = codes "repeated"
text_of_cause SortMismatch = codes "sort mismatch"
text_of_cause LeftOut = codes "left out"
text_of_cause WideNumber = codes "wide number"
text_of_cause TooHigh = codes "too high"
text_of_cause NoStep = codes "no such step"
text_of_cause BadAnchor = codes "bad anchor"
