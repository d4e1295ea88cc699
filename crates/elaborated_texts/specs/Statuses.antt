-- Private. The status of a judgement whose proof is elaborated.
use Rattle.std.specs.Prelude.{◌≡◌, ℕ, Option, None, Some}
use Rattle.judged_texts.specs.declared.judgement.Judgement.{Judgement}
use Rattle.judged_texts.specs.declared.judgement.Judgement.TheVariants.{Valid, Holey}

abbrev pub IsPrintedOf : Judgement → Option ℕ → Type 0
IsPrintedOf Valid status = status ≡ Some 0
IsPrintedOf (Holey holes) status = status ≡ Some 2
IsPrintedOf j status = status ≡ None
