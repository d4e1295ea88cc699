-- Private. Where statuses stop a check.
use Rattle.std.specs.Prelude.{◌≡◌, ◌+◌, ℕ, List}
use Rattle.rule_model.specs.declared.statuses.Status.{Status}
use Rattle.rule_model.specs.declared.statuses.Verdict.{Verdict}
use Rattle.rule_model.specs.Statuses.{IsFirstAt}

-- the status of the command at an index decides this
abbrev pub StopsBy : Status → ℕ → Verdict → Type 0
StopsBy Status.Ok index verdict = ⊥
StopsBy Status.Hole index verdict = ⊥
StopsBy (Status.Faulty cause) index verdict = verdict ≡ Verdict.InvalidAt index cause
StopsBy Status.Wide index verdict = verdict ≡ Verdict.Unknown index

-- the first of the statuses that stops a check decides this, where the first of them all is that of the command at an index
pub record IsStop (statuses : List Status) (first : ℕ) (verdict : Verdict) : Type 0 where
  pub place : ℕ
  pub status : Status
  pub is_first : IsFirstAt statuses place status
  pub decides : StopsBy status (first + place) verdict
