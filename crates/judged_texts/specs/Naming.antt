-- Public. The judgement that a verdict is, with the commands that it names.
use Rattle.std.specs.Prelude.{◌≡◌, ℕ, ◌<◌, List, map, ⊤}
use Rattle.rule_model.specs.declared.statuses.Status.{Status}
use Rattle.rule_model.specs.declared.statuses.Verdict.{Verdict}
use Rattle.rule_model.specs.Proofs.{ProofItems}
use Rattle.rule_model.specs.Reading.{id_at}
use Rattle.judged_texts.specs.declared.judgement.Judgement.{Judgement}
use Rattle.judged_texts.specs.declared.judgement.Judgement.TheVariants.{Valid, Holey, NoEmptyClause, Faulty, TooWide}
use Rattle.judged_texts.specs.Holes.{holes_from, told_hole}

-- a command that a verdict names is one of so many
abbrev pub NamesOneOf : ℕ → Verdict → Type 0
NamesOneOf n (Verdict.InvalidAt i cause) = i < n
NamesOneOf n (Verdict.Unknown i) = i < n
NamesOneOf n v = ⊤

-- the judgement that a verdict is, with the ids that it names
abbrev pub NamesIds : {V T : Type 0} → List Status → ProofItems V T → Verdict → Judgement → Type 0
NamesIds statuses proof v Valid = v ≡ Verdict.Valid
NamesIds statuses proof v (Holey holes) = (v ≡ Verdict.Holey) × (map told_hole holes.items ≡ holes_from proof 0 statuses)
NamesIds statuses proof v NoEmptyClause = v ≡ Verdict.NoEmpty
NamesIds statuses proof v (Faulty id cause) = (i : ℕ) × (v ≡ Verdict.InvalidAt i cause) × (id.items ≡ id_at proof i)
NamesIds statuses proof v (TooWide id) = (i : ℕ) × (v ≡ Verdict.Unknown i) × (id.items ≡ id_at proof i)
NamesIds statuses proof v _ = ⊥
