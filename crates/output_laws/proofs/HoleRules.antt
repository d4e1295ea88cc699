-- Private. The rules of a check's holes.
use Rattle.std.proofs.Common.{◌≡◌, ℕ, suc, List, [], ◌∷◌, map, All, refl, ap}
use Rattle.std.proofs.lemmas.List.Elements.{All-head, All-tail}
use Rattle.rule_model.specs.declared.statuses.Status.{Status}
use Rattle.rule_model.specs.Holes.{hole_words_from}
use Rattle.rule_model.specs.Proofs.{ProofItems}
use Rattle.rule_model.specs.Reading.{rule_name_at}
use Rattle.judged_texts.specs.Holes.{holes_from}

module _ {V T : Type 0} (proof : ProofItems V T) where
  pub rules_are_words : (i : ℕ) (statuses : List Status) → map (λ h. h.rule) (holes_from proof i statuses) ≡ hole_words_from proof i statuses
  rules_are_words i [] = refl
  rules_are_words i (Status.Hole ∷ statuses) = ap (λ ws. rule_name_at proof i ∷ ws) (rules_are_words (suc i) statuses)
  rules_are_words i (Status.Ok ∷ statuses) = rules_are_words (suc i) statuses
  rules_are_words i (Status.Wide ∷ statuses) = rules_are_words (suc i) statuses
  rules_are_words i (Status.Faulty cause ∷ statuses) = rules_are_words (suc i) statuses

  -- where every command is Ok, there is no hole
  pub no_rules : (i : ℕ) (statuses : List Status) → All (λ s. s ≡ Status.Ok) statuses → map (λ h. h.rule) (holes_from proof i statuses) ≡ []
  no_rules i [] ok = refl
  no_rules i (Status.Ok ∷ statuses) ok = no_rules (suc i) statuses (All-tail (λ s. s ≡ Status.Ok) Status.Ok statuses ok)
  no_rules i (Status.Hole ∷ statuses) ok = absurd (let e : Status.Hole ≡ Status.Ok = All-head (λ s. s ≡ Status.Ok) Status.Hole statuses ok in cc)
  no_rules i (Status.Wide ∷ statuses) ok = absurd (let e : Status.Wide ≡ Status.Ok = All-head (λ s. s ≡ Status.Ok) Status.Wide statuses ok in cc)
  no_rules i (Status.Faulty cause ∷ statuses) ok =
      absurd (let e : Status.Faulty cause ≡ Status.Ok = All-head (λ s. s ≡ Status.Ok) (Status.Faulty cause) statuses ok in cc)
