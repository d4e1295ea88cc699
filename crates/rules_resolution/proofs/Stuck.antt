-- Where no premise offers anything more, nothing leads to a conflict.
use Rattle.std.proofs.Common.{◌≡◌, ◌⊎◌, inl, inr, ℕ, ◌<◌, true, List, [], ◌∷◌, ◌++◌, length, ◌∙◌, ap}
use Rattle.std.proofs.lemmas.Bool.{cases_Bool}
use Rattle.rule_model.specs.Consequence.{literal_at, premise_at, literal_of, IsOnly, Leads}
use Rattle.rule_model.specs.Literals.{negation_of}
use Rattle.rule_model.specs.declared.literal.Literal.TheVariants.{Never}
use Rattle.rules_resolution.specs.Falsity.{is_false_in}
use Rattle.rules_resolution.specs.Literal.{Lit}
use Rattle.rules_resolution.specs.Idle.{IsIdle, AllIdleBelow}
use Rattle.rules_resolution.proofs.Literals.{push_cases, test_of_false, only_from_tests, only-others}

-- all that is false in the one is false in the other
abbrev pub More : List Lit → List Lit → Type 0
More falses stuck = (l : Lit) → is_false_in falses l ≡ true → is_false_in stuck l ≡ true

-- an idle clause's only literal is true already
unit_settled : (falses stuck clause : List Lit) (j : ℕ) → More falses stuck → IsIdle stuck clause → IsOnly falses clause j → is_false_in stuck (negation_of (literal_at clause j)) ≡ true
unit_settled falses stuck clause j more idle only =
    elim (cases_Bool (is_false_in stuck (literal_at clause j))) [
      | inl gone ↦ absurd (all_gone gone)
      | inr not_gone ↦ idle.settled j (only_from_tests stuck clause j only.place not_gone others)
    ]
  where
    others : (k : ℕ) → k < length clause → (is_false_in stuck (literal_at clause k) ≡ true) ⊎ (literal_at clause k ≡ literal_at clause j)
    others k h = elim (only-others falses clause j only k h) [ inl f ↦ inl (more (literal_at clause k) f) | inr s ↦ inr s ]

    all_gone : is_false_in stuck (literal_at clause j) ≡ true → ⊥
    all_gone gone =
        elim (others idle.open_at idle.place) [
          | inl f ↦ cc (f, idle.not_false)
          | inr s ↦ (let e = ap (is_false_in stuck) s in cc (e, gone, idle.not_false))
        ]

pub nothing_leads : (premises : List (List Lit)) (stuck : List Lit) → AllIdleBelow premises stuck (length premises) → (falses : List Lit) (units : List (ℕ × ℕ)) (last : ℕ) → More falses stuck → Leads premises falses units last → ⊥
nothing_leads premises stuck idle falses [] last more conflict =
    let here = idle last conflict.place in
    let gone = more (literal_at (premise_at premises last) here.open_at) (test_of_false falses (literal_at (premise_at premises last) here.open_at) (conflict.all_false here.open_at Never here.place)) in
    cc (gone, here.not_false)
nothing_leads premises stuck idle falses (u ∷ us) last more leads =
    nothing_leads premises stuck idle (falses ++ negation_of (literal_of premises u) ∷ []) us last
    (λ l e. elim (push_cases falses (negation_of (literal_of premises u)) l e) [
      | inl before ↦ more l before
      | inr same ↦ ap (is_false_in stuck) same ∙ unit_settled falses stuck (premise_at premises u.0) u.1 more (idle u.0 leads.0.place) leads.0.only
    ]) leads.1
