-- What follows from a few clauses, and what does not.
use Rattle.std.proofs.Common.{◌≡◌, ◌⊎◌, inl, inr, ℕ, zero, suc, ◌<◌, Bool, true, false, not, List, [], ◌∷◌, length, refl, sym, ap, arith, All}
use Rattle.std.proofs.lemmas.List.Elements.{All-nil, All-cons}
use Rattle.term_model.proofs.Lists.{contains_none, contains_cases, contains_head, contains_later}
use Rattle.rule_model.specs.declared.literal.Literal.{Literal}
use Rattle.rule_model.specs.declared.literal.Literal.TheVariants.{Plain, Never}
use Rattle.rule_model.specs.Literals.{ClauseTrue, Entails}
use Rattle.rule_model.specs.Consequence.{IsFalse, premise_at, IsOnly, IsUnit, Leads, Follows}
use Rattle.rule_model.specs.ConsequenceExamples.{yes_atom, no_atom, four_clauses, all_signs}
use Rattle.rule_model.proofs.Consequence.{consequence_sound}

-- nothing is false but the constant
none_false : (a : ℕ) (s : Bool) → IsFalse [] (Plain a s) → ⊥
none_false a s (inl never) = cc
none_false a s (inr c) = contains_none (Plain a s) c

-- the literal of a clause of one
alone : (falses : List (Literal ℕ)) (l : Literal ℕ) → (IsFalse falses l → ⊥) → IsOnly falses (l ∷ []) 0
alone falses l stays =
    record {
      place = omega arith;
      not_false = stays;
      others = All-cons (λ m. IsFalse falses m ⊎ (m ≡ l)) l [] (inr refl) (All-nil (λ m. IsFalse falses m ⊎ (m ≡ l)));
    }

-- the second of two, where the first is false
second : (falses : List (Literal ℕ)) (l m : Literal ℕ) → IsFalse falses l → (IsFalse falses m → ⊥) → IsOnly falses (l ∷ m ∷ []) 1
second falses l m gone stays =
    record {
      place = omega arith;
      not_false = stays;
      others = All-cons (λ n. IsFalse falses n ⊎ (n ≡ m)) l (m ∷ []) (inl gone) (All-cons (λ n. IsFalse falses n ⊎ (n ≡ m)) m [] (inr refl) (All-nil (λ n. IsFalse falses n ⊎ (n ≡ m))));
    }

both_false : (falses : List (Literal ℕ)) (l m : Literal ℕ) → IsFalse falses l → IsFalse falses m → All (IsFalse falses) (l ∷ m ∷ [])
both_false falses l m first then =
    All-cons (IsFalse falses) l (m ∷ []) first (All-cons (IsFalse falses) m [] then (All-nil (IsFalse falses)))

c_stays : IsFalse (yes_atom 0 ∷ []) (no_atom 2) → ⊥
c_stays (inl never) = cc
c_stays (inr c) = elim (contains_cases (yes_atom 0) (no_atom 2) [] c) [ inl same ↦ cc | inr later ↦ contains_none (no_atom 2) later ]

b_stays : IsFalse (yes_atom 0 ∷ yes_atom 2 ∷ []) (yes_atom 1) → ⊥
b_stays (inl never) = cc
b_stays (inr c) =
    elim (contains_cases (yes_atom 0) (yes_atom 1) (yes_atom 2 ∷ []) c) [
      | inl same ↦ cc
      | inr later ↦ elim (contains_cases (yes_atom 2) (yes_atom 1) [] later) [ inl same ↦ cc | inr none ↦ contains_none (yes_atom 1) none ]
    ]

pub four_follow : Follows four_clauses []
four_follow =
    let not_a : IsUnit four_clauses [] 0 0 = record { place = omega arith; only = alone [] (no_atom 0) (none_false 0 true) } in
    let not_c : IsUnit four_clauses (yes_atom 0 ∷ []) 1 0 = record { place = omega arith; only = alone (yes_atom 0 ∷ []) (no_atom 2) c_stays } in
    let b : IsUnit four_clauses (yes_atom 0 ∷ yes_atom 2 ∷ []) 2 1 = record { place = omega arith; only = second (yes_atom 0 ∷ yes_atom 2 ∷ []) (yes_atom 0) (yes_atom 1) (inr (contains_head (yes_atom 0) (yes_atom 2 ∷ []))) b_stays } in
    inr ((0, 0) ∷ (1, 0) ∷ (2, 1) ∷ [], 3, (not_a, (not_c, (b, record { place = omega arith; all_false = last_false }))))
  where
    last_false : All (IsFalse (yes_atom 0 ∷ yes_atom 2 ∷ no_atom 1 ∷ [])) (no_atom 1 ∷ yes_atom 2 ∷ [])
    last_false =
        both_false (yes_atom 0 ∷ yes_atom 2 ∷ no_atom 1 ∷ []) (no_atom 1) (yes_atom 2)
        (inr (contains_later (yes_atom 0) (no_atom 1) (yes_atom 2 ∷ no_atom 1 ∷ []) (contains_later (yes_atom 2) (no_atom 1) (no_atom 1 ∷ []) (contains_head (no_atom 1) []))))
        (inr (contains_later (yes_atom 0) (yes_atom 2) (yes_atom 2 ∷ no_atom 1 ∷ []) (contains_head (yes_atom 2) (no_atom 1 ∷ []))))

-- only the second atom is true
abbrev pub second_alone : ℕ → Bool
second_alone zero = false
second_alone (suc n) = true

pub no_part : Follows ((yes_atom 0 ∷ yes_atom 1 ∷ []) ∷ []) (yes_atom 0 ∷ []) → ⊥
no_part follows =
    elim (consequence_sound ((yes_atom 0 ∷ yes_atom 1 ∷ []) ∷ []) (yes_atom 0 ∷ []) follows second_alone
    (All-cons (ClauseTrue second_alone) (yes_atom 0 ∷ yes_atom 1 ∷ []) [] (inr (inl refl)) (All-nil (ClauseTrue second_alone)))) [
      | inl here ↦ cc
      | inr later ↦ later
    ]

-- no truth values make all four clauses true
pub all_signs_entail : Entails all_signs []
all_signs_entail v holds = go (v 0) (v 1) refl refl
  where
    clause : (k : ℕ) → k < length all_signs → ClauseTrue v (premise_at all_signs k)
    clause k h = holds k [] h

    go : (a b : Bool) → v 0 ≡ a → v 1 ≡ b → ⊥
    go true true x y = elim (clause 3 (omega arith)) [ inl e ↦ (let f : not (v 0) ≡ false = ap not x in cc) | inr rest ↦ elim rest [ inl e ↦ (let f : not (v 1) ≡ false = ap not y in cc) | inr none ↦ none ] ]
    go true false x y = elim (clause 2 (omega arith)) [ inl e ↦ (let f : not (v 0) ≡ false = ap not x in cc) | inr rest ↦ elim rest [ inl e ↦ cc | inr none ↦ none ] ]
    go false true x y = elim (clause 1 (omega arith)) [ inl e ↦ cc | inr rest ↦ elim rest [ inl e ↦ (let f : not (v 1) ≡ false = ap not y in cc) | inr none ↦ none ] ]
    go false false x y = elim (clause 0 (omega arith)) [ inl e ↦ cc | inr rest ↦ elim rest [ inl e ↦ cc | inr none ↦ none ] ]

-- each of the four clauses has two different literals, and none is false at first
two_stay : (s t : Bool) (j : ℕ) → IsOnly {A = ℕ} [] (Plain 0 s ∷ Plain 1 t ∷ []) j → ⊥
two_stay s t j only =
    elim (only.others 0 Never (omega arith)) [
      | inl gone ↦ none_false 0 s gone
      | inr first ↦ elim (only.others 1 Never (omega arith)) [
        | inl gone ↦ none_false 1 t gone
        | inr then ↦ apart (sym first) (sym then)
      ]
    ]
  where
    apart : {l : Literal ℕ} → l ≡ Plain 0 s → l ≡ Plain 1 t → ⊥
    apart e f = cc

pub all_signs_stay : Follows all_signs [] → ⊥
all_signs_stay (inl (l, c, gone)) = contains_none l c
all_signs_stay (inr (units, last, leads)) = go units leads
  where
    no_conflict : (i : ℕ) → i < length all_signs → All (IsFalse []) (premise_at all_signs i) → ⊥
    no_conflict zero h all = none_false 0 false (all 0 Never (omega arith))
    no_conflict (suc zero) h all = none_false 0 false (all 0 Never (omega arith))
    no_conflict (suc (suc zero)) h all = none_false 0 true (all 0 Never (omega arith))
    no_conflict (suc (suc (suc zero))) h all = none_false 0 true (all 0 Never (omega arith))
    no_conflict (suc (suc (suc (suc n)))) h all = omega (arith, h)

    no_unit : (i j : ℕ) → i < length all_signs → IsOnly [] (premise_at all_signs i) j → ⊥
    no_unit zero j h only = two_stay false false j only
    no_unit (suc zero) j h only = two_stay false true j only
    no_unit (suc (suc zero)) j h only = two_stay true false j only
    no_unit (suc (suc (suc zero))) j h only = two_stay true true j only
    no_unit (suc (suc (suc (suc n)))) j h only = omega (arith, h)

    go : (units : List (ℕ × ℕ)) → Leads all_signs [] units last → ⊥
    go [] conflict = no_conflict last conflict.place conflict.all_false
    go (u ∷ us) leads = no_unit u.0 u.1 leads.0.place leads.0.only
