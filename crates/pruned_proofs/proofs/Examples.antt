-- Which commands of the example are reached.
use Rattle.std.proofs.Common.{◌≡◌, ◌<◌, inl, inr, ℕ, zero, suc, true, [], ◌∷◌, Some, Contains, refl, sym, ◌∙◌, ap, subst, arith}
use Rattle.term_model.proofs.Basics.{same_some}
use Rattle.term_model.proofs.Lists.{contains_none, contains_cases}
use Rattle.rule_model.specs.Reading.{premises_at, closes_at, last_inside_at, scope_at}
use Rattle.rule_model.specs.Subproof.{IsAssumeIn}
use Rattle.pruned_proofs.specs.PrunedExamples.{with_unused, used_marks}
use Rattle.pruned_proofs.specs.Reached.{is_kept, RestsOn, on_premise, on_last, on_assume, IsReached, start, further, AreReachedMarks}

-- only the step of index 7 closes a scope and is kept, and its scope has the number 2
rests_kept : (i j : ℕ) → is_kept used_marks i ≡ true → RestsOn with_unused i j → is_kept used_marks j ≡ true
rests_kept i j e (on_premise has) = premise i e has
  where
    premise : (i : ℕ) → is_kept used_marks i ≡ true → Contains (premises_at with_unused i) j → is_kept used_marks j ≡ true
    premise zero e has = absurd (contains_none j has)
    premise (suc (suc (suc (suc (suc zero))))) e has = absurd (contains_none j has)
    premise (suc (suc (suc (suc (suc (suc zero)))))) e has = elim (contains_cases 0 j [] has) [ inl same ↦ subst (λ k. is_kept used_marks k ≡ true) same refl | inr none ↦ absurd (contains_none j none) ]
    premise (suc (suc (suc (suc (suc (suc (suc zero))))))) e has = absurd (contains_none j has)
    premise (suc (suc (suc (suc (suc (suc (suc (suc zero)))))))) e has =
        elim (contains_cases 7 j (0 ∷ []) has) [
          | inl same ↦ subst (λ k. is_kept used_marks k ≡ true) same refl
          | inr more ↦ elim (contains_cases 0 j [] more) [ inl same ↦ subst (λ k. is_kept used_marks k ≡ true) same refl | inr none ↦ absurd (contains_none j none) ]
        ]
    premise (suc zero) e has = absurd (cc)
    premise (suc (suc zero)) e has = absurd (cc)
    premise (suc (suc (suc zero))) e has = absurd (cc)
    premise (suc (suc (suc (suc zero)))) e has = absurd (cc)
    premise (suc (suc (suc (suc (suc (suc (suc (suc (suc i))))))))) e has = absurd (cc)
rests_kept i j e (on_last k closes last) = end i e closes last
  where
    end : (i : ℕ) → is_kept used_marks i ≡ true → closes_at with_unused i ≡ Some k → last_inside_at with_unused k ≡ Some j → is_kept used_marks j ≡ true
    end zero e closes last = absurd (cc)
    end (suc (suc (suc (suc (suc zero))))) e closes last = absurd (cc)
    end (suc (suc (suc (suc (suc (suc zero)))))) e closes last = absurd (cc)
    end (suc (suc (suc (suc (suc (suc (suc zero))))))) e closes last =
        let same : Some 6 ≡ Some j = ap (last_inside_at with_unused) (same_some closes) ∙ last in
        subst (λ n. is_kept used_marks n ≡ true) (same_some same) refl
    end (suc (suc (suc (suc (suc (suc (suc (suc zero)))))))) e closes last = absurd (cc)
    end (suc zero) e closes last = absurd (cc)
    end (suc (suc zero)) e closes last = absurd (cc)
    end (suc (suc (suc zero))) e closes last = absurd (cc)
    end (suc (suc (suc (suc zero)))) e closes last = absurd (cc)
    end (suc (suc (suc (suc (suc (suc (suc (suc (suc i))))))))) e closes last = absurd (cc)
rests_kept i j e (on_assume k closes is) = inside_it i e closes is
  where
    scope : (j : ℕ) → j < 7 → scope_at with_unused j ≡ 2 → is_kept used_marks j ≡ true
    scope zero less e = absurd (cc)
    scope (suc zero) less e = absurd (cc)
    scope (suc (suc zero)) less e = absurd (cc)
    scope (suc (suc (suc zero))) less e = absurd (cc)
    scope (suc (suc (suc (suc zero)))) less e = absurd (cc)
    scope (suc (suc (suc (suc (suc zero))))) less e = refl
    scope (suc (suc (suc (suc (suc (suc zero)))))) less e = refl
    scope (suc (suc (suc (suc (suc (suc (suc j))))))) less e = absurd (omega (arith, less))

    inside_it : (i : ℕ) → is_kept used_marks i ≡ true → closes_at with_unused i ≡ Some k → IsAssumeIn with_unused i k j → is_kept used_marks j ≡ true
    inside_it zero e closes is = absurd (cc)
    inside_it (suc (suc (suc (suc (suc zero))))) e closes is = absurd (cc)
    inside_it (suc (suc (suc (suc (suc (suc zero)))))) e closes is = absurd (cc)
    inside_it (suc (suc (suc (suc (suc (suc (suc zero))))))) e closes is = scope j is.before (is.scope ∙ sym (same_some closes))
    inside_it (suc (suc (suc (suc (suc (suc (suc (suc zero)))))))) e closes is = absurd (cc)
    inside_it (suc zero) e closes is = absurd (cc)
    inside_it (suc (suc zero)) e closes is = absurd (cc)
    inside_it (suc (suc (suc zero))) e closes is = absurd (cc)
    inside_it (suc (suc (suc (suc zero)))) e closes is = absurd (cc)
    inside_it (suc (suc (suc (suc (suc (suc (suc (suc (suc i))))))))) e closes is = absurd (cc)

all_kept : (j : ℕ) → IsReached with_unused 8 j → is_kept used_marks j ≡ true
all_kept _ start = refl
all_kept j (further i _ reached rests) = rests_kept i j (all_kept i reached) rests

step_used : IsReached with_unused 8 7
step_used = further 8 7 start (on_premise (0, omega arith, refl))

kept_reached : (j : ℕ) → is_kept used_marks j ≡ true → IsReached with_unused 8 j
kept_reached zero e = further 8 0 start (on_premise (1, omega arith, refl))
kept_reached (suc zero) e = absurd (cc)
kept_reached (suc (suc zero)) e = absurd (cc)
kept_reached (suc (suc (suc zero))) e = absurd (cc)
kept_reached (suc (suc (suc (suc zero)))) e = absurd (cc)
kept_reached (suc (suc (suc (suc (suc zero))))) e = further 7 5 step_used (on_assume 2 refl (record { before = omega arith; scope = refl; assume = refl }))
kept_reached (suc (suc (suc (suc (suc (suc zero)))))) e = further 7 6 step_used (on_last 2 refl refl)
kept_reached (suc (suc (suc (suc (suc (suc (suc zero))))))) e = step_used
kept_reached (suc (suc (suc (suc (suc (suc (suc (suc zero)))))))) e = start
kept_reached (suc (suc (suc (suc (suc (suc (suc (suc (suc j))))))))) e = absurd (cc)

pub example_reached : AreReachedMarks with_unused 8 used_marks
example_reached = record { count = refl; each = λ j. (kept_reached j, all_kept j) }
