-- One command more is gone through.
use Rattle.std.proofs.Common.{◌≡◌, ◌<◌, ◌≤◌, ◌+◌, ◌⊎◌, ◌&&◌, ◌||◌, inl, inr, ℕ, Bool, true, false, List, length, Some, refl, sym, ◌∙◌, ap, subst, arith}
use Rattle.std.proofs.Math.Nat.{eq-or-lt_of_le}
use Rattle.std.proofs.lemmas.Option.{slice_get_within}
use Rattle.rule_model.specs.Commands.{scopes}
use Rattle.rule_model.specs.Proofs.{ProofItems}
use Rattle.rule_model.specs.Reading.{rule_at, scope_at, closes_at, is_assume}
use Rattle.rule_model.specs.Scopes.{outermost, commands_in, subproofs_in, scope_number}
use Rattle.rule_model.specs.WellFormed.{IsWellFormed}
use Rattle.rule_model.proofs.LineReading.{closes_is, closed_entry}
use Rattle.rule_model.proofs.Numbers.{scopes_in_count}
use Rattle.pruned_proofs.specs.Reached.{is_kept, RestsOn, on_premise, on_last, on_assume, IsReached, start, further, AreReachedMarks}
use Rattle.pruned_proofs.proofs.Counting.{not_both}
use Rattle.pruned_proofs.proofs.Resting.{is_closing, line_at, rests_before}
use Rattle.proof_prune.specs.Marking.{MarksMore, IsDirectlyUnder, AreMarksFrom}

either : (a b c : Bool) → (a || (b && c)) ≡ true → (a ≡ true) ⊎ ((b ≡ true) × (c ≡ true))
either true b c e = inl refl
either false true true e = inr (refl, refl)
either false true false e = absurd (cc)
either false false c e = absurd (cc)

neither : (a b c : Bool) → (a || (b && c)) ≡ false → (a ≡ false) × (b ≡ true → c ≡ true → ⊥)
neither true b c e = absurd (cc)
neither false true true e = absurd (cc)
neither false true false e = (refl, λ f g. cc)
neither false false c e = (refl, λ f g. cc)

-- a step closes a scope that is there
pub closes_within : (proof : ProofItems ℕ ℕ) (i k : ℕ) → i < commands_in proof → closes_at proof i ≡ Some k → k ≤ subproofs_in proof
closes_within proof i k within closes =
    let l = line_at proof i within in
    let is = is_closing l.0 k (sym (closes_is proof i l.0 l.1) ∙ closes) in
    let below = slice_get_within (scopes proof) (scope_number l.0.scope.nesting) _ (closed_entry proof i l.0 is.s l.1 is.command) in
    let count = scopes_in_count outermost proof in
    let same = is.scope in omega arith

module _ (proof : ProofItems ℕ ℕ) (formed : IsWellFormed proof) (i : ℕ) (within : i < commands_in proof) where
  pub under_rests : (j : ℕ) → IsDirectlyUnder proof i j → RestsOn proof i j
  under_rests j (inl has) = on_premise has
  under_rests j (inr last) = on_last last.0 last.1 last.2

  pub under_before : (j : ℕ) → IsDirectlyUnder proof i j → j < i
  under_before j under = let l = line_at proof i within in (rests_before proof formed i j l.0 l.1 (under_rests j under)).earlier

-- at first
pub first_are : (proof : ProofItems ℕ ℕ) (from : ℕ) (z m s : List Bool) → ((k : ℕ) → is_kept s k ≡ true → ⊥) → from < commands_in proof → ((j : ℕ) → is_kept z j ≡ true → ⊥) → MarksMore z m (λ j. j ≡ from)
    → length m ≡ commands_in proof → AreMarksFrom proof from (commands_in proof) m s
first_are proof from z m s nothing within none more count = record {
  count = count;
  start_marked = more.added from refl;
  reached = λ j e. subst (IsReached proof from) (sym (only j e)) start;
  closed = λ k e. absurd (nothing k e);
  under = λ c j behind e u. absurd (let f = only c e in omega arith);
  scope = λ c k behind e closes. absurd (let f = only c e in omega arith);
  assumes = λ c k j behind e closes h. absurd (let f = only c e in let b = h.before in omega arith);
}
  where
    only : (j : ℕ) → is_kept m j ≡ true → j ≡ from
    only j e = elim (more.only j e) [ inl old ↦ absurd (none j old) | inr f ↦ f ]

module _ (proof : ProofItems ℕ ℕ) (formed : IsWellFormed proof) (from i : ℕ) (within : i < commands_in proof) (m s : List Bool) (h : AreMarksFrom proof from (i + 1) m s) where
  reached_now : (is_kept m i || (is_assume (rule_at proof i) && is_kept s (scope_at proof i))) ≡ true → IsReached proof from i
  reached_now e =
      elim (either (is_kept m i) (is_assume (rule_at proof i)) (is_kept s (scope_at proof i)) e) [
        | inl k ↦ h.reached i k
        | inr p ↦ (let c = h.closed (scope_at proof i) p.1 in
            further c.closer i c.reached (on_assume (scope_at proof i) c.closes (record { before = let b = c.behind in omega arith; scope = refl; assume = p.0 })))
      ]

  pub marked : (is_kept m i || (is_assume (rule_at proof i) && is_kept s (scope_at proof i))) ≡ true → (m' s' : List Bool) → MarksMore m m' (λ j. (j ≡ i) ⊎ IsDirectlyUnder proof i j) → length m' ≡ length m
      → MarksMore s s' (λ k. closes_at proof i ≡ Some k) → AreMarksFrom proof from i m' s'
  marked now m' s' more count more_scopes = record {
    count = count ∙ h.count;
    start_marked = more.stays from h.start_marked;
    reached = λ j e. elim (more.only j e) [
      | inl old ↦ h.reached j old
      | inr new ↦ elim new [ inl same ↦ subst (IsReached proof from) (sym same) here | inr u ↦ further i j here (under_rests proof formed i within j u) ]
    ];
    closed = λ k e. elim (more_scopes.only k e) [
      | inl old ↦ (let c = h.closed k old in record { closer = c.closer; behind = let b = c.behind in omega arith; reached = c.reached; closes = c.closes })
      | inr closes ↦ record { closer = i; behind = omega arith; reached = here; closes = closes }
    ];
    under = λ c j behind e u. elim (eq-or-lt_of_le behind) [
      | inl same ↦ more.added j (inr (subst (λ d. IsDirectlyUnder proof d j) (sym same) u))
      | inr less ↦ more.stays j (h.under c j (omega arith) (old_kept c less e) u)
    ];
    scope = λ c k behind e closes. elim (eq-or-lt_of_le behind) [
      | inl same ↦ more_scopes.added k (subst (λ d. closes_at proof d ≡ Some k) (sym same) closes)
      | inr less ↦ more_scopes.stays k (h.scope c k (omega arith) (old_kept c less e) closes)
    ];
    assumes = λ c k j behind e closes is. elim (eq-or-lt_of_le behind) [
      | inl same ↦ more.added j (inl (sym same))
      | inr less ↦ more.stays j (h.assumes c k j (omega arith) (old_kept c (let b = is.before in omega arith) e) closes is)
    ];
  }
    where
      here : IsReached proof from i
      here = reached_now now

      old_kept : (c : ℕ) → i < c → is_kept m' c ≡ true → is_kept m c ≡ true
      old_kept c less e =
          elim (more.only c e) [
            | inl old ↦ old
            | inr new ↦ elim new [ inl same ↦ absurd (omega arith) | inr u ↦ absurd (let b = under_before proof formed i within c u in omega arith) ]
          ]

  pub passed : (is_kept m i || (is_assume (rule_at proof i) && is_kept s (scope_at proof i))) ≡ false → AreMarksFrom proof from i m s
  passed now = record {
    count = h.count;
    start_marked = h.start_marked;
    reached = h.reached;
    closed = λ k e. let c = h.closed k e in record { closer = c.closer; behind = let b = c.behind in omega arith; reached = c.reached; closes = c.closes };
    under = λ c j behind e u. h.under c j (behind_it c behind e) e u;
    scope = λ c k behind e closes. h.scope c k (behind_it c behind e) e closes;
    assumes = λ c k j behind e closes is. elim (eq-or-lt_of_le behind) [
      | inl same ↦ absurd (none.1 (ap (λ d. is_assume (rule_at proof d)) same ∙ is.assume)
          (ap (λ d. is_kept s (scope_at proof d)) same ∙ (ap (is_kept s) is.scope ∙ h.scope c k (let b = is.before in omega arith) e closes)))
      | inr less ↦ h.assumes c k j (omega arith) e closes is
    ];
  }
    where
      none : (is_kept m i ≡ false) × (is_assume (rule_at proof i) ≡ true → is_kept s (scope_at proof i) ≡ true → ⊥)
      none = neither (is_kept m i) (is_assume (rule_at proof i)) (is_kept s (scope_at proof i)) now

      behind_it : (c : ℕ) → i ≤ c → is_kept m c ≡ true → i + 1 ≤ c
      behind_it c behind e =
          elim (eq-or-lt_of_le behind) [
            | inl same ↦ absurd (not_both (subst (λ d. is_kept m d ≡ true) (sym same) e) none.0)
            | inr less ↦ omega arith
          ]

-- all are gone through
pub all_are : (proof : ProofItems ℕ ℕ) (from i : ℕ) (m s : List Bool) → i ≡ 0 → AreMarksFrom proof from i m s → AreReachedMarks proof from m
all_are proof from i m s start_is h = record {
  count = h.count;
  each = λ j. (h.reached j, marked_all j);
}
  where
    rests : (c j : ℕ) → is_kept m c ≡ true → RestsOn proof c j → is_kept m j ≡ true
    rests c j e (on_premise has) = h.under c j (omega arith) e (inl has)
    rests c j e (on_last k closes last) = h.under c j (omega arith) e (inr (k, closes, last))
    rests c j e (on_assume k closes is) = h.assumes c k j (omega arith) e closes is

    reach : (rests : (c j : ℕ) → is_kept m c ≡ true → RestsOn proof c j → is_kept m j ≡ true) → (j : ℕ) → IsReached proof from j → is_kept m j ≡ true
    reach f _ start = h.start_marked
    reach f j (further c _ reached r) = f c j (reach f c reached) r

    marked_all : (j : ℕ) → IsReached proof from j → is_kept m j ≡ true
    marked_all j reached = reach rests j reached
