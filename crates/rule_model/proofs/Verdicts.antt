-- A command has one status, statuses come to one verdict, and a valid proof refutes the assertions.
use Rattle.std.proofs.Common.{◌≡◌, ◌<◌, ◌⊎◌, inl, inr, ℕ, zero, suc, List, [], ◌∷◌, length, slice_get, Some, IfSome, All, Contains, refl, sym, ◌∙◌, ap, subst, arith}
use Rattle.std.proofs.lemmas.List.Elements.{All-contains}
use Rattle.term_model.specs.Terms.{Var, Term}
use Rattle.term_model.specs.Unsatisfiable.{Unsatisfiable}
use Rattle.rule_model.specs.declared.kinds.Family.{Family}
use Rattle.rule_model.specs.declared.kinds.Kind.{Kind}
use Rattle.rule_model.specs.declared.rules.StepCause.{StepCause}
use Rattle.rule_model.specs.declared.statuses.Status.{Status}
use Rattle.rule_model.specs.declared.statuses.Verdict.{Verdict}
use Rattle.rule_model.specs.Commands.{lines_in}
use Rattle.rule_model.specs.Conditions.{IsMetAt, IsTooWideAt}
use Rattle.rule_model.specs.Proofs.{ProofItems}
use Rattle.rule_model.specs.Reading.{clause_of, clause_at, scope_at}
use Rattle.rule_model.specs.Scopes.{Nesting, outermost, inside, Scope, at, commands_in, scope_number}
use Rattle.rule_model.specs.Soundness.{IsJustified, AreJustifiedTo}
use Rattle.rule_model.specs.Statuses.{Checking, MayAssume, kind_of_rule, IsStatusBy, IsStatusAt, AreStatuses, Passes, IsFirstAt, IsVerdict}
use Rattle.rule_model.specs.Truth.{IsTrueWhere, IsTrueCommand, IsWellSortedProof}
use Rattle.rule_model.specs.WellFormed.{IsWellFormed}
use Rattle.rule_model.specs.Writing.{add_command}
use Rattle.rule_model.proofs.ContextLaws.{outermost_empty}
use Rattle.rule_model.proofs.LineReading.{clause_is, scope_is}
use Rattle.rule_model.proofs.Numbers.{lines_in_count}
use Rattle.rule_model.proofs.Soundness.{justified_are_true}
use Rattle.rule_model.proofs.Standing.{own_number}

-- what is said by a status of each kind of command
module _ (c : Checking) (proof : ProofItems Var Term) (i : ℕ) where
  hole_status : (s : Status) → IsStatusBy Kind.Hole c proof i s → s ≡ Status.Hole
  hole_status Status.Ok h = absurd h
  hole_status Status.Hole h = refl
  hole_status (Status.Faulty cause) h = absurd h
  hole_status Status.Wide h = absurd h

  unknown_status : (s : Status) → IsStatusBy Kind.Unknown c proof i s → s ≡ Status.Faulty StepCause.UnknownRule
  unknown_status Status.Ok h = absurd h
  unknown_status Status.Hole h = absurd h
  unknown_status (Status.Faulty StepCause.UnknownRule) h = refl
  unknown_status (Status.Faulty StepCause.NotMet) h = absurd h
  unknown_status (Status.Faulty StepCause.NotAsserted) h = absurd h
  unknown_status Status.Wide h = absurd h

  assumed_status : (s : Status) → IsStatusBy Kind.Assumed c proof i s → ((s ≡ Status.Ok) × MayAssume c proof i) ⊎ ((s ≡ Status.Faulty StepCause.NotAsserted) × ¬ MayAssume c proof i)
  assumed_status Status.Ok h = inl (refl, h)
  assumed_status Status.Hole h = absurd h
  assumed_status (Status.Faulty StepCause.UnknownRule) h = absurd h
  assumed_status (Status.Faulty StepCause.NotMet) h = absurd h
  assumed_status (Status.Faulty StepCause.NotAsserted) h = inr (refl, h)
  assumed_status Status.Wide h = absurd h

  -- a step that is judged is too wide, or it is not, and then it is met or not
  judged_status : (family : Family) (s : Status) → IsStatusBy (Kind.Judged family) c proof i s → ((s ≡ Status.Wide) × IsTooWideAt c.mode proof i) ⊎ ((¬ IsTooWideAt c.mode proof i) × (((s ≡ Status.Ok) × IsMetAt c.mode proof i) ⊎ ((s ≡ Status.Faulty StepCause.NotMet) × ¬ IsMetAt c.mode proof i)))
  judged_status family Status.Ok h = inr (h.0, inl (refl, h.1))
  judged_status family Status.Hole h = absurd h
  judged_status family (Status.Faulty StepCause.UnknownRule) h = absurd h
  judged_status family (Status.Faulty StepCause.NotMet) h = inr (h.0, inr (refl, h.1))
  judged_status family (Status.Faulty StepCause.NotAsserted) h = absurd h
  judged_status family Status.Wide h = inl (refl, h)

  one_of_two : {P : Type 0} (a b s z : Status) → ((s ≡ a) × P) ⊎ ((s ≡ b) × ¬ P) → ((z ≡ a) × P) ⊎ ((z ≡ b) × ¬ P) → s ≡ z
  one_of_two a b s z (inl (e, p)) (inl (f, q)) = e ∙ sym f
  one_of_two a b s z (inl (e, p)) (inr (f, n)) = absurd (n p)
  one_of_two a b s z (inr (e, n)) (inl (f, p)) = absurd (n p)
  one_of_two a b s z (inr (e, n)) (inr (f, m)) = e ∙ sym f

  one_of_three : (s z : Status) → ((s ≡ Status.Wide) × IsTooWideAt c.mode proof i) ⊎ ((¬ IsTooWideAt c.mode proof i) × (((s ≡ Status.Ok) × IsMetAt c.mode proof i) ⊎ ((s ≡ Status.Faulty StepCause.NotMet) × ¬ IsMetAt c.mode proof i))) → ((z ≡ Status.Wide) × IsTooWideAt c.mode proof i) ⊎ ((¬ IsTooWideAt c.mode proof i) × (((z ≡ Status.Ok) × IsMetAt c.mode proof i) ⊎ ((z ≡ Status.Faulty StepCause.NotMet) × ¬ IsMetAt c.mode proof i))) → s ≡ z
  one_of_three s z (inl (e, wide)) (inl (f, w)) = e ∙ sym f
  one_of_three s z (inl (e, wide)) (inr (n, rest)) = absurd (n wide)
  one_of_three s z (inr (n, rest)) (inl (f, wide)) = absurd (n wide)
  one_of_three s z (inr (n, h)) (inr (m, k)) = one_of_two Status.Ok (Status.Faulty StepCause.NotMet) s z h k

  status_by : (k : Kind) (s z : Status) → IsStatusBy k c proof i s → IsStatusBy k c proof i z → s ≡ z
  status_by Kind.Assumed s z h k = one_of_two Status.Ok (Status.Faulty StepCause.NotAsserted) s z (assumed_status s h) (assumed_status z k)
  status_by Kind.Hole s z h k = hole_status s h ∙ sym (hole_status z k)
  status_by Kind.Unknown s z h k = unknown_status s h ∙ sym (unknown_status z k)
  status_by (Kind.Judged family) s z h k = one_of_three s z (judged_status family s h) (judged_status family z k)

  pub one_status : (s z : Status) → IsStatusAt c proof i s → IsStatusAt c proof i z → s ≡ z
  one_status s z h k = status_by (kind_of_rule c _) s z h k

-- verdicts
module _ (statuses : List Status) where
  before_or_not : (i j : ℕ) → (i < j) ⊎ ((i ≡ j) ⊎ (j < i))
  before_or_not zero zero = inr (inl refl)
  before_or_not zero (suc j) = inl (omega arith)
  before_or_not (suc i) zero = inr (inr (omega arith))
  before_or_not (suc i) (suc j) =
      elim (before_or_not i j) [
        | inl h ↦ inl (omega (arith, h))
        | inr rest ↦ elim rest [ inl e ↦ inr (inl (ap suc e)) | inr h ↦ inr (inr (omega (arith, h))) ]
      ]

  first_same : (i j : ℕ) (s z : Status) → ¬ Passes s → ¬ Passes z → IsFirstAt statuses i s → IsFirstAt statuses j z → (i ≡ j) × (s ≡ z)
  first_same i j s z n m h k =
      elim (before_or_not i j) [
        | inl less ↦ absurd (n (k.before i s less h.here))
        | inr rest ↦ elim rest [
          | inl e ↦ (e, some_same (sym h.here ∙ (ap (slice_get statuses) e ∙ k.here)))
          | inr less ↦ absurd (m (h.before j z less k.here))
        ]
      ]
    where
      some_same : {a b : Status} → Some a ≡ Some b → a ≡ b
      some_same e = cc

  has : (ss : List Status) (i : ℕ) (s : Status) → slice_get ss i ≡ Some s → Contains ss s
  has [] i s e = absurd cc
  has (z ∷ ss) zero s e = (0, omega arith, some_same e)
    where
      some_same : {a b : Status} → Some a ≡ Some b → a ≡ b
      some_same e = cc
  has (z ∷ ss) (suc i) s e = let k = has ss i s e in (suc k.0, let w = k.1 in omega arith, k.2)

  first_passes : (i : ℕ) (s : Status) → All Passes statuses → IsFirstAt statuses i s → Passes s
  first_passes i s all h = All-contains Passes statuses s all (has statuses i s h.here)

  ok_passes : All (λ s. s ≡ Status.Ok) statuses → All Passes statuses
  ok_passes all k d within = subst Passes (sym (all k d within)) tt

  module _ {V T : Type 0} (proof : ProofItems V T) where
    invalid_same : (i j : ℕ) (a b : StepCause) → IsFirstAt statuses i (Status.Faulty a) → IsFirstAt statuses j (Status.Faulty b) → Verdict.InvalidAt i a ≡ Verdict.InvalidAt j b
    invalid_same i j a b h k =
        let same = first_same i j (Status.Faulty a) (Status.Faulty b) (λ p. p) (λ p. p) h k in
        ap (λ n. Verdict.InvalidAt n a) same.0 ∙ ap (Verdict.InvalidAt j) (cause_same same.1)
      where
        cause_same : {a b : StepCause} → Status.Faulty a ≡ Status.Faulty b → a ≡ b
        cause_same e = cc

    not_both : (i j : ℕ) (a : StepCause) → IsFirstAt statuses i (Status.Faulty a) → IsFirstAt statuses j Status.Wide → ⊥
    not_both i j a h k = other (first_same i j (Status.Faulty a) Status.Wide (λ p. p) (λ p. p) h k).1
      where
        other : Status.Faulty a ≡ Status.Wide → ⊥
        other e = cc

    no_hole : All (λ s. s ≡ Status.Ok) statuses → Contains statuses Status.Hole → ⊥
    no_hole all there = other (All-contains (λ s. s ≡ Status.Ok) statuses Status.Hole all there)
      where
        other : Status.Hole ≡ Status.Ok → ⊥
        other e = cc

    pub one_verdict : (v w : Verdict) → IsVerdict statuses proof v → IsVerdict statuses proof w → v ≡ w
    one_verdict (Verdict.InvalidAt i a) (Verdict.InvalidAt j b) h k = invalid_same i j a b h k
    one_verdict (Verdict.InvalidAt i a) (Verdict.Unknown j) h k = absurd (not_both i j a h k)
    one_verdict (Verdict.InvalidAt i a) Verdict.NoEmpty h k = absurd (first_passes i (Status.Faulty a) k.0 h)
    one_verdict (Verdict.InvalidAt i a) Verdict.Holey h k = absurd (first_passes i (Status.Faulty a) k.0 h)
    one_verdict (Verdict.InvalidAt i a) Verdict.Valid h k = absurd (first_passes i (Status.Faulty a) (ok_passes k.0) h)
    one_verdict (Verdict.Unknown i) (Verdict.InvalidAt j b) h k = absurd (not_both j i b k h)
    one_verdict (Verdict.Unknown i) (Verdict.Unknown j) h k = ap Verdict.Unknown (first_same i j Status.Wide Status.Wide (λ p. p) (λ p. p) h k).0
    one_verdict (Verdict.Unknown i) Verdict.NoEmpty h k = absurd (first_passes i Status.Wide k.0 h)
    one_verdict (Verdict.Unknown i) Verdict.Holey h k = absurd (first_passes i Status.Wide k.0 h)
    one_verdict (Verdict.Unknown i) Verdict.Valid h k = absurd (first_passes i Status.Wide (ok_passes k.0) h)
    one_verdict Verdict.NoEmpty (Verdict.InvalidAt j b) h k = absurd (first_passes j (Status.Faulty b) h.0 k)
    one_verdict Verdict.NoEmpty (Verdict.Unknown j) h k = absurd (first_passes j Status.Wide h.0 k)
    one_verdict Verdict.NoEmpty Verdict.NoEmpty h k = refl
    one_verdict Verdict.NoEmpty Verdict.Holey h k = absurd (h.1 k.2)
    one_verdict Verdict.NoEmpty Verdict.Valid h k = absurd (h.1 k.1)
    one_verdict Verdict.Holey (Verdict.InvalidAt j b) h k = absurd (first_passes j (Status.Faulty b) h.0 k)
    one_verdict Verdict.Holey (Verdict.Unknown j) h k = absurd (first_passes j Status.Wide h.0 k)
    one_verdict Verdict.Holey Verdict.NoEmpty h k = absurd (k.1 h.2)
    one_verdict Verdict.Holey Verdict.Holey h k = refl
    one_verdict Verdict.Holey Verdict.Valid h k = absurd (no_hole k.0 h.1)
    one_verdict Verdict.Valid (Verdict.InvalidAt j b) h k = absurd (first_passes j (Status.Faulty b) (ok_passes h.0) k)
    one_verdict Verdict.Valid (Verdict.Unknown j) h k = absurd (first_passes j Status.Wide (ok_passes h.0) k)
    one_verdict Verdict.Valid Verdict.NoEmpty h k = absurd (k.1 h.1)
    one_verdict Verdict.Valid Verdict.Holey h k = absurd (no_hole h.0 k.1)
    one_verdict Verdict.Valid Verdict.Valid h k = refl

-- a valid proof
pub some_at : {X : Type 0} (xs : List X) (k : ℕ) → k < length xs → (x : X) × (slice_get xs k ≡ Some x) × Contains xs x
some_at [] k h = absurd (omega arith)
some_at (x ∷ xs) zero h = (x, refl, (0, omega arith, refl))
some_at (x ∷ xs) (suc k) h = let s = some_at xs k (omega arith) in (s.0, s.1, (suc s.2.0, let w = s.2.1 in omega arith, s.2.2))

module _ (c : Checking) (proof : ProofItems Var Term) (formed : IsWellFormed proof) (sorted : IsWellSortedProof proof) where
  all_ok : (statuses : List Status) → AreStatuses c proof statuses → All (λ s. s ≡ Status.Ok) statuses → (j : ℕ) → j < commands_in proof → IsJustified c proof j
  all_ok statuses are all j within =
      let count = are.count in
      let s = some_at statuses j (omega arith) in
      inl (subst (IsStatusAt c proof j) (All-contains (λ s. s ≡ Status.Ok) statuses s.0 all s.2) (are.each j s.0 s.1))

  empty_here : (scope : Scope Var Term) (clause : List Term) → scope_number scope.nesting ≡ 0 → clause ≡ [] → IsTrueWhere c.assertions scope clause → Unsatisfiable c.assertions
  empty_here scope clause number empty is = go scope.nesting scope.items number (subst (IsTrueWhere c.assertions scope) empty is)
    where
      go : (nesting : Nesting Var Term) (items : ProofItems Var Term) → scope_number nesting ≡ 0 → IsTrueWhere c.assertions (at nesting items) [] → Unsatisfiable c.assertions
      go outermost items e h = outermost_empty c.assertions h
      go (inside around before anchor) items e h = absurd (omega arith)

  pub empty_refutes : (i : ℕ) → i < commands_in proof → AreJustifiedTo c proof i → scope_at proof i ≡ 0 → clause_at proof i ≡ [] → Unsatisfiable c.assertions
  empty_refutes i within just number empty =
      let count = lines_in_count outermost proof in
      let l = some_at (lines_in outermost proof) i (omega arith) in
      empty_here (add_command l.0.scope l.0.command) (clause_of l.0.command)
      (own_number l.0.scope.nesting l.0.scope.items l.0.command ∙ (sym (scope_is proof i l.0 l.1) ∙ number))
      (sym (clause_is proof i l.0 l.1) ∙ empty)
      (subst (λ o. IfSome o (IsTrueCommand c.assertions)) l.1 (justified_are_true c proof formed sorted i just))

  pub valid_refutes : (statuses : List Status) → AreStatuses c proof statuses → IsVerdict statuses proof Verdict.Valid → Unsatisfiable c.assertions
  valid_refutes statuses are valid =
      let e = valid.1 in
      let within = e.within in
      empty_refutes e.index e.within (λ j h. all_ok statuses are valid.0 j (omega arith)) e.scope e.empty
