-- Private. Texts within the limits have a judgement: it is not so that they have none.
use Rattle.std.proofs.Common.{◌≡◌, ◌⊎◌, inl, inr, ℕ, zero, suc, ◌+◌, ◌<◌, List, [], ◌∷◌, length, slice_get, Some, refl, ap, subst, arith}
use Rattle.std.specs.Prelude.{All, Bool, Contains, Result, Ok, Err, OnOk, IfErr, ⊤}
use Rattle.std.proofs.lemmas.List.Elements.{All-nil, All-cons, All-tail, Contains-append_right}
use Rattle.sexpr.specs.declared.causes.Refusal.{Refusal}
use Rattle.sexpr.specs.Form.{HasForm, IsFormFault}
use Rattle.term_model.specs.Terms.{Var, Term}
use Rattle.rule_model.specs.declared.kinds.Kind.{Kind}
use Rattle.rule_model.specs.declared.rules.StepCause.{StepCause}
use Rattle.rule_model.specs.declared.statuses.Status.{Status}
use Rattle.rule_model.specs.declared.statuses.Verdict.{Verdict}
use Rattle.rule_model.specs.Conditions.{IsMetAt, IsTooWideAt}
use Rattle.rule_model.specs.Proofs.{ProofItems}
use Rattle.rule_model.specs.Reading.{rule_at}
use Rattle.rule_model.specs.Scopes.{commands_in}
use Rattle.rule_model.specs.Statuses.{Checking, MayAssume, kind_of_rule, IsStatusBy, IsStatusAt, Passes, IsFirstAt, ReachesEmpty, IsVerdict}
use Rattle.problem_text.specs.Problems.{StandsForProblem, IsFirstFault}
use Rattle.problem_text.specs.Scripts.{Script}
use Rattle.alethe_text.specs.ProofTexts.{StandsForProof, IsFirstProofFault}
use Rattle.alethe_text.specs.States.{ProofSettings}
use Rattle.command_words.specs.declared.request.Options.{Options}
use Rattle.judged_texts.specs.Judgement.{HasJudgement}
use Rattle.judged_texts.specs.Reading.{checking_of, settings_of}

-- it is not so that there is none
abbrev pub Surely : Type 0 → Type 0
Surely A = (A → ⊥) → ⊥

module _ {A : Type 0} where
  so : A → Surely A
  so a none = none a

  either_way : Surely (A ⊎ (A → ⊥))
  either_way none = none (inr (λ a. none (inl a)))

  then : {B : Type 0} → Surely A → (A → Surely B) → Surely B
  then h next none = h (λ a. next a none)

module _ (c : Checking) (proof : ProofItems Var Term) (i : ℕ) where
  abbrev Has : Kind → Type 0
  Has kind = (s : Status) × IsStatusBy kind c proof i s

  assumed : MayAssume c proof i ⊎ (MayAssume c proof i → ⊥) → Has Kind.Assumed
  assumed (inl may) = (Status.Ok, may)
  assumed (inr other) = (Status.Faulty StepCause.NotAsserted, other)

  met : (f : _) → (IsTooWideAt c.mode proof i → ⊥) → IsMetAt c.mode proof i ⊎ (IsMetAt c.mode proof i → ⊥) → Has (Kind.Judged f)
  met f narrow (inl is) = (Status.Ok, (narrow, is))
  met f narrow (inr fails) = (Status.Faulty StepCause.NotMet, (narrow, fails))

  judged : (f : _) → IsTooWideAt c.mode proof i ⊎ (IsTooWideAt c.mode proof i → ⊥) → Surely (Has (Kind.Judged f))
  judged f (inl wide) = so (Status.Wide, wide)
  judged f (inr narrow) = then either_way (λ is. so (met f narrow is))

  by_kind : (kind : Kind) → Surely (Has kind)
  by_kind Kind.Assumed = then either_way (λ is. so (assumed is))
  by_kind Kind.Unknown = so (Status.Faulty StepCause.UnknownRule, tt)
  by_kind Kind.Hole = so (Status.Hole, tt)
  by_kind (Kind.Judged f) = then either_way (judged f)

-- the statuses of so many commands from an index on
module _ (c : Checking) (proof : ProofItems Var Term) where
  abbrev AreFrom : ℕ → List Status → Type 0
  AreFrom i ss = (j : ℕ) (s : Status) → slice_get ss j ≡ Some s → IsStatusAt c proof (i + j) s

  one_more : (i : ℕ) (s : Status) (ss : List Status) → IsStatusAt c proof i s → AreFrom (suc i) ss → AreFrom i (s ∷ ss)
  one_more i s ss is are zero z e =
      let same : s ≡ z = cc in
      let here : i ≡ i + 0 = omega arith in
      subst (λ k. IsStatusAt c proof k z) here (subst (IsStatusAt c proof i) same is)
  one_more i s ss is are (suc j) z e =
      let there : suc i + j ≡ i + suc j = omega arith in
      subst (λ k. IsStatusAt c proof k z) there (are j z e)

  statuses_from : (n i : ℕ) → Surely ((ss : List Status) × (length ss ≡ n) × AreFrom i ss)
  statuses_from zero i = so ([], refl, λ j s e. absurd (cc))
  statuses_from (suc n) i =
      then (by_kind c proof i (kind_of_rule c (rule_at proof i))) (λ one.
      then (statuses_from n (suc i)) (λ others.
      so (one.0 ∷ others.0, ap suc others.1, one_more i one.0 others.0 one.1 others.2)))

  from_first : (ss : List Status) → AreFrom 0 ss → (j : ℕ) (s : Status) → slice_get ss j ≡ Some s → IsStatusAt c proof j s
  from_first ss are j s e = let place : 0 + j ≡ j = omega arith in subst (λ k. IsStatusAt c proof k s) place (are j s e)

-- ---- the verdict

abbrev Stop : List Status → Type 0
Stop ss = (i : ℕ) × (s : Status) × (Passes s → ⊥) × IsFirstAt ss i s

behind : (s : Status) (ss : List Status) → Passes s → Stop ss ⊎ All Passes ss → Stop (s ∷ ss) ⊎ All Passes (s ∷ ss)
behind s ss passes (inr all) = inr (All-cons Passes s ss passes all)
behind s ss passes (inl stop) = inl (suc stop.0, stop.1, stop.2, record { before = before; here = stop.3.here })
  where
    before : (k : ℕ) (z : Status) → k < suc stop.0 → slice_get (s ∷ ss) k ≡ Some z → Passes z
    before zero z less e = let same : s ≡ z = cc in subst Passes same passes
    before (suc k) z less e = stop.3.before k z (omega (arith, less)) e

at_once : (s : Status) (ss : List Status) → (Passes s → ⊥) → Stop (s ∷ ss)
at_once s ss stops = (0, s, stops, record { before = λ k z less. absurd (omega (arith, less)); here = refl })

first_stop : (ss : List Status) → Stop ss ⊎ All Passes ss
first_stop [] = inr (All-nil Passes)
first_stop (Status.Ok ∷ ss) = behind Status.Ok ss tt (first_stop ss)
first_stop (Status.Hole ∷ ss) = behind Status.Hole ss tt (first_stop ss)
first_stop (Status.Faulty cause ∷ ss) = inl (at_once (Status.Faulty cause) ss (λ p. p))
first_stop (Status.Wide ∷ ss) = inl (at_once Status.Wide ss (λ p. p))

no_hole : (ss : List Status) → All Passes ss → (Contains ss Status.Hole → ⊥) → All (λ s. s ≡ Status.Ok) ss
no_hole [] all none = All-nil (λ s. s ≡ Status.Ok)
no_hole (Status.Ok ∷ ss) all none =
    All-cons (λ s. s ≡ Status.Ok) Status.Ok ss refl
    (no_hole ss (All-tail Passes Status.Ok ss all) (λ h. none (Contains-append_right (Status.Ok ∷ []) ss Status.Hole h)))
no_hole (Status.Hole ∷ ss) all none = absurd (none (0, omega arith, refl))
no_hole (Status.Faulty cause ∷ ss) all none = absurd (all 0 Status.Ok (omega arith))
no_hole (Status.Wide ∷ ss) all none = absurd (all 0 Status.Ok (omega arith))

module _ (proof : ProofItems Var Term) (ss : List Status) where
  abbrev Comes : Type 0
  Comes = (v : Verdict) × IsVerdict ss proof v

  by_status : (i : ℕ) (s : Status) → (Passes s → ⊥) → IsFirstAt ss i s → Comes
  by_status i Status.Ok stops first = absurd (stops tt)
  by_status i Status.Hole stops first = absurd (stops tt)
  by_status i (Status.Faulty cause) stops first = (Verdict.InvalidAt i cause, first)
  by_status i Status.Wide stops first = (Verdict.Unknown i, first)

  by_holes : All Passes ss → ReachesEmpty proof → Contains ss Status.Hole ⊎ (Contains ss Status.Hole → ⊥) → Comes
  by_holes all reaches (inl hole) = (Verdict.Holey, (all, hole, reaches))
  by_holes all reaches (inr none) = (Verdict.Valid, (no_hole ss all none, reaches))

  by_reach : All Passes ss → ReachesEmpty proof ⊎ (ReachesEmpty proof → ⊥) → Surely Comes
  by_reach all (inl reaches) = then either_way (λ is. so (by_holes all reaches is))
  by_reach all (inr none) = so (Verdict.NoEmpty, (all, none))

  by_first : Stop ss ⊎ All Passes ss → Surely Comes
  by_first (inl stop) = so (by_status stop.0 stop.1 stop.2 stop.3)
  by_first (inr all) = then either_way (by_reach all)

-- ---- two texts

module _ (problem : List ℕ) (options : Options) (text : List ℕ) where
  abbrev Judged : Type 0
  Judged = HasJudgement problem options text

  checked : (script : Script) → StandsForProblem problem options.replaces_lets script
      → (p : ProofItems Var Term) × (after : Script) × StandsForProof text (settings_of options) script p after → Surely Judged
  checked script stands (p, after, read) =
      then (statuses_from (checking_of options script.assertions) p (commands_in p) 0) (λ of.
      then (by_first p of.0 (first_stop of.0)) (λ v.
      so (inr (inr (
        v.0,
        record {
          script = script;
          commands = p;
          after = after;
          statuses = of.0;
          problem_text = stands;
          proof_text = read;
          are = record { count = of.1; each = from_first (checking_of options script.assertions) p of.0 of.2 };
          verdict = v.1;
        },
      )))))

  read_proof : (script : Script) → StandsForProblem problem options.replaces_lets script
      → ((p : ProofItems Var Term) × (after : Script) × StandsForProof text (settings_of options) script p after)
      ⊎ ((r : Refusal) × IsFirstProofFault text (settings_of options) script r) → Surely Judged
  read_proof script stands (inl read) = checked script stands read
  read_proof script stands (inr fault) = so (inr (inl (script, fault.0, stands, fault.1)))

  abbrev JudgesProblem : Type 0
  JudgesProblem =
      (source : List ℕ) (replaces : Bool) → HasForm source
      → ((s : Script) × StandsForProblem source replaces s) ⊎ ((r : Refusal) × IsFirstFault source replaces r)

  abbrev JudgesProof : Type 0
  JudgesProof =
      (source : List ℕ) (settings : ProofSettings) (before : Script) → HasForm source
      → ((p : ProofItems Var Term) × (s : Script) × StandsForProof source settings before p s) ⊎ ((r : Refusal) × IsFirstProofFault source settings before r)

  module _ (judges_problem : JudgesProblem) (judges_proof : JudgesProof) where
    -- behind the problem's reading
    behind_problem : ((script : Script) → StandsForProblem problem options.replaces_lets script → Surely Judged)
        → ((s : Script) × StandsForProblem problem options.replaces_lets s) ⊎ ((r : Refusal) × IsFirstFault problem options.replaces_lets r) → Surely Judged
    behind_problem next (inl read) = next read.0 read.1
    behind_problem next (inr fault) = so (inl fault)

    pub some_judgement : (p q : Result ⊤ Refusal) → OnOk p (HasForm problem) → IfErr p (IsFormFault problem)
        → OnOk q (HasForm text) → IfErr q (IsFormFault text) → Surely Judged
    some_judgement (Err f) q formed fault formed' fault' = so (inl (f, inl fault))
    some_judgement (Ok u) (Err g) formed fault formed' fault' =
        behind_problem (λ script stands. so (inr (inl (script, g, stands, inl fault')))) (judges_problem problem options.replaces_lets formed)
    some_judgement (Ok u) (Ok w) formed fault formed' fault' =
        behind_problem (λ script stands. read_proof script stands (judges_proof text (settings_of options) script formed'))
        (judges_problem problem options.replaces_lets formed)
