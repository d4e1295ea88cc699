-- What was printed of filling shows what its status promises.
use Rattle.std.proofs.Common.{◌≡◌, ◌≢◌, ◌⊎◌, inl, inr, ℕ, Bool, true, false, List, Option, Some, if◌then◌else◌, refl, sym, ◌∙◌, ap, subst, arith}
use Rattle.std.specs.Io.KnownBytes.{Appends}
use Rattle.term_model.specs.Unsatisfiable.{Unsatisfiable}
use Rattle.rule_model.specs.declared.statuses.Verdict.{Verdict}
use Rattle.file_ports.specs.Faults.{HasRisen}
use Rattle.command_words.specs.CommandLine.{Asked}
use Rattle.command_words.specs.declared.request.Options.{Options}
use Rattle.judged_texts.specs.declared.judgement.Judgement.{Judgement}
use Rattle.judged_texts.specs.declared.judgement.Judgement.TheVariants.{Valid, Holey, NoEmptyClause, Faulty, TooWide, RefusedProblem, RefusedProof, PoolFull}
use Rattle.judged_texts.specs.Judgement.{IsCheckedAs, IsJudgement}
use Rattle.judged_texts.specs.Printed.{status_of_judgement}
use Rattle.hole_fillers.specs.Benches.{Seat}
use Rattle.filled_texts.specs.declared.holes.AskedHoles.{AskedHoles}
use Rattle.filled_texts.specs.Filled.{AreAsked}
use Rattle.filled_texts.specs.Printed.{are_filled}
use Rattle.carcara_cli.specs.declared.answer.Answer.{Answer}
use Rattle.carcara_cli.specs.declared.answer.Answer.TheVariants.{Usage, ReadFault, TooLong, Judged}
use Rattle.carcara_cli.specs.Exactness.{IsDefinedAnswer, IsSaid, SaySame}
use Rattle.carcara_cli.specs.Outcomes.{Outcome, answered, printed, status_of_outcome, text_of_outcome}
use Rattle.carcara_cli.specs.Printed.{status_of}
use Rattle.carcara_cli.specs.TopCall.{IsAnswerTo, IsJudgedOfFiles, IsOfFiles, IsPrinted, IsShownUnsatisfiable}
use Rattle.filling_cli.specs.Filling.{FillsTo, IsExactlyFilled, IsJudgedSo, IsSaidOfFilled}

-- what the laws below say
abbrev pub AreSound : Type 0
AreSound =
    (problem : List ℕ) (options : Options) (proof : List ℕ) (checked : IsCheckedAs problem options proof Verdict.Valid) →
    Unsatisfiable checked.script.assertions

abbrev pub AreFilledSound : Type 0
AreFilledSound =
    (problem : List ℕ) (options : Options) (proof : List ℕ) (old new : List Seat) (asked : AskedHoles) (filled : AreAsked problem options proof old new asked) →
    are_filled asked ≡ true → Unsatisfiable filled.checked.script.assertions

abbrev pub DefineOneAnswer : Type 0
DefineOneAnswer =
    (bits : ℕ) (content : List ℕ → Option (List ℕ)) (p : Asked) (a b : Answer) →
    IsDefinedAnswer bits content p a → IsDefinedAnswer bits content p b → SaySame a b

no_fault : (j : Judgement) → status_of_judgement j ≡ 5 → ⊥
no_fault Valid e = omega (arith, e)
no_fault (Holey holes) e = omega (arith, e)
no_fault NoEmptyClause e = omega (arith, e)
no_fault (Faulty id cause) e = omega (arith, e)
no_fault (TooWide id) e = omega (arith, e)
no_fault (RefusedProblem r) e = omega (arith, e)
no_fault (RefusedProof r) e = omega (arith, e)
no_fault PoolFull e = omega (arith, e)

either : (b : Bool) (n : ℕ) → n ≡ (if b then 0 else 2) → (n ≡ 0) ⊎ (n ≡ 2)
either true n e = inl e
either false n e = inr e

all_filled : (b : Bool) (n : ℕ) → n ≡ (if b then 0 else 2) → n ≡ 0 → b ≡ true
all_filled true n e zero = refl
all_filled false n e zero = absurd (omega (arith, e, zero))

module _ (bits : ℕ) (content : List ℕ → Option (List ℕ)) (before after : ℕ) (p : Asked) (old new : List Seat) where
  neither : (status n : ℕ) → (status ≡ 0) ⊎ (status ≡ 2) → status ≡ n → (n ≡ 0 → ⊥) → (n ≡ 2 → ⊥) → ⊥
  neither status n (inl e) is zero two = zero (sym is ∙ e)
  neither status n (inr e) is zero two = two (sym is ∙ e)

  fault_of : (o : Outcome) → FillsTo bits content before after p old new o → status_of_outcome o ≡ 5 → HasRisen before after
  fault_of (answered Usage) h e = absurd h
  fault_of (answered ReadFault) h e = h.1
  fault_of (answered TooLong) h e = absurd (omega (arith, e))
  fault_of (answered (Judged j)) h e = absurd (no_fault j e)
  fault_of (printed status text) h e =
      absurd (neither status 5 (either (are_filled h.is.asked) status h.is.is_status) e (λ x. omega (arith, x)) (λ x. omega (arith, x)))

  module _ (first last : Option (List ℕ)) (status : ℕ) (said : IsPrinted (FillsTo bits content before after p old new) first last status) where
    pub read_fault : status ≡ 5 → HasRisen before after
    read_fault five =
        let whole = said.whole (λ six. omega (arith, five, six)) (λ seven. omega (arith, five, seven)) in
        fault_of whole.outcome whole.may_come (sym whole.is_status ∙ five)

  module _ (sound : AreSound) (filled : AreFilledSound) where
    of_judged : (j : Judgement) → IsOfFiles (content p.problem) (content p.proof) (λ problem proof. IsJudgedSo problem p.options proof bits old new j) →
        status_of_judgement j ≡ 0 → IsShownUnsatisfiable p.options (content p.problem) (content p.proof)
    of_judged Valid h e = record {
      problem_text = h.problem_text;
      proof_text = h.proof_text;
      problem_told = h.problem_told;
      proof_told = h.proof_told;
      script = h.is.1.script;
      stands = h.is.1.problem_text;
      unsatisfiable = sound h.problem_text p.options h.proof_text h.is.1;
    }
    of_judged (Holey holes) h e = absurd (omega (arith, e))
    of_judged NoEmptyClause h e = absurd (omega (arith, e))
    of_judged (Faulty id cause) h e = absurd (omega (arith, e))
    of_judged (TooWide id) h e = absurd (omega (arith, e))
    of_judged (RefusedProblem r) h e = absurd (omega (arith, e))
    of_judged (RefusedProof r) h e = absurd (omega (arith, e))
    of_judged PoolFull h e = absurd (omega (arith, e))

    shown : (o : Outcome) → FillsTo bits content before after p old new o → status_of_outcome o ≡ 0 →
        IsShownUnsatisfiable p.options (content p.problem) (content p.proof)
    shown (answered Usage) h e = absurd h
    shown (answered ReadFault) h e = absurd (omega (arith, e))
    shown (answered TooLong) h e = absurd (omega (arith, e))
    shown (answered (Judged j)) h e = of_judged j h e
    shown (printed status text) h e = record {
      problem_text = h.problem_text;
      proof_text = h.proof_text;
      problem_told = h.problem_told;
      proof_told = h.proof_told;
      script = h.is.are.checked.script;
      stands = h.is.are.checked.problem_text;
      unsatisfiable = filled h.problem_text p.options h.proof_text old new h.is.asked h.is.are (all_filled (are_filled h.is.asked) status h.is.is_status e);
    }

    pub unsatisfiable : (first last : Option (List ℕ)) (status : ℕ) → IsPrinted (FillsTo bits content before after p old new) first last status →
        status ≡ 0 → IsShownUnsatisfiable p.options (content p.problem) (content p.proof)
    unsatisfiable first last status said zero =
        let whole = said.whole (λ six. omega (arith, zero, six)) (λ seven. omega (arith, zero, seven)) in
        shown whole.outcome whole.may_come (sym whole.is_status ∙ zero)

  -- EXACTNESS

  judged_of : (j : Judgement) → j ≢ PoolFull →
      IsOfFiles (content p.problem) (content p.proof) (λ problem proof. IsJudgedSo problem p.options proof bits old new j) →
      IsJudgedOfFiles bits p.options (content p.problem) (content p.proof) j
  judged_of j not_full h = record {
    problem_text = h.problem_text;
    proof_text = h.proof_text;
    problem_told = h.problem_told;
    proof_told = h.proof_told;
    problem_within = h.problem_within;
    proof_within = h.proof_within;
    judged = go j not_full h.is;
  }
    where
      go : (k : Judgement) → k ≢ PoolFull → IsJudgedSo h.problem_text p.options h.proof_text bits old new k → IsJudgement h.problem_text p.options h.proof_text bits k
      go Valid n x = x.1
      go (Holey holes) n x = absurd x.1
      go NoEmptyClause n x = x.1
      go (Faulty id cause) n x = x.1
      go (TooWide id) n x = x.1
      go (RefusedProblem r) n x = x.1
      go (RefusedProof r) n x = x.1
      go PoolFull n x = absurd (n refl)

  -- what is said of an answer is said of it where holes are filled
  said_too : (a : Answer) (first last : Option (List ℕ)) (status : ℕ) → IsSaid a first last status → IsSaidOfFilled a first last status
  said_too Usage first last status h = h
  said_too ReadFault first last status h = h
  said_too TooLong first last status h = h
  said_too (Judged Valid) first last status h = h
  said_too (Judged (Holey holes)) first last status h = inr h.0
  said_too (Judged NoEmptyClause) first last status h = h
  said_too (Judged (Faulty id cause)) first last status h = h
  said_too (Judged (TooWide id)) first last status h = h
  said_too (Judged (RefusedProblem r)) first last status h = h
  said_too (Judged (RefusedProof r)) first last status h = h
  said_too (Judged PoolFull) first last status h = h

  -- an answer with the status of `holey` is that
  said_of_holey : (a : Answer) (first last : Option (List ℕ)) (status : ℕ) → status_of a ≡ 2 → (status ≡ 0) ⊎ (status ≡ 2) → IsSaidOfFilled a first last status
  said_of_holey Usage first last status e h = absurd (omega (arith, e))
  said_of_holey ReadFault first last status e h = absurd (omega (arith, e))
  said_of_holey TooLong first last status e h = absurd (omega (arith, e))
  said_of_holey (Judged Valid) first last status e h = absurd (omega (arith, e))
  said_of_holey (Judged (Holey holes)) first last status e h = h
  said_of_holey (Judged NoEmptyClause) first last status e h = absurd (omega (arith, e))
  said_of_holey (Judged (Faulty id cause)) first last status e h = absurd (omega (arith, e))
  said_of_holey (Judged (TooWide id)) first last status e h = absurd (omega (arith, e))
  said_of_holey (Judged (RefusedProblem r)) first last status e h = absurd (omega (arith, e))
  said_of_holey (Judged (RefusedProof r)) first last status e h = absurd (omega (arith, e))
  said_of_holey (Judged PoolFull) first last status e h = absurd (omega (arith, e))

  module _ (one : DefineOneAnswer) (first last : Option (List ℕ)) (status : ℕ) (not_fault : status ≢ 5) (not_full : status ≢ 8)
      (a : Answer) (defined : IsDefinedAnswer bits content p a) where
    by_answer : (b : Answer) → IsAnswerTo bits content 0 0 (Some p) b → status ≡ status_of b → Appends first last (text_of_outcome (answered b)) →
        IsSaidOfFilled a first last status
    by_answer b h is text =
        let given : IsDefinedAnswer bits content p b = record { told = defined.told; answers = h; has_room = λ e. not_full (is ∙ ap status_of e) } in
        let same = one bits content p b a given defined in
        said_too a first last status (is ∙ same.status, subst (Appends first last) same.text text)

    exact_of : (o : Outcome) → FillsTo bits content before after p old new o → status ≡ status_of_outcome o → Appends first last (text_of_outcome o) →
        IsSaidOfFilled a first last status
    exact_of (answered Usage) h is text = absurd h
    exact_of (answered ReadFault) h is text = absurd (not_fault is)
    exact_of (answered TooLong) h is text = by_answer TooLong h.1 is text
    exact_of (answered (Judged j)) h is text =
        by_answer (Judged j) (judged_of j (λ e. not_full (is ∙ ap status_of_judgement e)) h) is text
    exact_of (printed code bytes) h is text =
        let holey : Judgement = Holey h.is.asked.holes in
        let given : IsDefinedAnswer bits content p (Judged holey) = record {
          told = defined.told;
          answers = record {
            problem_text = h.problem_text;
            proof_text = h.proof_text;
            problem_told = h.problem_told;
            proof_told = h.proof_told;
            problem_within = h.problem_within;
            proof_within = h.proof_within;
            judged = (h.is.are.checked, h.is.are.holes);
          };
          has_room = λ e. let bad : 2 ≡ 8 = ap status_of e in omega (arith, bad);
        } in
        let same = one bits content p (Judged holey) a given defined in
        said_of_holey a first last status (sym same.status) (either (are_filled h.is.asked) status (is ∙ h.is.is_status))

  pub exact : DefineOneAnswer → (first last : Option (List ℕ)) (status : ℕ) → IsPrinted (FillsTo bits content before after p old new) first last status →
      IsExactlyFilled bits content p first last status
  exact one first last status said not_fault not_failed not_memory not_full a defined =
      let whole = said.whole not_failed not_memory in
      exact_of one first last status not_fault not_full a defined whole.outcome whole.may_come whole.is_status whole.printed
