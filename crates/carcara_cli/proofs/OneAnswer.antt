-- The words and the files define one answer.
use Rattle.std.proofs.Common.{◌≡◌, ◌≢◌, ◌⊎◌, inl, inr, ◌≤◌, ℕ, suc, List, [], ◌∷◌, ◌++◌, Bool, map, length, slice_get, Option, Some, None, refl, sym, ◌∙◌, ap, subst, arith}
use Rattle.std.specs.Prelude.{codes, decimal}
use Rattle.std.specs.Io.KnownBytes.{Appends}
use Rattle.std.specs.List.{flat_map}
use Rattle.sexpr.specs.declared.causes.Refusal.{Refusal}
use Rattle.sexpr.specs.Printing.{printed_symbol}
use Rattle.term_model.specs.Terms.{Var, Term}
use Rattle.rule_model.specs.declared.statuses.Status.{Status}
use Rattle.rule_model.specs.declared.statuses.Verdict.{Verdict}
use Rattle.rule_model.specs.Proofs.{ProofItems}
use Rattle.rule_model.specs.Reading.{id_at}
use Rattle.rule_model.specs.Scopes.{commands_in}
use Rattle.rule_model.specs.Statuses.{Checking, IsStatusAt, AreStatuses, IsVerdict}
use Rattle.problem_text.specs.Problems.{StandsForProblem, IsFirstFault}
use Rattle.problem_text.specs.Scripts.{Script}
use Rattle.alethe_text.specs.ProofTexts.{StandsForProof, IsFirstProofFault}
use Rattle.alethe_text.specs.States.{ProofSettings}
use Rattle.command_words.specs.declared.request.Options.{Options}
use Rattle.command_words.specs.CommandLine.{Asked}
use Rattle.carcara_cli.specs.declared.answer.Answer.{Answer}
use Rattle.carcara_cli.specs.declared.answer.Answer.TheVariants.{Usage, ReadFault, TooLong, Judged}
use Rattle.judged_texts.specs.declared.judgement.Hole as code
use Rattle.judged_texts.specs.declared.judgement.Judgement.{Judgement}
use Rattle.judged_texts.specs.declared.judgement.Judgement.TheVariants.{Valid, Holey, NoEmptyClause, Faulty, TooWide, RefusedProblem, RefusedProof, PoolFull}
use Rattle.elaborated_texts.specs.Elaborated.{IsElaboratedText, IsStatusOfPrinted}
use Rattle.pruned_texts.specs.declared.needing.Part.{Part}
use Rattle.pruned_texts.specs.declared.needing.Part.TheVariants as part
use Rattle.pruned_texts.specs.Needed.{IsNeededText}
use Rattle.generated_texts.specs.declared.summarizing.Summary.{Summary}
use Rattle.generated_texts.specs.Cells.{HasCells}
use Rattle.generated_texts.specs.Standing.{standing_in}
use Rattle.generated_texts.specs.Summaries.{IsOfProof, IsSummary, text_of_summary}
use Rattle.carcara_cli.specs.OwnTexts.{Own, elaboration, needed, IsOwnText, IsSaidInsteadBy}
use Rattle.carcara_cli.specs.Exactness.{IsDefinedAnswer, IsSaidByOwn, IsSaidOfElaborated, IsSaidOfNeeded, SaySame}
use Rattle.judged_texts.specs.Holes.{Hole, holes_from, told_hole}
use Rattle.judged_texts.specs.Judgement.{IsCheckedAs, IsJudgement}
use Rattle.judged_texts.specs.Texts.{IsNotRead}
use Rattle.judged_texts.specs.Printed.{line_end, text_of_step_cause, step_text, hole_line, refusal_text, text_of_judgement, status_of_judgement}
use Rattle.carcara_cli.specs.Printed.{status_of, text_of}
use Rattle.carcara_cli.specs.Outcomes.{Outcome, answered, printed, status_of_outcome, text_of_outcome}
use Rattle.judged_texts.specs.Reading.{checking_of, settings_of}
use Rattle.judged_texts.specs.Reading.{most_bytes}
use Rattle.carcara_cli.specs.TopCall.{IsTooLong, IsJudgedOfFiles, IsAnswerInstead, IsAnswerTo, IsOfFiles, OwnTo}

same_lists : (ss zs : List Status) → length ss ≡ length zs → ((i : ℕ) (s z : Status) → slice_get ss i ≡ Some s → slice_get zs i ≡ Some z → s ≡ z) → ss ≡ zs
same_lists [] [] e h = refl
same_lists [] (z ∷ zs) e h = absurd (omega (arith, e))
same_lists (s ∷ ss) [] e h = absurd (omega (arith, e))
same_lists (s ∷ ss) (z ∷ zs) e h =
    ap (λ x. x ∷ ss) (h 0 s z refl refl) ∙ ap (λ xs. z ∷ xs) (same_lists ss zs (omega (arith, e)) (λ i a b f g. h (suc i) a b f g))

-- the line of a hole, by its id and its word
line_of : Hole → List ℕ
line_of h = codes "hole " ++ (printed_symbol h.id ++ (codes " " ++ (printed_symbol h.rule ++ line_end)))

lines_are : (holes : List code.Hole) → flat_map hole_line holes ≡ flat_map line_of (map told_hole holes)
unfolding line_of
lines_are [] = refl
lines_are (h ∷ holes) = ap (λ l. hole_line h ++ l) (lines_are holes)

-- how a verdict is printed, over the commands and their statuses
verdict_text : ProofItems Var Term → List Status → Verdict → List ℕ
verdict_text commands statuses Verdict.Valid = codes "valid" ++ line_end
verdict_text commands statuses Verdict.Holey = codes "holey" ++ (line_end ++ flat_map line_of (holes_from commands 0 statuses))
verdict_text commands statuses Verdict.NoEmpty = codes "invalid" ++ (line_end ++ (codes "no empty clause" ++ line_end))
verdict_text commands statuses (Verdict.InvalidAt i cause) = step_text (codes "invalid") (id_at commands i) (text_of_step_cause cause)
verdict_text commands statuses (Verdict.Unknown i) = step_text (codes "unknown") (id_at commands i) (codes "too wide")

verdict_status : Verdict → ℕ
verdict_status Verdict.Valid = 0
verdict_status Verdict.Holey = 2
verdict_status Verdict.NoEmpty = 1
verdict_status (Verdict.InvalidAt i cause) = 1
verdict_status (Verdict.Unknown i) = 4

-- the answer to a check of two files that are both read
abbrev IsAnswerOf : ℕ → Options → Option (List ℕ) → Option (List ℕ) → Answer → Type 0
IsAnswerOf bits options problem proof Usage = ⊥
IsAnswerOf bits options problem proof ReadFault = ⊥
IsAnswerOf bits options problem proof TooLong = IsTooLong problem proof
IsAnswerOf bits options problem proof (Judged j) = IsJudgedOfFiles bits options problem proof j

-- where no fault rose, both files were read
read_both : (bits : ℕ) (content : List ℕ → Option (List ℕ)) (p : Asked) (a : Answer) → IsAnswerTo bits content 0 0 (Some p) a
    → IsAnswerOf bits p.options (content p.problem) (content p.proof) a
read_both bits content p Usage h = h
read_both bits content p ReadFault h = absurd (omega (arith, h))
read_both bits content p TooLong h = h
read_both bits content p (Judged j) h = h

-- ---- where a proof is to be elaborated

neither_status : (n : ℕ) → n ≢ 0 → n ≢ 2 → (n ≡ 0) ⊎ (n ≡ 2) → ⊥
neither_status n zero two (inl e) = zero e
neither_status n zero two (inr e) = two e

printed_status : (v : Verdict) (status : ℕ) → IsStatusOfPrinted v status → verdict_status v ≡ status
unfolding verdict_status
printed_status Verdict.Valid status e = sym e
printed_status Verdict.Holey status e = sym e
printed_status Verdict.NoEmpty status e = absurd e
printed_status (Verdict.InvalidAt i cause) status e = absurd e
printed_status (Verdict.Unknown i) status e = absurd e

pub printed_or : (v : Verdict) (status : ℕ) → IsStatusOfPrinted v status → (status ≡ 0) ⊎ (status ≡ 2)
printed_or Verdict.Valid status e = inl e
printed_or Verdict.Holey status e = inr e
printed_or Verdict.NoEmpty status e = absurd e
printed_or (Verdict.InvalidAt i cause) status e = absurd e
printed_or (Verdict.Unknown i) status e = absurd e

-- the statuses with which a text of its own is printed
abbrev pub IsOwnStatus : Own → ℕ → Type 0
IsOwnStatus elaboration n = (n ≡ 0) ⊎ (n ≡ 2)
IsOwnStatus (needed part) n = n ≡ 0

not_own : (own : Own) (n : ℕ) → n ≢ 0 → n ≢ 2 → IsOwnStatus own n → ⊥
not_own elaboration n zero two is = neither_status n zero two is
not_own (needed part) n zero two is = zero is

never_valid : (own : Own) (problem : List ℕ) (options : Options) (proof : List ℕ) (bits : ℕ) → IsSaidInsteadBy own problem options proof bits Valid → ⊥
never_valid elaboration problem options proof bits h = h
never_valid (needed part) problem options proof bits h = h

never_judged : (own : Own) (problem : List ℕ) (options : Options) (proof : List ℕ) (bits : ℕ) (j : Judgement) → IsSaidInsteadBy own problem options proof bits j
    → IsOwnStatus own (status_of_judgement j) → ⊥
never_judged own problem options proof bits Valid h is = never_valid own problem options proof bits h
never_judged elaboration problem options proof bits (Holey holes) h is = absurd h
never_judged (needed part) problem options proof bits (Holey holes) h is = omega (arith, is)
never_judged own problem options proof bits NoEmptyClause h is = not_own own 1 (λ x. omega (arith, x)) (λ x. omega (arith, x)) is
never_judged own problem options proof bits (Faulty id cause) h is = not_own own 1 (λ x. omega (arith, x)) (λ x. omega (arith, x)) is
never_judged own problem options proof bits (TooWide id) h is = not_own own 4 (λ x. omega (arith, x)) (λ x. omega (arith, x)) is
never_judged own problem options proof bits (RefusedProblem r) h is = not_own own 3 (λ x. omega (arith, x)) (λ x. omega (arith, x)) is
never_judged own problem options proof bits (RefusedProof r) h is = not_own own 3 (λ x. omega (arith, x)) (λ x. omega (arith, x)) is
never_judged own problem options proof bits PoolFull h is = not_own own 8 (λ x. omega (arith, x)) (λ x. omega (arith, x)) is

-- what is said instead has not the status of a text that is printed
pub never_printed : (own : Own) (bits : ℕ) (content : List ℕ → Option (List ℕ)) (before after : ℕ) (p : Asked) (b : Answer)
    → IsAnswerInstead own bits content before after p b → IsOwnStatus own (status_of b) → ⊥
never_printed own bits content before after p (Judged j) h is = never_judged own h.problem_text p.options h.proof_text bits j h.is is
never_printed own bits content before after p Usage h is = absurd h
never_printed own bits content before after p ReadFault h is = not_own own 5 (λ x. omega (arith, x)) (λ x. omega (arith, x)) is
never_printed own bits content before after p TooLong h is = not_own own 9 (λ x. omega (arith, x)) (λ x. omega (arith, x)) is

-- of files that are told
told_files : (x y : Option (List ℕ)) (problem proof : List ℕ) (Is : List ℕ → List ℕ → Type 0) → x ≡ Some problem → y ≡ Some proof → IsOfFiles x y Is
    → Is problem proof × (length problem ≤ most_bytes) × (length proof ≤ most_bytes)
told_files x y problem proof Is first second h = go (subst (λ z. IsOfFiles z (Some proof) Is) first (subst (λ z. IsOfFiles x z Is) second h))
  where
    go : IsOfFiles (Some problem) (Some proof) Is → Is problem proof × (length problem ≤ most_bytes) × (length proof ≤ most_bytes)
    go k = (
      subst (λ z. Is problem z) k.proof_told (subst (λ z. Is z k.proof_text) k.problem_told k.is),
      subst (λ (z : List ℕ). length z ≤ most_bytes) k.problem_told k.problem_within,
      subst (λ (z : List ℕ). length z ≤ most_bytes) k.proof_told k.proof_within,
    )

module _
    (one_script : (source : List ℕ) (replaces : Bool) (s t : Script) → StandsForProblem source replaces s → StandsForProblem source replaces t → s ≡ t)
    (one_fault : (source : List ℕ) (replaces : Bool) (r q : Refusal) → IsFirstFault source replaces r → IsFirstFault source replaces q → r ≡ q)
    (not_both : (source : List ℕ) (replaces : Bool) (s : Script) (r : Refusal) → StandsForProblem source replaces s → IsFirstFault source replaces r → ⊥)
    (one_proof : (source : List ℕ) (settings : ProofSettings) (before : Script) (p q : ProofItems Var Term) (s t : Script) → StandsForProof source settings before p s → StandsForProof source settings before q t → (p ≡ q) × (s ≡ t))
    (one_proof_fault : (source : List ℕ) (settings : ProofSettings) (before : Script) (r q : Refusal) → IsFirstProofFault source settings before r → IsFirstProofFault source settings before q → r ≡ q)
    (not_both_proof : (source : List ℕ) (settings : ProofSettings) (before : Script) (p : ProofItems Var Term) (s : Script) (r : Refusal) → StandsForProof source settings before p s → IsFirstProofFault source settings before r → ⊥)
    (one_status : (c : Checking) (proof : ProofItems Var Term) (i : ℕ) (s z : Status) → IsStatusAt c proof i s → IsStatusAt c proof i z → s ≡ z)
    (one_verdict : (statuses : List Status) (proof : ProofItems Var Term) (v w : Verdict) → IsVerdict statuses proof v → IsVerdict statuses proof w → v ≡ w) where
  module _ (problem : List ℕ) (options : Options) (proof : List ℕ) where
    -- of two checks of the texts
    module _ (v w : Verdict) (a : IsCheckedAs problem options proof v) (b : IsCheckedAs problem options proof w) where
      same_script : a.script ≡ b.script
      same_script = one_script problem options.replaces_lets a.script b.script a.problem_text b.problem_text

      same_commands : a.commands ≡ b.commands
      same_commands =
          (one_proof proof (settings_of options) b.script a.commands b.commands a.after b.after
          (subst (λ s. StandsForProof proof (settings_of options) s a.commands a.after) same_script a.proof_text) b.proof_text).0

      moved : AreStatuses (checking_of options b.script.assertions) b.commands a.statuses
      moved =
          subst (λ c. AreStatuses (checking_of options b.script.assertions) c a.statuses) same_commands
          (subst (λ (s : Script). AreStatuses (checking_of options s.assertions) a.commands a.statuses) same_script a.are)

      same_statuses : a.statuses ≡ b.statuses
      same_statuses =
          same_lists a.statuses b.statuses (moved.count ∙ sym b.are.count)
          (λ i s z e f. one_status (checking_of options b.script.assertions) b.commands i s z (moved.each i s e) (b.are.each i z f))

      same_verdict : v ≡ w
      same_verdict =
          one_verdict b.statuses b.commands v w
          (subst (λ c. IsVerdict b.statuses c v) same_commands (subst (λ ss. IsVerdict ss a.commands v) same_statuses a.verdict)) b.verdict

      same_text : verdict_text a.commands a.statuses v ≡ verdict_text b.commands b.statuses w
      same_text =
          ap (λ c. verdict_text c a.statuses v) same_commands
          ∙ (ap (λ ss. verdict_text b.commands ss v) same_statuses ∙ ap (λ x. verdict_text b.commands b.statuses x) same_verdict)

    -- what a judgement comes to: a verdict, or the refusal of one of the texts
    data Becomes (status : ℕ) (text : List ℕ) : Type 0 where
      by_verdict : (v : Verdict) (a : IsCheckedAs problem options proof v) → status ≡ verdict_status v → text ≡ verdict_text a.commands a.statuses v → Becomes status text
      by_problem : (r : Refusal) → IsFirstFault problem options.replaces_lets r → status ≡ 3 → text ≡ refusal_text (codes "problem ") r → Becomes status text
      by_proof : (sc : Script) (r : Refusal) → StandsForProblem problem options.replaces_lets sc → IsFirstProofFault proof (settings_of options) sc r →
          status ≡ 3 → text ≡ refusal_text (codes "proof ") r → Becomes status text

    comes : (bits : ℕ) (j : Judgement) → IsJudgement problem options proof bits j → j ≢ PoolFull → Becomes (status_of_judgement j) (text_of_judgement j)
    unfolding verdict_text verdict_status
    comes bits Valid h room = by_verdict Verdict.Valid h refl refl
    comes bits (Holey holes) h room =
        by_verdict Verdict.Holey h.0 refl (ap (λ l. codes "holey" ++ (line_end ++ l)) (lines_are holes.items ∙ ap (flat_map line_of) h.1))
    comes bits NoEmptyClause h room = by_verdict Verdict.NoEmpty h refl refl
    comes bits (Faulty id cause) h room =
        by_verdict (Verdict.InvalidAt h.0 cause) h.1 refl (ap (λ l. step_text (codes "invalid") l (text_of_step_cause cause)) h.2)
    comes bits (TooWide id) h room =
        by_verdict (Verdict.Unknown h.0) h.1 refl (ap (λ l. step_text (codes "unknown") l (codes "too wide")) h.2)
    comes bits (RefusedProblem r) h room = by_problem r h refl refl
    comes bits (RefusedProof r) h room = by_proof h.0 r h.1 h.2 refl refl
    comes bits PoolFull h room = absurd (room refl)

    no_proof_fault : (v : Verdict) (a : IsCheckedAs problem options proof v) (sc : Script) (r : Refusal) → StandsForProblem problem options.replaces_lets sc → IsFirstProofFault proof (settings_of options) sc r → ⊥
    no_proof_fault v a sc r stands h =
        not_both_proof proof (settings_of options) sc a.commands a.after r
        (subst (λ s. StandsForProof proof (settings_of options) s a.commands a.after) (one_script problem options.replaces_lets a.script sc a.problem_text stands) a.proof_text) h

    one_coming : (m n : ℕ) (x y : List ℕ) → Becomes m x → Becomes n y → (m ≡ n) × (x ≡ y)
    one_coming m n x y (by_verdict v a e f) (by_verdict w b g h) =
        (e ∙ (ap verdict_status (same_verdict v w a b) ∙ sym g), f ∙ (same_text v w a b ∙ sym h))
    one_coming m n x y (by_verdict v a e f) (by_problem r fault g h) = absurd (not_both problem options.replaces_lets a.script r a.problem_text fault)
    one_coming m n x y (by_verdict v a e f) (by_proof sc r stands fault g h) = absurd (no_proof_fault v a sc r stands fault)
    one_coming m n x y (by_problem r fault e f) (by_verdict w b g h) = absurd (not_both problem options.replaces_lets b.script r b.problem_text fault)
    one_coming m n x y (by_problem r fault e f) (by_problem q other g h) =
        (e ∙ sym g, f ∙ (ap (refusal_text (codes "problem ")) (one_fault problem options.replaces_lets r q fault other) ∙ sym h))
    one_coming m n x y (by_problem r fault e f) (by_proof sc q stands other g h) = absurd (not_both problem options.replaces_lets sc r stands fault)
    one_coming m n x y (by_proof sc r stands fault e f) (by_verdict w b g h) = absurd (no_proof_fault w b sc r stands fault)
    one_coming m n x y (by_proof sc r stands fault e f) (by_problem q other g h) = absurd (not_both problem options.replaces_lets sc q stands other)
    one_coming m n x y (by_proof sc r stands fault e f) (by_proof sd q stands' other g h) = (
      e ∙ sym g,
      f
          ∙ (ap (refusal_text (codes "proof "))
          (one_proof_fault proof (settings_of options) sd r q
          (subst (λ s. IsFirstProofFault proof (settings_of options) s r) (one_script problem options.replaces_lets sc sd stands stands') fault) other)
          ∙ sym h),
    )

    pub one_judgement : (bits : ℕ) (j k : Judgement) → IsJudgement problem options proof bits j → IsJudgement problem options proof bits k → j ≢ PoolFull → k ≢ PoolFull
        → (status_of_judgement j ≡ status_of_judgement k) × (text_of_judgement j ≡ text_of_judgement k)
    one_judgement bits j k h l room room' = one_coming _ _ _ _ (comes bits j h room) (comes bits k l room')

    -- ---- where the proof is to be elaborated

    -- a judgement and a verdict of the same texts have one status
    verdict_agrees : (bits : ℕ) (j : Judgement) (v : Verdict) → IsCheckedAs problem options proof v → IsJudgement problem options proof bits j
        → j ≢ PoolFull → status_of_judgement j ≡ verdict_status v
    verdict_agrees bits j v checked h room = (one_coming _ _ _ _ (comes bits j h room) (by_verdict v checked refl refl)).0

    instead_is : (own : Own) (bits : ℕ) (j : Judgement) → IsSaidInsteadBy own problem options proof bits j → j ≢ PoolFull → IsJudgement problem options proof bits j
    instead_is own bits Valid h room = absurd (never_valid own problem options proof bits h)
    instead_is elaboration bits (Holey holes) h room = absurd h
    instead_is (needed part) bits (Holey holes) h room = h
    instead_is elaboration bits NoEmptyClause h room = h
    instead_is (needed part) bits NoEmptyClause h room = h
    instead_is elaboration bits (Faulty id cause) h room = h
    instead_is (needed part) bits (Faulty id cause) h room = h
    instead_is elaboration bits (TooWide id) h room = h
    instead_is (needed part) bits (TooWide id) h room = h
    instead_is elaboration bits (RefusedProblem r) h room = h
    instead_is (needed part) bits (RefusedProblem r) h room = h
    instead_is elaboration bits (RefusedProof r) h room = h
    instead_is (needed part) bits (RefusedProof r) h room = h
    instead_is own bits PoolFull h room = absurd (room refl)

  -- the judgement of two files whose bytes are told
  module _ (bits : ℕ) (options : Options) (problem proof : List ℕ) where
    of_told : (j : Judgement) → IsJudgedOfFiles bits options (Some problem) (Some proof) j → IsJudgement problem options proof bits j
    of_told j h = rw (h.problem_told, h.proof_told) at h.judged

    not_too_long : (j : Judgement) → IsJudgedOfFiles bits options (Some problem) (Some proof) j → IsTooLong (Some problem) (Some proof) → ⊥
    not_too_long j h (inl longer) = let within : length problem ≤ most_bytes = rw h.problem_told at h.problem_within in omega (arith, within, longer)
    not_too_long j h (inr both) = let within : length proof ≤ most_bytes = rw h.proof_told at h.proof_within in omega (arith, within, both.1)

    one_of_told : (a b : Answer) → IsAnswerOf bits options (Some problem) (Some proof) a → IsAnswerOf bits options (Some problem) (Some proof) b
        → a ≢ Judged PoolFull → b ≢ Judged PoolFull → SaySame a b
    one_of_told TooLong TooLong h k room room' = record { status = refl; text = refl }
    one_of_told TooLong (Judged j) h k room room' = absurd (not_too_long j k h)
    one_of_told (Judged j) TooLong h k room room' = absurd (not_too_long j h k)
    one_of_told (Judged i) (Judged j) h k room room' =
        let both = one_judgement problem options proof bits i j (of_told i h) (of_told j k) (λ e. room (ap Judged e)) (λ e. room' (ap Judged e)) in
        record { status = both.0; text = both.1 }
    one_of_told Usage b h k room room' = absurd h
    one_of_told ReadFault b h k room room' = absurd h
    one_of_told TooLong Usage h k room room' = absurd k
    one_of_told TooLong ReadFault h k room room' = absurd k
    one_of_told (Judged j) Usage h k room room' = absurd k
    one_of_told (Judged j) ReadFault h k room room' = absurd k

  one_of_files : (bits : ℕ) (options : Options) (x y : Option (List ℕ)) (a b : Answer) → x ≢ None → y ≢ None
      → IsAnswerOf bits options x y a → IsAnswerOf bits options x y b → a ≢ Judged PoolFull → b ≢ Judged PoolFull → SaySame a b
  one_of_files bits options None y a b told told' h k room room' = absurd (told refl)
  one_of_files bits options (Some problem) None a b told told' h k room room' = absurd (told' refl)
  one_of_files bits options (Some problem) (Some proof) a b told told' h k room room' = one_of_told bits options problem proof a b h k room room'

  -- the files define one answer, as far as it is printed
  pub one_answer : (bits : ℕ) (content : List ℕ → Option (List ℕ)) (p : Asked) (a b : Answer)
      → IsDefinedAnswer bits content p a → IsDefinedAnswer bits content p b → SaySame a b
  one_answer bits content p a b h k =
      one_of_files bits p.options (content p.problem) (content p.proof) a b h.told.0 h.told.1
      (read_both bits content p a h.answers) (read_both bits content p b k.answers) h.has_room k.has_room

  -- what a check of told files says, and what is said where a text of its own is printed of some
  module _ (bits : ℕ) (content : List ℕ → Option (List ℕ)) (p : Asked) (old new : Option (List ℕ)) where
    -- where an elaboration is printed
    of_status : (j : Judgement) (expected status : ℕ) → status_of_judgement j ≡ expected → (expected ≡ 0) ⊎ (expected ≡ 2)
        → status ≡ expected → IsSaidOfElaborated (Judged j) old new status
    of_status Valid expected status e is h = h ∙ sym e
    of_status (Holey holes) expected status e is h = h ∙ sym e
    of_status NoEmptyClause expected status e is h = absurd (neither_status 1 (λ x. omega (arith, x)) (λ x. omega (arith, x)) (rw (← e) at is))
    of_status (Faulty id cause) expected status e is h = absurd (neither_status 1 (λ x. omega (arith, x)) (λ x. omega (arith, x)) (rw (← e) at is))
    of_status (TooWide id) expected status e is h = absurd (neither_status 4 (λ x. omega (arith, x)) (λ x. omega (arith, x)) (rw (← e) at is))
    of_status (RefusedProblem r) expected status e is h = absurd (neither_status 3 (λ x. omega (arith, x)) (λ x. omega (arith, x)) (rw (← e) at is))
    of_status (RefusedProof r) expected status e is h = absurd (neither_status 3 (λ x. omega (arith, x)) (λ x. omega (arith, x)) (rw (← e) at is))
    of_status PoolFull expected status e is h = absurd (neither_status 8 (λ x. omega (arith, x)) (λ x. omega (arith, x)) (rw (← e) at is))

    module _ (problem proof : List ℕ) (first : content p.problem ≡ Some problem) (second : content p.proof ≡ Some proof) where
      by_check : (v : Verdict) (expected status : ℕ) → IsStatusOfPrinted v expected → IsCheckedAs problem p.options proof v → length problem ≤ most_bytes
          → length proof ≤ most_bytes → (a : Answer) → IsAnswerOf bits p.options (Some problem) (Some proof) a → a ≢ Judged PoolFull
          → status ≡ expected → IsSaidOfElaborated a old new status
      by_check v expected status is checked small low (Judged j) h room said =
          of_status j expected status
          (verdict_agrees problem p.options proof bits j v checked (of_told bits p.options problem proof j h) (λ e. room (ap Judged e))
          ∙ printed_status v expected is)
          (printed_or v expected is) said
      by_check v expected status is checked small low TooLong (inl longer) room said = absurd (omega (arith, small, longer))
      by_check v expected status is checked small low TooLong (inr both) room said = absurd (omega (arith, low, both.1))
      by_check v expected status is checked small low Usage h room said = absurd h
      by_check v expected status is checked small low ReadFault h room said = absurd h

      -- where what a valid proof needs is printed
      of_valid : (j : Judgement) (status : ℕ) → status_of_judgement j ≡ 0 → status ≡ 0 → IsSaidOfNeeded (Judged j) old new status
      of_valid Valid status e zero = zero
      of_valid (Holey holes) status e zero = absurd (omega (arith, e))
      of_valid NoEmptyClause status e zero = absurd (omega (arith, e))
      of_valid (Faulty id cause) status e zero = absurd (omega (arith, e))
      of_valid (TooWide id) status e zero = absurd (omega (arith, e))
      of_valid (RefusedProblem r) status e zero = absurd (omega (arith, e))
      of_valid (RefusedProof r) status e zero = absurd (omega (arith, e))
      of_valid PoolFull status e zero = absurd (omega (arith, e))

      by_valid : (status : ℕ) → status ≡ 0 → IsCheckedAs problem p.options proof Verdict.Valid → length problem ≤ most_bytes → length proof ≤ most_bytes
          → (a : Answer) → IsAnswerOf bits p.options (Some problem) (Some proof) a → a ≢ Judged PoolFull → IsSaidOfNeeded a old new status
      unfolding verdict_status
      by_valid status zero checked small low (Judged j) h room =
          of_valid j status (verdict_agrees problem p.options proof bits j Verdict.Valid checked (of_told bits p.options problem proof j h) (λ e. room (ap Judged e))) zero
      by_valid status zero checked small low TooLong (inl longer) room = absurd (omega (arith, small, longer))
      by_valid status zero checked small low TooLong (inr both) room = absurd (omega (arith, low, both.1))
      by_valid status zero checked small low Usage h room = absurd h
      by_valid status zero checked small low ReadFault h room = absurd h

      valid_of : (part : Part) (text : List ℕ) → IsNeededText part problem p.options proof text → IsCheckedAs problem p.options proof Verdict.Valid
      valid_of part.Core text h = h.refutation.checked
      valid_of part.Commands text h = h.refutation.checked

      -- what is said instead is said by a check
      answer_of : (own : Own) (b : Answer) → IsAnswerInstead own bits content 0 0 p b → b ≢ Judged PoolFull → IsAnswerOf bits p.options (Some problem) (Some proof) b
      answer_of own (Judged j) h room =
          record {
            problem_text = h.problem_text;
            proof_text = h.proof_text;
            problem_told = rw first at h.problem_told;
            proof_told = rw second at h.proof_told;
            problem_within = h.problem_within;
            proof_within = h.proof_within;
            judged = instead_is h.problem_text p.options h.proof_text own bits j h.is (λ e. room (ap Judged e));
          }
      answer_of own TooLong h room = let told : IsTooLong (Some problem) (Some proof) = rw (first, second) at h in told
      answer_of own ReadFault h room = absurd (omega (arith, h))
      answer_of own Usage h room = absurd h

      same_valid : (own : Own) (b : Answer) → IsAnswerInstead own bits content 0 0 p b → status_of b ≡ 0 → ⊥
      same_valid elaboration b h e = never_printed elaboration bits content 0 0 p b h (inl e)
      same_valid (needed part) b h e = never_printed (needed part) bits content 0 0 p b h e

      same_said : (own : Own) (a b : Answer) → IsAnswerInstead own bits content 0 0 p b → SaySame b a → Appends old new (text_of b)
          → IsSaidByOwn own a old new (status_of b)
      same_said own (Judged Valid) b h same text = absurd (same_valid own b h same.status)
      same_said elaboration (Judged (Holey holes)) b h same text = absurd (never_printed elaboration bits content 0 0 p b h (inr same.status))
      same_said (needed part) (Judged (Holey holes)) b h same text = (same.status, subst (Appends old new) same.text text)
      same_said elaboration (Judged NoEmptyClause) b h same text = (same.status, subst (Appends old new) same.text text)
      same_said (needed part) (Judged NoEmptyClause) b h same text = (same.status, subst (Appends old new) same.text text)
      same_said elaboration (Judged (Faulty id cause)) b h same text = (same.status, subst (Appends old new) same.text text)
      same_said (needed part) (Judged (Faulty id cause)) b h same text = (same.status, subst (Appends old new) same.text text)
      same_said elaboration (Judged (TooWide id)) b h same text = (same.status, subst (Appends old new) same.text text)
      same_said (needed part) (Judged (TooWide id)) b h same text = (same.status, subst (Appends old new) same.text text)
      same_said elaboration (Judged (RefusedProblem r)) b h same text = (same.status, subst (Appends old new) same.text text)
      same_said (needed part) (Judged (RefusedProblem r)) b h same text = (same.status, subst (Appends old new) same.text text)
      same_said elaboration (Judged (RefusedProof r)) b h same text = (same.status, subst (Appends old new) same.text text)
      same_said (needed part) (Judged (RefusedProof r)) b h same text = (same.status, subst (Appends old new) same.text text)
      same_said elaboration (Judged PoolFull) b h same text = (same.status, subst (Appends old new) same.text text)
      same_said (needed part) (Judged PoolFull) b h same text = (same.status, subst (Appends old new) same.text text)
      same_said elaboration Usage b h same text = (same.status, subst (Appends old new) same.text text)
      same_said (needed part) Usage b h same text = (same.status, subst (Appends old new) same.text text)
      same_said elaboration ReadFault b h same text = (same.status, subst (Appends old new) same.text text)
      same_said (needed part) ReadFault b h same text = (same.status, subst (Appends old new) same.text text)
      same_said elaboration TooLong b h same text = (same.status, subst (Appends old new) same.text text)
      same_said (needed part) TooLong b h same text = (same.status, subst (Appends old new) same.text text)

      said_of : (own : Own) (a : Answer) → IsAnswerOf bits p.options (Some problem) (Some proof) a → a ≢ Judged PoolFull → (o : Outcome)
          → OwnTo own bits content 0 0 p o → o ≢ answered (Judged PoolFull) → Appends old new (text_of_outcome o)
          → IsSaidByOwn own a old new (status_of_outcome o)
      said_of own a h room (answered b) k other text =
          same_said own a b k (one_of_told bits p.options problem proof b a (answer_of own b k (λ e. other (ap answered e))) h (λ e. other (ap answered e)) room) text
      said_of elaboration a h room (printed status bytes) k other text =
          let all : IsElaboratedText problem p.options proof status bytes × (length problem ≤ most_bytes) × (length proof ≤ most_bytes) =
          told_files (content p.problem) (content p.proof) problem proof (λ x y. IsElaboratedText x p.options y status bytes) first second k in
          by_check all.0.verdict status status all.0.is_status all.0.checked all.1 all.2 a h room refl
      said_of (needed part) a h room (printed status bytes) k other text =
          let all : IsOwnText (needed part) problem p.options proof status bytes × (length problem ≤ most_bytes) × (length proof ≤ most_bytes) =
          told_files (content p.problem) (content p.proof) problem proof (λ x y. IsOwnText (needed part) x p.options y status bytes) first second k in
          by_valid status all.0.0 (valid_of part bytes all.0.1) all.1 all.2 a h room

    from_told : (own : Own) (x y : Option (List ℕ)) → content p.problem ≡ x → content p.proof ≡ y → x ≢ None → y ≢ None → (a : Answer)
        → IsAnswerOf bits p.options x y a → a ≢ Judged PoolFull → (o : Outcome) → OwnTo own bits content 0 0 p o → o ≢ answered (Judged PoolFull)
        → Appends old new (text_of_outcome o) → IsSaidByOwn own a old new (status_of_outcome o)
    from_told own None y first second told told' a h = absurd (told refl)
    from_told own (Some problem) None first second told told' a h = absurd (told' refl)
    from_told own (Some problem) (Some proof) first second told told' a h = said_of problem proof first second own a h

  pub own_text_says : (own : Own) (bits : ℕ) (content : List ℕ → Option (List ℕ)) (p : Asked) (a : Answer) (o : Outcome) (old new : Option (List ℕ))
      → IsDefinedAnswer bits content p a → OwnTo own bits content 0 0 p o → o ≢ answered (Judged PoolFull) → Appends old new (text_of_outcome o)
      → IsSaidByOwn own a old new (status_of_outcome o)
  own_text_says own bits content p a o old new h =
      from_told bits content p old new own (content p.problem) (content p.proof) refl refl h.told.0 h.told.1 a (read_both bits content p a h.answers) h.has_room o

  -- where there is a summary, neither text is refused
  pub only_full : (problem : List ℕ) (options : Options) (proof : List ℕ) (bits : ℕ) (s : Summary) (j : Judgement) → IsSummary problem options proof s
      → IsNotRead problem options proof bits j → j ≡ PoolFull
  only_full problem options proof bits s (RefusedProblem r) h k = absurd (not_both problem options.replaces_lets h.script r h.problem_stands k)
  only_full problem options proof bits s (RefusedProof r) h k =
      absurd (not_both_proof proof (settings_of options) k.0 h.commands h.after r
      (subst (λ b. StandsForProof proof (settings_of options) b h.commands h.after) (one_script problem options.replaces_lets h.script k.0 h.problem_stands k.1) h.proof_stands) k.2)
  only_full problem options proof bits s PoolFull h k = refl
  only_full problem options proof bits s Valid h k = absurd k
  only_full problem options proof bits s (Holey holes) h k = absurd k
  only_full problem options proof bits s NoEmptyClause h k = absurd k
  only_full problem options proof bits s (Faulty id cause) h k = absurd k
  only_full problem options proof bits s (TooWide id) h k = absurd k

  -- two summaries of the same texts are printed alike
  module _ (problem : List ℕ) (options : Options) (proof : List ℕ) (one_count : (terms : List Term) (m n : ℕ) → HasCells terms m → HasCells terms n → m ≡ n)
      (a b : Summary) (h : IsSummary problem options proof a) (k : IsSummary problem options proof b) where
    of_script : h.script ≡ k.script
    of_script = one_script problem options.replaces_lets h.script k.script h.problem_stands k.problem_stands

    of_commands : h.commands ≡ k.commands
    of_commands =
        (one_proof proof (settings_of options) k.script h.commands k.commands h.after k.after
        (subst (λ s. StandsForProof proof (settings_of options) s h.commands h.after) of_script h.proof_stands) k.proof_stands).0

    same_steps : a.steps ≡ b.steps
    same_steps = h.steps ∙ (ap commands_in of_commands ∙ sym k.steps)

    same_cells : a.cells ≡ b.cells
    same_cells =
        one_count (standing_in k.script.assertions k.commands) a.cells b.cells
        (subst (λ c. HasCells (standing_in k.script.assertions c) a.cells) of_commands
        (subst (λ (s : Script). HasCells (standing_in s.assertions h.commands) a.cells) of_script h.cells)) k.cells

    not_full : (j : Judgement) → IsOfProof j → j ≢ PoolFull
    not_full j is e = subst IsOfProof e is

    same_judgement : (status_of_judgement a.judgement ≡ status_of_judgement b.judgement) × (text_of_judgement a.judgement ≡ text_of_judgement b.judgement)
    same_judgement =
        one_judgement problem options proof 0 a.judgement b.judgement h.judged k.judged (not_full a.judgement h.of_proof) (not_full b.judgement k.of_proof)

    pub one_summary : (status_of_judgement a.judgement ≡ status_of_judgement b.judgement) × (text_of_summary a ≡ text_of_summary b)
    one_summary = (
      same_judgement.0,
      ap (λ n. codes "steps " ++ (decimal n ++ (line_end ++ (codes "cells " ++ (decimal a.cells ++ (line_end ++ text_of_judgement a.judgement)))))) same_steps
          ∙ (ap (λ n. codes "steps " ++ (decimal b.steps ++ (line_end ++ (codes "cells " ++ (decimal n ++ (line_end ++ text_of_judgement a.judgement)))))) same_cells
          ∙ ap (λ t. codes "steps " ++ (decimal b.steps ++ (line_end ++ (codes "cells " ++ (decimal b.cells ++ (line_end ++ t)))))) same_judgement.1),
    )
