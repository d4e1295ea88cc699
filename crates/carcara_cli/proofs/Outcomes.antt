-- What was printed shows what its status promises.
use Rattle.std.proofs.Common.{◌≡◌, ◌⊎◌, inl, inr, ℕ, List, Option, None, Some, refl, sym, ◌∙◌, ap, subst, arith}
use Rattle.rule_model.specs.declared.statuses.Verdict.{Verdict}
use Rattle.file_ports.specs.Faults.{HasRisen}
use Rattle.proof_gen.specs.Texts.{problem_text, proof_text}
use Rattle.command_words.specs.CommandLine.{Asked, Task, over, generate}
use Rattle.command_words.specs.declared.request.Options.{Options}
use Rattle.command_words.specs.declared.request.Command.{Command}
use Rattle.command_words.specs.declared.request.Command.TheVariants.{Check, Elaborate, Core, Prune}
use Rattle.carcara_cli.specs.declared.answer.Answer.{Answer}
use Rattle.carcara_cli.specs.declared.answer.Answer.TheVariants.{Usage, ReadFault, TooLong, Judged}
use Rattle.judged_texts.specs.declared.judgement.Judgement.{Judgement}
use Rattle.judged_texts.specs.declared.judgement.Judgement.TheVariants.{Valid, Holey, NoEmptyClause, Faulty, TooWide, RefusedProblem, RefusedProof, PoolFull}
use Rattle.judged_texts.specs.Judgement.{IsCheckedAs, IsJudgement}
use Rattle.judged_texts.specs.Printed.{status_of_judgement}
use Rattle.elaborated_texts.specs.Elaborated.{IsElaboratedText, IsStatusOfPrinted}
use Rattle.pruned_texts.specs.declared.needing.Part.{Part}
use Rattle.pruned_texts.specs.declared.needing.Part.TheVariants as part
use Rattle.pruned_texts.specs.Needed.{IsNeededText}
use Rattle.generated_texts.specs.declared.summarizing.Summary.{Summary}
use Rattle.generated_texts.specs.Summaries.{no_options, IsSummaryOfLinks}
use Rattle.carcara_cli.specs.OwnTexts.{Own, elaboration, needed, IsOwnText}
use Rattle.carcara_cli.specs.Outcomes.{Outcome, answered, printed, status_of_outcome}
use Rattle.carcara_cli.specs.Printed.{status_of}
use Rattle.carcara_cli.specs.TopCall.{ComesTo, GeneratesTo, IsAnswerInstead, IsAnswerTo, IsOfFiles, IsOutcomeTo, IsPrinted, OwnTo}
use Rattle.carcara_cli.specs.TopCall.{IsShownUnsatisfiable, IsUnsatisfiableOfLinks, ShowsUnsatisfiable}
use Rattle.carcara_cli.proofs.AnswerLemmas.{AreSound, valid_shows}
use Rattle.carcara_cli.proofs.OneAnswer.{never_printed, printed_or}

-- an answer of the status 5 is a read fault
judged_no_fault : (j : Judgement) → status_of_judgement j ≡ 5 → ⊥
judged_no_fault Valid e = omega (arith, e)
judged_no_fault (Holey holes) e = omega (arith, e)
judged_no_fault NoEmptyClause e = omega (arith, e)
judged_no_fault (Faulty id cause) e = omega (arith, e)
judged_no_fault (TooWide id) e = omega (arith, e)
judged_no_fault (RefusedProblem r) e = omega (arith, e)
judged_no_fault (RefusedProof r) e = omega (arith, e)
judged_no_fault PoolFull e = omega (arith, e)

-- a text of its own has the status 0 or 2
pub own_status : (own : Own) (problem : List ℕ) (options : Options) (proof : List ℕ) (status : ℕ) (text : List ℕ) → IsOwnText own problem options proof status text
    → (status ≡ 0) ⊎ (status ≡ 2)
own_status elaboration problem options proof status text h = printed_or h.verdict status h.is_status
own_status (needed part) problem options proof status text h = inl h.0

neither : (status n : ℕ) → (status ≡ 0) ⊎ (status ≡ 2) → status ≡ n → (n ≡ 0 → ⊥) → (n ≡ 2 → ⊥) → ⊥
neither status n (inl e) is zero two = zero (sym is ∙ e)
neither status n (inr e) is zero two = two (sym is ∙ e)

module _ (bits : ℕ) (content : List ℕ → Option (List ℕ)) (before after : ℕ) where
  fault_risen : (p : Asked) (a : Answer) → IsAnswerTo bits content before after (Some p) a → status_of a ≡ 5 → HasRisen before after
  fault_risen p Usage h e = absurd h
  fault_risen p ReadFault h e = h
  fault_risen p TooLong h e = absurd (omega (arith, e))
  fault_risen p (Judged j) h e = absurd (judged_no_fault j e)

  fault_instead : (own : Own) (p : Asked) (a : Answer) → IsAnswerInstead own bits content before after p a → status_of a ≡ 5 → HasRisen before after
  fault_instead own p Usage h e = absurd h
  fault_instead own p ReadFault h e = h
  fault_instead own p TooLong h e = absurd (omega (arith, e))
  fault_instead own p (Judged j) h e = absurd (judged_no_fault j e)

  fault_own : (own : Own) (p : Asked) (o : Outcome) → OwnTo own bits content before after p o → status_of_outcome o ≡ 5 → HasRisen before after
  fault_own own p (answered a) h e = fault_instead own p a h e
  fault_own own p (printed status text) h e =
      absurd (neither status 5 (own_status own h.problem_text p.options h.proof_text status text h.is) e (λ x. omega (arith, x)) (λ x. omega (arith, x)))

  fault_by : (c : Command) (p : Asked) (o : Outcome) → ComesTo c bits content before after p o → status_of_outcome o ≡ 5 → HasRisen before after
  fault_by Check p (answered a) h e = fault_risen p a h e
  fault_by Check p (printed status text) h e = absurd h
  fault_by Elaborate p o h e = fault_own elaboration p o h e
  fault_by Core p o h e = fault_own (needed part.Core) p o h e
  fault_by Prune p o h e = fault_own (needed part.Commands) p o h e

  no_fault_of_links : (n : ℕ) (o : Outcome) → GeneratesTo bits n o → status_of_outcome o ≡ 5 → ⊥
  no_fault_of_links n (answered (Judged j)) h e = judged_no_fault j e
  no_fault_of_links n (answered Usage) h e = h
  no_fault_of_links n (answered ReadFault) h e = h
  no_fault_of_links n (answered TooLong) h e = h
  no_fault_of_links n (printed status text) h e = judged_no_fault h.summary.judgement (sym h.is_status ∙ e)

  fault_at : (task : Option Task) (o : Outcome) → IsOutcomeTo bits content before after task o → status_of_outcome o ≡ 5 → HasRisen before after
  fault_at None o h e = let bad : status_of Usage ≡ 5 = ap status_of_outcome (sym h) ∙ e in absurd (omega (arith, bad))
  fault_at (Some (over p)) o h e = fault_by p.command p o h e
  fault_at (Some (generate n workers)) o h e = absurd (no_fault_of_links n o h e)

  module _ (task : Option Task) (old new : Option (List ℕ)) (status : ℕ)
      (said : IsPrinted (IsOutcomeTo bits content before after task) old new status) where
    pub read_fault : status ≡ 5 → HasRisen before after
    read_fault five =
        let whole = said.whole (λ six. omega (arith, five, six)) (λ seven. omega (arith, five, seven)) in
        fault_at task whole.outcome whole.may_come (sym whole.is_status ∙ five)

  module _ (sound : AreSound) where
    of_verdict : (p : Asked) (v : Verdict) (status : ℕ) (text : List ℕ)
        → (h : IsOfFiles (content p.problem) (content p.proof) (λ problem proof. IsElaboratedText problem p.options proof status text))
        → h.is.verdict ≡ v → IsStatusOfPrinted v status → status ≡ 0 → IsShownUnsatisfiable p.options (content p.problem) (content p.proof)
    of_verdict p Verdict.Valid status text h is s e =
        let checked = subst (λ v. IsCheckedAs h.problem_text p.options h.proof_text v) is h.is.checked in record {
          problem_text = h.problem_text;
          proof_text = h.proof_text;
          problem_told = h.problem_told;
          proof_told = h.proof_told;
          script = checked.script;
          stands = checked.problem_text;
          unsatisfiable = sound h.problem_text p.options h.proof_text checked;
        }
    of_verdict p Verdict.Holey status text h is s e = absurd (omega (arith, s, e))
    of_verdict p Verdict.NoEmpty status text h is s e = absurd s
    of_verdict p (Verdict.InvalidAt i cause) status text h is s e = absurd s
    of_verdict p (Verdict.Unknown i) status text h is s e = absurd s

    valid_of : (which : Part) (problem : List ℕ) (options : Options) (proof text : List ℕ) → IsNeededText which problem options proof text
        → IsCheckedAs problem options proof Verdict.Valid
    valid_of part.Core problem options proof text h = h.refutation.checked
    valid_of part.Commands problem options proof text h = h.refutation.checked

    of_needed : (which : Part) (p : Asked) (status : ℕ) (text : List ℕ)
        → IsOfFiles (content p.problem) (content p.proof) (λ problem proof. IsOwnText (needed which) problem p.options proof status text)
        → IsShownUnsatisfiable p.options (content p.problem) (content p.proof)
    of_needed which p status text h =
        let checked = valid_of which h.problem_text p.options h.proof_text text h.is.1 in record {
          problem_text = h.problem_text;
          proof_text = h.proof_text;
          problem_told = h.problem_told;
          proof_told = h.proof_told;
          script = checked.script;
          stands = checked.problem_text;
          unsatisfiable = sound h.problem_text p.options h.proof_text checked;
        }

    shown_own : (own : Own) (p : Asked) (o : Outcome) → OwnTo own bits content before after p o → status_of_outcome o ≡ 0 → ShowsUnsatisfiable content (Some (over p))
    shown_own elaboration p (answered a) h e = absurd (never_printed elaboration bits content before after p a h (inl e))
    shown_own (needed which) p (answered a) h e = absurd (never_printed (needed which) bits content before after p a h e)
    shown_own elaboration p (printed status text) h e = of_verdict p h.is.verdict status text h refl h.is.is_status e
    shown_own (needed which) p (printed status text) h e = of_needed which p status text h

    shown_by : (c : Command) (p : Asked) (o : Outcome) → ComesTo c bits content before after p o → status_of_outcome o ≡ 0
        → ShowsUnsatisfiable content (Some (over p))
    shown_by Check p (answered a) h e = valid_shows sound bits content before after p a h e
    shown_by Check p (printed status text) h e = absurd h
    shown_by Elaborate p o h e = shown_own elaboration p o h e
    shown_by Core p o h e = shown_own (needed part.Core) p o h e
    shown_by Prune p o h e = shown_own (needed part.Commands) p o h e

    of_summary : (n : ℕ) (s : Summary) → IsSummaryOfLinks n s → (j : Judgement) → s.judgement ≡ j → status_of_judgement j ≡ 0 → IsUnsatisfiableOfLinks n
    of_summary n s h Valid is e =
        let checked : IsCheckedAs (problem_text n) no_options (proof_text n) Verdict.Valid =
        subst (λ j. IsJudgement (problem_text n) no_options (proof_text n) 0 j) is h.judged in record {
          script = checked.script;
          stands = checked.problem_text;
          unsatisfiable = sound (problem_text n) no_options (proof_text n) checked;
        }
    of_summary n s h (Holey holes) is e = absurd (omega (arith, e))
    of_summary n s h NoEmptyClause is e = absurd (omega (arith, e))
    of_summary n s h (Faulty id cause) is e = absurd (omega (arith, e))
    of_summary n s h (TooWide id) is e = absurd (omega (arith, e))
    of_summary n s h (RefusedProblem r) is e = absurd (omega (arith, e))
    of_summary n s h (RefusedProof r) is e = absurd (omega (arith, e))
    of_summary n s h PoolFull is e = absurd (omega (arith, e))

    shown_of_links : (n : ℕ) (o : Outcome) → GeneratesTo bits n o → status_of_outcome o ≡ 0 → IsUnsatisfiableOfLinks n
    shown_of_links n (answered (Judged Valid)) h e = absurd h
    shown_of_links n (answered (Judged (Holey holes))) h e = absurd h
    shown_of_links n (answered (Judged NoEmptyClause)) h e = absurd h
    shown_of_links n (answered (Judged (Faulty id cause))) h e = absurd h
    shown_of_links n (answered (Judged (TooWide id))) h e = absurd h
    shown_of_links n (answered (Judged (RefusedProblem r))) h e = absurd (omega (arith, e))
    shown_of_links n (answered (Judged (RefusedProof r))) h e = absurd (omega (arith, e))
    shown_of_links n (answered (Judged PoolFull)) h e = absurd (omega (arith, e))
    shown_of_links n (answered Usage) h e = absurd h
    shown_of_links n (answered ReadFault) h e = absurd h
    shown_of_links n (answered TooLong) h e = absurd h
    shown_of_links n (printed status text) h e = of_summary n h.summary h.is h.summary.judgement refl (sym h.is_status ∙ e)

    shown_at : (task : Option Task) (o : Outcome) → IsOutcomeTo bits content before after task o → status_of_outcome o ≡ 0 → ShowsUnsatisfiable content task
    shown_at None o h e = let bad : status_of Usage ≡ 0 = ap status_of_outcome (sym h) ∙ e in absurd (omega (arith, bad))
    shown_at (Some (over p)) o h e = shown_by p.command p o h e
    shown_at (Some (generate n workers)) o h e = shown_of_links n o h e

    pub unsatisfiable : (task : Option Task) (old new : Option (List ℕ)) (status : ℕ) → IsPrinted (IsOutcomeTo bits content before after task) old new status
        → status ≡ 0 → ShowsUnsatisfiable content task
    unsatisfiable task old new status said zero =
        let whole = said.whole (λ six. omega (arith, zero, six)) (λ seven. omega (arith, zero, seven)) in
        shown_at task whole.outcome whole.may_come (sym whole.is_status ∙ zero)
