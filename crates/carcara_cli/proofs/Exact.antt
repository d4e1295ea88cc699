-- What was printed is what is defined, and where the outside did not fail and the pool has room, it was printed.
use Rattle.std.proofs.Common.{◌≡◌, ◌≢◌, ◌⊎◌, inl, inr, ℕ, List, Option, None, Some, refl, sym, ◌∙◌, ap, subst, arith, ◌^◌, true, false, eqb}
use Rattle.std.specs.Io.KnownBytes.{Appends}
use Rattle.std.proofs.lemmas.Bool.Decides.{eqb_tells}
use Rattle.file_ports.specs.Faults.{HasRisen}
use Rattle.file_ports.specs.Texts.{AreTold}
use Rattle.proof_gen.specs.Texts.{problem_text, proof_text}
use Rattle.command_words.specs.CommandLine.{Asked, Task, over, generate}
use Rattle.command_words.specs.declared.request.Command.{Command}
use Rattle.command_words.specs.declared.request.Command.TheVariants.{Check, Elaborate, Core, Prune}
use Rattle.judged_texts.specs.declared.judgement.Judgement.{Judgement}
use Rattle.judged_texts.specs.declared.judgement.Judgement.TheVariants.{Valid, Holey, NoEmptyClause, Faulty, TooWide, RefusedProblem, RefusedProof, PoolFull}
use Rattle.judged_texts.specs.Cells.{HasMoreCells}
use Rattle.judged_texts.specs.Printed.{status_of_judgement}
use Rattle.judged_texts.specs.Reading.{NeedsRoom}
use Rattle.pruned_texts.specs.declared.needing.Part.TheVariants as part
use Rattle.generated_texts.specs.declared.summarizing.Summary.{Summary}
use Rattle.generated_texts.specs.declared.generating.Generated.TheVariants as Generated
use Rattle.generated_texts.specs.Generating.{ComesOfLinks}
use Rattle.generated_texts.specs.Summaries.{no_options, IsOfProof, IsSummaryOfLinks, text_of_summary}
use Rattle.carcara_cli.specs.declared.answer.Answer.{Answer}
use Rattle.carcara_cli.specs.declared.answer.Answer.TheVariants.{Usage, ReadFault, TooLong, Judged}
use Rattle.carcara_cli.specs.Exactness.{IsDefinedAnswer, IsExact, IsSaidBy, IsSaidByOwn, IsSaidTo, IsSummed, SaySame}
use Rattle.carcara_cli.specs.Exactness.{Faults, HasRoom, IsComplete, IsTooMuch, IsTooMuchOf}
use Rattle.carcara_cli.specs.OwnTexts.{Own, elaboration, needed}
use Rattle.carcara_cli.specs.Outcomes.{Outcome, answered, printed, status_of_outcome, text_of_outcome}
use Rattle.carcara_cli.specs.Printed.{status_of}
use Rattle.carcara_cli.specs.TopCall.{ComesTo, GeneratesTo, IsAnswerInstead, IsAnswerTo, IsOutcomeTo, IsPrinted, OwnTo}
use Rattle.carcara_cli.proofs.Outcomes.{own_status}

abbrev pub DefineOneAnswer : Type 0
DefineOneAnswer =
    (bits : ℕ) (content : List ℕ → Option (List ℕ)) (p : Asked) (a b : Answer)
    → IsDefinedAnswer bits content p a → IsDefinedAnswer bits content p b → SaySame a b

abbrev pub SayWhatChecksSay : Type 0
SayWhatChecksSay =
    (own : Own) (bits : ℕ) (content : List ℕ → Option (List ℕ)) (p : Asked) (a : Answer) (o : Outcome) (old new : Option (List ℕ))
    → IsDefinedAnswer bits content p a → OwnTo own bits content 0 0 p o → o ≢ answered (Judged PoolFull) → Appends old new (text_of_outcome o)
    → IsSaidByOwn own a old new (status_of_outcome o)

-- what is known of two summaries of the same texts
pub record AreOneSummary : Type 0 where
  pub status : (n : ℕ) (a b : Summary) → IsSummaryOfLinks n a → IsSummaryOfLinks n b → status_of_judgement a.judgement ≡ status_of_judgement b.judgement
  pub text : (n : ℕ) (a b : Summary) → IsSummaryOfLinks n a → IsSummaryOfLinks n b → text_of_summary a ≡ text_of_summary b
  pub instead : (n bits : ℕ) (s : Summary) (j : Judgement) → IsSummaryOfLinks n s → ComesOfLinks n bits (Generated.Not j) → j ≡ PoolFull

-- an answer but a read fault says nothing of the counts of faults
no_fault_risen : (bits : ℕ) (content : List ℕ → Option (List ℕ)) (before after : ℕ) (p : Asked) (a : Answer)
    → IsAnswerTo bits content before after (Some p) a → status_of a ≢ 5 → IsAnswerTo bits content 0 0 (Some p) a
no_fault_risen bits content before after p Usage h not_fault = h
no_fault_risen bits content before after p ReadFault h not_fault = absurd (not_fault refl)
no_fault_risen bits content before after p TooLong h not_fault = h
no_fault_risen bits content before after p (Judged j) h not_fault = h

none_risen : (own : Own) (bits : ℕ) (content : List ℕ → Option (List ℕ)) (before after : ℕ) (p : Asked) (o : Outcome)
    → OwnTo own bits content before after p o → status_of_outcome o ≢ 5 → OwnTo own bits content 0 0 p o
none_risen own bits content before after p (answered Usage) h not_fault = h
none_risen own bits content before after p (answered ReadFault) h not_fault = absurd (not_fault refl)
none_risen own bits content before after p (answered TooLong) h not_fault = h
none_risen own bits content before after p (answered (Judged j)) h not_fault = h
none_risen own bits content before after p (printed status text) h not_fault = h

module _ (one : DefineOneAnswer) (say : SayWhatChecksSay) (sum : AreOneSummary) (bits : ℕ) (content : List ℕ → Option (List ℕ)) (before after : ℕ)
    (old new : Option (List ℕ)) (status : ℕ) (not_fault : status ≢ 5) (not_full : status ≢ 8) where
  exact_own : (own : Own) (p : Asked) (a : Answer) → IsDefinedAnswer bits content p a → (o : Outcome) → OwnTo own bits content before after p o
      → status ≡ status_of_outcome o → Appends old new (text_of_outcome o) → IsSaidByOwn own a old new status
  exact_own own p a defined o h is text =
      subst (IsSaidByOwn own a old new) (sym is)
      (say own bits content p a o old new defined (none_risen own bits content before after p o h (λ e. not_fault (is ∙ e)))
      (λ e. not_full (is ∙ ap status_of_outcome e)) text)

  exact_by : (c : Command) (p : Asked) (a : Answer) → IsDefinedAnswer bits content p a → (o : Outcome) → ComesTo c bits content before after p o
      → status ≡ status_of_outcome o → Appends old new (text_of_outcome o) → IsSaidBy c a old new status
  exact_by Check p a defined (answered b) h is text =
      let given : IsDefinedAnswer bits content p b = record {
        told = defined.told;
        answers = no_fault_risen bits content before after p b h (λ e. not_fault (is ∙ e));
        has_room = λ e. not_full (is ∙ ap status_of e);
      } in
      let same = one bits content p b a given defined in
      (is ∙ same.status, subst (Appends old new) same.text text)
  exact_by Check p a defined (printed s t) h is text = absurd h
  exact_by Elaborate p a defined o h is text = exact_own elaboration p a defined o h is text
  exact_by Core p a defined o h is text = exact_own (needed part.Core) p a defined o h is text
  exact_by Prune p a defined o h is text = exact_own (needed part.Commands) p a defined o h is text

  exact_of_links : (n : ℕ) (o : Outcome) → GeneratesTo bits n o → status ≡ status_of_outcome o → Appends old new (text_of_outcome o)
      → (s : Summary) → IsSummaryOfLinks n s → IsSummed s old new status
  exact_of_links n (printed code bytes) h is text s k =
      (is ∙ (h.is_status ∙ sum.status n h.summary s h.is k), subst (Appends old new) (h.is_text ∙ sum.text n h.summary s h.is k) text)
  exact_of_links n (answered (Judged j)) h is text s k = absurd (not_full (is ∙ ap status_of_judgement (sum.instead n bits s j k h)))
  exact_of_links n (answered Usage) h is text s k = absurd h
  exact_of_links n (answered ReadFault) h is text s k = absurd h
  exact_of_links n (answered TooLong) h is text s k = absurd h

  exact_at : (task : Option Task) (o : Outcome) → IsOutcomeTo bits content before after task o → status ≡ status_of_outcome o
      → Appends old new (text_of_outcome o) → IsSaidTo bits content task old new status
  exact_at None o h is text = (is ∙ ap status_of_outcome h, subst (Appends old new) (ap text_of_outcome h) text)
  exact_at (Some (over p)) o h is text = λ a defined. exact_by p.command p a defined o h is text
  exact_at (Some (generate n workers)) o h is text = exact_of_links n o h is text

pub exact : DefineOneAnswer → SayWhatChecksSay → AreOneSummary → (bits : ℕ) (content : List ℕ → Option (List ℕ)) (before after : ℕ) (task : Option Task)
    (old new : Option (List ℕ)) (status : ℕ) → IsPrinted (IsOutcomeTo bits content before after task) old new status → IsExact bits content task old new status
exact one say sum bits content before after task old new status said not_fault not_failed not_memory not_full =
    let whole = said.whole not_failed not_memory in
    exact_at one say sum bits content before after old new status not_fault not_full task whole.outcome whole.may_come whole.is_status whole.printed

-- ---- the pool is full only where more cells need room

judged_full : (j : Judgement) → status_of_judgement j ≡ 8 → j ≡ PoolFull
judged_full Valid e = absurd (omega (arith, e))
judged_full (Holey holes) e = absurd (omega (arith, e))
judged_full NoEmptyClause e = absurd (omega (arith, e))
judged_full (Faulty id cause) e = absurd (omega (arith, e))
judged_full (TooWide id) e = absurd (omega (arith, e))
judged_full (RefusedProblem r) e = absurd (omega (arith, e))
judged_full (RefusedProof r) e = absurd (omega (arith, e))
judged_full PoolFull e = refl

answer_full : (a : Answer) → status_of a ≡ 8 → a ≡ Judged PoolFull
answer_full Usage e = absurd (omega (arith, e))
answer_full ReadFault e = absurd (omega (arith, e))
answer_full TooLong e = absurd (omega (arith, e))
answer_full (Judged j) e = ap Judged (judged_full j e)

own_not_full : (status : ℕ) → (status ≡ 0) ⊎ (status ≡ 2) → status ≡ 8 → ⊥
own_not_full status (inl zero) e = omega (arith, zero, e)
own_not_full status (inr two) e = omega (arith, two, e)

never_of_proof : (j : Judgement) → IsOfProof j → j ≡ PoolFull → ⊥
never_of_proof j h e = subst IsOfProof e h

module _ (bits : ℕ) (content : List ℕ → Option (List ℕ)) (before after : ℕ) where
  full_own : (own : Own) (p : Asked) → IsAnswerInstead own bits content before after p (Judged PoolFull)
      → ((problem proof : List ℕ) → AreTold (content p.problem) problem → AreTold (content p.proof) proof → ¬ IsTooMuchOf own bits problem p.options proof) → ⊥
  full_own elaboration p h room = room h.problem_text h.proof_text h.problem_told h.proof_told h.is
  full_own (needed which) p h room = room h.problem_text h.proof_text h.problem_told h.proof_told h.is

  own_has_room : (own : Own) (p : Asked) (o : Outcome) → OwnTo own bits content before after p o → status_of_outcome o ≡ 8
      → ((problem proof : List ℕ) → AreTold (content p.problem) problem → AreTold (content p.proof) proof → ¬ IsTooMuchOf own bits problem p.options proof) → ⊥
  own_has_room own p (answered a) h e room = full_own own p (subst (IsAnswerInstead own bits content before after p) (answer_full a e) h) room
  own_has_room own p (printed status text) h e room = own_not_full status (own_status own h.problem_text p.options h.proof_text status text h.is) e

  has_room_by : (c : Command) (p : Asked) (o : Outcome) → ComesTo c bits content before after p o → status_of_outcome o ≡ 8
      → ((problem proof : List ℕ) → AreTold (content p.problem) problem → AreTold (content p.proof) proof → ¬ IsTooMuch c bits problem p.options proof) → ⊥
  has_room_by Check p (answered a) h e room =
      let full : IsAnswerTo bits content before after (Some p) (Judged PoolFull) = subst (IsAnswerTo bits content before after (Some p)) (answer_full a e) h in
      room full.problem_text full.proof_text full.problem_told full.proof_told full.judged
  has_room_by Check p (printed status text) h e room = h
  has_room_by Elaborate p o h e room = own_has_room elaboration p o h e room
  has_room_by Core p o h e room = own_has_room (needed part.Core) p o h e room
  has_room_by Prune p o h e room = own_has_room (needed part.Commands) p o h e room

  links_have_room : (n : ℕ) (o : Outcome) → GeneratesTo bits n o → status_of_outcome o ≡ 8
      → ¬ HasMoreCells (NeedsRoom (problem_text n) no_options (proof_text n)) (2 ^ bits) → ⊥
  links_have_room n (answered (Judged j)) h e room =
      let full : ComesOfLinks n bits (Generated.Not PoolFull) = subst (λ k. ComesOfLinks n bits (Generated.Not k)) (judged_full j e) h in room full
  links_have_room n (answered Usage) h e room = h
  links_have_room n (answered ReadFault) h e room = h
  links_have_room n (answered TooLong) h e room = h
  links_have_room n (printed status text) h e room =
      never_of_proof h.summary.judgement h.is.of_proof (judged_full h.summary.judgement (sym h.is_status ∙ e))

  has_room : (task : Option Task) (o : Outcome) → IsOutcomeTo bits content before after task o → status_of_outcome o ≡ 8 → HasRoom bits content task → ⊥
  has_room None o h e room = let bad : status_of Usage ≡ 8 = ap status_of_outcome (sym h) ∙ e in omega (arith, bad)
  has_room (Some (over p)) o h e room = has_room_by p.command p o h e room
  has_room (Some (generate n workers)) o h e room = links_have_room n o h e room

pub complete : (bits : ℕ) (content : List ℕ → Option (List ℕ)) (faults : Faults) (task : Option Task) (old new : Option (List ℕ)) (status : ℕ)
    → IsPrinted (IsOutcomeTo bits content faults.read_before faults.read_after task) old new status → IsExact bits content task old new status
    → (status ≡ 5 → HasRisen faults.read_before faults.read_after) → (status ≡ 6 → HasRisen faults.write_before faults.write_after)
    → IsComplete bits content faults task old new status
complete bits content faults task old new status said exact reads writes no_read no_write room = go (eqb_tells status 7)
  where
    not_full : status ≢ 7 → status ≢ 8
    not_full not_memory eight =
        let whole = said.whole (λ six. omega (arith, six, eight)) not_memory in
        has_room bits content faults.read_before faults.read_after task whole.outcome whole.may_come (sym whole.is_status ∙ eight) room

    go : ((eqb status 7 ≡ true) × (status ≡ 7)) ⊎ ((eqb status 7 ≡ false) × (status ≢ 7)) → (status ≡ 7) ⊎ IsSaidTo bits content task old new status
    go (inl e) = inl e.1
    go (inr e) = inr (exact (λ five. no_read (reads five)) (λ six. no_write (writes six)) e.1 (not_full e.1))
