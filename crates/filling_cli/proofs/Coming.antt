-- What `fill` comes to, by how filling ended.
use Rattle.std.proofs.Common.{◌≡◌, ◌≢◌, ◌⊎◌, inl, inr, ℕ, ◌≤◌, List, Option, length, refl, sym, subst, arith}
use Rattle.std.specs.Io.KnownBytes.{Appends}
use Rattle.file_ports.specs.Faults.{HasRisen}
use Rattle.file_ports.specs.Texts.{AppendsPrefix, AreTold}
use Rattle.file_ports.specs.declared.whole.ReadStop.{ReadStop}
use Rattle.file_ports.specs.declared.whole.ReadStop.TheVariants as stops
use Rattle.command_words.specs.CommandLine.{Asked}
use Rattle.command_words.specs.declared.request.Options.{Options}
use Rattle.judged_texts.specs.declared.judgement.Judgement.{Judgement}
use Rattle.judged_texts.specs.declared.judgement.Judgement.TheVariants.{Valid, Holey, NoEmptyClause, Faulty, TooWide, RefusedProblem, RefusedProof, PoolFull}
use Rattle.judged_texts.specs.Reading.{most_bytes}
use Rattle.hole_fillers.specs.Benches.{Seat, with_budget}
use Rattle.filled_texts.specs.declared.asking.Stop.{Stop}
use Rattle.filled_texts.specs.declared.filling.End.{End}
use Rattle.filled_texts.specs.declared.filling.End.TheVariants as end
use Rattle.filled_texts.specs.Filled.{AreAskedFirst, AreAskedInOrder, EndsSo}
use Rattle.carcara_cli.specs.Answering.{IsUnread}
use Rattle.carcara_cli.specs.declared.answer.Answer.{Answer}
use Rattle.carcara_cli.specs.Outcomes.{Outcome, answered, status_of_outcome, text_of_outcome}
use Rattle.carcara_cli.specs.Printed.{status_of, text_of}
use Rattle.carcara_cli.specs.TopCall.{IsOfFiles, IsPrinted, IsTooLong, PrintsPrefix}
use Rattle.filling_cli.specs.Ending.{ComesOf}
use Rattle.filling_cli.specs.Filling.{AsksInOrder, FillsTo, IsJudgedSo}

-- what may come may come of something weaker too
module _ (M N : Outcome → Type 0) (f : (o : Outcome) → M o → N o) (old new : Option (List ℕ)) where
  prefix_of : PrintsPrefix M old new → PrintsPrefix N old new
  prefix_of h = record { outcome = h.outcome; may_come = f h.outcome h.may_come; printed = h.printed }

  pub printed_of : (status : ℕ) → IsPrinted M old new status → IsPrinted N old new status
  printed_of status h = record {
    whole = λ x y. let w = h.whole x y in record { outcome = w.outcome; may_come = f w.outcome w.may_come; is_status = w.is_status; printed = w.printed };
    write_fault = λ six. prefix_of (h.write_fault six);
    memory = λ seven. go (h.memory seven);
  }
    where
      go : PrintsPrefix M old new ⊎ (new ≡ old) → PrintsPrefix N old new ⊎ (new ≡ old)
      go (inl k) = inl (prefix_of k)
      go (inr e) = inr e

-- the text of one outcome was printed, or a prefix of it
pub says : (M : Outcome → Type 0) (o : Outcome) → M o → (old new : Option (List ℕ)) (status : ℕ) →
    (status ≢ 6 → status ≢ 7 → (status ≡ status_of_outcome o) × Appends old new (text_of_outcome o)) →
    ((status ≡ 6) ⊎ (status ≡ 7) → AppendsPrefix old new (text_of_outcome o)) → IsPrinted M old new status
says M o may old new status whole prefix = record {
  whole = λ x y. let w = whole x y in record { outcome = o; may_come = may; is_status = w.0; printed = w.1 };
  write_fault = λ six. record { outcome = o; may_come = may; printed = prefix (inl six) };
  memory = λ seven. inl (record { outcome = o; may_come = may; printed = prefix (inr seven) });
}

-- nothing was printed, out of memory
pub nothing : (M : Outcome → Type 0) (old : Option (List ℕ)) → IsPrinted M old old 7
nothing M old = record { whole = λ x y. absurd (y refl); write_fault = λ six. absurd (omega (arith, six)); memory = λ seven. inr refl }

-- a judgement of the two texts
judged_so : (problem : List ℕ) (options : Options) (proof : List ℕ) (bits : ℕ) (old new : List Seat) (j : Judgement) →
    EndsSo problem options proof bits old new (end.Judged j) → IsJudgedSo problem options proof bits old new j
judged_so problem options proof bits old new PoolFull h = inl h
judged_so problem options proof bits old new Valid h = h
judged_so problem options proof bits old new (Holey holes) h = h
judged_so problem options proof bits old new NoEmptyClause h = h
judged_so problem options proof bits old new (Faulty id cause) h = h
judged_so problem options proof bits old new (TooWide id) h = h
judged_so problem options proof bits old new (RefusedProblem r) h = h
judged_so problem options proof bits old new (RefusedProof r) h = h

module _ (bits : ℕ) (content : List ℕ → Option (List ℕ)) (before after : ℕ) (p : Asked) (problem proof : List ℕ)
    (first : AreTold (content p.problem) problem) (second : AreTold (content p.proof) proof) (small : length problem ≤ most_bytes)
    (low : length proof ≤ most_bytes) (old new : List Seat) where
  of_both : (Is : List ℕ → List ℕ → Type 0) → Is problem proof → IsOfFiles (content p.problem) (content p.proof) Is
  of_both Is h = record {
    problem_text = problem;
    proof_text = proof;
    problem_told = first;
    proof_told = second;
    problem_within = small;
    proof_within = low;
    is = h;
  }

  pub comes : (e : End) → EndsSo problem p.options proof bits (with_budget old) new e → (o : Outcome) → ComesOf e o →
      FillsTo bits content before after p (with_budget old) new o
  comes (end.Judged j) h o is =
      subst (FillsTo bits content before after p (with_budget old) new) (sym is)
      (of_both (λ x y. IsJudgedSo x p.options y bits (with_budget old) new j) (judged_so problem p.options proof bits (with_budget old) new j h))
  comes (end.Asked asked) h o is =
      subst (FillsTo bits content before after p (with_budget old) new) (sym is)
      (of_both _ (record { asked = asked; are = h; is_status = refl; is_text = refl }))
  comes (end.Stopped Stop.PoolFull) h o is =
      subst (FillsTo bits content before after p (with_budget old) new) (sym is) (of_both (λ x y. IsJudgedSo x p.options y bits (with_budget old) new PoolFull) (inr h))
  comes (end.Stopped Stop.Memory) h o is = absurd is

  pub asks : (status : ℕ) → AreAskedInOrder problem p.options proof bits (with_budget old) new → AsksInOrder bits content p old new status
  asks status (inl same) = inr (inl same)
  asks status (inr h) = inr (inr (of_both (λ x y. AreAskedFirst x p.options y bits (with_budget old) new) h))

-- the answer where a file was not read
module _ (bits : ℕ) (content : List ℕ → Option (List ℕ)) (before after : ℕ) (p : Asked) (seats : List Seat) (stop : ReadStop)
    (too_long : stop ≡ stops.TooLong → IsTooLong (content p.problem) (content p.proof)) (fault : stop ≡ stops.Fault → HasRisen before after)
    (old new : Option (List ℕ)) (status : ℕ)
    (whole : status ≢ 6 → status ≢ 7 → (a : Answer) × IsUnread stop a × (status ≡ status_of a) × Appends old new (text_of a))
    (prefix : (status ≡ 6) ⊎ (status ≡ 7) → ((a : Answer) × IsUnread stop a × AppendsPrefix old new (text_of a)) ⊎ ((status ≡ 7) × (new ≡ old))) where
  unread : (s : ReadStop) → stop ≡ s → (a : Answer) → IsUnread s a → FillsTo bits content before after p seats seats (answered a)
  unread stops.Fault is a h = subst (λ x. FillsTo bits content before after p seats seats (answered x)) (sym h) (refl, fault is)
  unread stops.TooLong is a h = subst (λ x. FillsTo bits content before after p seats seats (answered x)) (sym h) (refl, too_long is)
  unread stops.Memory is a h = absurd h

  six_prefix : status ≡ 6 → ((a : Answer) × IsUnread stop a × AppendsPrefix old new (text_of a)) ⊎ ((status ≡ 7) × (new ≡ old)) →
      PrintsPrefix (FillsTo bits content before after p seats seats) old new
  six_prefix six (inl h) = record { outcome = answered h.0; may_come = unread stop refl h.0 h.1; printed = h.2 }
  six_prefix six (inr h) = absurd (omega (arith, six, h.0))

  seven_prefix : ((a : Answer) × IsUnread stop a × AppendsPrefix old new (text_of a)) ⊎ ((status ≡ 7) × (new ≡ old)) →
      PrintsPrefix (FillsTo bits content before after p seats seats) old new ⊎ (new ≡ old)
  seven_prefix (inl h) = inl (record { outcome = answered h.0; may_come = unread stop refl h.0 h.1; printed = h.2 })
  seven_prefix (inr h) = inr h.1

  pub unread_printed : IsPrinted (FillsTo bits content before after p seats seats) old new status
  unread_printed = record {
    whole = λ x y. let h = whole x y in record { outcome = answered h.0; may_come = unread stop refl h.0 h.1; is_status = h.2; printed = h.3 };
    write_fault = λ six. six_prefix six (prefix (inl six));
    memory = λ seven. seven_prefix (prefix (inr seven));
  }

pub or_weaker : {A B C : Type 0} → (B → C) → A ⊎ B → A ⊎ C
or_weaker f (inl a) = inl a
or_weaker f (inr b) = inr (f b)
