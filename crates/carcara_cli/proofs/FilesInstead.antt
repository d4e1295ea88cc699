-- What a command comes to that prints a text of its own, by what the two texts come to.
use Rattle.std.proofs.Common.{◌≡◌, ◌≢◌, ◌⊎◌, inl, inr, ℕ, ◌≤◌, List, Option, length, refl, arith}
use Rattle.std.specs.Io.KnownBytes.{Appends}
use Rattle.file_ports.specs.Faults.{HasRisen}
use Rattle.file_ports.specs.Texts.{AppendsPrefix, AreTold}
use Rattle.file_ports.specs.declared.whole.ReadStop.{ReadStop}
use Rattle.file_ports.specs.declared.whole.ReadStop.TheVariants as stops
use Rattle.command_words.specs.CommandLine.{Asked}
use Rattle.judged_texts.specs.Reading.{most_bytes}
use Rattle.carcara_cli.specs.Answering.{IsUnread}
use Rattle.carcara_cli.specs.declared.answer.Answer.{Answer}
use Rattle.carcara_cli.specs.declared.answer.Answer.TheVariants.{Usage, ReadFault, TooLong, Judged}
use Rattle.carcara_cli.specs.Finishing.{TextsComeTo}
use Rattle.carcara_cli.specs.Outcomes.{Outcome, answered, printed}
use Rattle.carcara_cli.specs.OwnTexts.{Own, IsSaidInsteadBy}
use Rattle.carcara_cli.specs.Printed.{status_of, text_of}
use Rattle.carcara_cli.specs.TopCall.{OwnTo, IsOfFiles, IsTooLong, IsPrinted, PrintsPrefix}

-- what the texts of two files come to, the files come to
module _ (own : Own) (bits : ℕ) (content : List ℕ → Option (List ℕ)) (before after : ℕ) (p : Asked) (problem proof : List ℕ)
    (first : AreTold (content p.problem) problem) (second : AreTold (content p.proof) proof) (small : length problem ≤ most_bytes)
    (low : length proof ≤ most_bytes) where
  of_both : (Is : List ℕ → List ℕ → Type 0) → Is problem proof → IsOfFiles (content p.problem) (content p.proof) Is
  of_both Is h = record {
    problem_text = problem;
    proof_text = proof;
    problem_told = first;
    proof_told = second;
    problem_within = small;
    proof_within = low;
    is = h;
  }

  comes : (o : Outcome) → TextsComeTo own problem p.options proof bits o → OwnTo own bits content before after p o
  comes (answered (Judged j)) h = of_both (λ x y. IsSaidInsteadBy own x p.options y bits j) h
  comes (answered Usage) h = absurd h
  comes (answered ReadFault) h = absurd h
  comes (answered TooLong) h = absurd h
  comes (printed status text) h = of_both _ h

  prefix_of : (old new : Option (List ℕ)) → PrintsPrefix (TextsComeTo own problem p.options proof bits) old new
      → PrintsPrefix (OwnTo own bits content before after p) old new
  prefix_of old new h = record { outcome = h.outcome; may_come = comes h.outcome h.may_come; printed = h.printed }

  pub printed_of : (old new : Option (List ℕ)) (status : ℕ) → IsPrinted (TextsComeTo own problem p.options proof bits) old new status
      → IsPrinted (OwnTo own bits content before after p) old new status
  printed_of old new status h = record {
    whole = λ x y. let w = h.whole x y in record { outcome = w.outcome; may_come = comes w.outcome w.may_come; is_status = w.is_status; printed = w.printed };
    write_fault = λ six. prefix_of old new (h.write_fault six);
    memory = λ seven. go (h.memory seven);
  }
    where
      go : PrintsPrefix (TextsComeTo own problem p.options proof bits) old new ⊎ (new ≡ old)
          → PrintsPrefix (OwnTo own bits content before after p) old new ⊎ (new ≡ old)
      go (inl k) = inl (prefix_of old new k)
      go (inr e) = inr e

-- the answer where a file was not read
pub unread_instead : (own : Own) (bits : ℕ) (content : List ℕ → Option (List ℕ)) (before after : ℕ) (p : Asked) (stop : ReadStop) (a : Answer)
    → (stop ≡ stops.TooLong → IsTooLong (content p.problem) (content p.proof)) → (stop ≡ stops.Fault → HasRisen before after) → IsUnread stop a
    → OwnTo own bits content before after p (answered a)
unread_instead own bits content before after p stops.Fault a too_long fault h = rw h (fault refl)
unread_instead own bits content before after p stops.TooLong a too_long fault h = rw h (too_long refl)
unread_instead own bits content before after p stops.Memory a too_long fault h = absurd h

module _ (own : Own) (bits : ℕ) (content : List ℕ → Option (List ℕ)) (before after : ℕ) (p : Asked) (stop : ReadStop) (old new : Option (List ℕ)) (status : ℕ)
    (too_long : stop ≡ stops.TooLong → IsTooLong (content p.problem) (content p.proof)) (fault : stop ≡ stops.Fault → HasRisen before after)
    (whole : status ≢ 6 → status ≢ 7 → (a : Answer) × IsUnread stop a × (status ≡ status_of a) × Appends old new (text_of a))
    (prefix : (status ≡ 6) ⊎ (status ≡ 7) → ((a : Answer) × IsUnread stop a × AppendsPrefix old new (text_of a)) ⊎ ((status ≡ 7) × (new ≡ old))) where
  six_prefix : status ≡ 6 → ((a : Answer) × IsUnread stop a × AppendsPrefix old new (text_of a)) ⊎ ((status ≡ 7) × (new ≡ old))
      → PrintsPrefix (OwnTo own bits content before after p) old new
  six_prefix six (inl h) = record { outcome = answered h.0; may_come = unread_instead own bits content before after p stop h.0 too_long fault h.1; printed = h.2 }
  six_prefix six (inr h) = absurd (omega (arith, six, h.0))

  seven_prefix : ((a : Answer) × IsUnread stop a × AppendsPrefix old new (text_of a)) ⊎ ((status ≡ 7) × (new ≡ old))
      → PrintsPrefix (OwnTo own bits content before after p) old new ⊎ (new ≡ old)
  seven_prefix (inl h) =
      inl (record { outcome = answered h.0; may_come = unread_instead own bits content before after p stop h.0 too_long fault h.1; printed = h.2 })
  seven_prefix (inr h) = inr h.1

  pub unread_printed : IsPrinted (OwnTo own bits content before after p) old new status
  unread_printed = record {
    whole = λ x y.
        let h = whole x y in
        record { outcome = answered h.0; may_come = unread_instead own bits content before after p stop h.0 too_long fault h.1; is_status = h.2; printed = h.3 };
    write_fault = λ six. six_prefix six (prefix (inl six));
    memory = λ seven. seven_prefix (prefix (inr seven));
  }

pub or_weaker : {A B C : Type 0} → (B → C) → A ⊎ B → A ⊎ C
or_weaker f (inl a) = inl a
or_weaker f (inr b) = inr (f b)
