-- What was printed where the printing of a text of its own ended.
use Rattle.std.proofs.Common.{◌≡◌, ◌≢◌, ◌⊎◌, inl, inr, ℕ, List, refl, sym, ◌∙◌, ap, subst, arith}
use Rattle.std.specs.Io.KnownBytes.{Appends}
use Rattle.file_ports.specs.Faults.{HasRisen}
use Rattle.file_ports.specs.Texts.{AppendsPrefix}
use Rattle.command_words.specs.declared.request.Options.{Options}
use Rattle.carcara_cli.specs.declared.answer.Answer.{Answer}
use Rattle.elaborated_texts.specs.declared.elaborating.End.{End}
use Rattle.elaborated_texts.specs.declared.elaborating.End.TheVariants as end
use Rattle.elaborated_texts.specs.Ending.{EndsSo}
use Rattle.named_proofs.specs.Written.{SinkView}
use Rattle.pruned_texts.specs.declared.needing.Part.{Part}
use Rattle.pruned_texts.specs.declared.needing.End.{End as NeededEnd}
use Rattle.pruned_texts.specs.declared.needing.End.TheVariants as needed_end
use Rattle.pruned_texts.specs.Ending.{EndsSo as NeededEndsSo}
use Rattle.carcara_cli.specs.Finishing.{EndsBy, IsFinished, TextsComeTo, WritesOwn, ends_as}
use Rattle.carcara_cli.specs.Outcomes.{Outcome, printed, status_of_outcome, text_of_outcome}
use Rattle.carcara_cli.specs.OwnTexts.{Own, elaboration, needed, IsOwnText}
use Rattle.carcara_cli.specs.Printed.{status_of, text_of}
use Rattle.carcara_cli.proofs.OneAnswer.{printed_or}

module _ (own : Own) (problem : List ℕ) (options : Options) (proof : List ℕ) (bits : ℕ) (first middle last : SinkView) where
  -- an answer was printed where nothing was written before
  pub said : (o : Outcome) (a : Answer) (status : ℕ) → middle ≡ first → TextsComeTo own problem options proof bits o → status_of_outcome o ≡ status_of a
      → text_of_outcome o ≡ text_of a
      → (status ≢ 6 → status ≢ 7 → (status ≡ status_of a) × Appends middle.written last.written (text_of a))
      → ((status ≡ 6) ⊎ (status ≡ 7) → AppendsPrefix middle.written last.written (text_of a))
      → (status ≡ 6 → HasRisen middle.faults last.faults) → IsFinished own problem options proof bits first last status
  said o a status same is names texts whole prefix failed =
      let old : middle.written ≡ first.written = ap (λ (x : SinkView). x.written) same in
      let faults : middle.faults ≡ first.faults = ap (λ (x : SinkView). x.faults) same in
      let begun : AppendsPrefix middle.written last.written (text_of a) → AppendsPrefix first.written last.written (text_of_outcome o) =
      λ h. subst (λ z. AppendsPrefix z last.written (text_of_outcome o)) old (subst (AppendsPrefix middle.written last.written) (sym texts) h) in record {
        printed = record {
          whole = λ x y. record {
            outcome = o;
            may_come = is;
            is_status = (whole x y).0 ∙ sym names;
            printed = subst (λ z. Appends z last.written (text_of_outcome o)) old (subst (Appends middle.written last.written) (sym texts) (whole x y).1);
          };
          write_fault = λ six. record {
            outcome = o;
            may_come = is;
            printed = begun (prefix (inl six));
          };
          memory = λ seven. inl (record {
            outcome = o;
            may_come = is;
            printed = begun (prefix (inr seven));
          });
        };
        failed = λ six. subst (λ z. HasRisen z last.faults) faults (failed six);
      }

module _ (own : Own) (problem : List ℕ) (options : Options) (proof : List ℕ) (bits : ℕ) (first last : SinkView) where
  not_six : (status : ℕ) → (status ≡ 0) ⊎ (status ≡ 2) → status ≢ 6
  not_six status (inl e) six = omega (arith, e, six)
  not_six status (inr e) six = omega (arith, e, six)

  not_seven : (status : ℕ) → (status ≡ 0) ⊎ (status ≡ 2) → status ≢ 7
  not_seven status (inl e) seven = omega (arith, e, seven)
  not_seven status (inr e) seven = omega (arith, e, seven)

  own_or : (which : Own) (status : ℕ) (text : List ℕ) → IsOwnText which problem options proof status text → (status ≡ 0) ⊎ (status ≡ 2)
  own_or elaboration status text h = printed_or h.verdict status h.is_status
  own_or (needed part) status text h = inl h.0

  -- nothing more is printed behind a text of its own
  pub finished : (e : End) (status : ℕ) → EndsBy own problem options proof bits first last e
      → (e ≡ end.Written status) ⊎ ((e ≡ end.Failed) × (status ≡ 6)) ⊎ ((e ≡ end.Memory) × (status ≡ 7))
      → IsFinished own problem options proof bits first last status
  finished e status h (inl is) =
      let w : WritesOwn own problem options proof status first.written last.written = subst (EndsBy own problem options proof bits first last) is h in
      let or = own_or own status w.text w.is in record {
        printed = record {
          whole = λ x y. record { outcome = printed status w.text; may_come = w.is; is_status = refl; printed = w.printed };
          write_fault = λ six. absurd (not_six status or six);
          memory = λ seven. absurd (not_seven status or seven);
        };
        failed = λ six. absurd (not_six status or six);
      }
  finished e status h (inr (inl is)) =
      let w = subst (EndsBy own problem options proof bits first last) is.0 h in record {
        printed = record {
          whole = λ x y. absurd (x is.1);
          write_fault = λ six. record { outcome = printed w.1.status w.1.text; may_come = w.1.is; printed = w.1.printed };
          memory = λ seven. absurd (omega (arith, is.1, seven));
        };
        failed = λ six. w.0;
      }
  finished e status h (inr (inr is)) = go (subst (EndsBy own problem options proof bits first last) is.0 h)
    where
      go : EndsBy own problem options proof bits first last end.Memory → IsFinished own problem options proof bits first last status
      go (inl same) = record {
        printed = record { whole = λ x y. absurd (y is.1); write_fault = λ six. absurd (omega (arith, is.1, six)); memory = λ seven. inr same };
        failed = λ six. absurd (omega (arith, is.1, six));
      }
      go (inr w) = record {
        printed = record {
          whole = λ x y. absurd (y is.1);
          write_fault = λ six. absurd (omega (arith, is.1, six));
          memory = λ seven. inl (record { outcome = printed w.status w.text; may_come = w.is; printed = w.printed });
        };
        failed = λ six. absurd (omega (arith, is.1, six));
      }

-- the ends of an elaboration, and of what is needed, in these words
module _ (problem : List ℕ) (options : Options) (proof : List ℕ) (bits : ℕ) (first last : SinkView) where
  pub ends_by : (e : End) → EndsSo problem options proof bits first last e → EndsBy elaboration problem options proof bits first last e
  ends_by (end.Instead j) h = h
  ends_by (end.Written status) h = record { text = h.text; is = h.is; printed = h.printed }
  ends_by end.Failed h = (h.0, record { status = h.1.is.0; text = h.1.text; is = h.1.is.1; printed = h.1.printed })
  ends_by end.Memory (inl same) = inl same
  ends_by end.Memory (inr w) = inr (record { status = w.is.0; text = w.text; is = w.is.1; printed = w.printed })

module _ (part : Part) (problem : List ℕ) (options : Options) (proof : List ℕ) (bits : ℕ) (first last : SinkView) where
  pub needed_ends_by : (e : NeededEnd) → NeededEndsSo part problem options proof bits first last e
      → EndsBy (needed part) problem options proof bits first last (ends_as e)
  needed_ends_by (needed_end.Instead j) h = h
  needed_ends_by needed_end.Written h = record { text = h.text; is = (refl, h.is); printed = h.printed }
  needed_ends_by needed_end.Failed h = (h.0, record { status = 0; text = h.1.text; is = (refl, h.1.is); printed = h.1.printed })
  needed_ends_by needed_end.Memory (inl same) = inl same
  needed_ends_by needed_end.Memory (inr w) = inr (record { status = 0; text = w.text; is = (refl, w.is); printed = w.printed })
