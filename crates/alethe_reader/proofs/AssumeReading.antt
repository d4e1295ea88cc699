-- What an assume comes to.
use Rattle.std.proofs.Common.{◌≡◌, ℕ, [], ◌∷◌, ◌++◌, Option, Result, Ok, Err, refl, sym, ap, ◌∙◌}
use Rattle.std.specs.Prelude.{⊤}
use Rattle.sexpr.specs.declared.causes.Cause.TheVariants.{BadAnchor}
use Rattle.sexpr.specs.declared.causes.Refusal.{Refusal}
use Rattle.sexpr.specs.Items.{Item}
use Rattle.sym_table.specs.Table.{Table, Keeps}
use Rattle.term_model.specs.Terms.{Term}
use Rattle.term_pool.specs.Views.{TermsView, KeepsTerms}
use Rattle.term_pool.proofs.Keeping.{terms-refl}
use Rattle.rule_model.specs.Scopes.{next_index}
use Rattle.rule_model.specs.Writing.{add_assume}
use Rattle.proof_store.specs.Meaning.{assume_stands}
use Rattle.text_items.specs.ItemShapes.{Name}
use Rattle.problem_text.specs.Outcomes.{Outcome, given, and_then}
use Rattle.term_names.specs.declared.faults.ReadFault.{ReadFault}
use Rattle.term_reader.proofs.Coming.{answers, refuses, no_memory, same_outcome}
use Rattle.term_reader.proofs.Staying.{adds_none}
use Rattle.alethe_text.specs.Ids.{id_judged}
use Rattle.alethe_text.specs.ProofTerms.{formula_in}
use Rattle.alethe_text.specs.States.{ProofSettings, ProofState, Reading, ◌>>=◌, changed}
use Rattle.alethe_text.specs.Steps.{assume_read}
use Rattle.alethe_reader.specs.declared.ids.Found.{Found}
use Rattle.alethe_reader.specs.declared.ids.Role.TheVariants.{Assume}
use Rattle.alethe_reader.specs.declared.session.Session.{Session}
use Rattle.alethe_reader.specs.Answers.{AnswersAs}
use Rattle.alethe_reader.specs.KeptReads.{KeepsRead}
use Rattle.alethe_reader.specs.Ids.{IsIdFound}
use Rattle.alethe_reader.specs.IdsInUse.{in_use, ids_in}
use Rattle.alethe_reader.specs.ReadTerms.{IsReadFormula}
use Rattle.alethe_reader.specs.Sessions.{IsProofSession, IsWritten, StandsAfter}
use Rattle.alethe_reader.proofs.Answering.{stops, goes}
use Rattle.alethe_reader.proofs.IdsInUse.{ids_assume}
use Rattle.alethe_reader.proofs.StillRead.{keeps_changed}
use Rattle.alethe_reader.proofs.WrittenStays.{found_now, written_stays}
use Rattle.term_expansion.specs.SymbolsAndTerms.{both}

-- the id is judged by the ids in use
pub judged_now : {s : Table} {v : TermsView} {settings : ProofSettings} {d : Session} {p : ProofState} {r : Result ⊤ Refusal} (n : Name) (found : Option Found) → IsProofSession (both s v) settings d p → IsIdFound d.ids.used n.name found
    → ((q : ProofState) → IsIdFound (ids_in q.scope) n.name found → id_judged BadAnchor n q ≡ given r q) → id_judged BadAnchor n p ≡ given r p
judged_now n found session looked judged = judged _ (found_now _ _ _ _ _ _ looked session.written)

module _ (settings : ProofSettings) (n : Name) (i : Item) (p : ProofState) where
  -- once the formula was read
  abbrev assumed : Term → Reading ⊤
  assumed t = changed (λ q. record q { scope = add_assume q.scope n.name t })

  keeps_assumed : (t : Term) → KeepsRead (assumed t)
  keeps_assumed t = keeps_changed (λ q. record q { scope = add_assume q.scope n.name t }) (λ q. refl)

  judged : (r : Result ⊤ Refusal) → id_judged BadAnchor n p ≡ given r p → assume_read settings n i p ≡ and_then (given r p) (λ _ q. and_then (formula_in settings q.scope.nesting i q) assumed)
  unfolding assume_read ◌>>=◌
  judged r e = ap (λ (o : Outcome ProofState ⊤). and_then o (λ _ q. and_then (formula_in settings q.scope.nesting i q) assumed)) e

  pub bad_id : (s : Table) (v w : TermsView) (d : Session) (refusal : Refusal) → w ≡ v → id_judged BadAnchor n p ≡ given (Err refusal) p → AnswersAs v (both s w) (StandsAfter (both s w) settings d) (assume_read settings n i p) (Err (ReadFault.Text refusal))
  bad_id s v w d refusal same e = same_outcome (judged (Err refusal) e) (refuses same refl)

  module _ (new_id : id_judged BadAnchor n p ≡ given (Ok tt) p) where
    pub no_formula : (s z : Table) (v w : TermsView) (d e : Session) (fault : ReadFault) → AnswersAs v (both z w) (IsReadFormula (both z w) settings p.scope.nesting d.reader p) (formula_in settings p.scope.nesting i p) (Err fault)
        → AnswersAs v (both z w) (StandsAfter (both z w) settings e) (assume_read settings n i p) (Err fault)
    no_formula s z v w d e fault h = same_outcome (judged (Ok tt) new_id) (stops assumed keeps_assumed h)

    module _ (z : Table) (v w : TermsView) (d : Session) (c : ℕ) (h : AnswersAs v (both z w) (IsReadFormula (both z w) settings p.scope.nesting d.reader p) (formula_in settings p.scope.nesting i p) (Ok c)) where
      pub no_room : (e : Session) → AnswersAs v (both z w) (StandsAfter (both z w) settings e) (assume_read settings n i p) (Err ReadFault.Memory)
      no_room e = same_outcome (judged (Ok tt) new_id) (goes assumed keeps_assumed h (adds_none z).keeps (terms-refl w) (λ t q k. no_memory refl))

      -- the assume is added, and its id put in use
      pub is_assumed : (s : Table) (e : Session) → IsProofSession (both s v) settings e p → Keeps s z → KeepsTerms v w
          → d.builder ≡ add_assume e.builder n.name c → d.ids.used ≡ e.ids.used ++ in_use n.name Assume (next_index e.builder) ∷ [] → d.anchors ≡ e.anchors
          → d.bound ≡ e.bound
          → AnswersAs v (both z w) (StandsAfter (both z w) settings d) (assume_read settings n i p) (Ok tt)
      is_assumed s e session table terms built used anchors bound =
          same_outcome (judged (Ok tt) new_id)
          (goes assumed keeps_assumed h (adds_none z).keeps (terms-refl w) (λ t q k. answers tt (record q { scope = add_assume q.scope n.name t }) refl refl (record { session = after t q k })))
        where
          before : IsWritten (both z w) e p
          before = written_stays s z v w table terms e p session.written

          after : (t : Term) (q : ProofState) → IsReadFormula (both z w) settings p.scope.nesting d.reader p c t q → IsProofSession (both z w) settings d (record q { scope = add_assume q.scope n.name t })
          after t q k = record {
            reader = rw k.behind.scope k.behind.reader;
            written = record {
              nesting = rw (built, k.behind.scope) before.nesting;
              items = rw (built, k.behind.scope) (assume_stands e.builder.items p.scope.items n.name c t before.items k.refers);
              ids = used ∙ (ap (λ us. us ++ in_use n.name Assume (next_index e.builder) ∷ []) before.ids ∙ (sym (ids_assume e.builder n.name c) ∙ ap ids_in (sym built)));
              places = rw (anchors, k.behind.anchors) before.places;
              starts_kept = rw (anchors, built) before.starts_kept;
              counts_kept = rw (anchors, built) before.counts_kept;
              bound = rw (bound, k.behind.scope) before.bound;
            };
          }
