-- Answers of one part of the reader after another.
use Rattle.std.proofs.Common.{◌≡◌, Result, Ok, Err, refl, ap, subst}
use Rattle.sym_table.specs.Table.{Table, Keeps}
use Rattle.term_pool.specs.Views.{TermsView, KeepsTerms}
use Rattle.problem_text.specs.Outcomes.{Outcome, and_then}
use Rattle.term_expansion.specs.SymbolsAndTerms.{both}
use Rattle.term_pool.specs.Placing.{PlacesCellsOf}
use Rattle.term_pool.proofs.PlacedCells.{places_then, places_more}
use Rattle.term_names.specs.declared.faults.ReadFault.{ReadFault}
use Rattle.term_reader.specs.Reading.{Comes}
use Rattle.term_reader.proofs.Coming as coming
use Rattle.term_reader.proofs.Coming.{IsPartOf, part_then, same_outcome}
use Rattle.alethe_text.specs.States.{ProofState, Reading}
use Rattle.alethe_reader.specs.Answers.{terms_in, WasRead, AnswersAs}
use Rattle.alethe_reader.specs.KeptReads.{KeepsRead}

-- a part of a whole, the rest of which keeps what was read
pub part_of_whole : {A B : Type 0} (o : Outcome ProofState A) (next : A → Reading B) {whole : Outcome ProofState B} → ((a : A) → KeepsRead (next a)) → and_then o next ≡ whole
    → IsPartOf terms_in o whole
part_of_whole o next keeps e = subst (IsPartOf terms_in o) e (part_then terms_in o next (λ a. (keeps a).keeps))

module _ {A B : Type 0} {s z : Table} (old : TermsView) {v w : TermsView} {o : Outcome ProofState A} {whole : Outcome ProofState B}
    (part : IsPartOf terms_in o whole) (table : Keeps s z) (terms : KeepsTerms v w) (before : PlacesCellsOf s old.pass v.pass (WasRead whole)) where
  -- what was placed before a part, and by it
  pub placed_with : {T : Type 0} {M : T → Type 0} {r : Result T ReadFault} → Comes terms_in v (both z w) M o r
      → PlacesCellsOf z old.pass w.pass (WasRead whole)
  placed_with h = places_then s z old.pass v.pass w.pass (WasRead whole) table terms.pass before (places_more z v.pass w.pass _ _ part.reads h.placed)

  -- the part has a fault
  pub fails_with : {T U : Type 0} {M : T → Type 0} {N : U → Type 0} {fault : ReadFault} → Comes terms_in v (both z w) M o (Err fault)
      → Comes terms_in old (both z w) N whole (Err fault)
  fails_with {N = N} h = record { answer = (coming.fails {N = N} whole part h).answer; placed = placed_with h }

module _ {A B T U : Type 0} {s : Table} {old mid : TermsView} {M : T → A → ProofState → Type 0} {N : U → B → ProofState → Type 0} {o : Outcome ProofState A} (next : A → Reading B) (keeps : (a : A) → KeepsRead (next a)) where
  -- The first part has a fault.
  pub stops : {fault : ReadFault} → AnswersAs old (both s mid) M o (Err fault) → AnswersAs old (both s mid) N (and_then o next) (Err fault)
  stops h = coming.stops next (λ a. (keeps a).keeps) h

  -- The first part has none, and this is what the others return.
  pub goes : {t : T} {z : Table} {new : TermsView} {r : Result U ReadFault} → AnswersAs old (both s mid) M o (Ok t) → Keeps s z → KeepsTerms mid new
      → ((a : A) (p : ProofState) → M t a p → AnswersAs mid (both z new) N (next a p) r) → AnswersAs old (both z new) N (and_then o next) r
  goes {t} {z} {new} {r} h table terms k =
      let rest : AnswersAs mid (both z new) N (and_then o next) r =
      same_outcome (ap (λ (q : Outcome ProofState A). and_then q next) h.answer.is) (k h.answer.value h.answer.state h.answer.after) in
      record {
        answer = rest.answer;
        placed =
            places_then s z old.pass mid.pass new.pass _ table terms.pass
            (places_more s old.pass mid.pass _ _ (part_of_whole o next keeps refl).reads h.placed) rest.placed;
      }
