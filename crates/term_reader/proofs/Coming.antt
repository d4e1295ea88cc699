-- Cited by crates above. What calls return that do one part of a reading after another.
use Rattle.std.proofs.Common.{◌≡◌, List, Result, Ok, Err, sym, ap, subst}
use Rattle.std.specs.Prelude.{Contains}
use Rattle.sexpr.specs.declared.causes.Refusal.{Refusal}
use Rattle.sym_table.specs.Table.{Table, Keeps}
use Rattle.term_model.specs.Terms.{Term}
use Rattle.term_pool.specs.Views.{TermsView, KeepsTerms}
use Rattle.problem_text.specs.Outcomes.{Outcome, done, going_on, and_then}
use Rattle.term_expansion.specs.SymbolsAndTerms.{SymbolsAndTerms, both}
use Rattle.term_pool.specs.Placing.{PlacesCellsOf}
use Rattle.term_pool.proofs.PlacedCells.{places_none, places_then, places_more, lacks_more}
use Rattle.term_names.specs.declared.faults.ReadFault.{ReadFault}
use Rattle.term_reader.specs.Reading.{IsReadBy, IsAnswer, Comes, Gives, ComesTo}

-- what the part reads is read by the whole, and a fault of the part is one of the whole
pub record IsPartOf {S A B : Type 0} (read : S → List Term) (o : Outcome S A) (whole : Outcome S B) : Type 0 where
  pub reads : (x : Term) → IsReadBy read o x → IsReadBy read whole x
  pub faults : (refusal : Refusal) → o.result ≡ Err refusal → whole.result ≡ Err refusal

-- a reading that keeps what was read before it
abbrev pub KeepsReads : {S B : Type 0} → (S → List Term) → (S → Outcome S B) → Type 0
KeepsReads {S} read next = (x : Term) (s : S) → Contains (read s) x → Contains (read (next s).state) x

-- a reading is a part of itself with another one after it
pub part_then : {S A B : Type 0} (read : S → List Term) (o : Outcome S A) (next : A → S → Outcome S B) → ((a : A) → KeepsReads read (next a))
    → IsPartOf read o (and_then o next)
part_then {S} {A} {B} read o next keeps = record {
  reads = λ x h. go o.result o.state x h;
  faults = λ refusal e. ap (λ (r : Result A Refusal). (going_on r o.state next).result) e;
}
  where
    go : (r : Result A Refusal) (s : S) (x : Term) → Contains (read s) x → Contains (read (going_on r s next).state) x
    go (Ok a) s x h = keeps a x s h
    go (Err refusal) s x h = h

module _ {S A B T U : Type 0} {read : S → List Term} {s : Table} {old new : TermsView} {M : T → Type 0} {N : U → Type 0} {o : Outcome S A}
    (whole : Outcome S B) (part : IsPartOf read o whole) where
  -- a part has a fault, and so has the whole
  pub fails : {fault : ReadFault} → Comes read old (both s new) M o (Err fault) → Comes read old (both s new) N whole (Err fault)
  fails {fault} h = record { answer = go fault h.answer; placed = places_more s old.pass new.pass _ _ part.reads h.placed }
    where
      go : (fault : ReadFault) → IsAnswer read (both s new) M o (Err fault) → IsAnswer read (both s new) N whole (Err fault)
      go (ReadFault.Text refusal) e = part.faults refusal e
      go ReadFault.PoolFull e = lacks_more s new.pass _ _ part.reads e
      go ReadFault.Memory e = tt

  -- what a part placed is of the whole
  pub answers_whole : {t : T} {u : U} → Comes read old (both s new) M o (Ok t) → N u → Comes read old (both s new) N whole (Ok u)
  answers_whole h n = record { answer = n; placed = places_more s old.pass new.pass _ _ part.reads h.placed }

  -- memory is refused behind a part
  pub forgets : {t : T} → Comes read old (both s new) M o (Ok t) → Comes read old (both s new) N whole (Err ReadFault.Memory)
  forgets h = record { answer = tt; placed = places_more s old.pass new.pass _ _ part.reads h.placed }

module _ {S A B T U : Type 0} {read : S → List Term} {s : Table} {old mid : TermsView} {M : T → A → S → Type 0} {N : U → Type 0} {o : Outcome S A}
    (next : A → S → Outcome S B) (keeps : (a : A) → KeepsReads read (next a)) where
  -- The first part has a fault.
  pub stops : {fault : ReadFault} → ComesTo read old (both s mid) M o (Err fault) → Comes read old (both s mid) N (and_then o next) (Err fault)
  stops h = fails (and_then o next) (part_then read o next keeps) h

  -- The first part has none, and this is what the others return.
  pub goes : {t : T} {z : Table} {new : TermsView} {r : Result U ReadFault} → ComesTo read old (both s mid) M o (Ok t) → Keeps s z → KeepsTerms mid new
      → ((a : A) (q : S) → M t a q → Comes read mid (both z new) N (next a q) r) → Comes read old (both z new) N (and_then o next) r
  goes {t} {z} {new} {r} h table terms k =
      let rest : Comes read mid (both z new) N (next h.answer.value h.answer.state) r = k h.answer.value h.answer.state h.answer.after in
      let is : and_then o next ≡ next h.answer.value h.answer.state = ap (λ (q : Outcome S A). and_then q next) h.answer.is in
      record {
        answer = subst (λ (q : Outcome S B). IsAnswer read (both z new) N q r) (sym is) rest.answer;
        placed =
            places_then s z old.pass mid.pass new.pass (IsReadBy read (and_then o next)) table terms.pass
            (places_more s old.pass mid.pass _ _ (part_then read o next keeps).reads h.placed)
            (subst (λ (q : Outcome S B). PlacesCellsOf z mid.pass new.pass (IsReadBy read q)) (sym is) rest.placed);
      }

module _ {S A T : Type 0} {read : S → List Term} {s : Table} {v : TermsView} {M : T → A → S → Type 0} {o : Outcome S A} where
  -- nothing was placed
  pub answers : {w : TermsView} {t : T} (a : A) (q : S) → w ≡ v → o ≡ done a q → M t a q → ComesTo read v (both s w) M o (Ok t)
  answers {w} {t} a q same e m =
      record { answer = record { value = a; state = q; is = e; after = m }; placed = places_none s v.pass w.pass _ (ap (λ (u : TermsView). u.pass.placed) same) }

module _ {S A T : Type 0} {read : S → List Term} {s : Table} {v : TermsView} {N : T → Type 0} {o : Outcome S A} where
  pub refuses : {w : TermsView} {refusal : Refusal} → w ≡ v → o.result ≡ Err refusal → Comes read v (both s w) N o (Err (ReadFault.Text refusal))
  refuses {w} {refusal} same e = record { answer = e; placed = places_none s v.pass w.pass _ (ap (λ (u : TermsView). u.pass.placed) same) }

  pub no_memory : {w : TermsView} → w ≡ v → Comes read v (both s w) N o (Err ReadFault.Memory)
  no_memory {w} same = record { answer = tt; placed = places_none s v.pass w.pass _ (ap (λ (u : TermsView). u.pass.placed) same) }

-- another name for the outcome
pub same_outcome : {S A T : Type 0} {read : S → List Term} {s : Table} {v w : TermsView} {M : T → A → S → Type 0} {o q : Outcome S A} {r : Result T ReadFault}
    → o ≡ q → ComesTo read v (both s w) M q r → ComesTo read v (both s w) M o r
same_outcome {S} {A} {T} {read} {s} {v} {w} {M} {o} {q} {r} e h = subst (λ (o : Outcome S A). ComesTo read v (both s w) M o r) (sym e) h

-- another relation
pub answers_more : {S A T : Type 0} {read : S → List Term} {s : Table} {v w : TermsView} {M : T → A → S → Type 0}
    (N : T → A → S → Type 0) {o : Outcome S A} {r : Result T ReadFault} → ((t : T) (a : A) (q : S) → M t a q → N t a q)
    → ComesTo read v (both s w) M o r → ComesTo read v (both s w) N o r
answers_more {S} {A} {T} {read} {s} {v} {w} {M} N {o} {r} more h = record { answer = go r h.answer; placed = h.placed }
  where
    go : (r : Result T ReadFault) → IsAnswer read (both s w) (Gives M o) o r → IsAnswer read (both s w) (Gives N o) o r
    go (Ok t) a = record { value = a.value; state = a.state; is = a.is; after = more t a.value a.state a.after }
    go (Err fault) a = a

-- another relation, where there is an answer, and where there is a fault
module _ {S A T U : Type 0} {read : S → List Term} {old : TermsView} {w : SymbolsAndTerms} {M : T → Type 0} {N : U → Type 0} {o : Outcome S A} where
  pub answered : {t : T} {u : U} → Comes read old w M o (Ok t) → N u → Comes read old w N o (Ok u)
  answered h n = record { answer = n; placed = h.placed }

  pub faulted : {fault : ReadFault} → Comes read old w M o (Err fault) → Comes read old w N o (Err fault)
  faulted h = record { answer = h.answer; placed = h.placed }
