-- A term that was read is judged by its sort, and the script goes on with it.
use Rattle.std.proofs.Common.{◌≡◌, ℕ, Bool, true, false, List, Result, Ok, Err, if◌then◌else◌, refl, sym, ◌∙◌, ap, subst}
use Rattle.std.specs.Prelude.{⊤, Contains}
use Rattle.sexpr.specs.declared.causes.Cause.TheVariants.{SortMismatch}
use Rattle.sexpr.specs.declared.causes.Refusal.{Refusal}
use Rattle.sexpr.specs.Items.{Item, place_of}
use Rattle.sym_table.specs.Table.{Table}
use Rattle.sym_table.proofs.Tables.{keeps_table}
use Rattle.term_model.specs.declared.symbols.Sort.{Sort}
use Rattle.term_model.specs.Terms.{Term, sort_eq}
use Rattle.term_pool.specs.Views.{TermsView}
use Rattle.term_pool.proofs.Keeping.{terms-refl}
use Rattle.problem_text.specs.Commands.{refused}
use Rattle.problem_text.specs.TypedTerms.{Typed}
use Rattle.problem_text.specs.Outcomes.{Outcome, done, refuse, and_then}
use Rattle.problem_text.specs.Scripts.{Script}
use Rattle.term_names.specs.declared.faults.ReadFault.{ReadFault}
use Rattle.term_expansion.specs.declared.values.Value.{Value}
use Rattle.term_expansion.specs.SymbolsAndTerms.{both}
use Rattle.term_reader.specs.Reading.{ComesTo, Gives, IsAnswer, terms_read}
use Rattle.term_reader.proofs.Coming.{KeepsReads, part_then, answers_whole, forgets, stops, goes, refuses}

-- a sort is the expected one, or refused
abbrev pub checked : Bool → ℕ → Result ⊤ Refusal
checked b place = if b then Ok tt else refused SortMismatch place

-- What is so after a reading is so of what it came to.
pub and_is : {S A T : Type 0} {read : S → List Term} {s : Table} {v w : TermsView} {M : T → A → S → Type 0} {o : Outcome S A} {r : Result T ReadFault}
    → ComesTo read v (both s w) M o r → ComesTo read v (both s w) (λ t a q. M t a q × (o ≡ done a q)) o r
and_is {S} {A} {T} {read} {s} {v} {w} {M} {o} {r} h = record { answer = go r h.answer; placed = h.placed }
  where
    go : (r : Result T ReadFault) → IsAnswer read (both s w) (Gives M o) o r → IsAnswer read (both s w) (Gives (λ t a q. M t a q × (o ≡ done a q)) o) o r
    go (Ok t) a = record { value = a.value; state = a.state; is = a.is; after = (a.after, a.is) }
    go (Err fault) a = a

module _ (target : Sort) (i : Item) (after : Typed → Script → Script) where
  abbrev judged : Typed → Script → Bool → Outcome Script ⊤
  judged t last same = if same then done tt (after t last) else refuse SortMismatch (place_of i) last

  abbrev pub by_sort : Typed → Script → Outcome Script ⊤
  by_sort t last = judged t last (sort_eq t.sort target)

  result_so : (t : Typed) (q : Script) (b : Bool) → (judged t q b).result ≡ checked b (place_of i)
  result_so t q true = refl
  result_so t q false = refl

  is_true : (b : Bool) → checked true (place_of i) ≡ checked b (place_of i) → b ≡ true
  is_true true e = refl
  is_true false e = absurd cc

  module _ (same : (t : Typed) (q : Script) → (after t q).terms ≡ q.terms) where
    keeps : (t : Typed) → KeepsReads terms_read (by_sort t)
    keeps t x q h = go (sort_eq t.sort target)
      where
        go : (b : Bool) → Contains (judged t q b).state.terms x
        go true = subst (λ (ts : List Term). Contains ts x) (sym (same t q)) h
        go false = h

    module _ {s : Table} {old new : TermsView} {M : Value → Typed → Script → Type 0} {N : Unit {0} → ⊤ → Script → Type 0} {o : Outcome Script Typed} where
      pub no_term : {fault : ReadFault} → ComesTo terms_read old (both s new) M o (Err fault) → ComesTo terms_read old (both s new) N (and_then o by_sort) (Err fault)
      no_term h = stops by_sort keeps h

      pub out_of_memory : {c : Value} → ComesTo terms_read old (both s new) M o (Ok c) → ComesTo terms_read old (both s new) N (and_then o by_sort) (Err ReadFault.Memory)
      out_of_memory h = forgets (and_then o by_sort) (part_then terms_read o by_sort keeps) h

      module _ (sort_of : (c : Value) (t : Typed) (q : Script) → M c t q → c.sort ≡ t.sort) {c : Value} (h : ComesTo terms_read old (both s new) M o (Ok c)) where
        pub other_sort : {refusal : Refusal} → Err refusal ≡ checked (sort_eq c.sort target) (place_of i)
            → ComesTo terms_read old (both s new) N (and_then o by_sort) (Err (ReadFault.Text refusal))
        other_sort e =
            goes by_sort keeps h (keeps_table s) (terms-refl new)
            (λ t q m. refuses refl (result_so t q (sort_eq t.sort target) ∙ ap (λ sort. checked (sort_eq sort target) (place_of i)) (sym (sort_of c t q m)) ∙ sym e))

        pub right_sort : checked true (place_of i) ≡ checked (sort_eq c.sort target) (place_of i) → ((t : Typed) (q : Script) → M c t q → o ≡ done t q → sort_eq c.sort target ≡ true → N tt tt (after t q))
            → ComesTo terms_read old (both s new) N (and_then o by_sort) (Ok tt)
        right_sort e k =
            let t = h.answer.value in
            let q = h.answer.state in
            let f = is_true (sort_eq c.sort target) e in
            answers_whole (and_then o by_sort) (part_then terms_read o by_sort keeps) h (record {
              value = tt;
              state = after t q;
              is = ap (λ (p : Outcome Script Typed). and_then p by_sort) h.answer.is ∙ ap (judged t q) (ap (λ sort. sort_eq sort target) (sym (sort_of c t q h.answer.after)) ∙ f);
              after = k t q h.answer.after h.answer.is f;
            })
