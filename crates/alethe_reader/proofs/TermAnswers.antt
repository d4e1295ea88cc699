-- What the reader of terms returns is what a term in a scope comes to.
use Rattle.std.proofs.Common.{◌≡◌, true, false, Result, Ok, Err, refl, sym, ap, ◌∙◌}
use Rattle.sexpr.specs.declared.causes.Cause.TheVariants.{SortMismatch}
use Rattle.sexpr.specs.declared.causes.Refusal.{Refusal}
use Rattle.sexpr.specs.Items.{Item, place_of}
use Rattle.sym_table.specs.Table.{Table}
use Rattle.term_model.specs.declared.symbols.Sort.{Sort}
use Rattle.term_model.specs.Terms.{Var, Term, sort_eq}
use Rattle.term_pool.specs.Views.{TermsView}
use Rattle.term_pool.proofs.Keeping.{terms-refl}
use Rattle.rule_model.specs.Scopes.{Nesting}
use Rattle.problem_text.specs.Outcomes.{Outcome, done}
use Rattle.problem_text.specs.Scripts.{Script}
use Rattle.problem_text.specs.Terms.{read_term}
use Rattle.problem_text.specs.TypedTerms.{Typed}
use Rattle.term_expansion.specs.declared.values.Value.{Value}
use Rattle.term_names.specs.declared.faults.ReadFault.{ReadFault}
use Rattle.term_reader.specs.ProblemViews.{ReaderView, ReadsValue}
use Rattle.term_reader.proofs.Coming.{answers, refuses}
use Rattle.term_reader.proofs.Staying.{adds_none}
use Rattle.alethe_text.specs.ProofTerms.{place_in, term_in, formula_in}
use Rattle.alethe_text.specs.States.{ProofSettings, ProofState, Reading, ◌>>=◌, give, demand}
use Rattle.alethe_reader.specs.Answers.{AnswersAs}
use Rattle.alethe_reader.specs.KeptReads.{KeepsRead}
use Rattle.alethe_reader.specs.ReadTerms.{IsReadValue, IsReadFormula}
use Rattle.alethe_reader.proofs.Answering.{stops, goes}
use Rattle.alethe_reader.proofs.StillRead.{keeps_then, keeps_demand, keeps_give}
use Rattle.term_expansion.specs.SymbolsAndTerms.{both}

module _ (s : Table) (old new : TermsView) (settings : ProofSettings) (nesting : Nesting Var Term) (r : ReaderView) (i : Item) (p : ProofState) where
  pub value_answers : (result : Result Value ReadFault) → ReadsValue s old new r (place_in settings nesting) (read_term i (place_in settings nesting) p.script) result
      → AnswersAs old (both s new) (IsReadValue (both s new) settings nesting r p) (term_in settings nesting i p) result
  unfolding term_in
  value_answers (Ok c) h = record {
    answer = record {
      value = h.answer.value;
      state = record p { script = h.answer.state };
      is = ap (λ (o : Outcome Script Typed). record { result = o.result; state = record p { script = o.state } }) h.answer.is;
      after = record { is = h.answer.after.is; low = h.answer.after.low; behind = record { reader = h.answer.after.reader; scope = refl; anchors = refl } };
    };
    placed = h.placed;
  }
  value_answers (Err fault) h = record { answer = h.answer; placed = h.placed }

  -- a term that was read is a formula, where its sort is Bool
  abbrev judged : Typed → Reading Term
  judged t = demand (sort_eq t.sort Sort.Bool) SortMismatch (place_of i) >>= λ _. give t.tree

  keeps_judged : (t : Typed) → KeepsRead (judged t)
  keeps_judged t = keeps_then (demand (sort_eq t.sort Sort.Bool) SortMismatch (place_of i)) _ (keeps_demand _ _ _) (λ _. keeps_give t.tree)

  pub no_formula : (fault : ReadFault) → AnswersAs old (both s new) (IsReadValue (both s new) settings nesting r p) (term_in settings nesting i p) (Err fault)
      → AnswersAs old (both s new) (IsReadFormula (both s new) settings nesting r p) (formula_in settings nesting i p) (Err fault)
  unfolding formula_in ◌>>=◌
  no_formula fault h = stops judged keeps_judged h

  module _ (c : Value) (h : AnswersAs old (both s new) (IsReadValue (both s new) settings nesting r p) (term_in settings nesting i p) (Ok c)) where
    pub other_sort : sort_eq c.sort Sort.Bool ≡ false → (refusal : Refusal) → refusal ≡ record { cause = SortMismatch; at = place_of i }
        → AnswersAs old (both s new) (IsReadFormula (both s new) settings nesting r p) (formula_in settings nesting i p) (Err (ReadFault.Text refusal))
    unfolding formula_in ◌>>=◌
    other_sort e refusal is = goes judged keeps_judged h (adds_none s).keeps (terms-refl new) (λ t q k. refuses refl (go t q (ap (λ sort. sort_eq sort Sort.Bool) (sym k.is.sort) ∙ e)))
      where
        go : (t : Typed) (q : ProofState) → sort_eq t.sort Sort.Bool ≡ false → (judged t q).result ≡ Err refusal
        go t q f = rw (f, is) refl

    pub is_formula : sort_eq c.sort Sort.Bool ≡ true → AnswersAs old (both s new) (IsReadFormula (both s new) settings nesting r p) (formula_in settings nesting i p) (Ok c.term)
    unfolding formula_in ◌>>=◌
    is_formula e = goes judged keeps_judged h (adds_none s).keeps (terms-refl new) (λ t q k. answers t.tree q refl (go t q (ap (λ sort. sort_eq sort Sort.Bool) (sym k.is.sort) ∙ e)) (record { refers = k.is.refers; behind = k.behind }))
      where
        go : (t : Typed) (q : ProofState) → sort_eq t.sort Sort.Bool ≡ true → judged t q ≡ done t.tree q
        go t q f = rw f refl
