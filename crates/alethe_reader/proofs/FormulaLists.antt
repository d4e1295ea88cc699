-- Formulas, one after another.
use Rattle.std.proofs.Common.{◌≡◌, ◌<◌, ◌≤◌, ℕ, List, [], ◌∷◌, ◌++◌, length, Ok, Err, refl, sym, ap, subst, ◌∙◌}
use Rattle.std.proofs.lemmas.List.{append_assoc, append-nil}
use Rattle.sexpr.specs.Items.{Items}
use Rattle.sym_table.specs.Table.{Table}
use Rattle.term_model.specs.Terms.{Var, Term}
use Rattle.term_pool.specs.Views.{TermsView, RefersTo, ReferToAll, KeepsTerms}
use Rattle.rule_model.specs.Scopes.{Nesting}
use Rattle.text_items.specs.declared.nodes.Node.{Node}
use Rattle.text_items.specs.ItemsAt.{ItemsView, end_at, item_at, items_at}
use Rattle.text_items.specs.Stepping.{IsItemNode}
use Rattle.text_items.proofs.ItemsAtLemmas.{items_are}
use Rattle.problem_text.specs.Outcomes.{Outcome, done, and_then}
use Rattle.term_names.specs.Standing.{AddsNoSymbols}
use Rattle.term_names.specs.declared.faults.ReadFault.{ReadFault}
use Rattle.term_reader.specs.ProblemViews.{ReaderView, IsReaderOf}
use Rattle.term_reader.proofs.Staying.{refers_stays}
use Rattle.alethe_text.specs.ProofTerms.{place_in, formula_in, formulas_in}
use Rattle.alethe_text.specs.States.{ProofSettings, ProofState, Reading, ◌>>=◌, give}
use Rattle.alethe_reader.specs.Answers.{AnswersAs}
use Rattle.alethe_reader.specs.KeptReads.{KeepsRead}
use Rattle.alethe_reader.specs.ReadTerms.{IsReadFormula, AreReadFormulas}
use Rattle.alethe_reader.proofs.LeftToRead.{and_then_then, and_then_same, and_then_give, Left, all_left, none_left, fails, no_room, goes_on}
use Rattle.alethe_reader.proofs.StillRead.{keeps_give, keeps_then, keeps_formulas}
use Rattle.term_expansion.specs.SymbolsAndTerms.{both}

-- references still stand for their terms, and one more does
all_refer : (s z : Table) (v w : TermsView) → AddsNoSymbols s z → KeepsTerms v w → (rs : List ℕ) (ts : List Term) (r : ℕ) (t : Term) → ReferToAll s v rs ts → RefersTo z w r t
    → ReferToAll z w (rs ++ r ∷ []) (ts ++ t ∷ [])
all_refer s z v w adds keeps [] [] r t h is = (is, tt)
all_refer s z v w adds keeps [] (u ∷ ts) r t h is = absurd h
all_refer s z v w adds keeps (q ∷ rs) [] r t h is = absurd h
all_refer s z v w adds keeps (q ∷ rs) (u ∷ ts) r t h is = (refers_stays s z v w adds.keeps keeps q u h.0, all_refer s z v w adds keeps rs ts r t h.1 is)

-- these formulas, and then others
abbrev behind : List Term → List Term → Reading (List Term)
behind ts us = give (ts ++ us)

module _ (settings : ProofSettings) (nesting : Nesting Var Term) (p : ProofState) where
  -- the formulas behind those that were read
  abbrev pub others : Items → List Term → Reading (List Term)
  others items ts = λ q. and_then (formulas_in settings nesting items q) (behind ts)

  -- The formulas from node k on, to before node `end`, are left; those before them were read, for which these references stand.
  abbrev pub AreLeft : Table → TermsView → TermsView → ReaderView → List ℕ → ItemsView → ℕ → ℕ → Outcome ProofState (List Term) → Type 0
  AreLeft s old v r refs = Left s old v others (AreReadFormulas (both s v) settings nesting r p refs tt)

  pub left_first : (s : Table) (v : TermsView) (r : ReaderView) (refs : List ℕ) (items : ItemsView) (k end : ℕ) → refs ≡ [] → IsReaderOf s v r p.script (place_in settings nesting)
      → AreLeft s v v r refs items k end (formulas_in settings nesting (items_at items k end) p)
  left_first s v r refs items k end none reader =
      all_left [] p (sym (and_then_give (formulas_in settings nesting (items_at items k end) p) (λ ts. [] ++ ts) (λ ts. refl))) (record { refer = subst (λ rs. ReferToAll s v rs []) (sym none) tt; behind = record { reader = reader; scope = refl; anchors = refl } }) refl

module _ {settings : ProofSettings} {nesting : Nesting Var Term} {p : ProofState} {s : Table} {old v : TermsView} {r : ReaderView} {refs : List ℕ} {whole : Outcome ProofState (List Term)} {items : ItemsView} {k end : ℕ}
    (h : AreLeft settings nesting p s old v r refs items k end whole) where
  pub all_read : end ≤ k → AnswersAs old (both s v) (AreReadFormulas (both s v) settings nesting r p refs) whole (Ok tt)
  unfolding formulas_in
  all_read at_end =
      none_left h at_end (h.read ++ []) refl (record { refer = subst (λ ts. ReferToAll s v refs ts) (sym (append-nil h.read)) h.holds.refer; behind = h.holds.behind })

  abbrev rest : Items
  rest = items_at items (end_at items k) end

  abbrev pub one : Outcome ProofState Term
  one = formula_in settings nesting (item_at items k) h.state

  abbrev tail : Term → Reading (List Term)
  tail t = λ u. and_then (and_then (formulas_in settings nesting rest u) (λ ts. give (t ∷ ts))) (behind h.read)

  keeps_tail : (t : Term) → KeepsRead (tail t)
  unfolding ◌>>=◌
  keeps_tail t = keeps_then _ _ (keeps_then _ _ (keeps_formulas settings nesting rest) (λ ts. keeps_give (t ∷ ts))) (λ us. keeps_give (h.read ++ us))

  splits : k < end → end ≤ length items.nodes → others settings nesting p (items_at items k end) h.read h.state ≡ and_then one tail
  unfolding formulas_in ◌>>=◌
  splits less inside = ap (λ xs. others settings nesting p xs h.read h.state) (items_are items k end less inside) ∙ and_then_then one (λ t u. and_then (formulas_in settings nesting rest u) (λ ts. give (t ∷ ts))) (behind h.read)

  joins : (t : Term) (o : Outcome ProofState (List Term)) → and_then (and_then o (λ ts. give (t ∷ ts))) (behind h.read) ≡ and_then o (behind (h.read ++ t ∷ []))
  joins t o = and_then_then o _ _ ∙ and_then_same o _ _ (λ us u. ap (λ xs. done xs u) (sym (append_assoc h.read (t ∷ []) us)))

  module _ {z : Table} {w : TermsView} {q : ReaderView} (adds : AddsNoSymbols s z) (keeps : KeepsTerms v w) (less : k < end) (inside : end ≤ length items.nodes) where
    pub no_formula : {fault : ReadFault} {after : List ℕ} → AnswersAs v (both z w) (IsReadFormula (both z w) settings nesting q h.state) one (Err fault)
        → AnswersAs old (both z w) (AreReadFormulas (both z w) settings nesting q p after) whole (Err fault)
    no_formula this = fails h adds keeps one tail keeps_tail (splits less inside) this

    pub no_memory : {c : ℕ} {after : List ℕ} → AnswersAs v (both z w) (IsReadFormula (both z w) settings nesting q h.state) one (Ok c)
        → AnswersAs old (both z w) (AreReadFormulas (both z w) settings nesting q p after) whole (Err ReadFault.Memory)
    no_memory this = no_room h adds keeps one tail keeps_tail (splits less inside) this

    pub left_next : {c : ℕ} {node : Node} {after : List ℕ} → IsItemNode items k node → after ≡ refs ++ c ∷ [] → AnswersAs v (both z w) (IsReadFormula (both z w) settings nesting q h.state) one (Ok c)
        → AreLeft settings nesting p z old w q after items node.next end whole
    left_next {c} {node} {after} read pushed this =
        let t = this.answer.value in
        let u = this.answer.state in
        let is = this.answer.after in
        goes_on h adds keeps one tail keeps_tail (splits less inside) this (h.read ++ t ∷ []) (joins t (formulas_in settings nesting rest u) ∙ ap (λ n. others settings nesting p (items_at items n end) (h.read ++ t ∷ []) u) (sym read.next)) (record {
          refer = subst (λ rs. ReferToAll z w rs (h.read ++ t ∷ [])) (sym pushed) (all_refer s z v w adds keeps refs h.read c t h.holds.refer is.refers);
          behind = record { reader = is.behind.reader; scope = is.behind.scope ∙ h.holds.behind.scope; anchors = is.behind.anchors ∙ h.holds.behind.anchors };
        })
