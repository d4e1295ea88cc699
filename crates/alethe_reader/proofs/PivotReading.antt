-- The pivots of a resolution, two arguments after another.
use Rattle.std.proofs.Common.{◌≡◌, ◌<◌, ◌≤◌, ℕ, length, Bool, true, false, List, [], ◌∷◌, ◌++◌, Option, Some, None, unwrap_or, Ok, Err, refl, sym, ap, subst, ◌∙◌}
use Rattle.std.specs.List.{AllZip}
use Rattle.sexpr.specs.Items.{Items}
use Rattle.sym_table.specs.Table.{Table, Keeps}
use Rattle.term_model.specs.Terms.{Var, Term}
use Rattle.term_pool.specs.Views.{TermsView, KeepsTerms}
use Rattle.rule_model.specs.Scopes.{Nesting}
use Rattle.proof_store.specs.Meaning.{IsPivotOf}
use Rattle.text_items.specs.ItemsAt.{ItemsView, end_at, item_at, items_at}
use Rattle.text_items.proofs.ItemsAtLemmas.{items_are}
use Rattle.problem_text.specs.Outcomes.{Outcome, done, and_then}
use Rattle.term_names.specs.Standing.{AddsNoSymbols}
use Rattle.term_names.specs.declared.faults.ReadFault.{ReadFault}
use Rattle.term_reader.specs.ProblemViews.{ReaderView, IsReaderOf}
use Rattle.term_model.proofs.Zips.{zip_weaken}
use Rattle.term_reader.proofs.Staying.{refers_stays}
use Rattle.alethe_text.specs.Arguments.{pivots_from}
use Rattle.text_items.specs.Keywords.{behind_first}
use Rattle.alethe_text.specs.ProofTerms.{place_in}
use Rattle.alethe_text.specs.States.{ProofSettings, ProofState, Reading, ◌>>=◌, give}
use Rattle.alethe_reader.specs.Answers.{AnswersAs}
use Rattle.alethe_reader.specs.KeptReads.{KeepsRead}
use Rattle.alethe_reader.specs.Pivots.{first_alone, EndsPair, pivot_read, one_pivot, both_lists, held_pivots, BothOrNeither, IsReadPivot, AreReadPivots}
use Rattle.alethe_reader.specs.Behind.{IsBehind}
use Rattle.alethe_reader.proofs.LeftToRead.{and_then_then, and_then_same, and_then_give, Left, all_left, none_left, fails, no_room, goes_on}
use Rattle.alethe_reader.proofs.PivotPairs.{others_behind, pair_split, both_assoc, none_before, none_behind}
use Rattle.alethe_reader.proofs.StillRead.{keeps_give, keeps_then}
use Rattle.alethe_reader.proofs.StillReadCommands.{keeps_pivots}
use Rattle.term_expansion.specs.SymbolsAndTerms.{both}

-- pivots go on standing for those that they are
module _ (s z : Table) (v w : TermsView) (table : Keeps s z) (terms : KeepsTerms v w) where
  pub pivots_stay : (ps : List (ℕ × Bool)) (qs : List (Term × Bool)) → AllZip (IsPivotOf s v) ps qs → AllZip (IsPivotOf z w) ps qs
  pivots_stay = zip_weaken (IsPivotOf s v) (IsPivotOf z w) (λ p q k. record { term = refers_stays s z v w table terms p.0 q.0 k.term; truth = k.truth })

  all_stand : (ps : List (ℕ × Bool)) (qs : List (Term × Bool)) (p : ℕ × Bool) (q : Term × Bool) → AllZip (IsPivotOf s v) ps qs → IsPivotOf z w p q
      → AllZip (IsPivotOf z w) (ps ++ p ∷ []) (qs ++ q ∷ [])
  all_stand [] [] p q h is = (is, tt)
  all_stand [] (b ∷ qs) p q h is = absurd h
  all_stand (a ∷ ps) [] p q h is = absurd h
  all_stand (a ∷ ps) (b ∷ qs) p q h is = (record { term = refers_stays s z v w table terms a.0 b.0 h.0.term; truth = h.0.truth }, all_stand ps qs p q h.1 is)

  -- those that were held, and one more where it is there
  pub stand_more : (ps : Option (List (ℕ × Bool))) (qs : Option (List (Term × Bool))) (p : Option (ℕ × Bool)) (q : Option (Term × Bool)) → BothOrNeither (AllZip (IsPivotOf s v)) ps qs
      → BothOrNeither (IsPivotOf z w) p q
      → BothOrNeither (AllZip (IsPivotOf z w)) (both_lists ps (one_pivot p)) (both_lists qs (one_pivot q))
  stand_more None None p q h is = tt
  stand_more None (Some qs) p q h is = absurd h
  stand_more (Some ps) None p q h is = absurd h
  stand_more (Some ps) (Some qs) None None h is = tt
  stand_more (Some ps) (Some qs) None (Some q) h is = absurd is
  stand_more (Some ps) (Some qs) (Some p) None h is = absurd is
  stand_more (Some ps) (Some qs) (Some p) (Some q) h is = all_stand ps qs p q h is

-- these pivots, and then others
abbrev behind : Option (List (Term × Bool)) → Option (List (Term × Bool)) → Reading (Option (List (Term × Bool)))
behind before pivots = give (both_lists before pivots)

-- The pivots that are held stand for those that were read, where all arguments so far are pivots.
pub record AreHeld (s : Table) (v : TermsView) (settings : ProofSettings) (nesting : Nesting Var Term) (r : ReaderView) (old : ProofState) (all : Bool) (refs : List (ℕ × Bool)) (read : Option (List (Term × Bool))) (new : ProofState) : Type 0 where
  pub stand : BothOrNeither (AllZip (IsPivotOf s v)) (held_pivots all refs) read
  pub behind_it : IsBehind (both s v) settings nesting r old new

module _ (settings : ProofSettings) (nesting : Nesting Var Term) (p : ProofState) where
  -- the pivots behind those that were read
  abbrev pub others : Items → Option (List (Term × Bool)) → Reading (Option (List (Term × Bool)))
  others items before = λ q. and_then (pivots_from settings nesting items q) (behind before)

  -- The pivots from node k on, to before node `end`, are left, and these are held of those before them.
  abbrev pub AreLeft : Table → TermsView → TermsView → ReaderView → Bool → List (ℕ × Bool) → ItemsView → ℕ → ℕ → Outcome ProofState (Option (List (Term × Bool))) → Type 0
  AreLeft s old v r all refs = Left s old v others (AreHeld s v settings nesting r p all refs)

  pub left_first : (s : Table) (v : TermsView) (r : ReaderView) (refs : List (ℕ × Bool)) (items : ItemsView) (k end : ℕ) → refs ≡ [] → IsReaderOf s v r p.script (place_in settings nesting)
      → AreLeft s v v r true refs items k end (pivots_from settings nesting (items_at items k end) p)
  left_first s v r refs items k end none reader =
      all_left (Some []) p (sym (and_then_give (pivots_from settings nesting (items_at items k end) p) (both_lists (Some [])) none_before))
      (record { stand = subst (λ rs. AllZip (IsPivotOf s v) rs []) (sym none) tt; behind_it = record { reader = reader; scope = refl; anchors = refl } }) refl

module _ {settings : ProofSettings} {nesting : Nesting Var Term} {p : ProofState} {s : Table} {old v : TermsView} {r : ReaderView} {all : Bool} {refs : List (ℕ × Bool)} {items : ItemsView} {k end : ℕ} {whole : Outcome ProofState (Option (List (Term × Bool)))}
    (h : AreLeft settings nesting p s old v r all refs items k end whole) where
  read_to_end : end ≤ k → (after : List (ℕ × Bool)) → AllZip (IsPivotOf s v) after (unwrap_or h.read []) → AnswersAs old (both s v) (AreReadPivots (both s v) settings nesting r p after) whole (Ok tt)
  unfolding pivots_from
  read_to_end at_end after stand =
      none_left h at_end (both_lists h.read (Some [])) refl
      (record { stand = subst (λ (of : Option (List (Term × Bool))). AllZip (IsPivotOf s v) after (unwrap_or of [])) (sym (none_behind h.read)) stand; behind = h.holds.behind_it })

  -- all arguments were pivots, or some was none
  pub all_held : end ≤ k → all ≡ true → AnswersAs old (both s v) (AreReadPivots (both s v) settings nesting r p refs) whole (Ok tt)
  all_held at_end e = read_to_end at_end refs (go h.read (subst (λ b. BothOrNeither (AllZip (IsPivotOf s v)) (held_pivots b refs) h.read) e h.holds.stand))
    where
      go : (of : Option (List (Term × Bool))) → BothOrNeither (AllZip (IsPivotOf s v)) (Some refs) of → AllZip (IsPivotOf s v) refs (unwrap_or of [])
      go None stand = absurd stand
      go (Some qs) stand = stand

  pub none_held : end ≤ k → all ≡ false → (after : List (ℕ × Bool)) → after ≡ [] → AnswersAs old (both s v) (AreReadPivots (both s v) settings nesting r p after) whole (Ok tt)
  none_held at_end e after none =
      read_to_end at_end after (subst (λ rs. AllZip (IsPivotOf s v) rs (unwrap_or h.read [])) (sym none) (go h.read (subst (λ b. BothOrNeither (AllZip (IsPivotOf s v)) (held_pivots b refs) h.read) e h.holds.stand)))
    where
      go : (of : Option (List (Term × Bool))) → BothOrNeither (AllZip (IsPivotOf s v)) None of → AllZip (IsPivotOf s v) [] (unwrap_or of [])
      go None stand = tt
      go (Some qs) stand = absurd stand

  module _ {m : ℕ} (ends : EndsPair items k m end) where
    abbrev pub one : Outcome ProofState (Option (Term × Bool))
    one = pivot_read settings nesting (item_at items k) (items_at items (end_at items k) m) h.state

    abbrev tail : Option (Term × Bool) → Reading (Option (List (Term × Bool)))
    tail pivot = λ u. and_then (others_behind settings nesting (items_at items m end) pivot u) (behind h.read)

    keeps_tail : (pivot : Option (Term × Bool)) → KeepsRead (tail pivot)
    unfolding ◌>>=◌
    keeps_tail pivot = keeps_then _ _ (keeps_then _ _ (keeps_pivots settings nesting (items_at items m end)) (λ pivots. keeps_give (both_lists (one_pivot pivot) pivots))) (λ pivots. keeps_give (both_lists h.read pivots))

    -- with what stands behind the first argument, and behind the first two
    parted : Items → Items → Outcome ProofState (Option (List (Term × Bool)))
    parted truth rest = and_then (pivot_read settings nesting (item_at items k) truth h.state) (λ pivot u. and_then (others_behind settings nesting rest pivot u) (behind h.read))

    splits : k < end → end ≤ length items.nodes → others settings nesting p (items_at items k end) h.read h.state ≡ and_then one tail
    unfolding parted
    splits less inside =
        let rest = items_at items (end_at items k) end in
        ap (λ xs. others settings nesting p xs h.read h.state) (items_are items k end less inside)
        ∙ ap (λ (o : Outcome ProofState (Option (List (Term × Bool)))). and_then o (behind h.read)) (pair_split settings nesting (item_at items k) rest h.state)
        ∙ and_then_then (pivot_read settings nesting (item_at items k) (first_alone rest) h.state) (others_behind settings nesting (behind_first rest)) (behind h.read)
        ∙ ap (λ xs. parted xs (behind_first rest)) (sym ends.pair) ∙ ap (parted (items_at items (end_at items k) m)) (sym ends.others)

    joins : (pivot : Option (Term × Bool)) (o : Outcome ProofState (Option (List (Term × Bool))))
        → and_then (and_then o (λ pivots. give (both_lists (one_pivot pivot) pivots))) (behind h.read) ≡ and_then o (behind (both_lists h.read (one_pivot pivot)))
    joins pivot o = and_then_then o _ _ ∙ and_then_same o _ _ (λ pivots u. ap (λ x. done x u) (sym (both_assoc h.read (one_pivot pivot) pivots)))

    module _ {z : Table} {w : TermsView} {q : ReaderView} (adds : AddsNoSymbols s z) (keeps : KeepsTerms v w) (less : k < end) (inside : end ≤ length items.nodes) where
      pub no_pivot : {fault : ReadFault} {after : List (ℕ × Bool)} → AnswersAs v (both z w) (IsReadPivot (both z w) settings nesting q h.state) one (Err fault)
          → AnswersAs old (both z w) (AreReadPivots (both z w) settings nesting q p after) whole (Err fault)
      no_pivot this = fails h adds keeps one tail keeps_tail (splits less inside) this

      pub no_memory : {c : Option (ℕ × Bool)} {after : List (ℕ × Bool)} {fault : ReadFault} → fault ≡ ReadFault.Memory → AnswersAs v (both z w) (IsReadPivot (both z w) settings nesting q h.state) one (Ok c)
          → AnswersAs old (both z w) (AreReadPivots (both z w) settings nesting q p after) whole (Err fault)
      no_memory e this = rw e (no_room h adds keeps one tail keeps_tail (splits less inside) this)

      pub left_next : {c : Option (ℕ × Bool)} {still : Bool} {after : List (ℕ × Bool)} → held_pivots still after ≡ both_lists (held_pivots all refs) (one_pivot c)
          → AnswersAs v (both z w) (IsReadPivot (both z w) settings nesting q h.state) one (Ok c)
          → AreLeft settings nesting p z old w q still after items m end whole
      left_next {c} held this =
          let pivot = this.answer.value in
          let is = this.answer.after in
          goes_on h adds keeps one tail keeps_tail (splits less inside) this (both_lists h.read (one_pivot pivot)) (joins pivot (pivots_from settings nesting (items_at items m end) this.answer.state)) (record {
            stand =
                subst (λ o. BothOrNeither (AllZip (IsPivotOf z w)) o (both_lists h.read (one_pivot pivot))) (sym held)
                (stand_more s z v w adds.keeps keeps (held_pivots all refs) h.read c pivot h.holds.stand is.stands);
            behind_it = record { reader = is.behind.reader; scope = is.behind.scope ∙ h.holds.behind_it.scope; anchors = is.behind.anchors ∙ h.holds.behind_it.anchors };
          })
