-- The terms that get a name, as the nodes are gone over one by one: into each list that is none of them.
use Rattle.std.proofs.Common.{◌≡◌, ◌<◌, ◌≤◌, ℕ, zero, suc, ◌+◌, arith, length, Bool, true, false, Ok, Err, refl, sym, ap, ◌∙◌, if◌then◌else◌}
use Rattle.std.specs.Prelude.{⊤, nat_lt}
use Rattle.std.proofs.lemmas.Bool.Decides.{nat_tests}
use Rattle.sexpr.specs.Items.{Item, word, quoted, string, list}
use Rattle.sym_table.specs.Table.{Table}
use Rattle.term_model.specs.Terms.{Var, Term}
use Rattle.term_pool.specs.Views.{TermsView, KeepsTerms}
use Rattle.rule_model.specs.Scopes.{Nesting}
use Rattle.text_items.specs.declared.nodes.Node.{Node}
use Rattle.text_items.specs.ItemShapes.{items_of}
use Rattle.text_items.specs.ItemsAt.{ItemsView, end_at, item_at, items_at}
use Rattle.text_items.specs.Stepping.{EndBy, IsItemNode}
use Rattle.text_items.proofs.ItemsAtLemmas.{ends_behind, items_are, no_items_are, first_and_others, end_by_rest}
use Rattle.problem_text.specs.Outcomes.{Outcome, and_then}
use Rattle.problem_text.specs.TypedTerms.{Typed}
use Rattle.term_expansion.specs.declared.values.Value.{Value}
use Rattle.term_names.specs.Standing.{AddsNoSymbols}
use Rattle.term_names.specs.declared.faults.ReadFault.{ReadFault}
use Rattle.term_reader.specs.ProblemViews.{ReaderView, IsReaderOf}
use Rattle.alethe_text.specs.Arguments.{is_naming, named_in, named_among}
use Rattle.alethe_text.specs.ProofTerms.{place_in, term_in}
use Rattle.alethe_text.specs.States.{ProofSettings, ProofState, Reading, ◌>>=◌, give}
use Rattle.alethe_reader.specs.Answers.{AnswersAs}
use Rattle.alethe_reader.specs.Arguments.{AreNamed}
use Rattle.alethe_reader.specs.ReadTerms.{IsReadValue}
use Rattle.alethe_reader.proofs.LeftToRead.{and_then_then, and_then_same, Left, all_left, none_left, fails, goes_on}
use Rattle.alethe_reader.proofs.StillReadCommands.{keeps_named_among}
use Rattle.term_expansion.specs.SymbolsAndTerms.{both}

-- whether an item is left, and which
pub ruleset items_shown = (items_are, no_items_are)

module _ (settings : ProofSettings) (nesting : Nesting Var Term) where
  module _ (items : ItemsView) (m end : ℕ) (inside : m ≤ end) (within : end ≤ length items.nodes) where
    -- the terms that get a name among the items before node m, and then among those from there on
    abbrev one_then_rest : ℕ → ProofState → Outcome ProofState ⊤
    one_then_rest k p = and_then (named_among settings nesting (items_at items k m) p) (λ _. named_among settings nesting (items_at items m end))

    none_before : (k : ℕ) → m ≤ k → k ≤ m → (p : ProofState) → named_among settings nesting (items_at items k end) p ≡ one_then_rest k p
    unfolding named_in
    none_before k less ordered p =
        let same : k ≡ m = omega arith in
        ap (λ j. named_among settings nesting (items_at items j end) p) same
        ∙ ap (λ xs. and_then (named_among settings nesting xs p) (λ _. named_among settings nesting (items_at items m end))) (sym (no_items_are items k m less))

    one_before : (k : ℕ) → k < m → ((s : ProofState) → named_among settings nesting (items_at items (end_at items k) end) s ≡ one_then_rest (end_at items k) s) → (p : ProofState)
        → named_among settings nesting (items_at items k end) p ≡ one_then_rest k p
    unfolding named_in ◌>>=◌
    one_before k less others p =
        ap (λ xs. named_among settings nesting xs p) (items_are items k end (omega (arith, less, inside)) within)
        ∙ and_then_same (named_in settings nesting (item_at items k) p) _ _ (λ _. others)
        ∙ sym (and_then_then (named_in settings nesting (item_at items k) p) (λ _. named_among settings nesting (items_at items (end_at items k) m)) (λ _. named_among settings nesting (items_at items m end)))
        ∙ ap (λ xs. and_then (named_among settings nesting xs p) (λ _. named_among settings nesting (items_at items m end))) (sym (items_are items k m less (omega (arith, inside, within))))

    named_split : (steps k : ℕ) → m ≤ k + steps → k ≤ m → EndBy items k m → (p : ProofState) → named_among settings nesting (items_at items k end) p ≡ one_then_rest k p
    named_split zero k few ordered nested p = none_before k (omega (arith, few)) ordered p
    named_split (suc steps) k few ordered nested p =
        go (nat_lt k m) refl (λ less. let later = ends_behind items k in named_split steps (end_at items k) (omega (arith, few, later)) (nested k (omega arith) less) (end_by_rest items k (end_at items k) m nested (omega (arith, later))))
      where
        go : (b : Bool) → nat_lt k m ≡ b → (k < m → (s : ProofState) → named_among settings nesting (items_at items (end_at items k) end) s ≡ one_then_rest (end_at items k) s)
            → named_among settings nesting (items_at items k end) p ≡ one_then_rest k p
        go true e others = let less : k < m = grind (arith, nat_tests) in one_before k less (others less) p
        go false e others = none_before k (grind (arith, nat_tests)) ordered p

  -- a term that gets a name is read
  naming_read : (i : Item) → is_naming (items_of i) ≡ true → (p : ProofState) → named_in settings nesting i p ≡ and_then (term_in settings nesting i p) (λ _. give tt)
  unfolding named_in ◌>>=◌
  naming_read (word place spelling) h p = absurd (cc)
  naming_read (quoted place spelling) h p = absurd (cc)
  naming_read (string place spelling) h p = absurd (cc)
  naming_read (list place items) h p = ap (λ b. (if b then (term_in settings nesting (list place items) >>= λ _. give tt) else named_among settings nesting items) p) h

  -- what is in an item that is no such term
  no_naming : (i : Item) → is_naming (items_of i) ≡ false → (p : ProofState) → named_in settings nesting i p ≡ named_among settings nesting (items_of i) p
  unfolding named_in
  no_naming (word place spelling) h p = refl
  no_naming (quoted place spelling) h p = refl
  no_naming (string place spelling) h p = refl
  no_naming (list place items) h p = ap (λ b. (if b then (term_in settings nesting (list place items) >>= λ _. give tt) else named_among settings nesting items) p) h

module _ (settings : ProofSettings) (nesting : Nesting Var Term) (p : ProofState) where
  -- The terms that get a name from node k on, to before node `end`, are left, and those before them were read.
  abbrev pub AreLeft : Table → TermsView → TermsView → ReaderView → ItemsView → ℕ → ℕ → Outcome ProofState ⊤ → Type 0
  AreLeft s old v r = Left s old v (λ xs (_ : ⊤). named_among settings nesting xs) (AreNamed (both s v) settings nesting r p tt)

  pub left_first : (s : Table) (v : TermsView) (r : ReaderView) (items : ItemsView) (k end : ℕ) → IsReaderOf s v r p.script (place_in settings nesting)
      → AreLeft s v v r items k end (named_among settings nesting (items_at items k end) p)
  left_first s v r items k end reader = all_left tt p refl (record { behind = record { reader = reader; scope = refl; anchors = refl } }) refl

module _ {settings : ProofSettings} {nesting : Nesting Var Term} {p : ProofState} {s : Table} {old v : TermsView} {r : ReaderView} {items : ItemsView} {k end : ℕ} {whole : Outcome ProofState ⊤} (h : AreLeft settings nesting p s old v r items k end whole) where
  pub all_read : end ≤ k → AnswersAs old (both s v) (AreNamed (both s v) settings nesting r p) whole (Ok tt)
  unfolding named_in
  all_read at_end = none_left h at_end tt refl (record { behind = h.holds.behind })

  module _ {node : Node} (read : IsItemNode items k node) (less : k < end) (inside : end ≤ length items.nodes) where
    abbrev rest : Reading ⊤
    rest = named_among settings nesting (items_at items node.next end)

    -- the first item, and then the others
    split : named_among settings nesting (items_at items k end) h.state ≡ and_then (named_in settings nesting (item_at items k) h.state) (λ _. rest)
    unfolding named_in ◌>>=◌
    split = ap (λ xs. named_among settings nesting xs h.state) (first_and_others items k end node read less inside)

    -- past what is no such term and no list, or into a list
    pub left_inside : is_naming (items_of (item_at items k)) ≡ false → node.next ≤ end → AreLeft settings nesting p s old v r items (k + 1) end whole
    left_inside none within = record {
      read = tt;
      state = h.state;
      comes =
          h.comes ∙ split
          ∙ ap (λ (o : Outcome ProofState ⊤). and_then o (λ _. rest)) (no_naming settings nesting (item_at items k) none h.state ∙ ap (λ xs. named_among settings nesting xs h.state) read.children)
          ∙ sym (named_split settings nesting items node.next end within inside node.next (k + 1) (omega arith) (omega (arith, read.behind)) read.nested h.state);
      holds = record { behind = h.holds.behind };
      placed = h.placed;
    }

    abbrev pub one : Outcome ProofState Typed
    one = term_in settings nesting (item_at items k) h.state

    splits : is_naming (items_of (item_at items k)) ≡ true → named_among settings nesting (items_at items k end) h.state ≡ and_then one (λ _. rest)
    splits is = split ∙ ap (λ (o : Outcome ProofState ⊤). and_then o (λ _. rest)) (naming_read settings nesting (item_at items k) is h.state) ∙ and_then_then one (λ _. give tt) (λ _. rest)

    module _ {z : Table} {w : TermsView} {q : ReaderView} (adds : AddsNoSymbols s z) (keeps : KeepsTerms v w) (is : is_naming (items_of (item_at items k)) ≡ true) where
      pub no_term : {fault : ReadFault} → AnswersAs v (both z w) (IsReadValue (both z w) settings nesting q h.state) one (Err fault) → AnswersAs old (both z w) (AreNamed (both z w) settings nesting q p) whole (Err fault)
      no_term this = fails h adds keeps one (λ _. rest) (λ _. keeps_named_among settings nesting (items_at items node.next end)) (splits is) this

      pub left_behind : {c : Value} → AnswersAs v (both z w) (IsReadValue (both z w) settings nesting q h.state) one (Ok c) → AreLeft settings nesting p z old w q items node.next end whole
      left_behind this =
          let after = this.answer.after.behind in
          goes_on h adds keeps one (λ _. rest) (λ _. keeps_named_among settings nesting (items_at items node.next end)) (splits is) this tt refl
          (record { behind = record { reader = after.reader; scope = after.scope ∙ h.holds.behind.scope; anchors = after.anchors ∙ h.holds.behind.anchors } })
