-- What an anchor comes to.
use Rattle.std.proofs.Common.{◌≡◌, ◌≢◌, ℕ, zero, List, [], ◌∷◌, ◌++◌, map, length, false, Option, None, Result, Ok, Err, AllPairs, Contains, refl, sym, ap, subst, ◌∙◌, arith}
use Rattle.std.specs.Prelude.{⊤}
use Rattle.std.specs.List.{AllByRecursion, AllZip}
use Rattle.std.proofs.lemmas.List.{map-append}
use Rattle.std.proofs.lemmas.List.Elements.{All-from_recursion}
use Rattle.std.proofs.lemmas.List.Kept.{AllPairs-cons}
use Rattle.std.proofs.lemmas.Bool.{or_parts}
use Rattle.sexpr.specs.declared.causes.Cause.TheVariants.{Repeated}
use Rattle.sexpr.specs.declared.causes.Refusal.{Refusal}
use Rattle.sym_table.specs.Table.{Table}
use Rattle.term_model.specs.Terms.{Var, Term}
use Rattle.term_model.proofs.Zips.{zip_append}
use Rattle.term_pool.specs.Views.{TermsView, KeepsTerms}
use Rattle.rule_model.specs.RuleNames.{IsSymbolName}
use Rattle.rule_model.specs.Scopes.{Nesting, outermost, inside, Scope, next_scope}
use Rattle.rule_model.specs.Visibility.{open_bindings}
use Rattle.rule_model.specs.WellFormed.{MayOpen}
use Rattle.rule_model.specs.Writing.{open_anchor}
use Rattle.term_pool.specs.Bindings.{IsBindingOf}
use Rattle.term_pool.proofs.Keeping.{terms-refl}
use Rattle.proof_store.specs.Meaning.{no_items_stand}
use Rattle.proof_store.specs.Steps.{anchor_with}
use Rattle.text_items.specs.ItemShapes.{Name}
use Rattle.problem_text.specs.Names.{Place}
use Rattle.problem_text.specs.Outcomes.{Outcome, given, and_then}
use Rattle.problem_text.specs.Scripts.{Script}
use Rattle.problem_text.specs.Words.{is_among}
use Rattle.term_names.specs.Standing.{AddsNoSymbols}
use Rattle.term_names.specs.declared.faults.ReadFault.{ReadFault}
use Rattle.term_reader.specs.ProblemViews.{ReaderView, IsReaderOf}
use Rattle.term_reader.proofs.Coming.{answers, refuses, no_memory, same_outcome}
use Rattle.term_reader.proofs.Staying.{adds_none}
use Rattle.alethe_text.specs.Anchors.{bound_names, arguments_read, with_anchor, anchor_read}
use Rattle.alethe_text.specs.Commands.{Argument}
use Rattle.alethe_text.specs.Ids.{id_judged}
use Rattle.alethe_text.specs.ProofTerms.{place_in}
use Rattle.alethe_text.specs.States.{ProofSettings, ProofState, Reading, ◌>>=◌, changed}
use Rattle.alethe_reader.specs.declared.bound.BoundVariables.{BoundVariables}
use Rattle.alethe_reader.specs.declared.ids.Found.{Found}
use Rattle.alethe_reader.specs.declared.ids.Role.TheVariants.{Anchor}
use Rattle.alethe_reader.specs.declared.judging.Named.{Named}
use Rattle.alethe_reader.specs.declared.session.OpenAnchor.{OpenAnchor}
use Rattle.alethe_reader.specs.declared.session.Session.{Session}
use Rattle.alethe_reader.specs.Answers.{AnswersAs}
use Rattle.alethe_reader.specs.KeptReads.{KeepsRead}
use Rattle.alethe_reader.specs.Bound.{AreAnchorsBound}
use Rattle.alethe_reader.specs.Ids.{IsUnused, IsIdFound}
use Rattle.alethe_reader.specs.IdsInUse.{in_use, ids_in}
use Rattle.alethe_reader.specs.Judging.{is_named}
use Rattle.alethe_reader.specs.Opening.{AreFresh, AreArgumentsRead, entered}
use Rattle.alethe_reader.specs.Sessions.{StandForNesting, starts, counts, IsProofSession, IsWritten, StandsAfter}
use Rattle.alethe_reader.proofs.Answering.{stops, goes}
use Rattle.alethe_reader.proofs.IdsInUse.{ids_open, unused_new}
use Rattle.alethe_reader.proofs.OpenedNames.{among_joined, fresh_apart, unbound_leaf}
use Rattle.alethe_reader.proofs.ScopeReading.{reader_inside}
use Rattle.alethe_reader.proofs.StillRead.{keeps_changed}
use Rattle.alethe_reader.proofs.WrittenStays.{written_stays, found_now, unused_now}
use Rattle.term_expansion.specs.SymbolsAndTerms.{both}

-- The leaves of an anchor's variables differ from each other, and from those that open anchors bind.
module _ (s : Table) (v : TermsView) where
  open_stand : (n : Nesting ℕ ℕ) (m : Nesting Var Term) → StandForNesting (both s v) n m → AllZip (IsBindingOf s v) (open_bindings n) (open_bindings m)
  open_stand outermost outermost h = tt
  open_stand outermost (inside around before anchor) h = absurd h
  open_stand (inside around before anchor) outermost h = absurd h
  open_stand (inside around before anchor) (inside outer behind other) h =
      zip_append (IsBindingOf s v) (open_bindings around) (open_bindings outer) anchor.bindings other.bindings (open_stand around outer h.0) h.3

  unbound_leaves : (n : Nesting ℕ ℕ) (m : Nesting Var Term) → StandForNesting (both s v) n m → (bs : List (ℕ × ℕ)) (cs : List (Var × Term)) → AllZip (IsBindingOf s v) bs cs
      → AllByRecursion (λ c. is_among (bound_names m) c.0.name ≡ false) cs → AllByRecursion (λ x. ¬ Contains (map (λ b. b.0) (open_bindings n)) x) (map (λ b. b.0) bs)
  unbound_leaves n m stand [] [] zip free = tt
  unbound_leaves n m stand [] (c ∷ cs) zip free = absurd zip
  unbound_leaves n m stand (b ∷ bs) [] zip free = absurd zip
  unbound_leaves n m stand (b ∷ bs) (c ∷ cs) zip free =
      (unbound_leaf s v (open_bindings n) (open_bindings m) c.0 b.0 (open_stand n m stand) zip.0.variable free.0, unbound_leaves n m stand bs cs zip.1 free.1)

  -- the leaf of a variable differs from those of variables of other names
  other_leaves : (names : List (List ℕ)) (b : ℕ × ℕ) (c : Var × Term) → IsBindingOf s v b c → (bs : List (ℕ × ℕ)) (cs : List (Var × Term)) → AllZip (IsBindingOf s v) bs cs
      → AllByRecursion (λ d. is_among (names ++ c.0.name ∷ []) d.0.name ≡ false) cs → AllByRecursion (λ x. b.0 ≢ x) (map (λ b. b.0) bs)
  other_leaves names b c binds [] [] zip free = tt
  other_leaves names b c binds [] (d ∷ ds) zip free = absurd zip
  other_leaves names b c binds (x ∷ xs) [] zip free = absurd zip
  other_leaves names b c binds (x ∷ xs) (d ∷ ds) zip free =
      let parts = or_parts (is_among names d.0.name) (is_among (c.0.name ∷ []) d.0.name) (sym (among_joined names (c.0.name ∷ []) d.0.name) ∙ free.0) in
      (λ e. unbound_leaf s v (b ∷ []) (c ∷ []) d.0 x.0 (binds, tt) zip.0.variable parts.1 (zero, omega arith, e), other_leaves names b c binds xs ds zip.1 free.1)

  distinct_leaves : (names : List (List ℕ)) (bs : List (ℕ × ℕ)) (cs : List (Var × Term)) → AllZip (IsBindingOf s v) bs cs → AreFresh names cs → AllPairs (λ x y. x ≢ y) (map (λ b. b.0) bs)
  distinct_leaves names [] [] zip fresh = λ i j d below within. absurd (omega (arith, within))
  distinct_leaves names [] (c ∷ cs) zip fresh = absurd zip
  distinct_leaves names (b ∷ bs) [] zip fresh = absurd zip
  distinct_leaves names (b ∷ bs) (c ∷ cs) zip fresh =
      AllPairs-cons (λ x y. x ≢ y) b.0 (map (λ b. b.0) bs)
      (All-from_recursion (λ x. b.0 ≢ x) (map (λ b. b.0) bs) (other_leaves names b c zip.0 bs cs zip.1 (fresh_apart (names ++ c.0.name ∷ []) cs fresh.1)))
      (distinct_leaves (names ++ c.0.name ∷ []) bs cs zip.1 fresh.1)

-- what is returned of the anchor's id, and of its arguments
abbrev pub JudgesId : Named → Option Found → Result ⊤ Refusal → Type 0
JudgesId named found result = (p : ProofState) → IsIdFound (ids_in p.scope) named.name.now found → id_judged Repeated (is_named named) p ≡ given result p

abbrev pub ReadsArguments : Table → TermsView → Session → List Argument → Table → TermsView → ReaderView → BoundVariables → Result ⊤ ReadFault → Type 0
ReadsArguments s v e others z w r b result = (settings : ProofSettings) (p : ProofState) → IsReaderOf s v e.reader p.script (place_in settings p.scope.nesting) → AreAnchorsBound (both s v) e.bound p.scope.nesting
    → AnswersAs v (both z w) (AreArgumentsRead (both z w) settings r b p) (arguments_read settings [] others p) result

module _ {s : Table} {v : TermsView} {settings : ProofSettings} {e : Session} {p : ProofState} (session : IsProofSession (both s v) settings e p) (place : ℕ) (named : Named) {n : Name} (same : is_named named ≡ n) (found : Option Found) (look : IsIdFound e.ids.used named.name.now found) (others : List Argument) where
  -- once the arguments were read
  abbrev opened : List (Var × Term) → Reading ⊤
  opened bs = changed (with_anchor place n.name bs)

  keeps_opened : (bs : List (Var × Term)) → KeepsRead (opened bs)
  keeps_opened bs = keeps_changed (with_anchor place n.name bs) (λ q. refl)

  judged : (result : Result ⊤ Refusal) → JudgesId named found result → anchor_read settings place n others p ≡ and_then (given result p) (λ _ q. and_then (arguments_read settings [] others q) opened)
  unfolding anchor_read ◌>>=◌
  judged result h =
      ap (λ (o : Outcome ProofState ⊤). and_then o (λ _ q. and_then (arguments_read settings [] others q) opened))
      (subst (λ m. id_judged Repeated m p ≡ given result p) same (h p (found_now s v e p named.name.now found look session.written)))

  pub bad_id : {N : ⊤ → ⊤ → ProofState → Type 0} (refusal : Refusal) → JudgesId named found (Err refusal) → AnswersAs v (both s v) N (anchor_read settings place n others p) (Err (ReadFault.Text refusal))
  bad_id refusal h = same_outcome (judged (Err refusal) h) (refuses refl refl)

  module _ (new_id : JudgesId named found (Ok tt)) {z : Table} {w : TermsView} {r : ReaderView} {b : BoundVariables} where
    pub bad_argument : {N : ⊤ → ⊤ → ProofState → Type 0} (fault : ReadFault) → ReadsArguments s v e others z w r b (Err fault) → AnswersAs v (both z w) N (anchor_read settings place n others p) (Err fault)
    bad_argument fault read = same_outcome (judged (Ok tt) new_id) (stops opened keeps_opened (read settings p session.reader session.written.bound))

    module _ (read : ReadsArguments s v e others z w r b (Ok tt)) where
      h : AnswersAs v (both z w) (AreArgumentsRead (both z w) settings r b p) (arguments_read settings [] others p) (Ok tt)
      h = read settings p session.reader session.written.bound

      pub no_room : {N : ⊤ → ⊤ → ProofState → Type 0} → AnswersAs v (both z w) N (anchor_read settings place n others p) (Err ReadFault.Memory)
      no_room = same_outcome (judged (Ok tt) new_id) (goes opened keeps_opened h (adds_none z).keeps (terms-refl w) (λ bs q k. no_memory refl))

      module _ (table : AddsNoSymbols s z) (terms : KeepsTerms v w) (slice : List (ℕ × ℕ)) (sliced : slice ≡ b.opened.items) where
        before : IsWritten (both z w) e p
        before = written_stays s z v w table.keeps terms e p session.written

        name : named.name.now ≡ n.name
        name = ap (λ (m : Name). m.name) same

        -- the anchor may be opened where the proof is written
        pub may_open : IsSymbolName n.name → found ≡ None → MayOpen e.builder.nesting e.builder.items (anchor_with named.name.now slice)
        may_open symbol none =
            let k = h.answer.after in
            let bs = h.answer.value in
            let names : bound_names h.answer.state.scope.nesting ≡ bound_names p.scope.nesting = ap (λ (c : Scope Var Term). bound_names c.nesting) k.same.scope in
            let fresh : AreFresh (bound_names p.scope.nesting) bs = subst (λ ns. AreFresh ns bs) names k.opening.fresh in
            rw sliced (record {
              id = unused_new e.builder named.name.now (subst IsSymbolName (sym name) symbol) (subst (λ us. IsUnused us named.name.now) before.ids (unused_now e.ids.used named.name.now found look none));
              distinct = distinct_leaves z w (bound_names p.scope.nesting) b.opened.items bs k.opening.opened fresh;
              unbound =
                  All-from_recursion (λ x. ¬ Contains (map (λ c. c.0) (open_bindings e.builder.nesting)) x) (map (λ c. c.0) b.opened.items)
                  (unbound_leaves z w e.builder.nesting p.scope.nesting before.nesting b.opened.items bs k.opening.opened (fresh_apart (bound_names p.scope.nesting) bs fresh));
            })

        -- The scope is opened, its id put in use, and its variables in scope.
        pub is_opened : (d : Session) (ids variables number : ℕ) → ids ≡ length e.ids.used → variables ≡ length b.opened.items
            → ((s : Table) (v : TermsView) (sc : Script) (at : Place) (bs : List (Var × Term)) → AllZip (IsBindingOf s v) b.opened.items bs → IsReaderOf s v r sc at → IsReaderOf s v d.reader sc (record at { scope = entered (length bs) bs at.scope }))
            → d.builder ≡ open_anchor e.builder (anchor_with named.name.now slice) → number ≡ next_scope e.builder → d.ids.used ≡ e.ids.used ++ in_use named.name.now Anchor number ∷ []
            → d.anchors.items ≡ e.anchors.items ++ record { place = place; ids = ids; variables = variables } ∷ [] → d.bound ≡ b
            → AnswersAs v (both z w) (StandsAfter (both z w) settings d) (anchor_read settings place n others p) (Ok tt)
        is_opened d ids variables number ids_are variables_are enters building numbering using anchors bound =
            same_outcome (judged (Ok tt) new_id)
            (goes opened keeps_opened h (adds_none z).keeps (terms-refl w) (λ bs q k. answers tt (with_anchor place n.name bs q) refl refl (record { session = after bs q k })))
          where
            built : d.builder ≡ open_anchor e.builder (anchor_with n.name b.opened.items)
            built = rw (sym name, sym sliced) building

            used : d.ids.used ≡ e.ids.used ++ in_use n.name Anchor (next_scope e.builder) ∷ []
            used = rw (sym name, sym numbering) using

            last : OpenAnchor
            last = record { place = place; ids = ids; variables = variables }

            marked : (f : OpenAnchor → ℕ) (ks : List ℕ) → map f e.anchors.items ≡ ks → map f d.anchors.items ≡ ks ++ f last ∷ []
            marked f ks is = ap (map f) anchors ∙ (map-append f e.anchors.items (last ∷ []) ∙ ap (λ l. l ++ f last ∷ []) is)

            written : (bs : List (Var × Term)) (q : ProofState) → AreArgumentsRead (both z w) settings r b p tt bs q → IsWritten (both z w) d (with_anchor place n.name bs q)
            written bs q k = record {
              nesting = rw (built, k.same.scope) (before.nesting, before.items, refl, k.opening.opened);
              items = rw built no_items_stand;
              ids = used ∙ (ap (λ us. us ++ in_use n.name Anchor (next_scope e.builder) ∷ []) before.ids ∙ (sym (ids_open e.builder (anchor_with n.name b.opened.items)) ∙ ap ids_in (sym built)));
              places = marked (λ a. a.place) p.anchors before.places ∙ ap (λ l. l ++ place ∷ []) (sym k.same.anchors);
              starts_kept =
                  marked (λ a. a.ids) (starts e.builder.nesting) before.starts_kept
                  ∙ (ap (λ k. starts e.builder.nesting ++ k ∷ []) (ids_are ∙ ap (λ us. length us) before.ids) ∙ ap (λ (c : Scope ℕ ℕ). starts c.nesting) (sym built));
              counts_kept =
                  marked (λ a. a.variables) (counts e.builder.nesting) before.counts_kept
                  ∙ (ap (λ k. counts e.builder.nesting ++ k ∷ []) variables_are ∙ ap (λ (c : Scope ℕ ℕ). counts c.nesting) (sym built));
              bound = rw bound (record {
                names = k.opening.names ∙ sym (map-append (λ c. c.0.name) (open_bindings q.scope.nesting) bs);
                images = k.opening.images;
                apart = (k.opening.apart, fresh_apart (bound_names q.scope.nesting) bs k.opening.fresh);
              });
            }

            after : (bs : List (Var × Term)) (q : ProofState) → AreArgumentsRead (both z w) settings r b p tt bs q → IsProofSession (both z w) settings d (with_anchor place n.name bs q)
            after bs q k = record {
              reader =
                  reader_inside z w d.reader q.script settings q.scope.nesting q.scope.items (record { id = n.name; bindings = bs })
                  (enters z w q.script (place_in settings q.scope.nesting) bs k.opening.opened k.opening.reader);
              written = written bs q k;
            }
