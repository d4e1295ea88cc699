-- A whole proof that was read.
use Rattle.std.proofs.Common.{◌≡◌, refl, sym, ◌∙◌, ap, subst, ℕ, List, [], ◌∷◌, map, length, arith, Bool, true, false, Option, Some, None, Result, Ok, Err, IfOk, inr, if◌then◌else◌, slice_index_or, slice_get}
use Rattle.std.proofs.lemmas.List.{length-append}
use Rattle.sexpr.specs.declared.causes.Cause.TheVariants.{BadCommand, BadAnchor}
use Rattle.sexpr.specs.declared.causes.Refusal.{Refusal}
use Rattle.sexpr.specs.declared.lexing.Lexer.{Lexer}
use Rattle.sexpr.specs.Form.{HasForm}
use Rattle.sexpr.specs.Items.{Items, no_items, item, StandsForItems}
use Rattle.sexpr.specs.Source.{source, position}
use Rattle.sym_table.specs.Table.{Table}
use Rattle.term_model.specs.Terms.{Var, Term}
use Rattle.term_pool.specs.Views.{TermsView}
use Rattle.rule_model.specs.Proofs.{ProofItems as Proof}
use Rattle.rule_model.specs.Scopes.{Nesting, outermost, inside, at}
use Rattle.rule_model.specs.Writing.{unwritten}
use Rattle.proof_store.specs.Meaning.{StandForItems, no_items_stand}
use Rattle.text_items.specs.ItemShapes.{excess}
use Rattle.problem_text.specs.Outcomes.{Outcome}
use Rattle.problem_text.specs.Scripts.{Script}
use Rattle.term_pool.specs.Placing.{PlacesCellsOf, LacksCellOf}
use Rattle.term_pool.proofs.PlacedCells.{places_more, lacks_more}
use Rattle.term_names.specs.declared.faults.ReadFault.{ReadFault}
use Rattle.term_reader.specs.ProblemViews.{IsReaderOf}
use Rattle.term_reader.specs.Reading.{EndsWith}
use Rattle.alethe_text.specs.ProofTerms.{place_in}
use Rattle.alethe_text.specs.ProofTexts.{commands, behind_answer, is_list_of_commands, unwrapped_commands, excess_behind, none_behind, closed_proof, finished, proof_from, StandsForProof, IsFirstProofFault}
use Rattle.alethe_text.specs.States.{ProofSettings, ProofState, unread, ◌>>=◌}
use Rattle.alethe_commands.specs.TextItems.{HasCommandItems, behind_list}
use Rattle.alethe_reader.specs.Answers.{WasRead}
use Rattle.alethe_reader.specs.Bound.{AreAnchorsBound}
use Rattle.alethe_reader.specs.IdsInUse.{ids_in}
use Rattle.alethe_reader.specs.Reading.{IsCountedOfProof, IsProofOf}
use Rattle.alethe_reader.specs.Sessions.{StandForNesting, starts, IsProofSession}
use Rattle.alethe_reader.specs.Settings.{proof_settings}
use Rattle.alethe_reader.specs.TextReading.{closing_from, left_from, AreCommandsLeft, ReadsProof, IsFinished}
use Rattle.alethe_reader.specs.declared.session.OpenAnchor.{OpenAnchor}
use Rattle.alethe_reader.specs.declared.session.Session.{Session}
use Rattle.alethe_reader.specs.declared.settings.SessionSettings.{SessionSettings}
use Rattle.alethe_text.proofs.CommandNames.{commands_named}
use Rattle.alethe_text.proofs.SymbolNames.{AreSpelled}
use Rattle.term_expansion.specs.SymbolsAndTerms.{both}

-- nothing was read of a proof
pub is_new : (s : Table) (v : TermsView) (settings : ProofSettings) (d : Session) (before : Script) → d.builder ≡ unwritten → d.ids.used ≡ []
    → d.anchors.items ≡ []
    → AreAnchorsBound (both s v) d.bound outermost → IsReaderOf s v d.reader before (place_in settings outermost) → IsProofSession (both s v) settings d (unread before)
is_new s v settings d before built none no_anchors bound reader = record {
  reader = reader;
  written = record {
    nesting = rw built tt;
    items = rw built no_items_stand;
    ids = rw (none, built) refl;
    places = rw no_anchors refl;
    starts_kept = rw (no_anchors, built) refl;
    counts_kept = rw (no_anchors, built) refl;
    bound = bound;
  };
}

-- what stands behind the commands
excess_same : (items : Items) → excess (behind_list items) ≡ excess_behind items
excess_same no_items = refl
excess_same (item i rest) = go (is_list_of_commands i)
  where
    go : (b : Bool) → excess (if b then rest else no_items) ≡ (if b then excess rest else None)
    go true = refl
    go false = refl

left_of : (settings : ProofSettings) (items : Items) (p : ProofState) → left_from settings (unwrapped_commands (behind_answer items)) (behind_list (behind_answer items)) p ≡ proof_from settings items p
unfolding proof_from left_from closing_from
left_of settings items p =
    ap (λ (o : Option ℕ). (commands settings (unwrapped_commands (behind_answer items)) >>= λ _. none_behind o >>= λ _. finished) p) (excess_same (behind_answer items))

module _ (settings : ProofSettings) (behind : Items) (p : ProofState) where
  excess_refuses : (place : ℕ) → excess behind ≡ Some place → (closing_from settings behind tt p).result ≡ Err (record { cause = BadCommand; at = place })
  unfolding closing_from ◌>>=◌
  excess_refuses place e = ap (λ (o : Option ℕ). ((none_behind o >>= λ _. finished) p).result) e

  then_closed : excess behind ≡ None → closing_from settings behind tt p ≡ closed_proof p.scope.nesting p.scope.items p.anchors p
  unfolding closing_from ◌>>=◌
  then_closed e = ap (λ (o : Option ℕ). (none_behind o >>= λ _. finished) p) e

starts_none : (n : Nesting ℕ ℕ) → starts n ≡ [] → n ≡ outermost
starts_none outermost e = refl
starts_none (inside around before anchor) e = absurd (let f = ap length e in let g = length-append (starts around) (length (ids_in (at around before)) ∷ []) in omega (arith, f, g))

some_starts : (n : Nesting ℕ ℕ) (k : ℕ) (ks : List ℕ) → k ∷ ks ≡ starts n → n ≡ outermost → ⊥
some_starts n k ks e is = let f = e ∙ ap starts is in cc

both_outermost : (s : Table) (v : TermsView) (n : Nesting ℕ ℕ) (m : Nesting Var Term) → n ≡ outermost → StandForNesting (both s v) n m → m ≡ outermost
both_outermost s v outermost outermost e h = refl
both_outermost s v outermost (inside around before anchor) e h = absurd h
both_outermost s v (inside around before anchor) m e h = absurd (cc)

not_outermost : (s : Table) (v : TermsView) (n : Nesting ℕ ℕ) (m : Nesting Var Term) → (n ≡ outermost → ⊥) → StandForNesting (both s v) n m → (items : Proof Var Term) (places : List ℕ) (p : ProofState)
    → (closed_proof m items places p).result ≡ Err (record { cause = BadAnchor; at = slice_index_or places 0 0 })
not_outermost s v outermost m other h items places p = absurd (other refl)
not_outermost s v (inside around before anchor) outermost other h items places p = absurd h
not_outermost s v (inside around before anchor) (inside outer behind last) other h items places p = refl

-- the first of the anchors that are open, where there is one
pub first_there : (xs : List OpenAnchor) (a : OpenAnchor) → slice_get xs 0 ≡ Some a → (others : List OpenAnchor) × (xs ≡ a ∷ others)
first_there [] a e = absurd (cc)
first_there (b ∷ bs) a e = (bs, ap (λ c. c ∷ bs) (inner e))
  where
    inner : Some b ≡ Some a → b ≡ a
    inner e = cc

pub none_there : (xs : List OpenAnchor) → slice_get xs 0 ≡ None → xs ≡ []
none_there [] e = refl
none_there (b ∷ bs) e = absurd (cc)

module _ (s : Table) (v : TermsView) (settings : ProofSettings) (d : Session) (p : ProofState) (behind : Items) (session : IsProofSession (both s v) settings d p) where
  pub item_behind : (place : ℕ) → Some place ≡ excess behind → IsFinished (both s v) p (closing_from settings behind tt p) (Err (ReadFault.Text (record { cause = BadCommand; at = place })))
  item_behind place e = excess_refuses settings behind p place (sym e)

  pub anchor_open : None ≡ excess behind → (a : OpenAnchor) (others : List OpenAnchor) → d.anchors.items ≡ a ∷ others
      → IsFinished (both s v) p (closing_from settings behind tt p) (Err (ReadFault.Text (record { cause = BadAnchor; at = a.place })))
  anchor_open e a others is =
      let w = session.written in
      let starts_is : a.ids ∷ map (λ b. b.ids) others ≡ starts d.builder.nesting = sym (ap (map (λ b. b.ids)) is) ∙ w.starts_kept in
      let places_are : a.place ∷ map (λ b. b.place) others ≡ p.anchors = sym (ap (map (λ b. b.place)) is) ∙ w.places in
      ap (λ (o : Outcome ProofState (Proof Var Term)). o.result) (then_closed settings behind p (sym e))
      ∙ (not_outermost s v d.builder.nesting p.scope.nesting (some_starts d.builder.nesting a.ids (map (λ b. b.ids) others) starts_is) w.nesting p.scope.items p.anchors p
      ∙ ap (λ (places : List ℕ). Err (record { cause = BadAnchor; at = slice_index_or places 0 0 })) (sym places_are))

  pub none_open : d.anchors.items ≡ [] → d.builder.nesting ≡ outermost
  none_open is = starts_none d.builder.nesting (sym session.written.starts_kept ∙ ap (map (λ b. b.ids)) is)

  pub proof_finished : None ≡ excess behind → d.anchors.items ≡ [] → (refs : Proof ℕ ℕ) → refs ≡ d.builder.items → IsFinished (both s v) p (closing_from settings behind tt p) (Ok refs)
  proof_finished e is refs same =
      let closed = both_outermost s v d.builder.nesting p.scope.nesting (none_open is) session.written.nesting in (
        p.scope.items,
        then_closed settings behind p (sym e) ∙ ap (λ (n : Nesting Var Term). closed_proof n p.scope.items p.anchors p) closed,
        subst (λ (x : Proof ℕ ℕ). StandForItems s v x p.scope.items) (sym same) session.written.items,
      )

-- at the start all items of the text are left
module _ (text : List ℕ) (l : Lexer) (whole : source l ≡ text) (start : position l ≡ 0) where
  all_items : (items : Items) → StandsForItems text items → HasCommandItems (source l) false (position l) items no_items
  all_items items h =
      subst (λ (x : List ℕ). HasCommandItems x false (position l) items no_items) (sym whole)
      (subst (λ (n : ℕ). HasCommandItems text false n items no_items) (sym start) (record { tokens = h.tokens; after = []; read = h.read; nested = h.nested; end = (refl, refl) }))

  pub some_items : HasForm text → (items : Items) × HasCommandItems (source l) false (position l) items no_items
  some_items (items, h) = (items, all_items items h)

-- Nothing was read of the text, and all its commands are left.
pub record IsBegun (text : List ℕ) (how : SessionSettings) (before : Script) (l : Lexer) (s : Table) (v : TermsView) (d : Session) : Type 0 where
  pub left : (items : Items) → StandsForItems text items
      → AreCommandsLeft (source l) how (position l) (unread before) (proof_from (proof_settings how) items (unread before))
  pub session : IsProofSession (both s v) (proof_settings how) d (unread before)

-- behind the answer and inside the list
pub begun : (how : SessionSettings) {text : List ℕ} {before : Script} {s : Table} {v : TermsView} {d : Session} → AreSpelled → (l m o : Lexer)
    → source l ≡ text → position l ≡ 0
    → ((items : Items) → HasCommandItems (source l) false (position l) items no_items → HasCommandItems (source m) false (position m) (behind_answer items) no_items)
    → ((items : Items) → HasCommandItems (source m) false (position m) items no_items
    → HasCommandItems (source o) how.in_list (position o) (unwrapped_commands items) (behind_list items))
    → IsProofSession (both s v) (proof_settings how) d (unread before) → IsBegun text how before o s v d
begun how {text} {before} spelled l m o whole start skips enters session = record {
  left = λ items h. record {
    items = unwrapped_commands (behind_answer items);
    behind = behind_list (behind_answer items);
    here = enters (behind_answer items) (skips items (all_items text l whole start items h));
    named = commands_named spelled text items h;
    comes = left_of (proof_settings how) items (unread before);
  };
  session = session;
}

module _ {text : List ℕ} {how : SessionSettings} {before : Script} {l : Lexer} {s : Table} {v : TermsView} {d : Session}
    (b : IsBegun text how before l s v d) where
  pub some_left : HasForm text
      → (p : ProofState) × (whole : Outcome ProofState (Proof Var Term)) × AreCommandsLeft (source l) how (position l) p whole
      × IsProofSession (both s v) (proof_settings how) d p
  some_left (items, h) = (unread before, proof_from (proof_settings how) items (unread before), b.left items h, b.session)

  -- so the reading of all commands is that of the whole text
  pub all_read : {text_after : List ℕ} {z : Table} {w : TermsView} {e : Session} {at : ℕ} {result : Result Unit ReadFault}
      → ((p : ProofState) (whole : Outcome ProofState (Proof Var Term)) → AreCommandsLeft (source l) how (position l) p whole
      → IsProofSession (both s v) (proof_settings how) d p → ReadsProof text_after v (both z w) (proof_settings how) e at whole result)
      → (items : Items) → StandsForItems text items
      → ReadsProof text_after v (both z w) (proof_settings how) e at (proof_from (proof_settings how) items (unread before)) result
  all_read reads items h = reads (unread before) (proof_from (proof_settings how) items (unread before)) (b.left items h) b.session

-- the items that are left behind the answer
pub some_behind : (l m : Lexer) → ((items : Items) → HasCommandItems (source l) false (position l) items no_items → HasCommandItems (source m) false (position m) (behind_answer items) no_items)
    → (items : Items) × HasCommandItems (source l) false (position l) items no_items → (items : Items) × HasCommandItems (source m) false (position m) items no_items
some_behind l m skips (items, h) = (behind_answer items, skips items h)

-- what reading all commands of the text has come to
abbrev pub ReadsText : List ℕ → ProofSettings → Script → List ℕ → Table → TermsView → TermsView → Session → ℕ → Result Unit ReadFault → Type 0
ReadsText text settings before source s old new d at result = (items : Items) → StandsForItems text items → ReadsProof source old (both s new) settings d at (proof_from settings items (unread before)) result

-- once all commands were read, and what is left is finished
abbrev pub Finishes : ProofSettings → List ℕ → Table → TermsView → Session → ℕ → Result (Proof ℕ ℕ) ReadFault → Type 0
Finishes settings source s new d at result = (p : ProofState) (behind : Items) → HasCommandItems source false at behind no_items → IsProofSession (both s new) settings d p → IsFinished (both s new) p (closing_from settings behind tt p) result

module _ {text : List ℕ} (settings : ProofSettings) (before : Script) (form : HasForm text) where
  abbrev whole_of : Items → Outcome ProofState (Proof Var Term)
  whole_of items = proof_from settings items (unread before)

  counted : (items : Items) → StandsForItems text items → (t : Term) → WasRead (whole_of items) t → IsCountedOfProof text settings before t
  counted items h t read = record { items = items; nested = h; read = read }

  first_fault : (items : Items) → StandsForItems text items → (r : Refusal) → (whole_of items).result ≡ Err r → IsFirstProofFault text settings before r
  first_fault items h r is = inr (record { items = items; nested = h; refused = is })

  module _ (s : Table) (new : TermsView) where
    proof_of : (result : Result (Proof ℕ ℕ) ReadFault) → (p : ProofState) × IsFinished (both s new) p (whole_of form.0) result → IfOk result (IsProofOf text settings before s new)
    proof_of (Ok refs) (p, (proof, is, refer)) = record {
      proof = proof;
      after = p.script;
      stands = record {
        items = form.0;
        nested = form.1;
        read = ap (λ (w : Outcome ProofState (Proof Var Term)). w.result) is;
        script = ap (λ (w : Outcome ProofState (Proof Var Term)). w.state.script) is;
      };
      refer = refer;
    }
    proof_of (Err fault) h = tt

    fault_of : (result : Result (Proof ℕ ℕ) ReadFault) (r : Refusal) → result ≡ Err (ReadFault.Text r) → (p : ProofState) × IsFinished (both s new) p (whole_of form.0) result → (whole_of form.0).result ≡ Err r
    fault_of result r e (p, h) = subst (λ (x : Result (Proof ℕ ℕ) ReadFault). IsFinished (both s new) p (whole_of form.0) x) e h

  module _ {source : List ℕ} {s : Table} {old new : TermsView} {d : Session} {at : ℕ} where
    pub read_placed : (result : Result Unit ReadFault) → ReadsText text settings before source s old new d at result → PlacesCellsOf s old.pass new.pass (IsCountedOfProof text settings before)
    read_placed result reads = places_more s old.pass new.pass (WasRead (whole_of form.0)) (IsCountedOfProof text settings before) (counted form.0 form.1) (reads form.0 form.1).placed

    pub read_fault : (f : ReadFault) (r : Refusal) → f ≡ ReadFault.Text r → ReadsText text settings before source s old new d at (Err f) → IsFirstProofFault text settings before r
    read_fault f r is reads =
        first_fault form.0 form.1 r
        (subst (λ (x : ReadFault). EndsWith s new.pass (whole_of form.0).result (WasRead (whole_of form.0)) x) is (reads form.0 form.1).answer)

    pub read_full : (f : ReadFault) → f ≡ ReadFault.PoolFull → ReadsText text settings before source s old new d at (Err f) → LacksCellOf s new.pass (IsCountedOfProof text settings before)
    read_full f is reads =
        lacks_more s new.pass (WasRead (whole_of form.0)) (IsCountedOfProof text settings before) (counted form.0 form.1)
        (subst (λ (x : ReadFault). EndsWith s new.pass (whole_of form.0).result (WasRead (whole_of form.0)) x) is (reads form.0 form.1).answer)

    ended : {u : Unit {0}} (result : Result (Proof ℕ ℕ) ReadFault) → ReadsText text settings before source s old new d at (Ok u) → Finishes settings source s new d at result → (p : ProofState) × IsFinished (both s new) p (whole_of form.0) result
    ended result reads finishes =
        let (p, none, session) = (reads form.0 form.1).answer in
        (p, subst (λ (w : Outcome ProofState (Proof Var Term)). IsFinished (both s new) p w result) none.comes (finishes p none.behind none.here session))

    pub some_end : {u : Unit {0}} → ReadsText text settings before source s old new d at (Ok u) → (p : ProofState) × (behind : Items) × HasCommandItems source false at behind no_items × IsProofSession (both s new) settings d p
    some_end reads = let (p, none, session) = (reads form.0 form.1).answer in (p, none.behind, none.here, session)

    module _ {u : Unit {0}} (result : Result (Proof ℕ ℕ) ReadFault) (reads : ReadsText text settings before source s old new d at (Ok u)) (finishes : Finishes settings source s new d at result) where
      pub finished_proof : IfOk result (IsProofOf text settings before s new)
      finished_proof = proof_of s new result (ended result reads finishes)

      pub finished_fault : (r : Refusal) → result ≡ Err (ReadFault.Text r) → IsFirstProofFault text settings before r
      finished_fault r e = first_fault form.0 form.1 r (fault_of s new result r e (ended result reads finishes))

      pub never_full : result ≡ Err ReadFault.PoolFull → ⊥
      never_full e = let (p, h) = ended result reads finishes in subst (λ (x : Result (Proof ℕ ℕ) ReadFault). IsFinished (both s new) p (whole_of form.0) x) e h

      pub never_both : ((proof : Proof Var Term) (after : Script) (r : Refusal) → StandsForProof text settings before proof after → IsFirstProofFault text settings before r → ⊥)
          → (r : Refusal) → IsFirstProofFault text settings before r → IfOk result (λ _. ⊥)
      never_both law r faulty = go result finished_proof
        where
          go : (x : Result (Proof ℕ ℕ) ReadFault) → IfOk x (IsProofOf text settings before s new) → IfOk x (λ _. ⊥)
          go (Ok refs) h = law h.proof h.after r h.stands faulty
          go (Err fault) h = tt
