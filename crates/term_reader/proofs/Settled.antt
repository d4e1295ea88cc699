-- A form whose terms are all read: the term that is made of it is settled, or the reading ends.
use Rattle.std.proofs.Common.{◌≡◌, ◌∙◌, refl, ap, sym, subst, ℕ, List, ◌++◌, ◌∷◌, [], Option, Some, None, Result, Ok, Err}
use Rattle.sexpr.specs.declared.causes.Cause.{Cause}
use Rattle.sexpr.specs.declared.causes.Refusal.{Refusal}
use Rattle.sym_table.specs.Table.{Table}
use Rattle.term_model.specs.Terms.{Term}
use Rattle.term_pool.specs.Views.{TermsView}
use Rattle.term_pool.proofs.PlacedCells.{places_none, places_more, lacks_more}
use Rattle.problem_text.specs.Limits.{most_height}
use Rattle.problem_text.specs.Names.{Place}
use Rattle.problem_text.specs.Outcomes.{Outcome}
use Rattle.problem_text.specs.Scripts.{Script, with_term}
use Rattle.problem_text.specs.Terms.{settled}
use Rattle.problem_text.specs.TypedTerms.{Typed}
use Rattle.text_items.specs.ItemsAt.{ItemsView}
use Rattle.term_expansion.specs.SymbolsAndTerms.{both}
use Rattle.term_expansion.specs.declared.values.Value.{Value}
use Rattle.term_names.specs.Making.{IsExpected, IsMade, Makes}
use Rattle.term_names.specs.Standing.{IsScript}
use Rattle.term_names.specs.declared.faults.ReadFault.{ReadFault}
use Rattle.term_reader.specs.Entering.{IsReadAlone}
use Rattle.term_reader.specs.Frames.{WholeReading, AreFrames}
use Rattle.term_reader.specs.Reading.{IsReadBy, IsAnswer, Comes, Gives, ComesTo, terms_read}
use Rattle.term_reader.specs.ReadingViews.{ReadingView}
use Rattle.term_reader.specs.Resuming.{Waiting, resumed}
use Rattle.term_reader.specs.Settling.{SettlesTerm}
use Rattle.term_reader.specs.Turns.{ReaderStands, IsTurn, Goes}
use Rattle.term_reader.specs.declared.reader.Turn.{Turn}
use Rattle.term_reader.proofs.Coming.{IsPartOf, fails, answers_whole}
use Rattle.term_reader.proofs.MoreRead.{same_script}
use Rattle.term_reader.proofs.Resuming.{refused_whole}
use Rattle.term_reader.proofs.StillRead.{by_resumed, settled_is_read}

-- what is read now is a part of what waits for it
pub part_resumed : (ws : List Waiting) (o whole : Outcome Script Typed) → resumed ws o ≡ whole → IsPartOf terms_read o whole
part_resumed ws o whole comes = record {
  reads = λ x h. subst (λ (q : Outcome Script Typed). IsReadBy terms_read q x) comes (by_resumed x ws o h);
  faults = λ refusal e. ap (λ (q : Outcome Script Typed). q.result)
      (sym comes ∙ ap (λ (a : Result Typed Refusal). resumed ws (record { result = a; state = o.state })) e ∙ refused_whole ws refusal o.state);
}

-- nothing was placed
pub nothing_made : (items : ItemsView) (g : WholeReading) (s : Table) (v : TermsView) (r : ReadingView) (result : Result Turn ReadFault)
    → IsAnswer terms_read (both s v) (IsTurn items g (both s v) r) g.whole result → Goes items g v (both s v) r result
nothing_made items g s v r result answer = record { answer = answer; placed = places_none s v.pass v.pass (IsReadBy terms_read g.whole) refl }

-- a term that was made, or not, and what comes of it
module _ (s : Table) (old new : TermsView) (cause : Cause) (place : ℕ) (o : Option Typed) (sc : Script) where
  abbrev Settled : Outcome Script Typed
  Settled = settled cause (Some most_height) place o sc

  expected_read : (t : Term) → IsExpected o t → IsReadBy terms_read Settled t
  expected_read t (d, is, same) =
      subst (λ (e : Option Typed). IsReadBy terms_read (settled cause (Some most_height) place e sc) t) (sym is)
      (subst (λ (u : Term). IsReadBy terms_read (settled cause (Some most_height) place (Some d) sc) u) same
      (settled_is_read [] cause (Some most_height) place d sc))

  pub made_settles : (made : Option Value) (result : Result Value ReadFault) → Makes old (both s new) o (Ok made)
      → (IsMade (both s new) o (Ok made) → SettlesTerm (both s new) cause place o sc result)
      → ComesTo terms_read old (both s new) (IsReadAlone (both s new) sc) Settled result
  made_settles made result makes settles = record {
    answer = go result (settles makes.answer);
    placed = places_more s old.pass new.pass (IsExpected o) (IsReadBy terms_read Settled) expected_read makes.placed;
  }
    where
      go : (result : Result Value ReadFault) → SettlesTerm (both s new) cause place o sc result
          → IsAnswer terms_read (both s new) (Gives (IsReadAlone (both s new) sc) Settled) Settled result
      go (Ok c) (t, is, comes, value, low) =
          record { value = t; state = with_term t.tree sc; is = comes; after = record { same = refl; is = value; low = low } }
      go (Err (ReadFault.Text r)) h = h
      go (Err ReadFault.PoolFull) h = absurd h
      go (Err ReadFault.Memory) h = absurd h

  pub made_fails : {T : Type 0} (N : T → Type 0) (fault : ReadFault) → Makes old (both s new) o (Err fault)
      → Comes terms_read old (both s new) N Settled (Err fault)
  made_fails N fault makes = record {
    answer = go fault makes.answer;
    placed = places_more s old.pass new.pass (IsExpected o) (IsReadBy terms_read Settled) expected_read makes.placed;
  }
    where
      go : (f : ReadFault) → IsMade (both s new) o (Err f) → IsAnswer terms_read (both s new) N Settled (Err f)
      go (ReadFault.Text r) h = absurd h
      go ReadFault.PoolFull h = lacks_more s new.pass (IsExpected o) (IsReadBy terms_read Settled) expected_read h
      go ReadFault.Memory h = tt

-- what was made is settled so
abbrev pub Settles : Cause → ℕ → Option Value → Result Value ReadFault → Type 0
Settles cause place made result =
    (s : Table) (v : TermsView) (o : Option Typed) (sc : Script) → IsMade (both s v) o (Ok made) → SettlesTerm (both s v) cause place o sc result

-- Where a term was made, the cause why none was is not asked.
settles_so : (s : Table) (v : TermsView) (cause other : Cause) (place : ℕ) (made : Option Value) (o : Option Typed) (sc : Script)
    (result : Result Value ReadFault) → (made ≡ None → cause ≡ other) → IsMade (both s v) o (Ok made)
    → SettlesTerm (both s v) cause place o sc result → SettlesTerm (both s v) other place o sc result
settles_so s v cause other place None o sc result same is h = subst (λ (x : Cause). SettlesTerm (both s v) x place o sc result) (same refl) h
settles_so s v cause other place (Some c) o sc result same (t, e, value) h =
    subst (λ (p : Option Typed). SettlesTerm (both s v) other place p sc result) (sym e)
    (go result (subst (λ (p : Option Typed). SettlesTerm (both s v) cause place p sc result) e h))
  where
    go : (result : Result Value ReadFault) → SettlesTerm (both s v) cause place (Some t) sc result → SettlesTerm (both s v) other place (Some t) sc result
    go (Ok d) k = k
    go (Err (ReadFault.Text r)) k = k
    go (Err ReadFault.PoolFull) k = k
    go (Err ReadFault.Memory) k = k

-- What is made of the innermost form, which begins at this place, is `expected`, for what waits around it.
pub record IsWhole (g : WholeReading) (s : Table) (v w : TermsView) (place : ℕ) (made : Result (Option Value) ReadFault) : Type 0 where
  pub script : Script
  pub expected : Option Typed
  pub cause : Cause
  pub waiting : List Waiting
  pub comes : resumed waiting (settled cause (Some most_height) place expected script) ≡ g.whole
  pub makes : Makes v (both s w) expected made

-- and the reader is at what waits
pub record Closes (items : ItemsView) (g : WholeReading) (s : Table) (v w : TermsView) (r : ReadingView) (place n : ℕ)
    (made : Result (Option Value) ReadFault) : Type 0 where
  pub whole : IsWhole g s v w place made
  pub around : Place
  pub stands : ReaderStands (both s w) r whole.script around
  pub frames : AreFrames items g (both s w) r.names.known r.frames r.values r.leaves.items r.names.scope around n whole.waiting

module _ (items : ItemsView) (g : WholeReading) (s : Table) (v w : TermsView) (place : ℕ) where
  part : (made : Result (Option Value) ReadFault) (h : IsWhole g s v w place made)
      → IsPartOf terms_read (settled h.cause (Some most_height) place h.expected h.script) g.whole
  part made h = part_resumed h.waiting (settled h.cause (Some most_height) place h.expected h.script) g.whole h.comes

  -- it is not made
  pub unmade_ends : (fault : ReadFault) (q : ReadingView) → IsWhole g s v w place (Err fault) → Goes items g v (both s w) q (Err fault)
  unmade_ends fault q h = fails g.whole (part (Err fault) h) (made_fails s v w h.cause place h.expected h.script (IsTurn items g (both s w) q) fault h.makes)

  -- it is not settled
  pub unsettled_ends : (made : Option Value) (fault : ReadFault) (q : ReadingView) (h : IsWhole g s v w place (Ok made)) (cause : Cause)
      → (made ≡ None → cause ≡ h.cause) → Settles cause place made (Err fault) → Goes items g v (both s w) q (Err fault)
  unsettled_ends made fault q h cause same settles =
      fails g.whole (part (Ok made) h) (made_settles s v w h.cause place h.expected h.script made (Err fault) h.makes
      (λ is. settles_so s w cause h.cause place made h.expected h.script (Err fault) same is (settles s w h.expected h.script is)))

  -- it is the next term that was read
  pub settled_goes_on : (r : ReadingView) (n : ℕ) (made : Option Value) (c : Value) (h : Closes items g s v w r place n (Ok made)) (cause : Cause)
      → (made ≡ None → cause ≡ h.whole.cause) → Settles cause place made (Ok c) → Goes items g v (both s w) r (Ok (Turn.Use c n))
  settled_goes_on r n made c h cause same settles =
      let x = h.whole in
      let read = made_settles s v w x.cause place x.expected x.script made (Ok c) x.makes
      (λ is. settles_so s w cause x.cause place made x.expected x.script (Ok c) same is (settles s w x.expected x.script is)) in
      let t = read.answer.value in
      answers_whole g.whole (part (Ok made) x) read
      (record {
        script = read.answer.state;
        place = h.around;
        term = t;
        waiting = x.waiting;
        stands = record {
          script = subst (λ (sc : Script). IsScript (both s w) r.names.known sc) (sym read.answer.after.same)
              (same_script s w r.names.known (x.script.terms ++ t.tree ∷ []) x.script.let_names x.script h.stands.script);
          scope = h.stands.scope;
          settings = h.stands.settings;
          low = h.stands.low;
        };
        is = read.answer.after.is;
        low = read.answer.after.low;
        frames = h.frames;
        comes = ap (resumed x.waiting) (sym read.answer.is) ∙ x.comes;
      })
