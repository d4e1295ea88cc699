-- The body of a let was read.
use Rattle.std.proofs.Common.{◌≡◌, ◌∙◌, ◌+◌, ◌-◌, arith, refl, ap, sym, ℕ, List, ◌++◌, length, take, drop, Option, Some, Result, Ok, Err}
use Rattle.std.proofs.Math.Seq.{drop-append_seam}
use Rattle.sym_table.specs.Table.{Table}
use Rattle.sym_table.proofs.Tables.{keeps_table}
use Rattle.term_pool.specs.Views.{TermsView, KeepsTerms}
use Rattle.term_reader.specs.Frames.{WholeReading}
use Rattle.term_names.specs.InScope.{AreValuesBound}
use Rattle.term_reader.specs.Leaving.{with_open, Leaves}
use Rattle.term_names.specs.Making.{Makes}
use Rattle.sexpr.specs.declared.causes.Cause.TheVariants.{SortMismatch}
use Rattle.problem_text.specs.Names.{Bound, Place, place_inside, let_term}
use Rattle.term_reader.specs.Turns.{HasRead}
use Rattle.term_reader.specs.Resuming.{Waiting, resumed}
use Rattle.term_names.specs.Scope.{Scoped}
use Rattle.problem_text.specs.TypedTerms.{Typed}
use Rattle.problem_text.specs.Outcomes.{done}
use Rattle.problem_text.specs.Limits.{limited}
use Rattle.problem_text.specs.Terms.{settled}
use Rattle.term_expansion.specs.Values.{IsValue}
use Rattle.term_names.specs.declared.faults.ReadFault.{ReadFault}
use Rattle.term_reader.specs.declared.frames.Frame.{Frame}
use Rattle.term_reader.specs.declared.frames.OpenBody.{OpenBody}
use Rattle.text_items.specs.ItemsAt.{ItemsView}
use Rattle.term_reader.specs.ReadingViews.{ReadingView}
use Rattle.term_reader.specs.declared.reader.Turn.{Turn}
use Rattle.term_expansion.specs.declared.values.Value.{Value}
use Rattle.term_reader.proofs.Limited.{replaces_so, limit_so}
use Rattle.term_reader.proofs.MoreRead.{low_below}
use Rattle.term_reader.proofs.Resuming.{body_read}
use Rattle.term_reader.proofs.Settled.{Settles, IsWhole, Closes, unmade_ends, unsettled_ends, settled_goes_on}
use Rattle.term_reader.proofs.Staying.{adds_none, script_stays, scope_stays, frames_stay}
use Rattle.term_expansion.specs.SymbolsAndTerms.{both}

-- the variables outside a let, where those inside it are as many as its leaves
scope_around : (scope inner around : List Scoped) (first count : ℕ) → scope ≡ inner ++ around → first + length inner ≡ count
    → drop (count - first) scope ≡ around
scope_around scope inner around first count split each =
    let k : count - first ≡ length inner = omega (arith, each) in
    rw (k, split) (drop-append_seam inner around)

module _ (items : ItemsView) (g : WholeReading) (s : Table) (v : TermsView) (r : ReadingView) (c : Value) (n : ℕ) (opened : OpenBody)
    (h : HasRead items g (both s v) (with_open r (Frame.Body opened)) c n) where
  -- the reader without what the let owned
  abbrev pub Without : ReadingView → Type 0
  Without q =
      (q.names.known ≡ r.names.known) × (q.names.scope ≡ drop (length r.leaves.items - opened.leaves) r.names.scope)
      × (q.values ≡ take opened.from r.values) × (q.leaves.items ≡ take opened.leaves r.leaves.items)

  abbrev pub without : ReadingView → ReadingView
  without q = record r { names = q.names; values = q.values; leaves = q.leaves }

  abbrev pub Closed : TermsView → Result (Option Value) ReadFault → Type 0
  Closed w made =
      (ks : List ℕ) × (ks ≡ drop opened.leaves r.leaves.items)
      × ((p : Place) (bs : List Bound) (t : Typed) → AreValuesBound (both s v) ks (drop opened.from r.values) bs → IsValue (both s v) c t
      → p.settings.replaces_lets ≡ r.replaces_lets → Makes v (both s w) (Some (let_term p bs t)) made)

  outer_settings : (outer : Place) (bound : List Bound) → h.place ≡ place_inside bound outer → outer.settings ≡ limited r.replaces_lets
  outer_settings outer bound same = sym (ap (λ (p : Place). p.settings) same) ∙ h.stands.settings

  body_whole : (w : TermsView) (made : Result (Option Value) ReadFault) → Closed w made → IsWhole g s v w opened.place made
  body_whole w made (ks, are, makes) =
      let (bound, around, outer, rest, is, here, frames) = h.frames in
      record {
        script = h.script;
        expected = Some (let_term outer bound h.term);
        cause = SortMismatch;
        waiting = rest;
        comes = ap (λ (limit : Option ℕ). resumed rest (settled SortMismatch limit opened.place (Some (let_term outer bound h.term)) h.script))
            (sym (limit_so outer.settings r.replaces_lets (outer_settings outer bound here.same_place)))
            ∙ sym (body_read rest opened.place bound outer h.term h.script) ∙ ap (λ (ws : List Waiting). resumed ws (done h.term h.script)) (sym is) ∙ h.comes;
        makes = makes outer bound h.term (rw are here.bound_here) h.is (replaces_so _ r.replaces_lets (outer_settings outer bound here.same_place));
      }

  body_closes : (q : ReadingView) → Without q → (w : TermsView) → KeepsTerms v w → (made : Result (Option Value) ReadFault) → Closed w made
      → Closes items g s v w (without q) opened.place n made
  unfolding body_whole
  body_closes q (known_is, scope_is, values_are, leaves_are) w keeps made closed =
      let (bound, around, outer, rest, is, here, frames) = h.frames in
      let scope_same : q.names.scope ≡ around = scope_is ∙ scope_around _ here.inner around opened.leaves _ here.split here.one_each in
      record {
        whole = body_whole w made closed;
        around = outer;
        stands = record {
          script = rw known_is (script_stays s s v w (adds_none s) keeps r.names.known h.script h.stands.script);
          scope = rw scope_same (scope_stays s s v w (keeps_table s) keeps around outer.scope here.around_here);
          settings = outer_settings outer bound here.same_place;
          low = rw values_are (low_below opened.from r.values h.stands.low);
        };
        frames = rw (known_is, values_are, leaves_are, scope_same)
            (frames_stay s s v w (keeps_table s) keeps items g r.names.known r.names.known (λ _. refl) r.frames _ _ _ _ _ _ frames);
      }

  -- What is done.
  pub body_fault : (w : TermsView) (fault : ReadFault) → Closed w (Err fault) → (q : ReadingView)
      → Leaves items g (both s v) (with_open r (Frame.Body opened)) c n (both s w) q (Err fault)
  body_fault w fault made q = record { goes = unmade_ends items g s v w opened.place fault q (body_whole w (Err fault) made); spends = λ _. tt }

  pub body_refused : (w : TermsView) (made : Option Value) → Closed w (Ok made) → (fault : ReadFault)
      → Settles SortMismatch opened.place made (Err fault) → (q : ReadingView)
      → Leaves items g (both s v) (with_open r (Frame.Body opened)) c n (both s w) q (Err fault)
  unfolding body_whole
  body_refused w made closed fault settles q = record {
    goes = unsettled_ends items g s v w opened.place made fault q (body_whole w (Ok made) closed) SortMismatch (λ none. refl) settles;
    spends = λ _. tt;
  }

  pub body_settled : (q : ReadingView) → Without q → (w : TermsView) → KeepsTerms v w → (made : Option Value) → Closed w (Ok made) → (t : Value)
      → Settles SortMismatch opened.place made (Ok t)
      → Leaves items g (both s v) (with_open r (Frame.Body opened)) c n (both s w) (without q) (Ok (Turn.Use t n))
  unfolding body_whole body_closes
  body_settled q is w keeps made closed t settles = record {
    goes = settled_goes_on items g s v w opened.place (without q) n made t (body_closes q is w keeps (Ok made) closed) SortMismatch (λ none. refl) settles;
    spends = λ within. record { inside = within; few = omega arith; progress = omega arith };
  }
