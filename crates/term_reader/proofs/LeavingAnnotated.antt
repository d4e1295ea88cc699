-- The term of an annotation was read.
use Rattle.std.proofs.Common.{◌≡◌, ◌∙◌, arith, ap, sym, ℕ, List, Result, Ok, Err}
use Rattle.pair_pool.specs.Views.{IsUnchanged}
use Rattle.sym_table.specs.Table.{Table}
use Rattle.sym_table.proofs.Tables.{keeps_table}
use Rattle.term_pool.specs.Views.{TermsView, KeepsTerms}
use Rattle.term_pool.proofs.PlacedCells.{places_none}
use Rattle.term_reader.specs.Frames.{WholeReading}
use Rattle.term_names.specs.Known.{macro_of}
use Rattle.term_reader.specs.Layers.{names_at}
use Rattle.term_names.specs.Scope.{NamesView}
use Rattle.term_reader.specs.Leaving.{with_open, Leaves}
use Rattle.term_reader.specs.Naming.{GivesNames}
use Rattle.term_reader.specs.Reading.{EndsWith, IsReadBy, terms_read}
use Rattle.term_reader.specs.Turns.{HasRead}
use Rattle.term_reader.specs.Resuming.{Waiting, resumed}
use Rattle.problem_text.specs.TypedTerms.{Typed}
use Rattle.problem_text.specs.Outcomes.{done}
use Rattle.problem_text.specs.Scripts.{Script}
use Rattle.term_names.specs.Standing.{IsScript}
use Rattle.problem_text.specs.Terms.{with_names}
use Rattle.term_expansion.specs.Values.{IsValue}
use Rattle.term_names.specs.declared.faults.ReadFault.{ReadFault}
use Rattle.term_reader.specs.declared.frames.Frame.{Frame}
use Rattle.term_names.specs.declared.names.Which.{Which}
use Rattle.text_items.specs.ItemsAt.{ItemsView}
use Rattle.term_reader.specs.ReadingViews.{ReadingView}
use Rattle.term_reader.specs.declared.reader.Turn.{Turn}
use Rattle.term_expansion.specs.declared.values.Value.{Value}
use Rattle.term_reader.proofs.Resuming.{annotated_read}
use Rattle.term_reader.proofs.Settled.{part_resumed}
use Rattle.term_reader.proofs.Staying.{value_stays, scope_stays, frames_stay}
use Rattle.term_expansion.specs.SymbolsAndTerms.{both}

module _ (items : ItemsView) (g : WholeReading) (s : Table) (v : TermsView) (r : ReadingView) (c : Value) (n end : ℕ)
    (h : HasRead items g (both s v) (with_open r (Frame.Names end)) c n) where
  -- what comes of the names, for what waits around the annotation
  names_come : resumed h.frames.0 (with_names h.term (names_at items n end) h.script) ≡ g.whole
  names_come =
      let (rest, is, here, outer) = h.frames in
      sym (annotated_read rest (names_at items n end) h.term h.script) ∙ ap (λ (ws : List Waiting). resumed ws (done h.term h.script)) (sym is) ∙ h.comes

  abbrev pub Given : TermsView → NamesView → Result Unit ReadFault → Type 0
  Given w names result =
      (t : Typed) (sc : Script) → IsValue (both s v) c t → IsScript (both s v) r.names.known sc
      → GivesNames (both s w) names.known t (with_names t (names_at items n end) sc) result

  pub names_given : (w : TermsView) → KeepsTerms v w → IsUnchanged v.pass w.pass → (names : NamesView) → names.scope ≡ r.names.scope
      → ((m : Which) → macro_of names.known m ≡ macro_of r.names.known m) → Given w names (Ok tt)
      → Leaves items g (both s v) (with_open r (Frame.Names end)) c n (both s w) (record r { names = names }) (Ok (Turn.Use c end))
  names_given w keeps same names scope macros given =
      let (rest, is, here, outer) = h.frames in
      let (sc, whole, script) = given h.term h.script h.is h.stands.script in
      let later = here.some in
      record {
        goes = record {
          answer = record {
            script = sc;
            place = h.place;
            term = h.term;
            waiting = rest;
            stands = record {
              script = script;
              scope = rw scope (scope_stays s s v w (keeps_table s) keeps r.names.scope h.place.scope h.stands.scope);
              settings = h.stands.settings;
              low = h.stands.low;
            };
            is = value_stays s s v w (keeps_table s) keeps c h.term h.is;
            low = h.low;
            frames = rw scope (frames_stay s s v w (keeps_table s) keeps items g r.names.known names.known macros r.frames _ _ _ _ _ _ outer);
            comes = ap (resumed rest) (sym whole) ∙ names_come;
          };
          placed = places_none s v.pass w.pass (IsReadBy terms_read g.whole) same.placed;
        };
        spends = λ within. record {
          inside = here.range.inside;
          few = omega (arith, later);
          progress = omega (arith, later);
        };
      }

  pub names_refused : (w : TermsView) → IsUnchanged v.pass w.pass → (names : NamesView) (fault : ReadFault) → Given w names (Err fault) → (q : ReadingView)
      → Leaves items g (both s v) (with_open r (Frame.Names end)) c n (both s w) q (Err fault)
  names_refused w same names fault given q =
      let (rest, is, here, outer) = h.frames in
      record {
        goes = record {
          answer = ends fault (given h.term h.script h.is h.stands.script);
          placed = places_none s v.pass w.pass (IsReadBy terms_read g.whole) same.placed;
        };
        spends = λ _. tt;
      }
    where
      ends : (f : ReadFault) → GivesNames (both s w) names.known h.term (with_names h.term (names_at items n end) h.script) (Err f)
          → EndsWith s w.pass g.whole.result (IsReadBy terms_read g.whole) f
      ends (ReadFault.Text x) is = (part_resumed h.frames.0 (with_names h.term (names_at items n end) h.script) g.whole names_come).faults x is
      ends ReadFault.PoolFull is = absurd is
      ends ReadFault.Memory is = tt
