-- An argument of an application was read.
use Rattle.std.proofs.Common.{◌<◌, ◌≡◌, ◌≢◌, ◌∙◌, ◌≤◌, arith, ap, sym, subst, refl, ℕ, List, [], ◌∷◌, ◌++◌, length, take, drop, Option, None, Result, Ok, Err, true, false}
use Rattle.std.proofs.lemmas.Bool.{eqb-true, eqb-false, not-true, not-false, false≢true}
use Rattle.std.proofs.lemmas.List.{take-append-le, length-append}
use Rattle.sexpr.specs.declared.causes.Cause.{Cause}
use Rattle.sym_table.specs.Table.{Table}
use Rattle.sym_table.proofs.Tables.{keeps_table}
use Rattle.term_pool.specs.Views.{TermsView, KeepsTerms}
use Rattle.problem_text.specs.Forms.{Forms, no_forms}
use Rattle.term_names.specs.Heads.{HeadMeans}
use Rattle.term_reader.specs.Frames.{WholeReading}
use Rattle.term_reader.specs.Layers.{form_at, forms_at}
use Rattle.term_reader.specs.Leaving.{with_open, Spends, Leaves}
use Rattle.term_reader.specs.OpenApplications.{wants_more}
use Rattle.term_names.specs.InScope.{AreValuesLow}
use Rattle.term_names.specs.Making.{Makes}
use Rattle.problem_text.specs.Names.{Meaning, meaning_applied, refusal_of}
use Rattle.term_reader.specs.Turns.{HasRead, IsAt, Goes}
use Rattle.term_reader.specs.Resuming.{Waiting, arguments, resumed}
use Rattle.problem_text.specs.TypedTerms.{Typed}
use Rattle.problem_text.specs.Outcomes.{done}
use Rattle.problem_text.specs.Terms.{settled}
use Rattle.term_expansion.specs.Values.{IsValue, AreValues}
use Rattle.term_names.specs.declared.faults.ReadFault.{ReadFault}
use Rattle.term_reader.specs.declared.frames.Frame.{Frame}
use Rattle.term_reader.specs.declared.frames.OpenArguments.{OpenArguments}
use Rattle.text_items.specs.ItemsAt.{ItemsView, end_at}
use Rattle.term_model.proofs.Lists.{all_at_end}
use Rattle.term_reader.specs.ReadingViews.{ReadingView}
use Rattle.term_reader.specs.declared.reader.Turn.{Turn}
use Rattle.term_expansion.specs.declared.values.Value.{Value}
use Rattle.term_reader.proofs.FormSteps.{forms_done, forms_more, range_on}
use Rattle.term_reader.proofs.InnermostForm.{around, same_reader}
use Rattle.term_reader.proofs.Limited.{limit_so}
use Rattle.term_reader.proofs.MoreRead.{low_below, zip_pushed}
use Rattle.term_reader.proofs.Resuming.{next_argument_read, last_argument_read}
use Rattle.term_reader.proofs.Settled.{Settles, IsWhole, Closes, unmade_ends, unsettled_ends, settled_goes_on, nothing_made}
use Rattle.term_reader.proofs.Staying.{adds_none, script_stays, scope_stays, frames_stay}
use Rattle.term_expansion.specs.SymbolsAndTerms.{both}

abbrev pub pushed : ReadingView → Value → List Value
pushed r c = r.values ++ c ∷ []

module _ (items : ItemsView) (g : WholeReading) (s : Table) (v : TermsView) (r : ReadingView) (c : Value) (n : ℕ) (opened : OpenArguments)
    (h : HasRead items g (both s v) (with_open r (Frame.Arguments opened)) c n) where
  -- the frames around it stay, over what is left of the stack
  take_pushed : take opened.from (pushed r c) ≡ take opened.from r.values
  take_pushed = let (m, read, rest, is, here, outer) = h.frames in take-append-le opened.from r.values (c ∷ []) here.within

  low_pushed : AreValuesLow (pushed r c)
  low_pushed = all_at_end _ r.values c h.stands.low h.low

  -- what is applied to the arguments
  pub applied_here : (m : Meaning) × (ts : List Typed) × HeadMeans (both s v) r.names.known opened.head m
      × AreValues (both s v) (drop opened.from (pushed r c)) ts
  applied_here =
      let (m, read, rest, is, here, outer) = h.frames in
      (m, read ++ h.term ∷ [], here.applies, zip_pushed (IsValue (both s v)) opened.from r.values read c h.term here.within here.read_values h.is)

  pub arguments_bounds : n ≤ length items.nodes → (n ≤ opened.end) × (opened.end ≤ length items.nodes)
  arguments_bounds inside =
      let (m, read, rest, is, here, outer) = h.frames in
      (here.left_here.before, here.left_here.inside)

  -- what is made of the arguments, which are these values from place `from` on
  abbrev pub Applied : TermsView → List Value → Result (Option Value) ReadFault → Type 0
  Applied w values made =
      (m : Meaning) (ts : List Typed) → HeadMeans (both s v) r.names.known opened.head m → AreValues (both s v) (drop opened.from values) ts
      → Makes v (both s w) (meaning_applied m ts) made

  -- the cause why it is none, where it is none
  abbrev pub Causes : List Value → Option Value → Cause → Type 0
  Causes values made cause =
      (m : Meaning) (ts : List Typed) → HeadMeans (both s v) r.names.known opened.head m → AreValues (both s v) (drop opened.from values) ts
      → made ≡ None → cause ≡ refusal_of m ts

  -- it was the last one
  arguments_whole : n ≡ opened.end → (w : TermsView) (made : Result (Option Value) ReadFault)
      → Applied w (pushed r c) made
      → IsWhole g s v w opened.place made
  arguments_whole last w made makes =
      let (m, read, rest, is, here, outer) = h.frames in
      let none : forms_at items n opened.end ≡ no_forms = forms_done items n opened.end last in
      record {
        script = h.script;
        expected = meaning_applied m (read ++ h.term ∷ []);
        cause = refusal_of m (read ++ h.term ∷ []);
        waiting = rest;
        comes = ap (λ (limit : Option ℕ). resumed rest
            (settled (refusal_of m (read ++ h.term ∷ [])) limit opened.place (meaning_applied m (read ++ h.term ∷ [])) h.script))
            (sym (limit_so h.place.settings r.replaces_lets h.stands.settings))
            ∙ sym (last_argument_read rest opened.place m read h.term h.place h.script)
            ∙ ap (λ (fs : Forms). resumed (arguments opened.place m read fs h.place ∷ rest) (done h.term h.script)) (sym none)
            ∙ ap (λ (ws : List Waiting). resumed ws (done h.term h.script)) (sym is) ∙ h.comes;
        makes = makes m _ here.applies (zip_pushed (IsValue (both s v)) opened.from r.values read c h.term here.within here.read_values h.is);
      }

  -- the cause that is told is that of the definition
  cause_here : (made : Option Value) (cause : Cause) → Causes (pushed r c) made cause → made ≡ None
      → cause ≡ refusal_of h.frames.0 (h.frames.1 ++ h.term ∷ [])
  cause_here made cause why none =
      let (m, read, rest, is, here, outer) = h.frames in
      why m _ here.applies (zip_pushed (IsValue (both s v)) opened.from r.values read c h.term here.within here.read_values h.is) none

  arguments_close : n ≡ opened.end → (w : TermsView) → KeepsTerms v w → (made : Result (Option Value) ReadFault)
      → Applied w (pushed r c) made
      → Closes items g s v w (record r { values = take opened.from (pushed r c) }) opened.place opened.end made
  unfolding arguments_whole
  arguments_close last w keeps made makes =
      let (m, read, rest, is, here, outer) = h.frames in
      record {
        whole = arguments_whole last w made makes;
        around = h.place;
        stands = record {
          script = script_stays s s v w (adds_none s) keeps r.names.known h.script h.stands.script;
          scope = scope_stays s s v w (keeps_table s) keeps r.names.scope h.place.scope h.stands.scope;
          settings = h.stands.settings;
          low = low_below opened.from (pushed r c) low_pushed;
        };
        frames = frames_stay s s v w (keeps_table s) keeps items g r.names.known r.names.known (λ _. refl) r.frames _ _ _ _ _ _ (rw take_pushed outer);
      }

  -- the next one is read
  pub arguments_go_on : n ≢ opened.end → IsAt items g (both s v) (record r { values = pushed r c; frames = Frame.Arguments opened ∷ r.frames }) n
  arguments_go_on more =
      let (m, read, rest, is, here, outer) = h.frames in
      let before = here.left_here.before in
      let less : n < opened.end = omega arith in
      let left = forms_at items (end_at items n) opened.end in
      record {
        script = h.script;
        place = h.place;
        waiting = arguments opened.place m (read ++ h.term ∷ []) left h.place ∷ rest;
        stands = record { script = h.stands.script; scope = h.stands.scope; settings = h.stands.settings; low = low_pushed };
        inside = let h = here.left_here.inside in omega arith;
        frames = (
          m,
          read ++ h.term ∷ [],
          rest,
          refl,
          record {
            applies = here.applies;
            within = pushed_within here.within;
            read_values = zip_pushed (IsValue (both s v)) opened.from r.values read c h.term here.within here.read_values h.is;
            left_here = range_on items n opened.end here.left_here less;
          },
          rw take_pushed outer,
        );
        comes = sym (next_argument_read rest opened.place m read h.term (form_at items n) left h.place h.script)
            ∙ ap (λ (fs : Forms). resumed (arguments opened.place m read fs h.place ∷ rest) (done h.term h.script))
            (sym (forms_more items n opened.end here.left_here less))
            ∙ ap (λ (ws : List Waiting). resumed ws (done h.term h.script)) (sym is) ∙ h.comes;
      }
    where
      pushed_within : opened.from ≤ length r.values → opened.from ≤ length (pushed r c)
      pushed_within e = omega (arith, e, length-append r.values (c ∷ []))

  -- what is left to be done
  pub arguments_closed_spend : n ≡ opened.end → (t : Value) (values : List Value) → n ≤ length items.nodes
      → Spends items s (with_open r (Frame.Arguments opened)) (Turn.Use c n) s (record r { values = values }) (Turn.Use t opened.end)
  arguments_closed_spend last t values inside =
      let e = arguments_bounds inside in
      record { inside = e.1; few = omega (arith, last); progress = omega (arith, last) }

  -- What is done, by the stacks as the code has them.
  pub arguments_fault : n ≡ opened.end → (w : TermsView) → (values : List Value) → values ≡ pushed r c → (fault : ReadFault) → Applied w values (Err fault)
      → (q : ReadingView)
      → Leaves items g (both s v) (with_open r (Frame.Arguments opened)) c n (both s w) q (Err fault)
  arguments_fault last w values are fault makes q = record {
    goes = unmade_ends items g s v w opened.place fault q (arguments_whole last w (Err fault) (rw are at makes));
    spends = λ _. tt;
  }

  pub arguments_refused : n ≡ opened.end → (w : TermsView) → (values : List Value) → values ≡ pushed r c → (made : Option Value)
      → Applied w values (Ok made) → (cause : Cause) → Causes values made cause → (fault : ReadFault)
      → Settles cause opened.place made (Err fault) → (q : ReadingView)
      → Leaves items g (both s v) (with_open r (Frame.Arguments opened)) c n (both s w) q (Err fault)
  unfolding arguments_whole
  arguments_refused last w values are made makes cause why fault settles q = record {
    goes = unsettled_ends items g s v w opened.place made fault q (arguments_whole last w (Ok made) (rw are at makes)) cause
        (let k : Causes (pushed r c) made cause = rw are at why in cause_here made cause k) settles;
    spends = λ _. tt;
  }

  pub arguments_settled : n ≡ opened.end → (w : TermsView) → KeepsTerms v w → (values : List Value) → values ≡ pushed r c → (made : Option Value)
      → Applied w values (Ok made) → (cause : Cause) → Causes values made cause → (t : Value)
      → Settles cause opened.place made (Ok t) → (kept : List Value) → kept ≡ take opened.from values
      → Leaves items g (both s v) (with_open r (Frame.Arguments opened)) c n (both s w) (record r { values = kept }) (Ok (Turn.Use t opened.end))
  unfolding arguments_whole arguments_close
  arguments_settled last w keeps values are made makes cause why t settles kept take_is = record {
    goes = subst (λ (vs : List Value). Goes items g v (both s w) (record r { values = vs }) (Ok (Turn.Use t opened.end)))
        (sym (take_is ∙ ap (take opened.from) are))
        (settled_goes_on items g s v w opened.place _ opened.end made t (arguments_close last w keeps (Ok made) (rw are at makes)) cause
        (let k : Causes (pushed r c) made cause = rw are at why in cause_here made cause k) settles);
    spends = arguments_closed_spend last t kept;
  }

-- The next argument is read, and the form stays where it is.
module _ (items : ItemsView) (g : WholeReading) (s : Table) (v : TermsView) (r : ReadingView) (c : Value) (n : ℕ) (values : List Value)
    (are : values ≡ pushed r c) where
  pub argument_goes_on : (frames : List Frame) → r.frames ≡ frames → wants_more frames n ≡ true → HasRead items g (both s v) r c n
      → Goes items g v (both s v) (record r { values = values }) (Ok (Turn.Read n))
  argument_goes_on (Frame.Arguments opened ∷ frames) is more h =
      let same = same_reader {r = r} is in
      nothing_made items g s v _ (Ok (Turn.Read n))
      (subst (λ (x : ReadingView). IsAt items g (both s v) (record x { values = values }) n) (sym same)
      (rw are
      (arguments_go_on items g s v (around r frames) c n opened (subst (λ (x : ReadingView). HasRead items g (both s v) x c n) same h)
      (eqb-false n opened.end (not-true _ more)))))
  argument_goes_on [] is more h = absurd (false≢true more)
  argument_goes_on (Frame.Bindings opened ∷ frames) is more h = absurd (false≢true more)
  argument_goes_on (Frame.Body opened ∷ frames) is more h = absurd (false≢true more)
  argument_goes_on (Frame.Names end ∷ frames) is more h = absurd (false≢true more)

-- An application that wants no more has had its last argument.
pub had_last : (frames : List Frame) (n : ℕ) (opened : OpenArguments) (others : List Frame) → frames ≡ Frame.Arguments opened ∷ others
    → wants_more frames n ≡ false → n ≡ opened.end
had_last frames n opened others is none = eqb-true n opened.end (not-false _ (rw is at none))
