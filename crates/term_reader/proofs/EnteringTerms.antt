-- How the reading of a term goes on from its top.
use Rattle.std.proofs.Common.{◌≡◌, ◌≢◌, ℕ, ℤ, ◌+◌, ◌≤◌, ◌<◌, arith, refl, sym, ap, ◌∙◌, subst, List, [], ◌∷◌, length, take, drop, Option, Some, None, Result, Ok, Err, IfOk, IfErr}
use Rattle.std.proofs.Math.Seq.{take-length, drop-length}
use Rattle.sexpr.specs.declared.causes.Cause.TheVariants.{UnknownName, Repeated, SortMismatch}
use Rattle.sexpr.specs.declared.causes.Refusal.{Refusal}
use Rattle.sexpr.specs.Items.{place_of}
use Rattle.sym_table.specs.Table.{Table}
use Rattle.term_model.specs.declared.symbols.Sort.{Sort}
use Rattle.term_model.specs.Terms.{Term, numeral}
use Rattle.term_pool.specs.Views.{TermsView, KeepsTerms}
use Rattle.term_pool.proofs.Keeping.{terms-refl}
use Rattle.term_reader.specs.Entering.{HasTop, IsNumber, IsHeadFound, IsReadAlone}
use Rattle.term_reader.specs.Leaving.{with_open, Spends}
use Rattle.term_reader.specs.Credits.{credit}
use Rattle.problem_text.specs.Forms.{Form, number, symbol, application, let_form, annotated, Forms, form, LetBinds, bind}
use Rattle.term_reader.specs.Frames.{WholeReading, AreFrames}
use Rattle.term_model.specs.Heights.{height}
use Rattle.problem_text.specs.Limits.{most_height}
use Rattle.text_items.specs.ItemShapes.{Name}
use Rattle.text_items.specs.Stepping.{name_in, IsSymbolAt}
use Rattle.term_reader.specs.Layers.{form_at, forms_at, AreBinds, names_at, AreTermAttributes}
use Rattle.problem_text.specs.Names.{Place, meaning_of}
use Rattle.term_reader.specs.Reading.{terms_read, ComesTo}
use Rattle.term_reader.specs.Turns.{ReaderStands, IsAt, Goes}
use Rattle.term_reader.specs.Resuming.{Waiting, arguments, bindings, naming, resumed}
use Rattle.problem_text.specs.TypedTerms.{Typed}
use Rattle.problem_text.specs.Outcomes.{Outcome, done}
use Rattle.problem_text.specs.Scripts.{Script, with_term, with_let_name}
use Rattle.term_reader.specs.Shapes.{IsFirstRepeat}
use Rattle.term_names.specs.Standing.{AddsNoSymbols, GrowByTerms}
use Rattle.problem_text.specs.Terms.{settled, term_from}
use Rattle.term_names.specs.InScope.{AreValuesBound}
use Rattle.term_expansion.specs.Values.{AreValues}
use Rattle.term_names.specs.declared.faults.ReadFault.{ReadFault}
use Rattle.term_reader.specs.declared.frames.Frame.{Frame}
use Rattle.term_names.specs.declared.heads.Head.{Head}
use Rattle.term_reader.specs.declared.layers.Layer.{Layer}
use Rattle.text_items.specs.ItemsAt.{ItemsView, end_at, item_at}
use Rattle.term_reader.specs.ReadingViews.{ReadingView, reader_in}
use Rattle.term_names.specs.declared.settings.ReadSettings.{ReadSettings}
use Rattle.term_reader.specs.declared.reader.Reader.{Reader}
use Rattle.term_reader.specs.declared.reader.Turn.{Turn}
use Rattle.term_expansion.specs.declared.values.Value.{Value}
use Rattle.term_reader.proofs.FormSteps.{forms_more, range_on, binds_more}
use Rattle.term_reader.proofs.RepeatLemmas.{repeat_here, repeat_on}
use Rattle.term_reader.proofs.Limited.{limit_so}
use Rattle.term_reader.proofs.Resuming.{first_argument, unknown_head, first_binding, first_binding_refused, annotation_begins}
use Rattle.term_reader.proofs.Coming.{IsPartOf, answers, answers_whole, fails, refuses, no_memory}
use Rattle.term_reader.proofs.MoreRead.{with_read, same_script}
use Rattle.term_reader.proofs.Settled.{part_resumed, nothing_made}
use Rattle.term_reader.proofs.Staying.{adds_none, frames_stay, stands_stays}
use Rattle.term_expansion.specs.SymbolsAndTerms.{both}

-- other terms that were read and other names of lets change nothing of what the tables stand for
stands_alike : (s : Table) (v : TermsView) (r : ReadingView) (sc : Script) (terms : List Term) (names : List (List ℕ)) (p : Place)
    → ReaderStands (both s v) r sc p
    → ReaderStands (both s v) r (with_read terms names sc) p
stands_alike s v r sc terms names p h =
    record { script = same_script s v r.names.known terms names sc h.script; scope = h.scope; settings = h.settings; low = h.low }

-- one form more that is open changes nothing of what the tables stand for
stands_opened : (s : Table) (v : TermsView) (r : ReadingView) (f : Frame) (sc : Script) (p : Place) → ReaderStands (both s v) r sc p
    → ReaderStands (both s v) (with_open r f) sc p
stands_opened s v r f sc p h = record { script = h.script; scope = h.scope; settings = h.settings; low = h.low }

-- what a call says that reads a symbol alone
abbrev pub IsSymbolRead : Table → TermsView → ReadingView → Name → TermsView → Result Value ReadFault → Type 0
IsSymbolRead s v r n w result =
    (sc : Script) (p : Place) → ReaderStands (both s v) r sc p → ComesTo terms_read v (both s w) (IsReadAlone (both s w) sc) (term_from (symbol n) p sc) result

-- a symbol's name, where it stands
pub name_here : (items : ItemsView) (k place : ℕ) (name : List ℕ) → place ≡ place_of (item_at items k) → name ≡ (name_in items k).name
    → record { place = place; name = name } ≡ name_in items k
name_here items k place name starts named =
    ap (λ (n : ℕ). record { place = n; name = name }) starts ∙ ap (λ (n : List ℕ). record { place = place_of (item_at items k); name = n }) named

-- the node that is read next is further on, and within the text
pub record IsFurther (items : ItemsView) (k next : ℕ) : Type 0 where
  pub later : k < next
  pub within : next < length items.nodes

module _ (items : ItemsView) (g : WholeReading) (s : Table) (v : TermsView) (r : ReadingView) (k : ℕ) where
  abbrev Top : Layer → Type 0
  Top layer = HasTop items g (both s v) r k layer

  abbrev comes_of : IsAt items g (both s v) r k → Outcome Script Typed
  comes_of a = term_from (form_at items k) a.place a.script

  -- where the item at a node begins
  abbrev IsStart : ℕ → ℕ → Type 0
  IsStart j place = place ≡ place_of (item_at items j)

  -- the term is a part of the whole
  part : (a : IsAt items g (both s v) r k) → IsPartOf terms_read (comes_of a) g.whole
  part a = part_resumed a.waiting (comes_of a) g.whole a.comes

  refusal_goes : (q : ReadingView) (refusal : Refusal) (a : IsAt items g (both s v) r k) → (comes_of a).result ≡ Err refusal
      → Goes items g v (both s v) q (Err (ReadFault.Text refusal))
  refusal_goes q refusal a e = refuses refl ((part a).faults refusal e)

  pub faulty_goes : (refusal : Refusal) → Top (Layer.Faulty refusal) → Goes items g v (both s v) r (Err (ReadFault.Text refusal))
  unfolding term_from
  faulty_goes refusal h = refusal_goes r refusal h.at (ap (λ (f : Form). (term_from f h.at.place h.at.script).result) h.top)

  -- a term of one node is read
  value_goes : (z : Table) (w : TermsView) (c : Value) (a : IsAt items g (both s v) r k) → GrowByTerms (both s v) (both z w) → end_at items k ≡ k + 1
      → ComesTo terms_read v (both z w) (IsReadAlone (both z w) a.script) (comes_of a) (Ok c) → Goes items g v (both z w) r (Ok (Turn.Use c (k + 1)))
  value_goes z w c a grow alone read =
      let t = read.answer.value in
      answers_whole g.whole (part a) read
      (record {
        script = read.answer.state;
        place = a.place;
        term = t;
        waiting = a.waiting;
        stands = subst (λ (sc : Script). ReaderStands (both z w) r sc a.place) (sym read.answer.after.same)
            (stands_stays s z v w grow.symbols grow.terms r (with_term t.tree a.script) a.place (stands_alike s v r a.script _ _ a.place a.stands));
        is = read.answer.after.is;
        low = read.answer.after.low;
        frames =
            subst (λ (n : ℕ). AreFrames items g (both z w) r.names.known r.frames r.values r.leaves.items r.names.scope a.place n a.waiting) alone
            (frames_stay s z v w grow.symbols.keeps grow.terms items g r.names.known r.names.known (λ which. refl) r.frames r.values r.leaves.items
            r.names.scope a.place (end_at items k) a.waiting a.frames);
        comes = ap (resumed a.waiting) (sym read.answer.is) ∙ a.comes;
      })

  number_comes : (place n : ℕ) (p : Place) (sc : Script) → p.settings.limit ≡ Some most_height
      → term_from (number place n) p sc ≡ done (record { tree = numeral n; sort = Sort.Int }) (with_term (numeral n) sc)
  unfolding term_from height
  number_comes place n p sc limited = ap (λ (limit : Option ℕ). settled SortMismatch limit place
      (Some (record { tree = numeral n; sort = Sort.Int })) sc) limited

  pub number_goes : (z : Table) (c : Value) (n : ℤ) → Top (Layer.Number n) → AddsNoSymbols s z → IsNumber z c n
      → Goes items g v (both z v) r (Ok (Turn.Use c (k + 1)))
  number_goes z c n h adds is =
      let (m, e, same, alone) = h.top in
      value_goes z v c h.at (record { symbols = adds; terms = terms-refl v }) alone
      (answers (record { tree = numeral m; sort = Sort.Int }) (with_term (numeral m) h.at.script) refl
      (ap (λ (f : Form). term_from f h.at.place h.at.script) e
      ∙ number_comes (place_of (item_at items k)) m h.at.place h.at.script (limit_so h.at.place.settings r.replaces_lets h.at.stands.settings))
      (record { same = refl; is = is.is v m same; low = is.low }))

  symbol_read : (w : TermsView) (n : Name) (result : Result Value ReadFault) (h : Top Layer.Symbol) → n ≡ name_in items k → IsSymbolRead s v r n w result
      → ComesTo terms_read v (both s w) (IsReadAlone (both s w) h.at.script) (comes_of h.at) result
  symbol_read w n result h is reads =
      let (e, named, alone) = h.top in
      subst (λ (f : Form). ComesTo terms_read v (both s w) (IsReadAlone (both s w) h.at.script) (term_from f h.at.place h.at.script) result)
      (ap symbol is ∙ sym e) (reads h.at.script h.at.place h.at.stands)

  pub symbol_goes : (w : TermsView) (n : Name) (c : Value) → Top Layer.Symbol → n ≡ name_in items k → KeepsTerms v w → IsSymbolRead s v r n w (Ok c)
      → Goes items g v (both s w) r (Ok (Turn.Use c (k + 1)))
  symbol_goes w n c h is keeps reads =
      let (e, named, alone) = h.top in
      value_goes s w c h.at (record { symbols = adds_none s; terms = keeps }) alone (symbol_read w n (Ok c) h is reads)

  pub symbol_fails_goes : (w : TermsView) (n : Name) (f : ReadFault) (q : ReadingView) → Top Layer.Symbol → n ≡ name_in items k
      → IsSymbolRead s v r n w (Err f) → Goes items g v (both s w) q (Err f)
  symbol_fails_goes w n f q h is reads = fails g.whole (part h.at) (symbol_read w n (Err f) h is reads)

  -- the frames with one more
  all_values : (fs : List Frame) (ls : List ℕ) (p : Place) (m n : ℕ) (ws : List Waiting) → m ≡ n
      → AreFrames items g (both s v) r.names.known fs r.values ls r.names.scope p m ws
      → AreFrames items g (both s v) r.names.known fs (take (length r.values) r.values) ls r.names.scope p n ws
  all_values fs ls p m n ws e h =
      subst (λ (values : List Value). AreFrames items g (both s v) r.names.known fs values ls r.names.scope p n ws) (sym (take-length r.values))
      (subst (λ (j : ℕ). AreFrames items g (both s v) r.names.known fs r.values ls r.names.scope p j ws) e h)

  -- an argument is read, or the first one
  pub application_goes : (head first end place : ℕ) (applied : Head) → Top (Layer.Application head first end) → IsStart k place
      → ((w : TermsView) (sc : Script) (p : Place) → ReaderStands (both s w) r sc p → IsHeadFound (both s w) r.names.known (Some applied) (meaning_of p sc (name_in items head).name))
      → Goes items g v (both s v) (with_open r (Frame.Arguments (record { place = place; head = applied; from = length r.values; end = end })))
      (Ok (Turn.Read first))
  application_goes head first end place applied h starts found =
      let a = h.at in
      let (e, named, range, less, same_end, later) = h.top in
      let (m, known, applies) = found v a.script a.place a.stands in
      nothing_made items g s v _ _ (record {
        script = a.script;
        place = a.place;
        waiting = arguments place m [] (forms_at items (end_at items first) end) a.place ∷ a.waiting;
        stands = stands_opened s v r _ a.script a.place a.stands;
        inside = let h = range.inside in omega arith;
        frames = (
          m,
          [],
          a.waiting,
          refl,
          record {
            applies = applies;
            within = omega arith;
            read_values = subst (λ (values : List Value). AreValues (both s v) values []) (sym (drop-length r.values)) tt;
            left_here = range_on items first end range less;
          },
          all_values r.frames r.leaves.items a.place (end_at items k) end a.waiting (sym same_end) a.frames,
        );
        comes =
            sym (first_argument a.waiting place (name_in items head) m (form_at items first) (forms_at items (end_at items first) end) a.place a.script known)
            ∙ ap (λ (n : ℕ). resumed a.waiting
            (term_from (application n (name_in items head) (form (form_at items first) (forms_at items (end_at items first) end))) a.place a.script)) starts
            ∙ ap (λ (fs : Forms). resumed a.waiting (term_from (application (place_of (item_at items k)) (name_in items head) fs) a.place a.script))
            (sym (forms_more items first end range less))
            ∙ ap (λ (q : Form). resumed a.waiting (term_from q a.place a.script)) (sym e) ∙ a.comes;
      })

  pub application_unknown : (head first end place : ℕ) (refusal : Refusal) → Top (Layer.Application head first end) → IsStart head place
      → refusal ≡ record { cause = UnknownName; at = place }
      → ((w : TermsView) (sc : Script) (p : Place) → ReaderStands (both s w) r sc p → IsHeadFound (both s w) r.names.known None (meaning_of p sc (name_in items head).name))
      → Goes items g v (both s v) r (Err (ReadFault.Text refusal))
  application_unknown head first end place refusal h starts is found =
      let a = h.at in
      let (e, named, range, less, same_end, later) = h.top in
      let none = found v a.script a.place a.stands in
      let same : refusal ≡ record { cause = UnknownName; at = (name_in items head).place } = is ∙ ap (λ (n : ℕ). record { cause = UnknownName; at = n })
      starts in
      refusal_goes r refusal a
      (ap (λ (q : Form). (term_from q a.place a.script).result) e ∙ ap (λ (o : Outcome Script Typed). o.result)
      (unknown_head (place_of (item_at items k)) (name_in items head) (forms_at items first end) a.place a.script none) ∙ ap Err (sym same))

  -- the term of a let's first binding is read, or its variable may not be bound
  pub let_goes : (first body repeat place from leaf : ℕ) → Top (Layer.Let first body) → IsStart k place → from ≡ length r.values
      → leaf ≡ length r.leaves.items → repeat ≢ first
      → ((bs : LetBinds) → AreBinds items first bs body → IsFirstRepeat items first [] bs repeat body)
      → Goes items g v (both s v)
      (with_open r (Frame.Bindings (record { place = place; from = from; leaves = leaf; name = first + 1; repeat = repeat; body = body })))
      (Ok (Turn.Read (first + 2)))
  let_goes first body repeat place from leaf h starts from_is leaf_is differs repeats =
      let a = h.at in
      let (bs, e, are, some, body_here, body_ends, later) = h.top in
      let b = binds_more items first bs body are (λ same. absurd (omega arith)) in
      let (free, further) = repeat_on items first [] (name_in items (first + 1)) (form_at items (first + 2)) b.others repeat body
      (subst (λ (q : LetBinds). IsFirstRepeat items first [] q repeat body) b.split (repeats bs are)) (λ same. differs (sym same)) in
      nothing_made items g s v _ _ (record {
        script = with_let_name (name_in items (first + 1)).name a.script;
        place = a.place;
        waiting = bindings place [] (name_in items (first + 1)) [] b.others (form_at items body) a.place ∷ a.waiting;
        stands = stands_opened s v r _ (with_let_name (name_in items (first + 1)).name a.script) a.place (stands_alike s v r a.script _ _ a.place a.stands);
        inside = b.inside;
        frames = (
          [],
          [],
          b.others,
          a.waiting,
          refl,
          record {
            within = omega arith;
            leaves_within = omega arith;
            read_bound =
                subst (λ (values : List Value). AreValuesBound (both s v) (drop leaf r.leaves.items) values [])
                (sym (ap (λ (n : ℕ). drop n r.values) from_is ∙ drop-length r.values))
                (subst (λ (ks : List ℕ). AreValuesBound (both s v) ks [] [])
                (sym (ap (λ (n : ℕ). drop n r.leaves.items) leaf_is ∙ drop-length r.leaves.items)) (record { leaves = tt; values = tt }));
            variable = b.named;
            left_here = b.there;
            first_faulty = further;
            body_here = body_here;
          },
          subst (λ (values : List Value). AreFrames items g (both s v) r.names.known r.frames values (take leaf r.leaves.items) r.names.scope a.place
              (end_at items body) a.waiting)
              (sym (ap (λ (n : ℕ). take n r.values) from_is ∙ take-length r.values))
              (subst (λ (ks : List ℕ). AreFrames items g (both s v) r.names.known r.frames r.values ks r.names.scope a.place (end_at items body) a.waiting)
              (sym (ap (λ (n : ℕ). take n r.leaves.items) leaf_is ∙ take-length r.leaves.items))
              (subst (λ (n : ℕ). AreFrames items g (both s v) r.names.known r.frames r.values r.leaves.items r.names.scope a.place n a.waiting)
              (sym body_ends) a.frames)),
        );
        comes =
            sym (first_binding a.waiting place (name_in items (first + 1)) (form_at items (first + 2)) b.others (form_at items body) a.place a.script free)
            ∙ ap (λ (n : ℕ). resumed a.waiting
            (term_from (let_form n (bind (name_in items (first + 1)) (form_at items (first + 2)) b.others) (form_at items body)) a.place a.script)) starts
            ∙ ap (λ (q : LetBinds). resumed a.waiting (term_from (let_form (place_of (item_at items k)) q (form_at items body)) a.place a.script)) (sym b.split)
            ∙ ap (λ (q : Form). resumed a.waiting (term_from q a.place a.script)) (sym e) ∙ a.comes;
      })

  pub let_repeated : (first body repeat place : ℕ) (refusal : Refusal) → Top (Layer.Let first body) → IsStart (first + 1) place
      → refusal ≡ record { cause = Repeated; at = place } → repeat ≡ first
      → ((bs : LetBinds) → AreBinds items first bs body → IsFirstRepeat items first [] bs repeat body)
      → Goes items g v (both s v) r (Err (ReadFault.Text refusal))
  let_repeated first body repeat place refusal h starts is here repeats =
      let a = h.at in
      let (bs, e, are, some, body_here, body_ends, later) = h.top in
      let b = binds_more items first bs body are (λ same. absurd (omega arith)) in
      let bound : AreBinds items first (bind (name_in items (first + 1)) (form_at items (first + 2)) b.others) body = (b.named, refl, b.inside, refl, b.there)
      in
      let taken = repeat_here items first [] (name_in items (first + 1)) (form_at items (first + 2)) b.others body bound
      (subst (λ (n : ℕ). IsFirstRepeat items first [] (bind (name_in items (first + 1)) (form_at items (first + 2)) b.others) n body) here
      (repeats (bind (name_in items (first + 1)) (form_at items (first + 2)) b.others) bound)) in
      let same : refusal ≡ record { cause = Repeated; at = (name_in items (first + 1)).place } =
      is ∙ ap (λ (n : ℕ). record { cause = Repeated; at = n }) starts in
      refusal_goes r refusal a
      (ap (λ (q : Form). (term_from q a.place a.script).result) e
      ∙ ap (λ (q : LetBinds). (term_from (let_form (place_of (item_at items k)) q (form_at items body)) a.place a.script).result) b.split
      ∙ ap (λ (o : Outcome Script Typed). o.result) (first_binding_refused [] (place_of (item_at items k)) (name_in items (first + 1))
      (form_at items (first + 2)) b.others (form_at items body) a.place a.script taken) ∙ ap Err (sym same))

  -- the term of an annotation is read
  pub annotation_goes : (t first end : ℕ) → Top (Layer.Annotated t first end) → Goes items g v (both s v) (with_open r (Frame.Names end)) (Ok (Turn.Read t))
  annotation_goes t first end h =
      let a = h.at in
      let (e, here, ends, attributes, same_end, later) = h.top in
      nothing_made items g s v _ _ (record {
        script = a.script;
        place = a.place;
        waiting = naming (names_at items (end_at items t) end) ∷ a.waiting;
        stands = stands_opened s v r _ a.script a.place a.stands;
        inside = here;
        frames = (
          a.waiting,
          refl,
          subst (λ (n : ℕ). AreTermAttributes items n end) (sym ends) attributes,
          subst (λ (n : ℕ). AreFrames items g (both s v) r.names.known r.frames r.values r.leaves.items r.names.scope a.place n a.waiting)
              (sym same_end) a.frames,
        );
        comes = sym (annotation_begins a.waiting (place_of (item_at items k)) (form_at items t) (names_at items (end_at items t) end) a.place a.script)
            ∙ ap (λ (n : ℕ). resumed a.waiting (term_from (annotated (place_of (item_at items k)) (form_at items t) (names_at items n end)) a.place a.script))
            ends ∙ ap (λ (q : Form). resumed a.waiting (term_from q a.place a.script)) (sym e) ∙ a.comes;
      })

  pub application_further : (head first end : ℕ) → Top (Layer.Application head first end) → IsFurther items k first
  application_further head first end h =
      let (e, named, range, less, same_end, later) = h.top in
      record { later = later; within = (let h = range.inside in omega arith) }

  pub let_further : (first body : ℕ) → Top (Layer.Let first body) → IsFurther items k first × IsFurther items k (first + 2)
  let_further first body h =
      let (bs, e, are, some, body_here, body_ends, later) = h.top in
      let b = binds_more items first bs body are (λ same. absurd (omega arith)) in
      let inside = b.inside in
      (record { later = later; within = omega arith }, record { later = omega arith; within = omega arith })

  -- the variable of a let's first binding
  pub variable_there : (first body : ℕ) → Top (Layer.Let first body) → IsSymbolAt items (first + 1)
  variable_there first body h =
      let (bs, e, are, some, body_here, body_ends, later) = h.top in
      let b = binds_more items first bs body are (λ same. absurd (omega arith)) in
      b.named

  pub annotation_further : (t first end : ℕ) → Top (Layer.Annotated t first end) → IsFurther items k t
  annotation_further t first end h =
      let (e, here, ends, attributes, same_end, later) = h.top in
      record { later = later; within = here }

-- what comes of opening a form
module _ (e : ReadSettings) (r new : Reader) (frame : Frame) (next : ℕ) (result : Result Turn ReadFault)
    (is : IfOk result (λ (t : Turn). (t ≡ Turn.Read next) × (new ≡ record r { frames = frame ∷ r.frames }))) where
  pub at_opened : (P : ReadingView → Turn → Type 0) → P (with_open (reader_in e r) frame) (Turn.Read next) → IfOk result (λ (t : Turn). P (reader_in e new) t)
  at_opened P h = go result is
    where
      go : (a : Result Turn ReadFault) → IfOk a (λ (t : Turn). (t ≡ Turn.Read next) × (new ≡ record r { frames = frame ∷ r.frames }))
          → IfOk a (λ (t : Turn). P (reader_in e new) t)
      go (Ok t) (same_turn, same) = subst (λ (q : Reader). P (reader_in e q) t) (sym same) (subst (P (with_open (reader_in e r) frame)) (sym same_turn) h)
      go (Err f) h = tt

  pub opened_goes : (items : ItemsView) (g : WholeReading) (s : Table) (v : TermsView) → IfErr result (λ (f : ReadFault). f ≡ ReadFault.Memory)
      → Goes items g v (both s v) (with_open (reader_in e r) frame) (Ok (Turn.Read next)) → Goes items g v (both s v) (reader_in e new) result
  opened_goes items g s v fault h = go result (at_opened (λ (q : ReadingView) (t : Turn). Goes items g v (both s v) q (Ok t)) h) fault
    where
      go : (a : Result Turn ReadFault) → IfOk a (λ (t : Turn). Goes items g v (both s v) (reader_in e new) (Ok t))
          → IfErr a (λ (f : ReadFault). f ≡ ReadFault.Memory) → Goes items g v (both s v) (reader_in e new) a
      go (Ok t) h none = h
      go (Err f) h same = subst (λ (u : ReadFault). Goes items g v (both s v) (reader_in e new) (Err u)) (sym same) (no_memory refl)

  pub opened_spends : (items : ItemsView) (s : Table) (k : ℕ) → IsFurther items k next → k + credit (frame ∷ r.frames) ≤ next + credit r.frames
      → IfOk result (λ (t : Turn). Spends items s (reader_in e r) (Turn.Read k) s (reader_in e new) t)
  opened_spends items s k further less =
      let later = further.later in
      let within = further.within in
      at_opened (λ (q : ReadingView) (t : Turn). Spends items s (reader_in e r) (Turn.Read k) s q t)
      (record { inside = omega arith; few = omega arith; progress = omega arith })
