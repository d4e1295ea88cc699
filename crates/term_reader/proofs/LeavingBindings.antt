-- The term of a binding was read.
use Rattle.std.proofs.Common.{◌≡◌, ◌≢◌, ◌∙◌, ◌≤◌, ◌<◌, ◌+◌, ◌-◌, arith, refl, ap, sym, subst, ℕ, List, [], ◌∷◌, ◌++◌, length, take, drop, Ok, Err}
use Rattle.std.proofs.lemmas.List.{take-append-le, length-append, length-drop}
use Rattle.sexpr.specs.declared.causes.Cause.TheVariants.{Repeated}
use Rattle.sexpr.specs.declared.causes.Refusal.{Refusal}
use Rattle.sym_table.specs.Leaf as leaf
use Rattle.sym_table.specs.Table.{Table, IsLeaf}
use Rattle.term_model.specs.declared.symbols.Sort.{Sort}
use Rattle.term_model.proofs.Lists.{all_at_end}
use Rattle.term_pool.specs.Views.{TermsView}
use Rattle.term_pool.proofs.Keeping.{terms-refl}
use Rattle.text_items.specs.ItemShapes.{Name}
use Rattle.problem_text.specs.Forms.{Form, LetBinds, no_binds}
use Rattle.term_reader.specs.Frames.{WholeReading, AreFrames}
use Rattle.term_names.specs.InScope.{IsScope, AreValuesLow, AreValuesBound}
use Rattle.text_items.specs.Stepping.{name_in, IsSymbolAt}
use Rattle.term_reader.specs.Layers.{form_at}
use Rattle.term_reader.specs.Leaving.{with_open, Leaves}
use Rattle.problem_text.specs.Names.{Bound, Place, place_inside}
use Rattle.term_reader.specs.Turns.{HasRead, IsAt}
use Rattle.term_reader.specs.Resuming.{Waiting, bindings, body_of, bound_to, resumed}
use Rattle.term_names.specs.Known.{KnownView}
use Rattle.term_names.specs.Scope.{Scoped, NamesView}
use Rattle.problem_text.specs.TypedTerms.{Typed}
use Rattle.problem_text.specs.Outcomes.{Outcome, done, refuse}
use Rattle.problem_text.specs.Scripts.{Script, with_let_name}
use Rattle.term_names.specs.Standing.{AddsNoSymbols}
use Rattle.term_names.specs.declared.faults.ReadFault.{ReadFault}
use Rattle.term_reader.specs.declared.frames.Frame.{Frame}
use Rattle.term_reader.specs.declared.frames.OpenBindings.{OpenBindings}
use Rattle.text_items.specs.ItemsAt.{ItemsView, end_at, item_at}
use Rattle.sexpr.specs.Items.{place_of}
use Rattle.term_reader.specs.ReadingViews.{ReadingView}
use Rattle.term_reader.specs.declared.reader.Turn.{Turn}
use Rattle.term_expansion.specs.declared.values.Value.{Value}
use Rattle.term_reader.proofs.FormSteps.{binds_done, binds_more}
use Rattle.term_reader.proofs.Limited.{replaces_so}
use Rattle.term_reader.proofs.MoreRead.{zip_pushed, same_script}
use Rattle.term_reader.proofs.RepeatLemmas.{repeat_here, repeat_on}
use Rattle.term_reader.proofs.Resuming.{next_binding_read, next_binding_refused, last_binding_read}
use Rattle.term_reader.proofs.Settled.{nothing_made}
use Rattle.term_reader.proofs.Staying.{value_stays, bound_stays, script_stays, scope_stays, frames_stay}
use Rattle.term_expansion.specs.SymbolsAndTerms.{both}

module _ (items : ItemsView) (g : WholeReading) (s : Table) (v : TermsView) (r : ReadingView) (c : Value) (n : ℕ) (opened : OpenBindings)
    (h : HasRead items g (both s v) (with_open r (Frame.Bindings opened)) c n) where
  -- the binding has its leaf and its value on the stacks
  pub record IsAdded (t : Table) (leaves : List ℕ) (values : List Value) : Type 0 where
    pub adds : AddsNoSymbols s t
    pub leaf : (k : ℕ) × IsLeaf t k (leaf.variable (name_in items opened.name).name c.sort) × (leaves ≡ r.leaves.items ++ k ∷ [])
    pub values_are : values ≡ r.values ++ c ∷ []

  -- its variable, and the body
  abbrev this : Name
  this = name_in items opened.name

  abbrev body : Form
  body = form_at items opened.body

  -- the let is open at its body
  abbrev pub body_frame : Frame
  body_frame = Frame.Body (record { place = opened.place; from = opened.from; leaves = opened.leaves })

  -- with the bindings in scope this is the scope inside the let
  abbrev pub Binds : Table → List ℕ → List Value → List Scoped → Type 0
  Binds t ks values scope =
      (w : TermsView) (bs : List Bound) (p : Place) → AreValuesBound (both t w) ks (drop opened.from values) bs → IsScope (both t w) r.names.scope p.scope
      → p.settings.replaces_lets ≡ r.replaces_lets → IsScope (both t w) scope (place_inside bs p).scope

  -- what waits where these are the bindings that are left
  waits : (bs : LetBinds) → h.frames.2 ≡ bs
      → resumed (bindings opened.place h.frames.0 this h.frames.1 bs body h.place ∷ h.frames.3) (done h.term h.script) ≡ g.whole
  waits bs same =
      ap (λ (bs : LetBinds). resumed (bindings opened.place h.frames.0 this h.frames.1 bs body h.place ∷ h.frames.3) (done h.term h.script)) (sym same)
      ∙ ap (λ (ws : List Waiting). resumed ws (done h.term h.script)) (sym h.frames.4) ∙ h.comes

  pub variable_there : IsSymbolAt items opened.name
  variable_there = let (read, earlier, left, rest, is, here, outer) = h.frames in here.variable

  -- the bindings that were read, with this one
  abbrev all_read : List Bound
  all_read = h.frames.0 ++ bound_to this h.term ∷ []

  -- the let has a leaf
  pub leaf_there : (k : ℕ) → opened.leaves < length (r.leaves.items ++ k ∷ [])
  leaf_there k =
      let (read, earlier, left, rest, is, here, outer) = h.frames in
      let e = here.leaves_within in
      omega (arith, e, length-append r.leaves.items (k ∷ []))

  module _ (t : Table) (leaves : List ℕ) (values : List Value) (added : IsAdded t leaves values) where
    low_now : AreValuesLow values
    low_now = rw added.values_are (all_at_end _ r.values c h.stands.low h.low)

    bound_now : AreValuesBound (both t v) (drop opened.leaves leaves) (drop opened.from values) all_read
    bound_now =
        let (read, earlier, left, rest, is, here, outer) = h.frames in
        let (k, leaf_is, leaves_are) = added.leaf in
        let before = bound_stays s t v v added.adds.keeps (terms-refl v) (drop opened.leaves r.leaves.items) (drop opened.from r.values) read here.read_bound in
        let new = bound_to this h.term in
        rw (leaves_are, added.values_are)
        (record {
          leaves = zip_pushed _ opened.leaves r.leaves.items read k new here.leaves_within before.leaves
              (subst (λ (sort : Sort). IsLeaf t k (leaf.variable this.name sort)) h.is.sort leaf_is);
          values = zip_pushed _ opened.from r.values read c new here.within before.values (value_stays s t v v added.adds.keeps (terms-refl v) c h.term h.is);
        })

    within_now : opened.from ≤ length values
    within_now =
        let (read, earlier, left, rest, is, here, outer) = h.frames in
        rw added.values_are (let e = here.within in omega (arith, e, length-append r.values (c ∷ [])))

    leaves_within_now : opened.leaves < length leaves
    leaves_within_now = let (k, leaf_is, leaves_are) = added.leaf in rw leaves_are (leaf_there k)

    abbrev Around : KnownView → Type 0
    Around k =
        AreFrames items g (both t v) k r.frames (take opened.from values) (take opened.leaves leaves) r.names.scope h.place (end_at items opened.body) h.frames.3

    frames_now : Around r.names.known
    frames_now =
        let (read, earlier, left, rest, is, here, outer) = h.frames in
        let (k, leaf_is, leaves_are) = added.leaf in
        let values_stay = take-append-le opened.from r.values (c ∷ []) here.within in
        let leaves_stay = take-append-le opened.leaves r.leaves.items (k ∷ []) here.leaves_within in
        rw (added.values_are, leaves_are, values_stay, leaves_stay)
        (frames_stay s t v v added.adds.keeps (terms-refl v) items g r.names.known r.names.known (λ _. refl) r.frames _ _ _ _ _ _ outer)

    pub bindings_bound : (w : TermsView) × (bs : List Bound) × AreValuesBound (both t w) (drop opened.leaves leaves) (drop opened.from values) bs
    bindings_bound = (v, all_read, bound_now)

    -- The last one was read: the body comes.
    body_begins : n ≡ opened.body → (names : NamesView) (inner : List Scoped) (ks : List ℕ) → names.known ≡ r.names.known → ks ≡ drop opened.leaves leaves
        → Binds t ks values names.scope
        → names.scope ≡ inner ++ r.names.scope → length inner ≡ length ks → (q : ReadingView) → q.leaves.items ≡ leaves
        → IsAt items g (both t v) (record r { names = names; values = values; leaves = q.leaves; frames = body_frame ∷ r.frames }) opened.body
    body_begins last names inner ks known are binds split each q leaves_are =
        let (read, earlier, left, rest, is, here, outer) = h.frames in
        let none : left ≡ no_binds = binds_done items n left opened.body here.left_here last in
        let around = scope_stays s t v v added.adds.keeps (terms-refl v) r.names.scope h.place.scope h.stands.scope in
        let counted : length inner ≡ length leaves - opened.leaves = each ∙ ap length are ∙ length-drop opened.leaves leaves in
        record {
          script = h.script;
          place = place_inside all_read h.place;
          waiting = body_of opened.place all_read h.place ∷ rest;
          stands = record {
            script = rw known (script_stays s t v v added.adds (terms-refl v) r.names.known h.script h.stands.script);
            scope = binds v all_read h.place (rw are bound_now) around (replaces_so h.place.settings r.replaces_lets h.stands.settings);
            settings = h.stands.settings;
            low = low_now;
          };
          inside = here.body_here;
          frames = rw leaves_are (
            all_read,
            r.names.scope,
            h.place,
            rest,
            refl,
            record {
              within = within_now;
              leaves_within = leaves_within_now;
              bound_here = bound_now;
              same_place = refl;
              inner = inner;
              split = split;
              one_each = let e = leaves_within_now in omega (arith, counted, e);
              around_here = around;
            },
            subst Around (sym known) frames_now,
          );
          comes = sym (last_binding_read rest opened.place read this earlier body h.place h.term h.script) ∙ waits no_binds none;
        }

    -- The next one is read.
    binding_goes_on : n ≢ opened.body → n ≢ opened.repeat → (q : ReadingView) → q.leaves.items ≡ leaves
        → IsAt items g (both t v) (record r { values = values; leaves = q.leaves; frames = Frame.Bindings (record opened { name = n + 1 }) ∷ r.frames }) (n + 2)
    binding_goes_on more free q leaves_are =
        let (read, earlier, left, rest, is, here, outer) = h.frames in
        let a = binds_more items n left opened.body here.left_here more in
        let faulty = rw a.split at here.first_faulty in
        let next = repeat_on items n (this.name ∷ earlier) (name_in items (n + 1)) (form_at items (n + 2)) a.others opened.repeat opened.body faulty free in
        record {
          script = with_let_name (name_in items (n + 1)).name h.script;
          place = h.place;
          waiting = bindings opened.place all_read (name_in items (n + 1)) (this.name ∷ earlier) a.others body h.place ∷ rest;
          stands = record {
            script = same_script t v r.names.known _ _ h.script (script_stays s t v v added.adds (terms-refl v) r.names.known h.script h.stands.script);
            scope = scope_stays s t v v added.adds.keeps (terms-refl v) r.names.scope h.place.scope h.stands.scope;
            settings = h.stands.settings;
            low = low_now;
          };
          inside = a.inside;
          frames = rw leaves_are (
            all_read,
            this.name ∷ earlier,
            a.others,
            rest,
            refl,
            record {
              within = within_now;
              leaves_within = let e = leaves_within_now in omega (arith, e);
              read_bound = bound_now;
              variable = a.named;
              left_here = a.there;
              first_faulty = next.1;
              body_here = here.body_here;
            },
            frames_now,
          );
          comes = sym (next_binding_read rest opened.place read this earlier (name_in items (n + 1)) _ a.others body h.place h.term h.script next.0)
              ∙ waits _ a.split;
        }

  -- There is a node behind each name.
  pub more_nodes_there : n ≢ opened.body → n + 2 < length items.nodes
  more_nodes_there more =
      let (read, earlier, left, rest, is, here, outer) = h.frames in
      let a = binds_more items n left opened.body here.left_here more in
      a.inside

  -- The next one may not be bound.
  binding_refused : n ≢ opened.body → n ≡ opened.repeat → g.whole.result ≡ Err (record { cause = Repeated; at = place_of (item_at items (n + 1)) })
  binding_refused more faulty =
      let (read, earlier, left, rest, is, here, outer) = h.frames in
      let a = binds_more items n left opened.body here.left_here more in
      let first_one = rw (a.split, sym faulty) at here.first_faulty in
      let binds = rw a.split at here.left_here in
      let taken = repeat_here items n (this.name ∷ earlier) (name_in items (n + 1)) (form_at items (n + 2)) a.others opened.body binds first_one in
      let whole : g.whole ≡ refuse Repeated (name_in items (n + 1)).place h.script =
      sym (waits _ a.split)
      ∙ next_binding_refused rest opened.place read this earlier (name_in items (n + 1)) (form_at items (n + 2)) a.others body h.place h.term h.script taken in
      ap (λ (o : Outcome Script Typed). o.result) whole

  -- What is done, by the stacks as the code has them.
  pub body_next : (t : Table) (q : ReadingView) → IsAdded t q.leaves.items q.values → length t.leaves ≤ length s.leaves + 1 → n ≡ opened.body
      → (inner : List Scoped) (ks : List ℕ) → q.names.known ≡ r.names.known → ks ≡ drop opened.leaves q.leaves.items
      → Binds t ks q.values q.names.scope
      → q.names.scope ≡ inner ++ r.names.scope → length inner ≡ length ks
      → q.frames ≡ body_frame ∷ r.frames
      → Leaves items g (both s v) (with_open r (Frame.Bindings opened)) c n (both t v)
      (record r { names = q.names; values = q.values; leaves = q.leaves; frames = q.frames }) (Ok (Turn.Read opened.body))
  body_next t q added one_more last inner ks known are binds split each frames_are = record {
    goes = nothing_made items g t v _ (Ok (Turn.Read opened.body))
        (rw frames_are (body_begins t q.leaves.items q.values added last q.names inner ks known are binds split each q refl));
    spends = λ within. rw frames_are (record { inside = omega (arith, last, within); few = omega (arith, last, one_more); progress = omega (arith, last) });
  }

  pub binding_next : (t : Table) (q : ReadingView) → IsAdded t q.leaves.items q.values → length t.leaves ≤ length s.leaves + 1 → n ≢ opened.body
      → n ≢ opened.repeat
      → q.frames ≡ Frame.Bindings (record opened { name = n + 1 }) ∷ r.frames
      → Leaves items g (both s v) (with_open r (Frame.Bindings opened)) c n (both t v)
      (record r { values = q.values; leaves = q.leaves; frames = q.frames }) (Ok (Turn.Read (n + 2)))
  binding_next t q added one_more more free frames_are = record {
    goes = nothing_made items g t v _ (Ok (Turn.Read (n + 2))) (rw frames_are (binding_goes_on t q.leaves.items q.values added more free q refl));
    spends = λ within.
        let below = more_nodes_there more in
        rw frames_are (record { inside = omega (arith, below); few = omega (arith, below, one_more); progress = omega (arith, below) });
  }

  pub binding_faulty : (t : Table) (q : ReadingView) → n ≢ opened.body → n ≡ opened.repeat → (refusal : Refusal)
      → refusal ≡ record { cause = Repeated; at = place_of (item_at items (n + 1)) }
      → Leaves items g (both s v) (with_open r (Frame.Bindings opened)) c n (both t v) q (Err (ReadFault.Text refusal))
  binding_faulty t q more faulty refusal is = record {
    goes = nothing_made items g t v q (Err (ReadFault.Text refusal)) (binding_refused more faulty ∙ ap Err (sym is));
    spends = λ _. tt;
  }
