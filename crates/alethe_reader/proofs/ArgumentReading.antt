-- What an argument of an anchor comes to.
use Rattle.std.proofs.Common.{◌≡◌, ◌≤◌, ◌+◌, ◌-◌, ℕ, Bool, true, false, not, ◌||◌, List, [], ◌∷◌, ◌++◌, map, length, take, Option, Some, Result, Ok, Err, refl, sym, ap, subst, ◌∙◌, arith}
use Rattle.std.specs.Prelude.{⊤}
use Rattle.std.specs.List.{AllZip}
use Rattle.std.proofs.lemmas.List.{append_assoc, map-append, length-append, length-map}
use Rattle.std.proofs.lemmas.Slice.Zip.{AllZip-long, all_zipped_more}
use Rattle.sexpr.specs.declared.causes.Cause.TheVariants.{Repeated, LeftOut, BadAnchor}
use Rattle.sexpr.specs.declared.causes.Refusal.{Refusal}
use Rattle.sexpr.specs.Items.{Item}
use Rattle.sym_table.specs.Table.{Table, Keeps, IsLeaf}
use Rattle.term_model.specs.declared.symbols.Sort.{Sort}
use Rattle.term_model.specs.Terms.{Var, Term}
use Rattle.term_pool.specs.StandsFor.{variable_leaf}
use Rattle.term_pool.specs.Views.{TermsView, RefersTo, KeepsTerms}
use Rattle.rule_model.specs.Contexts.{put_in_each, images}
use Rattle.rule_model.specs.Judged.{open_anchors}
use Rattle.rule_model.specs.Scopes.{Nesting}
use Rattle.term_pool.specs.Bindings.{IsBindingOf}
use Rattle.term_pool.proofs.Keeping.{keeps-refl, terms-refl}
use Rattle.term_pool.proofs.PlacedCells.{places_none, places_then}
use Rattle.text_items.specs.ItemShapes.{Name}
use Rattle.problem_text.specs.Limits.{Settings, most_height}
use Rattle.problem_text.specs.Names.{Place}
use Rattle.problem_text.specs.Outcomes.{Outcome, and_then}
use Rattle.problem_text.specs.Scripts.{Script, with_let_name}
use Rattle.problem_text.specs.Terms.{read_term}
use Rattle.problem_text.specs.TypedTerms.{Typed}
use Rattle.problem_text.specs.Words.{is_among, is_built_in}
use Rattle.term_expansion.specs.SymbolsAndTerms.{SymbolsAndTerms, both}
use Rattle.term_expansion.specs.Values.{IsValue}
use Rattle.term_expansion.specs.declared.values.Value.{Value}
use Rattle.term_names.specs.Standing.{AddsNoSymbols}
use Rattle.term_names.specs.declared.faults.ReadFault.{ReadFault}
use Rattle.term_reader.specs.ProblemViews.{ReaderView, IsReaderOf, ReadsValue}
use Rattle.term_reader.proofs.Coming.{answers_more, same_outcome}
use Rattle.term_reader.proofs.Staying.{adds_none, adds_then, refers_stays}
use Rattle.term_reader.proofs.ViewsStay.{reader_stays}
use Rattle.alethe_text.specs.Anchors.{bound_names, sort_given, image_of, script_changed, argument_read}
use Rattle.alethe_text.specs.Commands.{Argument, variable_alone, assigned}
use Rattle.alethe_text.specs.ProofTerms.{place_in, term_in}
use Rattle.alethe_text.specs.States.{ProofSettings, ProofState, ◌>>=◌, demand, given}
use Rattle.alethe_reader.specs.Answers.{WasRead, AnswersAs}
use Rattle.alethe_reader.specs.Bound.{images_in, BindApart}
use Rattle.alethe_reader.specs.Judging.{is_named}
use Rattle.alethe_reader.specs.declared.judging.Named.{Named}
use Rattle.alethe_reader.specs.Opening.{IsOpening, IsSameScope, IsArgumentRead, IsNameJudged, image_read, IsImageRead}
use Rattle.alethe_reader.specs.ReadTerms.{IsReadValue}
use Rattle.alethe_reader.specs.declared.bound.BoundVariables.{BoundVariables}
use Rattle.alethe_reader.proofs.Answering.{stops, goes}
use Rattle.alethe_reader.proofs.BoundLemmas.{zip_front}
use Rattle.alethe_reader.proofs.ImageReading.{keeps_image}
use Rattle.alethe_reader.proofs.OpenedNames.{judged_more, fresh_more}
use Rattle.alethe_reader.proofs.ScopeReading.{reader_named, reader_more}
use Rattle.alethe_reader.proofs.TermAnswers.{value_answers}
use Rattle.alethe_reader.proofs.WrittenStays.{bindings_stay}

-- a fault, or out of memory, whatever would have come next
pub fails : {A T U : Type 0} {s : Table} {v w : TermsView} {M : T → A → ProofState → Type 0} (N : U → A → ProofState → Type 0) {o : Outcome ProofState A} (fault : ReadFault) → AnswersAs v (both s w) M o (Err fault) → AnswersAs v (both s w) N o (Err fault)
fails N fault h = record { answer = h.answer; placed = h.placed }

-- in a table with more leaves
pub ends_so : {A T U : Type 0} {s z : Table} {v w : TermsView} {M : T → A → ProofState → Type 0} (N : U → A → ProofState → Type 0) {o : Outcome ProofState A} {t : T} (u : U) → Keeps s z → AnswersAs v (both s w) M o (Ok t)
    → ((a : A) (p : ProofState) → M t a p → N u a p) → AnswersAs v (both z w) N o (Ok u)
ends_so {A} {T} {U} {s} {z} {v} {w} {M} N {o} {t} u keeps h more = record {
  answer = record { value = h.answer.value; state = h.answer.state; is = h.answer.is; after = more h.answer.value h.answer.state h.answer.after };
  placed = places_then s z v.pass w.pass w.pass (WasRead o) keeps (keeps-refl w.pass) h.placed (places_none z w.pass w.pass (WasRead o) refl);
}

pub lacks_memory : {A T U : Type 0} {s z : Table} {v w : TermsView} {M : T → A → ProofState → Type 0} (N : U → A → ProofState → Type 0) {o : Outcome ProofState A} {t : T} → Keeps s z → AnswersAs v (both s w) M o (Ok t) → AnswersAs v (both z w) N o (Err ReadFault.Memory)
lacks_memory {A} {T} {U} {s} {z} {v} {w} {M} N {o} {t} keeps h = record {
  answer = tt;
  placed = places_then s z v.pass w.pass w.pass (WasRead o) keeps (keeps-refl w.pass) h.placed (places_none z w.pass w.pass (WasRead o) refl);
}

-- the name
pub name_free : (built bound : Bool) (place : ℕ) (u : ⊤) → IsNameJudged built bound place (Ok u) → (built ≡ false) × (bound ≡ false)
name_free true bound place u h = absurd h
name_free false true place u h = absurd h
name_free false false place u h = (refl, refl)

-- a variable alone
pub alone_refused : (settings : ProofSettings) (earlier : List (List ℕ)) (a : Argument) (place : ℕ) (p : ProofState) → a ≡ variable_alone place → (refusal : Refusal) → refusal ≡ record { cause = LeftOut; at = place } → (argument_read settings earlier a p).result ≡ Err refusal
unfolding argument_read
alone_refused settings earlier a place p e refusal is = ap (λ b. (argument_read settings earlier b p).result) e ∙ ap (λ (r : Refusal). Err r) (sym is)

-- The variable with its term and its image was read.
pub record IsVariableRead (s : Table) (v : TermsView) (settings : ProofSettings) (r : ReaderView) (name : List ℕ) (c : Value) (p : ProofState) (image : ℕ) (b : Var × Term) (q : ProofState) : Type 0 where
  pub term : RefersTo s v c.term b.1
  pub sort : b.0.sort ≡ c.sort
  pub named : b.0.name ≡ name
  pub image_there : RefersTo s v image (image_of p.scope.nesting b.1)
  pub reader : IsReaderOf s v r q.script (place_in settings p.scope.nesting)
  pub same : IsSameScope p q

module _ (settings : ProofSettings) (earlier : List (List ℕ)) (place : ℕ) (x : Name) (o : Option Item) (i : Item) (p : ProofState) where
  -- the state once the name was judged
  abbrev named_state : ProofState
  named_state = record p { script = with_let_name x.name p.script }

  -- by the name and by the sort
  abbrev argument_so : Bool → Bool → Result (Option Sort) Refusal → Outcome ProofState (Var × Term)
  argument_so built bound sort =
      (demand (not built) Repeated x.place >>= λ _. demand (not bound) BadAnchor x.place >>= λ _. script_changed (with_let_name x.name) >>= λ _. given sort >>= λ wanted. term_in settings p.scope.nesting i >>= image_read settings.limit place x.name wanted p.scope.nesting) p

  abbrev is_bound_here : Bool
  is_bound_here = is_among earlier x.name || is_among (bound_names p.scope.nesting) x.name

  argument_is : argument_read settings earlier (assigned place x o i) p ≡ argument_so (is_built_in x.name) is_bound_here (sort_given p.script.sorts o)
  unfolding argument_read image_read ◌>>=◌
  argument_is = refl

  so_far : (built bound : Bool) → is_built_in x.name ≡ built → is_bound_here ≡ bound → argument_read settings earlier (assigned place x o i) p ≡ argument_so built bound (sort_given p.script.sorts o)
  so_far built bound e f = argument_is ∙ (ap (λ b. argument_so b is_bound_here (sort_given p.script.sorts o)) e ∙ ap (λ b. argument_so built b (sort_given p.script.sorts o)) f)

  name_refused : (refusal : Refusal) → IsNameJudged (is_built_in x.name) is_bound_here x.place (Err refusal) → (argument_read settings earlier (assigned place x o i) p).result ≡ Err refusal
  unfolding ◌>>=◌
  name_refused refusal h = go (is_built_in x.name) is_bound_here refl refl h
    where
      go : (built bound : Bool) → is_built_in x.name ≡ built → is_bound_here ≡ bound → IsNameJudged built bound x.place (Err refusal) → (argument_read settings earlier (assigned place x o i) p).result ≡ Err refusal
      go true bound e f h = ap (λ (q : Outcome ProofState (Var × Term)). q.result) (so_far true bound e f) ∙ ap (λ (r : Refusal). Err r) (sym h)
      go false true e f h = ap (λ (q : Outcome ProofState (Var × Term)). q.result) (so_far false true e f) ∙ ap (λ (r : Refusal). Err r) (sym h)
      go false false e f h = absurd h

  module _ (plain : is_built_in x.name ≡ false) (free : is_bound_here ≡ false) where
    sort_refused : (refusal : Refusal) → sort_given p.script.sorts o ≡ Err refusal → (argument_read settings earlier (assigned place x o i) p).result ≡ Err refusal
    unfolding ◌>>=◌
    sort_refused refusal e = ap (λ (q : Outcome ProofState (Var × Term)). q.result) (so_far false false plain free ∙ ap (argument_so false false) e)

    module _ (wanted : Option Sort) (given_sort : sort_given p.script.sorts o ≡ Ok wanted) where
      to_term : argument_read settings earlier (assigned place x o i) p ≡ and_then (term_in settings p.scope.nesting i named_state) (image_read settings.limit place x.name wanted p.scope.nesting)
      unfolding ◌>>=◌
      to_term = so_far false false plain free ∙ ap (argument_so false false) given_sort

      no_term : {T U : Type 0} {s : Table} {v w : TermsView} {M : T → Typed → ProofState → Type 0} (N : U → Var × Term → ProofState → Type 0) (fault : ReadFault) → AnswersAs v (both s w) M (term_in settings p.scope.nesting i named_state) (Err fault)
          → AnswersAs v (both s w) N (argument_read settings earlier (assigned place x o i) p) (Err fault)
      no_term N fault h = same_outcome to_term (stops (image_read settings.limit place x.name wanted p.scope.nesting) (keeps_image settings.limit place x.name wanted p.scope.nesting) h)

      module _ (s : Table) (v mid w : TermsView) (r : ReaderView) (c : Value) (h : AnswersAs v (both s mid) (IsReadValue (both s mid) settings p.scope.nesting r named_state) (term_in settings p.scope.nesting i named_state) (Ok c)) (keeps : KeepsTerms mid w) where
        read_after : (t : Typed) (q : ProofState) → IsReadValue (both s mid) settings p.scope.nesting r named_state c t q → (image : ℕ) (b : Var × Term) (z : ProofState) → IsImageRead (both s w) x.name p.scope.nesting t q image b z
            → IsVariableRead s w settings r x.name c p image b z
        read_after t q m image b z g = record {
          term = rw g.same (refers_stays s s mid w (adds_none s).keeps keeps c.term t.tree m.is.refers);
          sort = rw g.same (sym m.is.sort);
          named = rw g.same refl;
          image_there = rw g.same g.refers;
          reader = rw g.state (reader_more s w r q.script (place_in settings p.scope.nesting) (reader_stays s s mid w (adds_none s) keeps r q.script (place_in settings p.scope.nesting) m.behind.reader) (image_of p.scope.nesting t.tree));
          same = rw g.state (record { scope = m.behind.scope; anchors = m.behind.anchors });
        }

        variable_read : (result : Result ℕ ReadFault)
            → ((t : Typed) (q : ProofState) → IsReadValue (both s mid) settings p.scope.nesting r named_state c t q → AnswersAs mid (both s w) (IsImageRead (both s w) x.name p.scope.nesting t q) (image_read settings.limit place x.name wanted p.scope.nesting t q) result)
            → AnswersAs v (both s w) (IsVariableRead s w settings r x.name c p) (argument_read settings earlier (assigned place x o i) p) result
        variable_read result k =
            same_outcome to_term
            (goes (image_read settings.limit place x.name wanted p.scope.nesting) (keeps_image settings.limit place x.name wanted p.scope.nesting) h (adds_none s).keeps keeps
            (λ t q m. answers_more (IsVariableRead s w settings r x.name c p) (λ image b z g. read_after t q m image b z g) (k t q m)))

-- The argument's variable joins those that were read.
module _ (s z : Table) (v w : TermsView) (settings : ProofSettings) (adds : AddsNoSymbols s z) (terms : KeepsTerms v w) (earlier : List (List ℕ)) (bs : List (Var × Term)) (p q : ProofState) (d e : BoundVariables) (r t : ReaderView) (opening : IsOpening (both s v) settings r d earlier bs p) (same : IsSameScope p q) where
  opens_more : (b : Var × Term) (name : List ℕ) (leaf term image : ℕ) → IsReaderOf z w t q.script (place_in settings p.scope.nesting) → b.0.name ≡ name → is_among (map (λ u. u.id) d.names.used) name ≡ false
      → IsLeaf z leaf (variable_leaf b.0) → RefersTo z w term b.1 → RefersTo z w image (image_of p.scope.nesting b.1)
      → map (λ u. u.id) e.names.used ≡ map (λ u. u.id) d.names.used ++ name ∷ [] → e.images.items ≡ d.images.items ++ (leaf, image) ∷ [] → e.opened.items ≡ d.opened.items ++ (leaf, term) ∷ []
      → IsOpening (both z w) settings t e (b.0.name ∷ earlier) (bs ++ b ∷ []) q
  opens_more b name leaf term image reader named free is term_there image_there names images_are opened_are = record {
    reader = rw same.scope reader;
    names = rw same.scope (names ∙ (ap (λ ns. ns ++ name ∷ []) opening.names ∙ (ap (λ n. (bound_names p.scope.nesting ++ map (λ c. c.0.name) bs) ++ n ∷ []) (sym named)
        ∙ (append_assoc (bound_names p.scope.nesting) (map (λ c. c.0.name) bs) (b.0.name ∷ []) ∙ ap (λ ns. bound_names p.scope.nesting ++ ns) (sym (map-append (λ c. c.0.name) bs (b ∷ [])))))));
    judged = rw same.scope (λ n.
        judged_more earlier (bound_names p.scope.nesting) (map (λ u. u.id) d.names.used) b.0.name n (opening.judged n)
        ∙ ap (λ ns. is_among ns n) (ap (λ m. map (λ u. u.id) d.names.used ++ m ∷ []) named ∙ sym names));
    images = rw (same.scope, images_are) (subst (λ qs. AllZip (IsBindingOf z w) (d.images.items ++ (leaf, image) ∷ []) qs) list_of_images
        (all_zipped_more (IsBindingOf z w) d.images.items (images_in p.scope.nesting ++ put_in_each (images (open_anchors p.scope.nesting)) bs) (leaf, image) (b.0, image_of p.scope.nesting b.1)
        (bindings_stay s z v w adds.keeps terms d.images.items (images_in p.scope.nesting ++ put_in_each (images (open_anchors p.scope.nesting)) bs) opening.images)
        (record { variable = is; term = image_there })));
    opened = rw opened_are (all_zipped_more (IsBindingOf z w) d.opened.items bs (leaf, term) b (bindings_stay s z v w adds.keeps terms d.opened.items bs opening.opened) (record { variable = is; term = term_there }));
    apart = rw same.scope opening.apart;
    fresh = rw same.scope (fresh_more (bound_names p.scope.nesting) bs b opening.fresh (subst (λ n. is_among (bound_names p.scope.nesting ++ map (λ c. c.0.name) bs) n ≡ false) (sym named) (subst (λ ns. is_among ns name ≡ false) opening.names free)));
  }
    where
      list_of_images : (images_in p.scope.nesting ++ put_in_each (images (open_anchors p.scope.nesting)) bs) ++ (b.0, image_of p.scope.nesting b.1) ∷ [] ≡ images_in p.scope.nesting ++ put_in_each (images (open_anchors p.scope.nesting)) (bs ++ b ∷ [])
      list_of_images =
          append_assoc (images_in p.scope.nesting) (put_in_each (images (open_anchors p.scope.nesting)) bs) ((b.0, image_of p.scope.nesting b.1) ∷ [])
          ∙ ap (λ qs. images_in p.scope.nesting ++ qs) (sym (map-append (λ c. (c.0, Rattle.rule_model.specs.Substitution.put_in (images (open_anchors p.scope.nesting)) c.1)) bs (b ∷ [])))

-- The variable has its leaf, and joins those that were read.
module _ (s z y : Table) (v w : TermsView) (settings : ProofSettings) (earlier : List (List ℕ)) (bs : List (Var × Term)) (p : ProofState) (d e : BoundVariables) (r t : ReaderView) (opening : IsOpening (both s v) settings r d earlier bs p) (symbols : AddsNoSymbols s z) (added : AddsNoSymbols z y) (terms : KeepsTerms v w) where
  pub argument_done : {o : Outcome ProofState (Var × Term)} (n name : List ℕ) (c : Value) (leaf image : ℕ) → n ≡ name → is_among (map (λ u. u.id) d.names.used) n ≡ false → IsLeaf y leaf (variable_leaf (record { name = n; sort = c.sort }))
      → map (λ u. u.id) e.names.used ≡ map (λ u. u.id) d.names.used ++ n ∷ [] → e.images.items ≡ d.images.items ++ (leaf, image) ∷ [] → e.opened.items ≡ d.opened.items ++ (leaf, c.term) ∷ []
      → AnswersAs v (both z w) (IsVariableRead z w settings t name c p) o (Ok image) → AnswersAs v (both y w) (IsArgumentRead (both y w) settings t e earlier bs p) o (Ok tt)
  argument_done n name c leaf image same free is names images opened h =
      ends_so (IsArgumentRead (both y w) settings t e earlier bs p) tt added.keeps h (λ b q k. record { opening = joined b q k; same = k.same })
    where
      leaf_is : (b : Var × Term) → b.0.name ≡ n → b.0.sort ≡ c.sort → IsLeaf y leaf (variable_leaf b.0)
      leaf_is b named sort = rw (named, sort) is

      joined : (b : Var × Term) (q : ProofState) → IsVariableRead z w settings t name c p image b q → IsOpening (both y w) settings t e (b.0.name ∷ earlier) (bs ++ b ∷ []) q
      joined b q k =
          opens_more s y v w settings (adds_then s z y symbols added) terms earlier bs p q d e r t opening k.same b n leaf c.term image
          (reader_stays z y w w added (terms-refl w) t q.script (place_in settings p.scope.nesting) k.reader) (k.named ∙ sym same) free (leaf_is b (k.named ∙ sym same) k.sort)
          (refers_stays z y w w added.keeps (terms-refl w) c.term b.1 k.term) (refers_stays z y w w added.keeps (terms-refl w) image (image_of p.scope.nesting b.1) k.image_there)
          names images opened

-- how many images there are around the anchor
module _ (s : Table) (v : TermsView) (settings : ProofSettings) (r : ReaderView) (d : BoundVariables) (earlier : List (List ℕ)) (bs : List (Var × Term)) (p : ProofState) (h : IsOpening (both s v) settings r d earlier bs p) where
  images_long : length d.images.items ≡ length (images_in p.scope.nesting) + length bs
  images_long =
      sym (AllZip-long (IsBindingOf s v) d.images.items (images_in p.scope.nesting ++ put_in_each (images (open_anchors p.scope.nesting)) bs) h.images)
      ∙ (length-append (images_in p.scope.nesting) (put_in_each (images (open_anchors p.scope.nesting)) bs) ∙ ap (λ n. length (images_in p.scope.nesting) + n) (length-map bs _))

  opened_long : length bs ≡ length d.opened.items
  opened_long = AllZip-long (IsBindingOf s v) d.opened.items bs h.opened

  pub enough_images : length d.opened.items ≤ length d.images.items
  enough_images = omega (arith, images_long, opened_long)

  pub outer_images : AllZip (IsBindingOf s v) (take (length d.images.items - length d.opened.items) d.images.items) (images_in p.scope.nesting)
  outer_images = zip_front (IsBindingOf s v) d.images.items (images_in p.scope.nesting) (put_in_each (images (open_anchors p.scope.nesting)) bs) (length d.images.items - length d.opened.items) (omega (arith, images_long, opened_long)) h.images

  -- what is judged of the name and the sort, and the reader behind the name
  judged_here : (n : Named) (x : Name) → is_named n ≡ x → (result : Result ⊤ Refusal) → IsNameJudged (is_built_in n.name.now) (is_among (map (λ u. u.id) d.names.used) n.name.now) n.place result
      → IsNameJudged (is_built_in x.name) (is_among earlier x.name || is_among (bound_names p.scope.nesting) x.name) x.place result
  judged_here n x same result k =
      subst (λ b. IsNameJudged (is_built_in x.name) b x.place result) (sym (h.judged x.name))
      (subst (λ (y : Name). IsNameJudged (is_built_in y.name) (is_among (map (λ u. u.id) d.names.used) y.name) y.place result) same k)

  given_here : (o : Option Item) (result : Result (Option Sort) Refusal) → result ≡ sort_given s.sorts o → sort_given p.script.sorts o ≡ result
  given_here o result e = ap (λ sorts. sort_given sorts o) (sym h.reader.idle.script.sorts) ∙ sym e

  reader_here : (name : List ℕ) → IsReaderOf s v r (with_let_name name p.script) (place_in settings p.scope.nesting)
  reader_here name = reader_named s v r p.script (place_in settings p.scope.nesting) h.reader name

-- what the reader returns for an item
abbrev pub ReadsItem : Table → TermsView → ReaderView → Item → Table → TermsView → ReaderView → Result Value ReadFault → Type 0
ReadsItem s v r i z w t result = (sc : Script) (at : Place) → IsReaderOf s v r sc at → ReadsValue z v w t at (read_term i at sc) result

-- a reader reads by the limit
limit_here : {w : SymbolsAndTerms} {settings : ProofSettings} {r : ReaderView} {d : BoundVariables} {earlier : List (List ℕ)}
    {bs : List (Var × Term)} {p : ProofState} → IsOpening w settings r d earlier bs p → settings.limit ≡ Some most_height
limit_here h = ap (λ (x : Settings). x.limit) h.reader.idle.settings

-- A variable whose name was judged, and whose sort is given, is read by its term and its image.
module _ {s : Table} {v : TermsView} {settings : ProofSettings} {r : ReaderView} {d : BoundVariables} {earlier : List (List ℕ)} {bs : List (Var × Term)} {p : ProofState} (opening : IsOpening (both s v) settings r d earlier bs p) (place : ℕ) {x : Name} (o : Option Item) (i : Item) (n : Named) (named : is_named n ≡ x) where
  pub name_bad : (refusal : Refusal) → IsNameJudged (is_built_in n.name.now) (is_among (map (λ u. u.id) d.names.used) n.name.now) n.place (Err refusal) → (argument_read settings earlier (assigned place x o i) p).result ≡ Err refusal
  name_bad refusal judged = name_refused settings earlier place x o i p refusal (judged_here s v settings r d earlier bs p opening n x named (Err refusal) judged)

  module _ {u : ⊤} (judged : IsNameJudged (is_built_in n.name.now) (is_among (map (λ u. u.id) d.names.used) n.name.now) n.place (Ok u)) where
    free : (is_built_in x.name ≡ false) × ((is_among earlier x.name || is_among (bound_names p.scope.nesting) x.name) ≡ false)
    free = name_free _ _ x.place u (judged_here s v settings r d earlier bs p opening n x named (Ok u) judged)

    pub sort_bad : (refusal : Refusal) → Err refusal ≡ sort_given s.sorts o → (argument_read settings earlier (assigned place x o i) p).result ≡ Err refusal
    sort_bad refusal e = sort_refused settings earlier place x o i p free.0 free.1 refusal (given_here s v settings r d earlier bs p opening o (Err refusal) e)

    module _ {wanted : Option Sort} (sort : Ok wanted ≡ sort_given s.sorts o) {z : Table} {w : TermsView} {t : ReaderView} where
      term_read : (result : Result Value ReadFault) → ReadsItem s v r i z w t result
          → AnswersAs v (both z w) (IsReadValue (both z w) settings p.scope.nesting t (named_state settings earlier place x o i p)) (term_in settings p.scope.nesting i (named_state settings earlier place x o i p)) result
      term_read result read =
          value_answers z v w settings p.scope.nesting t i (named_state settings earlier place x o i p) result
          (read (with_let_name x.name p.script) (place_in settings p.scope.nesting) (reader_here s v settings r d earlier bs p opening x.name))

      pub term_bad : {U : Type 0} (N : U → Var × Term → ProofState → Type 0) (fault : ReadFault) → ReadsItem s v r i z w t (Err fault) → AnswersAs v (both z w) N (argument_read settings earlier (assigned place x o i) p) (Err fault)
      term_bad N fault read = no_term settings earlier place x o i p free.0 free.1 wanted (given_here s v settings r d earlier bs p opening o (Ok wanted) sort) N fault (term_read (Err fault) read)

      pub image_answers : {y : TermsView} {c : Value} {result : Result ℕ ReadFault} → ReadsItem s v r i z w t (Ok c) → AddsNoSymbols s z → KeepsTerms v w → KeepsTerms w y
          → ((name : List ℕ) (t : Typed) (nesting : Nesting Var Term) (more : List (List ℕ)) (q : ProofState) → IsValue (both z w) c t → BindApart nesting
          → AllZip (IsBindingOf z w) (take (length d.images.items - length d.opened.items) d.images.items) (images_in nesting) → map (λ u. u.id) d.names.used ≡ bound_names nesting ++ more
          → AnswersAs w (both z y) (IsImageRead (both z y) name nesting t q) (image_read (Some most_height) place name wanted nesting t q) result)
          → AnswersAs v (both z y) (IsVariableRead z y settings t x.name c p) (argument_read settings earlier (assigned place x o i) p) result
      image_answers {y} {c} {result} read table terms more image =
          variable_read settings earlier place x o i p free.0 free.1 wanted (given_here s v settings r d earlier bs p opening o (Ok wanted) sort) z v w y t c (term_read (Ok c) read) more result
          (λ b q k. subst (λ limit. AnswersAs w (both z y) (IsImageRead (both z y) x.name p.scope.nesting b q) (image_read limit place x.name wanted p.scope.nesting b q) result)
          (sym (limit_here opening))
          (image x.name b p.scope.nesting _ q k.is opening.apart (bindings_stay s z v w table.keeps terms _ _ (outer_images s v settings r d earlier bs p opening)) opening.names))
