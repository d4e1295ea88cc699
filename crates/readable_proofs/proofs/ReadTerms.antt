-- Terms that are read behind a script whose terms are over its vocabulary are so too, and the script stays so.
use Rattle.std.proofs.Common.{◌≡◌, ◌⊎◌, inl, inr, ℕ, Bool, true, false, ◌||◌, Option, Some, None, IfSome, List, [], ◌∷◌, ◌++◌, map, bytes_eq, if◌then◌else◌}
use Rattle.std.proofs.Common.{refl, sym, ap, ◌∙◌}
use Rattle.std.specs.List.{AllByRecursion}
use Rattle.std.specs.Option.{option_map_or, option_or}
use Rattle.std.proofs.lemmas.Bool.{or_parts}
use Rattle.std.proofs.lemmas.Slice.Eq.{bytes_eq-Decides}
use Rattle.sexpr.specs.declared.causes.Cause.{Cause}
use Rattle.sexpr.specs.declared.causes.Cause.TheVariants.{Repeated, TooHigh, SortMismatch}
use Rattle.term_model.specs.declared.symbols.Sort.{Sort}
use Rattle.term_model.specs.FreeVariables.{Binds, IsFree, IsFreeBound}
use Rattle.term_model.specs.Heights.{height}
use Rattle.term_model.specs.Terms.{Var, var_eq, sort_eq, numeral, variable, let_in, Bindings, no_bindings, binding}
use Rattle.term_model.proofs.Lists.{all_joined, all_at_end}
use Rattle.term_model.proofs.Tests.{var_eq_decides}
use Rattle.text_items.specs.ItemShapes.{Name}
use Rattle.problem_text.specs.Forms.{Form, faulty, number, symbol, application, let_form, annotated, Forms, no_forms, form, LetBinds, no_binds, bind}
use Rattle.problem_text.specs.Limits.{is_low, AreLow}
use Rattle.problem_text.specs.Names.{Bound, Place, itself, innermost, is_bound, Meaning}
use Rattle.problem_text.specs.Names.{meaning_of, meaning_applied, refusal_of, let_bindings_of, place_inside, let_term}
use Rattle.problem_text.specs.Outcomes.{Outcome, done, refuse, and_then}
use Rattle.problem_text.specs.PrintedTerms.{BindsSome}
use Rattle.problem_text.specs.Scripts.{Script, is_taken, with_named, with_term, with_let_name}
use Rattle.problem_text.specs.Terms.{settled, with_meaning, with_names, term_from, terms_from, bounds_from}
use Rattle.problem_text.specs.TypedTerms.{Typed}
use Rattle.problem_text.specs.Words.{is_among, is_built_in}
use Rattle.readable_proofs.specs.TermsOver.{names_of, BindOnce, IsTermOver, AreBoundOver}
use Rattle.readable_proofs.proofs.ItemForms.{BindsOne, IsGoodForm, AreGoodForms, AreGoodBinds}
use Rattle.readable_proofs.proofs.Names.{same_name}
use Rattle.readable_proofs.proofs.PrintableTerms.{within, unbound_not_found, inside_found, kept_scope}
use Rattle.readable_proofs.proofs.ReadMeanings.{IsOwnMeaning, meaning_still, meaning_own, IsOwnTerm, AreOwnTerms, applied_own}
use Rattle.readable_proofs.proofs.ReadNames.{Reads, reads_then, words_of, HasOwnTerms, Grows, grown_same, grown_then, grown_within, still_read}
use Rattle.readable_proofs.proofs.ReadNames.{term_owned, naming_owned, let_name_grown, own_name, let_name_owned, let_name_there, IsOwnPlace, place_still}
use Rattle.readable_proofs.proofs.Replaced.{bound_still_of}

-- where no term that was read is too high, none is
abbrev StayLow : Place → Script → Script → Type 0
StayLow p s u = AreLow p.settings.limit s.terms → AreLow p.settings.limit u.terms

-- A term that was read, and the script behind it.
pub record IsReadTerm (p : Place) (s : Script) (t : Typed) (u : Script) : Type 0 where
  pub own : HasOwnTerms u
  pub grown : Grows s u
  pub low : AreLow p.settings.limit s.terms → AreLow p.settings.limit u.terms
  pub term : IsOwnTerm p u t

record AreReadTerms (p : Place) (s : Script) (ts : List Typed) (u : Script) : Type 0 where
  own : HasOwnTerms u
  grown : Grows s u
  low : StayLow p s u
  terms : AreOwnTerms p u ts

-- the bindings of a let that were read, behind others of these names
record AreReadBounds (binds : LetBinds) (earlier : List (List ℕ)) (p : Place) (s : Script) (bs : List Bound) (u : Script) : Type 0 where
  own : HasOwnTerms u
  grown : Grows s u
  low : StayLow p s u
  of : AreBoundOver (words_of u) (let_bindings_of bs)
  stand : AllByRecursion (λ b. IsTermOver (words_of u) b.stands_for) bs
  bound : p.settings.replaces_lets ≡ false → (x : Var) → IsFreeBound x (let_bindings_of bs) → is_bound p.scope x ≡ true
  once : BindOnce earlier (let_bindings_of bs)
  some : BindsOne binds → BindsSome (let_bindings_of bs)

term_still : (p : Place) (s u : Script) (t : Typed) → Grows s u → IsOwnTerm p s t → IsOwnTerm p u t
term_still p s u t g h = (still_read s u t.tree g h.0, h.1)

-- a term that is settled
settled_own : (cause : Cause) (p : Place) (s u : Script) (place : ℕ) (o : Option Typed) → HasOwnTerms u → Grows s u → StayLow p s u → IfSome o (IsOwnTerm p u)
    → Reads (IsReadTerm p s) (settled cause p.settings.limit place o u)
settled_own cause p s u place None own g low h = tt
settled_own cause p s u place (Some t) own g low h = go (is_low p.settings.limit (height t.tree)) refl
  where
    go : (b : Bool) → is_low p.settings.limit (height t.tree) ≡ b
        → Reads (IsReadTerm p s) (if b then done t (with_term t.tree u) else refuse TooHigh place (with_term t.tree u))
    go true e = record {
      own = term_owned t.tree u own;
      grown = record { functions = g.functions; macros = g.macros; names = g.names };
      low = λ k. all_at_end (λ t. is_low p.settings.limit (height t) ≡ true) u.terms t.tree (low k) e;
      term = h;
    }
    go false e = tt

with_meaning_own : {A : Type 0} (p : Place) (Q : A → Script → Type 0) (place : ℕ) (o : Option Meaning) (s : Script) (next : Meaning → Outcome Script A)
    → IfSome o (IsOwnMeaning p s) → ((m : Meaning) → IsOwnMeaning p s m → Reads Q (next m)) → Reads Q (with_meaning place o s next)
with_meaning_own p Q place (Some m) s next fit k = k m fit
with_meaning_own p Q place None s next fit k = tt

names_own : (p : Place) (s : Script) (ns : List Name) (t : Typed) (u : Script) → IsReadTerm p s t u → Reads (IsReadTerm p s) (with_names t ns u)
names_own p s [] t u h = h
names_own p s (n ∷ ns) t u h =
    go (is_taken u n.name)
    (names_own p s ns t (with_named (record { name = n.name; meant = t }) u)
    (record {
      own = naming_owned (record { name = n.name; meant = t }) u h.own h.term.0;
      grown = record { functions = h.grown.functions; macros = h.grown.macros; names = h.grown.names };
      low = h.low;
      term = h.term;
    }))
  where
    after : Outcome Script Typed
    after = with_names t ns (with_named (record { name = n.name; meant = t }) u)

    go : (b : Bool) → Reads (IsReadTerm p s) after → Reads (IsReadTerm p s) (if b then refuse Repeated n.place u else after)
    go true k = tt
    go false k = k

-- the body of a let
same_within : (bs : List Bound) → within (let_bindings_of bs) ≡ map (λ b. itself b.variable) bs
same_within [] = refl
same_within (b ∷ bs) = ap (λ others. itself b.variable ∷ others) (same_within bs)

-- a variable that is bound in the body, and has a name that the let binds, is one that the let binds
hides_no_other : (bs : Bindings) (scope : List Bound) (x : Var) → is_bound (within bs ++ scope) x ≡ true → is_among (names_of bs) x.name ≡ true → Binds bs x
hides_no_other no_bindings scope x bound named = absurd (let f : false ≡ true = named in cc)
hides_no_other (binding y t bs) scope x bound named =
    go (bytes_eq y.name x.name) refl (bytes_eq x.name y.name) refl bound named (hides_no_other bs scope x)
  where
    go : (b : Bool) → bytes_eq y.name x.name ≡ b → (c : Bool) → bytes_eq x.name y.name ≡ c
        → is_bound (within (binding y t bs) ++ scope) x ≡ true → (c || is_among (names_of bs) x.name) ≡ true
        → (is_bound (within bs ++ scope) x ≡ true → is_among (names_of bs) x.name ≡ true → Binds bs x) → (y ≡ x) ⊎ Binds bs x
    go true e c f is k rest =
        let sorts : sort_eq y.sort x.sort ≡ true = sym (first e) ∙ is in
        inl ((var_eq_decides y x).0 (both e sorts))
      where
        first : bytes_eq y.name x.name ≡ true → is_bound (within (binding y t bs) ++ scope) x ≡ sort_eq y.sort x.sort
        first e = rw e refl

        both : bytes_eq y.name x.name ≡ true → sort_eq y.sort x.sort ≡ true → var_eq y x ≡ true
        both e f = rw (e, f) refl
    go false e true f is k rest = absurd (let g = (bytes_eq-Decides y.name x.name).1 (sym (same_name x.name y.name f)) in cc)
    go false e false f is k rest = inr (rest (sym (later e) ∙ is) k)
      where
        later : bytes_eq y.name x.name ≡ false → is_bound (within (binding y t bs) ++ scope) x ≡ is_bound (within bs ++ scope) x
        later e = rw e refl

bound_outside : (bs : Bindings) (scope : List Bound) (x : Var) → is_bound (within bs ++ scope) x ≡ true → (Binds bs x → ⊥) → is_bound scope x ≡ true
bound_outside bs scope x bound not_in = go (is_among (names_of bs) x.name) refl
  where
    go : (b : Bool) → is_among (names_of bs) x.name ≡ b → is_bound scope x ≡ true
    go true e = absurd (not_in (hides_no_other bs scope x bound e))
    go false e =
        let none = unbound_not_found bs x.name e in
        let outer : innermost (within bs ++ scope) x.name ≡ innermost scope x.name =
        inside_found bs scope x.name ∙ ap (λ o. option_or o (innermost scope x.name)) none in
        sym (ap (λ o. option_map_or (λ (c : Bound). sort_eq c.variable.sort x.sort) o false) outer) ∙ bound

themselves_stand : (bs : List Bound) → AllByRecursion (λ b. b.stands_for ≡ variable b.variable) (map (λ b. itself b.variable) bs)
themselves_stand [] = tt
themselves_stand (b ∷ bs) = (refl, themselves_stand bs)

themselves_of : (u : Script) (bs : List Bound) → AllByRecursion (λ b. IsTermOver (words_of u) b.stands_for) (map (λ b. itself b.variable) bs)
themselves_of u [] = tt
themselves_of u (b ∷ bs) = (tt, themselves_of u bs)

inside_own : (u : Script) (p : Place) (bs : List Bound) → IsOwnPlace u p → AllByRecursion (λ b. IsTermOver (words_of u) b.stands_for) bs
    → IsOwnPlace u (place_inside bs p)
inside_own u p bs here h = record { of = of p.settings.replaces_lets; themselves = λ kept. stand p.settings.replaces_lets kept (here.themselves kept) }
  where
    of : (b : Bool) → AllByRecursion (λ b. IsTermOver (words_of u) b.stands_for) ((if b then bs else map (λ b. itself b.variable) bs) ++ p.scope)
    of true = all_joined (λ b. IsTermOver (words_of u) b.stands_for) bs p.scope h here.of
    of false = all_joined (λ b. IsTermOver (words_of u) b.stands_for) (map (λ b. itself b.variable) bs) p.scope (themselves_of u bs) here.of

    stand : (b : Bool) → b ≡ false → AllByRecursion (λ b. b.stands_for ≡ variable b.variable) p.scope
        → AllByRecursion (λ b. b.stands_for ≡ variable b.variable) ((if b then bs else map (λ b. itself b.variable) bs) ++ p.scope)
    stand true e k = absurd (cc)
    stand false e k = all_joined (λ b. b.stands_for ≡ variable b.variable) (map (λ b. itself b.variable) bs) p.scope (themselves_stand bs) k

-- the let itself, whose body was read behind its bindings
let_own : (binds : LetBinds) (p : Place) (s after last : Script) (bs : List Bound) (t : Typed) → BindsOne binds → AreReadBounds binds [] p s bs after
    → IsReadTerm (place_inside bs p) after t last → IsOwnTerm p last (let_term p bs t)
let_own binds p s after last bs t one bound body = go p.settings.replaces_lets refl
  where
    in_body : p.settings.replaces_lets ≡ false → (x : Var) → IsFree x t.tree → is_bound (within (let_bindings_of bs) ++ p.scope) x ≡ true
    in_body kept x free =
        ap (λ scope. is_bound (scope ++ p.scope) x) (same_within bs)
        ∙ (sym (ap (λ scope. is_bound scope x) (kept_scope bs p kept)) ∙ body.term.1 kept x free)

    go : (b : Bool) → p.settings.replaces_lets ≡ b
        → IsOwnTerm p last (if b then t else record { tree = let_in (let_bindings_of bs) t.tree; sort = t.sort })
    go true e = (body.term.0, λ kept. absurd (cc))
    go false e = (
      (
        record {
          some = bound.some one;
          once = bound.once;
          hides_none = λ x free named. hides_no_other (let_bindings_of bs) p.scope x (in_body e x free) named;
        },
        bound_still_of (words_of after) (words_of last) (grown_within after last body.grown) (let_bindings_of bs) bound.of,
        body.term.0,
      ),
      λ kept x free. elim free [
        | inl outer ↦ bound.bound kept x outer
        | inr inner ↦ bound_outside (let_bindings_of bs) p.scope x (in_body kept x inner.1) inner.0
      ],
    )

-- a binding more in front
bound_more : (n : Name) (f : Form) (binds : LetBinds) (earlier : List (List ℕ)) (p : Place) (s after last : Script) (t : Typed) (bs : List Bound)
    → is_among earlier n.name ≡ false → IsReadTerm p (with_let_name n.name s) t after → AreReadBounds binds (n.name ∷ earlier) p after bs last
    → AreReadBounds (bind n f binds) earlier p s (record { variable = record { name = n.name; sort = t.sort }; stands_for = t.tree } ∷ bs) last
bound_more n f binds earlier p s after last t bs new read others =
    let term = still_read after last t.tree others.grown read.term.0 in
    record {
      own = others.own;
      grown =
          grown_then s (with_let_name n.name s) last (let_name_grown n.name s) (grown_then (with_let_name n.name s) after last read.grown others.grown);
      low = λ k. others.low (read.low k);
      of = (others.grown.names n.name (read.grown.names n.name (let_name_there n.name s)), term, others.of);
      stand = (term, others.stand);
      bound = λ kept x free. elim free [ inl first ↦ read.term.1 kept x first | inr later ↦ others.bound kept x later ];
      once = (new, others.once);
      some = λ one. tt;
    }

unless_repeated : {A : Type 0} (Q : A → Script → Type 0) (b : Bool) (place : ℕ) (s : Script) (o : Outcome Script A) → (b ≡ false → Reads Q o)
    → Reads Q (if b then refuse Repeated place s else o)
unless_repeated Q true place s o h = tt
unless_repeated Q false place s o h = h refl

mutual
  unfolding term_from

  pub term_own : (f : Form) (p : Place) (s : Script) → IsGoodForm f → HasOwnTerms s → IsOwnPlace s p → Reads (IsReadTerm p s) (term_from f p s)
  term_own (faulty cause place) p s good own here = tt
  term_own (number place n) p s good own here =
      settled_own SortMismatch p s s place (Some (record { tree = numeral n; sort = Sort.Int })) own (grown_same s) (λ k. k) (good, λ kept x free. absurd free)
  term_own (symbol n) p s good own here =
      with_meaning_own p (IsReadTerm p s) n.place (meaning_of p s n.name) s (λ m. settled SortMismatch p.settings.limit n.place (meaning_applied m []) s)
      (meaning_own p s n.name own here)
      (λ m fit. settled_own SortMismatch p s s n.place (meaning_applied m []) own (grown_same s) (λ k. k) (applied_own p s m [] fit tt))
  term_own (application place head fs) p s good own here =
      with_meaning_own p (IsReadTerm p s) head.place (meaning_of p s head.name) s
      (λ m. and_then (terms_from fs p s) (λ ts after. settled (refusal_of m ts) p.settings.limit place (meaning_applied m ts) after))
      (meaning_own p s head.name own here)
      (λ m fit. reads_then (AreReadTerms p s) (IsReadTerm p s) (terms_from fs p s)
      (λ ts after. settled (refusal_of m ts) p.settings.limit place (meaning_applied m ts) after)
      (terms_own fs p s good own here)
      (λ ts after h. settled_own (refusal_of m ts) p s after place (meaning_applied m ts) h.own h.grown h.low
      (applied_own p after m ts (meaning_still p s after m h.grown fit) h.terms)))
  term_own (let_form place bs body) p s good own here =
      reads_then (AreReadBounds bs [] p s) (IsReadTerm p s) (bounds_from bs [] p s)
      (λ bound after. and_then (term_from body (place_inside bound p) after)
      (λ t last. settled SortMismatch p.settings.limit place (Some (let_term p bound t)) last))
      (bounds_own bs [] p s good.1 own here)
      (λ bound after h. reads_then (IsReadTerm (place_inside bound p) after) (IsReadTerm p s) (term_from body (place_inside bound p) after)
      (λ t last. settled SortMismatch p.settings.limit place (Some (let_term p bound t)) last)
      (term_own body (place_inside bound p) after good.2 h.own (inside_own after p bound (place_still s after p h.grown here) h.stand))
      (λ t last k. settled_own SortMismatch p s last place (Some (let_term p bound t)) k.own (grown_then s after last h.grown k.grown) (λ l. k.low (h.low l))
      (let_own bs p s after last bound t good.0 h k)))
  term_own (annotated place f names) p s good own here =
      reads_then (IsReadTerm p s) (IsReadTerm p s) (term_from f p s) (λ t after. with_names t names after) (term_own f p s good own here)
      (λ t after h. names_own p s names t after h)

  terms_own : (fs : Forms) (p : Place) (s : Script) → AreGoodForms fs → HasOwnTerms s → IsOwnPlace s p → Reads (AreReadTerms p s) (terms_from fs p s)
  terms_own no_forms p s good own here = record { own = own; grown = grown_same s; low = λ k. k; terms = tt }
  terms_own (form f fs) p s good own here =
      reads_then (IsReadTerm p s) (AreReadTerms p s) (term_from f p s) (λ t after. and_then (terms_from fs p after) (λ ts last. done (t ∷ ts) last))
      (term_own f p s good.0 own here)
      (λ t after h. reads_then (AreReadTerms p after) (AreReadTerms p s) (terms_from fs p after) (λ ts last. done (t ∷ ts) last)
      (terms_own fs p after good.1 h.own (place_still s after p h.grown here))
      (λ ts last k. record {
        own = k.own;
        grown = grown_then s after last h.grown k.grown;
        low = λ l. k.low (h.low l);
        terms = (term_still p after last t k.grown h.term, k.terms);
      }))

  bounds_own : (bs : LetBinds) (earlier : List (List ℕ)) (p : Place) (s : Script) → AreGoodBinds bs → HasOwnTerms s → IsOwnPlace s p
      → Reads (AreReadBounds bs earlier p s) (bounds_from bs earlier p s)
  bounds_own no_binds earlier p s good own here =
      record {
        own = own;
        grown = grown_same s;
        low = λ k. k;
        of = tt;
        stand = tt;
        bound = λ kept x free. absurd free;
        once = tt;
        some = λ one. absurd one;
      }
  bounds_own (bind n f bs) earlier p s good own here =
      unless_repeated (AreReadBounds (bind n f bs) earlier p s) (is_built_in n.name || is_among earlier n.name) n.place s _
      (λ new. let parts = or_parts (is_built_in n.name) (is_among earlier n.name) new in
      let u : Script = with_let_name n.name s in
      reads_then (IsReadTerm p u) (AreReadBounds (bind n f bs) earlier p s) (term_from f p u) _
      (term_own f p u good.1 (let_name_owned n.name s own (own_name n.name good.0 parts.0)) (place_still s u p (let_name_grown n.name s) here))
      (λ t after h. reads_then (AreReadBounds bs (n.name ∷ earlier) p after) (AreReadBounds (bind n f bs) earlier p s)
      (bounds_from bs (n.name ∷ earlier) p after) _
      (bounds_own bs (n.name ∷ earlier) p after good.2 h.own (place_still u after p h.grown (place_still s u p (let_name_grown n.name s) here)))
      (λ bound last k. bound_more n f bs earlier p s after last t bound parts.1 h k)))
