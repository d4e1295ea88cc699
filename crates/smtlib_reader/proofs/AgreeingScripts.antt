-- A script that says the same of names as another one, with tables and entries that hold what they held, stands for the same.
use Rattle.std.proofs.Common.{◌≡◌, ℕ, List, [], ◌∷◌, ◌++◌, Bool, true, false, ◌||◌, cond, ap, slice_get, Option, Some, None, sym, ◌∙◌, subst, bytes_eq, refl}
use Rattle.std.proofs.lemmas.List.Folds.{list_any-append}
use Rattle.std.proofs.lemmas.Slice.Eq.{bytes_eq-Decides}
use Rattle.sym_table.specs.Table.{Table, IsFunctionName, Keeps}
use Rattle.term_model.specs.Terms.{Term}
use Rattle.term_pool.specs.StandsFor.{function_leaf}
use Rattle.term_pool.specs.Views.{TermsView, RefersTo, ReferToAll, KeepsTerms}
use Rattle.term_names.specs.Entries.{EntriesView, Puts}
use Rattle.term_names.specs.Known.{KnownView, known_entry, own_entry, macro_of, named_of}
use Rattle.term_names.specs.Scope.{NamesView}
use Rattle.problem_text.specs.Names.{Place}
use Rattle.term_reader.specs.Reading.{IsReaderIdle}
use Rattle.problem_text.specs.Scripts.{Script}
use Rattle.term_names.specs.Standing.{named_in_script, macro_in, function_in, HasNoEntry, IsNoFunction, IsNameMeant, IsScript}
use Rattle.problem_text.specs.Words.{is_among, is_built_in}
use Rattle.term_names.specs.declared.entries.Entry.{Entry}
use Rattle.term_names.specs.declared.entries.Macro as macro
use Rattle.term_names.specs.declared.entries.Named as named
use Rattle.term_names.specs.declared.names.KnownEntry.{KnownEntry}
use Rattle.term_names.specs.declared.names.Which.{Which}
use Rattle.term_names.specs.declared.names.Which.TheVariants.{Base, Own}
use Rattle.term_reader.specs.ReadingViews.{ReadingView}
use Rattle.term_names.proofs.KnownEntries.{Puts-known}
use Rattle.term_reader.proofs.GivenNames.{or_false}
use Rattle.term_reader.proofs.Staying.{refers_stays, scope_stays, macro_stays, named_stays}
use Rattle.term_expansion.specs.SymbolsAndTerms.{both}

-- both scripts say the same of the name, and the new table has no function of it that the old one lacks
pub record AgreesOn (s z : Table) (a b : Script) (name : List ℕ) : Type 0 where
  pub functions : function_in b name ≡ function_in a name
  pub macros : macro_in b name ≡ macro_in a name
  pub named : named_in_script b name ≡ named_in_script a name
  pub taken : is_among b.taken name ≡ is_among a.taken name
  pub back : IsFunctionName z name → IsFunctionName s name

-- macros and named terms stay where they are
pub record HoldsStill (k l : KnownView) : Type 0 where
  pub macros : (x : Which) (m : macro.Macro) → macro_of k x ≡ Some m → macro_of l x ≡ Some m
  pub named : (x : Which) (n : named.Named) → named_of k x ≡ Some n → named_of l x ≡ Some n

-- one name more is taken
pub among_before : (names : List (List ℕ)) (name other : List ℕ) → bytes_eq other name ≡ false → is_among (names ++ name ∷ []) other ≡ is_among names other
among_before names name other differs =
    list_any-append (bytes_eq other) names (name ∷ []) ∙ ap (λ b. is_among names other || (b || false)) differs ∙ or_false (is_among names other)

pub among_now : (names : List (List ℕ)) (name : List ℕ) → is_among (names ++ name ∷ []) name ≡ true
among_now names name =
    list_any-append (bytes_eq name) names (name ∷ [])
    ∙ ap (λ b. is_among names name || (b || false)) ((bytes_eq-Decides name name).1 refl)
    ∙ last (is_among names name)
  where
    last : (b : Bool) → (b || true) ≡ true
    last true = refl
    last false = refl

-- what entries say once a name has one more, which is neither a macro's nor a named term's
pub record PutsEntry (old new : EntriesView) (name : List ℕ) (put : Entry) : Type 0 where
  pub names : Puts old.names name put new.names
  pub macros : new.macros ≡ old.macros
  pub named : new.named ≡ old.named

-- it is enough that those of the reader's own do
pub holds_still : (k : KnownView) (e : EntriesView) → ((i : ℕ) (m : macro.Macro) → slice_get k.own.macros i ≡ Some m → slice_get e.macros i ≡ Some m) → e.named ≡ k.own.named
    → HoldsStill k (record k { own = e })
holds_still k e stays same = record { macros = go; named = same_named }
  where
    go : (x : Which) (m : macro.Macro) → macro_of k x ≡ Some m → macro_of (record k { own = e }) x ≡ Some m
    go (Base i) m h = h
    go (Own i) m h = stays i m h

    same_named : (x : Which) (n : named.Named) → named_of k x ≡ Some n → named_of (record k { own = e }) x ≡ Some n
    same_named (Base i) n h = h
    same_named (Own i) n h = rw same h

pub puts_holds : (k : KnownView) (e : EntriesView) (name : List ℕ) (put : Entry) → PutsEntry k.own e name put → HoldsStill k (record k { own = e })
puts_holds k e name put puts = holds_still k e (λ i m h. rw puts.macros h) puts.named

module _ (s z : Table) (v w : TermsView) (keeps : Keeps s z) (terms : KeepsTerms v w) where
  module _ (k l : KnownView) (holds : HoldsStill k l) (a b : Script) (name : List ℕ) (agree : AgreesOn s z a b name) where
    no_entry_moves : HasNoEntry a name → HasNoEntry b name
    no_entry_moves h = record { no_named = agree.named ∙ h.no_named; no_macro = agree.macros ∙ h.no_macro }

    no_function_moves : IsNoFunction s a name → IsNoFunction z b name
    no_function_moves h = record { table = λ f. h.table (agree.back f); script = agree.functions ∙ h.script }

    meant_moves : (o : Option KnownEntry) → IsNameMeant (both s v) k a name o → IsNameMeant (both z w) l b name o
    meant_moves None (none, h) = (no_entry_moves none, record { no_function = no_function_moves h.no_function; free = agree.taken ∙ h.free })
    meant_moves (Some (KnownEntry.Function leaf)) h = record {
      no_entry = no_entry_moves h.no_entry;
      function = record {
        meant = h.function.meant;
        here = keeps.leaves leaf (function_leaf h.function.meant) h.function.here;
        same_name = h.function.same_name;
        found = agree.functions ∙ h.function.found;
        taken = agree.taken ∙ h.function.taken;
      };
    }
    meant_moves (Some KnownEntry.Reserved) h = record {
      no_entry = no_entry_moves h.no_entry;
      no_function = no_function_moves h.no_function;
      taken = agree.taken ∙ h.taken;
    }
    meant_moves (Some (KnownEntry.Macro x)) h = record {
      held = h.held;
      meant = h.meant;
      there = holds.macros x h.held h.there;
      found = agree.macros ∙ h.found;
      is = macro_stays s z v w keeps terms h.held h.meant h.is;
      no_named = agree.named ∙ h.no_named;
      no_function = no_function_moves h.no_function;
      taken = agree.taken ∙ h.taken;
    }
    meant_moves (Some (KnownEntry.Named x)) h = record {
      held = h.held;
      meant = h.meant;
      there = holds.named x h.held h.there;
      found = agree.named ∙ h.found;
      is = named_stays s z v w keeps terms h.held h.meant h.is;
      no_macro = agree.macros ∙ h.no_macro;
      no_function = no_function_moves h.no_function;
      taken = agree.taken ∙ h.taken;
    }

  -- a script that says the same of all names but one, which gets an entry
  pub script_puts : (k : KnownView) (e : EntriesView) (a b : Script) (name : List ℕ) (put : Entry) → HoldsStill k (record k { own = e }) → Puts k.own.names name put e.names → z.sorts ≡ b.sorts
      → ((other : List ℕ) → is_built_in other ≡ true → is_among b.taken other ≡ false) → ((other : List ℕ) → bytes_eq other name ≡ false → AgreesOn s z a b other)
      → IsNameMeant (both z w) (record k { own = e }) b name (Some (own_entry put)) → IsScript (both s v) k a → IsScript (both z w) (record k { own = e }) b
  script_puts k e a b name put holds puts sorts built_in agree now is = record {
    sorts = sorts;
    built_in = built_in;
    names = λ other. subst (IsNameMeant (both z w) (record k { own = e }) b other) (sym (Puts-known k.base k.own e name put puts other)) (go other (bytes_eq other name) refl);
  }
    where
      go : (other : List ℕ) (t : Bool) → bytes_eq other name ≡ t → IsNameMeant (both z w) (record k { own = e }) b other (cond t (Some (own_entry put)) (known_entry k other))
      go other false differs = meant_moves k (record k { own = e }) holds a b other (agree other differs) (known_entry k other) (is.names other)
      go other true same =
          subst (λ (n : List ℕ). IsNameMeant (both z w) (record k { own = e }) b n (Some (own_entry put))) (sym ((bytes_eq-Decides other name).0 same)) now

  -- the reader holds nothing of a term still
  pub idle_moves : (r : ReadingView) (names : NamesView) (a b : Script) (p : Place) → names.scope ≡ r.names.scope → IsReaderIdle (both s v) r a p → IsScript (both z w) names.known b
      → IsReaderIdle (both z w) (record r { names = names }) b p
  idle_moves r names a b p same h script = record {
    script = script;
    scope = rw same (scope_stays s z v w keeps terms r.names.scope p.scope h.scope);
    settings = h.settings;
    no_values = h.no_values;
    no_leaves = h.no_leaves;
    no_frames = h.no_frames;
  }

  -- by a script that says the same of all names
  pub idle_agrees : (r : ReadingView) (a b : Script) (p : Place) → z.sorts ≡ b.sorts → ((name : List ℕ) → AgreesOn s z a b name) → IsReaderIdle (both s v) r a p
      → IsReaderIdle (both z w) r b p
  idle_agrees r a b p sorts agree h =
      idle_moves r r.names a b p refl h (record {
        sorts = sorts;
        built_in = λ name built. (agree name).taken ∙ h.script.built_in name built;
        names = λ name.
            meant_moves r.names.known r.names.known (record { macros = λ x m e. e; named = λ x n e. e }) a b name (agree name) (known_entry r.names.known name) (h.script.names name);
      })

  -- and one more does
  pub all_refer : (rs : List ℕ) (ts : List Term) (r : ℕ) (t : Term) → ReferToAll s v rs ts → RefersTo z w r t → ReferToAll z w (rs ++ r ∷ []) (ts ++ t ∷ [])
  all_refer [] [] r t h is = (is, tt)
  all_refer [] (u ∷ ts) r t h is = absurd h
  all_refer (q ∷ rs) [] r t h is = absurd h
  all_refer (q ∷ rs) (u ∷ ts) r t h is = (refers_stays s z v w keeps terms q u h.0, all_refer rs ts r t h.1 is)
