-- Cited by crates above. A term is given a name: the tables stand for the script with the name then.
use Rattle.std.proofs.Common.{◌≡◌, ℕ, suc, zero, Bool, true, false, cond, ◌||◌, List, [], ◌∷◌, ◌++◌, length, slice_get, Option, Some, None, is_some, refl, sym, ◌∙◌, ap, subst, bytes_eq, if◌then◌else◌, Err}
use Rattle.std.specs.Option.{option_or}
use Rattle.std.proofs.lemmas.List.Folds.{find-append, list_any-append}
use Rattle.std.proofs.lemmas.Slice.Eq.{bytes_eq-Decides}
use Rattle.sym_table.specs.Table.{Table}
use Rattle.term_pool.specs.Views.{TermsView}
use Rattle.sexpr.specs.declared.causes.Cause.TheVariants.{Repeated}
use Rattle.sexpr.specs.declared.causes.Refusal.{Refusal}
use Rattle.term_names.specs.Entries.{EntriesView}
use Rattle.text_items.specs.ItemShapes.{Name}
use Rattle.term_names.specs.Known.{KnownView, known_entry, PutsKnown, macro_of, named_of}
use Rattle.problem_text.specs.TypedTerms.{Typed}
use Rattle.problem_text.specs.Outcomes.{Outcome, done, refuse}
use Rattle.problem_text.specs.Scripts.{Named, Script, is_taken, with_named}
use Rattle.term_names.specs.Standing.{IsScript, IsNameMeant, IsNamedOf, HasNoEntry, IsFreeName, IsNoFunction, named_in_script}
use Rattle.problem_text.specs.Terms.{with_names}
use Rattle.problem_text.specs.Words.{is_among, is_built_in}
use Rattle.term_names.specs.declared.entries.Macro as macro
use Rattle.term_names.specs.declared.entries.Named as named
use Rattle.term_names.specs.declared.names.KnownEntry.{KnownEntry}
use Rattle.term_names.specs.declared.names.Which.{Which}
use Rattle.term_names.specs.declared.names.Which.TheVariants.{Base, Own}
use Rattle.term_names.proofs.HeldVariables.{slice_get-last}
use Rattle.term_expansion.specs.SymbolsAndTerms.{both}

-- what entries say after one more named term
pub record Names (old new : KnownView) (name : List ℕ) (held : named.Named) : Type 0 where
  pub entry : PutsKnown old name (KnownEntry.Named (Own (length old.own.named))) new
  pub named : new.own.named ≡ old.own.named ++ held ∷ []
  pub macros : new.own.macros ≡ old.own.macros
  pub base : new.base ≡ old.base

-- an item of a list stays where it is as another comes last
pub slice_get-before : {X : Type 0} (xs : List X) (y : X) (k : ℕ) (x : X) → slice_get xs k ≡ Some x → slice_get (xs ++ y ∷ []) k ≡ Some x
slice_get-before [] y k x e = cc
slice_get-before (z ∷ xs) y zero x e = e
slice_get-before (z ∷ xs) y (suc k) x e = slice_get-before xs y k x e

pub macros_kept : (old new : KnownView) → new.own.macros ≡ old.own.macros → new.base ≡ old.base → (w : Which) → macro_of new w ≡ macro_of old w
macros_kept old new macros base (Base n) = ap (λ (e : EntriesView). slice_get e.macros n) base
macros_kept old new macros base (Own n) = ap (λ (ms : List macro.Macro). slice_get ms n) macros

named_kept : (old new : KnownView) (name : List ℕ) (held h : named.Named) (w : Which) → Names old new name held → named_of old w ≡ Some h
    → named_of new w ≡ Some h
named_kept old new name held h (Base n) names e = ap (λ (e : EntriesView). slice_get e.named n) names.base ∙ e
named_kept old new name held h (Own n) names e = ap (λ (ns : List named.Named). slice_get ns n) names.named ∙ slice_get-before old.own.named held n h e

pub apart : (x y : List ℕ) → bytes_eq x y ≡ false → bytes_eq y x ≡ false
apart x y differs = go (bytes_eq y x) refl
  where
    go : (b : Bool) → bytes_eq y x ≡ b → bytes_eq y x ≡ false
    go false e = e
    go true e = let same = (bytes_eq-Decides x y).1 (sym ((bytes_eq-Decides y x).0 e)) in cc

pub or_none : {X : Type 0} (o : Option X) → option_or o None ≡ o
or_none None = refl
or_none (Some x) = refl

pub or_false : (b : Bool) → (b || false) ≡ b
or_false true = refl
or_false false = refl

-- what the script says of a name that is not the new one
module _ (sc : Script) (d : Named) (other : List ℕ) (differs : bytes_eq other d.name ≡ false) where
  pub named_before : named_in_script (with_named d sc) other ≡ named_in_script sc other
  named_before =
      find-append (λ n. bytes_eq n.name other) sc.named (d ∷ [])
      ∙ ap (λ b. option_or (named_in_script sc other) (cond b (Some d) None)) (apart other d.name differs)
      ∙ or_none (named_in_script sc other)

  pub taken_before : is_among (with_named d sc).taken other ≡ is_among sc.taken other
  taken_before =
      list_any-append (bytes_eq other) sc.taken (d.name ∷ [])
      ∙ ap (λ b. is_among sc.taken other || (b || false)) differs
      ∙ or_false (is_among sc.taken other)

-- what the script says of the new name
named_now : (sc : Script) (d : Named) → named_in_script sc d.name ≡ None → named_in_script (with_named d sc) d.name ≡ Some d
named_now sc d none =
    find-append (λ n. bytes_eq n.name d.name) sc.named (d ∷ [])
    ∙ ap (λ o. option_or o (cond (bytes_eq d.name d.name) (Some d) None)) none
    ∙ ap (λ b. cond b (Some d) None) ((bytes_eq-Decides d.name d.name).1 refl)

pub either_false : (a b : Bool) → (a || b) ≡ false → b ≡ false
either_false true b e = cc
either_false false b e = e

-- no built-in word is taken where a name that is not taken comes last
pub no_word_taken : (sc : Script) (name : List ℕ) → is_taken sc name ≡ false → ((other : List ℕ) → is_built_in other ≡ true → is_among sc.taken other ≡ false)
    → (other : List ℕ) → is_built_in other ≡ true → is_among (sc.taken ++ name ∷ []) other ≡ false
no_word_taken sc name untaken words other built =
    list_any-append (bytes_eq other) sc.taken (name ∷ [])
    ∙ ap (λ b. b || (bytes_eq other name || false)) (words other built)
    ∙ ap (λ b. b || false) (differs (bytes_eq other name) refl)
  where
    clash : (a b : Bool) → (a || b) ≡ false → a ≡ true → ⊥
    clash true b e h = cc
    clash false b e h = cc

    differs : (b : Bool) → bytes_eq other name ≡ b → b ≡ false
    differs false e = refl
    differs true e =
        absurd (clash (is_built_in name) _ untaken (subst (λ (n : List ℕ). is_built_in n ≡ true) ((bytes_eq-Decides other name).0 e) built))

taken_now : (sc : Script) (d : Named) → is_among (with_named d sc).taken d.name ≡ true
taken_now sc d =
    list_any-append (bytes_eq d.name) sc.taken (d.name ∷ [])
    ∙ ap (λ b. is_among sc.taken d.name || (b || false)) ((bytes_eq-Decides d.name d.name).1 refl)
    ∙ last (is_among sc.taken d.name)
  where
    last : (b : Bool) → (b || true) ≡ true
    last true = refl
    last false = refl

module _ (s : Table) (v : TermsView) (old new : KnownView) (sc : Script) (d : Named) (held : named.Named) (names : Names old new d.name held) where
  meant_before : (other : List ℕ) → bytes_eq other d.name ≡ false → (e : Option KnownEntry) → IsNameMeant (both s v) old sc other e
      → IsNameMeant (both s v) new (with_named d sc) other e
  meant_before other differs None (none, f) = (
    record { no_named = named_before sc d other differs ∙ none.no_named; no_macro = none.no_macro },
    record { no_function = record { table = f.no_function.table; script = f.no_function.script }; free = taken_before sc d other differs ∙ f.free },
  )
  meant_before other differs (Some (KnownEntry.Function n)) f = record {
    no_entry = record { no_named = named_before sc d other differs ∙ f.no_entry.no_named; no_macro = f.no_entry.no_macro };
    function = record {
      meant = f.function.meant;
      here = f.function.here;
      same_name = f.function.same_name;
      found = f.function.found;
      taken = taken_before sc d other differs ∙ f.function.taken;
    };
  }
  meant_before other differs (Some KnownEntry.Reserved) r = record {
    no_entry = record { no_named = named_before sc d other differs ∙ r.no_entry.no_named; no_macro = r.no_entry.no_macro };
    no_function = record { table = r.no_function.table; script = r.no_function.script };
    taken = taken_before sc d other differs ∙ r.taken;
  }
  meant_before other differs (Some (KnownEntry.Macro w)) m = record {
    held = m.held;
    meant = m.meant;
    there = macros_kept old new names.macros names.base w ∙ m.there;
    found = m.found;
    is = m.is;
    no_named = named_before sc d other differs ∙ m.no_named;
    no_function = record { table = m.no_function.table; script = m.no_function.script };
    taken = taken_before sc d other differs ∙ m.taken;
  }
  meant_before other differs (Some (KnownEntry.Named w)) n = record {
    held = n.held;
    meant = n.meant;
    there = named_kept old new d.name held n.held w names n.there;
    found = named_before sc d other differs ∙ n.found;
    is = n.is;
    no_macro = n.no_macro;
    no_function = record { table = n.no_function.table; script = n.no_function.script };
    taken = taken_before sc d other differs ∙ n.taken;
  }

  meant_now : IsNamedOf (both s v) held d → HasNoEntry sc d.name → IsNoFunction s sc d.name
      → IsNameMeant (both s v) new (with_named d sc) d.name (Some (KnownEntry.Named (Own (length old.own.named))))
  meant_now is none no_function = record {
    held = held;
    meant = d;
    there = ap (λ (ns : List named.Named). slice_get ns (length old.own.named)) names.named ∙ slice_get-last old.own.named held (length old.own.named) refl;
    found = named_now sc d none.no_named;
    is = is;
    no_macro = none.no_macro;
    no_function = record { table = no_function.table; script = no_function.script };
    taken = taken_now sc d;
  }

  named_script : IsScript (both s v) old sc → is_taken sc d.name ≡ false → known_entry old d.name ≡ None → IsNamedOf (both s v) held d
      → IsScript (both s v) new (with_named d sc)
  named_script is untaken none held_is = record {
    sorts = is.sorts;
    built_in = no_word_taken sc d.name untaken is.built_in;
    names = λ other. subst (IsNameMeant (both s v) new (with_named d sc) other) (sym (names.entry other)) (go other (bytes_eq other d.name) refl);
  }
    where
      entry : KnownEntry
      entry = KnownEntry.Named (Own (length old.own.named))

      here : HasNoEntry sc d.name × IsFreeName s sc d.name → IsNameMeant (both s v) new (with_named d sc) d.name (Some entry)
      here (nothing, f) = meant_now held_is nothing f.no_function

      go : (other : List ℕ) (b : Bool) → bytes_eq other d.name ≡ b
          → IsNameMeant (both s v) new (with_named d sc) other (cond b (Some entry) (known_entry old other))
      go other false e = meant_before other e (known_entry old other) (is.names other)
      go other true e =
          subst (λ (n : List ℕ). IsNameMeant (both s v) new (with_named d sc) n (Some entry)) (sym ((bytes_eq-Decides other d.name).0 e))
          (here (subst (IsNameMeant (both s v) old sc d.name) none (is.names d.name)))

-- a name has an entry exactly where it is among those that are taken
pub entry_where_taken : (s : Table) (v : TermsView) (k : KnownView) (sc : Script) (name : List ℕ) → IsScript (both s v) k sc
    → is_some (known_entry k name) ≡ is_among sc.taken name
entry_where_taken s v k sc name is = go (known_entry k name) (is.names name)
  where
    go : (e : Option KnownEntry) → IsNameMeant (both s v) k sc name e → is_some e ≡ is_among sc.taken name
    go None (none, f) = sym f.free
    go (Some (KnownEntry.Function n)) f = sym f.function.taken
    go (Some KnownEntry.Reserved) r = sym r.taken
    go (Some (KnownEntry.Macro w)) m = sym m.taken
    go (Some (KnownEntry.Named w)) n = sym n.taken

-- a name that is not taken has no entry
pub no_entry : (s : Table) (v : TermsView) (k : KnownView) (sc : Script) (name : List ℕ) → IsScript (both s v) k sc → is_taken sc name ≡ false
    → known_entry k name ≡ None
no_entry s v k sc name is untaken =
    go (known_entry k name) (entry_where_taken s v k sc name is ∙ either_false (is_built_in name) (is_among sc.taken name) untaken)
  where
    go : (e : Option KnownEntry) → is_some e ≡ false → e ≡ None
    go None none = refl
    go (Some e) none = cc

-- one name, which is taken or not, and what comes after it
abbrev pub one_name : Typed → Name → Script → (Script → Outcome Script Typed) → Bool → Outcome Script Typed
one_name t x sc next taken = if taken then refuse Repeated x.place sc else next (with_named (record { name = x.name; meant = t }) sc)

pub name_refused : (t : Typed) (x : Name) (sc : Script) (r : Refusal) → is_taken sc x.name ≡ true → r ≡ record { cause = Repeated; at = x.place }
    → (with_names t (x ∷ []) sc).result ≡ Err r
name_refused t x sc r taken e = ap (λ b. (one_name t x sc (λ after. done t after) b).result) taken ∙ ap Err (sym e)

pub name_given : (s : Table) (v : TermsView) (old new : KnownView) (sc : Script) (name : List ℕ) (x : Name) (t : Typed) (held : named.Named) → name ≡ x.name
    → Names old new name held
    → IsScript (both s v) old sc → is_taken sc x.name ≡ false → IsNamedOf (both s v) held (record { name = x.name; meant = t })
    → (after : Script) × (with_names t (x ∷ []) sc ≡ done t after) × IsScript (both s v) new after
name_given s v old new sc name x t held same names is untaken held_is =
    let d : Named = record { name = x.name; meant = t } in
    let put : Names old new x.name held = subst (λ (n : List ℕ). Names old new n held) same names in (
      with_named d sc,
      ap (one_name t x sc (λ after. done t after)) untaken,
      named_script s v old new sc d held put is untaken (no_entry s v old sc x.name is untaken) held_is,
    )
