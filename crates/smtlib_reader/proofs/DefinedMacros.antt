-- The tables stand for the script once a name is taken for a macro, and once the macro is defined.
use Rattle.std.proofs.Common.{◌≡◌, ℕ, false, cond, List, [], ◌∷◌, ◌++◌, length, slice_get, Option, Some, None, refl, ◌∙◌, ap, subst, bytes_eq}
use Rattle.std.specs.Option.{option_or}
use Rattle.std.proofs.lemmas.List.Folds.{find-append}
use Rattle.std.proofs.lemmas.Slice.Eq.{bytes_eq-Decides}
use Rattle.sym_table.specs.Table.{Table}
use Rattle.sym_table.proofs.Tables.{keeps_table}
use Rattle.term_pool.specs.Views.{TermsView}
use Rattle.term_pool.proofs.Keeping.{terms-refl}
use Rattle.term_names.specs.Entries.{EntriesView, Puts}
use Rattle.term_names.specs.Known.{KnownView, known_entry}
use Rattle.problem_text.specs.Scripts.{Macro, Script, is_taken, with_name, with_macro}
use Rattle.term_names.specs.Standing.{IsScript, IsNameMeant, IsMacroOf, HasNoEntry, IsFreeName, IsReservedName, macro_in}
use Rattle.problem_text.specs.Words.{is_among, is_built_in}
use Rattle.term_names.specs.declared.entries.Entry.{Entry}
use Rattle.term_names.specs.declared.entries.Macro as macro
use Rattle.term_names.specs.declared.names.KnownEntry.{KnownEntry}
use Rattle.term_reader.proofs.GivenNames.{slice_get-before, apart, or_none, either_false, no_word_taken}
use Rattle.term_names.proofs.HeldVariables.{slice_get-last}
use Rattle.smtlib_reader.proofs.AgreeingScripts.{PutsEntry, puts_holds, holds_still, script_puts, among_before, among_now}
use Rattle.smtlib_reader.proofs.KeptByReading.{IsReservedIn}
use Rattle.term_expansion.specs.SymbolsAndTerms.{both}

-- what entries say once a name is taken for a macro
abbrev pub TakesName : EntriesView → EntriesView → List ℕ → Type 0
TakesName old new name = PutsEntry old new name Entry.Reserved

module _ (s : Table) (v : TermsView) (k : KnownView) (sc : Script) (name : List ℕ) (is : IsScript (both s v) k sc) where
  pub name_reserved : is_among sc.taken name ≡ false → known_entry k name ≡ None → IsReservedName s (with_name name sc) name
  name_reserved free none = go (subst (IsNameMeant (both s v) k sc name) none (is.names name))
    where
      go : HasNoEntry sc name × IsFreeName s sc name → IsReservedName s (with_name name sc) name
      go (nothing, f) = record {
        no_entry = record { no_named = nothing.no_named; no_macro = nothing.no_macro };
        no_function = record { table = f.no_function.table; script = f.no_function.script };
        taken = among_now sc.taken name;
      }

  pub reserved_script : (e : EntriesView) → TakesName k.own e name → is_taken sc name ≡ false → known_entry k name ≡ None → IsScript (both s v) (record k { own = e }) (with_name name sc)
  reserved_script e takes untaken none =
      script_puts s s v v (keeps_table s) (terms-refl v) k e sc (with_name name sc) name Entry.Reserved (puts_holds k e name Entry.Reserved takes) takes.names is.sorts
      (no_word_taken sc name untaken is.built_in)
      (λ other differs. record { functions = refl; macros = refl; named = refl; taken = among_before sc.taken name other differs; back = λ f. f })
      (name_reserved (either_false (is_built_in name) (is_among sc.taken name) untaken) none) is

-- what entries say after one more macro
pub record PutsMacro (old new : EntriesView) (name : List ℕ) (held : macro.Macro) : Type 0 where
  pub names : Puts old.names name (Entry.Macro (length old.macros)) new.names
  pub macros : new.macros ≡ old.macros ++ held ∷ []
  pub named : new.named ≡ old.named

pub defined_script : (s : Table) (v : TermsView) (k : KnownView) (e : EntriesView) (sc : Script) (d : Macro) (held : macro.Macro) → PutsMacro k.own e d.name held → IsScript (both s v) k sc
    → IsMacroOf (both s v) held d → IsReservedName s sc d.name → IsScript (both s v) (record k { own = e }) (with_macro d sc)
defined_script s v k e sc d held puts is held_is r =
    script_puts s s v v (keeps_table s) (terms-refl v) k e sc (with_macro d sc) d.name (Entry.Macro (length k.own.macros))
    (holds_still k e (λ i m h. rw puts.macros (slice_get-before k.own.macros held i m h)) puts.named) puts.names is.sorts is.built_in
    (λ other differs. record {
      functions = refl;
      macros =
          find-append (λ m. bytes_eq m.name other) sc.macros (d ∷ [])
          ∙ ap (λ b. option_or (macro_in sc other) (cond b (Some d) None)) (apart other d.name differs)
          ∙ or_none (macro_in sc other);
      named = refl;
      taken = refl;
      back = λ f. f;
    })
    (record {
      held = held;
      meant = d;
      there = ap (λ (ms : List macro.Macro). slice_get ms (length k.own.macros)) puts.macros ∙ slice_get-last k.own.macros held (length k.own.macros) refl;
      found =
          find-append (λ m. bytes_eq m.name d.name) sc.macros (d ∷ [])
          ∙ ap (λ o. option_or o (cond (bytes_eq d.name d.name) (Some d) None)) r.no_entry.no_macro
          ∙ ap (λ b. cond b (Some d) None) ((bytes_eq-Decides d.name d.name).1 refl);
      is = held_is;
      no_named = r.no_entry.no_named;
      no_function = record { table = r.no_function.table; script = r.no_function.script };
      taken = r.taken;
    }) is

-- a name that the script says is taken for a macro is so by the table too
pub reserved_name : (s : Table) (v : TermsView) (k : KnownView) (sc : Script) (name : List ℕ) → IsScript (both s v) k sc → IsReservedIn sc name → IsReservedName s sc name
reserved_name s v k sc name is r = go (known_entry k name) (is.names name)
  where
    go : (e : Option KnownEntry) → IsNameMeant (both s v) k sc name e → IsReservedName s sc name
    go None (none, f) = absurd (let a = f.free in let b = r.taken in cc)
    go (Some (KnownEntry.Function leaf)) d = absurd (let a = d.function.found in let b = r.no_function in cc)
    go (Some KnownEntry.Reserved) m = m
    go (Some (KnownEntry.Macro w)) m = absurd (let a = m.found in let b = r.no_macro in cc)
    go (Some (KnownEntry.Named w)) n = absurd (let a = n.found in let b = r.no_named in cc)
