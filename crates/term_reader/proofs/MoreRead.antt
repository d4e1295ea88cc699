-- One term more that was read, on the stacks and in the script.
use Rattle.std.proofs.Common.{◌≤◌, ℕ, zero, suc, sym, subst, List, [], ◌∷◌, ◌++◌, length, take, drop, Option, Some, None}
use Rattle.std.specs.List.{AllZip}
use Rattle.std.proofs.lemmas.List.{drop-append-le}
use Rattle.indexmap.proofs.SetLemmas.{AllZip-push}
use Rattle.sym_table.specs.Table.{Table}
use Rattle.term_model.specs.Terms.{Term}
use Rattle.term_pool.specs.Views.{TermsView}
use Rattle.term_names.specs.InScope.{AreValuesLow}
use Rattle.term_names.specs.Known.{KnownView, known_entry}
use Rattle.problem_text.specs.Scripts.{Script}
use Rattle.term_names.specs.Standing.{IsFunctionAt, IsNoFunction, HasNoEntry, IsNameMeant, IsScript}
use Rattle.term_names.specs.declared.names.KnownEntry.{KnownEntry}
use Rattle.term_expansion.specs.declared.values.Value.{Value}
use Rattle.term_expansion.specs.SymbolsAndTerms.{both}

-- stacks
pub low_below : (n : ℕ) (values : List Value) → AreValuesLow values → AreValuesLow (take n values)
low_below n [] h = go n
  where
    go : (k : ℕ) → AreValuesLow (take k [])
    go zero = tt
    go (suc k) = tt
low_below zero (c ∷ values) h = tt
low_below (suc n) (c ∷ values) h = (h.0, low_below n values h.1)

-- one item more at the end of two lists, of which one is the end of a longer one
pub zip_pushed : {A B : Type 0} (R : A → B → Type 0) (from : ℕ) (xs : List A) (ys : List B) (x : A) (y : B) → from ≤ length xs → AllZip R (drop from xs) ys
    → R x y
    → AllZip R (drop from (xs ++ x ∷ [])) (ys ++ y ∷ [])
zip_pushed R from xs ys x y within h is =
    subst (λ zs. AllZip R zs (ys ++ y ∷ [])) (sym (drop-append-le from xs (x ∷ []) within)) (AllZip-push R (drop from xs) ys x y h is)

-- The script: what its names are does not change with the terms that were read and the names that lets bound.
abbrev pub with_read : List Term → List (List ℕ) → Script → Script
with_read ts names sc = record sc { terms = ts; let_names = names }

module _ (s : Table) (v : TermsView) (k : KnownView) (ts : List Term) (lets : List (List ℕ)) (sc : Script) where
  same_no_function : (name : List ℕ) → IsNoFunction s sc name → IsNoFunction s (with_read ts lets sc) name
  same_no_function name h = record { table = h.table; script = h.script }

  same_no_entry : (name : List ℕ) → HasNoEntry sc name → HasNoEntry (with_read ts lets sc) name
  same_no_entry name h = record { no_named = h.no_named; no_macro = h.no_macro }

  same_function : (name : List ℕ) (n : ℕ) → IsFunctionAt s sc name n → IsFunctionAt s (with_read ts lets sc) name n
  same_function name n h = record { meant = h.meant; here = h.here; same_name = h.same_name; found = h.found; taken = h.taken }

  same_meant : (name : List ℕ) (o : Option KnownEntry) → IsNameMeant (both s v) k sc name o → IsNameMeant (both s v) k (with_read ts lets sc) name o
  same_meant name None (none, h) = (same_no_entry name none, record { no_function = same_no_function name h.no_function; free = h.free })
  same_meant name (Some (KnownEntry.Function n)) h = record { no_entry = same_no_entry name h.no_entry; function = same_function name n h.function }
  same_meant name (Some KnownEntry.Reserved) h =
      record { no_entry = same_no_entry name h.no_entry; no_function = same_no_function name h.no_function; taken = h.taken }
  same_meant name (Some (KnownEntry.Macro w)) h = record {
    held = h.held;
    meant = h.meant;
    there = h.there;
    found = h.found;
    is = h.is;
    no_named = h.no_named;
    no_function = same_no_function name h.no_function;
    taken = h.taken;
  }
  same_meant name (Some (KnownEntry.Named w)) h = record {
    held = h.held;
    meant = h.meant;
    there = h.there;
    found = h.found;
    is = h.is;
    no_macro = h.no_macro;
    no_function = same_no_function name h.no_function;
    taken = h.taken;
  }

  pub same_script : IsScript (both s v) k sc → IsScript (both s v) k (with_read ts lets sc)
  same_script h = record { sorts = h.sorts; built_in = h.built_in; names = λ name. same_meant name (known_entry k name) (h.names name) }
