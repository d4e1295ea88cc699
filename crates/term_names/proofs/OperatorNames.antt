-- Nothing that a script declares or names has the name of an operator.
use Rattle.std.proofs.Common.{◌≡◌, ℕ, Bool, true, false, cond, ◌||◌, List, [], ◌∷◌, map, find, drop, Option, Some, None, ap, refl, sym, ◌∙◌}
use Rattle.std.specs.Prelude.{bytes_eq}
use Rattle.std.proofs.lemmas.List.Folds.{list_any-append}
use Rattle.std.proofs.lemmas.Slice.Eq.{bytes_eq-Decides}
use Rattle.std.proofs.lemmas.Bool.{or_right}
use Rattle.sym_table.specs.Table.{Table}
use Rattle.sym_table.specs.Words.{operator_symbol, built_in_words}
use Rattle.term_model.specs.declared.symbols.Op.{Op}
use Rattle.term_pool.specs.Views.{TermsView}
use Rattle.term_names.specs.Known.{KnownView, known_entry}
use Rattle.term_names.specs.Standing.{HasNoEntry, IsNoFunction, IsNameMeant, IsScript}
use Rattle.problem_text.specs.Scripts.{Script}
use Rattle.problem_text.specs.Words.{is_among, is_built_in, operators, operator_named}
use Rattle.term_names.specs.declared.names.KnownEntry.{KnownEntry}
use Rattle.term_expansion.specs.SymbolsAndTerms.{both}

-- a name by which an operator is found is the symbol of one
symbol_among : (ops : List Op) (name : List ℕ) (op : Op) → find (λ o. bytes_eq (operator_symbol o) name) ops ≡ Some op → is_among (map operator_symbol ops) name ≡ true
symbol_among [] name op e = cc
symbol_among (o ∷ ops) name op e = go (bytes_eq (operator_symbol o) name) refl e (symbol_among ops name op)
  where
    go : (b : Bool) → bytes_eq (operator_symbol o) name ≡ b → cond b (Some o) (find (λ p. bytes_eq (operator_symbol p) name) ops) ≡ Some op
        → (find (λ p. bytes_eq (operator_symbol p) name) ops ≡ Some op → is_among (map operator_symbol ops) name ≡ true)
        → (bytes_eq name (operator_symbol o) || is_among (map operator_symbol ops) name) ≡ true
    go true same f later = ap (λ b. b || is_among (map operator_symbol ops) name) ((bytes_eq-Decides name (operator_symbol o)).1 (sym ((bytes_eq-Decides (operator_symbol o) name).0 same)))
    go false differs f later = or_right (bytes_eq name (operator_symbol o)) (is_among (map operator_symbol ops) name) (later f)

-- the built-in words begin with the symbols of the operators
operator_is_built_in : (name : List ℕ) (op : Op) → operator_named name ≡ Some op → is_built_in name ≡ true
operator_is_built_in name op e =
    list_any-append (bytes_eq name) (map operator_symbol operators) (drop 19 built_in_words)
    ∙ ap (λ b. b || is_among (drop 19 built_in_words) name) (symbol_among operators name op e)

-- a name that is not taken has no entry, and no function has it
untaken : (s : Table) (v : TermsView) (k : KnownView) (sc : Script) (name : List ℕ) (o : Option KnownEntry) → IsNameMeant (both s v) k sc name o → is_among sc.taken name ≡ false
    → HasNoEntry sc name × IsNoFunction s sc name
untaken s v k sc name None (none, f) free = (none, f.no_function)
untaken s v k sc name (Some (KnownEntry.Function n)) f free = absurd (let taken = f.function.taken in cc)
untaken s v k sc name (Some KnownEntry.Reserved) r free = absurd (let taken = r.taken in cc)
untaken s v k sc name (Some (KnownEntry.Macro w)) m free = absurd (let taken = m.taken in cc)
untaken s v k sc name (Some (KnownEntry.Named w)) n free = absurd (let taken = n.taken in cc)

pub operator_is_alone : (s : Table) (v : TermsView) (k : KnownView) (sc : Script) (name : List ℕ) (op : Op) → IsScript (both s v) k sc → operator_named name ≡ Some op → HasNoEntry sc name × IsNoFunction s sc name
operator_is_alone s v k sc name op is named =
    untaken s v k sc name (known_entry k name) (is.names name) (is.built_in name (operator_is_built_in name op named))
