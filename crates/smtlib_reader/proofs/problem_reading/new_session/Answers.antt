-- Nothing was read, and no leaf of a new table is that of a function.
use Rattle.std.proofs.Common.{◌≡◌, ℕ, zero, suc, false, List, [], ◌∷◌, IsTrue, slice_get, None, refl, sym, ap, subst, rules}
use Rattle.std.specs.Option.{IsSomeAnd}
use Rattle.sym_table.specs.Leaf.{Leaf, is_function, name_of, first_leaves}
use Rattle.sym_table.specs.Table.{Table, IsFunctionName}
use Rattle.term_pool.specs.Views.{ReferToAll}
use Rattle.problem_text.specs.Scripts.{empty_script}
use Rattle.term_names.specs.Entries.{no_entries}
use Rattle.term_names.specs.InScope.{IsScope}
use Rattle.term_names.specs.Known.{KnownView, base_of, known_entry}
use Rattle.term_names.specs.Scope.{known_in}
use Rattle.term_names.specs.Standing.{IsNameMeant}
use Rattle.smtlib_reader.proofs.problem_reading.new_session.Goals as goal
use Rattle.term_expansion.specs.SymbolsAndTerms.{both}

abbrev AreNoFunctions : List Leaf → Type 0
AreNoFunctions [] = Unit {0}
AreNoFunctions (l ∷ ls) = (is_function l ≡ false) × AreNoFunctions ls

none_named : (name : List ℕ) (ls : List Leaf) (k : ℕ) → AreNoFunctions ls → IsSomeAnd (slice_get ls k) (λ l. IsTrue (is_function l) × (name_of l ≡ name)) → ⊥
none_named name [] k apart h = h
none_named name (l ∷ ls) zero apart h = let e = apart.0 in let f = h.0 in absurd (cc)
none_named name (l ∷ ls) (suc k) apart h = none_named name ls k apart.1 h

no_function : (s : Table) (name : List ℕ) → s.leaves ≡ first_leaves → IsFunctionName s name → ⊥
no_function s name e (k, h) = none_named name s.leaves k (subst AreNoFunctions (sym e) (search rules)) h

no_entry : (k : KnownView) (name : List ℕ) → k.base ≡ no_entries → k.own ≡ no_entries → known_entry k name ≡ None
no_entry k name base own = rw (base, own) refl

pub returns : goal.returns
returns c = λ e s v none new. record {
  idle = record {
    script = record {
      sorts = new.sorts;
      built_in = λ name built. refl;
      names = λ name.
          subst (IsNameMeant (both s v) (known_in e c.new.result.names) empty_script name) (sym (no_entry (known_in e c.new.result.names) name (ap base_of none) c.new.ensures.own)) (
            record { no_named = refl; no_macro = refl },
            record { no_function = record { table = no_function s name new.leaves; script = refl }; free = refl },
          );
    };
    scope = subst (λ es. IsScope (both s v) es []) (sym c.new.ensures.scope) tt;
    settings = refl;
    no_values = c.new.ensures.values;
    no_leaves = c.new.ensures.leaves;
    no_frames = c.new.ensures.frames;
  };
  assertions = subst (λ rs. ReferToAll s v rs []) (sym c.new-2.ensures.items) tt;
  has_logic = refl;
  is_checked = refl;
}
