-- What a name is found to be is what it means.
use Rattle.std.proofs.Common.{◌≡◌, ℕ, inl, inr, List, Bool, true, false, cond, find, Option, Some, None, option_map, ap, subst, refl, sym, ◌∙◌}
use Rattle.std.proofs.lemmas.Option.{same_Some}
use Rattle.std.specs.Prelude.{bytes_eq, option_and_then}
use Rattle.std.specs.List.{list_all}
use Rattle.std.specs.Option.{option_or}
use Rattle.sym_table.specs.Leaf as leaf
use Rattle.sym_table.specs.Table.{Table, IsLeaf}
use Rattle.term_model.specs.declared.symbols.Op.{Op}
use Rattle.term_model.specs.Terms.{Var}
use Rattle.term_pool.specs.Views.{TermsView}
use Rattle.term_expansion.specs.Free.{AreFreeLeaves}
use Rattle.term_names.specs.Heads.{HeadMeans, IsMacroMeant}
use Rattle.term_names.specs.InScope.{IsScope}
use Rattle.term_names.specs.Known.{KnownView, known_entry, macro_of, named_of}
use Rattle.term_names.specs.LookingUp.{term_used, IsFoundMeaning}
use Rattle.term_names.specs.Lookups.{meaning_of_entry, meaning_of_symbol, meaning_outside}
use Rattle.problem_text.specs.Names.{Place, Bound, Meaning, value, macro, function, operator, innermost, is_bound, meaning_of_bound, meaning_of_named, meaning_of}
use Rattle.rule_model.specs.Replacement.{free_variables}
use Rattle.term_names.specs.Scope.{Scoped, NamesView, bound_of, meant_of}
use Rattle.problem_text.specs.Scripts.{Script, Named}
use Rattle.problem_text.specs.Words.{operator_named}
use Rattle.term_names.specs.Standing.{IsNameMeant, IsNamedOf, HasNoEntry, IsNoFunction, named_in_script, macro_in, function_in}
use Rattle.term_names.specs.declared.entries.Named as held
use Rattle.term_names.specs.declared.heads.Head.{Head}
use Rattle.term_names.specs.declared.names.KnownEntry.{KnownEntry}
use Rattle.term_names.specs.declared.names.Meant.{Meant}
use Rattle.term_names.specs.declared.names.Which.{Which}
use Rattle.term_names.specs.declared.looking_up.Found.{Found}
use Rattle.term_expansion.specs.declared.values.Bound as holds
use Rattle.term_names.proofs.ScopeNames.{AreFound, found_in_scope}
use Rattle.term_expansion.specs.SymbolsAndTerms.{SymbolsAndTerms, both}

-- the entry of a name
without_named : (p : Place) (sc : Script) (name : List ℕ) → named_in_script sc name ≡ None → meaning_of_entry p sc name ≡ option_map macro (macro_in sc name)
without_named p sc name none =
    ap (λ o. option_or (option_and_then (λ n. meaning_of_named p n.meant) o) (option_map macro (macro_in sc name))) none

pub without_entry : (p : Place) (sc : Script) (name : List ℕ) → HasNoEntry sc name → meaning_of_entry p sc name ≡ None
without_entry p sc name none = without_named p sc name none.no_named ∙ ap (option_map macro) none.no_macro

with_named : (p : Place) (sc : Script) (name : List ℕ) (d : Named) (b : Bool) → named_in_script sc name ≡ Some d → b ≡ list_all (is_bound p.scope) (free_variables d.meant.tree) → meaning_of_entry p sc name ≡ option_or (cond b (Some (value (term_used p d.meant))) None) (option_map macro (macro_in sc name))
with_named p sc name d b found bound =
    ap (λ o. option_or (option_and_then (λ n. meaning_of_named p n.meant) o) (option_map macro (macro_in sc name))) found
    ∙ ap (λ t. option_or (cond t (Some (value (term_used p d.meant))) None) (option_map macro (macro_in sc name))) (sym bound)

-- what a name means outside, by its entry, by its function, and where it has neither
outside_by_entry : (p : Place) (sc : Script) (name : List ℕ) (m : Meaning) → meaning_of_entry p sc name ≡ Some m → meaning_outside p sc name ≡ Some m
outside_by_entry p sc name m is = ap (λ o. option_or o (meaning_of_symbol sc name)) is

outside_by_symbol : (p : Place) (sc : Script) (name : List ℕ) → meaning_of_entry p sc name ≡ None → meaning_outside p sc name ≡ meaning_of_symbol sc name
outside_by_symbol p sc name none = ap (λ o. option_or o (meaning_of_symbol sc name)) none

outside_by_operator : (p : Place) (sc : Script) (name : List ℕ) → meaning_of_entry p sc name ≡ None → function_in sc name ≡ None → meaning_outside p sc name ≡ option_map operator (operator_named name)
outside_by_operator p sc name none no_function =
    outside_by_symbol p sc name none ∙ ap (λ o. option_or (option_map function o) (option_map operator (operator_named name))) no_function

outside_nothing : (p : Place) (sc : Script) (name : List ℕ) → meaning_of_entry p sc name ≡ None → function_in sc name ≡ None → operator_named name ≡ None → meaning_outside p sc name ≡ None
outside_nothing p sc name none no_function no_operator = outside_by_operator p sc name none no_function ∙ ap (option_map operator) no_operator

-- the leaves that the code has are those of the named term that the name has
leaves_of_named : (s : Table) (v : TermsView) (n m : held.Named) (d : Named) → n ≡ m → IsNamedOf (both s v) m d → AreFreeLeaves s n.free.items (free_variables d.meant.tree)
leaves_of_named s v n m d e h = rw e h.free

-- what an entry is found to be is what its name means outside
module _ (s : Table) (v : TermsView) (k : KnownView) (sc : Script) (p : Place) (name : List ℕ) where
  pub function_outside : (n : ℕ) → IsNameMeant (both s v) k sc name (Some (KnownEntry.Function n)) → IsFoundMeaning (both s v) k p (Found.Symbol n) (meaning_outside p sc name)
  function_outside n h = (
    function h.function.meant,
    outside_by_symbol p sc name (without_entry p sc name h.no_entry)
        ∙ ap (λ o. option_or (option_map function o) (option_map operator (operator_named name))) h.function.found,
    inl (h.function.meant, h.function.here, refl),
  )

  pub reserved_outside : operator_named name ≡ None → IsNameMeant (both s v) k sc name (Some KnownEntry.Reserved) → meaning_outside p sc name ≡ None
  reserved_outside no_operator h =
      outside_nothing p sc name (without_entry p sc name h.no_entry) h.no_function.script no_operator

  pub macro_outside : (w : Which) → IsNameMeant (both s v) k sc name (Some (KnownEntry.Macro w)) → IsFoundMeaning (both s v) k p (Found.Macro w) (meaning_outside p sc name)
  macro_outside w h = (
    macro h.meant,
    outside_by_entry p sc name (macro h.meant) (without_named p sc name h.no_named ∙ ap (option_map macro) h.found),
    (h.held, h.meant, h.there, h.is, refl),
  )

  pub bound_outside : (w : Which) (n : held.Named) → named_of k w ≡ Some n → IsNameMeant (both s v) k sc name (Some (KnownEntry.Named w)) → ((xs : List Var) → AreFreeLeaves s n.free.items xs → true ≡ list_all (is_bound p.scope) xs) → IsFoundMeaning (both s v) k p (Found.Named w) (meaning_outside p sc name)
  bound_outside w n there h bound =
      let is = bound (free_variables h.meant.meant.tree) (leaves_of_named s v n h.held h.meant (same_Some _ _ (sym there ∙ h.there)) h.is) in (
        value (term_used p h.meant.meant),
        outside_by_entry p sc name _ (with_named p sc name h.meant true h.found is),
        (h.held, h.meant, h.there, h.is, refl, sym is),
      )

  pub unbound_outside : (w : Which) (n : held.Named) → named_of k w ≡ Some n → operator_named name ≡ None → IsNameMeant (both s v) k sc name (Some (KnownEntry.Named w)) → ((xs : List Var) → AreFreeLeaves s n.free.items xs → false ≡ list_all (is_bound p.scope) xs) → meaning_outside p sc name ≡ None
  unbound_outside w n there no_operator h bound =
      let is = bound (free_variables h.meant.meant.tree) (leaves_of_named s v n h.held h.meant (same_Some _ _ (sym there ∙ h.there)) h.is) in
      outside_nothing p sc name (with_named p sc name h.meant false h.found is ∙ ap (option_map macro) h.no_macro) h.no_function.script no_operator

  pub free_outside : operator_named name ≡ None → IsNameMeant (both s v) k sc name None → meaning_outside p sc name ≡ None
  free_outside no_operator h = outside_nothing p sc name (without_entry p sc name h.0) h.1.no_function.script no_operator

  -- an operator's name has nothing else
  pub operator_outside : (op : Op) (n : ℕ) → HasNoEntry sc name → IsNoFunction s sc name → operator_named name ≡ Some op → IsLeaf s n (leaf.operator op) → IsFoundMeaning (both s v) k p (Found.Symbol n) (meaning_outside p sc name)
  operator_outside op n no_entry no_function named here = (
    operator op,
    outside_by_operator p sc name (without_entry p sc name no_entry) no_function.script ∙ ap (option_map operator) named,
    inr (op, here, refl),
  )

-- the variable, the entry and the symbol of a name
or_or : (a b c : Option Meaning) → option_or a (option_or b c) ≡ option_or (option_or a b) c
or_or None b c = refl
or_or (Some m) b c = refl

meaning_parts : (p : Place) (sc : Script) (name : List ℕ) → meaning_of p sc name ≡ option_or (option_map meaning_of_bound (innermost p.scope name)) (meaning_outside p sc name)
unfolding meaning_of
meaning_parts p sc name =
    ap (option_or (option_map meaning_of_bound (innermost p.scope name)))
    (or_or (option_and_then (λ n. meaning_of_named p n.meant) (named_in_script sc name)) (option_map macro (macro_in sc name)) (meaning_of_symbol sc name))

meant_by_variable : (p : Place) (sc : Script) (name : List ℕ) (b : Bound) → innermost p.scope name ≡ Some b → meaning_of p sc name ≡ Some (meaning_of_bound b)
meant_by_variable p sc name b e =
    meaning_parts p sc name ∙ ap (λ o. option_or (option_map meaning_of_bound o) (meaning_outside p sc name)) e

meant_outside : (p : Place) (sc : Script) (name : List ℕ) → innermost p.scope name ≡ None → meaning_of p sc name ≡ meaning_outside p sc name
meant_outside p sc name e =
    meaning_parts p sc name ∙ ap (λ o. option_or (option_map meaning_of_bound o) (meaning_outside p sc name)) e

pub variable_found : (s : Table) (v : TermsView) (k : KnownView) (es : List Scoped) (p : Place) (sc : Script) (name : List ℕ) (c : holds.Bound) → IsScope (both s v) es p.scope → Some c ≡ option_map (λ e. e.bound) (find (λ e. bytes_eq e.name name) es) → IsFoundMeaning (both s v) k p (Found.Term c.value) (meaning_of p sc name)
variable_found s v k es p sc name c h e =
    go (find (λ e. bytes_eq e.name name) es) (innermost p.scope name) refl (found_in_scope s v es p.scope h name) e
  where
    go : (q : Option Scoped) (r : Option Bound) → innermost p.scope name ≡ r → AreFound s v name q r → Some c ≡ option_map (λ e. e.bound) q → IsFoundMeaning (both s v) k p (Found.Term c.value) (meaning_of p sc name)
    go None r f a e = absurd cc
    go (Some d) None f a e = absurd a
    go (Some d) (Some b) f a e =
        let same : d.bound ≡ c = same_Some _ _ (sym e) in (
          record { tree = b.stands_for; sort = b.variable.sort },
          meant_by_variable p sc name b f,
          rw (← same) a.1.value,
        )

none_innermost : (s : Table) (v : TermsView) (es : List Scoped) (bs : List Bound) (name : List ℕ) → IsScope (both s v) es bs → None ≡ option_map (λ (e : Scoped). e.bound) (find (λ e. bytes_eq e.name name) es) → innermost bs name ≡ None
none_innermost s v es bs name h e = go (find (λ e. bytes_eq e.name name) es) (innermost bs name) (found_in_scope s v es bs h name) e
  where
    go : (q : Option Scoped) (r : Option Bound) → AreFound s v name q r → None ≡ option_map (λ (e : Scoped). e.bound) q → r ≡ None
    go None None a e = refl
    go None (Some b) a e = absurd a
    go (Some d) r a e = absurd cc

-- where no variable has the name, it means what it means outside
pub found_outside : (s : Table) (v : TermsView) (k : KnownView) (es : List Scoped) (p : Place) (sc : Script) (name : List ℕ) (f : Found) → IsScope (both s v) es p.scope → None ≡ bound_of es name → IsFoundMeaning (both s v) k p f (meaning_outside p sc name) → IsFoundMeaning (both s v) k p f (meaning_of p sc name)
found_outside s v k es p sc name f h e found =
    subst (λ (o : Option Meaning). IsFoundMeaning (both s v) k p f o) (sym (meant_outside p sc name (none_innermost s v es p.scope name h e))) found

-- the variable and the entry of what a name means
pub meant_variable : (n : NamesView) (name : List ℕ) (c : holds.Bound) → Some (Meant.Variable c) ≡ meant_of n name → Some c ≡ bound_of n.scope name
meant_variable n name c = go (bound_of n.scope name) (known_entry n.known name)
  where
    go : (a : Option holds.Bound) (b : Option KnownEntry) → Some (Meant.Variable c) ≡ option_or (option_map Meant.Variable a) (option_map Meant.Entry b) → Some c ≡ a
    go None None e = cc
    go None (Some x) e = cc
    go (Some a) b e = cc

pub meant_entry : (n : NamesView) (name : List ℕ) (entry : KnownEntry) → Some (Meant.Entry entry) ≡ meant_of n name → (None ≡ bound_of n.scope name) × (known_entry n.known name ≡ Some entry)
meant_entry n name entry = go (bound_of n.scope name) (known_entry n.known name)
  where
    go : (a : Option holds.Bound) (b : Option KnownEntry) → Some (Meant.Entry entry) ≡ option_or (option_map Meant.Variable a) (option_map Meant.Entry b) → (None ≡ a) × (b ≡ Some entry)
    go None None e = cc
    go None (Some x) e = (refl, cc)
    go (Some a) b e = cc

pub meant_nothing : (n : NamesView) (name : List ℕ) → None ≡ meant_of n name → (None ≡ bound_of n.scope name) × (known_entry n.known name ≡ None)
meant_nothing n name = go (bound_of n.scope name) (known_entry n.known name)
  where
    go : (a : Option holds.Bound) (b : Option KnownEntry) → None ≡ option_or (option_map Meant.Variable a) (option_map Meant.Entry b) → (None ≡ a) × (b ≡ None)
    go None None e = (refl, refl)
    go None (Some x) e = cc
    go (Some a) b e = cc

-- the head that a macro is
pub macro_head : (w : SymbolsAndTerms) (k : KnownView) (p : Place) (m : Meaning) (n : Which) → IsFoundMeaning w k p (Found.Macro n) (Some m) → (h : Head) × (Some (Head.Macro n) ≡ Some h) × HeadMeans w k h m
macro_head w k p m n (found, same, meant) =
    (Head.Macro n, refl, subst (λ (x : Meaning). IsMacroMeant w (macro_of k n) x) (sym (same_Some _ _ same)) meant)
