-- What was found is a meaning, told by what was found.
use Rattle.std.proofs.Common.{◌≡◌, ℕ, [], Option, Some, Ok, subst, sym}
use Rattle.std.proofs.lemmas.Option.{same_Some}
use Rattle.sym_table.specs.Table.{Table}
use Rattle.term_pool.specs.Views.{TermsView}
use Rattle.term_names.specs.Heads.{IsSymbolOf, IsMacroMeant}
use Rattle.term_names.specs.Known.{KnownView, macro_of, named_of}
use Rattle.term_names.specs.LookingUp.{IsNamedMeant, IsFoundMeaning}
use Rattle.term_names.specs.Making.{IsMade}
use Rattle.problem_text.specs.Names.{Place, Meaning, meaning_applied}
use Rattle.term_names.specs.declared.entries.Macro as macro
use Rattle.term_names.specs.declared.entries.Named as named
use Rattle.term_names.specs.declared.names.Which.{Which}
use Rattle.term_names.specs.declared.looking_up.Found.{Found}
use Rattle.term_expansion.specs.declared.values.Value.{Value}
use Rattle.term_names.proofs.NamedUses.{applied_value}
use Rattle.term_expansion.specs.SymbolsAndTerms.{both}

pub term_made : (s : Table) (v : TermsView) (k : KnownView) (p : Place) (c : Value) (m : Meaning) → IsFoundMeaning (both s v) k p (Found.Term c) (Some m) → IsMade (both s v) (meaning_applied m []) (Ok (Some c))
term_made s v k p c m (t, same, is) = (t, applied_value m t (same_Some _ _ same), is)

pub named_meant : (s : Table) (v : TermsView) (k : KnownView) (p : Place) (w : Which) (n : named.Named) (m : Meaning) → named_of k w ≡ Some n → IsFoundMeaning (both s v) k p (Found.Named w) (Some m) → IsNamedMeant (both s v) p (Some n) m
named_meant s v k p w n m there (found, same, meant) =
    subst (λ (o : Option named.Named). IsNamedMeant (both s v) p o m) there
    (subst (λ (x : Meaning). IsNamedMeant (both s v) p (named_of k w) x) (sym (same_Some _ _ same)) meant)

pub macro_meant : (s : Table) (v : TermsView) (k : KnownView) (p : Place) (w : Which) (h : macro.Macro) (m : Meaning) → macro_of k w ≡ Some h → IsFoundMeaning (both s v) k p (Found.Macro w) (Some m) → IsMacroMeant (both s v) (Some h) m
macro_meant s v k p w h m there (found, same, meant) =
    subst (λ (o : Option macro.Macro). IsMacroMeant (both s v) o m) there
    (subst (λ (x : Meaning). IsMacroMeant (both s v) (macro_of k w) x) (sym (same_Some _ _ same)) meant)

pub symbol_meant : (s : Table) (v : TermsView) (k : KnownView) (p : Place) (n : ℕ) (m : Meaning) → IsFoundMeaning (both s v) k p (Found.Symbol n) (Some m) → IsSymbolOf s n m
symbol_meant s v k p n m (found, same, meant) = subst (λ (x : Meaning). IsSymbolOf s n x) (sym (same_Some _ _ same)) meant
