-- Symbols and macros that stand alone.
use Rattle.std.proofs.Common.{◌≡◌, ℕ, ◌<◌, inl, inr, List, [], ◌∷◌, length, Option, Some, None, Ok, option_map, true, ap, subst, refl, sym, ◌∙◌, arith}
use Rattle.std.proofs.lemmas.Option.{same_Some, slice_get_within}
use Rattle.pair_pool.specs.Trees.{leaf}
use Rattle.pair_pool.specs.Views.{PassView, Knows}
use Rattle.sort_check.specs.Applications.{applied_sort}
use Rattle.sym_table.specs.Table.{Table, LeafMeets}
use Rattle.term_model.specs.declared.symbols.Sort.{Sort}
use Rattle.term_model.specs.declared.symbols.Op.{Op}
use Rattle.term_model.specs.Sorts.{application_sort, operation_sort}
use Rattle.term_model.specs.Terms.{Var, Term, operation, call, no_terms}
use Rattle.term_pool.specs.StandsFor.{StandsFor}
use Rattle.term_pool.specs.Views.{TermsView}
use Rattle.term_names.specs.Heads.{IsSymbolOf, IsMacroMeant}
use Rattle.term_model.specs.Heights.{height}
use Rattle.term_names.specs.Making.{IsMade}
use Rattle.problem_text.specs.Names.{Meaning, macro, meaning_applied}
use Rattle.rule_model.specs.Replacement.{HasNoLet}
use Rattle.problem_text.specs.Scripts.{Macro}
use Rattle.term_names.specs.Standing.{IsMacroOf, AreLeavesOf}
use Rattle.term_names.specs.declared.entries.Macro as held
use Rattle.rule_model.proofs.Replacing.{replaced-none}
use Rattle.term_expansion.specs.SymbolsAndTerms.{both}

-- the leaf of a symbol is that of a term, which the symbol is by itself
record IsAlone (s : Table) (k : ℕ) (m : Meaning) (o : Option Sort) : Type 0 where
  term : Term
  stands : StandsFor s (leaf k) term
  high : height term ≡ 1
  plain : HasNoLet term
  made : meaning_applied m [] ≡ option_map (λ u. record { tree = term; sort = u }) o

-- without arguments nothing is divided
alone_sort : (op : Op) → operation_sort op no_terms [] ≡ application_sort op []
alone_sort Op.Div = refl
alone_sort Op.Mod = refl
alone_sort _ = refl

alone : (s : Table) (k : ℕ) (m : Meaning) (o : Option Sort) → IsSymbolOf s k m → LeafMeets s k (λ l. o ≡ applied_sort l []) → IsAlone s k m o
unfolding meaning_applied height
alone s k m o (inl (f, here, is)) judged =
    let sorted = rw here at judged in
    subst (λ (n : Meaning). IsAlone s k n o) (sym is)
    (record { term = call f no_terms; stands = here; high = refl; plain = tt; made = ap (option_map (λ u. record { tree = call f no_terms; sort = u })) (sym sorted) })
alone s k m o (inr (op, here, is)) judged =
    let sorted = rw here at judged in
    subst (λ (n : Meaning). IsAlone s k n o) (sym is)
    (record {
      term = operation op no_terms;
      stands = here;
      high = refl;
      plain = tt;
      made = ap (option_map (λ u. record { tree = operation op no_terms; sort = u })) (alone_sort op ∙ sym sorted);
    })

pub symbol_made : (s : Table) (v : TermsView) (k r : ℕ) (m : Meaning) (sort : Sort) → ((pass : PassView) → Knows pass r (leaf k)) → IsSymbolOf s k m → LeafMeets s k (λ l. Some sort ≡ applied_sort l []) → IsMade (both s v) (meaning_applied m []) (Ok (Some (record { term = r; sort = sort; height = 1; plain = true })))
symbol_made s v k r m sort known is judged =
    let a = alone s k m (Some sort) is judged in (
      record { tree = a.term; sort = sort },
      a.made,
      record { refers = record { tree = leaf k; known = known v.pass; stands = a.stands }; sort = refl; high = sym a.high; plain = λ e. a.plain },
    )

pub symbol_takes : (s : Table) (k : ℕ) (m : Meaning) → IsSymbolOf s k m → LeafMeets s k (λ l. None ≡ applied_sort l []) → meaning_applied m [] ≡ None
symbol_takes s k m is judged = (alone s k m None is judged).made

pub symbol_within : (s : Table) (k : ℕ) (m : Meaning) → IsSymbolOf s k m → k < length s.leaves
symbol_within s k m (inl (f, here, is)) = slice_get_within s.leaves k _ here
symbol_within s k m (inr (op, here, is)) = slice_get_within s.leaves k _ here

-- a macro without parameters is its body
no_parameters : (s : Table) (ks : List ℕ) (xs : List Var) → AreLeavesOf s ks xs → length ks ≡ 0 → xs ≡ []
no_parameters s [] [] h e = refl
no_parameters s [] (x ∷ xs) h e = absurd h
no_parameters s (k ∷ ks) xs h e = absurd (omega arith)

body_alone : (d : Macro) → d.parameters ≡ [] → HasNoLet d.body → meaning_applied (macro d) [] ≡ Some (record { tree = d.body; sort = d.target })
unfolding meaning_applied
body_alone d e plain = rw e (ap (λ t. Some (record { tree = t; sort = d.target })) (replaced-none d.body plain))

takes_some : (d : Macro) (s : Table) (ks : List ℕ) (xs : List Var) → d.parameters ≡ xs → AreLeavesOf s ks xs → 0 < length ks → meaning_applied (macro d) [] ≡ None
unfolding meaning_applied
takes_some d s [] xs e h below = absurd (omega arith)
takes_some d s (k ∷ ks) [] e h below = absurd h
takes_some d s (k ∷ ks) (x ∷ xs) e h below = rw e refl

pub macro_made : (s : Table) (v : TermsView) (h : held.Macro) (m : Meaning) → length h.parameters.items ≡ 0 → IsMacroMeant (both s v) (Some h) m → IsMade (both s v) (meaning_applied m []) (Ok (Some h.body))
macro_made s v h m none (g, d, same, is, meant) = rw (meant, same_Some _ _ same) (made is)
  where
    made : IsMacroOf (both s v) g d → IsMade (both s v) (meaning_applied (macro d) []) (Ok (Some g.body))
    made is = (
      record { tree = d.body; sort = d.target },
      body_alone d (no_parameters s g.parameters.items d.parameters is.parameters (ap (λ (x : held.Macro). length x.parameters.items) (sym (same_Some _ _ same)) ∙ none)) (is.body.plain is.plain),
      is.body,
    )

pub macro_takes : (s : Table) (v : TermsView) (h : held.Macro) (m : Meaning) → 0 < length h.parameters.items → IsMacroMeant (both s v) (Some h) m → meaning_applied m [] ≡ None
macro_takes s v h m some (g, d, same, is, meant) =
    let some2 : 0 < length g.parameters.items = subst (λ (x : held.Macro). 0 < length x.parameters.items) (same_Some _ _ same) some in
    ap (λ (n : Meaning). meaning_applied n []) meant ∙ takes_some d s g.parameters.items d.parameters refl is.parameters some2
