-- Cited by crates above. What a new name of a term leaves as it is, and how the name is read from then on.
use Rattle.std.proofs.Common.{◌≡◌, ℕ, ◌+◌, true, false, Option, Some, None, List, [], ◌∷◌, ◌++◌, bytes_eq, find, refl, ap, ◌∙◌}
use Rattle.std.specs.Option.{option_or}
use Rattle.std.specs.List.{list_all}
use Rattle.std.proofs.lemmas.List.Folds.{find-append}
use Rattle.sexpr.specs.Items.{Item}
use Rattle.sexpr.specs.Printed.{symbol_item, IsSymbolItem, placed}
use Rattle.term_model.specs.Terms.{Term, numeral, variable, operation, call, let_in, Terms, no_terms, term, Bindings, no_bindings, binding}
use Rattle.sym_table.specs.Words.{operator_symbol}
use Rattle.rule_model.specs.Replacement.{free_variables}
use Rattle.problem_text.specs.TypedTerms.{Typed}
use Rattle.problem_text.specs.Outcomes.{done}
use Rattle.problem_text.specs.Scripts.{Named, Script, is_taken, with_named, with_term}
use Rattle.problem_text.specs.Names.{place_inside, Place, is_bound, innermost, value, meaning_of}
use Rattle.problem_text.specs.Terms.{term_from, read_term}
use Rattle.problem_text.specs.PrintedTerms.{named_item, bounds_in, IsUsable, MeansTerm}
use Rattle.problem_text.specs.PrintedTerms.{IsPrintable, ArePrintable, AreBoundPrintable, HasNotName, HaveNotName, AreBoundWithoutName}
use Rattle.problem_text.proofs.PrintedForms.{symbol_formed, named_formed}
use Rattle.problem_text.proofs.PrintedSteps.{symbol_read, named_read, name_means, value_applied}

one_more : (n : Named) (name : List ℕ) → bytes_eq n.name name ≡ false → find (λ m. bytes_eq m.name name) (n ∷ []) ≡ None
one_more n name apart = rw apart refl

or_none : {X : Type 0} (o : Option X) → option_or o None ≡ o
or_none None = refl
or_none (Some x) = refl

-- A name other than the new one means what it meant.
pub meaning_kept : (p : Place) (s : Script) (n : Named) (name : List ℕ) → bytes_eq n.name name ≡ false
    → meaning_of p (with_named n s) name ≡ meaning_of p s name
unfolding meaning_of
meaning_kept p s n name apart =
    let old : Option Named = find (λ m. bytes_eq m.name name) s.named in
    let e : find (λ m. bytes_eq m.name name) (s.named ++ n ∷ []) ≡ old =
    find-append (λ m. bytes_eq m.name name) s.named (n ∷ []) ∙ ap (option_or old) (one_more n name apart) ∙ or_none _ in
    rw e refl

-- What is printable stays so behind a new name that stands nowhere in the term.
mutual
  pub printable_behind : (t : Term) (p : Place) (s : Script) (n : Named) → HasNotName n.name t → IsPrintable p s t
      → IsPrintable p (with_named n s) t
  printable_behind (numeral m) p s n apart k = k
  printable_behind (variable x) p s n apart k = (k.0, meaning_kept p s n x.name apart ∙ k.1)
  printable_behind (operation op ts) p s n apart k =
      (k.0, meaning_kept p s n (operator_symbol op) apart.0 ∙ k.1, all_printable_behind ts p s n apart.1 k.2)
  printable_behind (call f ts) p s n apart k =
      (k.0, meaning_kept p s n f.name apart.0 ∙ k.1, all_printable_behind ts p s n apart.1 k.2)
  printable_behind (let_in bs t) p s n apart k =
      (k.0, k.1, bound_printable_behind bs [] p s n apart.0 k.2, printable_behind t (place_inside (bounds_in bs) p) s n apart.1 k.3)

  all_printable_behind : (ts : Terms) (p : Place) (s : Script) (n : Named) → HaveNotName n.name ts → ArePrintable p s ts
      → ArePrintable p (with_named n s) ts
  all_printable_behind no_terms p s n apart k = tt
  all_printable_behind (term t ts) p s n apart k = (printable_behind t p s n apart.0 k.0, all_printable_behind ts p s n apart.1 k.1)

  bound_printable_behind : (bs : Bindings) (earlier : List (List ℕ)) (p : Place) (s : Script) (n : Named) → AreBoundWithoutName n.name bs
      → AreBoundPrintable p s earlier bs → AreBoundPrintable p (with_named n s) earlier bs
  bound_printable_behind no_bindings earlier p s n apart k = tt
  bound_printable_behind (binding x t bs) earlier p s n apart k =
      (k.0, k.1, printable_behind t p s n apart.0 k.2, bound_printable_behind bs (x.name ∷ earlier) p s n apart.1 k.3)

-- names given before mean what they meant
pub means_kept : (s : Script) (name : List ℕ) (t : Typed) (n : Named) → MeansTerm s name t → MeansTerm (with_named n s) name t
means_kept s name t n m = record {
  named = m.named;
  found =
      find-append (λ m. bytes_eq m.name name) s.named (n ∷ [])
      ∙ ap (λ o. option_or o (find (λ m. bytes_eq m.name name) (n ∷ []))) m.found;
  is = m.is;
  closed = m.closed;
}

-- A term that is given a name: it is read as before, and the name is known.
pub naming_read : (i : Item) (name : List ℕ) (t : Typed) (p : Place) (s after : Script) (at : ℕ) → p.settings.limit ≡ None
    → IsSymbolItem name → ((k : ℕ) → read_term (placed k i) p s ≡ done t after) → is_taken after name ≡ false
    → read_term (placed at (named_item i name)) p s ≡ done t (with_named (record { name = name; meant = t }) after)
naming_read i name t p s after at free is read apart =
    let f = named_formed at i name is in
    ap (λ f. term_from f p s) f.1 ∙ named_read p free at f.0 _ name t s after (read (at + 1 + 0 + 1 + 1)) apart

-- the name alone
pub name_read : (name : List ℕ) (t : Typed) (p : Place) (s : Script) (at : ℕ) → p.settings.limit ≡ None
    → p.settings.replaces_lets ≡ false → IsUsable name → innermost p.scope name ≡ None → MeansTerm s name t
    → read_term (placed at (symbol_item name)) p s ≡ done t (with_term t.tree s)
name_read name t p s at free kept usable none m =
    let bound : list_all (is_bound p.scope) (free_variables m.named.meant.tree) ≡ true =
    ap (λ u. list_all (is_bound p.scope) (free_variables u.tree)) m.is ∙ ap (list_all (is_bound p.scope)) m.closed in
    let means : meaning_of p s name ≡ Some (value t) = name_means p s name m.named kept none m.found bound ∙ ap (λ u. Some (value u)) m.is in
    ap (λ f. term_from f p s) (symbol_formed at name usable) ∙ symbol_read p free at name (value t) t s means (value_applied t)
