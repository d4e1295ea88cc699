-- Cited by crates above. One step each of the reading of a term, without a limit of heights.
use Rattle.std.proofs.Common.{◌≡◌, ℕ, true, false, ◌||◌, Some, None, List, [], ◌∷◌, bytes_eq, find, refl, sym, ap, ◌∙◌}
use Rattle.std.specs.List.{list_all}
use Rattle.term_model.specs.declared.symbols.Sort.{Sort}
use Rattle.term_model.specs.declared.symbols.Op.{Op}
use Rattle.term_model.specs.Terms.{Var, Fun, Term, numeral, variable, operation, call, let_in, Terms, Bindings, no_bindings, binding}
use Rattle.term_model.specs.Sorts.{operation_sort, call_sort}
use Rattle.rule_model.specs.Replacement.{free_variables}
use Rattle.text_items.specs.ItemShapes.{Name}
use Rattle.problem_text.specs.Words.{is_built_in, is_among}
use Rattle.problem_text.specs.Forms.{Form, number, symbol, application, let_form, annotated, Forms, form, LetBinds, bind}
use Rattle.problem_text.specs.TypedTerms.{Typed}
use Rattle.problem_text.specs.Outcomes.{done}
use Rattle.problem_text.specs.Scripts.{Named, Script, is_taken, with_let_name, with_named, with_term}
use Rattle.problem_text.specs.Names.{Place, is_bound, innermost, Meaning, value, function, operator, meaning_of, meaning_applied}
use Rattle.problem_text.specs.Names.{place_inside, let_term, let_bindings_of, trees, sorts_of}
use Rattle.problem_text.specs.Terms.{term_from, terms_from, bounds_from}
use Rattle.problem_text.specs.PrintedTerms.{bounds_in}
use Rattle.problem_text.proofs.PrintedForms.{here}

module _ (p : Place) (free : p.settings.limit ≡ None) where
  pub number_read : (n place : ℕ) (s : Script)
      → term_from (number place n) p s ≡ done (record { tree = numeral n; sort = Sort.Int }) (with_term (numeral n) s)
  unfolding term_from
  number_read n place s = rw free refl

  pub symbol_read : (at : ℕ) (name : List ℕ) (m : Meaning) (t : Typed) (s : Script) → meaning_of p s name ≡ Some m
      → meaning_applied m [] ≡ Some t → term_from (symbol (here at name)) p s ≡ done t (with_term t.tree s)
  unfolding term_from
  symbol_read at name m t s means is = rw (means, is, free) refl

  pub application_read : (at : ℕ) (head : Name) (fs : Forms) (m : Meaning) (ts : List Typed) (t : Typed) (s after : Script)
      → meaning_of p s head.name ≡ Some m → terms_from fs p s ≡ done ts after → meaning_applied m ts ≡ Some t
      → term_from (application at head fs) p s ≡ done t (with_term t.tree after)
  unfolding term_from
  application_read at head fs m ts t s after means args is = rw (means, args, is, free) refl

  pub named_read : (at k : ℕ) (f : Form) (name : List ℕ) (t : Typed) (s after : Script) → term_from f p s ≡ done t after
      → is_taken after name ≡ false
      → term_from (annotated at f (here k name ∷ [])) p s ≡ done t (with_named (record { name = name; meant = t }) after)
  unfolding term_from
  named_read at k f name t s after read apart = rw (read, apart) refl

  pub both_read : (f : Form) (fs : Forms) (t : Typed) (ts : List Typed) (s u w : Script) → term_from f p s ≡ done t u
      → terms_from fs p u ≡ done ts w → terms_from (form f fs) p s ≡ done (t ∷ ts) w
  unfolding terms_from
  both_read f fs t ts s u w first others = rw (first, others) refl

-- A name stands for its term where no variable in scope has it and the term's variables are in scope.
pub name_means : (p : Place) (s : Script) (name : List ℕ) (n : Named) → p.settings.replaces_lets ≡ false → innermost p.scope name ≡ None
    → find (λ n. bytes_eq n.name name) s.named ≡ Some n → list_all (is_bound p.scope) (free_variables n.meant.tree) ≡ true
    → meaning_of p s name ≡ Some (value n.meant)
unfolding meaning_of
name_means p s name n kept none found bound = rw (none, found, bound, kept) refl

-- what a variable, an operator and a function mean, applied to values of these terms
pub variable_applied : (x : Var) (sort : Sort) → sort ≡ x.sort
    → meaning_applied (value (record { tree = variable x; sort = x.sort })) [] ≡ Some (record { tree = variable x; sort = sort })
unfolding meaning_applied
variable_applied x sort e = ap (λ o. Some (record { tree = variable x; sort = o })) (sym e)

pub operation_applied : (op : Op) (ts : Terms) (sort : Sort) (sorts : List Sort) (values : List Typed) → trees values ≡ ts
    → sorts_of values ≡ sorts → operation_sort op ts sorts ≡ Some sort
    → meaning_applied (operator op) values ≡ Some (record { tree = operation op ts; sort = sort })
unfolding meaning_applied
operation_applied op ts sort sorts values are of is = rw (are, of, is) refl

pub call_applied : (f : Fun) (ts : Terms) (sort : Sort) (sorts : List Sort) (values : List Typed) → trees values ≡ ts
    → sorts_of values ≡ sorts → call_sort f sorts ≡ Some sort
    → meaning_applied (function f) values ≡ Some (record { tree = call f ts; sort = sort })
unfolding meaning_applied
call_applied f ts sort sorts values are of is = rw (of, is, are) refl

pub value_applied : (t : Typed) → meaning_applied (value t) [] ≡ Some t
unfolding meaning_applied
value_applied t = refl

-- lets
bounds_are : (bs : Bindings) → let_bindings_of (bounds_in bs) ≡ bs
bounds_are no_bindings = refl
bounds_are (binding x t bs) = ap (binding x t) (bounds_are bs)

pub let_read : (at : ℕ) (bs : Bindings) (binds : LetBinds) (body : Form) (t : Term) (sort : Sort) (p : Place) (s u w : Script)
    → p.settings.limit ≡ None → p.settings.replaces_lets ≡ false → bounds_from binds [] p s ≡ done (bounds_in bs) u
    → term_from body (place_inside (bounds_in bs) p) u ≡ done (record { tree = t; sort = sort }) w
    → term_from (let_form at binds body) p s ≡ done (record { tree = let_in bs t; sort = sort }) (with_term (let_in bs t) w)
unfolding term_from bounds_from
let_read at bs binds body t sort p s u w free kept first second = settle (rw (first, second, free) refl)
  where
    whole : Typed
    whole = let_term p (bounds_in bs) (record { tree = t; sort = sort })

    settle : term_from (let_form at binds body) p s ≡ done whole (with_term whole.tree w)
        → term_from (let_form at binds body) p s ≡ done (record { tree = let_in bs t; sort = sort }) (with_term (let_in bs t) w)
    settle e =
        let f : whole ≡ record { tree = let_in (let_bindings_of (bounds_in bs)) t; sort = sort } = rw kept refl in
        e ∙ ap (λ v. done v (with_term v.tree w)) (f ∙ ap (λ b. record { tree = let_in b t; sort = sort }) (bounds_are bs))

pub bound_read : (n : Name) (f : Form) (binds : LetBinds) (earlier : List (List ℕ)) (x : Var) (t : Term) (bs : Bindings) (p : Place)
    (s u w : Script) → n.name ≡ x.name → (is_built_in x.name || is_among earlier x.name) ≡ false
    → term_from f p (with_let_name x.name s) ≡ done (record { tree = t; sort = x.sort }) u
    → bounds_from binds (x.name ∷ earlier) p u ≡ done (bounds_in bs) w
    → bounds_from (bind n f binds) earlier p s ≡ done (bounds_in (binding x t bs)) w
unfolding term_from bounds_from
bound_read n f binds earlier x t bs p s u w e apart first others =
    ap (λ name. bounds_from (bind (record { place = n.place; name = name }) f binds) earlier p s) e ∙ rw (apart, first, others) refl
