-- Cited by crates above. Terms that are printed whole are read back.
use Rattle.std.proofs.Common.{◌≡◌, ℕ, ◌+◌, length, Some, None, List, [], ◌∷◌, refl, sym, ap, ◌∙◌, subst}
use Rattle.sexpr.specs.Items.{Item, list, Items, no_items, item, place_of}
use Rattle.sexpr.specs.Printed.{symbol_item, placed, placed_all, printed}
use Rattle.term_model.specs.declared.symbols.Sort.{Sort}
use Rattle.term_model.specs.Terms.{Term, numeral, variable, operation, call, let_in, Terms, no_terms, term, Bindings, no_bindings, binding}
use Rattle.term_model.specs.Sorts.{AreBound, IsOf, AreOf}
use Rattle.sym_table.specs.Words.{operator_symbol}
use Rattle.text_items.specs.ItemShapes.{Name, pairs_fault}
use Rattle.problem_text.specs.Alike.{SayTheSame}
use Rattle.problem_text.specs.Forms.{bindings_fault, Form, number, symbol, application, let_form, Forms, no_forms, LetBinds}
use Rattle.problem_text.specs.Forms.{form_of, forms_of, binds_of, binds_in}
use Rattle.problem_text.specs.TypedTerms.{Typed}
use Rattle.problem_text.specs.Outcomes.{done}
use Rattle.problem_text.specs.Scripts.{Script, with_let_name, with_term}
use Rattle.problem_text.specs.Names.{place_inside, Place, Meaning, function, operator, meaning_of, meaning_applied, trees, sorts_of}
use Rattle.problem_text.specs.Terms.{term_from, terms_from, bounds_from}
use Rattle.problem_text.specs.PrintedTerms.{applied_item, term_item, term_items, pair_items, bounds_in, BindsSome, MayLead}
use Rattle.problem_text.specs.PrintedTerms.{IsPrintable, ArePrintable, AreBoundPrintable, IsReadAs}
use Rattle.problem_text.proofs.PrintedForms.{here, symbol_formed, application_formed, numeral_formed, let_formed, pair_formed, pair_well}
use Rattle.problem_text.proofs.PrintedSteps.{number_read, symbol_read, application_read, both_read, let_read, bound_read}
use Rattle.problem_text.proofs.PrintedSteps.{variable_applied, operation_applied, call_applied}

pub same_meaning : (p : Place) (s u : Script) (name : List ℕ) → SayTheSame s u → meaning_of p s name ≡ meaning_of p u name
unfolding meaning_of
same_meaning p s u name same = ap (λ x. meaning_of p x name) same

-- What is printable stays so where names say the same.
mutual
  pub printable_then : (t : Term) (p : Place) (s u : Script) → SayTheSame s u → IsPrintable p s t → IsPrintable p u t
  printable_then (numeral n) p s u same k = k
  printable_then (variable x) p s u same k = (k.0, sym (same_meaning p s u x.name same) ∙ k.1)
  printable_then (operation op ts) p s u same k =
      (k.0, sym (same_meaning p s u (operator_symbol op) same) ∙ k.1, all_printable_then ts p s u same k.2)
  printable_then (call f ts) p s u same k = (k.0, sym (same_meaning p s u f.name same) ∙ k.1, all_printable_then ts p s u same k.2)
  printable_then (let_in bs t) p s u same k =
      (k.0, k.1, bound_printable_then bs [] p s u same k.2, printable_then t (place_inside (bounds_in bs) p) s u same k.3)

  all_printable_then : (ts : Terms) (p : Place) (s u : Script) → SayTheSame s u → ArePrintable p s ts → ArePrintable p u ts
  all_printable_then no_terms p s u same k = tt
  all_printable_then (term t ts) p s u same k = (printable_then t p s u same k.0, all_printable_then ts p s u same k.1)

  bound_printable_then : (bs : Bindings) (earlier : List (List ℕ)) (p : Place) (s u : Script) → SayTheSame s u
      → AreBoundPrintable p s earlier bs → AreBoundPrintable p u earlier bs
  bound_printable_then no_bindings earlier p s u same k = tt
  bound_printable_then (binding x t bs) earlier p s u same k =
      (k.0, k.1, printable_then t p s u same k.2, bound_printable_then bs (x.name ∷ earlier) p s u same k.3)

-- The form is read to this term, and gives no name.
pub record FormReadsTo (p : Place) (s : Script) (f : Form) (t : Typed) : Type 0 where
  pub after : Script
  pub read : term_from f p s ≡ done t after
  pub same : SayTheSame s after

record AreReadTo (p : Place) (s : Script) (fs : Forms) (ts : Terms) (sorts : List Sort) : Type 0 where
  values : List Typed
  after : Script
  read : terms_from fs p s ≡ done values after
  same : SayTheSame s after
  are : trees values ≡ ts
  of : sorts_of values ≡ sorts

record AreBoundTo (p : Place) (s : Script) (earlier : List (List ℕ)) (binds : LetBinds) (bs : Bindings) : Type 0 where
  after : Script
  read : bounds_from binds earlier p s ≡ done (bounds_in bs) after
  same : SayTheSame s after

pairs_well : (at : ℕ) (before : List ℕ) (bs : Bindings) (earlier : List (List ℕ)) (p : Place) (s : Script) → AreBoundPrintable p s earlier bs
    → pairs_fault (placed_all at before (pair_items bs)) ≡ None
pairs_well at before no_bindings earlier p s k = refl
pairs_well at before (binding x t bs) earlier p s k =
    let a : ℕ = at + length before in
    let b : ℕ = a + 1 + 0 in
    let c : ℕ = b + length (printed (symbol_item x.name)) + 1 in
    let pair : Item = list 0 (item (symbol_item x.name) (item (term_item t) no_items)) in
    let next : ℕ = a + length (printed pair) in
    pair_well a (placed b (symbol_item x.name)) (placed c (term_item t)) (placed_all next (32 ∷ []) (pair_items bs)) x.name (k.0.named b)
    (pairs_well next (32 ∷ []) bs (x.name ∷ earlier) p s k.3)

some_well : (at : ℕ) (bs : Bindings) (p : Place) (s : Script) → BindsSome bs → AreBoundPrintable p s [] bs
    → bindings_fault (placed at (list 0 (pair_items bs))) ≡ None
some_well at no_bindings p s some k = absurd some
some_well at (binding x t bs) p s some k = pairs_well (at + 1) [] (binding x t bs) [] p s k

formed : (p : Place) (s : Script) (f g : Form) (t : Typed) → g ≡ f → FormReadsTo p s f t → FormReadsTo p s g t
formed p s f g t e is = subst (λ h. FormReadsTo p s h t) (sym e) is

-- a head with its arguments, or alone
applied : (at : ℕ) (p : Place) (s : Script) (name : List ℕ) (m : Meaning) (ts : Terms) (sorts : List Sort) (t : Typed)
    → p.settings.limit ≡ None → MayLead name → meaning_of p s name ≡ Some m
    → ((k : ℕ) (before : List ℕ) → AreReadTo p s (forms_of (placed_all k before (term_items ts))) ts sorts)
    → ((values : List Typed) → trees values ≡ ts → sorts_of values ≡ sorts → meaning_applied m values ≡ Some t)
    → FormReadsTo p s (form_of (placed at (applied_item name (term_items ts)))) t
unfolding terms_from forms_of
applied at p s name m no_terms sorts t free head means args is =
    formed p s (symbol (here at name)) _ t (symbol_formed at name head.usable)
    (record { after = with_term t.tree s; read = symbol_read p free at name m t s means (is_alone (args 0 [])); same = refl })
  where
    none : (values : List Typed) → trees values ≡ no_terms → values ≡ []
    none [] e = refl
    none (v ∷ vs) e = absurd (cc)

    is_alone : AreReadTo p s no_forms no_terms sorts → meaning_applied m [] ≡ Some t
    is_alone a = let e = none a.values a.are in ap (meaning_applied m) (sym e) ∙ is a.values a.are a.of
applied at p s name m (term a ts) sorts t free head means args is =
    let k : ℕ = at + 1 + 0 in
    let next : ℕ = k + length (printed (symbol_item name)) in
    let head_item = placed k (symbol_item name) in
    let head_name : Name = record { place = place_of head_item; name = name } in
    let rest : Items = placed_all (next + 1 + length (printed (term_item a))) (32 ∷ []) (term_items ts) in
    let forms = forms_of (placed_all next (32 ∷ []) (term_items (term a ts))) in
    let g = args next (32 ∷ []) in
    formed p s (application at head_name forms) _ t
    (application_formed at head_item (placed (next + 1) (term_item a)) rest name (head.symbol.named k) head)
    (record {
      after = with_term t.tree g.after;
      read = application_read p free at head_name forms m g.values t s g.after means g.read (is g.values g.are g.of);
      same = g.same;
    })

mutual
  unfolding terms_from bounds_from forms_of

  pub form_read : (at : ℕ) (t : Term) (sort : Sort) (p : Place) (s : Script) → p.settings.limit ≡ None → IsOf t sort → IsPrintable p s t
      → FormReadsTo p s (form_of (placed at (term_item t))) (record { tree = t; sort = sort })
  form_read at (numeral n) sort p s free of k =
      formed p s (number at n) _ _ (numeral_formed at n k)
      (record {
        after = with_term (numeral n) s;
        read = number_read p free n at s ∙ ap (λ o. done (record { tree = numeral n; sort = o }) (with_term (numeral n) s)) (sym of);
        same = refl;
      })
  form_read at (variable x) sort p s free of k =
      formed p s (symbol (here at x.name)) _ _ (symbol_formed at x.name k.0.0)
      (record {
        after = with_term (variable x) s;
        read = symbol_read p free at x.name _ (record { tree = variable x; sort = sort }) s k.1 (let e = of in variable_applied x sort e);
        same = refl;
      })
  form_read at (operation op ts) sort p s free of k =
      applied at p s (operator_symbol op) (operator op) ts of.sorts _ free k.0 k.1
      (λ j before. forms_read j before ts of.sorts p s free of.arguments k.2)
      (λ values are sorts. operation_applied op ts sort of.sorts values are sorts of.is)
  form_read at (call f ts) sort p s free of k =
      applied at p s f.name (function f) ts of.sorts _ free k.0 k.1
      (λ j before. forms_read j before ts of.sorts p s free of.arguments k.2)
      (λ values are sorts. call_applied f ts sort of.sorts values are sorts of.is)
  form_read at (let_in bs t) sort p s free of k =
      let b : ℕ = at + 1 + 0 in
      let c : ℕ = b + 3 + 1 in
      let d : ℕ = c + length (printed (list 0 (pair_items bs))) + 1 in
      let pairs : Item = placed c (list 0 (pair_items bs)) in
      let body : Item = placed d (term_item t) in
      let f = bounds_read (c + 1) [] bs [] p s free of.0 k.2 in
      let g = form_read d t sort (place_inside (bounds_in bs) p) f.after free of.1
      (printable_then t (place_inside (bounds_in bs) p) s f.after f.same k.3) in
      formed p s (let_form at (binds_of pairs) (form_of body)) _ _ (let_formed at b pairs body (some_well c bs p s k.1 k.2))
      (record {
        after = with_term (let_in bs t) g.after;
        read = let_read at bs (binds_of pairs) (form_of body) t sort p s f.after g.after free k.0 f.read g.read;
        same = f.same ∙ g.same;
      })

  forms_read : (at : ℕ) (before : List ℕ) (ts : Terms) (sorts : List Sort) (p : Place) (s : Script) → p.settings.limit ≡ None
      → AreOf ts sorts → ArePrintable p s ts → AreReadTo p s (forms_of (placed_all at before (term_items ts))) ts sorts
  forms_read at before no_terms [] p s free of k =
      record { values = []; after = s; read = refl; same = refl; are = refl; of = refl }
  forms_read at before no_terms (o ∷ sorts) p s free of k = absurd of
  forms_read at before (term t ts) [] p s free of k = absurd of
  forms_read at before (term t ts) (o ∷ sorts) p s free of k =
      let next : ℕ = at + length before + length (printed (term_item t)) in
      let first : Form = form_of (placed (at + length before) (term_item t)) in
      let others : Forms = forms_of (placed_all next (32 ∷ []) (term_items ts)) in
      let f = form_read (at + length before) t o p s free of.0 k.0 in
      let g = forms_read next (32 ∷ []) ts sorts p f.after free of.1 (all_printable_then ts p s f.after f.same k.1) in
      record {
        values = record { tree = t; sort = o } ∷ g.values;
        after = g.after;
        read = both_read p free first others _ g.values s f.after g.after f.read g.read;
        same = f.same ∙ g.same;
        are = ap (term t) g.are;
        of = ap (λ l. o ∷ l) g.of;
      }

  bounds_read : (at : ℕ) (before : List ℕ) (bs : Bindings) (earlier : List (List ℕ)) (p : Place) (s : Script) → p.settings.limit ≡ None
      → AreBound bs → AreBoundPrintable p s earlier bs → AreBoundTo p s earlier (binds_in (placed_all at before (pair_items bs))) bs
  bounds_read at before no_bindings earlier p s free of k = record { after = s; read = refl; same = refl }
  bounds_read at before (binding x t bs) earlier p s free of k =
      let a : ℕ = at + length before in
      let b : ℕ = a + 1 + 0 in
      let c : ℕ = b + length (printed (symbol_item x.name)) + 1 in
      let pair : Item = list 0 (item (symbol_item x.name) (item (term_item t) no_items)) in
      let next : ℕ = a + length (printed pair) in
      let n : Name = record { place = place_of (placed b (symbol_item x.name)); name = x.name } in
      let rest : Items = placed_all next (32 ∷ []) (pair_items bs) in
      let named : Script = with_let_name x.name s in
      let f = form_read c t x.sort p named free of.0 (printable_then t p s named refl k.2) in
      let known = bound_printable_then bs (x.name ∷ earlier) p s f.after f.same k.3 in
      let g = bounds_read next (32 ∷ []) bs (x.name ∷ earlier) p f.after free of.1 known in
      record {
        after = g.after;
        read =
            ap (λ l. bounds_from l earlier p s) (pair_formed a (placed b (symbol_item x.name)) (placed c (term_item t)) rest x.name (k.0.named b))
            ∙ bound_read n (form_of (placed c (term_item t))) (binds_in rest) earlier x t bs p s f.after g.after refl k.1 f.read g.read;
        same = f.same ∙ g.same;
      }

-- a term printed whole
pub term_read : (t : Term) (sort : Sort) (p : Place) (s : Script) (at : ℕ) → p.settings.limit ≡ None → IsOf t sort → IsPrintable p s t
    → IsReadAs p s (placed at (term_item t)) (record { tree = t; sort = sort })
term_read t sort p s at free of k =
    let f = form_read at t sort p s free of k in record { after = f.after; read = f.read; same = f.same }
