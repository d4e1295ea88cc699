-- Lists that are read item by item: what was read stands before what the others come to.
use Rattle.std.proofs.Common.{◌≡◌, ℕ, List, [], ◌∷◌, ◌++◌, Result, Ok, Err, refl, sym, ap, ◌∙◌, append_assoc, append-nil}
use Rattle.std.proofs.lemmas.List.{map-append}
use Rattle.sexpr.specs.declared.causes.Refusal.{Refusal}
use Rattle.sexpr.specs.Items.{Item, Items, item}
use Rattle.term_model.specs.declared.symbols.Sort.{Sort}
use Rattle.term_model.specs.Terms.{Var}
use Rattle.text_items.proofs.ItemsAtLemmas.{items_are, no_items_are}
use Rattle.text_items.specs.ItemsAt.{ItemsView}
use Rattle.smtlib_reader.specs.declared.parameters.Parameter.{Parameter}
use Rattle.smtlib_reader.specs.Parameters.{parameter_said, parameters_said}
use Rattle.smtlib_reader.proofs.ParameterLists.{names_before, one_name_more, pairs_fit, read_fails}
use Rattle.problem_text.specs.Sorts.{result_then, sort_from, sorts_from, parameter_from, parameters_from}

abbrev pub behind_read : {A : Type 0} → List A → Result (List A) Refusal → Result (List A) Refusal
behind_read front (Ok back) = Ok (front ++ back)
behind_read front (Err refusal) = Err refusal

pub none_read : {A : Type 0} (r : Result (List A) Refusal) → behind_read [] r ≡ r
none_read (Ok back) = refl
none_read (Err refusal) = refl

one_more : {A : Type 0} (front : List A) (x : A) (r : Result (List A) Refusal) → behind_read front (result_then r (λ xs. Ok (x ∷ xs))) ≡ behind_read (front ++ x ∷ []) r
one_more front x (Ok back) = ap Ok (sym (append_assoc front (x ∷ []) back))
one_more front x (Err refusal) = refl

module _ (sorts : List (List ℕ)) (read : List Sort) where
  pub one_sort : (i : Item) (rest : Items) (s : Sort) → sort_from sorts i ≡ Ok s → behind_read read (sorts_from sorts (item i rest)) ≡ behind_read (read ++ s ∷ []) (sorts_from sorts rest)
  one_sort i rest s e = ap (λ r. behind_read read (result_then r (λ s. result_then (sorts_from sorts rest) (λ ss. Ok (s ∷ ss))))) e ∙ one_more read s (sorts_from sorts rest)

  pub sort_fault : (i : Item) (rest : Items) (refusal : Refusal) → sort_from sorts i ≡ Err refusal → behind_read read (sorts_from sorts (item i rest)) ≡ Err refusal
  sort_fault i rest refusal e = ap (λ r. behind_read read (result_then r (λ s. result_then (sorts_from sorts rest) (λ ss. Ok (s ∷ ss))))) e

-- whether a sort is left, and what the first adds
pub ruleset sorts_read = (items_are, no_items_are, none_read, one_sort, sort_fault, append-nil)

module _ (sorts names : List (List ℕ)) (read : List Var) where
  one_parameter : (i : Item) (rest : Items) (x : Var) → parameter_from sorts names i ≡ Ok x → behind_read read (parameters_from sorts names (item i rest)) ≡ behind_read (read ++ x ∷ []) (parameters_from sorts (x.name ∷ names) rest)
  one_parameter i rest x e =
      ap (λ r. behind_read read (result_then r (λ x. result_then (parameters_from sorts (x.name ∷ names) rest) (λ xs. Ok (x ∷ xs))))) e ∙ one_more read x (parameters_from sorts (x.name ∷ names) rest)

  parameter_fault : (i : Item) (rest : Items) (refusal : Refusal) → parameter_from sorts names i ≡ Err refusal → behind_read read (parameters_from sorts names (item i rest)) ≡ Err refusal
  parameter_fault i rest refusal e = ap (λ r. behind_read read (result_then r (λ x. result_then (parameters_from sorts (x.name ∷ names) rest) (λ xs. Ok (x ∷ xs))))) e

module _ (items : ItemsView) (sorts : List (List ℕ)) (ps : List Parameter) (i : Item) (rest all : Items) (split : all ≡ item i rest) where
  pub one_read : (p : Parameter) → parameter_from sorts (names_before items ps) i ≡ Ok (parameter_said items p)
      → behind_read (parameters_said items ps) (parameters_from sorts (names_before items ps) all) ≡ behind_read (parameters_said items (ps ++ p ∷ [])) (parameters_from sorts (names_before items (ps ++ p ∷ [])) rest)
  one_read p e =
      ap (λ xs. behind_read (parameters_said items ps) (parameters_from sorts (names_before items ps) xs)) split
      ∙ one_parameter sorts (names_before items ps) (parameters_said items ps) i rest (parameter_said items p) e
      ∙ ap (λ read. behind_read read (parameters_from sorts ((parameter_said items p).name ∷ names_before items ps) rest)) (sym (map-append (parameter_said items) ps (p ∷ [])))
      ∙ ap (λ names. behind_read (parameters_said items (ps ++ p ∷ [])) (parameters_from sorts names rest)) (sym (one_name_more items ps p))

  pub one_fault : (refusal : Refusal) → parameter_from sorts (names_before items ps) i ≡ Err refusal → behind_read (parameters_said items ps) (parameters_from sorts (names_before items ps) all) ≡ Err refusal
  one_fault refusal e =
      ap (λ xs. behind_read (parameters_said items ps) (parameters_from sorts (names_before items ps) xs)) split ∙ parameter_fault sorts (names_before items ps) (parameters_said items ps) i rest refusal e

pub all_read : {A : Type 0} (read : List A) → behind_read read (Ok []) ≡ Ok read
all_read read = ap Ok (append-nil read)

-- whether a parameter is left, and what the first adds
pub ruleset parameters_read = (items_are, no_items_are, none_read, all_read, one_fault, pairs_fit, read_fails)
