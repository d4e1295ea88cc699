-- Parameters by their pairs.
use Rattle.std.proofs.Common.{◌≡◌, ℕ, ◌∙◌, Bool, true, false, not, ◌||◌, List, [], ◌∷◌, ◌++◌, None, Result, Ok, Err, fold, refl, sym, ap}
use Rattle.std.specs.Borrow.{Bor}
use Rattle.std.specs.Prelude.{bytes_eq, ◌↔◌, IsTrue, Contains, if◌then◌else◌}
use Rattle.std.specs.Cmp.Lexicographic.{nat_list_eq_equiv}
use Rattle.std.proofs.lemmas.Bool.Decides.{same_from_decides}
use Rattle.std.proofs.lemmas.List.Sums.{fold-append}
use Rattle.std.proofs.lemmas.Map.Views.{Contains-from_any, list_any-from_Contains}
use Rattle.std.proofs.lemmas.Slice.Eq.{bytes_eq-Decides}
use Rattle.sexpr.specs.declared.causes.Cause.TheVariants.{Repeated}
use Rattle.sexpr.specs.declared.causes.Refusal.{Refusal}
use Rattle.sexpr.specs.Items.{Item, word, quoted, string, list, Items, no_items, item, place_of}
use Rattle.term_model.specs.declared.symbols.Sort.{Sort}
use Rattle.term_model.specs.Terms.{Var}
use Rattle.term_model.proofs.Basics.{or_none}
use Rattle.sym_table.specs.Words.{built_in_words}
use Rattle.term_names.specs.declared.faults.ReadFault.{ReadFault}
use Rattle.smtlib_reader.specs.declared.parameters.Parameter.{Parameter}
use Rattle.problem_text.specs.Words.{is_among, is_built_in}
use Rattle.text_items.specs.ItemShapes.{name_at, excess, symbol_fault, pair_fault, pairs_fault, items_of}
use Rattle.text_items.specs.ItemsAt.{ItemsView}
use Rattle.problem_text.specs.Commands.{refused}
use Rattle.problem_text.specs.Sorts.{result_then, sort_from, parameter_from}
use Rattle.smtlib_reader.specs.Parameters.{parameter_said, IsParameterRead, AreParametersRead}

-- the names of parameters, the last one first
abbrev pub names_before : ItemsView → List Parameter → List (List ℕ)
names_before items ps = fold (λ names p. (parameter_said items p).name ∷ names) [] ps

pub one_name_more : (items : ItemsView) (ps : List Parameter) (p : Parameter) → names_before items (ps ++ p ∷ []) ≡ (parameter_said items p).name ∷ names_before items ps
one_name_more items ps p = fold-append (λ names q. (parameter_said items q).name ∷ names) [] ps (p ∷ [])

-- pairs without a fault: the first of them, and the others
pub pairs_fit : (pair : Item) (others all : Items) → all ≡ item pair others → pairs_fault all ≡ None → (pair_fault pair ≡ None) × (pairs_fault others ≡ None)
pairs_fit pair others all split e = or_none (pair_fault pair) (pairs_fault others) (sym (ap pairs_fault split) ∙ e)

-- a pair without a fault is a list of a symbol and another item
pub pair_fits : (i x t : Item) (rest : Items) → pair_fault i ≡ None → items_of i ≡ item x (item t rest) → (symbol_fault x ≡ None) × (i ≡ list (place_of i) (item x (item t rest)))
pair_fits (word p s) x t rest e split = cc
pair_fits (quoted p s) x t rest e split = cc
pair_fits (string p s) x t rest e split = cc
pair_fits (list p no_items) x t rest e split = cc
pair_fits (list p (item y no_items)) x t rest e split = cc
pair_fits (list p (item y (item u others))) x t rest e split =
    let same : y ≡ x = cc in (ap symbol_fault (sym same) ∙ (or_none (symbol_fault y) (excess others) e).0, ap (list p) split)

-- a test for membership is the one for built-in words
pub built_in : (r : Bool) (name : List ℕ) → IsTrue r ↔ Contains built_in_words name → r ≡ is_built_in name
built_in r name is = same_from_decides r (is_built_in name) is (
  λ e. Contains-from_any {eq = bytes_eq} (λ x y. (bytes_eq-Decides x y).0) name built_in_words e,
  λ c. list_any-from_Contains {eq = bytes_eq} nat_list_eq_equiv name built_in_words c,
)

-- the reading of a parameter by its pair
pub parameter_of : (sorts names : List (List ℕ)) (i : Item) (place : ℕ) (x t : Item) (rest : Items) → i ≡ list place (item x (item t rest))
    → parameter_from sorts names i ≡ (if is_built_in (name_at x).name || is_among names (name_at x).name then refused Repeated (place_of x)
    else result_then (sort_from sorts t) (λ s. Ok (record { name = (name_at x).name; sort = s })))
parameter_of sorts names i place x t rest e = ap (parameter_from sorts names) e

free_so : (b : Bool) → true ≡ not b → b ≡ false
free_so true e = cc
free_so false e = refl

pub is_free : (sorts names : List (List ℕ)) (i : Item) (place : ℕ) (x t : Item) (rest : Items) → i ≡ list place (item x (item t rest))
    → (name : List ℕ) → name ≡ (name_at x).name → (free : Bool) → free ≡ true → free ≡ not (is_built_in name || is_among names name)
    → (r : Result Sort Refusal) → r ≡ sort_from sorts t → parameter_from sorts names i ≡ result_then r (λ s. Ok (record { name = name; sort = s }))
is_free sorts names i place x t rest e name named free granted test r is =
    let b : (is_built_in (name_at x).name || is_among names (name_at x).name) ≡ false =
    ap (λ n. is_built_in n || is_among names n) (sym named) ∙ free_so _ (sym granted ∙ test) in
    parameter_of sorts names i place x t rest e
    ∙ ap (λ b. if b then refused Repeated (place_of x) else result_then (sort_from sorts t) (λ s. Ok (record { name = (name_at x).name; sort = s }))) b
    ∙ ap (λ q. result_then q (λ s. Ok (record { name = (name_at x).name; sort = s }))) (sym is)
    ∙ ap (λ n. result_then r (λ s. Ok (record { name = n; sort = s }))) (sym named)

-- a built-in word is not free, and any other name is where it is not among the names
pub built_so : (b a : Bool) → true ≡ b → false ≡ not (b || a)
built_so true a e = refl
built_so false a e = cc

pub new_so : (b l a r : Bool) → false ≡ b → l ≡ a → r ≡ not l → r ≡ not (b || a)
new_so true l a r e f g = cc
new_so false l a r e f g = g ∙ ap not f

-- a parameter that has a fault ends the reading
pub read_fails : (items : ItemsView) (names : List (List ℕ)) (keys : List (Bor (List ℕ))) (end : ℕ) (ps : List Parameter) (fault : ReadFault) (one : Result Var Refusal) (whole : Result (List Var) Refusal)
    → IsParameterRead items names keys (Err fault) one → ((r : Refusal) → one ≡ Err r → whole ≡ Err r) → AreParametersRead items end (Err fault) ps whole
read_fails items names keys end ps (ReadFault.Text r) one whole is fails = fails r is
read_fails items names keys end ps ReadFault.PoolFull one whole is fails = is
read_fails items names keys end ps ReadFault.Memory one whole is fails = tt
