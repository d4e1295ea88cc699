-- Public. How terms are printed: whole, with a name that is given to them, or by such a name; and the terms that are read back.
use Rattle.std.specs.Prelude.{◌||◌, ◌≡◌, ℕ, ◌^◌, ◌<◌, false, List, [], ◌∷◌, codes, decimal, bytes_eq, find, Some, ⊤}
use Rattle.sexpr.specs.Items.{Item, word, list, Items, no_items, item}
use Rattle.sexpr.specs.Printed.{symbol_item, IsSymbolItem}
use Rattle.term_model.specs.Terms.{Term, numeral, variable, operation, call, let_in, Terms, no_terms, term, Bindings, no_bindings, binding}
use Rattle.sym_table.specs.Words.{operator_symbol}
use Rattle.rule_model.specs.Replacement.{free_variables}
use Rattle.problem_text.specs.Alike.{SayTheSame}
use Rattle.problem_text.specs.Names.{Bound, Place, place_inside, value, function, operator, meaning_of}
use Rattle.problem_text.specs.Outcomes.{done}
use Rattle.problem_text.specs.Scripts.{Named, Script}
use Rattle.problem_text.specs.Terms.{read_term}
use Rattle.problem_text.specs.TypedTerms.{Typed}
use Rattle.problem_text.specs.Words.{is_among, is_built_in, left_out_words}

-- a name applied to items, or alone where there are none
abbrev pub applied_item : List ℕ → Items → Item
applied_item name no_items = symbol_item name
applied_item name (item i rest) = list 0 (item (symbol_item name) (item i rest))

-- a term that is given a name here
abbrev pub named_item : Item → List ℕ → Item
named_item i name = list 0 (item (word 0 (codes "!")) (item i (item (word 0 (codes ":named")) (item (symbol_item name) no_items))))

-- a term printed whole
abbrev mutual
  pub term_item : Term → Item
  term_item (numeral n) = word 0 (decimal n)
  term_item (variable x) = symbol_item x.name
  term_item (operation op ts) = applied_item (operator_symbol op) (term_items ts)
  term_item (call f ts) = applied_item f.name (term_items ts)
  term_item (let_in bs t) = list 0 (item (word 0 (codes "let")) (item (list 0 (pair_items bs)) (item (term_item t) no_items)))

  pub term_items : Terms → Items
  term_items no_terms = no_items
  term_items (term t ts) = item (term_item t) (term_items ts)

  pub pair_items : Bindings → Items
  pair_items no_bindings = no_items
  pair_items (binding x t bs) = item (list 0 (item (symbol_item x.name) (item (term_item t) no_items))) (pair_items bs)

-- no word that stands for nothing that is read
abbrev pub IsUsable : List ℕ → Type 0
IsUsable name = is_among left_out_words name ≡ false

-- A name that may stand at the head of a list. With bars too, `let` and `!` begin a let and an annotated term there.
pub record MayLead (name : List ℕ) : Type 0 where
  pub usable : IsUsable name
  pub no_let : bytes_eq name (codes "let") ≡ false
  pub no_mark : bytes_eq name (codes "!") ≡ false
  pub symbol : IsSymbolItem name

-- the variables of a let's bindings, with their terms
abbrev pub bounds_in : Bindings → List Bound
bounds_in no_bindings = []
bounds_in (binding x t bs) = record { variable = x; stands_for = t } ∷ bounds_in bs

abbrev pub BindsSome : Bindings → Type 0
BindsSome no_bindings = ⊥
BindsSome (binding x t bs) = ⊤

-- Each name in the term means here what it means in the term, and each numeral is one that is read. Lets are kept.
abbrev mutual
  pub IsPrintable : Place → Script → Term → Type 0
  IsPrintable p s (numeral n) = n < 2 ^ 127
  IsPrintable p s (variable x) =
      (IsUsable x.name × IsSymbolItem x.name) × (meaning_of p s x.name ≡ Some (value (record { tree = variable x; sort = x.sort })))
  IsPrintable p s (operation op ts) =
      MayLead (operator_symbol op) × (meaning_of p s (operator_symbol op) ≡ Some (operator op)) × ArePrintable p s ts
  IsPrintable p s (call f ts) = MayLead f.name × (meaning_of p s f.name ≡ Some (function f)) × ArePrintable p s ts
  IsPrintable p s (let_in bs t) =
      (p.settings.replaces_lets ≡ false) × BindsSome bs × AreBoundPrintable p s [] bs × IsPrintable (place_inside (bounds_in bs) p) s t

  pub ArePrintable : Place → Script → Terms → Type 0
  ArePrintable p s no_terms = ⊤
  ArePrintable p s (term t ts) = IsPrintable p s t × ArePrintable p s ts

  -- behind bindings of these names
  pub AreBoundPrintable : Place → Script → List (List ℕ) → Bindings → Type 0
  AreBoundPrintable p s earlier no_bindings = ⊤
  AreBoundPrintable p s earlier (binding x t bs) =
      IsSymbolItem x.name × ((is_built_in x.name || is_among earlier x.name) ≡ false) × IsPrintable p s t
      × AreBoundPrintable p s (x.name ∷ earlier) bs

-- The item is read to this term, and gives no name.
pub record IsReadAs (p : Place) (s : Script) (i : Item) (t : Typed) : Type 0 where
  pub after : Script
  pub read : read_term i p s ≡ done t after
  pub same : SayTheSame s after

-- no leaf and no head of the term has this name
abbrev mutual
  pub HasNotName : List ℕ → Term → Type 0
  HasNotName name (numeral n) = ⊤
  HasNotName name (variable x) = bytes_eq name x.name ≡ false
  HasNotName name (operation op ts) = (bytes_eq name (operator_symbol op) ≡ false) × HaveNotName name ts
  HasNotName name (call f ts) = (bytes_eq name f.name ≡ false) × HaveNotName name ts
  HasNotName name (let_in bs t) = AreBoundWithoutName name bs × HasNotName name t

  pub HaveNotName : List ℕ → Terms → Type 0
  HaveNotName name no_terms = ⊤
  HaveNotName name (term t ts) = HasNotName name t × HaveNotName name ts

  pub AreBoundWithoutName : List ℕ → Bindings → Type 0
  AreBoundWithoutName name no_bindings = ⊤
  AreBoundWithoutName name (binding x t bs) = HasNotName name t × AreBoundWithoutName name bs

-- a term without free variables was given this name
pub record MeansTerm (s : Script) (name : List ℕ) (t : Typed) : Type 0 where
  pub named : Named
  pub found : find (λ n. bytes_eq n.name name) s.named ≡ Some named
  pub is : named.meant ≡ t
  pub closed : free_variables t.tree ≡ []
