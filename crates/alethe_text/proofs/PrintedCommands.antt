-- Cited by crates above. Printed commands have their shapes, wherever they stand.
use Rattle.std.proofs.Common.{◌≡◌, ℕ, ◌+◌, length, Bool, true, false, if◌then◌else◌, Some, None, Ok, List, [], ◌∷◌, ◌++◌, map, codes, refl, ap, ◌∙◌}
use Rattle.std.specs.List.{AllByRecursion}
use Rattle.sexpr.specs.Items.{Item, word, list, Items, no_items, item, place_of, symbol_name}
use Rattle.sexpr.specs.Printed.{symbol_item, IsSymbolItem, placed, placed_all, printed}
use Rattle.text_items.specs.ItemShapes.{Name, name_at}
use Rattle.text_items.specs.Keywords.{keyword_of, symbols_fault}
use Rattle.problem_text.proofs.PrintedForms.{symbol_no_keyword}
use Rattle.alethe_text.specs.Commands.{assume, step, anchor, Attribute, rule, premises, arguments, discharge}
use Rattle.alethe_text.specs.Commands.{command_of, names_in, arguments_in, each_argument_fault}
use Rattle.alethe_text.specs.PrintedCommands.{symbol_items, with_list, assume_item, clause_item, StepItems, step_item, anchor_item}

-- the name of an item
abbrev pub at_item : Item → List ℕ → Name
at_item i name = record { place = place_of i; name = name }

same_name : (n : Item) (name : List ℕ) → symbol_name n ≡ Some name → name_at n ≡ at_item n name
same_name n name named = rw named refl

-- assumes
assume_of : (a b : ℕ) (n t : Item) (id : List ℕ) → symbol_name n ≡ Some id
    → command_of (list a (item (word b (codes "assume")) (item n (item t no_items)))) ≡ Ok (assume (at_item n id) t)
unfolding command_of
assume_of a b n t id named = rw named refl

pub record IsAssumeShaped (i : Item) (id : List ℕ) (t : Item) : Type 0 where
  pub name : Name
  pub named : name.name ≡ id
  pub place : ℕ
  pub shape : command_of i ≡ Ok (assume name (placed place t))

pub assume_shaped : (at : ℕ) (id : List ℕ) (t : Item) → IsSymbolItem id → IsAssumeShaped (placed at (assume_item id t)) id t
assume_shaped at id t is =
    let j : ℕ = at + 1 + 0 + 6 + 1 in
    let k : ℕ = j + length (printed (symbol_item id)) + 1 in
    record {
      name = at_item (placed j (symbol_item id)) id;
      named = refl;
      place = k;
      shape = assume_of at (at + 1 + 0) (placed j (symbol_item id)) (placed k t) id (is.named j);
    }

-- lists of symbols
abbrev pub AreSymbolItems : List (List ℕ) → Type 0
AreSymbolItems names = AllByRecursion IsSymbolItem names

joined : {A : Type 0} (a b : A) (xs ys : List A) → a ≡ b → xs ≡ ys → a ∷ xs ≡ b ∷ ys
joined a b xs ys e f = cc

pub names_read : (at : ℕ) (before : List ℕ) (names : List (List ℕ)) → AreSymbolItems names
    → map (λ n. n.name) (names_in (placed_all at before (symbol_items names))) ≡ names
names_read at before [] h = refl
names_read at before (name ∷ names) h =
    let here : ℕ = at + length before in
    joined _ name _ names (ap (λ (n : Name). n.name) (same_name (placed here (symbol_item name)) name (h.0.named here)))
    (names_read (here + length (printed (symbol_item name))) (32 ∷ []) names h.1)

no_fault : (n : Item) (name : List ℕ) (rest : Items) → symbol_name n ≡ Some name → symbols_fault rest ≡ None → symbols_fault (item n rest) ≡ None
no_fault n name rest named e = rw (named, e) refl

pub symbols_well : (at : ℕ) (before : List ℕ) (names : List (List ℕ)) → AreSymbolItems names
    → symbols_fault (placed_all at before (symbol_items names)) ≡ None
symbols_well at before [] h = refl
symbols_well at before (name ∷ names) h =
    let here : ℕ = at + length before in
    let rest : ℕ = here + length (printed (symbol_item name)) in
    no_fault (placed here (symbol_item name)) name (placed_all rest (32 ∷ []) (symbol_items names)) (h.0.named here)
    (symbols_well rest (32 ∷ []) names h.1)

-- a keyword with a list, where it stands; and the attribute that it is then
abbrev pub listed : Bool → List ℕ → ℕ → ℕ → Items → Items → Items
listed true keyword a b items rest = item (word a keyword) (item (list b items) rest)
listed false keyword a b items rest = rest

abbrev pub listed_attribute : Bool → Attribute → List Attribute
listed_attribute true attribute = attribute ∷ []
listed_attribute false attribute = []

-- steps, at any places
module _ (a b c d e : ℕ) (n r : Item) (id word_of_rule : List ℕ) (literals : Items) (p q : ℕ) (ps : Items) (i j : ℕ) (args : Items) (k l : ℕ)
    (ds : Items) (named : symbol_name n ≡ Some id) (rule_named : symbol_name r ≡ Some word_of_rule) (no_key : keyword_of r ≡ None)
    (ps_well : symbols_fault ps ≡ None) (ds_well : symbols_fault ds ≡ None) where
  abbrev step_items : Bool → Bool → Bool → Items
  step_items x y z =
      item (word e (codes ":rule")) (item r (listed x (codes ":premises") p q ps (listed y (codes ":args") i j args
      (listed z (codes ":discharge") k l ds no_items))))

  abbrev step_attributes : Bool → Bool → Bool → List Attribute
  step_attributes x y z =
      rule (at_item r word_of_rule) ∷ (listed_attribute x (premises (names_in ps)) ++ (listed_attribute y (arguments args)
      ++ listed_attribute z (discharge (names_in ds))))

  step_of : (x y z : Bool)
      → command_of (list a (item (word b (codes "step")) (item n (item (list c (item (word d (codes "cl")) literals)) (step_items x y z)))))
      ≡ Ok (step (at_item n id) literals (step_attributes x y z))
  unfolding command_of
  step_of true true true = rw (named, rule_named, no_key, ps_well, ds_well) refl
  step_of true true false = rw (named, rule_named, no_key, ps_well) refl
  step_of true false true = rw (named, rule_named, no_key, ps_well, ds_well) refl
  step_of true false false = rw (named, rule_named, no_key, ps_well) refl
  step_of false true true = rw (named, rule_named, no_key, ds_well) refl
  step_of false true false = rw (named, rule_named, no_key) refl
  step_of false false true = rw (named, rule_named, no_key, ds_well) refl
  step_of false false false = rw (named, rule_named, no_key) refl

-- whether there are items
abbrev pub some_items : Items → Bool
some_items no_items = false
some_items (item i is) = true

-- where a list stands behind a keyword of a length, and where the next item goes on
abbrev list_place : ℕ → ℕ → ℕ
list_place at size = at + 1 + size + 1

abbrev next_place : ℕ → ℕ → Items → ℕ
next_place at size no_items = at
next_place at size (item i is) = list_place at size + length (printed (list 0 (item i is)))

listed_is : (keyword : List ℕ) (items rest : Items) (at : ℕ)
    → placed_all at (32 ∷ []) (with_list keyword items rest)
    ≡ listed (some_items items) keyword (at + 1) (list_place at (length keyword)) (placed_all (list_place at (length keyword) + 1) [] items)
    (placed_all (next_place at (length keyword) items) (32 ∷ []) rest)
listed_is keyword no_items rest at = refl
listed_is keyword (item i is) rest at = refl

-- The item is a step with the id, the literals, the rule, the premises, the arguments and the discharged assumes.
pub record IsStepShaped (i : Item) (x : StepItems) : Type 0 where
  pub name : Name
  pub named : name.name ≡ x.id
  pub place : ℕ
  pub rule_name : Name
  pub rule_named : rule_name.name ≡ x.word_of_rule
  pub premise_names : List Name
  pub premises_are : map (λ n. n.name) premise_names ≡ x.premises
  pub arguments_place : ℕ
  pub discharged_names : List Name
  pub discharged_are : map (λ n. n.name) discharged_names ≡ x.discharged
  pub shape : command_of i ≡ Ok (step name (placed_all place (32 ∷ []) x.literals)
      (rule rule_name ∷ (listed_attribute (some_items (symbol_items x.premises)) (premises premise_names)
      ++ (listed_attribute (some_items x.arguments) (arguments (placed_all arguments_place [] x.arguments))
      ++ listed_attribute (some_items (symbol_items x.discharged)) (discharge discharged_names)))))

pub step_shaped : (at : ℕ) (x : StepItems) → IsSymbolItem x.id → IsSymbolItem x.word_of_rule → AreSymbolItems x.premises
    → AreSymbolItems x.discharged → IsStepShaped (placed at (step_item x)) x
step_shaped at x id_is rule_is premises_are discharged_are =
    let n_at : ℕ = at + 1 + 0 + 4 + 1 in
    let c_at : ℕ = n_at + length (printed (symbol_item x.id)) + 1 in
    let e_at : ℕ = c_at + length (printed (clause_item x.literals)) + 1 in
    let r_at : ℕ = e_at + 5 + 1 in
    let n : Item = placed n_at (symbol_item x.id) in
    let r : Item = placed r_at (symbol_item x.word_of_rule) in
    let place : ℕ = c_at + 1 + 0 + 2 in
    let literals : Items = placed_all place (32 ∷ []) x.literals in
    let c0 : ℕ = r_at + length (printed (symbol_item x.word_of_rule)) in
    let c1 : ℕ = next_place c0 9 (symbol_items x.premises) in
    let c2 : ℕ = next_place c1 5 x.arguments in
    let ps : Items = placed_all (list_place c0 9 + 1) [] (symbol_items x.premises) in
    let args : Items = placed_all (list_place c1 5 + 1) [] x.arguments in
    let ds : Items = placed_all (list_place c2 10 + 1) [] (symbol_items x.discharged) in
    let f : Bool = some_items (symbol_items x.premises) in
    let g : Bool = some_items x.arguments in
    let h : Bool = some_items (symbol_items x.discharged) in
    let third : Items = with_list (codes ":discharge") (symbol_items x.discharged) no_items in
    let second : Items = with_list (codes ":args") x.arguments third in
    let put_first : Items → Items = λ rest. listed f (codes ":premises") (c0 + 1) (list_place c0 9) ps rest in
    let put_second : Items → Items = λ rest. listed g (codes ":args") (c1 + 1) (list_place c1 5) args rest in
    let whole : Items → Item = λ tail. list at (item (word (at + 1 + 0) (codes "step")) (item n
    (item (list c_at (item (word (c_at + 1 + 0) (codes "cl")) literals)) (item (word e_at (codes ":rule")) (item r tail))))) in
    let tail_is : placed_all c0 (32 ∷ []) (with_list (codes ":premises") (symbol_items x.premises) second)
    ≡ put_first (put_second (listed h (codes ":discharge") (c2 + 1) (list_place c2 10) ds no_items)) =
    listed_is (codes ":premises") (symbol_items x.premises) second c0
    ∙ ap put_first (listed_is (codes ":args") x.arguments third c1
    ∙ ap put_second (listed_is (codes ":discharge") (symbol_items x.discharged) no_items c2)) in
    record {
      name = at_item n x.id;
      named = refl;
      place = place;
      rule_name = at_item r x.word_of_rule;
      rule_named = refl;
      premise_names = names_in ps;
      premises_are = names_read (list_place c0 9 + 1) [] x.premises premises_are;
      arguments_place = list_place c1 5 + 1;
      discharged_names = names_in ds;
      discharged_are = names_read (list_place c2 10 + 1) [] x.discharged discharged_are;
      shape =
          ap (λ tail. command_of (whole tail)) tail_is
          ∙ step_of at (at + 1 + 0) c_at (c_at + 1 + 0) e_at n r x.id x.word_of_rule literals (c0 + 1) (list_place c0 9) ps (c1 + 1)
          (list_place c1 5) args (c2 + 1) (list_place c2 10) ds (id_is.named n_at) (rule_is.named r_at) (symbol_no_keyword r_at x.word_of_rule)
          (symbols_well (list_place c0 9 + 1) [] x.premises premises_are) (symbols_well (list_place c2 10 + 1) [] x.discharged discharged_are)
          f g h;
    }

-- anchors
module _ (a b c d e : ℕ) (n : Item) (id : List ℕ) (args : Items) (named : symbol_name n ≡ Some id) (well : each_argument_fault args ≡ None) where
  anchor_of : (y : Bool)
      → command_of (list a (item (word b (codes "anchor")) (item (word c (codes ":step")) (item n (listed y (codes ":args") d e args no_items)))))
      ≡ Ok (anchor a (at_item n id) (arguments_in (if y then args else no_items)))
  unfolding command_of
  anchor_of true = rw (named, well) refl
  anchor_of false = rw named refl

pub record IsAnchorShaped (i : Item) (at : ℕ) (id : List ℕ) (others : Items) : Type 0 where
  pub name : Name
  pub named : name.name ≡ id
  pub place : ℕ
  pub shape : command_of i ≡ Ok (anchor at name (arguments_in (placed_all place [] others)))

arguments_kept : (at : ℕ) (is : Items) → (if some_items is then placed_all at [] is else no_items) ≡ placed_all at [] is
arguments_kept at no_items = refl
arguments_kept at (item i is) = refl

pub anchor_shaped : (at : ℕ) (id : List ℕ) (others : Items) → IsSymbolItem id
    → ((k : ℕ) → each_argument_fault (placed_all k [] others) ≡ None) → IsAnchorShaped (placed at (anchor_item id others)) at id others
anchor_shaped at id others id_is well =
    let n_at : ℕ = at + 1 + 0 + 6 + 1 + 5 + 1 in
    let n : Item = placed n_at (symbol_item id) in
    let c : ℕ = n_at + length (printed (symbol_item id)) in
    let place : ℕ = list_place c 5 + 1 in
    let args : Items = placed_all place [] others in
    let whole : Items → Item = λ tail.
    list at (item (word (at + 1 + 0) (codes "anchor")) (item (word (at + 1 + 0 + 6 + 1) (codes ":step")) (item n tail))) in
    record {
      name = at_item n id;
      named = refl;
      place = place;
      shape =
          ap (λ tail. command_of (whole tail)) (listed_is (codes ":args") others no_items c)
          ∙ anchor_of at (at + 1 + 0) (at + 1 + 0 + 6 + 1) (c + 1) (list_place c 5) n id args (id_is.named n_at) (well place) (some_items others)
          ∙ ap (λ is. Ok (anchor at (at_item n id) (arguments_in is))) (arguments_kept place others);
    }
