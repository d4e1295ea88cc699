-- One pass over attributes: what is still to come, by what stood.
use Rattle.std.proofs.Common.{◌≡◌, ℕ, Bool, true, false, not, ◌&&◌, ◌||◌, if◌then◌else◌, List, [], ◌∷◌, bytes_eq, Option, Some, None, is_some, refl, sym, ap, ◌∙◌}
use Rattle.std.specs.Option.{option_or}
use Rattle.sexpr.specs.Items.{Item, Items, no_items, item}
use Rattle.text_items.specs.ItemShapes.{excess}
use Rattle.text_items.specs.Keywords.{Known, from_word, behind_first, is_it, keyword_of, first_of, second_of, earlier, repeated, lacks_keyword, misplaced, next_fault, after_item, at_end, is_value, word_next, attributes_fault}
use Rattle.text_items.specs.OnePass.{marked, is_again, lacks_still, repeated_still, fault_still, AreMarked, IsPassed}
use Rattle.text_items.specs.declared.keywords.Next.{Next}
use Rattle.text_items.proofs.ShapeLemmas.{passed}

left_false : (a b : Bool) → a || b ≡ false → a ≡ false
left_false false b h = refl
left_false true b h = cc

right_false : (a b : Bool) → a || b ≡ false → b ≡ false
right_false false b h = h
right_false true b h = cc

-- nothing stood yet
abbrev pub some_stood : List Bool → Bool
some_stood [] = false
some_stood (b ∷ bs) = b || some_stood bs

lacks_start : (known : List Known) (stood : List Bool) (items : Items) → some_stood stood ≡ false → lacks_still known stood items ≡ lacks_keyword known items
lacks_start [] stood items none = refl
lacks_start (k ∷ ks) [] items none = ap (λ b. k.needed && not (is_some (first_of k.spelling items)) || b) (lacks_start ks [] items none)
lacks_start (k ∷ ks) (b ∷ bs) items none =
    ap (λ x. k.needed && not (x || is_some (first_of k.spelling items)) || lacks_still ks bs items) (left_false b (some_stood bs) none)
    ∙ ap (λ x. k.needed && not (is_some (first_of k.spelling items)) || x) (lacks_start ks bs items (right_false b (some_stood bs) none))

repeated_start : (known : List Known) (stood : List Bool) (items : Items) → some_stood stood ≡ false → repeated_still known stood items ≡ repeated known items
repeated_start [] stood items none = refl
repeated_start (k ∷ ks) [] items none = ap (earlier (if k.once then second_of k.spelling items else None)) (repeated_start ks [] items none)
repeated_start (k ∷ ks) (b ∷ bs) items none =
    ap (λ x. earlier (if k.once then (if x then first_of k.spelling items else second_of k.spelling items) else None) (repeated_still ks bs items)) (left_false b (some_stood bs) none)
    ∙ ap (earlier (if k.once then second_of k.spelling items else None)) (repeated_start ks bs items (right_false b (some_stood bs) none))

-- nothing is left
repeated_end : (known : List Known) (stood : List Bool) → repeated_still known stood no_items ≡ None
repeated_end [] stood = refl
repeated_end (k ∷ ks) [] = never k.once (repeated_still ks [] no_items) (repeated_end ks [])
  where
    never : (once : Bool) (rest : Option ℕ) → rest ≡ None → earlier (if once then None else None) rest ≡ None
    never true rest h = h
    never false rest h = h
repeated_end (k ∷ ks) (b ∷ bs) = never k.once b (repeated_still ks bs no_items) (repeated_end ks bs)
  where
    never : (once b : Bool) (rest : Option ℕ) → rest ≡ None → earlier (if once then (if b then None else None) else None) rest ≡ None
    never true true rest h = h
    never true false rest h = h
    never false b rest h = h

-- one item is passed, which is a keyword or not
module _ (i : Item) (others : Items) where
  lacks_one : (needed stood here : Bool) (name : List ℕ)
      → needed && not (stood || is_some (excess (if here then item i others else from_word name others))) ≡ needed && not ((stood || here) || is_some (first_of name others))
  lacks_one needed true here name = refl
  lacks_one needed false true name = refl
  lacks_one needed false false name = refl

  repeated_one : (once stood here : Bool) (name : List ℕ) → once && stood && here ≡ false
      → (if once then (if stood then excess (if here then item i others else from_word name others) else first_of name (behind_first (if here then item i others else from_word name others))) else None)
      ≡ (if once then (if stood || here then first_of name others else second_of name others) else None)
  repeated_one false stood here name h = refl
  repeated_one true true true name h = cc
  repeated_one true true false name h = refl
  repeated_one true false true name h = refl
  repeated_one true false false name h = refl

  lacks_word : (known : List Known) (name : List ℕ) (stood : List Bool) → keyword_of i ≡ Some name → is_again known name stood ≡ false
      → lacks_still known stood (item i others) ≡ lacks_still known (marked known name stood) others
  lacks_word [] name stood e h = refl
  lacks_word (k ∷ ks) name [] e h = cc
  lacks_word (k ∷ ks) name (b ∷ bs) e h =
      ap (λ (x : Option (List ℕ)). k.needed && not (b || is_some (excess (if is_it k.spelling x then item i others else from_word k.spelling others))) || lacks_still ks bs (item i others)) e
      ∙ ap (λ x. x || lacks_still ks bs (item i others)) (lacks_one k.needed b (bytes_eq k.spelling name) k.spelling)
      ∙ ap (λ x. k.needed && not ((b || bytes_eq k.spelling name) || is_some (first_of k.spelling others)) || x)
      (lacks_word ks name bs e (right_false (k.once && b && bytes_eq k.spelling name) (is_again ks name bs) h))

  lacks_other : (known : List Known) (stood : List Bool) → keyword_of i ≡ None → lacks_still known stood (item i others) ≡ lacks_still known stood others
  lacks_other [] stood e = refl
  lacks_other (k ∷ ks) [] e =
      ap (λ (x : Option (List ℕ)). k.needed && not (is_some (excess (if is_it k.spelling x then item i others else from_word k.spelling others))) || lacks_still ks [] (item i others)) e
      ∙ ap (λ x. k.needed && not (is_some (first_of k.spelling others)) || x) (lacks_other ks [] e)
  lacks_other (k ∷ ks) (b ∷ bs) e =
      ap (λ (x : Option (List ℕ)). k.needed && not (b || is_some (excess (if is_it k.spelling x then item i others else from_word k.spelling others))) || lacks_still ks bs (item i others)) e
      ∙ ap (λ x. k.needed && not (b || is_some (first_of k.spelling others)) || x) (lacks_other ks bs e)

  -- where a keyword stands next, by what the first item is
  abbrev one : List ℕ → Bool → Bool → Option (List ℕ) → Option ℕ
  one name once stood x =
      if once
      then (if stood then excess (if is_it name x then item i others else from_word name others) else first_of name (behind_first (if is_it name x then item i others else from_word name others)))
      else None

  repeated_word : (known : List Known) (name : List ℕ) (stood : List Bool) → keyword_of i ≡ Some name → is_again known name stood ≡ false
      → repeated_still known stood (item i others) ≡ repeated_still known (marked known name stood) others
  repeated_word [] name stood e h = refl
  repeated_word (k ∷ ks) name [] e h = cc
  repeated_word (k ∷ ks) name (b ∷ bs) e h =
      ap (λ (x : Option (List ℕ)). earlier (one k.spelling k.once b x) (repeated_still ks bs (item i others))) e
      ∙ ap (λ x. earlier x (repeated_still ks bs (item i others)))
      (repeated_one k.once b (bytes_eq k.spelling name) k.spelling (left_false (k.once && b && bytes_eq k.spelling name) (is_again ks name bs) h))
      ∙ ap (earlier (if k.once then (if b || bytes_eq k.spelling name then first_of k.spelling others else second_of k.spelling others) else None))
      (repeated_word ks name bs e (right_false (k.once && b && bytes_eq k.spelling name) (is_again ks name bs) h))

  repeated_other : (known : List Known) (stood : List Bool) → keyword_of i ≡ None → repeated_still known stood (item i others) ≡ repeated_still known stood others
  repeated_other [] stood e = refl
  repeated_other (k ∷ ks) [] e =
      ap (λ (x : Option (List ℕ)). earlier (one k.spelling k.once false x) (repeated_still ks [] (item i others))) e
      ∙ ap (earlier (if k.once then second_of k.spelling others else None)) (repeated_other ks [] e)
  repeated_other (k ∷ ks) (b ∷ bs) e =
      ap (λ (x : Option (List ℕ)). earlier (one k.spelling k.once b x) (repeated_still ks bs (item i others))) e
      ∙ ap (earlier (if k.once then (if b then first_of k.spelling others else second_of k.spelling others) else None)) (repeated_other ks bs e)

  lacks_passed : (known : List Known) (word : Option (List ℕ)) (stood after : List Bool) → keyword_of i ≡ word → AreMarked known word stood after
      → lacks_still known stood (item i others) ≡ lacks_still known after others
  lacks_passed known None stood after e h = lacks_other known stood e ∙ ap (λ bs. lacks_still known bs others) (sym h)
  lacks_passed known (Some name) stood after e h = lacks_word known name stood e h.once ∙ ap (λ bs. lacks_still known bs others) (sym h.kept)

  repeated_passed : (known : List Known) (word : Option (List ℕ)) (stood after : List Bool) → keyword_of i ≡ word → AreMarked known word stood after
      → repeated_still known stood (item i others) ≡ repeated_still known after others
  repeated_passed known None stood after e h = repeated_other known stood e ∙ ap (λ bs. repeated_still known bs others) (sym h)
  repeated_passed known (Some name) stood after e h = repeated_word known name stood e h.once ∙ ap (λ bs. repeated_still known bs others) (sym h.kept)

module _ (known : List Known) (place : ℕ) where
  -- the parts of the fault that is still to come
  abbrev whole : Next → Bool → Option ℕ → Option ℕ → Option ℕ
  whole next lacking out again = if is_value next || lacking then Some place else earlier out again

  pub fault_start : (stood : List Bool) (items : Items) → some_stood stood ≡ false → attributes_fault known place items ≡ fault_still known place stood word_next items
  fault_start stood items none =
      ap (λ x. whole (at_end known word_next items) x (misplaced known word_next items) (repeated known items)) (sym (lacks_start known stood items none))
      ∙ ap (whole (at_end known word_next items) (lacks_still known stood items) (misplaced known word_next items)) (sym (repeated_start known stood items none))

  pub fault_on : (i : Item) (others : Items) (stood after : List Bool) (next later : Next) (fault : Option ℕ) → fault ≡ next_fault next i → is_some fault ≡ false
      → IsPassed known (keyword_of i) stood later after → fault_still known place stood next (item i others) ≡ fault_still known place after later others
  fault_on i others stood after next later fault judged none h =
      ap (λ f. whole (at_end known (after_item known i) others) (lacks_still known stood (item i others)) (option_or f (misplaced known (after_item known i) others)) (repeated_still known stood (item i others))) (sym judged)
      ∙ ap (λ f. whole (at_end known (after_item known i) others) (lacks_still known stood (item i others)) f (repeated_still known stood (item i others))) (passed fault none (misplaced known (after_item known i) others))
      ∙ ap (λ (x : Next). whole (at_end known x others) (lacks_still known stood (item i others)) (misplaced known x others) (repeated_still known stood (item i others))) (sym h.goes)
      ∙ ap (λ x. whole (at_end known later others) x (misplaced known later others) (repeated_still known stood (item i others))) (lacks_passed i others known (keyword_of i) stood after refl h.marks)
      ∙ ap (whole (at_end known later others) (lacks_still known after others) (misplaced known later others)) (repeated_passed i others known (keyword_of i) stood after refl h.marks)

  pub fault_end : (stood : List Bool) (next : Next) → is_value next ≡ false → lacks_still known stood no_items ≡ false → fault_still known place stood next no_items ≡ None
  fault_end stood next value lacking =
      ap (λ b. if b || lacks_still known stood no_items then Some place else earlier None (repeated_still known stood no_items)) value
      ∙ ap (λ b. if b then Some place else repeated_still known stood no_items) lacking
      ∙ repeated_end known stood
