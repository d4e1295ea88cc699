-- What items without definitions spell: forms without attributes, with a weight below their tokens.
use Rattle.std.proofs.Common.{◌≡◌, ℕ, ◌^◌, nat_lt, ◌+◌, ◌<◌, ◌≤◌, Bool, true, false, List, codes, bytes_eq, Option, Some, None, is_some, if◌then◌else◌, refl}
use Rattle.std.proofs.Common.{arith}
use Rattle.std.specs.Option.{option_map_or}
use Rattle.sexpr.specs.declared.causes.Cause.TheVariants.{BadCommand, LeftOut, WideNumber}
use Rattle.sexpr.specs.Words.{starts_with_digit, is_numeral, is_decimal, is_keyword, is_bit_literal, between_bars, numeral_value}
use Rattle.sexpr.specs.Items.{Item, word, quoted, string, list, Items, no_items, item, place_of, symbol_name}
use Rattle.text_items.specs.ItemShapes.{Name, name_at}
use Rattle.text_items.specs.Spelling.{is_list_item}
use Rattle.problem_text.specs.Words.{is_among, left_out_words}
use Rattle.problem_text.specs.Forms.{Form, faulty, number, symbol, application, let_form, annotated, Forms, no_forms, form, LetBinds, no_binds, bind}
use Rattle.problem_text.specs.Forms.{first_form, let_fault, number_form, symbol_form, word_form, unless_faulty, symbol_list_form, list_form, form_of, forms_of}
use Rattle.problem_text.specs.Forms.{binds_of, binds_in}
use Rattle.question_cells.specs.Definitions.{defining_words}
use Rattle.question_cells.proofs.Plain.{IsPlain, ArePlain, tokens_in, tokens_of, some_token, or_left, or_right}

-- how many cells a form may add: those of its own application, and one for each argument
abbrev mutual
  pub weight : Form → ℕ
  weight (faulty cause place) = 0
  weight (number place n) = 0
  weight (symbol n) = 0
  weight (application place head fs) = 1 + weights fs
  weight (let_form place bs body) = 2 + bind_weights bs + weight body
  weight (annotated place f names) = 0

  pub weights : Forms → ℕ
  weights no_forms = 0
  weights (form f fs) = 1 + weight f + weights fs

  pub bind_weights : LetBinds → ℕ
  bind_weights no_binds = 0
  bind_weights (bind n f bs) = 2 + weight f + bind_weights bs

-- no term in it has attributes
abbrev mutual
  pub IsPlainForm : Form → Type 0
  IsPlainForm (faulty cause place) = Unit {0}
  IsPlainForm (number place n) = Unit {0}
  IsPlainForm (symbol n) = Unit {0}
  IsPlainForm (application place head fs) = ArePlainForms fs
  IsPlainForm (let_form place bs body) = ArePlainBinds bs × IsPlainForm body
  IsPlainForm (annotated place f names) = ⊥

  pub ArePlainForms : Forms → Type 0
  ArePlainForms no_forms = Unit {0}
  ArePlainForms (form f fs) = IsPlainForm f × ArePlainForms fs

  pub ArePlainBinds : LetBinds → Type 0
  ArePlainBinds no_binds = Unit {0}
  ArePlainBinds (bind n f bs) = IsPlainForm f × ArePlainBinds bs

-- a form without attributes and below this weight; a list of them and bindings, up to it
abbrev pub Fits : ℕ → Form → Type 0
Fits n f = IsPlainForm f × (weight f < n)

abbrev FitAll : ℕ → Forms → Type 0
FitAll n fs = ArePlainForms fs × (weights fs ≤ n)

abbrev FitBinds : ℕ → LetBinds → Type 0
FitBinds n bs = ArePlainBinds bs × (bind_weights bs ≤ n)

fits_if : (n : ℕ) (b : Bool) (f g : Form) → Fits n f → Fits n g → Fits n (if b then f else g)
fits_if n true f g h k = h
fits_if n false f g h k = k

one : 0 < 1
one = omega arith

fits_number : (place : ℕ) (s : List ℕ) → Fits 1 (number_form place s)
fits_number place s =
    fits_if 1 (is_numeral s) _ _ (fits_if 1 (nat_lt (numeral_value s) (2 ^ 127)) (number place (numeral_value s)) (faulty WideNumber place) (tt, one) (tt, one))
    (fits_if 1 (is_decimal s) (faulty LeftOut place) (faulty BadCommand place) (tt, one) (tt, one))

fits_symbol : (n : Name) → Fits 1 (symbol_form n)
fits_symbol n = fits_if 1 (is_among left_out_words n.name) (faulty LeftOut n.place) (symbol n) (tt, one) (tt, one)

fits_word : (place : ℕ) (s : List ℕ) → Fits 1 (word_form place s)
fits_word place s =
    fits_if 1 (is_keyword s) (faulty BadCommand place) _ (tt, one)
    (fits_if 1 (is_bit_literal s) (faulty LeftOut place) _ (tt, one)
    (fits_if 1 (starts_with_digit s) _ _ (fits_number place s) (fits_symbol (record { place = place; name = s }))))

fits_unless : (n : ℕ) (o : Option ℕ) (f : Form) → 0 < n → Fits n f → Fits n (unless_faulty o f)
fits_unless n None f some h = h
fits_unless n (Some place) f some h = (tt, some)

-- a head that is a symbol is none of the words that begin definitions
not_defining : (i : Item) → option_map_or (is_among defining_words) (symbol_name i) false ≡ false → is_some (symbol_name i) ≡ true
    → bytes_eq (name_at i).name (codes "!") ≡ false
not_defining i e some = go (symbol_name i) refl e some
  where
    go : (o : Option (List ℕ)) → symbol_name i ≡ o → option_map_or (is_among defining_words) o false ≡ false → is_some o ≡ true
        → bytes_eq (name_at i).name (codes "!") ≡ false
    go None e none some = absurd cc
    go (Some name) e none some =
        rw e (or_left _ _ (or_right _ _ none))

-- a list whose head is a symbol: of what stands in it this is known
module _ (place : ℕ) (head first : Item) (rest : Items) (one_form : Form) (others : Forms) (binds : LetBinds)
    (fit : Fits (tokens_in first) one_form) (fit_all : FitAll (tokens_of rest) others) (fit_binds : FitBinds (tokens_in first) binds) where
  first_fits : (fs : Forms) → FitAll (tokens_of rest) fs → IsPlainForm (first_form fs) × (weight (first_form fs) ≤ tokens_of rest)
  first_fits no_forms h = (tt, omega arith)
  first_fits (form f fs) h = let k : 1 + weight f + weights fs ≤ tokens_of rest = h.1 in (h.0.0, omega (arith, k))

  abbrev room : ℕ
  room = 2 + (tokens_in head + (tokens_in first + tokens_of rest))

  some_room : 0 < room
  some_room = omega arith

  let_fits : Fits room (let_form place binds (first_form others))
  let_fits =
      let body = first_fits others fit_all in
      ((fit_binds.0, body.0), omega (arith, fit_binds.1, body.1, some_token head))

  application_fits : (name : Name) → Fits room (application place name (form one_form others))
  application_fits name = ((fit.0, fit_all.0), omega (arith, fit.1, fit_all.1, some_token head))

  symbol_list_fits : (name : Name) → bytes_eq name.name (codes "!") ≡ false → Fits room (symbol_list_form place name (item first rest) one_form others binds)
  symbol_list_fits name plain =
      fits_if room (bytes_eq name.name (codes "let")) _ _
      (fits_unless room (let_fault place (item first rest)) (let_form place binds (first_form others)) some_room let_fits)
      (rw plain (fits_if room (is_among left_out_words name.name) (faulty LeftOut name.place) _ (tt, some_room) (application_fits name)))

  pub list_fits : option_map_or (is_among defining_words) (symbol_name head) false ≡ false
      → Fits room (list_form place head (item first rest) one_form others binds)
  list_fits none = go (is_some (symbol_name head)) refl
    where
      go : (b : Bool) → is_some (symbol_name head) ≡ b
          → Fits room (if b then symbol_list_form place (name_at head) (item first rest) one_form others binds
          else if is_list_item head then faulty LeftOut (place_of head) else faulty BadCommand (place_of head))
      go true e = symbol_list_fits (name_at head) (not_defining head none e)
      go false e = fits_if room (is_list_item head) (faulty LeftOut (place_of head)) (faulty BadCommand (place_of head)) (tt, some_room) (tt, some_room)

mutual
  unfolding form_of

  pub form_fits : (i : Item) → IsPlain i → Fits (tokens_in i) (form_of i)
  form_fits (word place s) h = fits_word place s
  form_fits (quoted place s) h = fits_symbol (record { place = place; name = between_bars s })
  form_fits (string place s) h = (tt, one)
  form_fits (list place no_items) h = (tt, omega arith)
  form_fits (list place (item head no_items)) h = (tt, omega arith)
  form_fits (list place (item head (item first rest))) h =
      list_fits place head first rest (form_of first) (forms_of rest) (binds_of first)
      (form_fits first h.1.1.0) (forms_fit rest h.1.1.1) (binds_fit first h.1.1.0) h.0

  forms_fit : (is : Items) → ArePlain is → FitAll (tokens_of is) (forms_of is)
  forms_fit no_items h = (tt, omega arith)
  forms_fit (item i rest) h =
      let f = form_fits i h.0 in
      let g = forms_fit rest h.1 in
      ((f.0, g.0), omega (arith, f.1, g.1))

  binds_fit : (i : Item) → IsPlain i → FitBinds (tokens_in i) (binds_of i)
  binds_fit (word place s) h = (tt, omega arith)
  binds_fit (quoted place s) h = (tt, omega arith)
  binds_fit (string place s) h = (tt, omega arith)
  binds_fit (list place items) h = let f = binds_in_fit items h.1 in (f.0, omega (arith, f.1))

  binds_in_fit : (is : Items) → ArePlain is → FitBinds (tokens_of is) (binds_in is)
  binds_in_fit no_items h = (tt, omega arith)
  binds_in_fit (item (word place s) others) h = let g = binds_in_fit others h.1 in (g.0, omega (arith, g.1))
  binds_in_fit (item (quoted place s) others) h = let g = binds_in_fit others h.1 in (g.0, omega (arith, g.1))
  binds_in_fit (item (string place s) others) h = let g = binds_in_fit others h.1 in (g.0, omega (arith, g.1))
  binds_in_fit (item (list place no_items) others) h = let g = binds_in_fit others h.1 in (g.0, omega (arith, g.1))
  binds_in_fit (item (list place (item x no_items)) others) h = let g = binds_in_fit others h.1 in (g.0, omega (arith, g.1))
  binds_in_fit (item (list place (item x (item t rest))) others) h =
      let f = form_fits t h.0.1.1.0 in
      let g = binds_in_fit others h.1 in
      ((f.0, g.0), omega (arith, f.1, g.1, some_token x))
