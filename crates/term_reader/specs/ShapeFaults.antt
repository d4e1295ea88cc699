-- Private. What the parts of a term's shape return.
use Rattle.std.specs.Prelude.{◌≡◌, ℕ, ◌+◌, ◌<◌, pos, List, length, if◌then◌else◌, Bool, true, false, bytes_eq, Option, Some}
use Rattle.problem_text.specs.Forms.{Form, faulty, number, symbol, application, let_form, annotated, LetBinds}
use Rattle.text_items.specs.ItemsAt.{ItemsView, end_at, item_at}
use Rattle.term_reader.specs.declared.layers.Layer.{Layer}
use Rattle.text_items.specs.Stepping.{name_in, IsSymbolAt}
use Rattle.term_reader.specs.Layers.{IsRange, form_at, forms_at, AreBinds, names_at, AreTermAttributes}
use Rattle.std.specs.List.{list_any}
use denote.Bor.{Bor}
use Rattle.sexpr.specs.declared.causes.Cause.{Cause}
use Rattle.sexpr.specs.declared.words.WordKind.{WordKind}
use Rattle.sexpr.specs.declared.words.WordKind.TheVariants.{BitLiteral, Numeral, Decimal}
use Rattle.sexpr.specs.declared.causes.Cause.TheVariants.{BadCommand, LeftOut}
use Rattle.sexpr.specs.Items.{Item, place_of}
use Rattle.text_items.specs.Spelling.{is_list_item}

-- The top of the form that the item at node k spells.
abbrev pub IsLayer : ItemsView → ℕ → Layer → Form → Type 0
IsLayer items k (Layer.Faulty r) f = f ≡ faulty r.cause r.at
IsLayer items k (Layer.Number v) f = (n : ℕ) × (f ≡ number (place_of (item_at items k)) n) × (v ≡ pos n) × (end_at items k ≡ k + 1)
IsLayer items k Layer.Symbol f = (f ≡ symbol (name_in items k)) × IsSymbolAt items k × (end_at items k ≡ k + 1)
IsLayer items k (Layer.Application head first end) f =
    (f ≡ application (place_of (item_at items k)) (name_in items head) (forms_at items first end))
    × IsSymbolAt items head × IsRange items first end × (first < end) × (end ≡ end_at items k) × (k < first)
IsLayer items k (Layer.Let first body) f =
    (bs : LetBinds) × (f ≡ let_form (place_of (item_at items k)) bs (form_at items body))
    × AreBinds items first bs body × (first < body) × (body < length items.nodes) × (end_at items body ≡ end_at items k) × (k < first)
IsLayer items k (Layer.Annotated t first end) f =
    (f ≡ annotated (place_of (item_at items k)) (form_at items t) (names_at items first end))
    × (t < length items.nodes) × (end_at items t ≡ first) × AreTermAttributes items first end × (end ≡ end_at items k) × (k < t)

-- The top of the form of a symbol of this name, which stands at this place.
abbrev pub IsSymbolLayer : ℕ → List ℕ → Layer → Form → Type 0
IsSymbolLayer place name (Layer.Faulty r) f = f ≡ faulty r.cause r.at
IsSymbolLayer place name Layer.Symbol f = f ≡ symbol (record { place = place; name = name })
IsSymbolLayer place name (Layer.Number v) f = ⊥
IsSymbolLayer place name (Layer.Application head first end) f = ⊥
IsSymbolLayer place name (Layer.Let first body) f = ⊥
IsSymbolLayer place name (Layer.Annotated t first end) f = ⊥

-- The top of the form of a token that is no symbol and stands at this place.
abbrev pub IsTokenLayer : ℕ → Layer → Form → Type 0
IsTokenLayer place (Layer.Faulty r) f = f ≡ faulty r.cause r.at
IsTokenLayer place (Layer.Number v) f = (n : ℕ) × (f ≡ number place n) × (v ≡ pos n)
IsTokenLayer place Layer.Symbol f = ⊥
IsTokenLayer place (Layer.Application head first end) f = ⊥
IsTokenLayer place (Layer.Let first body) f = ⊥
IsTokenLayer place (Layer.Annotated t first end) f = ⊥

abbrev pub is_numeral_kind : Option WordKind → Bool
is_numeral_kind (Some Numeral) = true
is_numeral_kind other = false

-- why a word of this kind is no term, where it is neither a numeral nor a symbol
abbrev pub cause_of_kind : Option WordKind → Cause
cause_of_kind (Some BitLiteral) = LeftOut
cause_of_kind (Some Decimal) = LeftOut
cause_of_kind other = BadCommand

-- the top of a list whose head, this item, is no symbol
abbrev pub IsHeadFault : Layer → Item → Type 0
IsHeadFault layer head = layer ≡ Layer.Faulty (record { cause = if is_list_item head then LeftOut else BadCommand; at = place_of head })

-- one of the slices of the text is this name
abbrev pub has_name : List (Bor (List ℕ)) → List ℕ → Bool
has_name slices name = list_any (λ slice. bytes_eq name slice.now) slices
