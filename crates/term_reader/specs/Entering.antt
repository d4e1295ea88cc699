-- Private. The tops of terms as they are met, and what comes of them.
use Rattle.std.specs.Prelude.{◌≡◌, ◌≤◌, ℕ, ℤ, Bool, true, false, pos, Option, Some, None}
use Rattle.sym_table.specs.Table.{Table}
use Rattle.term_model.specs.declared.symbols.Sort.{Sort}
use Rattle.term_model.specs.Terms.{numeral}
use Rattle.term_pool.specs.Views.{TermsView}
use Rattle.term_names.specs.Heads.{HeadMeans}
use Rattle.term_reader.specs.Frames.{WholeReading}
use Rattle.problem_text.specs.Limits.{most_height}
use Rattle.term_names.specs.Known.{KnownView}
use Rattle.term_reader.specs.Layers.{form_at}
use Rattle.term_reader.specs.ShapeFaults.{IsLayer}
use Rattle.problem_text.specs.Names.{Meaning}
use Rattle.term_reader.specs.Turns.{IsAt}
use Rattle.problem_text.specs.TypedTerms.{Typed}
use Rattle.problem_text.specs.Scripts.{Script, with_term}
use Rattle.term_expansion.specs.Values.{IsValue}
use Rattle.term_names.specs.declared.heads.Head.{Head}
use Rattle.term_reader.specs.declared.layers.Layer.{Layer}
use Rattle.term_names.specs.declared.looking_up.Found.{Found}
use Rattle.text_items.specs.ItemsAt.{ItemsView}
use Rattle.term_reader.specs.ReadingViews.{ReadingView}
use Rattle.term_expansion.specs.declared.values.Value.{Value}
use Rattle.term_expansion.specs.SymbolsAndTerms.{both, SymbolsAndTerms}

-- the term that is read now has this top
pub record HasTop (items : ItemsView) (g : WholeReading) (w : SymbolsAndTerms) (r : ReadingView) (k : ℕ) (layer : Layer) : Type 0 where
  pub at : IsAt items g w r k
  pub top : IsLayer items k layer (form_at items k)

-- the value is this number, and not too high
pub record IsNumber (s : Table) (c : Value) (n : ℤ) : Type 0 where
  pub is : (v : TermsView) (m : ℕ) → n ≡ pos m → IsValue (both s v) c (record { tree = numeral m; sort = Sort.Int })
  pub low : c.height ≤ most_height

-- nothing was found of a name
abbrev pub is_none_found : Found → Bool
is_none_found Found.Unknown = true
is_none_found (Found.Term c) = false
is_none_found (Found.Named w) = false
is_none_found (Found.Macro w) = false
is_none_found (Found.Symbol n) = false

-- what is applied where a name stands in the head of an application, or none where the name is unknown
abbrev pub IsHeadFound : SymbolsAndTerms → KnownView → Option Head → Option Meaning → Type 0
IsHeadFound w k None o = o ≡ None
IsHeadFound w k (Some h) o = (m : Meaning) × (o ≡ Some m) × HeadMeans w k h m

-- A term without parts was read: its value, with no change of the script but that it was read.
pub record IsReadAlone (w : SymbolsAndTerms) (sc : Script) (c : Value) (t : Typed) (last : Script) : Type 0 where
  pub same : last ≡ with_term t.tree sc
  pub is : IsValue w c t
  pub low : c.height ≤ most_height
