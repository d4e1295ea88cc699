-- Public. What is known of the lists that stand in some bytes, wherever these stand.
use Rattle.std.specs.Prelude.{◌≡◌, ℕ, List, slice_range}
use Rattle.sexpr.specs.Items.{Items, list}
use Rattle.sexpr.specs.Spans.{IsListAt}
use Rattle.problem_text.specs.Alike.{SayTheSame}
use Rattle.problem_text.specs.Names.{Place}
use Rattle.problem_text.specs.Outcomes.{done}
use Rattle.problem_text.specs.Scripts.{Script}
use Rattle.problem_text.specs.Terms.{read_term}
use Rattle.problem_text.specs.TypedTerms.{Typed}

-- The list is read to this term, and gives no name.
pub record IsReadTo (p : Place) (s : Script) (at : ℕ) (items : Items) (t : Typed) : Type 0 where
  pub last : Script
  pub is : read_term (list at items) p s ≡ done t last
  pub same : SayTheSame s last

-- Each list that stands in these bytes, in whatever text, is read to this term here.
abbrev pub StandFor : Place → Script → List ℕ → Typed → Type 0
StandFor p s bytes t =
    (text : List ℕ) (at end : ℕ) (items : Items) → IsListAt text at end items → slice_range text at end ≡ bytes → IsReadTo p s at items t
