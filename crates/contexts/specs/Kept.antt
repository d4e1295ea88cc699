-- Public. A substitution that remembers what has become of terms, frame by frame.
use Rattle.std.specs.Prelude.{◌≡◌, ℕ, List, [], ◌∷◌}
use Rattle.term_pool.specs.Views.{TermsView}
use Rattle.contexts.specs.declared.kept.Substitution.{Substitution}
use Rattle.contexts.specs.Becoming.{look_of}
use Rattle.contexts.specs.Closed.{IsClosedFor}
use Rattle.contexts.specs.Firsts.{first_for}
use Rattle.contexts.specs.Frames.{frames_in_front, IsFrame, AreRightFrames}
use Rattle.contexts.specs.PutIn.{joined}

-- the bindings of its frames, of leaves and references, the innermost frame first
abbrev pub frames_of : Substitution → List (List (ℕ × ℕ))
frames_of x = x.here.bindings.items ∷ frames_in_front [] x.around.items

-- all its bindings: of two for one leaf the first counts
abbrev pub all_bindings : Substitution → List (ℕ × ℕ)
all_bindings x = joined (frames_of x)

-- What it remembers of terms is right, by what the pass knows. What the fields say is not for other crates: they get this
-- from `new`, and it stays.
pub record IsRight (v : TermsView) (x : Substitution) : Type 0 where
  pub images : (k : ℕ) → look_of x.images k ≡ first_for (all_bindings x) k
  pub here : IsFrame v.pass (joined (frames_in_front [] x.around.items)) x.here
  pub around : AreRightFrames v.pass [] x.around.items
  pub closed : IsClosedFor v.pass (look_of x.images) x.closed

-- it is right for some terms
pub record IsRightForSome (x : Substitution) : Type 0 where
  pub view : TermsView
  pub right : IsRight view x
