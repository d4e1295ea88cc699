-- Private. Frames: what is put in for leaves, each over those around it, and how to go back.
use Rattle.std.specs.Prelude.{◌≡◌, ◌≢◌, ℕ, List, [], ◌∷◌, ◌++◌, Option, Some, IsSome, ⊤}
use Rattle.pair_pool.specs.Views.{PassView}
use Rattle.contexts.specs.declared.frames.Frame.{Frame}
use Rattle.contexts.specs.Becoming.{Look}
use Rattle.contexts.specs.Firsts.{first_for}
use Rattle.contexts.specs.Places.{IsWalked}
use Rattle.contexts.specs.PutIn.{joined}

-- The list has leaves, each with what was put in for it before. Put back from its end, they turn the one look-up into the
-- other; and what is put back over something finds something there.
abbrev pub PutsBack : List (ℕ × Option ℕ) → Look → Look → Type 0
PutsBack [] now before = (k : ℕ) → now k ≡ before k
PutsBack (e ∷ es) now before =
    (after : Look) × (before e.0 ≡ e.1) × ((k : ℕ) → k ≢ e.0 → after k ≡ before k)
    × ((r : ℕ) → e.1 ≡ Some r → IsSome (after e.0)) × PutsBack es now after

-- the list leads back to some look
pub record LeadsBack (es : List (ℕ × Option ℕ)) (now : Look) : Type 0 where
  pub before : Look
  pub back : PutsBack es now before

-- the bindings of frames, the last first, before these
abbrev pub frames_in_front : List (List (ℕ × ℕ)) → List Frame → List (List (ℕ × ℕ))
frames_in_front outer [] = outer
frames_in_front outer (f ∷ fs) = frames_in_front (f.bindings.items ∷ outer) fs

-- the frame leads back to what stands around it, and what it remembers is right
pub record IsFrame (pass : PassView) (outer : List (ℕ × ℕ)) (frame : Frame) : Type 0 where
  pub back : PutsBack frame.before.items (first_for (frame.bindings.items ++ outer)) (first_for outer)
  pub walked : IsWalked pass (first_for (frame.bindings.items ++ outer)) frame.walked.layers.lists.items frame.walked.memo

-- the same of each, the outermost first, inside these
abbrev pub AreRightFrames : PassView → List (List (ℕ × ℕ)) → List Frame → Type 0
AreRightFrames pass outer [] = ⊤
AreRightFrames pass outer (f ∷ fs) = IsFrame pass (joined outer) f × AreRightFrames pass (f.bindings.items ∷ outer) fs
