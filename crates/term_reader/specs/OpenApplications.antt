-- Private. Whether an application is being read, and not yet its last argument.
use Rattle.std.specs.Prelude.{ℕ, List, ◌∷◌, Bool, false, not, nat_eq}
use Rattle.term_reader.specs.declared.frames.Frame.{Frame}

-- The innermost open form is an application that has more arguments behind node n.
abbrev pub wants_more : List Frame → ℕ → Bool
wants_more (Frame.Arguments opened ∷ frames) n = not (nat_eq n opened.end)
wants_more frames n = false
