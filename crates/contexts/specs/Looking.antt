-- Private. What a look at a cell comes to.
use Rattle.std.specs.Prelude.{◌≡◌, ℕ}
use Rattle.pair_pool.specs.Views.{PassView}
use Rattle.term_pool.specs.Views.{IsKnownCell}
use Rattle.contexts.specs.Closed.{IsClosed}
use Rattle.contexts.specs.declared.closed.Closed.{Closed}
use Rattle.contexts.specs.declared.closed.Mark.{Mark}
use Rattle.contexts.specs.declared.looking.Next.{Next}
use Rattle.contexts.specs.declared.looking.Next.TheVariants.{Part, Told}

-- a part of it is a cell, or it is marked rightly
abbrev pub IsNext : PassView → Closed → ℕ → Next → Type 0
IsNext pass c r (Part part) = IsKnownCell pass part
IsNext pass c r (Told mark) = mark ≡ Mark.Closed → IsClosed pass c r
