-- Private. What is placed for a command, and for what there was no room, in the words of the public call.
use Rattle.std.proofs.Common.{inl}
use Rattle.term_pool.proofs.PlacedCells.{lacks_more, places_more}
use Rattle.term_pool.specs.Placing.{LacksCellOf, PlacesCellsOf}
use Rattle.term_pool.specs.Views.{TermsView}
use Rattle.equality_steps.specs.declared.site.Site.{Site}
use Rattle.equality_blocks.specs.Made.{IsMadeFor, IsPlacedFor}
use Rattle.elab_denials.specs.Working.{LacksRoom, Went}

pub went_placed : (p : Site) (v w : TermsView) → Went p v w → PlacesCellsOf p.symbols.now v.pass w.pass (IsPlacedFor p w)
went_placed p v w h = places_more p.symbols.now v.pass w.pass (IsMadeFor p w) (IsPlacedFor p w) (λ x made. inl made) h.placed

pub lacks_placed : (p : Site) (v : TermsView) → LacksRoom p v → LacksCellOf p.symbols.now v.pass (IsPlacedFor p v)
lacks_placed p v h = lacks_more p.symbols.now v.pass (IsMadeFor p v) (IsPlacedFor p v) (λ x made. inl made) h
