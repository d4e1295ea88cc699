-- The name was in use last at one place, and the id is in use where it stands there still.
use Rattle.std.proofs.Common.{sym, subst}
use Rattle.alethe_reader.specs.HeldIds.{IsHeldOf}
use Rattle.alethe_reader.specs.Ids.{IdsView, IsUnused, IsIdFound}
use Rattle.alethe_reader.proofs.IdLemmas.{no_name, latest_read, held_found}
use Rattle.alethe_reader.proofs.ids.Ids.look.Goals as goal

pub returns-in_default-clause-found : goal.returns-in_default-clause-found
returns-in_default-clause-found c =
    subst (λ (v : IdsView). IsUnused v.used c.args.id.now) c.self.view_is
    (no_name c.self.inside.names c.self.inside.latest.items c.self.inside.held.items c.args.id.now c.in_default.ensures.once c.self.invariant (sym c.in_default.ensures.number))

pub returns-clause-found : goal.returns-clause-found
returns-clause-found c =
    let numbered = sym c.in-Some.ensures.number in
    let there = latest_read c.self.inside.names c.self.inside.latest.items c.self.inside.held.items c.args.id.now c.in-Some.ensures.once c.self.invariant
    _ _ numbered c.index-place.ensures in
    subst (λ (v : IdsView). IsIdFound v.used c.args.id.now c.held_of-found.result) c.self.view_is
    (held_found c.self.inside.names c.self.inside.latest.items c.self.inside.held.items c.args.id.now c.in-Some.ensures.once c.self.invariant _ _ _ numbered there
    (subst (λ hs. IsHeldOf hs c.index-place.result.now c.in-Some.name c.held_of-found.result) c.deref.ensures.value c.held_of-found.ensures))
