-- The first ones stay.
use Rattle.std.proofs.Common.{◌∙◌, ap, sym, subst, take, List, ℕ}
use Rattle.std.proofs.lemmas.List.{take-map}
use Rattle.alethe_reader.specs.Ids.{Used, IdsView}
use Rattle.alethe_reader.specs.HeldIds.{used_by, used, IsLatest}
use Rattle.alethe_reader.proofs.IdLemmas.{latest_taken}
use Rattle.alethe_reader.proofs.ids.Ids.leave.Goals as goal

pub invariant_of-self : goal.invariant_of-self
invariant_of-self c =
    subst (IsLatest c.self.inside.names c.self.inside.latest.items) (sym c.truncate.ensures.items)
    (latest_taken c.self.inside.names c.self.inside.latest.items c.self.inside.held.items c.args.len c.self.invariant)

abbrev view_of : List (List ℕ) → List Used → IdsView
view_of names ids = record { names = names; used = ids }

pub returns : goal.returns
returns c =
    ap (view_of c.self.inside.names) (ap (used c.self.inside.names) c.truncate.ensures.items ∙ sym (take-map (used_by c.self.inside.names) c.args.len c.self.inside.held.items))
    ∙ ap (λ (v : IdsView). view_of v.names (take c.args.len v.used)) c.self.view_is
