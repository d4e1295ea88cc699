-- The name stands at the new place, where it is in use last.
use Rattle.std.proofs.Common.{◌≡◌, ◌∙◌, ◌++◌, [], ◌∷◌, ap, sym, subst, length, set, rules}
use Rattle.alethe_reader.specs.declared.ids.Held.{Held}
use Rattle.alethe_reader.specs.Ids.{IdsView, IsUnused}
use Rattle.alethe_reader.specs.HeldIds.{used, IsLatest}
use Rattle.alethe_reader.proofs.IdLemmas.{latest_numbered, used_numbered, latest_pushed, used_pushed}
use Rattle.alethe_reader.proofs.ids.Ids.push.Goals as goal

abbrev held : (c : goal.After-unwrap) → Held
held c = record { name = c.in_ok-name.name; role = c.args.role; number = c.args.number }

grown : (c : goal.After-unwrap) → IsLatest c.number_of.new.names c.number_of.new.latest.items c.self.inside.held.items
grown c = latest_numbered _ _ _ _ _ _ _ c.in_ok-name.ensures.number c.self.invariant

same : (c : goal.After-unwrap) → used c.number_of.new.names c.self.inside.held.items ≡ c.args.self.now.used
same c = used_numbered _ _ _ _ _ _ _ c.in_ok-name.ensures.number c.self.invariant ∙ ap (λ (v : IdsView). v.used) c.self.view_is

pushed : (c : goal.After-unwrap) → c.push.new.self.items ≡ c.self.inside.held.items ++ held c ∷ []
pushed c =
    let e = rw c.unwrap.ensures at c.push.ensures.items in
    e ∙ ap (λ hs. hs ++ held c ∷ []) c.in_ok-reserve.ensures.items

pub invariant_of-self-2 : goal.invariant_of-self-2
invariant_of-self-2 c =
    let count : c.len-place.result ≡ length c.reserve.new.self.items = search (rules, c.len-place.ensures) in
    let last = count ∙ ap length c.in_ok-reserve.ensures.items in
    subst (λ n. IsLatest c.number_of.new.names (set c.number_of.new.latest.items c.in_ok-name.name n) c.push.new.self.items) (sym last)
    (subst (IsLatest c.number_of.new.names (set c.number_of.new.latest.items c.in_ok-name.name (length c.self.inside.held.items))) (sym (pushed c))
    (latest_pushed c.number_of.new.names c.number_of.new.latest.items c.self.inside.held.items (held c) c.args.id.now (grown c) c.in_ok-name.ensures.number.number
    (subst (λ us. IsUnused us c.args.id.now) (sym (same c)) c.requires.unused)))

pub returns-clause-pushed : goal.returns-clause-pushed
returns-clause-pushed c =
    ap (used c.number_of.new.names) (pushed c)
    ∙ (used_pushed c.number_of.new.names c.self.inside.held.items (held c) c.args.id.now c.in_ok-name.ensures.number.number
    ∙ ap (λ us. us ++ record { id = c.args.id.now; role = c.args.role; number = c.args.number } ∷ []) (same c))
