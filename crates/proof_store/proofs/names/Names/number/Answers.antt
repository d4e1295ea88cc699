-- What was inserted, or stood there before, is the name.
use Rattle.std.proofs.Common.{◌≡◌, slice_get, Some, sym, subst, ◌∙◌, ap}
use Rattle.std.specs.Str.{bytes_eq}
use Rattle.proof_store.proofs.NameLemmas.{texts, stored_name, kept_name}
use Rattle.proof_store.proofs.names.Names.number.Goals as goal

pub returns-clause-found : goal.returns-clause-found
returns-clause-found c =
    stored_name c.insert_full.new.self.keys c.in_ok-number.number c.in_ok-owned.owned c.in_ok-number.ensures.stored
    ∙ ap Some c.in_ok-owned.ensures.items

pub returns-clause-keeps : goal.returns-clause-keeps
returns-clause-keeps c k x h =
    let there = subst (λ names. slice_get names k ≡ Some x) (sym c.self.view_is) h in
    subst (λ keys. slice_get (texts keys) k ≡ Some x) (sym c.in_ok-number.ensures.keys) (kept_name (λ x y. bytes_eq x.items y.items) c.self.inside.names.keys c.in_ok-owned.owned k x there)
