-- What is read at the place has the name's number.
use Rattle.std.proofs.Common.{◌≡◌, ◌∙◌, ℕ, Some, refl, ap, subst}
use Rattle.std.proofs.lemmas.Option.{slice_get-get_or}
use Rattle.alethe_reader.specs.declared.ids.Held.{Held}
use Rattle.alethe_reader.proofs.ids.held_of.Goals as goal

named : (h : Held) (n : ℕ) → h.name ≡ n → h ≡ record { name = n; role = h.role; number = h.number }
named h n e = subst (λ m. h ≡ record { name = m; role = h.role; number = h.number }) e refl

pub returns : goal.returns
returns c = (refl, slice_get-get_or c.args.held.now c.args.place _ c.if-place-held.false ∙ ap Some (named _ _ c.if-here-name.false))
