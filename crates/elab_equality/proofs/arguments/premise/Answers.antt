use Rattle.std.proofs.Common.{◌<◌, ◌≡◌, get_or, length, slice_get, Some, sym, subst, refl}
use Rattle.std.proofs.lemmas.Option.{slice_get-get_or}
use Rattle.elab_equality.proofs.arguments.premise.Goals as goal

pub bounds-premises-place : goal.bounds-premises-place
bounds-premises-place c = rw c.premises.ensures c.requires.place

pub returns : goal.returns
returns c =
    let found = c.premises.result.now in
    let within = subst (λ xs. c.args.place < length xs) (sym c.premises.ensures) c.requires.place in
    record {
      premise = get_or found c.args.place 0;
      there = subst (λ xs. slice_get xs c.args.place ≡ Some (get_or found c.args.place 0)) c.premises.ensures (slice_get-get_or found c.args.place 0 within);
      is = refl;
    }
