-- The name has its number, or it gets the next one.
use Rattle.std.proofs.Common.{◌∙◌, ◌++◌, [], ◌∷◌, inl, inr, refl, sym, ap, slice_get}
use Rattle.sym_table.proofs.Places.{position-there}
use Rattle.term_names.proofs.HeldVariables.{slice_get-last}
use Rattle.alethe_reader.proofs.ids.number_of.Goals as goal

pub returns-in-Some-clause-number : goal.returns-in-Some-clause-number
returns-in-Some-clause-number c = record {
  number = position-there c.args.names.now c.args.name.now c.in-Some.number (sym c.requires.number ∙ c.in-Some.is);
  others = inl (refl, refl);
}

pub returns-clause-number : goal.returns-clause-number
returns-clause-number c =
    let pushed = rw c.unwrap.ensures at c.push.ensures.items in
    record {
      number = ap (λ ns. slice_get ns c.len-number.result) c.in_ok-add.ensures.added ∙ slice_get-last c.args.names.now c.args.name.now c.len-number.result (sym c.len-number.ensures);
      others = inr (c.in_ok-add.ensures.added, pushed ∙ ap (λ xs. xs ++ 0 ∷ []) c.in_ok-reserve.ensures.items);
    }
