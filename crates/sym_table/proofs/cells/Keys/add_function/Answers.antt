-- A function is not looked for by its key.
use Rattle.std.proofs.Common.{◌≡◌, ◌∙◌, ◌++◌, [], ◌∷◌, ap, sym, subst}
use Rattle.sym_table.specs.declared.cells.Symbol.{Symbol}
use Rattle.sym_table.specs.KeyPlaces.{ArePlaced}
use Rattle.sym_table.proofs.KeyLists.{ArePlaced-function}
use Rattle.sym_table.proofs.cells.Keys.add_function.Goals as goal

pub invariant_of-self-2 : goal.invariant_of-self-2
invariant_of-self-2 c =
    let pushed = rw c.unwrap-2.ensures at c.push-2.ensures.items in
    let all : c.push-2.new.self.items ≡ c.self.inside.all.items ++ Symbol.Function c.len-number.result ∷ [] = pushed ∙ ap (λ ks. ks ++ Symbol.Function c.len-number.result ∷ []) c.in_ok-reserve.ensures.items in
    subst (λ ks. ArePlaced ks c.self.inside.found.keys c.self.inside.places.items) (sym all)
    (ArePlaced-function c.self.inside.all.items c.self.inside.found.keys c.self.inside.places.items c.len-number.result c.self.invariant)
