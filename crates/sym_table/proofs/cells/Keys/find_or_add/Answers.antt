-- The key is found, and stands at its place among all, or it is nowhere and goes last.
use Rattle.std.proofs.Common.{◌≡◌, ◌∙◌, ◌++◌, [], ◌∷◌, length, inr, ap, subst, rules}
use Rattle.sym_table.specs.Names.{Lacks, PlacesItem}
use Rattle.sym_table.proofs.KeyLists.{ArePlaced-key, lacks_key, new_item}
use Rattle.sym_table.proofs.Keys.{Decides-symbol}
use Rattle.sym_table.proofs.Lists.{insert_key-places}
use Rattle.sym_table.proofs.cells.Keys.find_or_add.Goals as goal

new_key : (c : goal.After-unwrap-2) → Lacks c.self.inside.found.keys c.args.key × (c.insert_full.new.self.keys ≡ c.self.inside.found.keys ++ c.args.key ∷ [])
new_key c =
    let placed : PlacesItem c.self.inside.found.keys c.insert_full.new.self.keys c.in_ok-number.number c.args.key = rw (c.in_ok-number.ensures.keys, c.in_ok-number.ensures.index) (insert_key-places _ Decides-symbol c.self.inside.found.keys c.args.key) in
    new_item _ _ _ _ c.in_ok-number.is_new placed c.if-not-is_new.false c.in_ok-number.ensures.len

all : (c : goal.After-unwrap-2) → c.push-2.new.self.items ≡ c.self.inside.all.items ++ c.args.key ∷ []
all c =
    let pushed = rw c.unwrap-2.ensures at c.push-2.ensures.items in
    pushed ∙ ap (λ ks. ks ++ c.args.key ∷ []) c.in_ok-reserve.ensures.items

number : (c : goal.After-unwrap-2) → c.len-place.result ≡ length c.self.inside.all.items
number c = search (rules, c.len-place.ensures, c.in_ok-reserve.ensures.items)

places : (c : goal.After-unwrap-2) → c.push.new.self.items ≡ c.self.inside.places.items ++ length c.self.inside.all.items ∷ []
places c =
    let pushed = rw c.unwrap.ensures at c.push.ensures.items in
    pushed ∙ ap (λ ps. ps ++ c.len-place.result ∷ []) c.in_ok-reserve-2.ensures.items ∙ ap (λ n. c.self.inside.places.items ++ n ∷ []) (number c)

pub invariant_of-self-2 : goal.invariant_of-self-2
invariant_of-self-2 c =
    rw (all c, (new_key c).1, places c) (ArePlaced-key c.self.inside.all.items c.self.inside.found.keys c.self.inside.places.items c.args.key c.self.invariant)

pub returns-clause-ok : goal.returns-clause-ok
returns-clause-ok c =
    let lacks = lacks_key c.self.inside.all.items c.self.inside.found.keys c.self.inside.places.items c.args.key c.self.invariant c.requires (new_key c).0 in
    subst (λ old. PlacesItem old c.push-2.new.self.items c.len-place.result c.args.key) c.self.view_is (inr (lacks, number c, all c))
