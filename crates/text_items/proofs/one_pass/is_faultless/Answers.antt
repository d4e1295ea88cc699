use Rattle.std.proofs.Common.{sym, ◌∙◌, ◌≡◌, Bool, true, false, not, map, refl}
use Rattle.text_items.specs.ItemsAt.{item_at, items_at}
use Rattle.text_items.specs.Keywords.{known_of}
use Rattle.text_items.specs.OnePass.{fault_still}
use Rattle.text_items.proofs.ItemsAtLemmas.{told_on, told_at_end}
use Rattle.text_items.proofs.OnePassLemmas.{fault_start, fault_end, fault_on}
use Rattle.text_items.proofs.one_pass.is_faultless.Goals as goal

pub items-init : goal.items-init
items-init c = λ place. fault_start (map known_of c.args.known.now) place _ (items_at c.args.items.now c.args.first c.args.end) refl

pub items-preserved : goal.items-preserved
items-preserved c = λ place.
    told_on c.args.items.now c.items.k c.args.end c.node-k.result c.node-k.ensures c.items-test.true c.requires (fault_still (map known_of c.args.known.now) place c.items.stood c.items.next) _ (c.items.invariant place)
    ∙ fault_on (map known_of c.args.known.now) place (item_at c.args.items.now c.items.k) (items_at c.args.items.now c.node-k.result.next c.args.end) c.items.stood c.pass.new.stood c.items.next c.in-Some.after c.next_fault.result
    c.next_fault.ensures (sym c.is_some.ensures ∙ c.if-is_some.false) c.in-Some.ensures

is_false : (answer b : Bool) → answer ≡ b → not answer ≡ true → b ≡ false
is_false false b e h = sym e
is_false true b e h = cc

pub returns-then-not-is_value : goal.returns-then-not-is_value
returns-then-not-is_value c =
    λ is place.
    sym (fault_end (map known_of c.args.known.now) place c.items.stood c.items.next (sym c.is_value.ensures ∙ c.if-not-is_value.true) (is_false _ _ c.lacks.ensures is))
    ∙ told_at_end c.args.items.now c.items.k c.args.end (fault_still (map known_of c.args.known.now) place c.items.stood c.items.next) _ (c.items.invariant place) c.items-test.false
