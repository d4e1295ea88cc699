use Rattle.std.proofs.Common.{◌++◌, [], refl, subst, sym, arith}
use Rattle.std.specs.Option.{option_to_list}
use Rattle.flip_steps.proofs.MemoryLemmas.{equated_later}
use Rattle.flip_steps.proofs.OrderLemmas.{keeps_then}
use Rattle.elab_equality.specs.Walking.{LeadOn}
use Rattle.elab_equality.proofs.ReflectFewLemmas.{reflected_later}
use Rattle.elab_equality.proofs.ReflectLemmas.{first_made, first_same, first_sides, last_made, last_same, last_sides, leads_maybe, middle_flips}
use Rattle.elab_equality.proofs.WorkLemmas.{done_err, done_memory, done_ok, done_then, links_stay}
use Rattle.elab_equality.proofs.work.Work.reflect.Goals as goal

pub refl-requires-clause-given : goal.refl-requires-clause-given
refl-requires-clause-given c =
    let h = c.requires.reflected in
    first_same (λ anchors x. (c.images_are_closed.ensures.bound anchors x).1) c.images_are_closed.ensures.sorts c.args.at.now c.args.terms.now c.requires.job
    h.left_is.put_in.rule c.args.x.now h

pub refl-requires-clause-sides : goal.refl-requires-clause-sides
refl-requires-clause-sides c =
    let h = c.requires.reflected in
    first_sides (λ anchors x. (c.images_are_closed.ensures.bound anchors x).1) c.images_are_closed.ensures.sorts c.args.at.now c.args.terms.now c.requires.job
    h.left_is.put_in.rule c.args.x.now h

pub refl-requires-clause-made : goal.refl-requires-clause-made
refl-requires-clause-made c =
    let h = c.requires.reflected in
    first_made (λ anchors x. (c.images_are_closed.ensures.bound anchors x).1) c.images_are_closed.ensures.sorts c.args.at.now c.args.terms.now c.requires.job
    h.left_is.put_in.rule c.args.x.now h

pub returns-in_err-first-clause-done : goal.returns-in_err-first-clause-done
returns-in_err-first-clause-done c = done_err c.refl.new.self 4 c.from_residual.result c.in_err-first.ensures.done c.from_residual.ensures.1

pub join-requires-clause-work : goal.join-requires-clause-work
join-requires-clause-work c = c.in_ok-first.ensures.done.moved.work

pub join-requires-clause-pair : goal.join-requires-clause-pair
join-requires-clause-pair c =
    let p = c.args.at.now in
    let v = c.refl.new.terms in
    let keeps = c.in_ok-first.ensures.done.keeps in
    let h = reflected_later p c.args.terms.now v keeps c.args.x.now c.requires.reflected in
    middle_flips (λ anchors x. (c.images_are_closed.ensures.bound anchors x).1) c.images_are_closed.ensures.sorts p v
    (c.commands_stay.ensures.command p c.args.terms.now v keeps c.one_to_one.ensures c.requires.job) h.left_is.put_in.rule c.args.x.now h

pub returns-in_err-middle-clause-done : goal.returns-in_err-middle-clause-done
returns-in_err-middle-clause-done c =
    done_then 4 (omega arith) c.in_ok-first.ensures.done
    (done_err c.join.new.self 2 c.from_residual-in_err-middle.result c.in_err-middle.ensures.done c.from_residual-in_err-middle.ensures.1)

pub refl-requires-2-clause-work : goal.refl-requires-2-clause-work
refl-requires-2-clause-work c = c.in_ok-middle.ensures.done.moved.work

pub refl-requires-2-clause-given : goal.refl-requires-2-clause-given
refl-requires-2-clause-given c =
    let p = c.args.at.now in
    let w = c.join.new.terms in
    let keeps = keeps_then c.args.terms.now c.refl.new.terms w c.in_ok-first.ensures.done.keeps c.in_ok-middle.ensures.done.keeps in
    let h = reflected_later p c.args.terms.now w keeps c.args.x.now c.requires.reflected in
    last_same (λ anchors x. (c.images_are_closed.ensures.bound anchors x).1) c.images_are_closed.ensures.sorts p w
    (c.commands_stay.ensures.command p c.args.terms.now w keeps c.one_to_one-2.ensures c.requires.job) h.left_is.put_in.rule c.args.x.now h

pub refl-requires-2-clause-sides : goal.refl-requires-2-clause-sides
refl-requires-2-clause-sides c =
    let p = c.args.at.now in
    let w = c.join.new.terms in
    let keeps = keeps_then c.args.terms.now c.refl.new.terms w c.in_ok-first.ensures.done.keeps c.in_ok-middle.ensures.done.keeps in
    let h = reflected_later p c.args.terms.now w keeps c.args.x.now c.requires.reflected in
    last_sides (λ anchors x. (c.images_are_closed.ensures.bound anchors x).1) c.images_are_closed.ensures.sorts p w
    (c.commands_stay.ensures.command p c.args.terms.now w keeps c.one_to_one-2.ensures c.requires.job) h.left_is.put_in.rule c.args.x.now h

pub refl-requires-2-clause-made : goal.refl-requires-2-clause-made
refl-requires-2-clause-made c =
    let p = c.args.at.now in
    let w = c.join.new.terms in
    let keeps = keeps_then c.args.terms.now c.refl.new.terms w c.in_ok-first.ensures.done.keeps c.in_ok-middle.ensures.done.keeps in
    let h = reflected_later p c.args.terms.now w keeps c.args.x.now c.requires.reflected in
    last_made (λ anchors x. (c.images_are_closed.ensures.bound anchors x).1) c.images_are_closed.ensures.sorts p w
    (c.commands_stay.ensures.command p c.args.terms.now w keeps c.one_to_one-2.ensures c.requires.job) h.left_is.put_in.rule c.args.x.now h

pub returns-in_err-last-clause-done : goal.returns-in_err-last-clause-done
returns-in_err-last-clause-done c =
    done_then 4 (omega arith) c.in_ok-first.ensures.done
    (done_then 3 (omega arith) c.in_ok-middle.ensures.done
    (done_err c.refl-2.new.self 1 c.from_residual-in_err-last.result c.in_err-last.ensures.done c.from_residual-in_err-last.ensures.1))

pub returns-in_err-links-clause-done : goal.returns-in_err-links-clause-done
returns-in_err-links-clause-done c =
    done_then 4 (omega arith) c.in_ok-first.ensures.done
    (done_then 3 (omega arith) c.in_ok-middle.ensures.done
    (done_then 1 (omega arith) c.in_ok-last.ensures.done
    (done_memory c.args.at.now c.refl-2.new.terms c.refl-2.new.self c.refl-2.new.self 0 c.from_residual-in_err-links.result c.from_residual-in_err-links.ensures.1)))

pub returns-clause-done : goal.returns-clause-done
returns-clause-done c =
    done_then 4 (omega arith) c.in_ok-first.ensures.done
    (done_then 3 (omega arith) c.in_ok-middle.ensures.done (done_ok 1 c.in_ok-links.links (omega arith) c.in_ok-last.ensures.done))

pub returns-clause-linked : goal.returns-clause-linked
returns-clause-linked c =
    let p = c.args.at.now in
    let w = c.refl-2.new.terms in
    let x = c.args.x.now in
    let steps = c.refl-2.new.self.block in
    let middle = c.in_ok-middle.ensures in
    let last = c.in_ok-last.ensures in
    let both = done_then 3 (omega arith) middle.done last.done in
    subst (λ links. LeadOn p w steps x.left links x.right) (sym c.in_ok-links.ensures)
    (leads_maybe p w steps x.left x.right_image x.right (option_to_list c.in_ok-first.first ++ option_to_list c.in_ok-middle.middle) c.in_ok-last.last
    (leads_maybe p w steps x.left x.left_image x.right_image (option_to_list c.in_ok-first.first) c.in_ok-middle.middle
    (leads_maybe p w steps x.left x.left x.left_image [] c.in_ok-first.first refl
    (equated_later links_stay p c.refl.new.terms w c.refl.new.self.block steps both.keeps both.moved.more c.in_ok-first.first x.left x.left_image
    c.in_ok-first.ensures.linked))
    (equated_later links_stay p c.join.new.terms w c.join.new.self.block steps last.done.keeps last.done.moved.more c.in_ok-middle.middle x.left_image
    x.right_image middle.linked))
    last.linked)
