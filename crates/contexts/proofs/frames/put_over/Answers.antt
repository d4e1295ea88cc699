use Rattle.std.proofs.Common.{◌∙◌, sym}
use Rattle.contexts.specs.Becoming.{look_of}
use Rattle.contexts.proofs.FrameLemmas.{back_more}
use Rattle.contexts.proofs.KeptFrames.{look_unchanged, look_others, some_is}
use Rattle.contexts.proofs.frames.put_over.Goals as goal

pub returns-in_err-insert-clause-back : goal.returns-in_err-insert-clause-back
returns-in_err-insert-clause-back c outer h =
    let same = look_unchanged c.args.images.now c.insert.new.self c.in_err-insert.ensures.err in
    rw c.in_ok-push.ensures.items
    (back_more _ (c.args.leaf, c.copied-old.result) (look_of c.args.images.now) (look_of c.insert.new.self) outer h
    (sym (c.copied-old.ensures ∙ c.get.ensures.value)) (λ k apart. same k)
    (λ r is. some_is _ r (same c.args.leaf ∙ sym (c.copied-old.ensures ∙ c.get.ensures.value) ∙ is)))

pub returns-clause-back : goal.returns-clause-back
returns-clause-back c outer h =
    rw c.in_ok-push.ensures.items
    (back_more _ (c.args.leaf, c.copied-old.result) (look_of c.args.images.now) (look_of c.insert.new.self) outer h
    (sym (c.copied-old.ensures ∙ c.get.ensures.value))
    (look_others c.args.images.now c.insert.new.self c.args.leaf c.in_ok-insert.ensures.updates.2)
    (λ r is. some_is _ c.args.image c.in_ok-insert.ensures.updates.1))
