use Rattle.std.proofs.Common.{◌∙◌, ◌++◌, ◌∷◌, [], refl, ap, sym, subst}
use Rattle.contexts.specs.declared.frames.Frame.{Frame}
use Rattle.contexts.specs.Becoming.{look_of}
use Rattle.contexts.specs.Frames.{PutsBack, LeadsBack}
use Rattle.contexts.proofs.KeptFrames.{leads_back, frames_left, right_left}
use Rattle.contexts.proofs.kept.Substitution.leave.Goals as goal

pub put_all_back-requires : goal.put_all_back-requires
put_all_back-requires c =
    subst (λ (f : Frame). LeadsBack f.before.items (look_of c.args.self.now.images)) (sym c.replace-inner.ensures.value)
    (leads_back c.requires.view c.args.self.now c.requires.right)

pub returns-clause-frames : goal.returns-clause-frames
returns-clause-frames c =
    frames_left c.args.self.now (record { images = c.put_all_back.new.images; around = c.pop.new.self; here = c.replace-inner.new.dest; closed = c.args.self.now.closed })
    (c.in-Some.ensures.items ∙ ap (λ (f : Frame). c.pop.new.self.items ++ f ∷ []) (sym c.replace-inner.ensures.after))

pub returns-clause-right : goal.returns-clause-right
returns-clause-right c v right =
    right_left v c.args.self.now (record { images = c.put_all_back.new.images; around = c.pop.new.self; here = c.replace-inner.new.dest; closed = c.args.self.now.closed })
    (c.in-Some.ensures.items ∙ ap (λ (f : Frame). c.pop.new.self.items ++ f ∷ []) (sym c.replace-inner.ensures.after))
    (λ outer back k.
    c.put_all_back.ensures outer (subst (λ (f : Frame). PutsBack f.before.items (look_of c.args.self.now.images) outer) (sym c.replace-inner.ensures.value) back) k)
    refl right
