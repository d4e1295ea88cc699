use Rattle.std.proofs.Common.{◌≡◌, ◌∙◌, ◌++◌, ◌∷◌, [], true, is_ok, refl, ap, sym, subst, arith}
use Rattle.term_model.proofs.Basics.{taken_where}
use Rattle.contexts.specs.declared.frames.Frame.{Frame}
use Rattle.contexts.specs.Becoming.{look_of}
use Rattle.contexts.specs.Firsts.{first_for}
use Rattle.contexts.specs.Kept.{IsRight, all_bindings}
use Rattle.contexts.proofs.FirstLemmas.{trees_of}
use Rattle.contexts.proofs.FrameLemmas.{back_none}
use Rattle.contexts.proofs.KeptFrames.{ok_where_room, right_again, frames_in, right_in, none_before}
use Rattle.contexts.proofs.kept.Substitution.enter.Goals as goal

pub put_all_back-requires : goal.put_all_back-requires
put_all_back-requires c = record {
  before = look_of c.args.self.now.images;
  back = c.put_all.ensures.back (look_of c.args.self.now.images) (back_none _ c.new-before.ensures.items _);
}

pub returns-in-Err-clause-right : goal.returns-in-Err-clause-right
returns-in-Err-clause-right c =
    right_again c.args.terms.now c.args.self.now (record { images = c.put_all_back.new.images; around = c.reserve.new.self; here = c.args.self.now.here; closed = c.args.self.now.closed })
    (c.put_all_back.ensures (look_of c.args.self.now.images) (c.put_all.ensures.back (look_of c.args.self.now.images) (back_none _ c.new-before.ensures.items _)))
    c.reserve.ensures.items refl refl c.requires.right

pub returns-clause-frames : goal.returns-clause-frames
returns-clause-frames c =
    let went : is_ok c.push-room.result ≡ true = ok_where_room c.push-room.result _ c.push-room.ensures.full (λ full. let room = c.in_ok-reserve.ensures.ok in omega arith) in
    let items = taken_where (is_ok c.push-room.result) c.push-room.new.self.items _ _ went c.push-room.ensures.items in
    frames_in c.args.self.now (record { images = c.put_all.new.images; around = c.push-room.new.self; here = c.replace-outer.new.dest; closed = c.give_way.new.self }) c.args.bindings.items
    (items ∙ ap (λ fs. fs ++ c.replace-outer.result ∷ []) c.reserve.ensures.items ∙ ap (λ (f : Frame). c.args.self.now.around.items ++ f ∷ []) c.replace-outer.ensures.value)
    (ap (λ (f : Frame). f.bindings.items) c.replace-outer.ensures.after)

pub returns-clause-right : goal.returns-clause-right
returns-clause-right c =
    let went : is_ok c.push-room.result ≡ true = ok_where_room c.push-room.result _ c.push-room.ensures.full (λ full. let room = c.in_ok-reserve.ensures.ok in omega arith) in
    let items = taken_where (is_ok c.push-room.result) c.push-room.new.self.items _ _ went c.push-room.ensures.items in
    let trees = trees_of c.args.symbols.now c.leaves_differ.ensures.table c.args.terms.now (c.args.bindings.items ++ all_bindings c.args.self.now) c.requires.bindings.means c.requires.bindings.are in
    subst (λ (f : Frame). IsRight c.args.terms.now (record { images = c.put_all.new.images; around = c.push-room.new.self; here = f; closed = c.give_way.new.self })) (sym c.replace-outer.ensures.after)
    (right_in c.args.terms.now c.args.self.now
    (record { images = c.put_all.new.images; around = c.push-room.new.self; here = record { bindings = c.args.bindings; before = c.put_all.new.before; walked = c.in_ok-walked.walked }; closed = c.give_way.new.self })
    (items ∙ ap (λ fs. fs ++ c.replace-outer.result ∷ []) c.reserve.ensures.items ∙ ap (λ (f : Frame). c.args.self.now.around.items ++ f ∷ []) c.replace-outer.ensures.value)
    (λ k. c.in_default.ensures.put (all_bindings c.args.self.now) c.requires.right.images k ∙ ap (λ bs. first_for (bs ++ all_bindings c.args.self.now) k) c.deref.ensures.value)
    (c.put_all.ensures.back (look_of c.args.self.now.images) (back_none _ c.new-before.ensures.items _))
    (c.in_ok-walked.ensures c.args.terms.now.pass (first_for (c.args.bindings.items ++ all_bindings c.args.self.now)) trees.trees trees.are)
    (c.give_way.ensures c.args.terms.now.pass (look_of c.args.self.now.images) (look_of c.put_all.new.images)
    (λ k none outer.
    c.in_default.ensures.put (all_bindings c.args.self.now) c.requires.right.images k
    ∙ ap (λ bs. first_for (bs ++ all_bindings c.args.self.now) k) c.deref.ensures.value
    ∙ none_before c.args.bindings.items (all_bindings c.args.self.now) k (ap (λ bs. first_for bs k) (sym c.deref-2.ensures.value) ∙ none)
    ∙ sym (c.requires.right.images k) ∙ outer) c.requires.right.closed)
    c.requires.right)
