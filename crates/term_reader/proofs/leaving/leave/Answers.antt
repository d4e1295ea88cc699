-- The innermost form is one of four.
use Rattle.std.proofs.Common.{◌≡◌, ◌∙◌, ◌∷◌, ap, sym, refl}
use Rattle.term_reader.specs.ReadingViews.{reader_in}
use Rattle.term_reader.specs.declared.frames.Frame.{Frame}
use Rattle.term_reader.specs.declared.frames.Frame.TheVariants as frame
use Rattle.term_reader.proofs.InnermostForm.{done_goes, done_inside, done_few, done_progress}
use Rattle.term_reader.proofs.LeavingArguments.{argument_goes_on, had_last}
use Rattle.term_reader.proofs.leaving.leave.Goals as goal

pub returns-then-wants_more-clause-goes : goal.returns-then-wants_more-clause-goes
returns-then-wants_more-clause-goes c = λ g h.
    argument_goes_on _ g _ _ (reader_in c.args.settings.now c.args.reader.now) c.args.read.value c.args.read.next c.push.new.self c.in_ok-push.ensures.pushed
    c.args.reader.now.frames refl (sym c.wants_more.ensures ∙ c.if-wants_more.true) h

arguments_top : (c : goal.After-leave_arguments) → c.args.reader.now.frames ≡ frame.Arguments c.in-Arguments.form ∷ c.pop.new.self
arguments_top c = c.in-Some.ensures.top ∙ ap (λ (f : Frame). f ∷ c.pop.new.self) c.in-Arguments.is

last_argument : (c : goal.After-leave_arguments) → c.args.read.next ≡ c.in-Arguments.form.end
last_argument c = had_last _ c.args.read.next c.in-Arguments.form c.pop.new.self (arguments_top c) (sym c.wants_more.ensures ∙ c.if-wants_more.false)

pub returns-in-Arguments-clause-goes : goal.returns-in-Arguments-clause-goes
returns-in-Arguments-clause-goes c = done_goes (arguments_top c) (last_argument c) (c.leave_arguments.ensures.leaves c.args.items.now)

pub returns-in-Arguments-clause-inside : goal.returns-in-Arguments-clause-inside
returns-in-Arguments-clause-inside c =
    done_inside (arguments_top c) (last_argument c) (c.leave_arguments.ensures.leaves c.args.items.now) c.requires.read c.requires.inside

pub returns-in-Arguments-clause-few : goal.returns-in-Arguments-clause-few
returns-in-Arguments-clause-few c =
    done_few (arguments_top c) (last_argument c) (c.leave_arguments.ensures.leaves c.args.items.now) c.requires.read c.requires.inside

pub returns-in-Arguments-clause-progress : goal.returns-in-Arguments-clause-progress
returns-in-Arguments-clause-progress c =
    done_progress (arguments_top c) (last_argument c) (c.leave_arguments.ensures.leaves c.args.items.now) c.requires.read c.requires.inside

binding_top : (c : goal.After-leave_binding) → c.args.reader.now.frames ≡ frame.Bindings c.in-Bindings.form ∷ c.pop.new.self
binding_top c = c.in-Some.ensures.top ∙ ap (λ (f : Frame). f ∷ c.pop.new.self) c.in-Bindings.is

pub returns-in-Bindings-clause-goes : goal.returns-in-Bindings-clause-goes
returns-in-Bindings-clause-goes c = done_goes (binding_top c) refl (c.leave_binding.ensures.leaves c.args.terms.now)

pub returns-in-Bindings-clause-inside : goal.returns-in-Bindings-clause-inside
returns-in-Bindings-clause-inside c = done_inside (binding_top c) refl (c.leave_binding.ensures.leaves c.args.terms.now) c.requires.read c.requires.inside

pub returns-in-Bindings-clause-few : goal.returns-in-Bindings-clause-few
returns-in-Bindings-clause-few c = done_few (binding_top c) refl (c.leave_binding.ensures.leaves c.args.terms.now) c.requires.read c.requires.inside

pub returns-in-Bindings-clause-progress : goal.returns-in-Bindings-clause-progress
returns-in-Bindings-clause-progress c = done_progress (binding_top c) refl (c.leave_binding.ensures.leaves c.args.terms.now) c.requires.read c.requires.inside

body_top : (c : goal.After-leave_body) → c.args.reader.now.frames ≡ frame.Body c.in-Body.form ∷ c.pop.new.self
body_top c = c.in-Some.ensures.top ∙ ap (λ (f : Frame). f ∷ c.pop.new.self) c.in-Body.is

pub returns-in-Body-clause-goes : goal.returns-in-Body-clause-goes
returns-in-Body-clause-goes c = done_goes (body_top c) refl (c.leave_body.ensures.leaves c.args.items.now)

pub returns-in-Body-clause-inside : goal.returns-in-Body-clause-inside
returns-in-Body-clause-inside c = done_inside (body_top c) refl (c.leave_body.ensures.leaves c.args.items.now) c.requires.read c.requires.inside

pub returns-in-Body-clause-few : goal.returns-in-Body-clause-few
returns-in-Body-clause-few c = done_few (body_top c) refl (c.leave_body.ensures.leaves c.args.items.now) c.requires.read c.requires.inside

pub returns-in-Body-clause-progress : goal.returns-in-Body-clause-progress
returns-in-Body-clause-progress c = done_progress (body_top c) refl (c.leave_body.ensures.leaves c.args.items.now) c.requires.read c.requires.inside

names_top : (c : goal.After-leave_annotated) → c.args.reader.now.frames ≡ frame.Names c.in-Names.end ∷ c.pop.new.self
names_top c = c.in-Some.ensures.top ∙ ap (λ (f : Frame). f ∷ c.pop.new.self) c.in-Names.is

pub returns-in-Names-clause-goes : goal.returns-in-Names-clause-goes
returns-in-Names-clause-goes c = done_goes (names_top c) refl c.leave_annotated.ensures.leaves

pub returns-in-Names-clause-inside : goal.returns-in-Names-clause-inside
returns-in-Names-clause-inside c = done_inside (names_top c) refl c.leave_annotated.ensures.leaves c.requires.read c.requires.inside

pub returns-in-Names-clause-few : goal.returns-in-Names-clause-few
returns-in-Names-clause-few c = done_few (names_top c) refl c.leave_annotated.ensures.leaves c.requires.read c.requires.inside

pub returns-in-Names-clause-progress : goal.returns-in-Names-clause-progress
returns-in-Names-clause-progress c = done_progress (names_top c) refl c.leave_annotated.ensures.leaves c.requires.read c.requires.inside
