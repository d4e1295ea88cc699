use Rattle.std.proofs.Common.{◌≡◌, ◌≤◌, ◌^◌, subst, arith}
use Rattle.std.specs.Prelude.{IsErrOf}
use Rattle.rule_model.specs.Scopes.{commands_in}
use Rattle.alethe_printer.specs.declared.pieces.PrintFault.TheVariants as fault
use Rattle.elaborated_texts.specs.Making.{IsMadeOf, IsWholeMade}
use Rattle.elaborated_texts.proofs.TextsInstead.{or_weaker}
use Rattle.elaborated_texts.proofs.WrittenElaborations.{prefix_of, whole_of}
use Rattle.elaborated_texts.proofs.elaborating.elaborate_read.Goals as goal

pub write_proof-written-requires-clause-problem : goal.write_proof-written-requires-clause-problem
write_proof-written-requires-clause-problem g c =
    let t = c.args.texts.now in
    let read = c.read_texts_stay.ensures t.problem.now t.options t.proof.now c.args.symbols.now c.args.terms c.make.new.terms c.args.both.now
    c.make.ensures.keeps c.requires.read in
    record { script = read.read.script; is = read.is }

pub write_proof-written-requires-clause-stand : goal.write_proof-written-requires-clause-stand
write_proof-written-requires-clause-stand g c =
    let t = c.args.texts.now in
    let whole : IsMadeOf t.problem.now t.options t.proof.now c.args.symbols.now c.make.new.terms c.args.both.now c.in-Ok-Whole.status c.in-Ok-Whole.new =
    subst (IsWholeMade t.problem.now t.options t.proof.now c.args.symbols.now c.make.new.terms c.args.both.now) c.in-Ok-Whole.field-0-is
    c.in-Ok-Whole.ensures.whole in
    whole.is.meant

pub write_proof-written-requires-clause-sorted : goal.write_proof-written-requires-clause-sorted
write_proof-written-requires-clause-sorted g c =
    let t = c.args.texts.now in
    let s = c.args.symbols.now in
    let v = c.make.new.terms in
    let both = c.args.both.now in
    let read = c.read_texts_stay.ensures t.problem.now t.options t.proof.now s c.args.terms v both c.make.ensures.keeps c.requires.read in
    let whole : IsMadeOf t.problem.now t.options t.proof.now s v both c.in-Ok-Whole.status c.in-Ok-Whole.new =
    subst (IsWholeMade t.problem.now t.options t.proof.now s v both) c.in-Ok-Whole.field-0-is c.in-Ok-Whole.ensures.whole in
    (c.made_elaborations_are_sorted.ensures t.problem.now t.options t.proof.now s v both _ _ read whole).0

pub write_proof-written-requires-clause-sorts : goal.write_proof-written-requires-clause-sorts
write_proof-written-requires-clause-sorts g c =
    let t = c.args.texts.now in
    let s = c.args.symbols.now in
    let v = c.make.new.terms in
    let both = c.args.both.now in
    let read = c.read_texts_stay.ensures t.problem.now t.options t.proof.now s c.args.terms v both c.make.ensures.keeps c.requires.read in
    let whole : IsMadeOf t.problem.now t.options t.proof.now s v both c.in-Ok-Whole.status c.in-Ok-Whole.new =
    subst (IsWholeMade t.problem.now t.options t.proof.now s v both) c.in-Ok-Whole.field-0-is c.in-Ok-Whole.ensures.whole in
    (c.made_elaborations_are_sorted.ensures t.problem.now t.options t.proof.now s v both _ _ read whole).1

pub returns-in-Ok : goal.returns-in-Ok
returns-in-Ok g c = λ bits places.
    let t = c.args.texts.now in
    let s = c.args.symbols.now in
    let v = c.make.new.terms in
    let both = c.args.both.now in
    let new = c.in-Ok-Whole.new in
    let status = c.in-Ok-Whole.status in
    let read = c.read_texts_stay.ensures t.problem.now t.options t.proof.now s c.args.terms v both c.make.ensures.keeps c.requires.read in
    let whole : IsMadeOf t.problem.now t.options t.proof.now s v both status new =
    subst (IsWholeMade t.problem.now t.options t.proof.now s v both) c.in-Ok-Whole.field-0-is c.in-Ok-Whole.ensures.whole in
    let few : commands_in new ≤ 2 ^ 32 = omega (arith, c.count.ensures.count, c.count.ensures.few) in
    whole_of t.problem.now t.options t.proof.now s v both status new read whole
    (λ plan free. c.made_elaborations_have_texts.ensures t.problem.now t.options t.proof.now s v both status new read whole plan few free) _ _
    c.in-Ok.ensures.whole

pub returns-in-Err-Write : goal.returns-in-Err-Write
returns-in-Err-Write g c = λ bits places.
    let t = c.args.texts.now in
    let s = c.args.symbols.now in
    let v = c.make.new.terms in
    let both = c.args.both.now in
    let new = c.in-Ok-Whole.new in
    let status = c.in-Ok-Whole.status in
    let read = c.read_texts_stay.ensures t.problem.now t.options t.proof.now s c.args.terms v both c.make.ensures.keeps c.requires.read in
    let whole : IsMadeOf t.problem.now t.options t.proof.now s v both status new =
    subst (IsWholeMade t.problem.now t.options t.proof.now s v both) c.in-Ok-Whole.field-0-is c.in-Ok-Whole.ensures.whole in
    let few : commands_in new ≤ 2 ^ 32 = omega (arith, c.count.ensures.count, c.count.ensures.few) in
    let fault : c.in-Err-Write.field-0 ≡ fault.Write = rw c.in-Err-Write.is at c.in-Err-Write.field-0-is in
    let write = c.write_proof-written.ensures.write (subst (IsErrOf c.write_proof-written.result) fault c.in-Err-Write.is) in (
      write.0,
      prefix_of t.problem.now t.options t.proof.now s v both status new read whole
          (λ plan free. c.made_elaborations_have_texts.ensures t.problem.now t.options t.proof.now s v both status new read whole plan few free) _ _
          write.1,
    )

-- out of memory
pub returns-in-Ok-Whole : goal.returns-in-Ok-Whole
returns-in-Ok-Whole g c = λ bits places.
    let t = c.args.texts.now in
    let s = c.args.symbols.now in
    let v = c.make.new.terms in
    let both = c.args.both.now in
    let new = c.in-Ok-Whole.new in
    let status = c.in-Ok-Whole.status in
    let read = c.read_texts_stay.ensures t.problem.now t.options t.proof.now s c.args.terms v both c.make.ensures.keeps c.requires.read in
    let whole : IsMadeOf t.problem.now t.options t.proof.now s v both status new =
    subst (IsWholeMade t.problem.now t.options t.proof.now s v both) c.in-Ok-Whole.field-0-is c.in-Ok-Whole.ensures.whole in
    let few : commands_in new ≤ 2 ^ 32 = omega (arith, c.count.ensures.count, c.count.ensures.few) in
    let fault : c.in-Err-Memory.field-0 ≡ fault.Memory = rw c.in-Err-Memory.is at c.in-Err-Memory.field-0-is in
    or_weaker
    (prefix_of t.problem.now t.options t.proof.now s v both status new read whole
    (λ plan free. c.made_elaborations_have_texts.ensures t.problem.now t.options t.proof.now s v both status new read whole plan few free)
    (g.S.Sink.written c.args.out.now) (g.S.Sink.written c.write_proof-written.new.out))
    (c.write_proof-written.ensures.memory (subst (IsErrOf c.write_proof-written.result) fault c.in-Err-Memory.is))
