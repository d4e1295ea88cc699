use Rattle.std.proofs.Common.{◌≡◌, ◌≤◌, ◌^◌, subst, sym, arith}
use Rattle.std.specs.Prelude.{IsErrOf}
use Rattle.proof_store.specs.Meaning.{StandForItems}
use Rattle.rule_model.specs.Scopes.{commands_in}
use Rattle.pruned_proofs.specs.Pruned.{pruned}
use Rattle.alethe_printer.specs.declared.pieces.PrintFault.TheVariants as fault
use Rattle.alethe_printer.specs.Printed.{HaveSorts}
use Rattle.term_sharing.specs.SortedProofs.{AreTermsSorted}
use Rattle.pruned_texts.proofs.Ends.{or_weaker, prefix_of, whole_of}
use Rattle.pruned_texts.proofs.needing.write_pruned.Goals as goal

pub first_empty-from-requires : goal.first_empty-from-requires
first_empty-from-requires g c =
    let t = c.args.texts.now in
    c.refutations_have_ends.ensures t.problem.now t.options t.proof.now c.args.symbols.now c.args.terms.now c.args.both.now c.requires.valid

pub write_proof-written-requires-clause-stand : goal.write_proof-written-requires-clause-stand
write_proof-written-requires-clause-stand g c =
    let t = c.args.texts.now in
    let s = c.args.symbols.now in
    let v = c.args.terms.now in
    let h = c.requires.valid in
    let is = c.in-Ok.ensures in record {
      proof = pruned is.marks h.checked.commands;
      stand = subst (λ refs. StandForItems s v refs (pruned is.marks h.checked.commands)) (sym is.left)
          (c.pruned_proofs_are_sorted.ensures.stand t.problem.now t.options t.proof.now s v c.args.both.now is.marks h);
    }

pub write_proof-written-requires-clause-sorted : goal.write_proof-written-requires-clause-sorted
write_proof-written-requires-clause-sorted g c =
    let t = c.args.texts.now in
    let is = c.in-Ok.ensures in
    subst (AreTermsSorted c.args.symbols.now c.args.terms.now) (sym is.left)
    (c.pruned_proofs_are_sorted.ensures.sorted t.problem.now t.options t.proof.now c.args.symbols.now c.args.terms.now c.args.both.now is.marks c.requires.valid)

pub write_proof-written-requires-clause-sorts : goal.write_proof-written-requires-clause-sorts
write_proof-written-requires-clause-sorts g c =
    let t = c.args.texts.now in
    let is = c.in-Ok.ensures in
    subst (HaveSorts c.args.symbols.now) (sym is.left)
    (c.pruned_proofs_are_sorted.ensures.sorts t.problem.now t.options t.proof.now c.args.symbols.now c.args.terms.now c.args.both.now is.marks c.requires.valid)

pub returns-in-Ok-written : goal.returns-in-Ok-written
returns-in-Ok-written g c = λ bits.
    let t = c.args.texts.now in
    let s = c.args.symbols.now in
    let v = c.args.terms.now in
    let h = c.requires.valid in
    let is = c.in-Ok.ensures in
    let few : commands_in c.in-Ok.new ≤ 2 ^ 32 = omega (arith, c.count.ensures.count, c.count.ensures.few) in
    whole_of t.problem.now t.options t.proof.now s v c.args.both.now is.marks c.in-Ok.new h is.left
    (c.pruned_proofs_are_sorted.ensures.problem t.problem.now t.options t.proof.now s v c.args.both.now h)
    (c.pruned_proofs_are_sorted.ensures.stand t.problem.now t.options t.proof.now s v c.args.both.now is.marks h) few
    (λ plan less free. c.pruned_proofs_have_texts.ensures t.problem.now t.options t.proof.now s v c.args.both.now c.first_empty-from.result is.marks plan
    c.requires.check c.leaves_differ.ensures.table c.one_to_one.ensures h c.first_empty-from.ensures is.reached less free) _ _ c.in-Ok-written.ensures.whole

pub returns-in-Err-Write : goal.returns-in-Err-Write
returns-in-Err-Write g c = λ bits.
    let t = c.args.texts.now in
    let s = c.args.symbols.now in
    let v = c.args.terms.now in
    let h = c.requires.valid in
    let is = c.in-Ok.ensures in
    let few : commands_in c.in-Ok.new ≤ 2 ^ 32 = omega (arith, c.count.ensures.count, c.count.ensures.few) in
    let said : c.in-Err-Write.field-0 ≡ fault.Write = rw c.in-Err-Write.is at c.in-Err-Write.field-0-is in
    let write = c.write_proof-written.ensures.write (subst (IsErrOf c.write_proof-written.result) said c.in-Err-Write.is) in (
      write.0,
      prefix_of t.problem.now t.options t.proof.now s v c.args.both.now is.marks c.in-Ok.new h is.left
          (c.pruned_proofs_are_sorted.ensures.problem t.problem.now t.options t.proof.now s v c.args.both.now h)
          (c.pruned_proofs_are_sorted.ensures.stand t.problem.now t.options t.proof.now s v c.args.both.now is.marks h) few
          (λ plan less free. c.pruned_proofs_have_texts.ensures t.problem.now t.options t.proof.now s v c.args.both.now c.first_empty-from.result is.marks
          plan c.requires.check c.leaves_differ.ensures.table c.one_to_one.ensures h c.first_empty-from.ensures is.reached less free) _ _ write.1,
    )

pub returns-in-Err-Memory : goal.returns-in-Err-Memory
returns-in-Err-Memory g c = λ bits.
    let t = c.args.texts.now in
    let s = c.args.symbols.now in
    let v = c.args.terms.now in
    let h = c.requires.valid in
    let is = c.in-Ok.ensures in
    let few : commands_in c.in-Ok.new ≤ 2 ^ 32 = omega (arith, c.count.ensures.count, c.count.ensures.few) in
    let said : c.in-Err-Memory.field-0 ≡ fault.Memory = rw c.in-Err-Memory.is at c.in-Err-Memory.field-0-is in
    or_weaker
    (prefix_of t.problem.now t.options t.proof.now s v c.args.both.now is.marks c.in-Ok.new h is.left
    (c.pruned_proofs_are_sorted.ensures.problem t.problem.now t.options t.proof.now s v c.args.both.now h)
    (c.pruned_proofs_are_sorted.ensures.stand t.problem.now t.options t.proof.now s v c.args.both.now is.marks h) few
    (λ plan less free. c.pruned_proofs_have_texts.ensures t.problem.now t.options t.proof.now s v c.args.both.now c.first_empty-from.result is.marks plan
    c.requires.check c.leaves_differ.ensures.table c.one_to_one.ensures h c.first_empty-from.ensures is.reached less free)
    (g.S.Sink.written c.args.out.now) (g.S.Sink.written c.write_proof-written.new.out))
    (c.write_proof-written.ensures.memory (subst (IsErrOf c.write_proof-written.result) said c.in-Err-Memory.is))
