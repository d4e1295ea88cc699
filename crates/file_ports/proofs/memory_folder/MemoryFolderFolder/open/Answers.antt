use Rattle.std.proofs.Common.{◌≡◌, ◌∙◌, sym, ap, Some, arith}
use Rattle.std.proofs.lemmas.Grind.{common_steps}
use Rattle.file_ports.specs.InMemory.{MemoryFolderState, bytes_told, rest_told, files_of}
use Rattle.file_ports.specs.Opened.{bytes_of}
use Rattle.file_ports.proofs.memory_folder.MemoryFolderFolder.open.Goals as goal

pub returns-then-fails-clause-content : goal.returns-then-fails-clause-content
returns-then-fails-clause-content c = ap bytes_told c.self.view_is

pub returns-in_default-clause-content : goal.returns-in_default-clause-content
returns-in_default-clause-content c = ap bytes_told c.self.view_is

pub returns-clause-content : goal.returns-clause-content
returns-clause-content c = ap bytes_told c.self.view_is

pub returns-clause-others : goal.returns-clause-others
returns-clause-others c = λ n other.
    (rw c.deref-2.ensures.value at c.add_opened.ensures.others n other) ∙ ap (λ (s : MemoryFolderState). rest_told s n) c.self.view_is

pub returns-clause-opened : goal.returns-clause-opened
returns-clause-opened c = grind (arith, common_steps)

pub returns-clause-still_open : goal.returns-clause-still_open
returns-clause-still_open c = grind (arith, common_steps)

pub returns-clause-left : goal.returns-clause-left
returns-clause-left c =
    let told : Some (bytes_of (files_of c.self.inside.files.items) c.in-Some.file) ≡ bytes_told c.args.self.now c.args.path.now =
    sym (rw c.deref.ensures.value at c.in-Some.ensures.found) ∙ ap (λ (s : MemoryFolderState). bytes_told s c.args.path.now) c.self.view_is in
    let left = rw c.deref-2.ensures.value at c.add_opened.ensures.left in
    rw told at left
