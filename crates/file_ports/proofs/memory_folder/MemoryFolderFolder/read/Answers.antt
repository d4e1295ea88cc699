use Rattle.std.proofs.Common.{◌≡◌, ◌∙◌, sym, ap, subst, min, length}
use Rattle.std.proofs.lemmas.List.{length-map}
use Rattle.std.specs.Prelude.{IfSome}
use Rattle.file_ports.specs.InMemory.{MemoryFolderState, bytes_told, rest_told}
use Rattle.file_ports.proofs.memory_folder.MemoryFolderFolder.read.Goals as goal

pub returns-then-fails-clause-content : goal.returns-then-fails-clause-content
returns-then-fails-clause-content c = ap bytes_told c.self.view_is

pub read_number-requires-clause-is_open : goal.read_number-requires-clause-is_open
read_number-requires-clause-is_open c = simp length-map at (rw (← c.self.view_is) at c.requires)

pub returns-clause-still_open : goal.returns-clause-still_open
returns-clause-still_open c =
    length-map c.read_number.new.opened.items _ ∙ c.read_number.ensures.open ∙ sym (length-map c.self.inside.opened.items _)
    ∙ ap (λ (s : MemoryFolderState). length s.left) c.self.view_is

pub returns-clause-content : goal.returns-clause-content
returns-clause-content c = ap bytes_told c.self.view_is

pub returns-clause-others : goal.returns-clause-others
returns-clause-others c = λ n other.
    (rw c.deref.ensures.value at c.read_number.ensures.others n other) ∙ ap (λ (s : MemoryFolderState). rest_told s n) c.self.view_is

pub returns-clause-gives : goal.returns-clause-gives
returns-clause-gives c =
    let count = rw c.deref.ensures.value at c.read_number.ensures.count in
    subst (λ (s : MemoryFolderState). IfSome (rest_told s c.args.file.0) (λ rest. c.read_number.result ≡ min s.most (min (length c.args.into.now) (length rest)))) c.self.view_is count
