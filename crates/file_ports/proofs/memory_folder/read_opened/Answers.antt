use Rattle.std.proofs.Common.{arith, rules, length, ◌<◌, length-drop}
use Rattle.std.proofs.lemmas.List.{length-map}
use Rattle.file_ports.proofs.Files.{bytes_of-file}
use Rattle.file_ports.proofs.memory_folder.read_opened.Goals as goal

pub bounds-files-opened : goal.bounds-files-opened
bounds-files-opened c = simp length-map at c.requires.file

pub offset_bounds-files-opened : goal.offset_bounds-files-opened
offset_bounds-files-opened c =
    let among : c.args.opened.now.file < length c.args.files.now = simp length-map at c.requires.file in
    search rules

pub read_on-requires : goal.read_on-requires
read_on-requires c =
    let same = bytes_of-file _ _ _ _ c.requires.file c.deref.ensures.value in
    rw same c.requires.place

pub returns-clause-count : goal.returns-clause-count
returns-clause-count c =
    let same = bytes_of-file _ _ _ _ c.requires.file c.deref.ensures.value in
    rw length-drop (rw same at c.read_on.ensures.count)

pub returns-clause-bytes : goal.returns-clause-bytes
returns-clause-bytes c =
    let same = bytes_of-file _ _ _ _ c.requires.file c.deref.ensures.value in
    rw same at c.read_on.ensures.bytes

pub returns-clause-within : goal.returns-clause-within
returns-clause-within c =
    let same = bytes_of-file _ _ _ _ c.requires.file c.deref.ensures.value in
    let count = rw same at c.read_on.ensures.count in
    record { file = c.requires.file; place = omega (arith, c.requires.place, c.read_on.ensures.moved) }
