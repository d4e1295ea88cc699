use Rattle.std.proofs.Common.{◌≡◌, ◌∙◌, sym, ap, length, arith, slice_get, Some, get_or}
use Rattle.std.proofs.lemmas.Grind.{common_steps}
use Rattle.file_ports.proofs.Rests.{rests_of-set_here, rests_of-set_other, rests_of-here, nothing_left}
use Rattle.file_ports.specs.InMemory.{files_of}
use Rattle.file_ports.specs.Opened.{rest_of, rests_of}
use Rattle.file_ports.proofs.memory_folder.read_number.Goals as goal

pub returns-clause-others : goal.returns-clause-others
returns-clause-others c = λ n other. rests_of-set_other _ _ _ _ n other

pub returns-clause-bytes : goal.returns-clause-bytes
returns-clause-bytes c =
    let value : c.index_mut.result.now ≡ get_or c.args.opened.now.items c.args.number c.index_mut.result.now = grind (arith, common_steps) in
    let was : slice_get (rests_of (files_of c.args.files.now) c.args.opened.now.items) c.args.number ≡ Some (rest_of (files_of c.args.files.now) c.index_mut.result.now) =
    rests_of-here _ _ _ _ c.requires.is_open ∙ ap (λ o. Some (rest_of (files_of c.args.files.now) o)) (sym value) in
    let here = rests_of-set_here (files_of c.args.files.now) c.args.opened.now.items c.args.number c.read_opened.new.opened c.requires.is_open in
    rw (was, here) c.read_opened.ensures.bytes

pub returns-clause-count : goal.returns-clause-count
returns-clause-count c =
    let value : c.index_mut.result.now ≡ get_or c.args.opened.now.items c.args.number c.index_mut.result.now = grind (arith, common_steps) in
    let was : slice_get (rests_of (files_of c.args.files.now) c.args.opened.now.items) c.args.number ≡ Some (rest_of (files_of c.args.files.now) c.index_mut.result.now) =
    rests_of-here _ _ _ _ c.requires.is_open ∙ ap (λ o. Some (rest_of (files_of c.args.files.now) o)) (sym value) in
    rw was c.read_opened.ensures.count

pub returns-clause-end : goal.returns-clause-end
returns-clause-end c = λ none room.
    let here = rests_of-set_here (files_of c.args.files.now) c.args.opened.now.items c.args.number c.read_opened.new.opened c.requires.is_open in
    rw here (nothing_left _ _ _ c.args.most (length c.args.into.now) c.read_opened.ensures.bytes (sym none ∙ c.read_opened.ensures.count) c.requires.some (grind (arith, common_steps)))
