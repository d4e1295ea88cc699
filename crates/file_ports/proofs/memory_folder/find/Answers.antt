use Rattle.std.proofs.Common.{◌≡◌, ◌∙◌, string_bytes, true, false}
use Rattle.std.specs.Str.{bytes_eq}
use Rattle.file_ports.proofs.Files.{bytes_at-found, bytes_at-past}
use Rattle.file_ports.proofs.memory_folder.find.Goals as goal

pub returns-then-eq-clause-found : goal.returns-then-eq-clause-found
returns-then-eq-clause-found c =
    let same : bytes_eq (string_bytes c.index-files-k.result.0) c.args.path.now ≡ true = cc in
    c.loop-k.invariant ∙ bytes_at-found _ _ _ _ c.loop-k-test.true c.index-files-k.is same

pub loop-k-preserved : goal.loop-k-preserved
loop-k-preserved c =
    let other : bytes_eq (string_bytes c.index-files-k.result.0) c.args.path.now ≡ false = cc in
    c.loop-k.invariant ∙ bytes_at-past _ _ _ _ c.loop-k-test.true c.index-files-k.is other
