-- Sixteen bytes are hashed, and no others.
use Rattle.std.proofs.Common.{◌≡◌, length, nat_eq, false, arith}
use Rattle.std.proofs.lemmas.Bool.Decides.{nat_tests}
use Rattle.name_set.specs.Hashing.{after_write}
use Rattle.name_set.proofs.hashing.NameHasherHasher.write.Goals as goal

pub returns-then-bytes-eq16 : goal.returns-then-bytes-eq16
unfolding after_write
returns-then-bytes-eq16 c = rw (c.key_hash-self.ensures, c.half_at.ensures, c.half_at-then-bytes-eq16.ensures, c.if-bytes-eq16.true)

pub returns-else-bytes-eq16 : goal.returns-else-bytes-eq16
unfolding after_write
returns-else-bytes-eq16 c =
    let others : nat_eq (length c.args.bytes.now) 16 ≡ false = grind (arith, nat_tests, c.if-bytes-eq16.false) in
    rw others
