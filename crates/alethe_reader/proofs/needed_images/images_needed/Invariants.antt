-- The images of the leaves that were gone through.
use Rattle.std.proofs.Common.{map, take}
use Rattle.alethe_reader.specs.NeededImages.{AreImagesOf}
use Rattle.alethe_reader.proofs.needed_images.images_needed.Given as goal

abbrev pub invariant-references : goal.invariant-references
invariant-references l = AreImagesOf l.symbols (map (λ u. u.id) l.bound.names.used) (take l.outer l.bound.images.items) (take l.reference-index l.reference-items) l.needed.items
