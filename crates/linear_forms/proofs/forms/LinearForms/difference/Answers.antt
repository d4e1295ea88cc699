use Rattle.std.proofs.Math.Seq.{drop-append_seam}
use Rattle.linear_forms.proofs.forms.LinearForms.difference.Goals as goal

pub returns-in_default-clause-difference : goal.returns-in_default-clause-difference
returns-in_default-clause-difference c =
    λ t u refers other. let told = c.in_ok-numbers.ensures.difference t u refers other in rw c.in_default.is at told

pub returns-clause-difference : goal.returns-clause-difference
returns-clause-difference c =
    λ t u refers other.
    let told = c.in_ok-numbers.ensures.difference t u refers other in
    let form = rw c.in-Some.is at told in
    rw (c.in_ok-extend_from_slice.ensures.items, drop-append_seam c.args.into.now.items c.deref.result.now, c.deref.ensures.value) form
