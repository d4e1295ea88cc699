use Rattle.std.proofs.Common.{inr}
use Rattle.elab_resolution.proofs.DirectLemmas.{pivot_known}
use Rattle.elab_resolution.proofs.guessing.joint_on.Goals as goal

pub signed_term-asserted-requires : goal.signed_term-asserted-requires
signed_term-asserted-requires c =
    rw c.under_not.ensures.same
    (pivot_known c.args.symbols.now c.args.terms.now c.args.literal c.in-Some.inner c.requires (inr c.in-Some.ensures.under))
