use Rattle.std.proofs.Common.{ap}
use Rattle.alethe_reader.specs.Ids.{IdsView}
use Rattle.alethe_reader.specs.Settings.{settings_with}
use Rattle.alethe_reader.proofs.ReadProofs.{is_new}
use Rattle.alethe_reader.proofs.proof_reading.new_session.Goals as goal

pub returns-clause-session : goal.returns-clause-session
returns-clause-session c s v before problem =
    is_new s v (settings_with c.args.flags) _ before c.new.ensures (ap (λ (x : IdsView). x.used) c.new-2.ensures) c.new-3.ensures.items
    (c.new-4.ensures s v) (c.keep_lists_of.ensures s v before _ (c.new-reader.ensures s v before problem))
