use Rattle.term_names.specs.Scope.{known_in}
use Rattle.term_names.proofs.PutEntries.{base_there}
use Rattle.term_names.proofs.names.Names.find.Goals as goal

pub returns-in-Some-clause-there : goal.returns-in-Some-clause-there
returns-in-Some-clause-there c = c.in-Some.ensures.there c.args.settings.now

pub returns-clause-there : goal.returns-clause-there
returns-clause-there c =
    rw c.base_entry.ensures (base_there (known_in c.args.settings.now c.args.self.now) c.in_ok-entry.entry (rw c.in_ok-settings.was c.in_ok-entry.ensures.there))
